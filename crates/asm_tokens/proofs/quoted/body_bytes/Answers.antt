-- Each byte goes behind those so far.
use Rattle.std.proofs.Common.{sym, ap, ◌∙◌}
use Rattle.std.specs.Prelude.{option_and_then}
use Rattle.asm_tokens.proofs.QuotedLaws.{put_front-closed, put_front-open, put_front-step}
use Rattle.asm_tokens.specs.Lexemes.{if_whole}
use Rattle.asm_tokens.proofs.quoted.body_bytes.Goals as goal
use Rattle.asm_tokens.proofs.quoted.body_bytes.Goals.{then-is_quote, else-is_quote}

pub loop-byte-preserved : goal.loop-byte-preserved
loop-byte-preserved c =
    rw c.in_ok-push.ensures.ok (put_front-step c.loop-byte.bytes c.loop-byte.rest.now c.in-Some.byte
    c.in-Some.more.now c.in-Some.ensures.value ∙ c.loop-byte.invariant)

pub returns : goal.returns
returns c = elim c.if-is_quote.branch [
  | then-is_quote w ↦
      w.result-is
      ∙ sym (put_front-closed c.loop-byte.bytes c.loop-byte.rest.now (sym c.is_quote.ensures
      ∙ w.if-is_quote.true))
      ∙ ap (option_and_then if_whole) c.loop-byte.invariant
  | else-is_quote w ↦
      w.result-is
      ∙ sym (put_front-open c.loop-byte.bytes c.loop-byte.rest.now (sym c.in_default.ensures.value)
      (sym c.is_quote.ensures ∙ w.if-is_quote.false))
      ∙ ap (option_and_then if_whole) c.loop-byte.invariant
]
