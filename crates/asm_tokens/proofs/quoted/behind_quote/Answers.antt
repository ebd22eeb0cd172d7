-- Each byte leaves what stands behind the closing quote as it was.
use Rattle.std.proofs.Common.{sym, ◌∙◌, arith}
use Rattle.asm_tokens.proofs.QuotedLaws.{behind-one, behind-none}
use Rattle.asm_tokens.proofs.quoted.behind_quote.Goals as goal

pub loop-more-preserved : goal.loop-more-preserved
loop-more-preserved c = record {
  behind = behind-one c.loop-more.rest.now c.in-Some.field-0-0 c.in-Some.more.now
      c.in-Some.ensures.value ∙ c.loop-more.invariant.behind;
  within = omega (arith, c.in-Some.ensures.shorter);
}

pub returns-clause-value : goal.returns-clause-value
returns-clause-value c =
    c.after_quote.ensures.value
    ∙ sym (behind-none c.loop-more.rest.now (sym c.in_default.ensures.value))
    ∙ c.loop-more.invariant.behind
