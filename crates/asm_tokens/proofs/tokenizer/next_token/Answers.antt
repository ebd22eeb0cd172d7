-- From the first byte that is no blank.
use Rattle.std.proofs.Common.{◌≡◌, ◌+◌, true, false, sym, ◌∙◌, drop, None, Some}
use Rattle.std.specs.List.{prefix_len}
use Rattle.std.proofs.lemmas.List.{take_rest}
use Rattle.text_lines.specs.Words.{is_blank}
use Rattle.asm_tokens.specs.Tokens.{nothing_follows, token_of}
use Rattle.asm_tokens.proofs.StepLaws.{tokens_from-bad, tokens_from-over, from_start, from_token, start_no_blank}
use Rattle.asm_tokens.proofs.tokenizer.next_token.Goals as goal

pub returns-then-is_over-clause-value : goal.returns-then-is_over-clause-value
returns-then-is_over-clause-value c =
    let count : c.blanks.result ≡ prefix_len is_blank (drop c.args.at c.args.line.now) =
    rw take_rest at c.blanks.ensures.value in
    let over : nothing_follows (drop (c.args.at + c.blanks.result) c.args.line.now) ≡ true =
    sym (rw take_rest at c.is_over.ensures) ∙ c.if-is_over.true in
    from_start c.args.line.now c.args.at c.blanks.result count
    ∙ tokens_from-over (c.args.at + c.blanks.result) (drop (c.args.at + c.blanks.result)
    c.args.line.now)
    (start_no_blank c.args.line.now c.args.at c.blanks.result count) over

pub returns-in-None-clause-value : goal.returns-in-None-clause-value
returns-in-None-clause-value c =
    let count : c.blanks.result ≡ prefix_len is_blank (drop c.args.at c.args.line.now) =
    rw take_rest at c.blanks.ensures.value in
    let there : nothing_follows (drop (c.args.at + c.blanks.result) c.args.line.now) ≡ false =
    sym (rw take_rest at c.is_over.ensures) ∙ c.if-is_over.false in
    let none : token_of (drop (c.args.at + c.blanks.result) c.args.line.now) ≡ None =
    sym (rw take_rest at c.in-None.ensures.value) in
    from_start c.args.line.now c.args.at c.blanks.result count
    ∙ tokens_from-bad (c.args.at + c.blanks.result) (drop (c.args.at + c.blanks.result)
    c.args.line.now)
    (start_no_blank c.args.line.now c.args.at c.blanks.result count) there none

pub returns-in-Some-clause-value : goal.returns-in-Some-clause-value
returns-in-Some-clause-value c =
    let count : c.blanks.result ≡ prefix_len is_blank (drop c.args.at c.args.line.now) =
    rw take_rest at c.blanks.ensures.value in
    let there : nothing_follows (drop (c.args.at + c.blanks.result) c.args.line.now) ≡ false =
    sym (rw take_rest at c.is_over.ensures) ∙ c.if-is_over.false in
    let some : token_of (drop (c.args.at + c.blanks.result) c.args.line.now) ≡ Some (
      c.in-Some.kind,
      c.in-Some.size,
    ) = sym (rw take_rest at c.in-Some.ensures.value) in
    from_start c.args.line.now c.args.at c.blanks.result count
    ∙ from_token c.args.line.now (c.args.at + c.blanks.result) c.in-Some.kind c.in-Some.size
    (start_no_blank c.args.line.now c.args.at c.blanks.result count) there some
    c.in-Some.ensures.within.0
