-- A label is added, or what is left is added as the last.
use Rattle.std.proofs.Common.{◌≡◌, ◌++◌, List, sym, ap, ◌∙◌, option_map}
use Rattle.asm_source.specs.declared.content.Part.{Part}
use Rattle.asm_syntax.specs.Lines.{parts_of_line, statement_parts}
use Rattle.asm_syntax.proofs.LineLaws.{Adds-from, parts_of_label}
use Rattle.asm_syntax.proofs.read.add_line.Goals as goal

pub loop-label-preserved : goal.loop-label-preserved
loop-label-preserved c =
    let step = parts_of_label c.args.number c.loop-label.parts c.in-Some.label.now
    c.in-Some.more.now in
    let before = rw c.in-Some.ensures at c.loop-label.invariant in
    rw (c.in_ok-push.ensures.ok, c.in_ok-label.ensures) (sym step ∙ before)

pub returns : goal.returns
returns c =
    let rest = c.loop-label.rest.now in
    let same : parts_of_line c.args.number rest ≡ statement_parts c.args.number rest =
    (rw c.in_default.is at c.first_label.ensures) c.args.number in
    Adds-from (statement_parts c.args.number rest) (parts_of_line c.args.number c.args.lexemes.now)
    c.args.parts.now c.loop-label.parts c.add_last.result c.add_last.new.parts
    (ap (option_map (λ (more : List Part). c.loop-label.parts ++ more)) (sym same)
    ∙ c.loop-label.invariant) c.add_last.ensures
