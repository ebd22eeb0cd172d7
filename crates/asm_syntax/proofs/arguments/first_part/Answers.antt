-- The part ends at the first comma.
use Rattle.std.proofs.Common.{sym}
use Rattle.std.proofs.lemmas.List.{take_rest}
use Rattle.asm_syntax.proofs.CommaLaws.{split_at_comma}
use Rattle.asm_syntax.proofs.arguments.first_part.Goals as goal

pub returns-clause-parts : goal.returns-clause-parts
returns-clause-parts c =
    rw take_rest (split_at_comma c.args.lexemes.now c.in_ok-comma.comma
    (sym c.in_ok-comma.ensures))
