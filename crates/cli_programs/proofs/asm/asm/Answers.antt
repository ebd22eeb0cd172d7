use Rattle.std.proofs.Common.{subst}
use Rattle.std.specs.Prelude.{string_bytes}
use Rattle.cli_programs.specs.Assembly.{IsAssembled}
use Rattle.cli_programs.proofs.Assembled.{assembled_meets}
use Rattle.cli_programs.proofs.asm.asm.Goals as goal

pub returns-clause-meets : goal.returns-clause-meets
returns-clause-meets g c =
    let source = string_bytes c.args.source.now in
    let target = string_bytes c.args.image.now in
    assembled_meets _ source target _ _ _ c.in_ok-text.ensures.gives.0 c.in_ok-text.ensures.gives.1
    c.assembled.result
    (subst (λ text. IsAssembled source text target c.assembled.result) c.as_slice.ensures
    c.assembled.ensures.assembled)
