-- A command that stopped in its second file.
use Rattle.std.proofs.Common.{ℕ, List, Option, Ok, Err}
use Rattle.xom_io.specs.Answers.{FilesTold}
use Rattle.xom_base.specs.declared.image.PlainImage.{PlainImage}
use Rattle.cli_base.specs.declared.refusal.Stop.{Stop}
use Rattle.cli_base.specs.Inputs.{image_of}
use Rattle.cli_base.specs.Readings.{FilesGive}
use Rattle.cli_base.proofs.Without.{image-without, stops-after, stops-through}
use Rattle.cli_programs.specs.Programs.{plain_of, values_of}

-- `plain`, stopped in its received file
pub plain_stops : (told : FilesTold) (image : List ℕ) (steps : ℕ) (received : Option (List ℕ))
    (before between after : ℕ) (x : PlainImage) (why : Stop)
    → FilesGive told (λ held. image_of held image) before between (Ok x)
    → FilesGive told (λ held. values_of held received) between after (Err why)
    → FilesGive told (λ held. plain_of held image steps received) before after (Err why)
unfolding plain_of
plain_stops told image steps received before between after x why gave is =
    stops-after told (λ held. image_of held image) _ before between after x why
    (λ held name. image-without held name image) gave
    (stops-through told (λ held. values_of held received) _ between after why is)
