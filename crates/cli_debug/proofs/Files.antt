-- What a run is made of and the commands of a debugger, read one after the other.
use Rattle.std.proofs.Common.{◌≡◌, ℕ, List, Ok, Err}
use Rattle.cli_base.proofs.Without.{stops-after, stops-through}
use Rattle.cli_base.specs.Readings.{FilesGive}
use Rattle.cli_base.specs.declared.answer.Answer.{Answer}
use Rattle.cli_base.specs.declared.refusal.Stop.{Stop}
use Rattle.cli_runs.proofs.Steps.{gives-after, made-ok}
use Rattle.cli_runs.proofs.Unheld.{parts-without}
use Rattle.cli_runs.specs.Parts.{parts_of}
use Rattle.cli_runs.specs.declared.parts.Parts.{Parts}
use Rattle.xom_debug.specs.declared.command.Command.{Command}
use Rattle.xom_io.specs.Answers.{FilesTold}
use Rattle.cli_debug.specs.Debug.{commands_of, debug_answer, debug_of}

module _ (told : FilesTold) (run commands : List ℕ) (before between after : ℕ) (parts : Parts)
    (gave : FilesGive told (λ held. parts_of held run) before between (Ok parts)) where
  -- the parts were read, and the reading of the commands stopped
  pub debug_stops : (why : Stop)
      → FilesGive told (λ held. commands_of held commands) between after (Err why)
      → FilesGive told (λ held. debug_of held run commands) before after (Err why)
  unfolding debug_of
  debug_stops why is =
      stops-after told (λ held. parts_of held run) _ before between after parts why
      (λ held name. parts-without held name run) gave
      (stops-through told (λ held. commands_of held commands) _ between after why is)

  -- both were read
  pub debug_ends : (list : List Command) (answer : Answer)
      → FilesGive told (λ held. commands_of held commands) between after (Ok list)
      → answer ≡ debug_answer parts list
      → FilesGive told (λ held. debug_of held run commands) before after (Ok answer)
  unfolding debug_of
  debug_ends list answer read is =
      gives-after told (λ held. parts_of held run) _ before between after parts (Ok answer)
      (λ held name. parts-without held name run) gave
      (rw is (made-ok told (λ held. commands_of held commands) (debug_answer parts) between after list
      read))
