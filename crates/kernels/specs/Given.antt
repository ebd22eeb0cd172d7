-- How a turn is given: its bytes are the first of the chunk.
use Rattle.std.specs.Prelude.{◌≡◌, ℕ, List}
use Rattle.xom_model.specs.declared.outcome.Turn.{Turn}
use Rattle.xom_model.specs.Run.{event_of}
use Rattle.xom_machine.specs.Runs.{bytes_of_event}
use Rattle.kernels.specs.Turns.{ToldTurn}

-- the turn is the one that is told, and the chunk begins with its bytes
pub record IsGiven (told : ToldTurn) (given : Turn) (chunk : List ℕ) : Type 0 where
  pub turn : given ≡ told.0
  pub bytes : bytes_of_event (event_of told.0) chunk ≡ bytes_of_event (event_of told.0) told.1
