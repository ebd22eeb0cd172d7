-- The machine as its callers see it, and what its type keeps.
use Rattle.std.specs.Prelude.{◌≡◌, ℕ, ◌<◌, ◌^◌, false, List, length}
use Rattle.xom_base.specs.Sizes.{compartment_count}
use Rattle.xom_model.specs.Null.{ram_after_write}
use Rattle.xom_model.specs.State.{Record}
use Rattle.xom_model.specs.Counts.{AreCounted}
use Rattle.xom_model.specs.Stops.{StopsHold}

-- its record, and the bytes that its journal has to spare
pub record WholeMachine : Type 0 where
  pub state : Record
  pub spare : ℕ

-- What is true of every machine, whatever its kernel did and whether its journal is honest or not.
pub record InTime (r : Record) : Type 0 where
  -- no epoch and no install number is above the number of events, which is below 2^63
  pub counted : AreCounted r.core r.events
  pub few : r.events < 2 ^ 63
  -- stops are last
  pub stops : StopsHold r.core
  -- there is a version store for each compartment
  pub stores : length r.core.stores ≡ compartment_count
  -- before the first event nothing has ended
  pub going : r.events ≡ 0 → r.halted ≡ false

-- the machine with bytes put into RAM, or as it is where RAM doesn't hold their range
abbrev pub with_loaded : WholeMachine → ℕ → List ℕ → WholeMachine
with_loaded m address bytes =
    record m {
      state = record m.state {
        core =
            record m.state.core { ram = ram_after_write m.state.core.ram address bytes };
      };
    }
