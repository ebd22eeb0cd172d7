-- How high epochs and install numbers are: no number is above the count of events.
use Rattle.std.specs.Prelude.{ℕ, ◌≤◌, List}
use Rattle.xom_base.specs.declared.event.Event.{Event}
use Rattle.xom_base.specs.declared.key.Key256.{Key256}
use Rattle.xom_versions.specs.Versions.{Versions}
use Rattle.xom_model.specs.State.{CoreState, Record, power_on, session_of}
use Rattle.xom_model.specs.Event.{on}
use Rattle.xom_model.specs.Epochs.{AreBelow}

-- No epoch is above this number, nor is the last install number, and no slot's install number is
-- above the last.
pub record AreCounted (core : CoreState) (number : ℕ) : Type 0 where
  pub epochs : AreBelow core.sessions number
  pub last : core.installs ≤ number
  pub installs : (slot : ℕ) → (session_of core slot).install ≤ core.installs

-- at power-on this is so of the number of events
abbrev pub CountedAtStart : Type 0
CountedAtStart = (v : Versions) (machine : Key256) (boot : ℕ) (ram : List ℕ) (pc : ℕ)
    → AreCounted (power_on v machine boot ram pc).core (power_on v machine boot ram pc).events

-- and each event keeps it
abbrev pub EventsKeepCounts : Type 0
EventsKeepCounts =
    (v : Versions) (r : Record) (e : Event) (bytes : List ℕ) → AreCounted r.core r.events
    → AreCounted (on v r e bytes).0.core (on v r e bytes).0.events
