-- Events one after another, each with the chunk that has the bytes of a write.
use Rattle.std.specs.Prelude.{◌≡◌, ℕ, ◌<◌, ◌≤◌, ◌^◌, true, List, [], ◌∷◌, Option, Some, length}
use Rattle.xom_base.specs.declared.event.Event.{Event}
use Rattle.xom_base.specs.declared.key.Key256.{Key256}
use Rattle.xom_owners.specs.declared.owner.Owner.{Owner}
use Rattle.journal_findings.specs.Findings.{sealed_by}
use Rattle.xom_model.specs.Honest.{IsBounded, IsHonest, seals_of}
use Rattle.xom_versions.specs.Versions.{VersionLaw, Versions}
use Rattle.xom_model.specs.Versions.{StandsFor}
use Rattle.xom_model.specs.State.{Record, power_on}
use Rattle.xom_model.specs.Saves.{IsOnce}
use Rattle.xom_base.specs.declared.schedule.Schedule.{Schedule}
use Rattle.xom_model.specs.declared.outcome.Turn.{Turn}
use Rattle.xom_model.specs.Event.{fits, on}
use Rattle.xom_model.specs.Seen.{View}
use Rattle.xom_model.specs.Run.{IsSchedule, run_from}
use Rattle.xom_model.specs.Holds.{Holds}
use Rattle.xom_model.specs.Laws.{AreOwners}

-- the record after these events
abbrev pub after_all : Versions → Record → List (Event × List ℕ) → Record
after_all v r [] = r
after_all v r (first ∷ events) = after_all v (on v r first.0 first.1).0 events

-- each of them may come where it does
abbrev pub AllFit : Versions → Record → List (Event × List ℕ) → Type 0
AllFit v r [] = Unit {0}
AllFit v r (first ∷ events) = (fits r first.0 ≡ true) × AllFit v (on v r first.0 first.1).0 events

-- The last record comes from the first by so many events at the most, each of which may come where
-- it does.
pub record IsRunOf (v : Versions) (n : ℕ) (r last : Record) : Type 0 where
  pub events : List (Event × List ℕ)
  pub few : length events ≤ n
  pub fit : AllFit v r events
  pub made : last ≡ after_all v r events

-- what a kernel tells that remembers each view that it had
abbrev pub Teller : Type 0
Teller = List View → View → Option (Turn × (List ℕ × List View))

-- under a kernel that tells its turns, and a schedule that keeps its rules, a run is such events
abbrev pub RunsAreEvents : Type 0
RunsAreEvents = (v : Versions) (told : Teller) (schedule : Schedule) → IsSchedule schedule
    → (n : ℕ) (r last : Record) (views : List View)
    → run_from v told schedule n 0 r views ≡ Some last → IsRunOf v n r last

-- Whatever events come after power-on, each with a chunk: where the journal that they made is
-- honest, all that the machine keeps holds, and no name was used twice.
pub record RunHolds (v : Versions) (Stands : StandsFor) (owners : List Owner) (r : Record) : Type
    0 where
  pub holds : Holds Stands owners r.core
  pub once : IsOnce (seals_of r.core.entries)

-- The law of runs: this is so of every run, where the version store keeps the law of versions.
abbrev pub RunsHold : Versions → StandsFor → Type 0
RunsHold v Stands = VersionLaw v Stands
    → (owners : List Owner) → AreOwners owners
    → (machine : Key256) (boot : ℕ) (ram : List ℕ) (pc : ℕ) → boot < 2 ^ 64
    → (events : List (Event × List ℕ)) → AllFit v (power_on v machine boot ram pc) events
    → IsBounded (after_all v (power_on v machine boot ram pc) events).core.entries
    → IsHonest (sealed_by machine owners) (after_all v (power_on v machine boot ram pc)
    events).core.entries
    → RunHolds v Stands owners (after_all v (power_on v machine boot ram pc) events)
