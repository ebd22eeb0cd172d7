-- What events leave: the kept fact, and refusals.
use Rattle.std.specs.Prelude.{◌≡◌, ◌≢◌, ℕ, ◌+◌, List, Some, Ok}
use Rattle.xom_base.specs.declared.event.Cause.{Cause}
use Rattle.xom_base.specs.declared.event.Cause.TheVariants as cause
use Rattle.xom_base.specs.declared.event.Event.{Event}
use Rattle.xom_base.specs.declared.event.Event.TheVariants as event
use Rattle.xom_base.specs.declared.event.Op.{Op}
use Rattle.xom_base.specs.declared.event.OwnFault.{OwnFault}
use Rattle.xom_owners.specs.declared.owner.Owner.{Owner}
use Rattle.journal_findings.specs.Findings.{sealed_by}
use Rattle.xom_versions.specs.Versions.{Versions}
use Rattle.xom_model.specs.Versions.{StandsFor}
use Rattle.xom_model.specs.Honest.{IsBounded, IsHonest, seals_of}
use Rattle.xom_model.specs.declared.outcome.Outcome.{Outcome}
use Rattle.xom_model.specs.declared.outcome.Outcome.TheVariants as outcome
use Rattle.xom_model.specs.State.{Record}
use Rattle.xom_model.specs.Event.{open_in, told_in}
use Rattle.xom_model.specs.Null.{null_step}
use Rattle.xom_model.specs.Holds.{Holds}
use Rattle.xom_model.specs.Laws.{AreOwners, FaultsAlone}
use Rattle.xom_model.specs.Others.{StaysAside}
use Rattle.xom_model.specs.Quiet.{IsQuiet, TrapsQuietly}
use Rattle.xom_model.specs.Touched.{slot_of_event}
use Rattle.xom_model.specs.Refused.{IsRefusalStatus}
use Rattle.xom_model.specs.Saves.{IsOnce}
use Rattle.xom_model.specs.Sequence.{RunHolds}

-- For every list of owners: while the journal is honest, all that the machine keeps holds as it
-- held before, and no name of a Seal was used twice.
abbrev pub KeepsHolding : Versions → StandsFor → Record → Record → Type 0
KeepsHolding v Stands r new =
    (owners : List Owner) → AreOwners owners → IsBounded new.core.entries
    → IsHonest (sealed_by r.core.machine owners) new.core.entries
    → Holds Stands owners r.core → RunHolds v Stands owners new

-- An operation that is refused leaves all but its status and the count of events and, where an
-- instruction of null code asked for it, the null pair, which goes on.
abbrev pub LeavesRefused : Record → Event → Record → Type 0
LeavesRefused r (event.Do op) new =
    IsRefusalStatus new.status → new ≡ record r { status = new.status; events = r.events + 1 }
LeavesRefused r event.Null new =
    (op : Op) → (null_step (told_in r) (open_in r)).1 ≡ Ok (Some op) → IsRefusalStatus new.status
    → new ≡ record r {
      status = new.status;
      events = r.events + 1;
      pc =
          (null_step (told_in r) (open_in r)).0.pc;
      npc = (null_step (told_in r) (open_in r)).0.npc;
    }
LeavesRefused r (event.Guest interrupt) new = Unit {0}
LeavesRefused r (event.Write address count) new = Unit {0}
LeavesRefused r (event.Poke address count) new = Unit {0}

-- While the journal is honest, a guest leaves with an own fault only where its program, run alone,
-- gives that fault.
abbrev pub FaultsAreAlone : StandsFor → Record → Record → Outcome → Type 0
FaultsAreAlone Stands r new what =
    (owners : List Owner) → AreOwners owners → IsBounded new.core.entries
    → IsHonest (sealed_by r.core.machine owners) new.core.entries
    → Holds Stands owners r.core → (fault : OwnFault) → what ≡ outcome.Left (cause.Fault fault)
    → FaultsAlone owners r.core new.who fault

-- A trap without retirement changes no cell and no private byte of its guest.
abbrev pub TrapsAreQuiet : Record → Event → Record → Outcome → Type 0
TrapsAreQuiet r e new what =
    (why : Cause) → what ≡ outcome.Left why → IsQuiet why
    → TrapsQuietly r.core new.core (slot_of_event r e) why

-- A slot that the event neither runs nor names, and none of whose lines it writes back, is left
-- alone.
abbrev pub LeavesOthers : Record → Event → Record → Type 0
LeavesOthers r e new =
    (slot : ℕ) → slot ≢ 0 → slot ≢ slot_of_event r e → StaysAside r.core new.core slot

-- No pad twice: while the journal is honest, two Seals of it whose messages are equal before the
-- ciphertext, so in kind, install, line or register, and version or epoch, are equal. These name
-- the key and the counter block.
abbrev pub AddsNoPadTwice : StandsFor → Record → Record → Type 0
AddsNoPadTwice Stands r new =
    (owners : List Owner) → AreOwners owners → IsBounded new.core.entries
    → IsHonest (sealed_by r.core.machine owners) new.core.entries
    → Holds Stands owners r.core → IsOnce (seals_of new.core.entries)
