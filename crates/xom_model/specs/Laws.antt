-- What may be said of the machine's events in its own words, with any store of versions that keeps
-- the law.
use Rattle.std.specs.Prelude.{◌≡◌, ◌⊎◌, ◌↔◌, ℕ, ◌<◌, ◌≤◌, ◌^◌, Bool, true, List, Some, None, slice_get}
use Rattle.xom_base.specs.declared.entry.Entry.{Entry}
use Rattle.xom_base.specs.declared.event.Cause.TheVariants as cause
use Rattle.xom_base.specs.declared.event.Event.{Event}
use Rattle.xom_base.specs.declared.event.Op.{Op}
use Rattle.xom_base.specs.declared.event.OwnFault.{OwnFault}
use Rattle.xom_base.specs.declared.key.Key256.{Key256}
use Rattle.xom_base.specs.Sizes.{slot_limit}
use Rattle.xom_owners.specs.declared.owner.Owner.{Owner}
use Rattle.xom_owners.specs.Owners.{AreDistinct}
use Rattle.image_sealer.specs.Laws.{IsOwner}
use Rattle.mips_plain.specs.Machine.{State, plain}
use Rattle.mips_plain.specs.declared.given.Given.TheVariants as given
use Rattle.mips_plain.specs.declared.given.PlainStep.TheVariants as plain_step
use Rattle.journal_findings.specs.Findings.{first_collision, first_forgery, sealed_by}
use Rattle.xom_model.specs.Honest.{IsBounded, IsHonest, NoForgery, Sealing}
use Rattle.xom_versions.specs.Store.{NoCollision}
use Rattle.xom_versions.specs.Chip.{ChipStands, chip}
use Rattle.xom_versions.specs.Versions.{VersionLaw, Versions}
use Rattle.xom_model.specs.Versions.{StandsFor}
use Rattle.xom_model.specs.State.{CoreState, Record, core_at_start, session_of}
use Rattle.xom_model.specs.Guest.{guest}
use Rattle.xom_model.specs.Operation.{operation}
use Rattle.xom_model.specs.Event.{fits, on}
use Rattle.xom_model.specs.Holds.{FollowsAlone, Holds, IsRunning}

-- A journal is honest exactly where the judge's two searches find nothing.
pub record HonestyIsJudged : Type 0 where
  pub forgery : (sealed : List Sealing) (entries : List Entry)
      → (first_forgery sealed entries ≡ None) ↔ NoForgery sealed entries
  pub collision : (entries : List Entry) → (first_collision entries ≡ None) ↔ NoCollision entries

-- the law of versions on chip
abbrev pub ChipKeepsTheLaw : Type 0
ChipKeepsTheLaw = VersionLaw chip ChipStands

-- ids are distinct, and ids and keys have their lengths, as each value of the types has
pub record AreOwners (owners : List Owner) : Type 0 where
  pub distinct : AreDistinct owners
  pub whole : (i : ℕ) (owner : Owner) → slice_get owners i ≡ Some owner → IsOwner owner

-- what holds does so at power-on, whatever stands in RAM
abbrev pub HoldsAtStart : Versions → StandsFor → Type 0
HoldsAtStart v Stands = (owners : List Owner) (machine : Key256) (boot : ℕ) (ram : List ℕ)
    → boot < 2 ^ 64 → Holds Stands owners (core_at_start v machine boot ram)

-- and each event that may come keeps it, as long as the journal is honest
abbrev pub EventsKeep : Versions → StandsFor → Type 0
EventsKeep v Stands = VersionLaw v Stands
    → (owners : List Owner) → AreOwners owners → (r : Record) (e : Event) (bytes : List ℕ)
    → fits r e ≡ true → IsBounded (on v r e bytes).0.core.entries
    → IsHonest (sealed_by r.core.machine owners) (on v r e bytes).0.core.entries
    → Holds Stands owners r.core → Holds Stands owners (on v r e bytes).0.core

-- the program of the guest in a slot, after its recorded steps, gives this fault, and stays as it
-- is
abbrev pub FaultsAlone : List Owner → CoreState → ℕ → OwnFault → Type 0
FaultsAlone owners core slot fault =
    (owner : Owner) × (p : State)
    × FollowsAlone owners core.entries (session_of core slot).install (session_of core slot).id
    owner p
    × (plain p given.Nothing ≡ (plain_step.Fault fault, p))

-- a guest leaves with an own fault only where its program gives that fault
abbrev pub FaultsAreOwn : Versions → StandsFor → Type 0
FaultsAreOwn v Stands = VersionLaw v Stands
    → (owners : List Owner) → AreOwners owners
    → (core : CoreState) (slot : ℕ) (interrupt : Bool) (fault : OwnFault)
    → 1 ≤ slot → slot ≤ slot_limit → IsRunning core slot
    → IsBounded (guest v core slot interrupt).0.entries
    → IsHonest (sealed_by core.machine owners) (guest v core slot interrupt).0.entries
    → Holds Stands owners core
    → (guest v core slot interrupt).1 ≡ Some (cause.Fault fault)
    → FaultsAlone owners core slot fault

-- an operation is done with 0 or stops its guest with 8; with any other status it is refused and
-- changes nothing
abbrev pub RefusalsChangeNothing : Type 0
RefusalsChangeNothing = (v : Versions) (core : CoreState) (op : Op)
    → ((operation v core op).1 ≡ 0) ⊎ ((operation v core op).1 ≡ 8)
    ⊎ ((operation v core op).0 ≡ core)
