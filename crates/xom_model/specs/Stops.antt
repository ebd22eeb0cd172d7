-- Stops are last: after an install was stopped nothing of it follows, and a guest that left for
-- good has the entry that says why.
use Rattle.std.specs.Prelude.{ℕ, ◌≡◌, ◌≢◌, ◌≤◌, ◌<◌, ◌^◌, ◌==◌, false, List, [], ◌∷◌, length}
use Rattle.xom_base.specs.declared.entry.Entry.{Entry}
use Rattle.xom_base.specs.declared.entry.Entry.TheVariants as entry
use Rattle.xom_base.specs.declared.event.Event.{Event}
use Rattle.xom_base.specs.declared.event.Rule.{Rule}
use Rattle.xom_base.specs.declared.key.ImageId.{ImageId}
use Rattle.xom_base.specs.declared.key.Key256.{Key256}
use Rattle.xom_base.specs.declared.step.StepEnd.TheVariants as ended
use Rattle.xom_base.specs.Sizes.{compartment_count}
use Rattle.xom_seal.specs.declared.names.LineName.TheVariants.{Image, Run}
use Rattle.xom_seal.specs.declared.names.RegName.{RegName}
use Rattle.xom_seal.specs.Messages.{envelope_message, line_message, register_message}
use Rattle.session_table.specs.declared.session.SlotState.TheVariants as state
use Rattle.session_table.specs.Sessions.{is_live}
use Rattle.xom_versions.specs.Versions.{Versions}
use Rattle.line_cache.specs.Ways.{way_at}
use Rattle.xom_model.specs.State.{CoreState, Record, core_at_start, session_of}
use Rattle.xom_model.specs.Operation.{is_free_state}
use Rattle.xom_model.specs.Event.{on}
use Rattle.xom_model.specs.Holds.{IsLive}
use Rattle.xom_model.specs.Counts.{AreCounted}
use Rattle.xom_model.specs.Named.{HasOne, UsesIt, names_install}

-- the entry stops this install
abbrev pub StopsIt : ℕ → Entry → Type 0
StopsIt install (entry.Stop number why) = number ≡ install
StopsIt install other = ⊥

-- the entry stops it by this rule
abbrev pub StopsItBy : ℕ → Rule → Entry → Type 0
StopsItBy install rule (entry.Stop number why) = (number ≡ install) × (why ≡ rule)
StopsItBy install rule other = ⊥

-- the entry is its step that exits
abbrev pub ExitsIt : ℕ → Entry → Type 0
ExitsIt install (entry.Step number step) = (number ≡ install) × (step.end ≡ ended.Exit)
ExitsIt install other = ⊥

-- after a Stop of an install there is no further step or trap of it, and nothing further is sealed
-- or accepted that is a run line or a register of it
abbrev pub StopsAreLast : List Entry → Type 0
StopsAreLast [] = Unit {0}
StopsAreLast (first ∷ entries) =
    ((install : ℕ) → StopsIt install first → ¬ HasOne (UsesIt install) entries)
    × StopsAreLast entries

-- the slot holds a guest, or one that left for good
abbrev pub IsTaken : CoreState → ℕ → Type 0
IsTaken core slot = is_free_state (session_of core slot).state ≡ false

-- What is kept about stops, whoever the owners are and whether the journal is honest or not.
pub record StopsHold (core : CoreState) : Type 0 where
  -- stops are last, and no live slot's install was stopped
  pub last : StopsAreLast core.entries
  pub unstopped : (slot : ℕ) → IsLive core slot
      → ¬ HasOne (StopsIt (session_of core slot).install) core.entries
  -- a slot that is stopped has its Stop, of its install and by its rule; one that ended has its
  -- exit step
  pub has_stop : (slot : ℕ) (rule : Rule) → (session_of core slot).state ≡ state.Stopped rule
      → HasOne (StopsItBy (session_of core slot).install rule) core.entries
  pub has_exit : (slot : ℕ) → (session_of core slot).state ≡ state.Ended
      → HasOne (ExitsIt (session_of core slot).install) core.entries
  -- slots that are taken have different install numbers, and none is above the last
  pub apart : (slot other : ℕ) → IsTaken core slot → IsTaken core other
      → (session_of core slot).install ≡ (session_of core other).install → slot ≡ other
  pub numbers : (slot : ℕ) → (session_of core slot).install ≤ core.installs
  pub stops : (install : ℕ) → HasOne (StopsIt install) core.entries → install ≤ core.installs
  -- a cached line is one of a live slot
  pub cached : (place : ℕ) → (way_at core.ways place).slot ≢ 0
      → IsLive core (way_at core.ways place).slot
  pub clean : (place : ℕ) → (way_at core.ways place).slot ≡ 0
      → (way_at core.ways place).dirty ≡ false
  -- there is a place for each compartment, and the null compartment holds no guest
  pub places : length core.sessions ≡ compartment_count
  pub null : is_live (session_of core 0).state ≡ false

-- so it is at power-on, whatever stands in RAM
abbrev pub StopsHoldAtStart : Type 0
StopsHoldAtStart =
    (v : Versions) (machine : Key256) (boot : ℕ) (ram : List ℕ)
    → StopsHold (core_at_start v machine boot ram)

-- and each event keeps it, while the count of events stays below 2^63, so that install numbers fit
-- in their field
abbrev pub EventsKeepStops : Type 0
EventsKeepStops = (v : Versions) (r : Record) (e : Event) (bytes : List ℕ)
    → r.events < 2 ^ 63 → AreCounted r.core r.events → StopsHold r.core
    → StopsHold (on v r e bytes).0.core

-- Whether a message is of a run line or a register of an install is read from its fields.
pub record InstallsAreTold : Type 0 where
  pub line : (n boot install line version : ℕ) (ct : List ℕ) → n < 2 ^ 64 → install < 2 ^ 64
      → names_install n (line_message (Run boot install line version) ct) ≡ (install == n)
  pub register : (n : ℕ) (name : RegName) (ct : List ℕ) → n < 2 ^ 64 → name.install < 2 ^ 64
      → names_install n (register_message name ct) ≡ (name.install == n)
  pub image : (n line : ℕ) (id : ImageId) (ct : List ℕ)
      → names_install n (line_message (Image id line) ct) ≡ false
  pub envelope : (n : ℕ) (envelope : List ℕ) → names_install n (envelope_message envelope) ≡ false
