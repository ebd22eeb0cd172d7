-- The frame: what an event, or a part of one, leaves of every slot, whichever slots it stops on its
-- way.
use Rattle.std.specs.Prelude.{◌≡◌, ◌≢◌, ℕ, ◌<◌, ◌≤◌, List, ◌++◌, Some, length}
use Rattle.xom_base.specs.Entries.{steps_of}
use Rattle.xom_base.specs.Sizes.{register_places}
use Rattle.xom_base.specs.declared.entry.Entry.{Entry}
use Rattle.xom_base.specs.declared.key.ImageId.{ImageId}
use Rattle.xom_owners.specs.declared.owner.Owner.{Owner}
use Rattle.xom_owners.specs.Owners.{owner_of}
use Rattle.tag_regs.specs.TaggedCells.{cell_at}
use Rattle.xom_seal.specs.declared.names.RegName.{RegName}
use Rattle.xom_seal.specs.Messages.{register_message}
use Rattle.image_sealer.specs.Membership.{is_sealed}
use Rattle.xom_model.specs.Honest.{seals_of}
use Rattle.xom_model.specs.Versions.{StandsFor}
use Rattle.xom_model.specs.State.{CoreState, session_of}
use Rattle.xom_model.specs.Holds.{RamFits, IsInstalled, IsLive, Private, Shape}
use Rattle.xom_model.specs.Saves.{SealsHold}

-- No step was made and no guest installed. A slot that is live afterwards has its session, its
-- cells and, whatever memory it had, that memory.
pub record Kept (Stands : StandsFor) (owners : List Owner) (core new : CoreState) : Type 0 where
  pub shape : Shape core → Shape new
  pub boot : new.boot ≡ core.boot
  pub machine : new.machine ≡ core.machine
  pub last : new.installs ≡ core.installs
  -- the journal grew by no step and no install
  pub more : (added : List Entry) × (new.entries ≡ core.entries ++ added)
  pub steps : (install : ℕ) → steps_of install new.entries ≡ steps_of install core.entries
  pub installed : (install : ℕ) (id : ImageId) → IsInstalled new.entries install id
      → IsInstalled core.entries install id
  -- no register was sealed, and what was so of all Seals still is
  pub registers : (key : List ℕ) (name : RegName) (ct : List ℕ)
      → is_sealed key (register_message name ct) (seals_of new.entries) ≡ is_sealed key
      (register_message name ct) (seals_of core.entries)
  pub seals : SealsHold core.sessions core.installs core.entries
      → SealsHold new.sessions new.installs new.entries
  -- sessions
  pub same : (slot : ℕ) → IsLive new slot → session_of new slot ≡ session_of core slot
  -- cells
  pub cells : (reg : ℕ) → 1 ≤ reg → reg < register_places → (cell_at new.cells reg).tag ≢ 0
      → cell_at new.cells reg ≡ cell_at core.cells reg
  pub tags : (reg : ℕ) → 1 ≤ reg → reg < register_places → IsLive core (cell_at core.cells reg).tag
      → (cell_at new.cells reg).tag ≢ 0 → IsLive new (cell_at core.cells reg).tag
  pub stay : (reg : ℕ) → 1 ≤ reg → reg < register_places → IsLive new (cell_at core.cells reg).tag
      → cell_at new.cells reg ≡ cell_at core.cells reg
  -- a value of the null compartment, lent to guests, stays
  pub lent : (reg : ℕ) → 1 ≤ reg → reg < register_places → (cell_at core.cells reg).tag ≡ 0
      → cell_at new.cells reg ≡ cell_at core.cells reg
  pub cell_places : length new.cells ≡ length core.cells
  pub session_places : length new.sessions ≡ length core.sessions
  -- RAM keeps its size, and pages and stores their frames and areas in it
  pub ram : RamFits core → (length new.ram ≡ length core.ram) × RamFits new
  -- private memory
  pub private : (slot : ℕ) → slot ≢ 0 → IsLive new slot → (owner : Owner) (memory : ℕ → List ℕ)
      → owner_of owners (session_of core slot).id ≡ Some owner
      → Private Stands core slot owner memory → Private Stands new slot owner memory
