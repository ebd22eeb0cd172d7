-- What maps and unmaps pages: Install, Map and Unmap, and what stops, ends or kills a slot; nothing
-- else.
use Rattle.std.specs.Prelude.{◌≡◌, ℕ, Bool, true, false}
use Rattle.xom_base.specs.declared.event.Op.{Op}
use Rattle.xom_base.specs.declared.event.Op.TheVariants.{Install, Enter, Resume, Save, Restore, Map, Unmap, SetReg, Kill, Out, Halt}
use Rattle.xom_versions.specs.Versions.{Versions}
use Rattle.page_map.specs.Pages.{frame_of}
use Rattle.xom_model.specs.State.{CoreState}
use Rattle.xom_model.specs.Guest.{guest}
use Rattle.xom_model.specs.Operation.{operation}
use Rattle.xom_model.specs.Holds.{IsLive}

-- each slot that is live afterwards was so before, with the same pages in the same frames
abbrev pub PagesStay : CoreState → CoreState → Type 0
PagesStay core new =
    (slot : ℕ) → IsLive new slot
    → IsLive core slot × ((page : ℕ) → frame_of new.pages slot page ≡ frame_of core.pages slot
    page)

-- an event of a live slot's guest changes no page map of a slot that is live afterwards
abbrev pub GuestsKeepPages : Type 0
GuestsKeepPages =
    (v : Versions) (core : CoreState) (slot : ℕ) (interrupt : Bool) → IsLive core slot
    → PagesStay core (guest v core slot interrupt).0

-- the operations that give a slot its pages, or take one
abbrev pub moves_pages : Op → Bool
moves_pages (Install slot envelope area) = true
moves_pages (Map slot page frame) = true
moves_pages (Unmap slot page) = true
moves_pages (Enter slot) = false
moves_pages (Resume slot signal) = false
moves_pages (Save slot reg address) = false
moves_pages (Restore slot reg address) = false
moves_pages (SetReg reg value) = false
moves_pages (Kill slot) = false
moves_pages (Out byte) = false
moves_pages Halt = false

-- no other operation does
abbrev pub OperationsKeepPages : Type 0
OperationsKeepPages =
    (v : Versions) (core : CoreState) (op : Op) → moves_pages op ≡ false
    → PagesStay core (operation v core op).0
