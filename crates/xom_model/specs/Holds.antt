-- What the machine keeps at every moment between events, for every list of owners with distinct
-- ids, while its journal is honest: each installed guest's recorded steps are its program's run
-- alone; what the processor holds of a live guest is the state of that run; and what stands behind
-- its lines, in the cache and in RAM, is that state's memory.
use Rattle.std.specs.Prelude.{◌≡◌, ◌≢◌, ℕ, ◌*◌, ◌<◌, ◌≤◌, ◌^◌, Bool, true, false, List, [], ◌∷◌, ◌⊎◌, Some, length, replicate}
use Rattle.std.specs.Int.{bit_at}
use Rattle.xom_base.specs.Entries.{steps_of}
use Rattle.xom_base.specs.Sizes.{compartment_count, id_size, line_size, register_places}
use Rattle.xom_base.specs.declared.entry.Entry.{Entry}
use Rattle.xom_base.specs.declared.entry.Entry.TheVariants as entry
use Rattle.xom_base.specs.declared.key.ImageId.{ImageId}
use Rattle.xom_seal.specs.declared.names.LineName.TheVariants.{Image}
use Rattle.xom_seal.specs.Messages.{envelope_message, line_message}
use Rattle.xom_owners.specs.declared.owner.Owner.{Owner}
use Rattle.xom_owners.specs.Owners.{owner_of}
use Rattle.image_sealer.specs.Sealing.{line_count, line_of_image}
use Rattle.mips_plain.specs.declared.cell.PlainCell.{PlainCell}
use Rattle.mips_plain.specs.declared.cell.PlainCell.TheVariants.{Own, Lent}
use Rattle.mips_plain.specs.Machine.{State, plain_cell_at as plain_cell, start}
use Rattle.mips_plain.specs.Follows.{Reaches}
use Rattle.tag_regs.specs.declared.cell.Cell.{Cell}
use Rattle.tag_regs.specs.TaggedCells.{cell_at}
use Rattle.session_table.specs.declared.session.Session.{Session}
use Rattle.session_table.specs.declared.session.SlotState.{SlotState}
use Rattle.session_table.specs.declared.session.SlotState.TheVariants as state
use Rattle.session_table.specs.Sessions.{is_live}
use Rattle.image_sealer.specs.Membership.{is_sealed}
use Rattle.xom_model.specs.Honest.{Sealing, seals_of}
use Rattle.xom_versions.specs.Store.{HoldsArea, line_limit}
use Rattle.xom_model.specs.Versions.{StandsFor}
use Rattle.line_cache.specs.declared.way.Way.{Way}
use Rattle.line_cache.specs.Ways.{cache_places, way_at}
use Rattle.line_ram.specs.Bytes.{HoldsFrame, bytes_at}
use Rattle.page_map.specs.Pages.{Pages, frame_of}
use Rattle.xom_model.specs.State.{CoreState, lines_of_session, page_of, session_of, store_of}
use Rattle.xom_model.specs.Lines.{Who, is_image_at, line_seals, run_pair, version_of_line, version_seals, who_of}
use Rattle.xom_model.specs.Saves.{SavesAgree, SealsHold}

-- the recorded steps of an install are those of the plain machine over this owner's image, which is
-- then in state p
pub record FollowsAlone (owners : List Owner) (entries : List Entry) (install : ℕ) (id : ImageId)
    (owner : Owner) (p : State) : Type 0 where
  pub whose : owner_of owners id ≡ Some owner
  pub reaches : Reaches (start owner.plain) (steps_of install entries) p

-- an owner and a state of the plain machine are found for an install
abbrev pub IsAlone : List Owner → List Entry → ℕ → ImageId → Type 0
IsAlone owners entries install id =
    (owner : Owner) × (p : State) × FollowsAlone owners entries install id owner p

-- 1 where the cell is the program's own
abbrev pub own_bit : PlainCell → ℕ
own_bit (Own value) = 1
own_bit Lent = 0

-- the guest was started
abbrev pub was_entered : SlotState → Bool
was_entered state.Running = true
was_entered state.Paused = true
was_entered other = false

-- the slot holds a guest that may run on
abbrev pub IsLive : CoreState → ℕ → Type 0
IsLive core slot = is_live (session_of core slot).state ≡ true

-- the slot's guest runs now
abbrev pub IsRunning : CoreState → ℕ → Type 0
IsRunning core slot = (session_of core slot).state ≡ state.Running

-- What the processor holds of a guest, its session and its cells, is a state of its owner's
-- program.
pub record Agrees (s : Session) (registers : List Cell) (entries : List Entry) (slot : ℕ)
    (owner : Owner) (p : State) : Type 0 where
  -- identity
  pub key : s.key ≡ owner.key
  pub entry : s.entry ≡ owner.plain.entry
  pub lines : s.lines ≡ line_count owner.plain.bytes
  -- a guest that wasn't started has done nothing; a started one stands at the program's pair
  pub fresh : s.state ≡ state.Fresh → steps_of s.install entries ≡ []
  pub pc : was_entered s.state ≡ true → s.pc ≡ p.pc
  pub npc : was_entered s.state ≡ true → s.npc ≡ p.npc
  pub over : p.over ≡ false
  pub handler : s.handler ≡ p.handler
  pub saved : s.saved ≡ p.kept
  -- registers: the mask is what the program owns, and a cell with the slot's tag has the program's
  -- value
  pub mask : (reg : ℕ) → 1 ≤ reg → reg < register_places
      → bit_at s.mask reg ≡ own_bit (plain_cell p.cells reg)
  pub cells : (reg : ℕ) → 1 ≤ reg → reg < register_places → (cell_at registers reg).tag ≡ slot
      → plain_cell p.cells reg ≡ Own (cell_at registers reg).value
  pub places : length p.cells ≡ register_places

-- ---- Private memory, line by line

-- a line of a block of bytes
abbrev pub line_of_bytes : List ℕ → ℕ → List ℕ
line_of_bytes bytes line = bytes_at bytes (line_size * line) line_size

-- a line of an owner's image
abbrev pub image_line : Owner → ℕ → List ℕ
image_line owner line = line_of_image owner.plain.bytes line

-- a place of the cache holds the line
abbrev pub IsOf : Way → ℕ → ℕ → Type 0
IsOf way slot line = (way.slot ≡ slot) × (way.line ≡ line)

-- What stands behind a line at its version: zeros, the owner's bytes, or the one Seal of that name.
pub record Behind (owner : Owner) (who : Who) (line version : ℕ) (seals : List Sealing)
    (bytes : List ℕ) : Type 0 where
  pub zeros : version ≡ 0 → bytes ≡ replicate line_size 0
  pub owners : is_image_at who line version ≡ true → bytes ≡ image_line owner line
  pub one : version ≢ 0 → is_image_at who line version ≡ false
      → version_seals who.install line version seals ≡ run_pair who line version bytes ∷ []

-- A line of a live guest: where it is cached it has the program's bytes, where it isn't cached
-- dirty they stand behind it, and no Seal names a later version of it.
pub record LineHolds (owner : Owner) (who : Who) (slot line : ℕ) (ways : List Way)
    (seals : List Sealing) (bytes : List ℕ) : Type 0 where
  pub cached : (place : ℕ) → IsOf (way_at ways place) slot line → (way_at ways place).bytes ≡ bytes
  pub behind : ((place : ℕ) → IsOf (way_at ways place) slot line
      → (way_at ways place).dirty ≡ false)
      → Behind owner who line (version_of_line who seals line) seals bytes
  pub above : (version : ℕ) → version_of_line who seals line < version → version < 2 ^ 64
      → version_seals who.install line version seals ≡ []
  pub size : length bytes ≡ line_size

-- The cache and the journal as a whole: cached lines are of mapped pages, Seals are of no install
-- to come, and what makes the others hold.
pub record Shape (core : CoreState) : Type 0 where
  -- a cached line is one of a live slot and of a mapped page, and has one place
  pub live : (place : ℕ) → (way_at core.ways place).slot ≢ 0
      → IsLive core (way_at core.ways place).slot
  pub inside : (place : ℕ) → (way_at core.ways place).slot ≢ 0
      → (way_at core.ways place).line < lines_of_session (session_of core (way_at core.ways place).slot)
  pub mapped : (place : ℕ) → (way_at core.ways place).slot ≢ 0
      → (frame : ℕ) × (frame_of core.pages (way_at core.ways place).slot
      (page_of (way_at core.ways place).line) ≡ Some frame)
  pub one : (place other : ℕ) → (way_at core.ways place).slot ≢ 0
      → IsOf (way_at core.ways other) (way_at core.ways place).slot (way_at core.ways place).line
      → other ≡ place
  pub clean : (place : ℕ) → (way_at core.ways place).slot ≡ 0
      → (way_at core.ways place).dirty ≡ false
  -- a page is mapped only where its slot is live
  pub owned : (slot page frame : ℕ) → frame_of core.pages slot page ≡ Some frame → IsLive core slot
  -- the machine seals no image line and no envelope, and nothing of an install to come
  pub no_image : (key : List ℕ) (id : ImageId) (line : ℕ) (ct : List ℕ)
      → is_sealed key (line_message (Image id line) ct) (seals_of core.entries) ≡ false
  pub no_envelope : (key envelope : List ℕ)
      → is_sealed key (envelope_message envelope) (seals_of core.entries) ≡ false
  pub to_come : (install line : ℕ) → core.installs < install → install < 2 ^ 64 → line < line_limit
      → line_seals install line (seals_of core.entries) ≡ []
  -- live slots have different install numbers, and the null compartment is none
  pub apart : (slot other : ℕ) → IsLive core slot → IsLive core other
      → (session_of core slot).install ≡ (session_of core other).install → slot ≡ other
  pub null : is_live (session_of core 0).state ≡ false
  -- no install number is above the last
  pub numbers : (slot : ℕ) → (session_of core slot).install ≤ core.installs
  -- numbers are in their ranges
  pub boot : core.boot < 2 ^ 64
  pub count : core.installs ≤ length core.entries
  pub ids : (slot : ℕ) → length (session_of core slot).id.0 ≡ id_size
  -- lists have their lengths
  pub way_places : length core.ways ≡ cache_places
  pub page_places : length core.pages ≡ compartment_count
  pub store_places : length core.stores ≡ compartment_count

-- each frame that holds a page lies in RAM
abbrev pub FramesFit : Pages → List ℕ → Type 0
FramesFit pages ram =
    (slot page frame : ℕ) → frame_of pages slot page ≡ Some frame → HoldsFrame ram frame

-- so does the area that a live slot's store keeps
abbrev pub AreasFit : CoreState → Type 0
AreasFit core = (slot : ℕ) → IsLive core slot → HoldsArea core.ram (store_of core slot)

-- RAM holds all that is to lie in it.
pub record RamFits (core : CoreState) : Type 0 where
  pub frames : FramesFit core.pages core.ram
  pub areas : AreasFit core

-- Private memory is a function from lines to bytes: each line holds, and the version store stands
-- for the versions.
pub record Private (Stands : StandsFor) (core : CoreState) (slot : ℕ) (owner : Owner)
    (memory : ℕ → List ℕ) : Type 0 where
  pub lines : (line : ℕ) → line < lines_of_session (session_of core slot)
      → LineHolds owner (who_of core slot) slot line core.ways (seals_of core.entries) (memory line)
  pub stands : Stands (store_of core slot) core.entries (version_of_line (who_of core slot)
      (seals_of core.entries))

-- a live slot's guest agrees with its program after its recorded steps
abbrev pub IsHeld : StandsFor → List Owner → CoreState → ℕ → Type 0
IsHeld Stands owners core slot =
    (owner : Owner) × (p : State)
    × FollowsAlone owners core.entries (session_of core slot).install (session_of core slot).id
    owner p
    × Agrees (session_of core slot) core.cells core.entries slot owner p
    × Private Stands core slot owner (line_of_bytes p.bytes)
    × SavesAgree (who_of core slot) (session_of core slot) (seals_of core.entries) p

-- the entry installs a guest under this number and id
abbrev pub Installs : Entry → ℕ → ImageId → Type 0
Installs (entry.Install number slot its_id place start lines) install id =
    (number ≡ install) × (its_id ≡ id)
Installs other install id = ⊥

-- an entry of the journal does
abbrev pub IsInstalled : List Entry → ℕ → ImageId → Type 0
IsInstalled [] install id = ⊥
IsInstalled (first ∷ entries) install id =
    Installs first install id ⊎ IsInstalled entries install id

-- slot by slot
pub record SlotsHold (Stands : StandsFor) (owners : List Owner) (core : CoreState) : Type 0 where
  -- every installed guest's steps are its program's run alone
  pub alone : (install : ℕ) (id : ImageId) → IsInstalled core.entries install id
      → IsAlone owners core.entries install id
  -- what a live slot holds is a state of that run
  pub held : (slot : ℕ) → IsLive core slot → IsHeld Stands owners core slot
  -- a tag stands only where its slot is live
  pub tags : (reg : ℕ) → 1 ≤ reg → reg < register_places → (cell_at core.cells reg).tag ≢ 0
      → IsLive core (cell_at core.cells reg).tag
  -- an install number has one id, that of its session
  pub ids : (slot : ℕ) → IsLive core slot → (id : ImageId)
      → IsInstalled core.entries (session_of core slot).install id → id ≡ (session_of core slot).id
  -- no install number is above the last
  pub steps : (install : ℕ) → core.installs < install → steps_of install core.entries ≡ []
  pub installs : (install : ℕ) (id : ImageId) → IsInstalled core.entries install id
      → install ≤ core.installs
  -- the cache and the journal, and the lengths of lists
  pub cell_places : length core.cells ≡ register_places
  pub session_places : length core.sessions ≡ compartment_count
  pub shape : Shape core
  pub fits : RamFits core
  -- what the journal's Seals keep
  pub seals : SealsHold core.sessions core.installs core.entries

-- over all slots: at most one guest runs, and each cell that it owns has its slot's tag
pub record RunningHolds (core : CoreState) : Type 0 where
  pub one : (slot other : ℕ) → IsRunning core slot → IsRunning core other → slot ≡ other
  pub tagged : (slot reg : ℕ) → IsRunning core slot → 1 ≤ reg → reg < register_places
      → bit_at (session_of core slot).mask reg ≡ 1 → (cell_at core.cells reg).tag ≡ slot

-- all that the machine keeps between events
pub record Holds (Stands : StandsFor) (owners : List Owner) (core : CoreState) : Type 0 where
  pub slots : SlotsHold Stands owners core
  pub running : RunningHolds core
