-- The core in code as the record that the model speaks of, and what its type keeps.
use Rattle.std.specs.Prelude.{◌≡◌, ◌≢◌, ℕ, true, false, List, Option, Some, None, Result, Ok, Err, length}
use Rattle.xom_base.specs.declared.event.Rule.{Rule}
use Rattle.xom_base.specs.Sizes.{compartment_count}
use Rattle.line_cache.specs.declared.way.Way.{Way}
use Rattle.line_cache.specs.Ways.{cache_places, way_at}
use Rattle.page_map.specs.Pages.{Pages, frame_of}
use Rattle.session_table.specs.declared.session.Session.{Session}
use Rattle.session_table.specs.Sessions.{IsLiveIn, is_live, session_at}
use Rattle.slot_keys.specs.GuestKeys.{GuestKeys, keys_at}
use Rattle.slot_stores.specs.SlotStores.{store_at}
use Rattle.xom_seal.specs.Keys.{image_keys, register_keys, run_keys}
use Rattle.xom_versions.specs.Store.{HoldsArea, Store}
use Rattle.xom_model.specs.Holds.{FramesFit}
use Rattle.xom_model.specs.State.{CoreState, page_of}

-- the core's record, and the bytes that the journal has to spare
pub record Whole : Type 0 where
  pub core : CoreState
  pub spare : ℕ

-- the rule that an answer tells, if it tells one
abbrev pub rule_in : Result Unit Rule → Option Rule
rule_in (Ok done) = None
rule_in (Err why) = Some why

-- ---- What the type keeps

-- the page has a frame
abbrev pub IsMapped : Pages → ℕ → ℕ → Type 0
IsMapped pages slot page = (frame : ℕ) × (frame_of pages slot page ≡ Some frame)

-- nothing is to be written back from a free way
abbrev pub FreeAreClean : List Way → Type 0
FreeAreClean ways = (place : ℕ) → (way_at ways place).slot ≡ 0 → (way_at ways place).dirty ≡ false

-- the keys that are made ready for a slot are those of its guest's lines, and of its registers
-- under its epoch
pub record Serves (keys : GuestKeys) (boot : ℕ) (s : Session) : Type 0 where
  pub image : keys.image ≡ image_keys s.key s.id
  pub run : keys.run ≡ run_keys s.key boot s.install
  pub registers : keys.registers ≡ register_keys s.key boot s.install s.epoch

-- what the parts of the core keep of one another
pub record PartsFit (sessions : List Session) (pages : Pages) (ways : List Way) (ram : List ℕ)
    (stores : List Store) (keys : List GuestKeys) (boot : ℕ) : Type 0 where
  -- each mapped frame lies in RAM
  pub frames : FramesFit pages ram
  -- a page is mapped only where its slot is live
  pub owned : (slot page frame : ℕ) → frame_of pages slot page ≡ Some frame → IsLiveIn sessions slot
  -- the page of each cached line is mapped
  pub mapped : (place : ℕ) → (way_at ways place).slot ≢ 0
      → IsMapped pages (way_at ways place).slot (page_of (way_at ways place).line)
  pub clean : FreeAreClean ways
  -- the cache has all its places
  pub places : length ways ≡ cache_places
  -- RAM holds the area of each live slot's store
  pub areas : (slot : ℕ) → IsLiveIn sessions slot → HoldsArea ram (store_at stores slot)
  -- the keys of each live slot's guest are ready
  pub ready : (slot : ℕ) → IsLiveIn sessions slot
      → Serves (keys_at keys slot) boot (session_at sessions slot)
