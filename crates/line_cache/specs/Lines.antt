-- The cache as a map from lines of slots to what is cached of them.
use Rattle.std.specs.Prelude.{ℕ, ◌+◌, ◌/◌, ◌%◌, ◌^◌, ◌≡◌, ◌≢◌, ◌≤◌, ◌<◌, ◌==◌, ◌&&◌, Bool, true, false, List, Option, Some, None, length, IfSome}
use Rattle.xom_base.specs.Sizes.{page_lines, slot_limit}
use Rattle.line_cache.specs.declared.way.Way.{Way}
use Rattle.line_cache.specs.declared.way.Victim.{Victim}
use Rattle.line_cache.specs.Ways.{Cache, cache_places, cache_sets, cache_with_way, first_place, free_way, new_way, place_of_line, victim_of, way_at, way_with_bytes}

-- the way holds this line of this slot
pub record WayHolds (way : Way) (slot line : ℕ) : Type 0 where
  pub its_slot : way.slot ≡ slot
  pub its_line : way.line ≡ line

-- the way at this place holds a line
abbrev pub IsFilled : List Way → ℕ → Type 0
IsFilled ways place = (way_at ways place).slot ≢ 0

-- a filled way stands in its line's set, and no line stands in two places
pub record IsCache (cache : Cache) : Type 0 where
  pub places : length cache.ways ≡ cache_places
  pub sets : length cache.pointers ≡ cache_sets
  pub in_set : (place : ℕ) → IsFilled cache.ways place
      → place / 4 ≡ (way_at cache.ways place).line % cache_sets
  pub once : (place other : ℕ) → IsFilled cache.ways place
      → WayHolds (way_at cache.ways other) (way_at cache.ways place).slot
      (way_at cache.ways place).line
      → other ≡ place
  pub known : (place : ℕ) → (way_at cache.ways place).slot ≤ slot_limit
  pub inside : (place : ℕ) → (way_at cache.ways place).line < 2 ^ 15

-- no way of a line's set is free
abbrev pub IsFull : List Way → ℕ → Type 0
IsFull ways line = (way : ℕ) → way < 4 → IsFilled ways (first_place line + way)

-- the way at the place that a search found, if it found one
abbrev pub way_found : List Way → Option ℕ → Option Way
way_found ways (Some place) = Some (way_at ways place)
way_found ways None = None

-- what is cached of a line: the way that holds it
abbrev pub cached_line : List Way → ℕ → ℕ → Option Way
cached_line ways slot line = way_found ways (place_of_line ways slot line)

-- a line of a slot, as it may be cached
pub record IsLine (victim : Victim) : Type 0 where
  pub some : 1 ≤ victim.slot
  pub known : victim.slot ≤ slot_limit
  pub inside : victim.line < 2 ^ 15

-- the way was handed out with all that it held
pub record HandsOut (old new : List Way) (victim : Victim) : Type 0 where
  pub way : Way
  pub before : cached_line old victim.slot victim.line ≡ Some way
  pub whole : victim ≡ victim_of way
  pub gone : cached_line new victim.slot victim.line ≡ None

-- the victim is this line
abbrev pub IsVictim : Option Victim → ℕ → ℕ → Type 0
IsVictim (Some victim) slot line = (victim.slot ≡ slot) × (victim.line ≡ line)
IsVictim None slot line = ⊥

-- the line is cached with its bytes, clean; a victim is handed out; every other line is as before
pub record BringsIn (old new : List Way) (slot line : ℕ) (bytes : List ℕ)
    (victim : Option Victim) : Type 0 where
  pub this_line : cached_line new slot line ≡ Some (new_way slot line bytes)
  pub victim_line : IfSome victim (HandsOut old new)
  pub other_lines : (who other : ℕ) → who ≢ 0 → (who ≡ slot → other ≢ line)
      → ¬ IsVictim victim who other → cached_line new who other ≡ cached_line old who other

-- the way holds a line of a page of 128 lines
abbrev pub is_in_page : ℕ → ℕ → Way → Bool
is_in_page slot page way = (way.slot == slot) && (way.line / page_lines == page)

-- of the first places, this one holds the least line of the page
pub record HoldsLeast (ways : List Way) (slot page count place : ℕ) : Type 0 where
  pub below : place < count
  pub its_page : is_in_page slot page (way_at ways place) ≡ true
  pub least : (other : ℕ) → other < count → is_in_page slot page (way_at ways other) ≡ true
      → (way_at ways place).line ≤ (way_at ways other).line

-- the place with the least line of the page among the first ones, or none where none has one
abbrev pub IsLeastAmong : List Way → ℕ → ℕ → ℕ → Option ℕ → Type 0
IsLeastAmong ways slot page count (Some place) = HoldsLeast ways slot page count place
IsLeastAmong ways slot page count None =
    (place : ℕ) → place < count → is_in_page slot page (way_at ways place) ≡ false

-- no line of the page is cached
abbrev pub HasNoLine : List Way → ℕ → ℕ → Type 0
HasNoLine ways slot page =
    (line : ℕ) → line / page_lines ≡ page → place_of_line ways slot line ≡ None

-- the least line of the page is handed out, and every other line is as before
pub record TakesLeast (old new : Cache) (slot page : ℕ) (victim : Victim) : Type 0 where
  pub range : IsLine victim
  pub slot_is : victim.slot ≡ slot
  pub page_is : victim.line / page_lines ≡ page
  pub least : (line : ℕ) → line < victim.line → line / page_lines ≡ page
      → place_of_line old.ways slot line ≡ None
  pub place : ℕ
  pub place_is : place_of_line old.ways slot victim.line ≡ Some place
  pub whole : victim ≡ victim_of (way_at old.ways place)
  pub cache : new ≡ cache_with_way old place free_way
  pub gone : cached_line new.ways slot victim.line ≡ None
  pub other_lines : (who line : ℕ) → who ≢ 0 → (who ≡ slot → line ≢ victim.line)
      → cached_line new.ways who line ≡ cached_line old.ways who line

-- no line of the slot is cached, and every line of another is as before
pub record DropsSlot (old new : List Way) (slot : ℕ) : Type 0 where
  pub none : (line : ℕ) → place_of_line new slot line ≡ None
  pub other_slots : (other line : ℕ) → other ≢ 0 → other ≢ slot
      → cached_line new other line ≡ cached_line old other line

-- the line in a place has these bytes, still to be written back, and every other line is as before
pub record WritesLine (old new : List Way) (place : ℕ) (bytes : List ℕ) : Type 0 where
  pub this_line : cached_line new (way_at old place).slot (way_at old place).line
      ≡ Some (way_with_bytes (way_at old place) bytes)
  pub other_lines : (who other : ℕ) → who ≢ 0 → ¬ WayHolds (way_at old place) who other
      → cached_line new who other ≡ cached_line old who other
