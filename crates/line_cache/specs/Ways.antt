-- The cache of private lines: 128 places in 32 sets of 4 ways, where way w of set s is place
-- 4 s + w, and for each set a pointer to the way that is taken next once the set is full.
use Rattle.std.specs.Prelude.{ℕ, ◌+◌, ◌*◌, ◌%◌, ◌==◌, ◌&&◌, Bool, true, false, List, Option, Some, None, map, position, replicate, slice_index_or, slice_range, slice_set, if◌then◌else◌}
use Rattle.xom_base.specs.Sizes.{line_size}
use Rattle.line_cache.specs.declared.way.Way.{Way}
use Rattle.line_cache.specs.declared.way.Victim.{Victim}

-- how many sets the cache has
abbrev pub cache_sets : ℕ
cache_sets = 32

-- how many places the cache has, four in each set
abbrev pub cache_places : ℕ
cache_places = 128

-- a way of slot 0 holds no line
abbrev pub free_way : Way
free_way = record { slot = 0; line = 0; bytes = replicate line_size 0; dirty = false }

-- the ways in the order of their places, and the pointers in the order of the sets
pub record Cache : Type 0 where
  pub ways : List Way
  pub pointers : List ℕ

-- all ways free
unfoldable pub no_ways : List Way
no_ways = replicate cache_places free_way

-- every set's pointer names its first way
unfoldable pub first_pointers : List ℕ
first_pointers = replicate cache_sets 0

-- the cache in which nothing is held
abbrev pub empty_cache : Cache
empty_cache = record { ways = no_ways; pointers = first_pointers }

-- the way at a place
abbrev pub way_at : List Way → ℕ → Way
way_at ways place = slice_index_or ways place free_way

-- the way holds this line
abbrev pub is_of : ℕ → ℕ → Way → Bool
is_of slot line way = (way.slot == slot) && (way.line == line)

-- where a line is cached, by a search over all places
abbrev pub place_of_line : List Way → ℕ → ℕ → Option ℕ
place_of_line ways slot line = position (is_of slot line) ways

-- ---- Sets

-- the set of a line is its number modulo 32
abbrev pub first_place : ℕ → ℕ
first_place line = 4 * (line % cache_sets)

-- the four ways in which a line may stand
abbrev pub set_of : List Way → ℕ → List Way
set_of ways line = slice_range ways (first_place line) (first_place line + 4)

-- the way holds no line: its slot is 0
abbrev pub is_free : Way → Bool
is_free way = way.slot == 0

-- the lowest free way of a line's set, none where the set is full
unfoldable pub free_in_set : List Way → ℕ → Option ℕ
free_in_set ways line = position is_free (set_of ways line)

-- the way that the pointer of a line's set names
abbrev pub way_of_pointer : List ℕ → ℕ → ℕ
way_of_pointer pointers line = slice_index_or pointers (line % cache_sets) 0 % 4

-- ---- A new line

-- the free way where there is one, else the one that the pointer names
abbrev pub free_or_pointed : Option ℕ → ℕ → ℕ
free_or_pointed (Some free) pointer = free
free_or_pointed None pointer = pointer

-- the place of a new line: the lowest free way of its set, or the one that the pointer names
abbrev pub place_for : List Way → List ℕ → ℕ → ℕ
place_for ways pointers line =
    first_place line + free_or_pointed (free_in_set ways line) (way_of_pointer pointers line)

-- the pointers after a new line: as they were where its set had a free way, else that of the set
-- moves on
abbrev pub moved_on : Option ℕ → List ℕ → ℕ → List ℕ
moved_on (Some free) pointers line = pointers
moved_on None pointers line =
    slice_set pointers (line % cache_sets) ((way_of_pointer pointers line + 1) % 4)

-- the pointer of a full set moves to the next way, and from the last to the first
abbrev pub pointers_after : List Way → List ℕ → ℕ → List ℕ
pointers_after ways pointers line = moved_on (free_in_set ways line) pointers line

-- a line that was just brought in
abbrev pub new_way : ℕ → ℕ → List ℕ → Way
new_way slot line bytes = record { slot = slot; line = line; bytes = bytes; dirty = false }

-- the cache with a new line
abbrev pub cache_with_line : Cache → ℕ → ℕ → List ℕ → Cache
cache_with_line cache slot line bytes = record {
  ways = slice_set cache.ways (place_for cache.ways cache.pointers line) (new_way slot line bytes);
  pointers = pointers_after cache.ways cache.pointers line;
}

-- what a way held, as it is handed out
abbrev pub victim_of : Way → Victim
victim_of way =
    record { slot = way.slot; line = way.line; bytes = way.bytes; dirty = way.dirty }

-- what is handed out of the way that a new line takes: nothing where the way was free
abbrev pub pushed_out : Option ℕ → Way → Option Victim
pushed_out (Some free) way = None
pushed_out None way = Some (victim_of way)

-- what a new line pushes out: nothing, unless its set is full
abbrev pub victim_for : Cache → ℕ → Option Victim
victim_for cache line = pushed_out (free_in_set cache.ways line)
    (way_at cache.ways (place_for cache.ways cache.pointers line))

-- ---- Lines that are written or leave

-- a way with other bytes, which are still to be written back
abbrev pub way_with_bytes : Way → List ℕ → Way
way_with_bytes way bytes = record way { bytes = bytes; dirty = true }

-- the cache with another way at a place
abbrev pub cache_with_way : Cache → ℕ → Way → Cache
cache_with_way cache place way = record cache { ways = slice_set cache.ways place way }

-- the cache with other bytes in the line at a place, which is dirty then
abbrev pub cache_with_bytes : Cache → ℕ → List ℕ → Cache
cache_with_bytes cache place bytes =
    cache_with_way cache place (way_with_bytes (way_at cache.ways place) bytes)

-- a free way in place of one that holds a line of the slot
abbrev pub free_if : ℕ → Way → Way
free_if slot way = if way.slot == slot then free_way else way

-- the ways without the lines of a slot
abbrev pub without_slot : ℕ → List Way → List Way
without_slot slot ways = map (free_if slot) ways
