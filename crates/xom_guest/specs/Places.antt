-- The place of the cache in which a guest's line stands.
use Rattle.std.specs.Prelude.{◌≡◌, ℕ, ◌+◌, ◌%◌, ◌≤◌, ◌<◌, List, Option, Some, None, length}
use Rattle.xom_base.specs.declared.step.Stored.{Stored}
use Rattle.xom_base.specs.declared.step.Stored.TheVariants as stored
use Rattle.xom_base.specs.Sizes.{line_size}
use Rattle.line_cache.specs.declared.way.Way.{Way}
use Rattle.line_cache.specs.Lines.{IsFilled}
use Rattle.line_cache.specs.Ways.{cache_places, way_at}
use Rattle.xom_model.specs.declared.reach.Reach.{Reach}
use Rattle.xom_model.specs.declared.reach.Reach.TheVariants as reach
use Rattle.xom_model.specs.Holds.{IsRunning}
use Rattle.xom_model.specs.State.{CoreState, session_of}

-- the place is one of the cache, and holds a line of the slot where the cache has all its places
pub record IsPlaceOf (ways : List Way) (slot place : ℕ) : Type 0 where
  pub low : place < cache_places
  pub own : place < length ways → (way_at ways place).slot ≡ slot

-- the same of the line that holds an address, if there is one
abbrev pub IsPlaceFor : List Way → ℕ → ℕ → Option ℕ → Type 0
IsPlaceFor ways slot place None = Unit {0}
IsPlaceFor ways slot place (Some address) = IsPlaceOf ways slot place

-- what is stored lies within the line of the slot at this place
abbrev pub StoresIn : List Way → ℕ → ℕ → Stored → Type 0
StoresIn ways slot place stored.Nothing = Unit {0}
StoresIn ways slot place (stored.Bytes address count value) =
    IsPlaceOf ways slot place × (1 ≤ count) × (count ≤ 4)
    × (address % line_size + count ≤ line_size)

-- the place is filled and takes what is stored
abbrev pub CanStore : List Way → ℕ → Stored → Type 0
CanStore ways place stored.Nothing = Unit {0}
CanStore ways place (stored.Bytes address count value) =
    IsFilled ways place × (1 ≤ count) × (count ≤ 4) × (address % line_size + count ≤ line_size)

-- the slot's guest runs on in another core, under the same epoch
pub record RunsOn (core new : CoreState) (slot : ℕ) : Type 0 where
  pub runs : IsRunning new slot
  pub epoch : (session_of new slot).epoch ≡ (session_of core slot).epoch

-- what the answer of an access says of the core behind it
abbrev pub AccessComes : CoreState → CoreState → ℕ → Reach → Type 0
AccessComes core new slot (reach.Ready place) = RunsOn core new slot × IsPlaceOf new.ways slot place
AccessComes core new slot (reach.PageFault page) = RunsOn core new slot
AccessComes core new slot (reach.Stopped why) = Unit {0}
