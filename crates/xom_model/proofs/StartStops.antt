-- What stands in the lists of a machine at power-on.
use Rattle.std.proofs.Common.{◌≡◌, inl, inr, ℕ, length, replicate, refl, arith}
use Rattle.std.proofs.lemmas.List.{get_or-replicate, get_or_past, length-replicate}
use Rattle.session_table.specs.Sessions.{free, none_held, session_at}
use Rattle.line_cache.specs.Ways.{free_way, no_ways, way_at}
use Rattle.xom_model.proofs.Gone.{less}

-- each place of the table is free
pub free_at : (slot : ℕ) → session_at none_held slot ≡ free
unfolding none_held
free_at slot = elim (less slot 17) [
  | inl within ↦ get_or-replicate 17 slot free free within
  | inr past ↦ get_or_past (replicate 17 free) slot free past
]

pub length-none_held : length none_held ≡ 17
unfolding none_held
length-none_held = refl

-- no line is cached
pub way_free : (place : ℕ) → way_at no_ways place ≡ free_way
unfolding no_ways
way_free place = elim (less place 128) [
  | inl within ↦ get_or-replicate 128 place free_way free_way within
  | inr past ↦ get_or_past (replicate 128 free_way) place free_way
      (omega (arith, length-replicate 128 free_way))
]
