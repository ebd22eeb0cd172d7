-- The empty cache is one.
use Rattle.std.proofs.Common.{◌≡◌, ℕ, ◌^◌, ◌<◌, ◌≤◌, inl, inr, replicate, sym, ap, subst, arith}
use Rattle.std.proofs.lemmas.Bool.{cases_lt}
use Rattle.std.proofs.lemmas.List.{get_or-replicate, get_or_past, length-replicate}
use Rattle.line_cache.specs.Ways.{empty_cache, first_pointers, free_way, no_ways, way_at}
use Rattle.line_cache.specs.Lines.{IsCache}

all_free : (place : ℕ) → way_at no_ways place ≡ free_way
unfolding no_ways
all_free place = elim (cases_lt place 128) [
  | inl within ↦ get_or-replicate 128 place free_way free_way within
  | inr past ↦ get_or_past (replicate 128 free_way) place free_way (let size =
      length-replicate 128 free_way in omega arith)
]

pub empty_is_cache : IsCache empty_cache
unfolding no_ways first_pointers
empty_is_cache = record {
  places = length-replicate 128 free_way;
  sets = length-replicate {A = ℕ} 32 0;
  in_set = λ place filled. absurd (filled (ap (λ w. w.slot) (all_free place)));
  once = λ place other filled. absurd (filled (ap (λ w. w.slot) (all_free place)));
  known = λ place. subst (λ w. w.slot ≤ 16) (sym (all_free place)) (omega arith);
  inside = λ place. subst (λ w. w.line < 2 ^ 15) (sym (all_free place)) (omega arith);
}
