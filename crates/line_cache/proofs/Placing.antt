-- What a new line does to the cache.
use Rattle.std.proofs.Common.{◌≡◌, ◌≢◌, refl, ℕ, ◌+◌, ◌%◌, ◌^◌, ◌<◌, ◌≤◌, List, Option, Some, None, length, slice_set, sym, ◌∙◌, ap, subst, arith, IfSome, IsSome, ◌↔◌}
use Rattle.std.proofs.lemmas.List.{length-set}
use Rattle.line_cache.specs.declared.way.Victim.{Victim}
use Rattle.line_cache.specs.declared.way.Way.{Way}
use Rattle.line_cache.specs.Ways.{Cache, cache_with_line, first_place, free_in_set, free_or_pointed, moved_on, new_way, place_for, place_of_line, pointers_after, pushed_out, victim_for, victim_of, way_at, way_of_pointer}
use Rattle.line_cache.specs.Lines.{BringsIn, HandsOut, IsCache, IsFilled, IsFull, IsLine, IsVictim, WayHolds, way_found}
use Rattle.line_cache.proofs.Search.{found-None, found_at, free-None, free-Some, none_free}
use Rattle.line_cache.proofs.Changes.{Fits, IsCache-set, found-set, line_in-gone, line_in-other, line_in-set}

-- the cache with a new line, where its set has a free way and where it is full
pub line_in_free : (cache : Cache) (slot line : ℕ) (bytes : List ℕ) (free : ℕ)
    → free_in_set cache.ways line ≡ Some free
    → cache_with_line cache slot line bytes
    ≡ record {
      ways = slice_set cache.ways (first_place line + free) (new_way slot line bytes);
      pointers = cache.pointers;
    }
line_in_free cache slot line bytes free is = rw is refl

pub line_in_full : (cache : Cache) (slot line : ℕ) (bytes : List ℕ)
    → free_in_set cache.ways line ≡ None
    → cache_with_line cache slot line bytes
    ≡ record {
      ways = slice_set cache.ways (first_place line + way_of_pointer cache.pointers line)
          (new_way slot line bytes);
      pointers = slice_set cache.pointers (line % 32) ((way_of_pointer cache.pointers line + 1) % 4);
    }
line_in_full cache slot line bytes is = rw is refl

pub victim_of_free : (cache : Cache) (line free : ℕ) → free_in_set cache.ways line ≡ Some free
    → victim_for cache line ≡ None
victim_of_free cache line free is = rw is refl

pub victim_of_full : (cache : Cache) (line : ℕ) → free_in_set cache.ways line ≡ None
    → victim_for cache line
    ≡ Some (victim_of (way_at cache.ways (first_place line + way_of_pointer cache.pointers line)))
victim_of_full cache line is = rw is refl

module _ (cache : Cache) (sound : IsCache cache) (slot line : ℕ) (bytes : List ℕ) (some : slot ≢ 0)
    (known : slot ≤ 16) (inside : line < 2 ^ 15) (absent : place_of_line cache.ways slot line ≡ None) where
  abbrev way : Way
  way = new_way slot line bytes

  -- the new line fits into each way of its set
  fits : (at : ℕ) → at < 4 → Fits cache (first_place line + at) way
  fits at low = record {
    in_set = λ _. omega arith;
    alone = λ _ other _ holds. found-None cache.ways slot line some absent other holds;
    known = known;
    inside = inside;
  }

  chosen_low : (free : Option ℕ) → free_in_set cache.ways line ≡ free
      → free_or_pointed free (way_of_pointer cache.pointers line) < 4
  chosen_low (Some free) is = (free-Some cache sound line free is).0
  chosen_low None is = omega arith

  abbrev place : ℕ
  place = place_for cache.ways cache.pointers line

  low : free_or_pointed (free_in_set cache.ways line) (way_of_pointer cache.pointers line) < 4
  low = chosen_low (free_in_set cache.ways line) refl

  within : place < 128
  within = let small = low in omega arith

  still : (free : Option ℕ) → length (moved_on free cache.pointers line) ≡ 32
  still (Some free) = sound.sets
  still None = length-set cache.pointers (line % 32) _ ∙ sound.sets

  sets : length (pointers_after cache.ways cache.pointers line) ≡ 32
  sets = still (free_in_set cache.ways line)

  pub with_line_is_cache : IsCache (cache_with_line cache slot line bytes)
  with_line_is_cache =
      IsCache-set cache sound place within way (pointers_after cache.ways cache.pointers line)
      (fits _ low) sets

  pub with_line_is_found : place_of_line (cache_with_line cache slot line bytes).ways slot line ≡ Some place
  with_line_is_found =
      found-set cache sound place within way (pointers_after cache.ways cache.pointers line)
      (fits _ low) sets some

  not_there : (at : ℕ) → ¬ WayHolds (way_at cache.ways at) slot line
  not_there at = found-None cache.ways slot line some absent at

  handed_out : (free : Option ℕ) → free_in_set cache.ways line ≡ free → (at : ℕ)
      → at ≡ first_place line + free_or_pointed free (way_of_pointer cache.pointers line) → at ≡ place
      → IfSome (pushed_out free (way_at cache.ways at))
      (HandsOut cache.ways (cache_with_line cache slot line bytes).ways)
  handed_out (Some free) is at place_is same = tt
  handed_out None is at place_is same =
      let old = way_at cache.ways at in
      let filled : IsFilled cache.ways at = subst (λ n. IsFilled cache.ways n) (sym place_is)
      (free-None cache sound line is (way_of_pointer cache.pointers line) (omega arith)) in
      record {
        way = old;
        before = ap (way_found cache.ways) (found_at cache sound old.slot old.line filled at
            (record { its_slot = refl; its_line = refl }));
        whole = refl;
        gone = line_in-gone cache sound place within way (pointers_after cache.ways cache.pointers
            line) (fits _ low) sets old.slot old.line filled
            (λ holds. not_there at (record {
              its_slot = sym holds.its_slot;
              its_line =
                  sym holds.its_line;
            }))
            (subst (λ n. WayHolds (way_at cache.ways n) old.slot old.line) same
            (record { its_slot = refl; its_line = refl }));
      }

  others : (free : Option ℕ) → free_in_set cache.ways line ≡ free → (at : ℕ)
      → at ≡ first_place line + free_or_pointed free (way_of_pointer cache.pointers line)
      → (who other : ℕ) → who ≢ 0 → ¬ IsVictim (pushed_out free (way_at cache.ways at)) who other
      → ¬ WayHolds (way_at cache.ways at) who other
  others (Some free) is at place_is who other some_who not_victim holds =
      some_who (sym holds.its_slot ∙ ap (λ n. (way_at cache.ways n).slot) place_is
      ∙ (free-Some cache sound line free is).1)
  others None is at place_is who other some_who not_victim holds =
      not_victim (holds.its_slot, holds.its_line)

  in_range : (free : Option ℕ) → free_in_set cache.ways line ≡ free → (at : ℕ)
      → at ≡ first_place line + free_or_pointed free (way_of_pointer cache.pointers line)
      → IfSome (pushed_out free (way_at cache.ways at)) IsLine
  in_range (Some free) is at place_is = tt
  in_range None is at place_is =
      let filled : IsFilled cache.ways at = subst (λ n. IsFilled cache.ways n) (sym place_is)
      (free-None cache sound line is (way_of_pointer cache.pointers line) (omega arith)) in
      record { some = omega arith; known = sound.known at; inside = sound.inside at }

  pub victim_is_line : IfSome (victim_for cache line) IsLine
  victim_is_line = in_range (free_in_set cache.ways line) refl place refl

  pub with_line_brings_in : BringsIn cache.ways (cache_with_line cache slot line bytes).ways slot line
      bytes (victim_for cache line)
  with_line_brings_in = record {
    this_line = line_in-set cache sound place within way (pointers_after cache.ways cache.pointers
        line) (fits _ low) sets some;
    victim_line = handed_out (free_in_set cache.ways line) refl place refl refl;
    other_lines = λ who other some_who differs not_victim.
        line_in-other cache sound place within way (pointers_after cache.ways cache.pointers line)
        (fits _ low) sets who other some_who
        (λ holds. differs (sym holds.its_slot) (sym holds.its_line))
        (others (free_in_set cache.ways line) refl place refl who other some_who not_victim);
  }

-- ---- The two ways of the body

-- all that is owed of the cache after a new line, and of what is handed out
pub record Placed (cache : Cache) (slot line : ℕ) (bytes : List ℕ) (new : Cache)
    (victim : Option Victim) : Type 0 where
  pub is_cache : IsCache new
  pub full : IsSome victim ↔ IsFull cache.ways line
  pub found_there : place_of_line new.ways slot line ≡ Some (place_for cache.ways cache.pointers line)
  pub lines : BringsIn cache.ways new.ways slot line bytes victim
  pub range : IfSome victim IsLine

module _ (opened cache : Cache) (same : opened ≡ cache) (sound : IsCache opened) (slot line : ℕ)
    (bytes : List ℕ) (some : 1 ≤ slot) (known : slot ≤ 16) (inside : line < 2 ^ 15)
    (absent : place_of_line cache.ways slot line ≡ None) (first : ℕ) (way : Way)
    (first_is : first ≡ first_place line) (way_is : way ≡ new_way slot line bytes) where
  whole : IsCache cache
  whole = subst IsCache same sound

  not_null : slot ≢ 0
  not_null none = absurd (omega arith)

  placed_as : (new : Cache) (victim : Option Victim) → cache_with_line cache slot line bytes ≡ new
      → victim_for cache line ≡ victim
      → (IsSome victim ↔ IsFull cache.ways line) → Placed cache slot line bytes new victim
  placed_as new victim new_is victim_is full = record {
    is_cache = subst IsCache new_is (with_line_is_cache cache whole slot line bytes not_null known
        inside absent);
    full = full;
    range = subst (λ v. IfSome v IsLine) victim_is (victim_is_line cache whole slot line bytes
        not_null known inside absent);
    found_there = subst (λ c. place_of_line c.ways slot line ≡ Some (place_for cache.ways cache.pointers
        line)) new_is
        (with_line_is_found cache whole slot line bytes not_null known inside absent);
    lines = subst (BringsIn cache.ways new.ways slot line bytes) victim_is
        (subst (λ c. BringsIn cache.ways c.ways slot line bytes (victim_for cache line)) new_is
        (with_line_brings_in cache whole slot line bytes not_null known inside absent));
  }

  pub placed_free : (free : ℕ) → Some free ≡ free_in_set cache.ways line
      → Placed cache slot line bytes
      (record { ways = slice_set opened.ways (first + free) way; pointers = opened.pointers }) None
  placed_free free is = placed_as _ None
      (rw (same, first_is, way_is) (line_in_free cache slot line bytes free (sym is)))
      (victim_of_free cache line free (sym is)) (
        (λ some. absurd (let no = some in cc)),
        λ full. absurd (let none = none_free cache whole line
            full in let yes = is in cc),
      )

  pub placed_full : (victim : Victim) (pointer : ℕ) → None ≡ free_in_set cache.ways line
      → pointer ≡ way_of_pointer opened.pointers line
      → victim ≡ victim_of (way_at opened.ways (first + pointer))
      → Placed cache slot line bytes
      (record {
        ways = slice_set opened.ways (first + pointer) way;
        pointers = slice_set opened.pointers (line % 32) ((way_of_pointer opened.pointers line + 1) % 4);
      }) (Some victim)
  placed_full victim pointer is pointer_is victim_is = placed_as _ (Some victim)
      (rw (pointer_is, same, first_is, way_is) (line_in_full cache slot line bytes (sym is)))
      (rw (victim_is, pointer_is, same, first_is) (victim_of_full cache line (sym is)))
      ((λ _. free-None cache whole line (sym is)), λ _. refl)
