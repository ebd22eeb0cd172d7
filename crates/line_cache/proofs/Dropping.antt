-- What dropping a slot's lines does to the cache.
use Rattle.std.proofs.Common.{◌≡◌, ◌≢◌, refl, ℕ, ◌%◌, ◌^◌, ◌<◌, ◌≤◌, ◌⊎◌, inl, inr, List, Option, Some, None, length, take, drop, ◌++◌, sym, ◌∙◌, ap, subst, arith}
use Rattle.std.proofs.lemmas.Bool.{cases_lt}
use Rattle.std.proofs.lemmas.Bool.Decides.{eqb_tells}
use Rattle.std.proofs.lemmas.List.{get_or-map, get_or_past, length-map, take_at}
use Rattle.line_cache.specs.declared.way.Way.{Way}
use Rattle.line_cache.specs.Ways.{Cache, free_if, free_way, place_of_line, way_at, without_slot}
use Rattle.line_cache.specs.Lines.{DropsSlot, IsCache, cached_line, way_found}
use Rattle.line_cache.proofs.Search.{found-None, found-Some, found_at, found_none}
use Rattle.line_cache.proofs.Changes.{other_Holds}

-- a way is freed where it is the slot's, and else stays
freed : (slot : ℕ) (way : Way)
    → ((way.slot ≡ slot) × (free_if slot way ≡ free_way))
    ⊎ ((way.slot ≢ slot) × (free_if slot way ≡ way))
freed slot way = elim (eqb_tells way.slot slot) [
  | inl is ↦ inl (is.1, rw is.0 refl)
  | inr not ↦ inr (not.1, rw not.0 refl)
]

free_stays : (slot : ℕ) → free_if slot free_way ≡ free_way
free_stays slot = elim (freed slot free_way) [ inl is ↦ is.1 | inr not ↦ not.1 ]

way_after : (slot : ℕ) (ways : List Way) (at : ℕ)
    → way_at (without_slot slot ways) at ≡ free_if slot (way_at ways at)
way_after slot ways at = elim (cases_lt at (length ways)) [
  | inl within ↦ get_or-map (free_if slot) ways at free_way free_way within
  | inr past ↦
      get_or_past (without_slot slot ways) at free_way
      (let same : length (without_slot slot ways) ≡ length ways =
      length-map ways (free_if slot) in omega arith)
      ∙ sym (free_stays slot) ∙ ap (free_if slot) (sym (get_or_past ways at free_way past))
]

module _ (cache : Cache) (sound : IsCache cache) (slot : ℕ) where
  abbrev new : Cache
  new = record cache { ways = without_slot slot cache.ways }

  new_is : (at : ℕ)
      → (((way_at cache.ways at).slot ≡ slot) × (way_at new.ways at ≡ free_way))
      ⊎ (((way_at cache.ways at).slot ≢ slot) × (way_at new.ways at ≡ way_at cache.ways at))
  new_is at = elim (freed slot (way_at cache.ways at)) [
    | inl is ↦ inl (is.0, way_after slot cache.ways at ∙ is.1)
    | inr not ↦ inr (not.0, way_after slot cache.ways at ∙ not.1)
  ]

  pub without_slot_is_cache : IsCache new
  without_slot_is_cache = record {
    places = length-map cache.ways (free_if slot) ∙ sound.places;
    sets = sound.sets;
    in_set = λ at filled. elim (new_is at) [
      | inl f ↦ absurd (filled (ap (λ w. w.slot) f.1))
      | inr o ↦ sound.in_set at (λ free. filled (ap (λ w. w.slot) o.1 ∙ free))
          ∙ sym (ap (λ w. w.line % 32) o.1)
    ];
    once = λ at other filled holds. elim (new_is at) [
      | inl f ↦ absurd (filled (ap (λ w. w.slot) f.1))
      | inr a ↦ elim (new_is other) [
        | inl f ↦ absurd (filled (sym holds.its_slot ∙ ap (λ w. w.slot) f.1))
        | inr b ↦ sound.once at other (λ free. filled (ap (λ w. w.slot) a.1 ∙ free)) (record {
          its_slot = sym (ap (λ w. w.slot) b.1) ∙ holds.its_slot ∙ ap (λ w. w.slot) a.1;
          its_line = sym (ap (λ w. w.line) b.1) ∙ holds.its_line ∙ ap (λ w. w.line) a.1;
        })
      ]
    ];
    known = λ at. elim (new_is at) [
      | inl f ↦ subst (λ w. w.slot ≤ 16) (sym f.1) (omega arith)
      | inr o ↦ subst (λ w. w.slot ≤ 16) (sym o.1) (sound.known at)
    ];
    inside = λ at. elim (new_is at) [
      | inl f ↦ subst (λ w. w.line < 2 ^ 15) (sym f.1) (omega arith)
      | inr o ↦ subst (λ w. w.line < 2 ^ 15) (sym o.1) (sound.inside at)
    ];
  }

  module _ (some : 1 ≤ slot) where
    none_left : (line : ℕ) → place_of_line new.ways slot line ≡ None
    none_left line = found_none new.ways slot line (λ none. absurd (omega arith))
        (λ at holds. elim (new_is at) [
          | inl f ↦ (let zero_slot = sym holds.its_slot ∙ ap (λ w. w.slot) f.1 in absurd (omega arith))
          | inr o ↦ o.0 (sym (ap (λ w. w.slot) o.1) ∙ holds.its_slot)
        ])

    module _ (other line : ℕ) (some_other : other ≢ 0) (differs : other ≢ slot) where
      line_found : (before : Option ℕ) → place_of_line cache.ways other line ≡ before
          → cached_line new.ways other line ≡ way_found cache.ways before
      line_found (Some at) is =
          let held = found-Some cache.ways other line some_other at is in
          elim (new_is at) [
            | inl f ↦ absurd (differs (sym held.its_slot ∙ f.0))
            | inr o ↦
                ap (way_found new.ways) (found_at new without_slot_is_cache other line some_other at
                (other_Holds (way_at cache.ways at) (way_at new.ways at) other line (sym o.1)
                held))
                ∙ ap Some o.1
          ]
      line_found None is = ap (way_found new.ways) (found_none new.ways other line some_other
          (λ at holds. elim (new_is at) [
            | inl f ↦ some_other (sym holds.its_slot ∙ ap (λ w. w.slot) f.1)
            | inr o ↦ found-None cache.ways other line some_other is at
                (other_Holds (way_at new.ways at) (way_at cache.ways at) other line o.1 holds)
          ]))

    pub drops_slot : DropsSlot cache.ways new.ways slot
    drops_slot = record {
      none = none_left;
      other_slots = λ other line some_other differs. line_found other line some_other differs
          (place_of_line cache.ways other line) refl;
    }

-- ---- The answers of the body

module _ (opened cache : Cache) (same : opened ≡ cache) (sound : IsCache opened) (slot : ℕ)
    (count : ℕ) (count_is : count ≡ length opened.ways) (new : List Way)
    (new_is : new ≡ without_slot slot opened.ways) where
  all_new : take count (new ++ drop (length new) opened.ways) ≡ without_slot slot opened.ways
  all_new =
      take_at new (drop (length new) opened.ways) count (ap length new_is ∙ length-map opened.ways
      (free_if slot) ∙ sym count_is)
      ∙ new_is

  pub dropped_is_cache : IsCache
      (record {
        ways = take count (new ++ drop (length new) opened.ways);
        pointers =
            opened.pointers;
      })
  dropped_is_cache = rw all_new (without_slot_is_cache opened sound slot)

  pub dropped_lines : 1 ≤ slot
      → DropsSlot cache.ways (take count (new ++ drop (length new) opened.ways)) slot
  dropped_lines some = rw (all_new, same) (drops_slot cache (subst IsCache same sound) slot some)
