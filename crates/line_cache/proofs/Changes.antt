-- What a change of one way does to the cache and to what it holds.
use Rattle.std.proofs.Common.{◌≡◌, ◌≢◌, refl, ℕ, ◌/◌, ◌%◌, ◌^◌, ◌<◌, ◌≤◌, ◌⊎◌, inl, inr, List, Option, Some, None, length, slice_set, sym, ◌∙◌, ap, subst, arith}
use Rattle.std.proofs.lemmas.Bool.Decides.{eqb_tells}
use Rattle.std.proofs.lemmas.List.{get_or-set_other, get_or-set_same, length-set}
use Rattle.line_cache.specs.declared.way.Way.{Way}
use Rattle.line_cache.specs.Ways.{Cache, free_way, place_of_line, way_at}
use Rattle.line_cache.specs.Lines.{IsCache, IsFilled, WayHolds, cached_line, way_found}
use Rattle.line_cache.proofs.Search.{found-None, found-Some, found_at, found_none}

-- the way may stand in this place
pub record Fits (cache : Cache) (place : ℕ) (way : Way) : Type 0 where
  pub in_set : way.slot ≢ 0 → place / 4 ≡ way.line % 32
  pub alone : way.slot ≢ 0 → (other : ℕ) → other ≢ place
      → ¬ WayHolds (way_at cache.ways other) way.slot way.line
  pub known : way.slot ≤ 16
  pub inside : way.line < 2 ^ 15

-- a free way fits everywhere
pub free_fits : (cache : Cache) (place : ℕ) → Fits cache place free_way
free_fits cache place = record {
  in_set = λ filled. absurd (filled refl);
  alone = λ filled. absurd (filled refl);
  known = omega arith;
  inside = omega arith;
}

-- two ways of one slot and line hold the same
pub other_Holds : (a b : Way) (slot line : ℕ) → a ≡ b → WayHolds a slot line → WayHolds b slot line
other_Holds a b slot line same holds = subst (λ w. WayHolds w slot line) same holds

module _ (cache : Cache) (sound : IsCache cache) (place : ℕ) (within : place < 128) (way : Way)
    (pointers : List ℕ) where
  abbrev new : Cache
  new = record { ways = slice_set cache.ways place way; pointers = pointers }

  new_is : (at : ℕ)
      → ((at ≡ place) × (way_at new.ways at ≡ way))
      ⊎ ((at ≢ place) × (way_at new.ways at ≡ way_at cache.ways at))
  new_is at =
      let places = sound.places in
      elim (eqb_tells at place) [
        | inl same ↦ inl (
          same.1,
          subst (λ n. way_at new.ways n ≡ way) (sym same.1)
              (get_or-set_same cache.ways place way free_way (omega arith)),
        )
        | inr other ↦ inr (other.1, get_or-set_other cache.ways place at way free_way other.1)
      ]

  module _ (fits : Fits cache place way) where
    in_set : (at : ℕ) → IsFilled new.ways at → at / 4 ≡ (way_at new.ways at).line % 32
    in_set at filled = elim (new_is at) [
      | inl s ↦ ap (λ n. n / 4) s.0 ∙ fits.in_set (λ free. filled (ap (λ w. w.slot) s.1 ∙ free))
          ∙ sym (ap (λ w. w.line % 32) s.1)
      | inr o ↦ sound.in_set at (λ free. filled (ap (λ w. w.slot) o.1 ∙ free))
          ∙ sym (ap (λ w. w.line % 32) o.1)
    ]

    once : (at other : ℕ) → IsFilled new.ways at
        → WayHolds (way_at new.ways other) (way_at new.ways at).slot (way_at new.ways at).line
        → other ≡ at
    once at other filled holds = elim (new_is at) [
      | inl a ↦ elim (new_is other) [
        | inl b ↦ b.0 ∙ sym a.0
        | inr b ↦ absurd (fits.alone (λ free. filled (ap (λ w. w.slot) a.1 ∙ free)) other b.0
            (record {
              its_slot = sym (ap (λ w. w.slot) b.1) ∙ holds.its_slot ∙ ap (λ w. w.slot) a.1;
              its_line = sym (ap (λ w. w.line) b.1) ∙ holds.its_line ∙ ap (λ w. w.line) a.1;
            }))
      ]
      | inr a ↦ elim (new_is other) [
        | inl b ↦ absurd (fits.alone (λ free. filled (sym holds.its_slot ∙ ap (λ w. w.slot) b.1
            ∙ free)) at a.0 (record {
              its_slot = sym (ap (λ w. w.slot) a.1) ∙ sym holds.its_slot ∙ ap (λ w. w.slot) b.1;
              its_line = sym (ap (λ w. w.line) a.1) ∙ sym holds.its_line ∙ ap (λ w. w.line) b.1;
            }))
        | inr b ↦ sound.once at other (λ free. filled (ap (λ w. w.slot) a.1 ∙ free)) (record {
          its_slot = sym (ap (λ w. w.slot) b.1) ∙ holds.its_slot ∙ ap (λ w. w.slot) a.1;
          its_line = sym (ap (λ w. w.line) b.1) ∙ holds.its_line ∙ ap (λ w. w.line) a.1;
        })
      ]
    ]

    pub IsCache-set : length pointers ≡ 32 → IsCache new
    IsCache-set sets = record {
      places = length-set cache.ways place way ∙ sound.places;
      sets = sets;
      in_set = in_set;
      once = once;
      known = λ at. elim (new_is at) [
        | inl s ↦ subst (λ w. w.slot ≤ 16) (sym s.1) fits.known
        | inr o ↦ subst (λ w. w.slot ≤ 16) (sym o.1) (sound.known at)
      ];
      inside = λ at. elim (new_is at) [
        | inl s ↦ subst (λ w. w.line < 2 ^ 15) (sym s.1) fits.inside
        | inr o ↦ subst (λ w. w.line < 2 ^ 15) (sym o.1) (sound.inside at)
      ];
    }

    module _ (sets : length pointers ≡ 32) where
      -- the line of the new way is found there
      pub found-set : way.slot ≢ 0 → place_of_line new.ways way.slot way.line ≡ Some place
      found-set some = found_at new (IsCache-set sets) way.slot way.line some place
          (elim (new_is place) [
            | inl s ↦ subst (λ w. WayHolds w way.slot way.line) (sym s.1)
                (record { its_slot = refl; its_line = refl })
            | inr o ↦ absurd (o.0 refl)
          ])

      pub line_in-set : way.slot ≢ 0 → cached_line new.ways way.slot way.line ≡ Some way
      line_in-set some =
          ap (way_found new.ways) (found-set some)
          ∙ ap Some (elim (new_is place) [ inl s ↦ s.1 | inr o ↦ absurd (o.0 refl) ])

      module _ (slot line : ℕ) (some : slot ≢ 0) (not_new : ¬ WayHolds way slot line) where
        -- the line that stood there is gone
        pub found-gone : WayHolds (way_at cache.ways place) slot line → place_of_line new.ways slot line ≡ None
        found-gone held = found_none new.ways slot line some (λ at holds. elim (new_is at) [
          | inl s ↦ not_new (other_Holds (way_at new.ways at) way slot line s.1 holds)
          | inr o ↦ o.0 (sound.once place at (λ free. some (sym held.its_slot ∙ free))
              (let old = other_Holds (way_at new.ways at) (way_at cache.ways at) slot line o.1
              holds in
              record {
                its_slot = old.its_slot ∙ sym held.its_slot;
                its_line = old.its_line
                    ∙ sym held.its_line;
              }))
        ])

        pub line_in-gone : WayHolds (way_at cache.ways place) slot line
            → cached_line new.ways slot line ≡ None
        line_in-gone held = ap (way_found new.ways) (found-gone held)

        -- every other line is as it was
        module _ (not_old : ¬ WayHolds (way_at cache.ways place) slot line) where
          line_found : (before : Option ℕ) → place_of_line cache.ways slot line ≡ before
              → cached_line new.ways slot line ≡ way_found cache.ways before
          line_found (Some at) is =
              let held = found-Some cache.ways slot line some at is in
              elim (new_is at) [
                | inl s ↦ absurd (not_old (subst (λ n. WayHolds (way_at cache.ways n) slot line) s.0
                    held))
                | inr o ↦
                    ap (way_found new.ways) (found_at new (IsCache-set sets) slot line some at
                    (other_Holds (way_at cache.ways at) (way_at new.ways at) slot line (sym o.1)
                    held))
                    ∙ ap Some o.1
              ]
          line_found None is = ap (way_found new.ways) (found_none new.ways slot line some
              (λ at holds. elim (new_is at) [
                | inl s ↦ not_new (other_Holds (way_at new.ways at) way slot line s.1 holds)
                | inr o ↦ found-None cache.ways slot line some is at
                    (other_Holds (way_at new.ways at) (way_at cache.ways at) slot line o.1 holds)
              ]))

          pub line_in-other : cached_line new.ways slot line ≡ cached_line cache.ways slot line
          line_in-other = line_found (place_of_line cache.ways slot line) refl
