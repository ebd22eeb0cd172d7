-- Looking in one set finds what a search over all places finds.
use Rattle.std.proofs.Common.{◌≡◌, ◌≢◌, refl, ℕ, ◌+◌, slice_range, ◌-◌, ◌/◌, ◌%◌, ◌<◌, ◌≤◌, Bool, true, false, ◌⊎◌, inl, inr, List, Option, Some, None, length, get_or, drop, position, sym, ◌∙◌, ap, arith, IfSome}
use Rattle.std.specs.List.{position_or_len}
use Rattle.std.proofs.lemmas.Bool.{cases_lt}
use Rattle.std.proofs.lemmas.Bool.Decides.{eqb_tells, nat_tests}
use Rattle.std.proofs.lemmas.List.{get_or-drop, get_or-take, get_or_past, length-drop, length-take}
use Rattle.std.proofs.lemmas.List.Quantifiers.{position-Some}
use Rattle.std.proofs.lemmas.List.Sums.{fails_before_first, position_or_len_is}
use Rattle.line_cache.specs.declared.way.Way.{Way}
use Rattle.line_cache.specs.Ways.{Cache, first_place, free_in_set, free_way, is_free, is_of, place_of_line, set_of, way_at}
use Rattle.line_cache.specs.Lines.{IsCache, IsFilled, IsFull, WayHolds}

-- ---- Positions

-- the place that passes, where none before it does
pub position_at : {X : Type 0} (p : X → Bool) (xs : List X) (k : ℕ) (d : X) → k < length xs
    → p (get_or xs k d) ≡ true → ((j : ℕ) → j < k → p (get_or xs j d) ≡ false)
    → position p xs ≡ Some k
position_at p xs k d within passes before =
    rw (position_or_len_is p xs k d (omega arith) before (λ _. passes)) (grind (arith, nat_tests))

-- none, where none passes
pub position_none : {X : Type 0} (p : X → Bool) (xs : List X) (d : X)
    → ((j : ℕ) → j < length xs → p (get_or xs j d) ≡ false) → position p xs ≡ None
position_none p xs d fails =
    rw (position_or_len_is p xs (length xs) d (omega arith) fails (λ past. absurd (omega arith)))
    (grind (arith, nat_tests))

past_end : {X : Type 0} (p : X → Bool) (xs : List X) → position p xs ≡ None
    → length xs ≤ position_or_len p xs
past_end p xs none = grind (arith, nat_tests)

-- where no position is found, each place fails
pub none_passes : {X : Type 0} (p : X → Bool) (xs : List X) (k : ℕ) (d : X) → position p xs ≡ None
    → k < length xs → p (get_or xs k d) ≡ false
none_passes p xs k d none within =
    let past = past_end p xs none in fails_before_first p xs k d (omega arith)

-- ---- A way and a line

-- a way holds a line or it doesn't, and the test tells
pub tells : (slot line : ℕ) (way : Way)
    → (WayHolds way slot line × (is_of slot line way ≡ true))
    ⊎ ((¬ WayHolds way slot line) × (is_of slot line way ≡ false))
tells slot line way = elim (eqb_tells way.slot slot) [
  | inl a ↦ elim (eqb_tells way.line line) [
    | inl b ↦ inl (record { its_slot = a.1; its_line = b.1 }, rw (a.0, b.0) refl)
    | inr b ↦ inr (λ h. b.1 h.its_line, rw (a.0, b.0) refl)
  ]
  | inr a ↦ inr (λ h. a.1 h.its_slot, rw a.0 refl)
]

pub is_of-Holds : (slot line : ℕ) (way : Way) → is_of slot line way ≡ true → WayHolds way slot line
is_of-Holds slot line way is = elim (tells slot line way) [ inl h ↦ h.0 | inr n ↦ absurd (cc) ]

-- a place that holds a line of a slot is a place of the cache
pub filled_within : (ways : List Way) (place : ℕ) → IsFilled ways place → place < length ways
filled_within ways place filled = elim (cases_lt place (length ways)) [
  | inl within ↦ within
  | inr past ↦ absurd (filled (ap (λ w. w.slot) (get_or_past ways place free_way past)))
]

-- ---- The search over all places

module _ (ways : List Way) (slot line : ℕ) (some : slot ≢ 0) where
  pub found-Some : (place : ℕ) → place_of_line ways slot line ≡ Some place
      → WayHolds (way_at ways place) slot line
  found-Some place is = is_of-Holds slot line (way_at ways place)
      (position-Some (is_of slot line) ways place free_way is).1

  -- a line that no place holds isn't found
  pub found_none : ((place : ℕ) → ¬ WayHolds (way_at ways place) slot line)
      → place_of_line ways slot line ≡ None
  found_none absent = position_none (is_of slot line) ways free_way (λ j _.
      elim (tells slot line (way_at ways j)) [ inl h ↦ absurd (absent j h.0) | inr n ↦ n.1 ])

  -- a line that isn't found is held by no place
  pub found-None : place_of_line ways slot line ≡ None → (place : ℕ) → ¬ WayHolds (way_at ways place) slot line
  found-None none place holds =
      let filled : IsFilled ways place = λ free. some (sym holds.its_slot ∙ free) in
      let fails = none_passes (is_of slot line) ways place free_way none
      (filled_within ways place filled) in
      elim (tells slot line (way_at ways place)) [
        | inl h ↦ (let is = h.1 in cc)
        | inr n ↦
            n.0 holds
      ]

-- ---- The four ways of a set

module _ (cache : Cache) (sound : IsCache cache) (line : ℕ) where
  -- the way at a place of the line's set
  pub way_in_set : (way : ℕ) → way < 4
      → get_or (set_of cache.ways line) way free_way ≡ way_at cache.ways (first_place line + way)
  way_in_set way within =
      get_or-take (first_place line + 4 - first_place line) (drop (first_place line) cache.ways) way
      free_way (omega arith)
      ∙ get_or-drop (first_place line) cache.ways way free_way

  pub set_size : length (set_of cache.ways line) ≡ 4
  set_size =
      let places = sound.places in
      simp (length-take, length-drop) (omega arith)

  -- the lowest free way is one of the four, and is free
  pub free-Some : (way : ℕ) → free_in_set cache.ways line ≡ Some way
      → (way < 4) × ((way_at cache.ways (first_place line + way)).slot ≡ 0)
  unfolding free_in_set
  free-Some way is =
      let at = position-Some is_free (set_of cache.ways line) way free_way is in
      let size = set_size in
      let low : way < 4 = omega arith in
      let free : is_free (way_at cache.ways (first_place line + way)) ≡ true =
      sym (ap is_free (way_in_set way low)) ∙ at.1 in (
        low,
        elim (eqb_tells (way_at cache.ways (first_place line + way)).slot 0) [
          | inl is ↦
              is.1
          | inr not ↦ absurd (let no = not.0 in cc)
        ],
      )

  low_way : (free : Option ℕ) → free_in_set cache.ways line ≡ free → IfSome free (λ way. way < 4)
  low_way (Some way) is = (free-Some way is).0
  low_way None is = tt

  pub free_is_low : IfSome (position is_free (set_of cache.ways line)) (λ way. way < 4)
  unfolding free_in_set
  free_is_low = low_way (free_in_set cache.ways line) refl

  -- where no way is free, all four are filled, and the other way round
  pub free-None : free_in_set cache.ways line ≡ None → IsFull cache.ways line
  unfolding free_in_set
  free-None none way within free =
      let size = set_size in
      let fails = none_passes is_free (set_of cache.ways line) way free_way none (omega arith) in
      let same = ap is_free (way_in_set way within) in
      elim (eqb_tells (way_at cache.ways (first_place line + way)).slot 0) [
        | inl is ↦
            (let yes = is.0 in cc)
        | inr not ↦ not.1 free
      ]

  pub none_free : IsFull cache.ways line → free_in_set cache.ways line ≡ None
  unfolding free_in_set
  none_free full = position_none is_free (set_of cache.ways line) free_way (λ way within.
      let size = set_size in
      let low : way < 4 = omega arith in
      let same = ap is_free (way_in_set way low) in
      elim (eqb_tells (way_at cache.ways (first_place line + way)).slot 0) [
        | inl is ↦
            absurd (full way low is.1)
        | inr not ↦ same ∙ not.0
      ])

module _ (cache : Cache) (sound : IsCache cache) (slot line : ℕ) (some : slot ≢ 0) where
  -- a place that holds the line is the one that is found
  pub found_at : (place : ℕ) → WayHolds (way_at cache.ways place) slot line
      → place_of_line cache.ways slot line ≡ Some place
  found_at place holds =
      let filled : IsFilled cache.ways place = λ free. some (sym holds.its_slot ∙ free) in
      position_at (is_of slot line) cache.ways place free_way
      (filled_within cache.ways place filled)
      (elim (tells slot line (way_at cache.ways place)) [
        | inl h ↦ h.1
        | inr n ↦
            absurd (n.0 holds)
      ])
      (λ j below. elim (tells slot line (way_at cache.ways j)) [
        | inl h ↦ absurd (
            let same = sound.once place j filled
            (record {
              its_slot = h.0.its_slot ∙ sym holds.its_slot;
              its_line = h.0.its_line
                  ∙ sym holds.its_line;
            }) in
            omega arith)
        | inr n ↦ n.1
      ])

  -- a line that its set doesn't have isn't cached
  pub none_in_set : position (is_of slot line) (set_of cache.ways line) ≡ None
      → place_of_line cache.ways slot line ≡ None
  none_in_set none = found_none cache.ways slot line some (λ place holds.
      let filled : IsFilled cache.ways place = λ free. some (sym holds.its_slot ∙ free) in
      let in_set : place / 4 ≡ line % 32 = sound.in_set place filled ∙ ap (λ l. l % 32)
      holds.its_line in
      let size = set_size cache sound line in
      let fails = none_passes (is_of slot line) (set_of cache.ways line) (place % 4) free_way none
      (omega arith) in
      let here : get_or (set_of cache.ways line) (place % 4) free_way ≡ way_at cache.ways place =
      way_in_set cache sound line (place % 4) (omega arith) ∙ ap (way_at cache.ways)
      (omega arith) in
      elim (tells slot line (way_at cache.ways place)) [
        | inl h ↦ (let is = h.1 in let same = ap (is_of slot line) here in cc)
        | inr n ↦ n.0 holds
      ])

  -- a line that its set has in a way is found at that way's place
  pub some_in_set : (way : ℕ) → position (is_of slot line) (set_of cache.ways line) ≡ Some way
      → place_of_line cache.ways slot line ≡ Some (first_place line + way)
  some_in_set way is =
      let at = position-Some (is_of slot line) (set_of cache.ways line) way free_way is in
      let size = set_size cache sound line in
      found_at (first_place line + way)
      (is_of-Holds slot line
      _ (sym (ap (is_of slot line) (way_in_set cache sound line way (omega arith))) ∙ at.1))

-- what the body finds is filled
pub found_filled : (opened cache : Cache) → opened ≡ cache → IsCache opened → (slot line : ℕ)
    → 1 ≤ slot
    → (first : ℕ) → first ≡ first_place line → (ways : List Way) → ways ≡ opened.ways
    → (found_way : Option ℕ)
    → found_way ≡ position (is_of slot line) (slice_range ways first (first + 4)) → (way : ℕ)
    → found_way ≡ Some way
    → IsFilled cache.ways (first + way)
found_filled opened cache same sound slot line some first first_is ways ways_is found_way answer way
    is =
    let not_null : slot ≢ 0 = λ none. absurd (omega arith) in
    let here : position (is_of slot line) (set_of opened.ways line) ≡ Some way =
    ap (λ w. position (is_of slot line) (slice_range w (first_place line) (first_place line + 4)))
    (sym ways_is)
    ∙ ap (λ n. position (is_of slot line) (slice_range ways n (n + 4))) (sym first_is)
    ∙ sym answer ∙ is in
    let place = some_in_set opened sound slot line not_null way here in
    let held = found-Some opened.ways slot line not_null (first_place line + way) place in
    let filled : IsFilled opened.ways (first_place line + way) =
    λ free. not_null (sym held.its_slot ∙ free) in
    rw (first_is, ← same) filled
