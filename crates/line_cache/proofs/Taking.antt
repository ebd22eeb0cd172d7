-- What taking out a page's least line does to the cache.
use Rattle.std.proofs.Common.{◌≡◌, ◌≢◌, refl, ℕ, ◌+◌, ◌/◌, ◌<◌, ◌≤◌, ◌⊎◌, inl, inr, Bool, true, false, List, Option, Some, None, length, slice_set, sym, ◌∙◌, ap, subst, arith}
use Rattle.std.proofs.lemmas.Bool.Decides.{eqb_tells}
use Rattle.line_cache.specs.declared.way.Victim.{Victim}
use Rattle.line_cache.specs.declared.way.Way.{Way}
use Rattle.line_cache.specs.Ways.{Cache, cache_with_way, free_way, place_of_line, victim_of, way_at}
use Rattle.line_cache.specs.Lines.{HasNoLine, HoldsLeast, IsCache, IsFilled, IsLeastAmong, TakesLeast, WayHolds, is_in_page}
use Rattle.line_cache.proofs.Search.{filled_within, found_at, found_none}
use Rattle.line_cache.proofs.Changes.{IsCache-set, free_fits, line_in-gone, line_in-other}

-- whether a way holds a line of the page
tells_page : (slot page : ℕ) (way : Way)
    → ((is_in_page slot page way ≡ true) × (way.slot ≡ slot) × (way.line / 128 ≡ page))
    ⊎ ((is_in_page slot page way ≡ false) × ¬ ((way.slot ≡ slot) × (way.line / 128 ≡ page)))
tells_page slot page way = elim (eqb_tells way.slot slot) [
  | inl a ↦ elim (eqb_tells (way.line / 128) page) [
    | inl b ↦ inl (rw (a.0, b.0) refl, a.1, b.1)
    | inr b ↦ inr (rw (a.0, b.0) refl, λ h. b.1 h.1)
  ]
  | inr a ↦ inr (rw a.0 refl, λ h. a.1 h.0)
]

in_page : (slot page : ℕ) (way : Way) → is_in_page slot page way ≡ true
    → (way.slot ≡ slot) × (way.line / 128 ≡ page)
in_page slot page way is = elim (tells_page slot page way) [
  | inl t ↦ (t.1, t.2)
  | inr f ↦
      absurd (let no = f.0 in cc)
]

of_page : (slot page : ℕ) (way : Way) → way.slot ≡ slot → way.line / 128 ≡ page
    → is_in_page slot page way ≡ true
of_page slot page way a b = elim (tells_page slot page way) [
  | inl t ↦ t.0
  | inr f ↦
      absurd (f.1 (a, b))
]

module _ (ways : List Way) (slot page place : ℕ) where
  abbrev its : ℕ → Bool
  its at = is_in_page slot page (way_at ways at)

  at_most : (at : ℕ) → at < place + 1 → (at ≡ place) ⊎ (at < place)
  at_most at low = elim (eqb_tells at place) [
    | inl is ↦ inl is.1
    | inr not ↦
        (let differs = not.1 in inr (omega arith))
  ]

  -- a place without a line of the page changes nothing
  pub least_skips : (least : Option ℕ) → IsLeastAmong ways slot page place least → its place ≡ false
      → IsLeastAmong ways slot page (place + 1) least
  least_skips (Some least) holds not = record {
    below = let low = holds.below in omega arith;
    its_page = holds.its_page;
    least = λ other low is. elim (at_most other low) [
      | inl same ↦ absurd (let here = ap its same in cc)
      | inr below ↦ holds.least other below is
    ];
  }
  least_skips None none not =
      λ other low. elim (at_most other low) [
        | inl same ↦ ap its same ∙ not
        | inr below ↦
            none other below
      ]

  -- the first line of the page is the least so far
  pub least_begins : IsLeastAmong ways slot page place None → its place ≡ true
      → HoldsLeast ways slot page (place + 1) place
  least_begins none is = record {
    below = omega arith;
    its_page = is;
    least = λ other low is_other. elim (at_most other low) [
      | inl same ↦ (let line = ap (λ n. (way_at ways n).line) same in omega arith)
      | inr below ↦ absurd (let not = none other below in cc)
    ];
  }

  -- a line that is as great or greater leaves the least one
  pub least_stays : (least : ℕ) → HoldsLeast ways slot page place least
      → (way_at ways least).line ≤ (way_at ways place).line
      → HoldsLeast ways slot page (place + 1) least
  least_stays least holds less = record {
    below = let low = holds.below in omega arith;
    its_page = holds.its_page;
    least = λ other low is. elim (at_most other low) [
      | inl same ↦ (let line = ap (λ n. (way_at ways n).line) same in omega arith)
      | inr below ↦ holds.least other below is
    ];
  }

  -- a smaller one takes its place
  pub least_moves : (least : ℕ) → HoldsLeast ways slot page place least → its place ≡ true
      → (way_at ways place).line < (way_at ways least).line
      → HoldsLeast ways slot page (place + 1) place
  least_moves least holds is less = record {
    below = omega arith;
    its_page = is;
    least = λ other low is_other. elim (at_most other low) [
      | inl same ↦ (let line = ap (λ n. (way_at ways n).line) same in omega arith)
      | inr below ↦ (let more = holds.least other below is_other in omega arith)
    ];
  }

-- ---- The line that is taken out

module _ (cache : Cache) (sound : IsCache cache) (slot page : ℕ) (some : 1 ≤ slot) where
  not_null : slot ≢ 0
  not_null none = absurd (omega arith)

  cached_within : (at line : ℕ) → WayHolds (way_at cache.ways at) slot line → at < 128
  cached_within at line holds =
      let filled : IsFilled cache.ways at = λ free. not_null (sym holds.its_slot ∙ free) in
      let low = filled_within cache.ways at filled in
      let places = sound.places in
      omega arith

  pub none_of_page : IsLeastAmong cache.ways slot page 128 None → HasNoLine cache.ways slot page
  none_of_page none line of = found_none cache.ways slot line not_null (λ at holds.
      let not = none at (cached_within at line holds) in
      let is = of_page slot page (way_at cache.ways at) holds.its_slot
      (ap (λ l. l / 128) holds.its_line ∙ of) in
      cc)

  module _ (place : ℕ) (holds : HoldsLeast cache.ways slot page 128 place) where
    abbrev way : Way
    way = way_at cache.ways place

    of_its_page : (way.slot ≡ slot) × (way.line / 128 ≡ page)
    of_its_page = in_page slot page way holds.its_page

    own : WayHolds way slot way.line
    own = record { its_slot = of_its_page.0; its_line = refl }

    there : place_of_line cache.ways slot way.line ≡ Some place
    there = found_at cache sound slot way.line not_null place own

    pub some_of_page : ¬ HasNoLine cache.ways slot page
    some_of_page none = let no = none way.line of_its_page.1 in let is = there in cc

    not_free : (who line : ℕ) → who ≢ 0 → ¬ WayHolds free_way who line
    not_free who line some_who free = some_who (sym free.its_slot)

    pub taken_is_cache : IsCache (cache_with_way cache place free_way)
    taken_is_cache =
        IsCache-set cache sound place holds.below free_way cache.pointers (free_fits cache place)
        sound.sets

    pub takes_least : TakesLeast cache (cache_with_way cache place free_way) slot page (victim_of way)
    takes_least = record {
      range = record {
        some = let same = of_its_page.0 in omega arith;
        known = sound.known place;
        inside = sound.inside place;
      };
      slot_is = of_its_page.0;
      page_is = of_its_page.1;
      least = λ line less of. found_none cache.ways slot line not_null (λ at held.
          let is = of_page slot page (way_at cache.ways at) held.its_slot
          (ap (λ l. l / 128) held.its_line ∙ of) in
          let more = holds.least at (cached_within at line held) is in
          let line_is = held.its_line in
          absurd (omega arith));
      place = place;
      place_is = there;
      whole = refl;
      cache = refl;
      gone = line_in-gone cache sound place holds.below free_way cache.pointers
          (free_fits cache place) sound.sets slot way.line not_null (not_free slot way.line not_null)
          own;
      other_lines = λ who line some_who differs.
          line_in-other cache sound place holds.below free_way cache.pointers
          (free_fits cache place) sound.sets who line some_who (not_free who line some_who)
          (λ held. differs (sym held.its_slot ∙ of_its_page.0) (sym held.its_line));
    }

-- ---- The answers of the body

module _ (opened cache : Cache) (same : opened ≡ cache) (sound : IsCache opened) (slot page : ℕ)
    (some : 1 ≤ slot) (ways : List Way) (ways_is : ways ≡ opened.ways) (least : Option ℕ)
    (holds : IsLeastAmong ways slot page (length ways) least) where
  whole : IsCache cache
  whole = subst IsCache same sound

  among : IsLeastAmong cache.ways slot page 128 least
  among =
      let ways_same = ways_is ∙ ap (λ c. c.ways) same in
      subst (λ n. IsLeastAmong cache.ways slot page n least) (ap length ways_is ∙ sound.places)
      (subst (λ w. IsLeastAmong w slot page (length ways) least) ways_same holds)

  pub no_line : least ≡ None → HasNoLine cache.ways slot page
  no_line is =
      none_of_page cache whole slot page some
      (subst (IsLeastAmong cache.ways slot page 128) is among)

  module _ (place : ℕ) (is : least ≡ Some place) where
    of_the_page : HoldsLeast cache.ways slot page 128 place
    of_the_page = subst (IsLeastAmong cache.ways slot page 128) is among

    pub some_line : ¬ HasNoLine cache.ways slot page
    some_line = some_of_page cache whole slot page some place of_the_page

    pub place_within : place < length opened.ways
    place_within = let low = of_the_page.below in let places = sound.places in omega arith

    pub taken_out : (victim : Victim) (free : Way) → victim ≡ victim_of (way_at opened.ways place)
        → free ≡ free_way
        → TakesLeast cache (record {
          ways = slice_set opened.ways place free;
          pointers =
              opened.pointers;
        }) slot page victim
    taken_out victim free victim_is free_is =
        rw (victim_is, free_is, same) (takes_least cache whole slot page some place of_the_page)
