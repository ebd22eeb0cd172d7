-- Where a slot's guest is gone for good, the rest fits as before.
use Rattle.std.proofs.Common.{◌≡◌, ◌≢◌, inl, inr, ℕ, List, Some, length, set, refl, sym, ◌∙◌, ap, subst, arith, false, length-set}
use Rattle.std.proofs.lemmas.List.{get_or-set_same, get_or-set_other, get_or_past, length-map}
use Rattle.std.proofs.lemmas.Bool.Decides.{eqb_tells}
use Rattle.line_cache.specs.declared.way.Way.{Way}
use Rattle.line_cache.specs.Ways.{free_if, way_at, without_slot}
use Rattle.page_map.specs.Pages.{Pages, frame_of, without_pages}
use Rattle.session_table.specs.declared.session.Session.{Session}
use Rattle.session_table.specs.Sessions.{IsLiveIn, free, is_live, session_at}
use Rattle.slot_keys.specs.GuestKeys.{GuestKeys, keys_at}
use Rattle.xom_versions.specs.Store.{Store}
use Rattle.xom_model.specs.State.{page_of}
use Rattle.xom_model.proofs.Gone.{less, free_if-left, free_if-other, pages-gone, pages-other, way-without}
use Rattle.xom_private.specs.Cores.{PartsFit, Serves}

module _ (sessions : List Session) (pages : Pages) (ways : List Way) (ram : List ℕ)
    (stores : List Store) (keys : List GuestKeys) (boot slot : ℕ) (s : Session)
    (dead : is_live s.state ≡ false) (fits : PartsFit sessions pages ways ram stores keys boot) where
  there : (other : ℕ) → other ≢ slot
      → session_at (set sessions slot s) other ≡ session_at sessions other
  there other differs = get_or-set_other sessions slot other s free differs

  -- the slot itself isn't live, also where the table had no place for it
  not_here : IsLiveIn (set sessions slot s) slot → ⊥
  not_here live = elim (less slot (length sessions)) [
    | inl within ↦ let here : session_at (set sessions slot s) slot ≡ s = get_or-set_same sessions
        slot s free within in let its = ap (λ t. is_live t.state) here in cc
    | inr past ↦ let here : session_at (set sessions slot s) slot ≡ free =
        get_or_past (set sessions slot s) slot free
        (let same : length (set sessions slot s) ≡ length sessions = length-set sessions slot s in
        omega arith) in let its = ap (λ t. is_live t.state) here in cc
  ]

  another : (other : ℕ) → IsLiveIn (set sessions slot s) other → other ≢ slot
  another other live is = not_here (subst (λ k. IsLiveIn (set sessions slot s) k) is live)

  was : (other : ℕ) → IsLiveIn (set sessions slot s) other → IsLiveIn sessions other
  was other live = sym (ap (λ t. is_live t.state) (there other (another other live))) ∙ live

  -- a page that is left is of another slot, and was there
  left_page : (k page frame : ℕ) → frame_of (without_pages pages slot) k page ≡ Some frame
      → (k ≢ slot) × (frame_of pages k page ≡ Some frame)
  left_page k page frame is = elim (eqb_tells k slot) [
    | inl its ↦ absurd (let none = pages-gone pages slot page in
        let one : frame_of (without_pages pages slot) slot page ≡ Some frame =
        subst (λ j. frame_of (without_pages pages slot) j page ≡ Some frame) its.1 is in cc)
    | inr differs ↦ (differs.1, sym (pages-other pages slot k page differs.1) ∙ is)
  ]

  left_way : (place : ℕ) → (way_at (without_slot slot ways) place).slot ≢ 0
      → (way_at (without_slot slot ways) place ≡ way_at ways place)
      × ((way_at ways place).slot ≢ slot)
  left_way place filled =
      let is = way-without slot ways place in
      let kept = free_if-left slot (way_at ways place)
      (λ none. filled (ap (λ w. w.slot) is ∙ none)) in
      (is ∙ kept.0, kept.1)

  clean_out : (place : ℕ) → (way_at (without_slot slot ways) place).slot ≡ 0
      → (way_at (without_slot slot ways) place).dirty ≡ false
  clean_out place none =
      let is = way-without slot ways place in
      elim (eqb_tells (way_at ways place).slot slot) [
        | inl its ↦ ap (λ w. w.dirty) is ∙ rw its.0 refl
        | inr other ↦ let same = is ∙ free_if-other slot (way_at ways place) other.1 in
            ap (λ w. w.dirty) same ∙ fits.clean place (sym (ap (λ w. w.slot) same) ∙ none)
      ]

  pub fits_without : PartsFit (set sessions slot s) (without_pages pages slot) (without_slot slot ways)
      ram stores keys boot
  fits_without = record {
    frames = λ k page frame is. fits.frames k page frame (left_page k page frame is).1;
    owned = λ k page frame is. let left = left_page k page frame is in ap (λ t. is_live t.state)
        (there k left.0) ∙ fits.owned k page frame left.1;
    mapped = λ place filled. let kept = left_way place filled in
        let before = fits.mapped place (λ none. filled (ap (λ w. w.slot) kept.0 ∙ none)) in (
          before.0,
          subst (λ w. frame_of (without_pages pages slot) w.slot
              (page_of w.line) ≡ Some before.0) (sym kept.0) (pages-other pages slot _ _ kept.1
              ∙ before.1),
        );
    clean = clean_out;
    places = length-map ways (free_if slot) ∙ fits.places;
    areas = λ k live. fits.areas k (was k live);
    ready = λ k live. subst (λ t. Serves (keys_at keys k) boot t) (sym (there k (another k live)))
        (fits.ready k (was k live));
  }

-- the same, of what the code has made of pages and ways
pub fits_gone : (sessions : List Session) (pages left_pages : Pages) (ways left_ways : List Way)
    (ram : List ℕ) (stores : List Store) (keys : List GuestKeys) (boot slot : ℕ) (s : Session)
    → left_pages ≡ without_pages pages slot → left_ways ≡ without_slot slot ways
    → is_live s.state ≡ false
    → PartsFit sessions pages ways ram stores keys boot
    → PartsFit (set sessions slot s) left_pages left_ways ram stores keys boot
fits_gone sessions pages left_pages ways left_ways ram stores keys boot slot s pages_are ways_are
    dead fits =
    rw (pages_are, ways_are) (fits_without sessions pages ways ram stores keys boot slot s dead
    fits)
