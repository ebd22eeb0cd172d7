-- At power-on no slot is live, no page is mapped and no line is cached.
use Rattle.std.proofs.Common.{◌≡◌, inl, inr, ℕ, List, None, length, replicate, ◌∙◌, ap, get_or}
use Rattle.std.proofs.lemmas.List.{get_or-replicate, get_or_past, length-replicate}
use Rattle.line_cache.specs.declared.way.Way.{Way}
use Rattle.line_cache.specs.Ways.{free_way, no_ways, way_at}
use Rattle.page_map.specs.Pages.{Pages, frame_of, no_pages, nothing_mapped}
use Rattle.session_table.specs.declared.session.Session.{Session}
use Rattle.session_table.specs.Sessions.{free, none_held, session_at}
use Rattle.slot_keys.specs.GuestKeys.{GuestKeys}
use Rattle.xom_versions.specs.Store.{Store}
use Rattle.xom_model.proofs.Gone.{frame-none, less}
use Rattle.xom_private.specs.Cores.{PartsFit}

free_at : (slot : ℕ) → session_at none_held slot ≡ free
unfolding none_held
free_at slot = elim (less slot 17) [
  | inl within ↦ get_or-replicate 17 slot free free within
  | inr past ↦ get_or_past (replicate 17 free) slot free past
]

way_free : (place : ℕ) → way_at no_ways place ≡ free_way
unfolding no_ways
way_free place = elim (less place 128) [
  | inl within ↦ get_or-replicate 128 place free_way free_way within
  | inr past ↦ get_or_past (replicate 128 free_way) place free_way past
]

ways_made : length no_ways ≡ 128
unfolding no_ways
ways_made = length-replicate 128 free_way

none_mapped : (slot page : ℕ) → frame_of nothing_mapped slot page ≡ None
unfolding nothing_mapped
none_mapped slot page = elim (less slot 17) [
  | inl within ↦ ap (λ p. get_or p page None) (get_or-replicate 17 slot no_pages no_pages within)
      ∙ frame-none page
  | inr past ↦ ap (λ p. get_or p page None) (get_or_past (replicate 17 no_pages) slot no_pages past)
      ∙ frame-none page
]

pub fits_at_start : (ram : List ℕ) (stores : List Store) (keys : List GuestKeys) (boot : ℕ)
    → PartsFit none_held nothing_mapped no_ways ram stores keys boot
fits_at_start ram stores keys boot = record {
  frames = λ slot page frame is. absurd (let none = none_mapped slot page in cc);
  owned = λ slot page frame is. absurd (let none = none_mapped slot page in cc);
  mapped = λ place filled. absurd (filled (ap (λ w. w.slot) (way_free place)));
  clean = λ place none. ap (λ w. w.dirty) (way_free place);
  places = ways_made;
  areas = λ slot live. absurd (let none = free_at slot in cc);
  ready = λ slot live. absurd (let none = free_at slot in cc);
}

-- the same of what the code has made
pub fits_fresh : (sessions : List Session) (pages : Pages) (ways : List Way) (ram : List ℕ)
    (stores : List Store) (keys : List GuestKeys) (boot : ℕ)
    → sessions ≡ none_held → pages ≡ nothing_mapped → ways ≡ no_ways
    → PartsFit sessions pages ways ram stores keys boot
fits_fresh sessions pages ways ram stores keys boot a b c =
    rw (a, b, c) (fits_at_start ram stores keys boot)
