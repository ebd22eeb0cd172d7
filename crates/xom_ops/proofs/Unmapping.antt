-- A page whose lines left the cache is unmapped.
use Rattle.std.proofs.Common.{◌≡◌, ◌≢◌, inl, inr, ℕ, List, Option, Some, None, refl, sym, ◌∙◌, subst}
use Rattle.xom_base.specs.declared.event.Rule.{Rule}
use Rattle.line_cache.specs.declared.way.Way.{Way}
use Rattle.line_cache.specs.Lines.{HasNoLine}
use Rattle.line_cache.specs.Ways.{way_at}
use Rattle.line_cache.proofs.Search.{found-None}
use Rattle.page_map.specs.Pages.{ChangesPage, Pages, frame_of}
use Rattle.session_table.specs.declared.session.Session.{Session}
use Rattle.slot_keys.specs.GuestKeys.{GuestKeys}
use Rattle.xom_versions.specs.Store.{Store}
use Rattle.xom_versions.specs.Versions.{Versions}
use Rattle.xom_model.specs.Operation.{after_unmap, first_refusal_or, unmap_page}
use Rattle.xom_model.specs.State.{CoreState, page_of}
use Rattle.xom_private.specs.Cores.{PartsFit}
use Rattle.xom_ops.specs.Refusals.{or_refused, page_tests, refusal}
use Rattle.xom_ops.specs.Unmapping.{frame_taken, mapped_tests, without_frame}
use Rattle.xom_ops.proofs.Fitting.{is_page}
use Rattle.xom_ops.proofs.Tested.{split_by}

-- ---- The row of tests, and what is behind it

pub unmap_parts : (v : Versions) (core : CoreState) (slot page : ℕ) (status : Option ℕ)
    → status ≡ refusal (page_tests core slot page)
    → or_refused core status (first_refusal_or core (mapped_tests core slot page)
    (frame_taken v core slot page)) ≡ unmap_page v core slot page
unmap_parts v core slot page status is =
    split_by core (mapped_tests core slot page) (frame_taken v core slot page)
    (page_tests core slot page) status is

module _ (v : Versions) (slot page : ℕ) where
  -- after a flush that came to its end the page is unmapped
  pub unmapped-flushed : (flush : CoreState × Option Rule) → None ≡ flush.1
      → after_unmap v slot page flush ≡ (without_frame flush.0 slot page, 0)
  unmapped-flushed (core, None) is = refl
  unmapped-flushed (core, Some why) is = absurd (cc)

  -- after one that stopped the slot nothing more is done
  pub unmapped-stopped : (flush : CoreState × Option Rule) (why : Rule) → Some why ≡ flush.1
      → after_unmap v slot page flush ≡ (flush.0, 8)
  unmapped-stopped (core, None) why is = absurd (cc)
  unmapped-stopped (core, Some other) why is = refl

-- ---- What the type keeps

module _ (sessions : List Session) (pages new : Pages) (ways : List Way) (ram : List ℕ)
    (stores : List Store) (keys : List GuestKeys) (boot slot page : ℕ)
    (changes : ChangesPage pages new slot page None) (flushed : HasNoLine ways slot page)
    (fits : PartsFit sessions pages ways ram stores keys boot) where
  was_mapped : (k at f : ℕ) → frame_of new k at ≡ Some f → frame_of pages k at ≡ Some f
  was_mapped k at f is = elim (is_page slot page k at) [
    | inl this ↦ absurd (
        let held : frame_of new slot page ≡ Some f = subst (λ j. frame_of new j page ≡ Some f)
        this.0 (subst (λ p. frame_of new k p ≡ Some f) this.1 is) in
        let none = changes.this_page in
        cc)
    | inr other ↦ sym (changes.other_pages k at other) ∙ is
  ]

  -- a cached line of the slot is of another page
  other_page : (place : ℕ) → (way_at ways place).slot ≢ 0 → (way_at ways place).slot ≡ slot
      → page_of (way_at ways place).line ≢ page
  other_page place filled own same =
      found-None ways slot (way_at ways place).line (λ none. filled (own ∙ none))
      (flushed (way_at ways place).line same) place (record { its_slot = own; its_line = refl })

  pub fits_unmapped : PartsFit sessions new ways ram stores keys boot
  fits_unmapped = record {
    frames = λ k at f is. fits.frames k at f (was_mapped k at f is);
    owned = λ k at f is. fits.owned k at f (was_mapped k at f is);
    mapped = λ place filled. let before = fits.mapped place filled in
        (before.0, changes.other_pages _ _ (other_page place filled) ∙ before.1);
    clean = fits.clean;
    places = fits.places;
    areas = fits.areas;
    ready = fits.ready;
  }
