-- What a change of one page, or of all pages of a slot, does to the frames.
use Rattle.std.proofs.Common.{◌≡◌, ◌≢◌, ℕ, ◌<◌, ◌≤◌, inl, inr, List, Option, None, length, get_or, slice_set, sym, ◌∙◌, ap, subst, arith}
use Rattle.std.proofs.lemmas.Bool.{cases_lt}
use Rattle.std.proofs.lemmas.Bool.Decides.{eqb_tells}
use Rattle.std.proofs.lemmas.List.{get_or-replicate, get_or-set_other, get_or-set_same, get_or_past, length-replicate, length-set}
use Rattle.page_map.specs.Pages.{ChangesPage, DropsPages, IsPageMap, Pages, frame_of, no_pages, nothing_mapped, pages_at, with_page, without_pages}

pub no_pages-length : length no_pages ≡ 256
unfolding no_pages
no_pages-length = length-replicate {A = Option ℕ} 256 None

no_frame : (page : ℕ) → get_or no_pages page None ≡ None
unfolding no_pages
no_frame page = elim (cases_lt page 256) [
  | inl within ↦ get_or-replicate 256 page None None within
  | inr past ↦ get_or_past no_pages page None (let size = no_pages-length in omega arith)
]

pub nothing_mapped_is_map : IsPageMap nothing_mapped
unfolding nothing_mapped
nothing_mapped_is_map = record {
  slots = length-replicate 17 no_pages;
  pages_of = λ slot. elim (cases_lt slot 17) [
    | inl within ↦ ap length (get_or-replicate 17 slot no_pages no_pages within) ∙ no_pages-length
    | inr past ↦ ap length (get_or_past nothing_mapped slot no_pages (let size =
        length-replicate 17 no_pages in omega arith)) ∙ no_pages-length
  ];
}

module _ (pages : Pages) (sound : IsPageMap pages) (slot : ℕ) (known : slot ≤ 16)
    (own : List (Option ℕ)) where
  abbrev new : Pages
  new = slice_set pages slot own

  here : pages_at new slot ≡ own
  here = let size = sound.slots in get_or-set_same pages slot own no_pages (omega arith)

  there : (other : ℕ) → other ≢ slot → pages_at new other ≡ pages_at pages other
  there other differs = get_or-set_other pages slot other own no_pages differs

  pub set_is_map : length own ≡ 256 → IsPageMap new
  set_is_map size = record {
    slots = length-set pages slot own ∙ sound.slots;
    pages_of = λ at. elim (eqb_tells at slot) [
      | inl same ↦ ap (λ n. length (pages_at new n)) same.1 ∙ ap length here ∙ size
      | inr other ↦ ap length (there at other.1) ∙ sound.pages_of at
    ];
  }

module _ (pages : Pages) (sound : IsPageMap pages) (slot page : ℕ) (known : slot ≤ 16)
    (inside : page < 256) (frame : Option ℕ) where
  pub with_page_is_map : IsPageMap (with_page pages slot page frame)
  with_page_is_map =
      set_is_map pages sound slot known _
      (length-set (pages_at pages slot) page frame ∙ sound.pages_of slot)

  abbrev own : List (Option ℕ)
  own = slice_set (pages_at pages slot) page frame

  pub changes_page : ChangesPage pages (with_page pages slot page frame) slot page frame
  changes_page = record {
    this_page = ap (λ ps. get_or ps page None) (here pages sound slot known own)
        ∙ get_or-set_same (pages_at pages slot) page frame None (let size = sound.pages_of slot in
        omega arith);
    other_pages = λ who other differs. elim (eqb_tells who slot) [
      | inl same ↦
          ap (λ n. frame_of (with_page pages slot page frame) n other) same.1
          ∙ ap (λ ps. get_or ps other None) (here pages sound slot known own)
          ∙ get_or-set_other (pages_at pages slot) page other frame None (differs same.1)
          ∙ sym (ap (λ n. frame_of pages n other) same.1)
      | inr not ↦ ap (λ ps. get_or ps other None) (there pages sound slot known own who not.1)
    ];
  }

module _ (pages : Pages) (sound : IsPageMap pages) (slot : ℕ) (known : slot ≤ 16) where
  pub without_pages_is_map : IsPageMap (without_pages pages slot)
  without_pages_is_map = set_is_map pages sound slot known no_pages no_pages-length

  pub drops_pages : DropsPages pages (without_pages pages slot) slot
  drops_pages = record {
    none = λ page. ap (λ ps. get_or ps page None) (here pages sound slot known no_pages)
        ∙ no_frame page;
    other_slots = λ other page differs. ap (λ ps. get_or ps page None)
        (there pages sound slot known no_pages other differs);
  }

pub dropped : (opened pages : Pages) → opened ≡ pages → IsPageMap opened → (slot at : ℕ) → slot ≤ 16
    → at ≡ slot
    → (own : List (Option ℕ)) → own ≡ no_pages → DropsPages pages (slice_set opened at own) slot
dropped opened pages same sound slot at known at_is own own_is =
    rw (same, at_is, own_is) (drops_pages pages (subst IsPageMap same sound) slot known)
