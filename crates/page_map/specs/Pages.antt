-- The page map: for each compartment its 256 private pages, each with its frame or none. Place 0
-- is the null compartment's, which has no private page; places 1 to 16 are the slots'.
use Rattle.std.specs.Prelude.{ℕ, ◌≡◌, ◌≢◌, List, Option, None, length, replicate, slice_index_or, slice_set}
use Rattle.xom_base.specs.Sizes.{compartment_count, page_count}

-- for each compartment, for each of its pages, the frame or none
abbrev pub Pages : Type 0
Pages = List (List (Option ℕ))

-- no page of a compartment is mapped
unfoldable pub no_pages : List (Option ℕ)
no_pages = replicate page_count None

-- no page at all is mapped
unfoldable pub nothing_mapped : Pages
nothing_mapped = replicate compartment_count no_pages

-- the pages of a slot
abbrev pub pages_at : Pages → ℕ → List (Option ℕ)
pages_at pages slot = slice_index_or pages slot no_pages

-- the frame of a page of a slot, none where it isn't mapped
abbrev pub frame_of : Pages → ℕ → ℕ → Option ℕ
frame_of pages slot page = slice_index_or (pages_at pages slot) page None

-- the map in which a page of a slot has this frame, or none, and every other page is as it was
abbrev pub with_page : Pages → ℕ → ℕ → Option ℕ → Pages
with_page pages slot page frame =
    slice_set pages slot (slice_set (pages_at pages slot) page frame)

-- the map in which a slot has no page, and every other slot has those that it had
abbrev pub without_pages : Pages → ℕ → Pages
without_pages pages slot = slice_set pages slot no_pages

-- there is a place for each compartment, with 256 pages
pub record IsPageMap (pages : Pages) : Type 0 where
  pub slots : length pages ≡ compartment_count
  pub pages_of : (slot : ℕ) → length (pages_at pages slot) ≡ page_count

-- a page of a slot has this frame, or none, and every other page is as it was
pub record ChangesPage (old new : Pages) (slot page : ℕ) (frame : Option ℕ) : Type 0 where
  pub this_page : frame_of new slot page ≡ frame
  pub other_pages : (who other : ℕ) → (who ≡ slot → other ≢ page)
      → frame_of new who other ≡ frame_of old who other

-- no page of a slot is mapped, and every page of another slot is as it was
pub record DropsPages (old new : Pages) (slot : ℕ) : Type 0 where
  pub none : (page : ℕ) → frame_of new slot page ≡ None
  pub other_slots : (other page : ℕ) → other ≢ slot
      → frame_of new other page ≡ frame_of old other page
