-- What is seen of cells, slots and areas after a change of one.
use Rattle.std.proofs.Common.{◌≡◌, ◌≢◌, inl, inr, ℕ, zero, suc, ◌+◌, ◌<◌, ◌==◌, Bool, true, false, cond, if◌then◌else◌, List, [], ◌∷◌, ◌++◌, length, map, refl, sym, ◌∙◌, ap, subst, arith, slice_set, slice_index_or, Option, None}
use Rattle.std.specs.List.{range_with_len}
use Rattle.std.proofs.lemmas.List.{map-set, get_or-set_same, get_or-set_other, get_or_past, length-set}
use Rattle.std.proofs.lemmas.List.FromFn.{get_or-map-range_with_len}
use Rattle.std.proofs.lemmas.Bool.Decides.{eqb_tells}
use Rattle.xom_base.specs.declared.step.Writes.{Writes}
use Rattle.xom_base.specs.declared.step.Writes.TheVariants as writes
use Rattle.xom_base.specs.declared.step.Released.{Released}
use Rattle.xom_base.specs.declared.step.Released.TheVariants as released
use Rattle.tag_regs.specs.declared.cell.Cell.{Cell}
use Rattle.tag_regs.specs.TaggedCells.{cells_after_scrub, empty_cell, scrubbed_cell}
use Rattle.session_table.specs.declared.session.Session.{Session}
use Rattle.session_table.specs.Sessions.{free, is_live}
use Rattle.xom_versions.specs.Store.{Store, no_store}
use Rattle.xom_versions.specs.Versions.{Raised, Versions}
use Rattle.xom_model.specs.State.{CoreState, session_of, store_of}
use Rattle.xom_model.specs.Guest.{mask_written, with_release, with_writes}
use Rattle.xom_model.specs.Holds.{IsLive}
use Rattle.xom_model.specs.Seen.{area_of, shown_cell, shown_slot}
use Rattle.xom_model.proofs.Gone.{less}
use Rattle.xom_seen.specs.Emission.{Signal, names_of}
use Rattle.xom_seen.specs.SeenNext.{Sight, after_signal, after_signals, cells_named_for_slot, hidden_cell, mask_named, sight_slot}

-- the areas of the slots
abbrev pub areas_of : CoreState → List (Option ℕ)
areas_of core = map (area_of core) (range_with_len 0 17)

-- what is seen of a core
unfoldable pub sight_of : CoreState → Sight
sight_of core = record {
  cells = map shown_cell core.cells;
  slots = map shown_slot core.sessions;
  pages = core.pages;
  areas = areas_of core;
  ram = core.ram;
  installs = core.installs;
}

-- ---- Slots

-- an element of a list that is shown, where what stands behind the list's end is shown too
pub at_map : {A B : Type 0} (f : A → B) (xs : List A) (i : ℕ) (d : A)
    → slice_index_or (map f xs) i (f d) ≡ f (slice_index_or xs i d)
at_map f [] zero d = refl
at_map f [] (suc i) d = refl
at_map f (x ∷ xs) zero d = refl
at_map f (x ∷ xs) (suc i) d = at_map f xs i d

-- a slot as it is seen
pub slot_at-is : (core : CoreState) (slot : ℕ)
    → sight_slot (sight_of core) slot ≡ shown_slot (session_of core slot)
unfolding sight_of
slot_at-is core slot = at_map shown_slot core.sessions slot free

-- a live slot has a session
pub live_within : (core : CoreState) (slot : ℕ) → IsLive core slot → slot < length core.sessions
live_within core slot live = elim (less slot (length core.sessions)) [
  | inl within ↦ within
  | inr past ↦ absurd (let its = ap (λ s. s.state) (get_or_past core.sessions slot free past) in cc)
]

-- ---- Cells

-- a cell keeps its tag
shown_tag : (cell : Cell) → (shown_cell cell).tag ≡ cell.tag
shown_tag cell = elim (cell.tag == 0) as
    (λ b. (cond b cell (record { value = 0; tag = cell.tag })).tag ≡ cell.tag) [
      | true ↦ refl
      | false ↦
          refl
    ]

-- a slot's cell is hidden
pub shown_hidden : (slot value : ℕ) → (slot == 0) ≡ false
    → shown_cell (record { value = value; tag = slot }) ≡ hidden_cell slot
shown_hidden slot value some = rw some refl

pub shown_scrubbed : (slot : ℕ) (cells : List Cell)
    → map shown_cell (cells_after_scrub slot cells) ≡ cells_after_scrub slot (map shown_cell cells)
shown_scrubbed slot [] = refl
shown_scrubbed slot (cell ∷ cells) =
    let here : shown_cell (scrubbed_cell slot cell) ≡ scrubbed_cell slot (shown_cell cell) =
    scrubbed_here slot cell in
    let rest = shown_scrubbed slot cells in cc
  where
    chosen : (slot : ℕ) (cell : Cell) (b : Bool)
        → shown_cell (cond b empty_cell cell) ≡ cond b empty_cell (shown_cell cell)
    chosen slot cell true = refl
    chosen slot cell false = refl

    scrubbed_here : (slot : ℕ) (cell : Cell)
        → shown_cell (scrubbed_cell slot cell) ≡ scrubbed_cell slot (shown_cell cell)
    scrubbed_here slot cell =
        chosen slot cell (cell.tag == slot)
        ∙ ap (λ t. cond (t == slot) empty_cell (shown_cell cell)) (sym (shown_tag cell))

-- what a step wrote is hidden
pub shown_tagged : (slot : ℕ) (cells : List Cell) (written : Writes) → (slot == 0) ≡ false
    → map shown_cell (with_writes slot cells written) ≡ cells_named_for_slot slot (map shown_cell cells)
    (names_of written)
shown_tagged slot cells writes.Nothing some = refl
shown_tagged slot cells (writes.One reg value) some =
    map-set shown_cell cells reg _
    ∙ ap (λ c. slice_set (map shown_cell cells) reg c) (shown_hidden slot value some)
shown_tagged slot cells (writes.Pair hi lo) some =
    map-set shown_cell (slice_set cells 32 (record { value = hi; tag = slot })) 33 _
    ∙ ap (λ c. slice_set (map shown_cell (slice_set cells 32 (record { value = hi; tag = slot })))
    33 c) (shown_hidden slot lo some)
    ∙ ap (λ (cs : List Cell). slice_set cs 33 (hidden_cell slot)) (map-set shown_cell cells 32 _
    ∙ ap (λ c. slice_set (map shown_cell cells) 32 c) (shown_hidden slot hi some))

-- what it released is open
pub shown_untagged : (cells : List Cell) (given : Released)
    → map shown_cell (with_release cells given) ≡ with_release (map shown_cell cells) given
shown_untagged cells released.Nothing = refl
shown_untagged cells (released.Cell reg value) = map-set shown_cell cells reg _
shown_untagged cells (released.Null address value) = refl

pub mask_named-is : (mask : ℕ) (written : Writes)
    → mask_named mask (names_of written) ≡ mask_written mask written
mask_named-is mask writes.Nothing = refl
mask_named-is mask (writes.One reg value) = refl
mask_named-is mask (writes.Pair hi lo) = refl

-- ---- Areas

-- a table of a function that changes at one place, or at none
ranged-same : {B : Type 0} (f g : ℕ → B) (a n : ℕ) → ((i : ℕ) → f i ≡ g i)
    → map f (range_with_len a n) ≡ map g (range_with_len a n)
ranged-same f g a zero same = refl
ranged-same f g a (suc n) same =
    let here : f a ≡ g a = same a in let rest = ranged-same f g (a + 1) n same in cc

ranged-set : {B : Type 0} (f g : ℕ → B) (x : B) (a n k : ℕ) → k < n → f (a + k) ≡ x
    → ((i : ℕ) → i ≢ a + k → f i ≡ g i)
    → map f (range_with_len a n) ≡ slice_set (map g (range_with_len a n)) k x
ranged-set f g x a zero k low is others = absurd (omega arith)
ranged-set f g x a (suc n) zero low is others =
    let here : f a ≡ x = ap f (let sum : a ≡ a + 0 = omega arith in sum) ∙ is in
    let rest : map f (range_with_len (a + 1) n) ≡ map g (range_with_len (a + 1) n) =
    later (a + 1) n (omega arith) in cc
  where
    later : (b m : ℕ) → a < b → map f (range_with_len b m) ≡ map g (range_with_len b m)
    later b zero above = refl
    later b (suc m) above =
        let first : f b
        ≡ g b = others b (λ same. absurd (omega arith)) in let rest =
        later (b + 1) m (omega arith) in cc
ranged-set f g x a (suc n) (suc k) low is others =
    let here : f a ≡ g a = others a (λ same. absurd (omega arith)) in
    let sum : a + 1 + k ≡ a + suc k = omega arith in
    let rest : map f (range_with_len (a + 1) n) ≡ slice_set (map g (range_with_len (a + 1) n)) k x =
    ranged-set f g x (a + 1) n k (omega arith) (ap f sum ∙ is)
    (λ i differs. others i (λ same. differs (same ∙ sym sum))) in cc

pub areas-same : (core new : CoreState) → ((slot : ℕ) → area_of new slot ≡ area_of core slot)
    → areas_of new ≡ areas_of core
areas-same core new same = ranged-same (area_of new) (area_of core) 0 17 same

pub areas-set : (core new : CoreState) (slot : ℕ) (area : Option ℕ) → slot < 17
    → area_of new slot ≡ area
    → ((other : ℕ) → other ≢ slot → area_of new other ≡ area_of core other)
    → areas_of new ≡ slice_set (areas_of core) slot area
areas-set core new slot area low is others =
    let sum : 0 + slot ≡ slot = omega arith in
    ranged-set (area_of new) (area_of core) area 0 17 slot low (ap (area_of new) sum ∙ is)
    (λ other differs. others other (λ same. differs (same ∙ sym sum)))

-- the area of a live slot is seen
pub area_at-is : (core : CoreState) (slot : ℕ) → slot < 17 → IsLive core slot
    → slice_index_or (areas_of core) slot None ≡ (store_of core slot).area
area_at-is core slot low live =
    get_or-map-range_with_len (area_of core) 0 17 slot slot None low (omega arith) ∙ rw live refl

-- the area that is seen of a session beside a store
abbrev pub area_if : Session → Store → Option ℕ
area_if s store = if is_live s.state then store.area else None

-- another session in a slot that is as live as the one before, beside the same stores
pub areas-session : (core new : CoreState) (slot : ℕ) (session : Session) → new.stores ≡ core.stores
    → new.sessions ≡ slice_set core.sessions slot session
    → slot < length core.sessions → is_live session.state ≡ is_live (session_of core slot).state
    → areas_of new ≡ areas_of core
areas-session core new slot session stores sessions within same = areas-same core new (λ k.
    ap (λ list. area_if (slice_index_or list k free) (store_of new k)) sessions
    ∙ ap (λ list. area_if (slice_index_or (slice_set core.sessions slot session) k free)
    (slice_index_or list k no_store)) stores
    ∙ elim (eqb_tells k slot) [
      | inl is ↦
          subst (λ j. area_if (slice_index_or (slice_set core.sessions slot session) j free)
          (store_of core j) ≡ area_of core j) (sym is.1)
          (ap (λ s. area_if s (store_of core slot)) (get_or-set_same core.sessions slot session free
          within) ∙ ap (λ b. if b then (store_of core slot).area else None) same)
      | inr other ↦ ap (λ s. area_if s (store_of core k)) (get_or-set_other core.sessions slot k
          session free other.1)
    ])

-- a session that isn't live: the slot shows no area
pub areas-gone : (core new : CoreState) (slot : ℕ) (session : Session) → new.stores ≡ core.stores
    → new.sessions ≡ slice_set core.sessions slot session
    → slot < length core.sessions → slot < 17 → is_live session.state ≡ false
    → areas_of new ≡ slice_set (areas_of core) slot None
areas-gone core new slot session stores sessions within low dead = areas-set core new slot None low
    (ap (λ list. area_if (slice_index_or list slot free) (store_of new slot)) sessions
    ∙ ap (λ s. area_if s (store_of new slot)) (get_or-set_same core.sessions slot session free
    within) ∙ rw dead refl)
    (λ k differs.
    ap (λ list. area_if (slice_index_or list k free) (store_of new k)) sessions
    ∙ ap (λ list. area_if (slice_index_or (slice_set core.sessions slot session) k free)
    (slice_index_or list k no_store)) stores
    ∙ ap (λ s. area_if s (store_of core k)) (get_or-set_other core.sessions slot k session free
    differs))

-- another store in a slot, of the same area
pub area-stored : (stores : List Store) (slot : ℕ) (store : Store) (k : ℕ)
    → store.area ≡ (slice_index_or stores slot no_store).area
    → (slice_index_or (slice_set stores slot store) k no_store).area ≡ (slice_index_or stores k
    no_store).area
area-stored stores slot store k same = elim (eqb_tells k slot) [
  | inl is ↦ subst (λ j. (slice_index_or (slice_set stores slot store) j no_store).area
      ≡ (slice_index_or stores j no_store).area) (sym is.1) (elim (less slot (length stores)) [
        | inl within ↦ ap (λ (s : Store). s.area) (get_or-set_same stores slot store no_store within)
            ∙ same
        | inr past ↦
            ap (λ (s : Store). s.area) (get_or_past (slice_set stores slot store) slot no_store
            (let sized = length-set stores slot store in omega arith)
            ∙ sym (get_or_past stores slot no_store past))
      ])
  | inr other ↦ ap (λ (s : Store). s.area) (get_or-set_other stores slot k store no_store other.1)
]

-- ---- Signals one after another

pub after_signals-append : (v : Versions) (raised : Raised) (slot address : ℕ) (s : Sight)
    (xs ys : List Signal)
    → after_signals v raised slot address s (xs ++ ys) ≡ after_signals v raised slot address
    (after_signals v raised slot address s xs) ys
after_signals-append v raised slot address s [] ys = refl
after_signals-append v raised slot address s (x ∷ xs) ys =
    after_signals-append v raised slot address (after_signal v raised slot address s x) xs ys
