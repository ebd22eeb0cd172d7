-- The registers of a running guest beside those of its program: its mask is what the program owns,
-- and just the cells of the mask have its slot's tag, with the program's values. A step changes
-- both alike.
use Rattle.std.proofs.Common.{◌≡◌, ◌≢◌, ◌⊎◌, inl, inr, ℕ, ◌^◌, ◌<◌, ◌≤◌, List, length, set, refl, sym, ◌∙◌, ap, arith, length-set}
use Rattle.std.proofs.lemmas.List.{get_or-set_same, get_or-set_other}
use Rattle.std.proofs.lemmas.Bool.Decides.{eqb_tells}
use Rattle.std.proofs.lemmas.Nat.{pow_below}
use Rattle.std.proofs.lemmas.Nat.Bits.{bit_at_or, bit_at_and, bit_at_not, bit_at-pow_same, bit_at-pow_other, bit_at-lt}
use Rattle.std.specs.Int.{bit_at, bit_not, w64}
use Rattle.xom_base.specs.declared.step.Writes.{Writes}
use Rattle.xom_base.specs.declared.step.Writes.TheVariants as writes
use Rattle.xom_base.specs.declared.step.Released.{Released}
use Rattle.xom_base.specs.declared.step.Released.TheVariants as released
use Rattle.mips_effect.specs.Effects.{AreCells}
use Rattle.mips_plain.specs.declared.cell.PlainCell.{PlainCell}
use Rattle.mips_plain.specs.declared.cell.PlainCell.TheVariants.{Own, Lent}
use Rattle.mips_plain.specs.Machine.{plain_cell_at as plain_cell, with_lent, with_owned}
use Rattle.tag_regs.specs.declared.cell.Cell.{Cell}
use Rattle.tag_regs.specs.TaggedCells.{cell_at, empty_cell}
use Rattle.session_table.specs.Masks.{mask_with_cell, without_cell}
use Rattle.xom_model.specs.Guest.{mask_released, mask_written, with_release, with_writes}
use Rattle.xom_model.specs.Holds.{own_bit}

-- the mask after a cell was added
with_cell-same : (mask reg : ℕ) → bit_at (mask_with_cell mask reg) reg ≡ 1
unfolding mask_with_cell
with_cell-same mask reg =
    bit_at_or mask (2 ^ reg) reg
    ∙ rw (bit_at-pow_same reg) (let low : bit_at mask reg < 2 = bit_at-lt mask reg in omega arith)

with_cell-other : (mask reg other : ℕ) → other ≢ reg
    → bit_at (mask_with_cell mask reg) other ≡ bit_at mask other
unfolding mask_with_cell
with_cell-other mask reg other differs =
    bit_at_or mask (2 ^ reg) other ∙ rw (bit_at-pow_other reg other differs) (omega arith)

-- and after one was taken out
without_cell-same : (mask reg : ℕ) → reg < 64 → bit_at (without_cell mask reg) reg ≡ 0
unfolding without_cell
without_cell-same mask reg known =
    bit_at_and mask (bit_not w64 (2 ^ reg)) reg
    ∙ rw (bit_at_not w64 (2 ^ reg) reg (pow_below reg 64 known) known)
    (rw (bit_at-pow_same reg) (omega arith))

without_cell-other : (mask reg other : ℕ) → reg < 64 → other < 64 → other ≢ reg
    → bit_at (without_cell mask reg) other ≡ bit_at mask other
unfolding without_cell
without_cell-other mask reg other known within differs =
    bit_at_and mask (bit_not w64 (2 ^ reg)) other
    ∙ rw (bit_at_not w64 (2 ^ reg) other (pow_below reg 64 known) within)
    (rw (bit_at-pow_other reg other differs) (let low : bit_at mask other < 2 =
    bit_at-lt mask other in omega arith))

pub record Tied (slot : ℕ) (cells : List Cell) (owns : List PlainCell) (mask : ℕ) : Type 0 where
  pub bits : (reg : ℕ) → 1 ≤ reg → reg < 34 → bit_at mask reg ≡ own_bit (plain_cell owns reg)
  pub values : (reg : ℕ) → 1 ≤ reg → reg < 34 → (cell_at cells reg).tag ≡ slot
      → plain_cell owns reg ≡ Own (cell_at cells reg).value
  pub tags : (reg : ℕ) → 1 ≤ reg → reg < 34 → bit_at mask reg ≡ 1 → (cell_at cells reg).tag ≡ slot
  pub cell_places : length cells ≡ 34
  pub own_places : length owns ≡ 34

module _ (slot : ℕ) (cells : List Cell) (owns : List PlainCell) (mask reg value : ℕ)
    (known : reg < 34) (tied : Tied slot cells owns mask) where
  new_cell : (tag : ℕ) → cell_at (set cells reg (record { value = value; tag = tag }))
      reg ≡ record { value = value; tag = tag }
  new_cell tag =
      get_or-set_same cells reg _ empty_cell
      (let whole : length cells ≡ 34 = tied.cell_places in omega arith)

  new_own : (own : PlainCell) → plain_cell (set owns reg own) reg ≡ own
  new_own own =
      get_or-set_same owns reg own Lent
      (let whole : length owns ≡ 34 = tied.own_places in omega arith)

  -- a cell is written
  Tied-owned : Tied slot (set cells reg (record { value = value; tag = slot }))
      (set owns reg (Own value)) (mask_with_cell mask reg)
  Tied-owned = record {
    bits = λ r from to. elim (eqb_tells r reg) [
      | inl is ↦ rw is.1 (with_cell-same mask reg ∙ sym (ap own_bit (new_own (Own value))))
      | inr other ↦ with_cell-other mask reg r other.1 ∙ tied.bits r from to
          ∙ sym (ap own_bit (get_or-set_other owns reg r (Own value) Lent other.1))
    ];
    values = λ r from to tag. elim (eqb_tells r reg) [
      | inl is ↦ rw is.1 (new_own (Own value) ∙ ap (λ c. Own c.value) (sym (new_cell slot)))
      | inr other ↦
          let same = get_or-set_other cells reg r (record { value = value; tag = slot }) empty_cell
          other.1 in
          get_or-set_other owns reg r (Own value) Lent other.1 ∙ tied.values r from to
          (ap (λ c. c.tag) (sym same) ∙ tag) ∙ ap (λ c. Own c.value) (sym same)
    ];
    tags = λ r from to bit. elim (eqb_tells r reg) [
      | inl is ↦ rw is.1 (ap (λ c. c.tag) (new_cell slot))
      | inr other ↦
          ap (λ c. c.tag) (get_or-set_other cells reg r (record { value = value; tag = slot }) empty_cell
          other.1)
          ∙ tied.tags r from to (sym (with_cell-other mask reg r other.1) ∙ bit)
    ];
    cell_places = length-set cells reg _ ∙ tied.cell_places;
    own_places = length-set owns reg _ ∙ tied.own_places;
  }

  -- a cell is released
  Tied-lent : slot ≢ 0
      → Tied slot (set cells reg (record { value = value; tag = 0 })) (set owns reg Lent)
      (without_cell mask reg)
  Tied-lent some = record {
    bits = λ r from to. elim (eqb_tells r reg) [
      | inl is ↦ rw is.1 (without_cell-same mask reg (omega arith)
          ∙ sym (ap own_bit (new_own Lent)))
      | inr other ↦ without_cell-other mask reg r (omega arith) (omega arith) other.1
          ∙ tied.bits r from to ∙ sym (ap own_bit (get_or-set_other owns reg r Lent Lent other.1))
    ];
    values = λ r from to tag. elim (eqb_tells r reg) [
      | inl is ↦ absurd (some (sym (rw is.1 at tag) ∙ ap (λ c. c.tag) (new_cell 0)))
      | inr other ↦
          let same = get_or-set_other cells reg r (record { value = value; tag = 0 }) empty_cell
          other.1 in
          get_or-set_other owns reg r Lent Lent other.1 ∙ tied.values r from to
          (ap (λ c. c.tag) (sym same) ∙ tag) ∙ ap (λ c. Own c.value) (sym same)
    ];
    tags = λ r from to bit. elim (eqb_tells r reg) [
      | inl is ↦ absurd (let none : bit_at (without_cell mask reg) reg ≡ 0 = without_cell-same mask
          reg (omega arith) in let one : bit_at (without_cell mask reg) reg ≡ 1 = rw is.1 at bit in
          omega arith)
      | inr other ↦
          ap (λ c. c.tag) (get_or-set_other cells reg r (record { value = value; tag = 0 }) empty_cell
          other.1)
          ∙ tied.tags r from to
          (sym (without_cell-other mask reg r (omega arith) (omega arith) other.1) ∙ bit)
    ];
    cell_places = length-set cells reg _ ∙ tied.cell_places;
    own_places = length-set owns reg _ ∙ tied.own_places;
  }

-- what a step writes
pub Tied-written : (slot : ℕ) (cells : List Cell) (owns : List PlainCell) (mask : ℕ)
    (written : Writes)
    → AreCells written → Tied slot cells owns mask
    → Tied slot (with_writes slot cells written) (with_owned owns written)
    (mask_written mask written)
Tied-written slot cells owns mask writes.Nothing known tied = tied
Tied-written slot cells owns mask (writes.One reg value) known tied =
    Tied-owned slot cells owns mask reg value known.1 tied
Tied-written slot cells owns mask (writes.Pair hi lo) known tied =
    Tied-owned slot _ _ _ 33 lo (omega arith) (Tied-owned slot cells owns mask 32 hi (omega arith)
    tied)

-- a released cell is known
abbrev pub IsKnown : Released → Type 0
IsKnown released.Nothing = Unit {0}
IsKnown (released.Cell reg value) = (1 ≤ reg) × (reg < 34)
IsKnown (released.Null address value) = Unit {0}

-- what a step releases
pub Tied-released : (slot : ℕ) (cells : List Cell) (owns : List PlainCell) (mask : ℕ)
    (given : Released)
    → IsKnown given → slot ≢ 0 → Tied slot cells owns mask
    → Tied slot (with_release cells given) (with_lent owns given) (mask_released mask given)
Tied-released slot cells owns mask released.Nothing known some tied = tied
Tied-released slot cells owns mask (released.Cell reg value) known some tied =
    Tied-lent slot cells owns mask reg value known.1 tied some
Tied-released slot cells owns mask (released.Null address value) known some tied = tied

-- a cell with another slot's tag is as it was before a step
foreign-set : (slot tag reg r value : ℕ) (cells : List Cell) → length cells ≡ 34 → reg < 34
    → (tag ≡ 0) ⊎ (tag ≡ slot)
    → (cell_at (set cells reg (record { value = value; tag = tag })) r).tag ≢ 0
    → (cell_at (set cells reg (record { value = value; tag = tag })) r).tag ≢ slot
    → cell_at (set cells reg (record { value = value; tag = tag })) r ≡ cell_at cells r
foreign-set slot tag reg r value cells whole known own some other = elim (eqb_tells r reg) [
  | inl is ↦
      let here : (cell_at (set cells reg (record { value = value; tag = tag })) r).tag ≡ tag =
      rw is.1 (ap (λ c. c.tag) (get_or-set_same cells reg _ empty_cell (omega arith))) in
      absurd (elim own [ inl none ↦ some (here ∙ none) | inr its ↦ other (here ∙ its) ])
  | inr differs ↦ get_or-set_other cells reg r _ empty_cell differs.1
]

pub foreign-written : (slot r : ℕ) (cells : List Cell) (written : Writes) → length cells ≡ 34
    → AreCells written
    → (cell_at (with_writes slot cells written) r).tag ≢ 0
    → (cell_at (with_writes slot cells written) r).tag ≢ slot
    → cell_at (with_writes slot cells written) r ≡ cell_at cells r
foreign-written slot r cells writes.Nothing whole known some other = refl
foreign-written slot r cells (writes.One reg value) whole known some other =
    foreign-set slot slot reg r value cells whole known.1 (inr refl) some other
foreign-written slot r cells (writes.Pair hi lo) whole known some other =
    let first = set cells 32 (record { value = hi; tag = slot }) in
    let same = foreign-set slot slot 33 r lo first (length-set cells 32 _ ∙ whole) (omega arith)
    (inr refl) some other in
    same ∙ foreign-set slot slot 32 r hi cells whole (omega arith) (inr refl)
    (λ none. some (ap (λ c. c.tag) same ∙ none)) (λ its. other (ap (λ c. c.tag) same ∙ its))

pub length-written : (slot : ℕ) (cells : List Cell) (written : Writes)
    → length (with_writes slot cells written) ≡ length cells
length-written slot cells writes.Nothing = refl
length-written slot cells (writes.One reg value) = length-set cells reg _
length-written slot cells (writes.Pair hi lo) = length-set _ 33 _ ∙ length-set cells 32 _

pub foreign-released : (slot r : ℕ) (cells : List Cell) (given : Released) → length cells ≡ 34
    → IsKnown given
    → (cell_at (with_release cells given) r).tag ≢ 0
    → (cell_at (with_release cells given) r).tag ≢ slot
    → cell_at (with_release cells given) r ≡ cell_at cells r
foreign-released slot r cells released.Nothing whole known some other = refl
foreign-released slot r cells (released.Cell reg value) whole known some other =
    foreign-set slot 0 reg r value cells whole known.1 (inl refl) some other
foreign-released slot r cells (released.Null address value) whole known some other = refl
