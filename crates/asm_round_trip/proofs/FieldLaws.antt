-- The number that stands for an operand gives the operand's field again.
use Rattle.std.proofs.Common.{◌≡◌, ◌⊎◌, ℕ, ◌+◌, ◌-◌, ◌*◌, ◌/◌, ◌%◌, ◌^◌, ◌<◌, ◌≤◌, ◌||◌, ◌==◌, Bool, true, false, cond, leb, ltb, ℤ, pos, ◌+ℤ◌, ◌-ℤ◌, ◌*ℤ◌, Some, None, inl, inr, refl, ap, ◌∙◌, mul_comm, lit<, arith}
use Rattle.std.proofs.lemmas.Bool.{cases_Bool, eq-eqb, le-leb, lt-ltb, or_left, or_right, ltb-true, ltb-false}
use Rattle.std.proofs.lemmas.Int.{ints, int_rem_euclid_is}
use Rattle.std.specs.Int.{int_rem_euclid}
use Rattle.std.specs.Prelude.{unsigned_abs}
use Rattle.mips_text.specs.Texts.{operand_value}
use Rattle.mips_forms.specs.declared.operand.Operand.TheVariants.{Branch, Jump, Signed}
use Rattle.asm_tokens.specs.declared.integers.Integer.{Integer}
use Rattle.asm_tokens.specs.Integers.{whole}
use Rattle.mips_asm.specs.Encoding.{branch_field, distance, instruction_address, jump_field, signed_immediate, unsigned_below}

-- ---- numbers

-- a whole number that is natural is so with either sign, and in each range that has it
natural : (b : Bool) (n m low high : ℕ) → cond b (pos 0 -ℤ pos n) (pos n) ≡ pos m → m ≤ high
    → (n ≡ m) × (cond b (leb n low) (leb n high) ≡ true)
natural true n m low high is fits =
    (omega (arith, ints, is), le-leb n low (omega (arith, ints, is)))
natural false n m low high is fits =
    (omega (arith, ints, is), le-leb n high (omega (arith, ints, is)))

-- where it is below 2^16, its two's complement is itself
natural_wrapped : (b : Bool) (n m : ℕ) → cond b (pos 0 -ℤ pos n) (pos n) ≡ pos m → m < 2 ^ 16
    → cond b (2 ^ 16 - n) n % 2 ^ 16 ≡ m
natural_wrapped true n m is fits = omega (arith, ints, is)
natural_wrapped false n m is fits = omega (arith, ints, is)

-- a number below 0 is its two's complement less 2^16
below_wrapped : (b : Bool) (n m : ℕ) → cond b (pos 0 -ℤ pos n) (pos n) ≡ pos m -ℤ pos (2 ^ 16)
    → 2 ^ 15 ≤ m → m < 2 ^ 16
    → (cond b (leb n 32768) (leb n 32767) ≡ true) × (cond b (2 ^ 16 - n) n % 2 ^ 16 ≡ m)
below_wrapped true n m is large fits =
    (le-leb n 32768 (omega (arith, ints, is)), omega (arith, ints, is))
below_wrapped false n m is large fits = absurd (omega (arith, ints, is))

-- a number of 16 bits with its sign
abbrev signed_16 : ℕ → ℤ
signed_16 m = operand_value 0 (Signed m)

-- it is itself, or itself less 2^16
signed_16-is : (m : ℕ)
    → ((m < 2 ^ 15) × (signed_16 m ≡ pos m))
    ⊎ ((2 ^ 15 ≤ m) × (signed_16 m ≡ pos m -ℤ pos (2 ^ 16)))
signed_16-is m =
    elim (cases_Bool (ltb m (2 ^ 15))) [
      | inl low ↦ inl (ltb-true m (2 ^ 15) low, rw low refl)
      | inr high ↦ inr (ltb-false m (2 ^ 15) high, rw high refl)
    ]

-- ---- fields

-- a field without a sign
pub unsigned-read : (high m : ℕ) (n : Integer) → whole n ≡ pos m → m ≤ high
    → unsigned_below high n ≡ Some m
unsigned-read high m n is fits =
    let it = natural n.negative n.magnitude m 0 high is fits in
    rw it.1 (ap (λ (k : ℕ). Some k) it.0)

-- a field with a sign
pub signed-read : (m : ℕ) (n : Integer) → whole n ≡ signed_16 m → m < 2 ^ 16
    → signed_immediate n ≡ Some m
signed-read m n is fits = elim (signed_16-is m) [
  | inl low ↦
      let same = is ∙ low.1 in
      rw (natural n.negative n.magnitude m 32768 32767 same (omega (arith, low.0))).1
      (ap (λ (k : ℕ). Some k) (natural_wrapped n.negative n.magnitude m same fits))
  | inr high ↦
      let it = below_wrapped n.negative n.magnitude m (is ∙ high.1) high.0 fits in
      rw it.0 (ap (λ (k : ℕ). Some k) it.1)
]

-- the address of an instruction
address-read : (m : ℕ) (n : Integer) → whole n ≡ pos m → m < 2 ^ 32 → m % 4 ≡ 0
    → instruction_address n ≡ Some m
address-read m n is fits even =
    let it = natural n.negative n.magnitude m 0 4294967295 is (omega arith) in
    let four : (n.magnitude % 4 == 0) ≡ true = eq-eqb (n.magnitude % 4) 0
    (ap (λ (k : ℕ). k % 4) it.0 ∙ even) in
    rw (it.1, four) (ap (λ (k : ℕ). Some k) it.0)

-- ---- jumps

-- where a jump goes from the instruction at pc
abbrev jump_from : (pc index : ℕ) → ℕ
jump_from pc index = (pc + 4) % 2 ^ 32 / 2 ^ 28 * 2 ^ 28 + index * 4

jump-even : (pc index : ℕ) → jump_from pc index % 4 ≡ 0
jump-even pc index = omega arith

jump-below : (pc index : ℕ) → index < 2 ^ 26 → jump_from pc index < 2 ^ 32
jump-below pc index fits = omega arith

-- it shares the top 4 bits of the address after its own, and its field is the index
jump-top : (pc index : ℕ) → pc + 4 < 2 ^ 32 → index < 2 ^ 26
    → jump_from pc index / 2 ^ 28 ≡ (pc + 4) / 2 ^ 28
jump-top pc index below fits = omega arith

jump-field : (pc index : ℕ) → index < 2 ^ 26 → jump_from pc index % 2 ^ 28 / 4 ≡ index
jump-field pc index fits = omega arith

-- the address that a jump shows gives its index
pub jump-read : (pc index : ℕ) (n : Integer) → whole n ≡ operand_value pc (Jump index) → pc + 4 < 2 ^ 32
    → index < 2 ^ 26
    → (address : ℕ) × (instruction_address n ≡ Some address) × (jump_field pc address ≡ Some index)
jump-read pc index n is below fits =
    let top : (jump_from pc index / 2 ^ 28 == (pc + 4) / 2 ^ 28) ≡ true =
    eq-eqb (jump_from pc index / 2 ^ 28) ((pc + 4) / 2 ^ 28) (jump-top pc index below fits) in (
      jump_from pc index,
      address-read (jump_from pc index) n is (jump-below pc index fits)
          (jump-even pc index),
      rw top (ap (λ (k : ℕ). Some k) (jump-field pc index fits)),
    )

-- ---- branches

-- where a branch goes from the instruction at pc
abbrev branch_from : (pc imm : ℕ) → ℕ
branch_from pc imm =
    unsigned_abs (int_rem_euclid (pos ((pc + 4) % 2 ^ 32) +ℤ signed_16 imm *ℤ pos 4) (pos (2 ^ 32)))

-- forward, and back
branch-forward : (pc imm : ℕ) → signed_16 imm ≡ pos imm
    → branch_from pc imm ≡ ((pc + 4) % 2 ^ 32 + 4 * imm) % 2 ^ 32
branch-forward pc imm is =
    ap (λ (s : ℤ). unsigned_abs (int_rem_euclid (pos ((pc + 4) % 2 ^ 32) +ℤ s *ℤ pos 4)
    (pos (2 ^ 32)))) is
    ∙ ap (λ (n : ℕ). ((pc + 4) % 2 ^ 32 + n) % 2 ^ 32) (mul_comm imm 4)

whole_back : (imm : ℕ) → imm < 2 ^ 16
    → (pos imm -ℤ pos (2 ^ 16)) *ℤ pos 4 ≡ pos (4 * imm) -ℤ pos (2 ^ 18)
whole_back imm fits = omega (arith, ints)

back_from : (following imm : ℕ)
    → unsigned_abs (int_rem_euclid (pos following +ℤ (pos (4 * imm) -ℤ pos (2 ^ 18)))
    (pos (2 ^ 32))) ≡ (following + 4 * imm + (2 ^ 32 - 2 ^ 18)) % 2 ^ 32
back_from following imm =
    let sum : (pos following +ℤ (pos (4 * imm) -ℤ pos (2 ^ 18))) +ℤ pos (1 * 2 ^ 32) ≡ pos
    (following + 4 * imm + (2 ^ 32 - 2 ^ 18)) = omega (arith, ints) in
    ap unsigned_abs (int_rem_euclid_is (pos following +ℤ (pos (4 * imm) -ℤ pos (2 ^ 18)))
    (pos (2 ^ 32)) (2 ^ 32) 1 (following + 4 * imm + (2 ^ 32 - 2 ^ 18)) (lit< tt) refl sum)

branch-back : (pc imm : ℕ) → imm < 2 ^ 16 → signed_16 imm ≡ pos imm -ℤ pos (2 ^ 16)
    → branch_from pc imm ≡ ((pc + 4) % 2 ^ 32 + 4 * imm + (2 ^ 32 - 2 ^ 18)) % 2 ^ 32
branch-back pc imm fits is =
    ap (λ (s : ℤ). unsigned_abs (int_rem_euclid (pos ((pc + 4) % 2 ^ 32) +ℤ s) (pos (2 ^ 32))))
    (ap (λ (s : ℤ). s *ℤ pos 4) is ∙ whole_back imm fits)
    ∙ back_from ((pc + 4) % 2 ^ 32) imm

-- how far it goes, forward and back
distance-forward : (pc imm address : ℕ) → pc + 4 < 2 ^ 32 → imm < 2 ^ 15
    → address ≡ ((pc + 4) % 2 ^ 32 + 4 * imm) % 2 ^ 32 → distance pc address ≡ 4 * imm
distance-forward pc imm address below fits is = omega arith

distance-back : (pc imm address : ℕ) → pc + 4 < 2 ^ 32 → 2 ^ 15 ≤ imm → imm < 2 ^ 16
    → address ≡ ((pc + 4) % 2 ^ 32 + 4 * imm + (2 ^ 32 - 2 ^ 18)) % 2 ^ 32
    → distance pc address ≡ 4 * imm + (2 ^ 32 - 2 ^ 18)
distance-back pc imm address below large fits is = omega arith

-- a distance that a branch reaches gives its field
reached : (far imm : ℕ) → ((ltb far (2 ^ 17) || leb (2 ^ 32 - 2 ^ 17) far) ≡ true)
    → far / 4 % 2 ^ 16 ≡ imm
    → cond (ltb far (2 ^ 17) || leb (2 ^ 32 - 2 ^ 17) far) (Some (far / 4 % 2 ^ 16)) None ≡ Some imm
reached far imm within is = rw within (ap (λ (k : ℕ). Some k) is)

reached-forward : (far imm : ℕ) → far ≡ 4 * imm → imm < 2 ^ 15
    → cond (ltb far (2 ^ 17) || leb (2 ^ 32 - 2 ^ 17) far) (Some (far / 4 % 2 ^ 16)) None ≡ Some imm
reached-forward far imm is fits =
    reached far imm
    (or_left (ltb far (2 ^ 17)) (leb (2 ^ 32 - 2 ^ 17) far) (lt-ltb far (2 ^ 17) (omega arith)))
    (omega arith)

reached-back : (far imm : ℕ) → far ≡ 4 * imm + (2 ^ 32 - 2 ^ 18) → 2 ^ 15 ≤ imm → imm < 2 ^ 16
    → cond (ltb far (2 ^ 17) || leb (2 ^ 32 - 2 ^ 17) far) (Some (far / 4 % 2 ^ 16)) None ≡ Some imm
reached-back far imm is large fits =
    reached far imm
    (or_right (ltb far (2 ^ 17)) (leb (2 ^ 32 - 2 ^ 17) far)
    (le-leb (2 ^ 32 - 2 ^ 17) far (omega arith)))
    (omega arith)

-- an address on a multiple of 4 and below 2^32 that gives the field
abbrev Lands : (pc imm address : ℕ) → Type 0
Lands pc imm address = (address < 2 ^ 32) × (address % 4 ≡ 0) × (branch_field pc address ≡ Some imm)

lands-forward : (pc imm address : ℕ) → pc % 4 ≡ 0 → pc + 4 < 2 ^ 32 → imm < 2 ^ 15
    → address ≡ ((pc + 4) % 2 ^ 32 + 4 * imm) % 2 ^ 32 → Lands pc imm address
lands-forward pc imm address even below fits is = (
  omega arith,
  omega arith,
  reached-forward (distance pc address) imm
      (distance-forward pc imm address below fits is) fits,
)

lands-back : (pc imm address : ℕ) → pc % 4 ≡ 0 → pc + 4 < 2 ^ 32 → 2 ^ 15 ≤ imm → imm < 2 ^ 16
    → address ≡ ((pc + 4) % 2 ^ 32 + 4 * imm + (2 ^ 32 - 2 ^ 18)) % 2 ^ 32 → Lands pc imm address
lands-back pc imm address even below large fits is = (
  omega arith,
  omega arith,
  reached-back (distance pc address) imm
      (distance-back pc imm address below large fits is) large fits,
)

branch-lands : (pc imm : ℕ) → pc % 4 ≡ 0 → pc + 4 < 2 ^ 32 → imm < 2 ^ 16
    → Lands pc imm (branch_from pc imm)
branch-lands pc imm even below fits = elim (signed_16-is imm) [
  | inl low ↦ lands-forward pc imm (branch_from pc imm) even below low.0
      (branch-forward pc imm low.1)
  | inr high ↦ lands-back pc imm (branch_from pc imm) even below high.0 fits
      (branch-back pc imm fits high.1)
]

-- the address that a branch shows gives its field
pub branch-read : (pc imm : ℕ) (n : Integer) → whole n ≡ operand_value pc (Branch imm) → pc % 4 ≡ 0
    → pc + 4 < 2 ^ 32 → imm < 2 ^ 16
    → (address : ℕ) × (instruction_address n ≡ Some address) × (branch_field pc address ≡ Some imm)
branch-read pc imm n is even below fits =
    let lands = branch-lands pc imm even below fits in
    (branch_from pc imm, address-read (branch_from pc imm) n is lands.0 lands.1, lands.2)
