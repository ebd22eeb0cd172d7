-- LWL and LWR load the unaligned word.
use Rattle.std.proofs.Common.{◌≡◌, ℕ, ◌+◌, ◌-◌, ◌*◌, ◌/◌, ◌%◌, ◌^◌, ◌<◌, List, slice_index, refl, sym, ap, subst, ◌∙◌, arith}
use Rattle.mips_instruction.specs.declared.instruction.Ins.TheVariants.{Lwl, Lwr}
use Rattle.mips_instruction.specs.Numbers.{plus_signed}
use Rattle.mips_effect.specs.declared.wish.LoadKind.TheVariants as kind
use Rattle.mips_effect.specs.Arithmetic.{left_merged, right_merged}
use Rattle.mips_effect.specs.Effects.{act, merge_of}
use Rattle.mips_plain.specs.Memory.{private_size, word_at_address}
use Rattle.mips_laws.specs.Accesses.{LoadsOnly}
use Rattle.mips_laws.specs.Unaligned.{WordsAreBigEndian, HalvesLoadTheWord, LwLoadsTheWord}
use Rattle.mips_laws.proofs.Bytes.{AreBytes, by_four, word_at-is, word_at-of, word_at-below, byte-below}
use Rattle.mips_laws.proofs.Steps.{opened, open_byte, load_step}

pub words_are_big_endian : WordsAreBigEndian
words_are_big_endian = word_at-is

-- ---- The word between two words

-- the parts of the word that begins at a place of the word high, before the word low
abbrev straddled : (high low place : ℕ) → ℕ
straddled high low place =
    high % 2 ^ (8 * (4 - place)) * 2 ^ (8 * place) + low / 2 ^ (8 * (4 - place))

-- the eight bytes of two words
straddled-bytes : (a b c d e f g h high low : ℕ) → a < 256 → b < 256 → c < 256 → d < 256 → e < 256
    → f < 256 → g < 256 → h < 256
    → high ≡ a * 2 ^ 24 + b * 2 ^ 16 + c * 2 ^ 8 + d → low ≡ e * 2 ^ 24 + f * 2 ^ 16 + g * 2 ^ 8 + h
    → (straddled high low 1 ≡ b * 2 ^ 24 + c * 2 ^ 16 + d * 2 ^ 8 + e)
    × (straddled high low 2 ≡ c * 2 ^ 24 + d * 2 ^ 16 + e * 2 ^ 8 + f)
    × (straddled high low 3 ≡ d * 2 ^ 24 + e * 2 ^ 16 + f * 2 ^ 8 + g)
straddled-bytes a b c d e f g h high low a_small b_small c_small d_small e_small f_small g_small
    h_small high_is low_is =
    (omega arith, omega arith, omega arith)

-- the words at places 1 to 3 of a word of memory
words_between : (bytes : List ℕ) (base : ℕ) → AreBytes bytes
    → (straddled (word_at_address bytes base) (word_at_address bytes (base + 4)) 1 ≡ word_at_address bytes (base + 1))
    × (straddled (word_at_address bytes base) (word_at_address bytes (base + 4)) 2 ≡ word_at_address bytes (base + 2))
    × (straddled (word_at_address bytes base) (word_at_address bytes (base + 4)) 3 ≡ word_at_address bytes (base + 3))
words_between bytes base small =
    let b = λ (i : ℕ). slice_index bytes (base + i) in
    let second = word_at-of bytes (base + 4) (base + 5) (base + 6) (base + 7) _ _ _ _ (omega arith)
    (omega arith) (omega arith) refl refl refl refl in
    let parts = straddled-bytes (slice_index bytes base) (b 1) (b 2) (b 3) (b 4) (b 5) (b 6) (b 7)
    (word_at_address bytes base) (word_at_address bytes (base + 4))
    (byte-below bytes base small) (byte-below bytes (base + 1) small)
    (byte-below bytes (base + 2) small) (byte-below bytes (base + 3) small)
    (byte-below bytes (base + 4) small) (byte-below bytes (base + 5) small)
    (byte-below bytes (base + 6) small) (byte-below bytes (base + 7) small)
    (word_at-is bytes base) second in
    let at_1 = word_at-of bytes (base + 1) (base + 2) (base + 3) (base + 4) (b 1) (b 2) (b 3) (b 4)
    (omega arith) (omega arith) (omega arith) refl refl refl refl in
    let at_2 = word_at-of bytes (base + 2) (base + 3) (base + 4) (base + 5) (b 2) (b 3) (b 4) (b 5)
    (omega arith) (omega arith) (omega arith) refl refl refl refl in
    let at_3 = word_at-of bytes (base + 3) (base + 4) (base + 5) (base + 6) (b 3) (b 4) (b 5) (b 6)
    (omega arith) (omega arith) (omega arith) refl refl refl refl in
    (parts.0 ∙ sym at_1, parts.1 ∙ sym at_2, parts.2 ∙ sym at_3)

-- ---- What the two halves make

-- at place 0 each half is the whole word
whole : (old high : ℕ) → high < 2 ^ 32
    → (right_merged (left_merged old 0 high) 3 high ≡ high)
    × (left_merged (right_merged old 3 high) 0 high ≡ high)
whole old high small = (omega arith, omega arith)

-- at another place they are the two parts, in either order
parts-1 : (old high low : ℕ) → low < 2 ^ 32
    → (right_merged (left_merged old 1 high) 0 low ≡ straddled high low 1)
    × (left_merged (right_merged old 0 low) 1 high ≡ straddled high low 1)
parts-1 old high low small = (omega arith, omega arith)

parts-2 : (old high low : ℕ) → low < 2 ^ 32
    → (right_merged (left_merged old 2 high) 1 low ≡ straddled high low 2)
    × (left_merged (right_merged old 1 low) 2 high ≡ straddled high low 2)
parts-2 old high low small = (omega arith, omega arith)

parts-3 : (old high low : ℕ) → low < 2 ^ 32
    → (right_merged (left_merged old 3 high) 2 low ≡ straddled high low 3)
    × (left_merged (right_merged old 2 low) 3 high ≡ straddled high low 3)
parts-3 old high low small = (omega arith, omega arith)

-- what LWL at an address makes of a register, and LWR at the word's last byte
abbrev by_left : List ℕ → (address old : ℕ) → ℕ
by_left bytes address old = left_merged old (address % 4) (word_at_address bytes (address - address % 4))

abbrev by_right : List ℕ → (last old : ℕ) → ℕ
by_right bytes last old = right_merged old (last % 4) (word_at_address bytes (last - last % 4))

-- both together, where the places and the words have names
abbrev Both : List ℕ → (address old : ℕ) → Type 0
Both bytes address old =
    (by_right bytes (address + 3) (by_left bytes address old) ≡ word_at_address bytes address)
    × (by_left bytes address (by_right bytes (address + 3) old) ≡ word_at_address bytes address)

both-at : (bytes : List ℕ) (address old place last_place base last_base : ℕ) → address % 4 ≡ place
    → (address + 3) % 4 ≡ last_place
    → address - place ≡ base → address + 3 - last_place ≡ last_base
    → (right_merged (left_merged old place (word_at_address bytes base)) last_place
    (word_at_address bytes last_base) ≡ word_at_address bytes address)
    × (left_merged (right_merged old last_place (word_at_address bytes last_base)) place
    (word_at_address bytes base) ≡ word_at_address bytes address)
    → Both bytes address old
both-at bytes address old place last_place base last_base place_is last_is base_is last_base_is
    both =
    let places : address - address % 4 ≡ base = omega arith in
    let last_places : address + 3 - (address + 3) % 4 ≡ last_base = omega arith in
    rw (places, last_places, place_is, last_is) both

-- a pair of facts about one word, at another name of its address
named : (bytes : List ℕ) (x y word at address : ℕ) → at ≡ address → (x ≡ word) × (y ≡ word)
    → word ≡ word_at_address bytes at → (x ≡ word_at_address bytes address) × (y ≡ word_at_address bytes address)
named bytes x y word at address is both word_is =
    let there : word ≡ word_at_address bytes address = word_is ∙ ap (word_at_address bytes) is in
    (both.0 ∙ there, both.1 ∙ there)

-- the four places
both : (bytes : List ℕ) (address old : ℕ) → AreBytes bytes → Both bytes address old
both bytes address old small =
    let base : ℕ = address - address % 4 in
    let low = word_at-below bytes (base + 4) small in
    let between = words_between bytes base small in
    by_four (address % 4) (omega arith)
    (λ place. both-at bytes address old 0 3 address address place (omega (arith, place))
    (omega arith) (omega arith) (whole old (word_at_address bytes address)
    (word_at-below bytes address small)))
    (λ place. both-at bytes address old 1 0 base (base + 4) place (omega (arith, place))
    (omega (arith, place)) (omega (arith, place))
    (named bytes _ _ _ (base + 1) address (omega (arith, place))
    (parts-1 old (word_at_address bytes base) (word_at_address bytes (base + 4)) low) between.0))
    (λ place. both-at bytes address old 2 1 base (base + 4) place (omega (arith, place))
    (omega (arith, place)) (omega (arith, place))
    (named bytes _ _ _ (base + 2) address (omega (arith, place))
    (parts-2 old (word_at_address bytes base) (word_at_address bytes (base + 4)) low) between.1))
    (λ place. both-at bytes address old 3 2 base (base + 4) place (omega (arith, place))
    (omega (arith, place)) (omega (arith, place))
    (named bytes _ _ _ (base + 3) address (omega (arith, place))
    (parts-3 old (word_at_address bytes base) (word_at_address bytes (base + 4)) low) between.2))

-- ---- The instructions

left_loads : (bytes : List ℕ) (rt rs imm s old address : ℕ) → plus_signed s imm ≡ address
    → address < private_size → LoadsOnly bytes (Lwl rt imm rs) s old rt (by_left bytes address old)
unfolding act merge_of
left_loads bytes rt rs imm s old address names inside pc d following =
    load_step bytes kind.Left rt (plus_signed s imm) address old _ names (open_byte address inside)
    refl pc following

right_loads : (bytes : List ℕ) (rt rs imm s old address : ℕ) → plus_signed s imm ≡ address
    → address < private_size → LoadsOnly bytes (Lwr rt imm rs) s old rt (by_right bytes address old)
unfolding act merge_of
right_loads bytes rt rs imm s old address names inside pc d following =
    load_step bytes kind.Right rt (plus_signed s imm) address old _ names (open_byte address inside)
    refl pc following

pub halves_load_the_word : HalvesLoadTheWord
halves_load_the_word bytes rt rs first last s old address memory word =
    let inside = word.inside in
    let first_inside : address < private_size = omega (arith, inside) in
    let last_inside : address + 3 < private_size = omega (arith, inside) in
    let together = both bytes address old memory.are_bytes in (
      record {
        half = by_left bytes address old;
        one_loads = left_loads bytes rt rs first s old address word.first_byte first_inside;
        two_loads = subst (LoadsOnly bytes (Lwr rt last rs) s (by_left bytes address old) rt)
            together.0 (right_loads bytes rt rs last s (by_left bytes address old) (address + 3)
            word.last_byte last_inside);
      },
      record {
        half = by_right bytes (address + 3) old;
        one_loads = right_loads bytes rt rs last s old (address + 3) word.last_byte last_inside;
        two_loads = subst (LoadsOnly bytes (Lwl rt first rs) s (by_right bytes (address + 3) old)
            rt) together.1 (left_loads bytes rt rs first s (by_right bytes (address + 3) old) address
            word.first_byte first_inside);
      },
    )

pub lw_loads_the_word : LwLoadsTheWord
unfolding act merge_of
lw_loads_the_word bytes rt rs imm s old inside aligned pc d following =
    let address : ℕ = plus_signed s imm in
    let base : address - address % 4 ≡ address = omega (arith, aligned) in
    load_step bytes kind.Word rt address address old (word_at_address bytes address) refl
    (opened 4 address aligned (omega (arith, inside))) (ap (word_at_address bytes) base) pc following
