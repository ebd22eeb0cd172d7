-- The numbers of `li` modulo 2^32, and the two halves of a number.
use Rattle.std.proofs.Common.{◌≡◌, ℕ, ◌-◌, ◌*◌, ◌/◌, ◌%◌, ◌^◌, ◌≤◌, leb, Bool, true, false, cond, pos, ◌-ℤ◌, refl, sym, ◌∙◌, arith, bit_or}
use Rattle.std.proofs.lemmas.Bool.{leb-true}
use Rattle.std.proofs.lemmas.Int.{ints}
use Rattle.std.proofs.lemmas.Nat.{or_shifted}
use Rattle.mips_instruction.specs.Numbers.{number_modulo_word, plus_signed}
use Rattle.asm_tokens.specs.declared.integers.Integer.{Integer}
use Rattle.asm_tokens.specs.Integers.{whole}
use Rattle.mips_asm.specs.Encoding.{twos_complement}
use Rattle.mips_asm.specs.Layout.{in_range}

-- a negative number in 32 bits
reduced-negative : (m : ℕ) → m ≤ 2 ^ 32 → number_modulo_word (pos 0 -ℤ pos m) ≡ (2 ^ 32 - m) % 2 ^ 32
reduced-negative m fits = grind (arith, ints)

-- a number of 32 bits by its two halves
pub halves-or : (n : ℕ) → bit_or (n / 2 ^ 16 * 2 ^ 16) (n % 2 ^ 16) ≡ n
halves-or n = or_shifted (n / 2 ^ 16) 16 (n % 2 ^ 16) (omega arith) ∙ omega arith

-- the number of 32 bits that `li` loads by halves
wrapped-whole : (b : Bool) (m : ℕ) → cond b (leb m 2147483648) (leb m 4294967295) ≡ true
    → cond b (2 ^ 32 - m) m % 2 ^ 32 ≡ number_modulo_word (cond b (pos 0 -ℤ pos m) (pos m))
wrapped-whole true m fits =
    let most = leb-true m 2147483648 fits in sym (reduced-negative m (omega arith))
wrapped-whole false m fits = omega arith

pub wrapped_32 : (n : Integer) → in_range 2147483648 4294967295 n ≡ true
    → twos_complement 32 n ≡ number_modulo_word (whole n)
wrapped_32 n fits = wrapped-whole n.negative n.magnitude fits

-- the number that `li` loads by ori
unsigned-whole : (b : Bool) (m : ℕ) → cond b (leb m 0) (leb m 65535) ≡ true
    → m ≡ number_modulo_word (cond b (pos 0 -ℤ pos m) (pos m))
unsigned-whole true m fits =
    let most = leb-true m 0 fits in let none : m ≡ 0 = omega arith in rw none refl
unsigned-whole false m fits = let most = leb-true m 65535 fits in omega arith

pub unsigned_16 : (n : Integer) → in_range 0 65535 n ≡ true
    → bit_or 0 n.magnitude ≡ number_modulo_word (whole n)
unsigned_16 n fits = unsigned-whole n.negative n.magnitude fits

-- the number that `li` loads by addiu
signed-whole : (b : Bool) (m : ℕ) → cond b (leb m 32768) (leb m 32767) ≡ true
    → plus_signed 0 (cond b (2 ^ 16 - m) m % 2 ^ 16) ≡ number_modulo_word (cond b (pos 0 -ℤ pos m) (pos m))
signed-whole true m fits = let most = leb-true m 32768 fits in grind (arith, ints)
signed-whole false m fits = let most = leb-true m 32767 fits in grind (arith, ints)

pub signed_immediate_16 : (n : Integer) → in_range 32768 32767 n ≡ true
    → plus_signed 0 (twos_complement 16 n) ≡ number_modulo_word (whole n)
signed_immediate_16 n fits = signed-whole n.negative n.magnitude fits
