-- SLT, SLTI, SLTU and SLTIU compare.
use Rattle.std.proofs.Common.{◌≡◌, ℕ, nat_lt, Bool, true, false, ℤ, ◌≤ℤ◌, ◌<ℤ◌, refl, ap, ◌∙◌, arith}
use Rattle.std.proofs.lemmas.Bool.{lt-ltb, le-ltb}
use Rattle.std.proofs.lemmas.Int.{ints}
use Rattle.std.specs.Prelude.{int_lt}
use Rattle.mips_instruction.specs.declared.instruction.Ins.{Ins}
use Rattle.mips_instruction.specs.declared.instruction.Ins.TheVariants.{Slt, Slti, Sltiu, Sltu}
use Rattle.mips_instruction.specs.Numbers.{sign_extended, signed_16, signed_number}
use Rattle.mips_effect.specs.declared.seen.Mode.{Mode}
use Rattle.mips_effect.specs.Arithmetic.{bit_if}
use Rattle.mips_effect.specs.Effects.{act, sets}
use Rattle.mips_laws.specs.Acts.{SetsOnly}
use Rattle.mips_laws.specs.Comparisons.{SetsWhereLess, SetsWhereBelow, SignedComparisons, UnsignedComparisons}
use Rattle.mips_laws.proofs.Whole.{signed-extended}

pub int_lt-less : (a b : ℤ) → a <ℤ b → int_lt a b ≡ true
int_lt-less a b less = grind (arith, ints)

pub int_lt-not_less : (a b : ℤ) → b ≤ℤ a → int_lt a b ≡ false
int_lt-not_less a b not_less = grind (arith, ints)

-- an instruction that sets the bit of a test, where it is known how the test ends
sets_bit : (i : Ins) (s t reg : ℕ) (test holds : Bool)
    → ((mode : Mode) (d following : ℕ) → act i mode s t d following ≡ sets reg (bit_if test)
    following)
    → test ≡ holds → SetsOnly i s t reg (bit_if holds)
sets_bit i s t reg test holds is ends mode d following =
    is mode d following ∙ ap (λ bit. sets reg (bit_if bit) following) ends

sets_where_less : (i : Ins) (s t reg : ℕ) (a b : ℤ)
    → ((mode : Mode) (d following : ℕ) → act i mode s t d following ≡ sets reg (bit_if (int_lt a b))
    following)
    → SetsWhereLess i s t reg a b
sets_where_less i s t reg a b is =
    record {
      less = λ less. sets_bit i s t reg _ true is (int_lt-less a b less);
      not_less = λ not_less. sets_bit i s t reg _ false is (int_lt-not_less a b not_less);
    }

sets_where_below : (i : Ins) (s t reg a b : ℕ)
    → ((mode : Mode) (d following : ℕ) → act i mode s t d following ≡ sets reg (bit_if (nat_lt a b))
    following)
    → SetsWhereBelow i s t reg a b
sets_where_below i s t reg a b is =
    record {
      below = λ below. sets_bit i s t reg _ true is (lt-ltb a b below);
      not_below = λ not_below. sets_bit i s t reg _ false is (le-ltb a b not_below);
    }

pub signed_comparisons : SignedComparisons
unfolding act
signed_comparisons rd rs rt imm s t imm_below = (
  sets_where_less (Slt rd rs rt) s t rd (signed_number s) (signed_number t) (λ mode d following. refl),
  sets_where_less (Slti rt rs imm) s t rt (signed_number s) (signed_16 imm)
      (λ mode d following. ap (λ z. sets rt (bit_if (int_lt (signed_number s) z)) following)
      (signed-extended imm imm_below)),
)

pub unsigned_comparisons : UnsignedComparisons
unfolding act
unsigned_comparisons rd rs rt imm s t = (
  sets_where_below (Sltu rd rs rt) s t rd s t (λ mode d following. refl),
  sets_where_below (Sltiu rt rs imm) s t rt s (sign_extended imm) (λ mode d following. refl),
)
