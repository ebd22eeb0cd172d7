-- Branches: taken exactly where the condition holds of whole numbers. The target is counted in
-- words from the following instruction, which is done in any case.
-- Source: Kane and Heinrich, MIPS RISC Architecture, appendix A (BEQ, BGEZ, BGEZAL, BGTZ, BLEZ,
-- BLTZ, BLTZAL, BNE).
use Rattle.std.specs.Prelude.{◌≡◌, ◌≢◌, ℕ, pos, ◌≤ℤ◌, ◌<ℤ◌}
use Rattle.mips_instruction.specs.declared.instruction.Ins.{Ins}
use Rattle.mips_instruction.specs.declared.instruction.Ins.TheVariants.{Beq, Bgez, Bgezal, Bgtz, Blez, Bltz, Bltzal, Bne}
use Rattle.mips_instruction.specs.Numbers.{next_address, signed_number, target}
use Rattle.xom_base.specs.declared.step.Writes.{Writes}
use Rattle.xom_base.specs.declared.step.Writes.TheVariants as writes
use Rattle.mips_effect.specs.declared.seen.Mode.{Mode}
use Rattle.mips_effect.specs.Effects.{act, jumps, write_of_register}

-- where rs and rt have these values, the instruction writes these cells and goes to this address
-- behind the following instruction, both told of that one's address
abbrev pub GoesTo : Ins → (s t : ℕ) → (written : ℕ → Writes) → (to : ℕ → ℕ) → Type 0
GoesTo i s t written to =
    (mode : Mode) (d following : ℕ)
    → act i mode s t d following ≡ jumps (written following) (to following) following

-- it goes to the target of its immediate under a condition, and on under the opposite
pub record BranchesWhere (i : Ins) (s t imm : ℕ) (written : ℕ → Writes)
    (Condition Opposite : Type 0) : Type 0 where
  pub taken : Condition → GoesTo i s t written (λ following. target following imm)
  pub not_taken : Opposite → GoesTo i s t written next_address

-- no cell is written
abbrev pub no_link : ℕ → Writes
no_link following = writes.Nothing

-- the address behind the following instruction comes into $31, taken or not
abbrev pub link : ℕ → Writes
link following = write_of_register 31 (next_address following)

-- BEQ and BNE compare two numbers
abbrev pub BranchesOnEquality : Type 0
BranchesOnEquality = (rs rt imm s t : ℕ)
    → BranchesWhere (Beq rs rt imm) s t imm no_link (s ≡ t) (s ≢ t)
    × BranchesWhere (Bne rs rt imm) s t imm no_link (s ≢ t) (s ≡ t)

-- the others compare a signed number with 0, and two of them link
abbrev pub BranchesOnSign : Type 0
BranchesOnSign = (rs imm s t : ℕ)
    → BranchesWhere (Bltz rs imm) s t imm no_link (signed_number s <ℤ pos 0) (pos 0 ≤ℤ signed_number s)
    × BranchesWhere (Bgez rs imm) s t imm no_link (pos 0 ≤ℤ signed_number s) (signed_number s <ℤ pos 0)
    × BranchesWhere (Blez rs imm) s t imm no_link (signed_number s ≤ℤ pos 0) (pos 0 <ℤ signed_number s)
    × BranchesWhere (Bgtz rs imm) s t imm no_link (pos 0 <ℤ signed_number s) (signed_number s ≤ℤ pos 0)
    × BranchesWhere (Bltzal rs imm) s t imm link (signed_number s <ℤ pos 0) (pos 0 ≤ℤ signed_number s)
    × BranchesWhere (Bgezal rs imm) s t imm link (pos 0 ≤ℤ signed_number s) (signed_number s <ℤ pos 0)
