-- Branches are taken where their conditions hold.
use Rattle.std.proofs.Common.{◌≡◌, ◌≢◌, ℕ, ◌==◌, not, Bool, true, false, ℤ, pos, ◌≤ℤ◌, ◌<ℤ◌, refl, ap, ◌∙◌}
use Rattle.std.proofs.lemmas.Bool.{eq-eqb, ne_eqb}
use Rattle.std.specs.Prelude.{int_lt}
use Rattle.mips_instruction.specs.declared.instruction.Ins.{Ins}
use Rattle.mips_instruction.specs.declared.instruction.Ins.TheVariants.{Beq, Bgez, Bgezal, Bgtz, Blez, Bltz, Bltzal, Bne}
use Rattle.mips_instruction.specs.Numbers.{signed_number}
use Rattle.xom_base.specs.declared.step.Writes.{Writes}
use Rattle.mips_effect.specs.declared.seen.Mode.{Mode}
use Rattle.mips_effect.specs.Effects.{act, jumps, way}
use Rattle.mips_laws.specs.Branches.{BranchesWhere, no_link, link, BranchesOnEquality, BranchesOnSign}
use Rattle.mips_laws.proofs.Comparing.{int_lt-less, int_lt-not_less}

-- the instruction goes by a test
abbrev GoesByTest : Ins → (s t imm : ℕ) → (ℕ → Writes) → Bool → Type 0
GoesByTest i s t imm written test =
    (mode : Mode) (d following : ℕ)
    → act i mode s t d following ≡ jumps (written following) (way test imm following) following

-- a test that a condition makes true, and its opposite false
branches_where : (i : Ins) (s t imm : ℕ) (written : ℕ → Writes) (test : Bool)
    (Condition Opposite : Type 0)
    → GoesByTest i s t imm written test
    → (Condition → test ≡ true) → (Opposite → test ≡ false)
    → BranchesWhere i s t imm written Condition Opposite
branches_where i s t imm written test Condition Opposite is true_where false_where =
    record {
      taken = λ holds mode d following. is mode d following
          ∙ ap (λ b. jumps (written following) (way b imm following) following) (true_where holds);
      not_taken = λ holds mode d following. is mode d following
          ∙ ap (λ b. jumps (written following) (way b imm following) following) (false_where holds);
    }

pub branches_on_equality : BranchesOnEquality
unfolding act
branches_on_equality rs rt imm s t = (
  branches_where (Beq rs rt imm) s t imm no_link (s == t) (s ≡ t) (s ≢ t) (λ mode d following. refl)
      (eq-eqb s t) (ne_eqb s t),
  branches_where (Bne rs rt imm) s t imm no_link (not (s == t)) (s ≢ t) (s ≡ t)
      (λ mode d following. refl) (λ differ. ap not (ne_eqb s t differ))
      (λ same. ap not (eq-eqb s t same)),
)

pub branches_on_sign : BranchesOnSign
unfolding act
branches_on_sign rs imm s t =
    let z : ℤ = signed_number s in
    let below : z <ℤ pos 0 → int_lt z (pos 0) ≡ true = int_lt-less z (pos 0) in
    let not_below : pos 0 ≤ℤ z → int_lt z (pos 0) ≡ false = int_lt-not_less z (pos 0) in
    let above : pos 0 <ℤ z → int_lt (pos 0) z ≡ true = int_lt-less (pos 0) z in
    let not_above : z ≤ℤ pos 0 → int_lt (pos 0) z ≡ false = int_lt-not_less (pos 0) z in (
      branches_where (Bltz rs imm) s t imm no_link (int_lt z (pos 0)) (z <ℤ pos 0) (pos 0 ≤ℤ z)
          (λ mode d following. refl) below not_below,
      branches_where (Bgez rs imm) s t imm no_link (not (int_lt z (pos 0))) (pos 0 ≤ℤ z)
          (z <ℤ pos 0) (λ mode d following. refl) (λ holds. ap not (not_below holds))
          (λ holds. ap not (below holds)),
      branches_where (Blez rs imm) s t imm no_link (not (int_lt (pos 0) z)) (z ≤ℤ pos 0)
          (pos 0 <ℤ z) (λ mode d following. refl) (λ holds. ap not (not_above holds))
          (λ holds. ap not (above holds)),
      branches_where (Bgtz rs imm) s t imm no_link (int_lt (pos 0) z) (pos 0 <ℤ z) (z ≤ℤ pos 0)
          (λ mode d following. refl) above not_above,
      branches_where (Bltzal rs imm) s t imm link (int_lt z (pos 0)) (z <ℤ pos 0) (pos 0 ≤ℤ z)
          (λ mode d following. refl) below not_below,
      branches_where (Bgezal rs imm) s t imm link (not (int_lt z (pos 0))) (pos 0 ≤ℤ z) (z <ℤ pos 0)
          (λ mode d following. refl) (λ holds. ap not (not_below holds))
          (λ holds. ap not (below holds)),
    )
