-- What the instructions of the short forms come to.
use Rattle.std.proofs.Common.{◌≡◌, ℕ, ◌+◌, ◌*◌, ◌%◌, ◌^◌, ◌<◌, Some, refl, ap, ◌∙◌, arith, bit_or}
use Rattle.mips_instruction.specs.declared.instruction.Ins.TheVariants.{Addiu, Addu, Beq, Lui, Ori, Sll}
use Rattle.mips_instruction.specs.Numbers.{plus_signed, target}
use Rattle.xom_base.specs.declared.step.Writes.TheVariants as writes
use Rattle.mips_effect.specs.declared.seen.Mode.{Mode}
use Rattle.mips_effect.specs.declared.seen.Mode.TheVariants.{Guest, Null}
use Rattle.mips_effect.specs.declared.seen.Seen.{Seen}
use Rattle.mips_effect.specs.declared.seen.Seen.TheVariants.{Value}
use Rattle.mips_effect.specs.Effects.{act, effect_of, effect_or_fault, jumps, seen_at, sets, sources_of}
use Rattle.asm_laws.specs.Runs.{Cells, state, effect_on}

-- an instruction that reads $0 alone, as two of its cells
pub addiu_zero : (mode : Mode) (cells : Cells) (pc npc reg imm : ℕ)
    → effect_on mode (state cells pc npc) (Some (Addiu reg 0 imm)) ≡ sets reg (plus_signed 0 imm)
    npc
unfolding effect_of sources_of act
addiu_zero Guest cells pc npc reg imm = refl
addiu_zero Null cells pc npc reg imm = refl

pub ori_zero : (mode : Mode) (cells : Cells) (pc npc reg imm : ℕ)
    → effect_on mode (state cells pc npc) (Some (Ori reg 0 imm)) ≡ sets reg (bit_or 0 imm) npc
unfolding effect_of sources_of act
ori_zero Guest cells pc npc reg imm = refl
ori_zero Null cells pc npc reg imm = refl

pub lui_any : (mode : Mode) (cells : Cells) (pc npc reg imm : ℕ)
    → effect_on mode (state cells pc npc) (Some (Lui reg imm)) ≡ sets reg (imm * 2 ^ 16) npc
unfolding effect_of sources_of act
lui_any Guest cells pc npc reg imm = refl
lui_any Null cells pc npc reg imm = refl

pub sll_zero : (mode : Mode) (cells : Cells) (pc npc : ℕ)
    → effect_on mode (state cells pc npc) (Some (Sll 0 0 0)) ≡ sets 0 0 npc
unfolding effect_of sources_of act
sll_zero Guest cells pc npc = refl
sll_zero Null cells pc npc = refl

pub beq_zero : (mode : Mode) (cells : Cells) (pc npc imm : ℕ)
    → effect_on mode (state cells pc npc) (Some (Beq 0 0 imm)) ≡ jumps writes.Nothing
    (target npc imm) npc
unfolding effect_of sources_of act
beq_zero Guest cells pc npc imm = refl
beq_zero Null cells pc npc imm = refl

-- an instruction that reads one cell, where this has a value
pub ori_own : (mode : Mode) (cells : Cells) (pc npc reg imm v : ℕ)
    → seen_at reg (cells reg) ≡ Value v
    → effect_on mode (state cells pc npc) (Some (Ori reg reg imm)) ≡ sets reg (bit_or v imm) npc
unfolding effect_of sources_of act
ori_own Guest cells pc npc reg imm v own =
    ap (λ (s : Seen). effect_or_fault (Ori reg reg imm) Guest s (Value 0) (Value 0) npc) own
ori_own Null cells pc npc reg imm v own =
    ap (λ (s : Seen). effect_or_fault (Ori reg reg imm) Null s (Value 0) (Value 0) npc) own

pub addu_zero : (mode : Mode) (cells : Cells) (pc npc a b v : ℕ) → seen_at b (cells b) ≡ Value v
    → v < 2 ^ 32
    → effect_on mode (state cells pc npc) (Some (Addu a b 0)) ≡ sets a v npc
unfolding effect_of sources_of act
addu_zero Guest cells pc npc a b v own fits =
    let same : (v + 0) % 2 ^ 32 ≡ v = omega arith in
    ap (λ (s : Seen). effect_or_fault (Addu a b 0) Guest s (Value 0) (Value 0) npc) own
    ∙ ap (λ (n : ℕ). sets a n npc) same
addu_zero Null cells pc npc a b v own fits =
    let same : (v + 0) % 2 ^ 32 ≡ v = omega arith in
    ap (λ (s : Seen). effect_or_fault (Addu a b 0) Null s (Value 0) (Value 0) npc) own
    ∙ ap (λ (n : ℕ). sets a n npc) same
