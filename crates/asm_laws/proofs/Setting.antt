-- One instruction, or two, that set a register.
use Rattle.std.proofs.Common.{◌≡◌, ◌≢◌, ℕ, ◌==◌, Bool, cond, List, Option, Some, Result, inl, inr, refl, sym, ap, ◌∙◌}
use Rattle.std.proofs.lemmas.Bool.{cases_eq, eq-eqb, ne_eqb}
use Rattle.mips_instruction.specs.declared.instruction.Ins.{Ins}
use Rattle.mips_instruction.specs.Words.{instruction_of_word}
use Rattle.mips_instruction.specs.Numbers.{next_address}
use Rattle.xom_base.specs.Options.{◌>>=◌}
use Rattle.xom_base.specs.declared.event.OwnFault.{OwnFault}
use Rattle.mips_effect.specs.declared.effects.Effect.{Effect}
use Rattle.mips_effect.specs.declared.seen.Mode.{Mode}
use Rattle.mips_effect.specs.declared.seen.Seen.TheVariants.{Value}
use Rattle.mips_effect.specs.Effects.{seen_at, sets, write_of_register}
use Rattle.mips_plain.specs.Memory.{word_at_address}
use Rattle.asm_laws.specs.Runs.{Cells, StateOfLaw, cells_after_writes, effect_on, state, state_after, state_after_effect, state_after_one}
use Rattle.asm_laws.specs.ShortForms.{Sets}

-- ---- The cells after a register was set

pub set-register : (cells : Cells) (reg value : ℕ) → reg ≢ 0
    → cells_after_writes cells (write_of_register reg value) reg ≡ Value value
set-register cells reg value named = rw (ne_eqb reg 0 named, eq-eqb reg reg refl) refl

pub set-others : (cells : Cells) (reg value cell : ℕ) → cell ≢ reg
    → cells_after_writes cells (write_of_register reg value) cell ≡ cells cell
set-others cells reg value cell other = elim (cases_eq reg 0) [
  | inl none ↦ rw (eq-eqb reg 0 none) refl
  | inr named ↦ rw (ne_eqb reg 0 named, ne_eqb cell reg other) refl
]

pub set-zero : (cells : Cells) (reg value : ℕ) → cells_after_writes cells (write_of_register reg value) 0 ≡ cells 0
set-zero cells reg value = elim (cases_eq reg 0) [
  | inl none ↦ rw (eq-eqb reg 0 none) refl
  | inr named ↦ rw (ne_eqb reg 0 named) (ap (λ (b : Bool). cond b (Value value) (cells 0))
      (ne_eqb 0 reg (λ same. named (sym same))))
]

-- what is seen of it then: $0 is zero
abbrev pub kept_in : (reg value : ℕ) → ℕ
kept_in reg value = cond (reg == 0) 0 value

pub set-seen : (cells : Cells) (reg value : ℕ)
    → seen_at reg (cells_after_writes cells (write_of_register reg value) reg) ≡ Value (kept_in reg value)
set-seen cells reg value = elim (cases_eq reg 0) [
  | inl none ↦ rw (eq-eqb reg 0 none) refl
  | inr named ↦ rw (ne_eqb reg 0 named, eq-eqb reg reg refl) refl
]

pub kept_in-named : (reg value : ℕ) → reg ≢ 0 → kept_in reg value ≡ value
kept_in-named reg value named = rw (ne_eqb reg 0 named) refl

-- ---- One instruction

-- the instruction at a place, by what it comes to
pub after_one : (memory : List ℕ) (mode : Mode) (cells : Cells) (pc npc : ℕ) (i : Ins)
    (effect : Result Effect OwnFault)
    → instruction_of_word (word_at_address memory pc) ≡ Some i
    → effect_on mode (state cells pc npc) (Some i) ≡ effect
    → state_after_one memory mode (state cells pc npc) ≡ state_after_effect cells effect
after_one memory mode cells pc npc i effect there comes =
    ap (λ (o : Option Ins). state_after_effect cells (effect_on mode (state cells pc npc) o)) there
    ∙ ap (state_after_effect cells) comes

-- the state after it
pub runs_one : (memory : List ℕ) (mode : Mode) (cells : Cells) (pc npc : ℕ) (i : Ins)
    (effect : Result Effect OwnFault)
    → instruction_of_word (word_at_address memory pc) ≡ Some i
    → effect_on mode (state cells pc npc) (Some i) ≡ effect
    → state_after 1 memory mode (state cells pc npc) ≡ (state_after_effect cells effect >>= state_after 0
    memory mode)
runs_one memory mode cells pc npc i effect there comes =
    ap (λ (o : Option StateOfLaw). o >>= state_after 0 memory mode)
    (after_one memory mode cells pc npc i effect there comes)

-- it sets a register
pub sets_one : (memory : List ℕ) (mode : Mode) (cells : Cells) (pc npc reg value : ℕ) (i : Ins)
    → instruction_of_word (word_at_address memory pc) ≡ Some i
    → effect_on mode (state cells pc npc) (Some i) ≡ sets reg value npc
    → Sets memory mode (state cells pc npc) 1 npc (next_address npc) reg value
sets_one memory mode cells pc npc reg value i there comes = record {
  cells = cells_after_writes cells (write_of_register reg value);
  runs = runs_one memory mode cells pc npc i (sets reg value npc) there comes;
  register = set-register cells reg value;
  others = set-others cells reg value;
  zero_register = set-zero cells reg value;
}

-- ---- Two instructions, of which the second sets the register again

pub sets_two : (memory : List ℕ) (mode : Mode) (cells : Cells) (pc npc reg first second value : ℕ)
    (i j : Ins)
    → instruction_of_word (word_at_address memory pc) ≡ Some i → instruction_of_word (word_at_address memory npc) ≡ Some j
    → effect_on mode (state cells pc npc) (Some i) ≡ sets reg first npc
    → effect_on mode (state (cells_after_writes cells (write_of_register reg first)) npc (next_address npc)) (Some j) ≡ sets reg
    second (next_address npc)
    → (reg ≢ 0 → second ≡ value)
    → Sets memory mode (state cells pc npc) 2 (next_address npc) (next_address (next_address npc)) reg value
sets_two memory mode cells pc npc reg first second value i j i_there j_there i_comes j_comes same =
    let between : Cells = cells_after_writes cells (write_of_register reg first) in record {
      cells = cells_after_writes between (write_of_register reg second);
      runs =
          ap (λ (o : Option StateOfLaw). o >>= state_after 1 memory mode)
          (after_one memory mode cells pc npc i (sets reg first npc) i_there i_comes)
          ∙ runs_one memory mode between npc (next_address npc) j (sets reg second (next_address npc)) j_there
          j_comes;
      register = λ named. set-register between reg second named ∙ ap (λ (n : ℕ). Value n)
          (same named);
      others = λ cell other. set-others between reg second cell other ∙ set-others cells reg first
          cell other;
      zero_register = set-zero between reg second ∙ set-zero cells reg first;
    }
