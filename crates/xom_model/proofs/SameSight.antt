-- While a guest runs, it sees in each cell what its program alone sees there; so an instruction
-- comes to the same.
use Rattle.std.proofs.Common.{◌≡◌, ◌≢◌, inl, inr, ℕ, ◌<◌, ◌≤◌, List, Option, Some, None, Result, Ok, Err, refl, subst, ◌∙◌, ap, arith, Bool, true, false, cond}
use Rattle.std.proofs.lemmas.Bool.{eq-eqb}
use Rattle.std.proofs.lemmas.Bool.Decides.{eqb_tells}
use Rattle.std.specs.Int.{bit_at}
use Rattle.xom_base.specs.declared.event.OwnFault.{OwnFault}
use Rattle.mips_instruction.specs.declared.instruction.Ins.{Ins}
use Rattle.mips_instruction.specs.Words.{Fits, instruction_of_word}
use Rattle.mips_isa.proofs.Reading.{read-Fits}
use Rattle.mips_effect.specs.declared.seen.Seen.{Seen}
use Rattle.mips_effect.specs.declared.seen.Mode.TheVariants.{Guest}
use Rattle.mips_effect.specs.declared.effects.Effect.{Effect}
use Rattle.mips_effect.specs.declared.wish.Wish.{Wish}
use Rattle.mips_effect.specs.declared.wish.Wish.TheVariants as wish
use Rattle.mips_effect.specs.Effects.{sources_of, effect_of, Ranged}
use Rattle.mips_effect.proofs.Ranges.{sources_of-below, effect_of-Ranged}
use Rattle.mips_plain.specs.declared.cell.PlainCell.{PlainCell}
use Rattle.mips_plain.specs.declared.cell.PlainCell.TheVariants.{Own, Lent}
use Rattle.mips_plain.specs.Memory.{word_at_address}
use Rattle.mips_plain.specs.Instruction.{effect_at, instruction_in, instruction_or_fault, is_code, with_kept_pair, with_return}
use Rattle.mips_plain.specs.Machine.{plain_cell_at as plain_cell, seen_in, seen_of_cell}
use Rattle.tag_regs.specs.declared.cell.Cell.{Cell}
use Rattle.tag_regs.specs.TaggedCells.{cell_at}
use Rattle.xom_model.specs.Guest.{seen_as, seen_by}
use Rattle.xom_model.specs.Holds.{own_bit}

-- a fetched word is an instruction whose operands are in their ranges
known-Fits : (found : Option Ins) (ins : Ins) → ((i : Ins) → found ≡ Some i → Fits i)
    → instruction_or_fault found ≡ Ok ins → Fits ins
known-Fits None ins fits is = absurd (cc)
known-Fits (Some i) ins fits is = fits ins (cc)

chosen-Fits : (b : Bool) (found : Option Ins) (ins : Ins) (fault : OwnFault)
    → ((i : Ins) → found ≡ Some i → Fits i)
    → cond b (instruction_or_fault found) (Err fault) ≡ Ok ins → Fits ins
chosen-Fits true found ins fault fits is = known-Fits found ins fits is
chosen-Fits false found ins fault fits is = absurd (cc)

pub fetched-Fits : (bytes : List ℕ) (pc : ℕ) (ins : Ins) → instruction_in bytes pc ≡ Ok ins
    → Fits ins
unfolding instruction_in
fetched-Fits bytes pc ins is =
    chosen-Fits (is_code pc) (instruction_of_word (word_at_address bytes pc)) ins _
    (λ i has. read-Fits i (word_at_address bytes pc) has) is

-- what is tried depends on nothing but what is seen in cells below 34
pub tried-same : (see sight : ℕ → Seen) (kept : Option (ℕ × ℕ)) (found : Result Ins OwnFault)
    (pc npc : ℕ)
    → ((ins : Ins) → found ≡ Ok ins → Fits ins) → ((reg : ℕ) → reg < 34 → see reg ≡ sight reg)
    → effect_at see kept found pc npc ≡ effect_at sight kept found pc npc
tried-same see sight kept (Err fault) pc npc fits same = refl
tried-same see sight kept (Ok ins) pc npc fits same =
    let below = sources_of-below ins (fits ins refl) in
    ap (with_kept_pair kept)
    (ap (λ first. effect_of ins Guest first (see (sources_of ins).1) (see (sources_of ins).2) pc
    npc) (same (sources_of ins).0 below.0)
    ∙ ap (λ second. effect_of ins Guest (sight (sources_of ins).0) second (see (sources_of ins).2)
    pc npc) (same (sources_of ins).1 below.1)
    ∙ ap (λ third. effect_of ins Guest (sight (sources_of ins).0) (sight (sources_of ins).1) third
    pc npc) (same (sources_of ins).2 below.2))

-- one effect is the other
abbrev fine : Effect → Result Effect OwnFault
fine effect = Ok effect

ok_ranged : (before effect : Effect) → Ranged before → fine before ≡ fine effect → Ranged effect
ok_ranged before effect ranged is = let same : before ≡ effect = cc in subst Ranged same ranged

-- the return from a signal changes the pair alone
returned-Ranged_at : (kept : Option (ℕ × ℕ)) (before effect : Effect) (wished : Wish)
    → Ranged before → with_return kept before wished ≡ Ok effect → Ranged effect
returned-Ranged_at None before effect wish.SigRet ranged is = absurd (cc)
returned-Ranged_at (Some pair) before effect wish.SigRet ranged is =
    ok_ranged (record before { pc = pair.0; npc = pair.1 }) effect
    (record { writes = ranged.writes; wish = ranged.wish }) is
returned-Ranged_at kept before effect _ ranged is = ok_ranged before effect ranged is

returned-Ranged : (kept : Option (ℕ × ℕ)) (found : Result Effect OwnFault) (effect : Effect)
    → ((before : Effect) → found ≡ Ok before → Ranged before)
    → with_kept_pair kept found ≡ Ok effect → Ranged effect
returned-Ranged kept (Err fault) effect ranged is = absurd (cc)
returned-Ranged kept (Ok before) effect ranged is =
    returned-Ranged_at kept before effect before.wish (ranged before refl) is

-- an effect that is tried has its numbers in their ranges
pub tried-Ranged : (see : ℕ → Seen) (kept : Option (ℕ × ℕ)) (found : Result Ins OwnFault)
    (pc npc : ℕ) (effect : Effect)
    → ((ins : Ins) → found ≡ Ok ins → Fits ins) → effect_at see kept found pc npc ≡ Ok effect
    → Ranged effect
tried-Ranged see kept (Err fault) pc npc effect fits is = absurd (cc)
tried-Ranged see kept (Ok ins) pc npc effect fits is =
    returned-Ranged kept _ effect (λ before found. effect_of-Ranged ins _ _ _ pc npc before
    (fits ins refl) found) is

-- a cell: with the slot's tag the program owns it and has its value; without, the program has lent
-- it
sight-of_cell : (slot : ℕ) (cell : Cell) (own : PlainCell) (bit : ℕ) → bit ≡ own_bit own
    → (cell.tag ≡ slot → own ≡ Own cell.value) → (bit ≡ 1 → cell.tag ≡ slot)
    → seen_in own ≡ seen_as slot cell
sight-of_cell slot cell (Own value) bit is owned tagged =
    let tag = tagged is in
    let same : Own value ≡ Own cell.value = owned tag in
    rw (eq-eqb cell.tag slot tag) (cc)
sight-of_cell slot cell Lent bit is owned tagged = elim (eqb_tells cell.tag slot) [
  | inl tag ↦ absurd (let same : Lent ≡ Own cell.value = owned tag.1 in cc)
  | inr other ↦ rw other.0 refl
]

-- a running guest sees what its program sees
pub sight-same : (slot : ℕ) (cells : List Cell) (owns : List PlainCell) (mask : ℕ)
    → ((reg : ℕ) → 1 ≤ reg → reg < 34 → bit_at mask reg ≡ own_bit (plain_cell owns reg))
    → ((reg : ℕ) → 1 ≤ reg → reg < 34 → (cell_at cells reg).tag ≡ slot → plain_cell owns reg ≡ Own
    (cell_at cells reg).value)
    → ((reg : ℕ) → 1 ≤ reg → reg < 34 → bit_at mask reg ≡ 1 → (cell_at cells reg).tag ≡ slot)
    → (reg : ℕ) → reg < 34 → seen_of_cell owns reg ≡ seen_by slot cells reg
sight-same slot cells owns mask bits owned tagged reg instruction_or_fault =
    elim (eqb_tells reg 0) [
      | inl none ↦ rw none.0 refl
      | inr some ↦
          let from : 1 ≤ reg = let differs : reg ≢ 0 = some.1 in omega arith in
          rw some.0 (sight-of_cell slot (cell_at cells reg) (plain_cell owns reg) (bit_at mask reg)
          (bits reg from instruction_or_fault) (owned reg from instruction_or_fault)
          (tagged reg from instruction_or_fault))
    ]
