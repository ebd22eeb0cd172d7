-- The step of an effect keeps the rules where its values have 32 bits.
use Rattle.std.proofs.Common.{◌≡◌, ℕ, zero, suc, ◌+◌, ◌%◌, ◌^◌, ◌<◌, ◌≤◌, ◌==◌, List, Option, Some, None, Result, Ok, Err, IfSome, drop, take, arith, refl, subst}
use Rattle.std.proofs.lemmas.Bool.{cond_both, eqb-false}
use Rattle.hex.specs.Hex.{IsBytes}
use Rattle.mips_instruction.specs.declared.instruction.Ins.{Ins}
use Rattle.mips_instruction.specs.Words.{Fits, instruction_of_word}
use Rattle.mips_isa.proofs.Reading.{read-Fits}
use Rattle.xom_base.specs.declared.event.OwnFault.{OwnFault}
use Rattle.xom_base.specs.declared.step.Writes.{Writes}
use Rattle.xom_base.specs.declared.step.Writes.TheVariants as writes
use Rattle.mips_effect.specs.Arithmetic.{byte_in_word, half_of, left_merged, right_merged}
use Rattle.mips_effect.specs.Effects.{AreCells, IsInRange, Ranged, merge_of, write_of_register as set_register}
use Rattle.mips_effect.specs.declared.effects.Effect.{Effect}
use Rattle.mips_effect.specs.declared.seen.Mode.TheVariants.{Guest}
use Rattle.mips_effect.specs.declared.seen.Seen.{Seen}
use Rattle.mips_effect.specs.declared.wish.LoadKind.{LoadKind}
use Rattle.mips_effect.specs.declared.wish.LoadKind.TheVariants as kind
use Rattle.mips_effect.specs.declared.wish.Wish.{Wish}
use Rattle.mips_effect.specs.declared.wish.Wish.TheVariants as wish
use Rattle.mips_plain.specs.Instruction.{effect_at, instruction_or_fault, step_made, step_of_wish, with_kept_pair, with_return}
use Rattle.mips_plain.specs.Memory.{word_at_address}
use Rattle.journal_round_trip.specs.KeepsRules.{Is32Bit, KeepsStep, KeepsWrites}
use Rattle.journal_laws.specs.RulesOfRecord.{IsShortPair}
use Rattle.journal_laws.proofs.PlainBytes.{bytes-drop, bytes-take, from_be_bytes-short}
use Rattle.journal_laws.proofs.ShortEffects.{AreShortWrites, IsShortEffect, IsShortSeen, IsShortWish, effect_of-IsShortEffect, reduced-short}

-- the word of bytes at a place
pub word_at-short : (bytes : List ℕ) (address : ℕ) → IsBytes bytes → Is32Bit (word_at_address bytes address)
word_at-short bytes address each =
    from_be_bytes-short (take 4 (drop address bytes))
    (bytes-take 4 (drop address bytes) (bytes-drop address bytes each))

-- ---- loads

left_merged-short : (old place word : ℕ) → place < 4 → Is32Bit old → Is32Bit word
    → Is32Bit (left_merged old place word)
left_merged-short old zero word low short_old short = omega arith
left_merged-short old (suc zero) word low short_old short = omega arith
left_merged-short old (suc (suc zero)) word low short_old short = omega arith
left_merged-short old (suc (suc (suc zero))) word low short_old short = omega arith
left_merged-short old (suc (suc (suc (suc place)))) word low short_old short = absurd (omega arith)

right_merged-short : (old place word : ℕ) → place < 4 → Is32Bit old → Is32Bit word
    → Is32Bit (right_merged old place word)
right_merged-short old zero word low short_old short = omega arith
right_merged-short old (suc zero) word low short_old short = omega arith
right_merged-short old (suc (suc zero)) word low short_old short = omega arith
right_merged-short old (suc (suc (suc zero))) word low short_old short = omega arith
right_merged-short old (suc (suc (suc (suc place)))) word low short_old short = absurd (omega arith)

byte_of-short : (word place : ℕ) → Is32Bit (byte_in_word word place)
byte_of-short word place = omega arith

half_of-short : (word place : ℕ) → Is32Bit (half_of word place)
half_of-short word place = omega arith

pub merge_of-short : (how : LoadKind) (old address word : ℕ) → Is32Bit old → Is32Bit word
    → Is32Bit (merge_of how old address word)
unfolding merge_of
merge_of-short kind.Byte old address word short_old short = reduced-short _
merge_of-short kind.ByteU old address word short_old short = byte_of-short word (address % 4)
merge_of-short kind.Half old address word short_old short = reduced-short _
merge_of-short kind.HalfU old address word short_old short = half_of-short word (address % 4)
merge_of-short kind.Word old address word short_old short = short
merge_of-short kind.Left old address word short_old short =
    left_merged-short old (address % 4) word (omega arith) short_old short
merge_of-short kind.Right old address word short_old short =
    right_merged-short old (address % 4) word (omega arith) short_old short

-- ---- steps

KeepsWrites-of : (w : Writes) → AreCells w → AreShortWrites w → KeepsWrites w
KeepsWrites-of writes.Nothing cells short = tt
KeepsWrites-of (writes.One reg value) cells short = (cells.0, cells.1, short)
KeepsWrites-of (writes.Pair hi lo) cells short = short

KeepsWrites-set : (reg value : ℕ) → reg < 32 → Is32Bit value → KeepsWrites (set_register reg value)
KeepsWrites-set reg value instruction_or_fault short =
    cond_both (reg == 0) _ _ KeepsWrites (λ _. tt) (λ some. let differs =
    eqb-false reg 0 some in (omega arith, omega arith, short))

module _ (pc npc word got : ℕ) (short_pc : Is32Bit pc) (short_npc : Is32Bit npc)
    (short_word : Is32Bit word) (short_got : Is32Bit got) where
  made-KeepsStep : (written : Writes) (wished : Wish) → KeepsWrites written → IsInRange wished
      → IsShortWish wished → KeepsStep (step_of_wish pc npc written wished word got)
  made-KeepsStep written wish.Nothing keeps range short =
      (short_pc, short_npc, keeps, tt, tt, tt, tt)
  made-KeepsStep written (wish.Load reg address how old) keeps range short = (
    short_pc,
    short_npc,
    KeepsWrites-set reg _ range.register
        (merge_of-short how old address word short short_word),
    tt,
    tt,
    tt,
    tt,
  )
  made-KeepsStep written (wish.Store address count value) keeps range short =
      let some : 1 ≤ count = range.some in
      let few : count ≤ 4 = range.few in
      let private : address + count ≤ 2 ^ 20 = range.private in
      (short_pc, short_npc, keeps, (omega arith, some, omega arith, short), tt, tt, tt)
  made-KeepsStep written (wish.NullLoad reg address) keeps range short =
      (short_pc, short_npc, KeepsWrites-set reg got range short_got, tt, (short, short_got), tt, tt)
  made-KeepsStep written (wish.NullStore address value) keeps range short =
      (short_pc, short_npc, keeps, tt, tt, short, tt)
  made-KeepsStep written (wish.Hand address) keeps range short =
      (short_pc, short_npc, keeps, tt, tt, tt, tt)
  made-KeepsStep written wish.SigRet keeps range short =
      (short_pc, short_npc, keeps, tt, tt, tt, tt)
  made-KeepsStep written (wish.Release reg value) keeps range short = (
    short_pc,
    short_npc,
    keeps,
    tt,
    tt,
    (
      range.0,
      let low : reg < 32 = range.1 in
          omega arith,
      short,
    ),
    tt,
  )
  made-KeepsStep written (wish.Receive reg from) keeps range short =
      (short_pc, short_npc, KeepsWrites-set reg got range.0.1 short_got, tt, short_got, tt, tt)
  made-KeepsStep written wish.Exit keeps range short = (short_pc, short_npc, keeps, tt, tt, tt, tt)
  made-KeepsStep written (wish.Call code) keeps range short =
      (short_pc, short_npc, keeps, tt, tt, tt, let low : code < 2 ^ 20 = range in omega arith)
  made-KeepsStep written (wish.Do operation) keeps range short =
      (short_pc, short_npc, keeps, tt, tt, tt, tt)
  made-KeepsStep written (wish.Ask reg what) keeps range short =
      (short_pc, short_npc, keeps, tt, tt, tt, tt)

  -- the step of an effect in range keeps the rules
  pub step_made-KeepsStep : (effect : Effect) → Ranged effect → IsShortEffect effect
      → KeepsStep (step_made pc npc effect word got)
  unfolding step_made
  step_made-KeepsStep effect ranged short =
      made-KeepsStep effect.writes effect.wish (KeepsWrites-of effect.writes ranged.writes
      short.writes) ranged.wish short.wish

-- an instruction that is read has its operands in their ranges
pub known-Fits : (word : ℕ) (ins : Ins) → instruction_or_fault (instruction_of_word word) ≡ Ok ins → Fits ins
known-Fits word ins is = by_found (instruction_of_word word) refl is
  where
    by_found : (found : Option Ins) → instruction_of_word word ≡ found → instruction_or_fault found ≡ Ok ins
        → Fits ins
    by_found None has its = absurd (cc)
    by_found (Some i) has its = let same : i ≡ ins = cc in subst Fits same (read-Fits i word has)

-- ---- the pair that a signal kept

-- one effect is the other
abbrev fine : Effect → Result Effect OwnFault
fine effect = Ok effect

ok_short : (before effect : Effect) → IsShortEffect before → fine before ≡ fine effect
    → IsShortEffect effect
ok_short before effect short is = let same : before ≡ effect = cc in subst IsShortEffect same short

returned-short_at : (kept : Option (ℕ × ℕ)) (before effect : Effect) (wished : Wish)
    → IfSome kept IsShortPair → IsShortEffect before → with_return kept before wished ≡ Ok effect
    → IsShortEffect effect
returned-short_at None before effect wish.SigRet pair short is = absurd (cc)
returned-short_at (Some kept) before effect wish.SigRet pair short is =
    ok_short (record before { pc = kept.0; npc = kept.1 }) effect
    (record { writes = short.writes; wish = short.wish; pc = pair.0; npc = pair.1 }) is
returned-short_at kept before effect _ pair short is = ok_short before effect short is

returned-short : (kept : Option (ℕ × ℕ)) (found : Result Effect OwnFault) (effect : Effect)
    → IfSome kept IsShortPair → ((before : Effect) → found ≡ Ok before → IsShortEffect before)
    → with_kept_pair kept found ≡ Ok effect → IsShortEffect effect
returned-short kept (Err fault) effect pair short is = absurd (cc)
returned-short kept (Ok before) effect pair short is =
    returned-short_at kept before effect before.wish pair (short before refl) is

-- an effect that is tried is short where what is seen is, and the pair that a signal kept
pub tried-IsShortEffect : (see : ℕ → Seen) (kept : Option (ℕ × ℕ)) (found : Result Ins OwnFault)
    (pc npc : ℕ) (effect : Effect)
    → ((ins : Ins) → found ≡ Ok ins → Fits ins) → ((reg : ℕ) → IsShortSeen (see reg))
    → IfSome kept IsShortPair → Is32Bit npc
    → effect_at see kept found pc npc ≡ Ok effect → IsShortEffect effect
tried-IsShortEffect see kept (Err fault) pc npc effect fits short pair short_npc is = absurd (cc)
tried-IsShortEffect see kept (Ok ins) pc npc effect fits short pair short_npc is =
    returned-short kept _ effect pair (λ before found. effect_of-IsShortEffect ins Guest _ _ _ pc
    npc before (fits ins refl) (short _) (short _) (short _) short_npc found) is
