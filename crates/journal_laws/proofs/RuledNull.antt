-- An instruction of null code leaves cells and RAM as they should be, and asks for an operation
-- whose numbers have 32 bits.
use Rattle.std.proofs.Common.{◌≡◌, ℕ, ◌-◌, ◌%◌, ◌==◌, Bool, true, false, cond, List, All, Option, Some, None, Result, Ok, Err, set, lit<, refl}
use Rattle.std.proofs.lemmas.Bool.{cond_both}
use Rattle.std.proofs.lemmas.List.Elements.{All-set}
use Rattle.hex.specs.Hex.{IsBytes}
use Rattle.xom_base.specs.declared.event.Cause.{Cause}
use Rattle.xom_base.specs.declared.event.Cause.TheVariants as cause
use Rattle.xom_base.specs.declared.event.Op.{Op}
use Rattle.xom_base.specs.declared.event.OwnFault.{OwnFault}
use Rattle.xom_base.specs.declared.event.OwnFault.TheVariants as fault
use Rattle.xom_base.specs.declared.step.Writes.{Writes}
use Rattle.xom_base.specs.declared.step.Writes.TheVariants as writes
use Rattle.mips_instruction.specs.declared.instruction.Ins.{Ins}
use Rattle.mips_instruction.specs.Words.{Fits, instruction_of_word}
use Rattle.mips_effect.specs.Effects.{write_of_register as set_register}
use Rattle.mips_effect.specs.declared.effects.Effect.{Effect}
use Rattle.mips_effect.specs.declared.seen.Mode.TheVariants.{Null}
use Rattle.mips_effect.specs.declared.wish.Asked.{Asked}
use Rattle.mips_effect.specs.declared.wish.Asked.TheVariants as asked
use Rattle.mips_effect.specs.declared.wish.Wish.{Wish}
use Rattle.mips_effect.specs.declared.wish.Wish.TheVariants as wish
use Rattle.mips_plain.specs.Instruction.{instruction_or_fault}
use Rattle.mips_plain.specs.Memory.{low_bytes, word_at_address}
use Rattle.journal_round_trip.specs.KeepsRules.{Is32Bit}
use Rattle.tag_regs.specs.declared.cell.Cell.{Cell}
use Rattle.tag_regs.specs.TaggedCells.{cell_at, empty_cell}
use Rattle.xom_model.specs.declared.outcome.NullFault.{NullFault}
use Rattle.xom_model.specs.declared.outcome.NullFault.TheVariants as null
use Rattle.xom_model.specs.State.{ram_holds_range}
use Rattle.xom_model.specs.Null.{Answer, Open, Told, cause_argument, cause_number, done_answer, fetched_open, loaded_open, null_answer, null_step, open_after, ran_open, seen_open, stopped_by, stored_open, tried_open, wish_answer, with_null_writes}
use Rattle.journal_laws.specs.RulesOfRecord.{IsShortCell, IsShortOp}
use Rattle.journal_laws.proofs.PlainBytes.{bytes-low, bytes-written}
use Rattle.journal_laws.proofs.RuledParts.{All-at}
use Rattle.journal_laws.proofs.RuledSteps.{known-Fits, merge_of-short, word_at-short}
use Rattle.journal_laws.proofs.ShortEffects.{AreShortWrites, IsShortEffect, IsShortSeen, effect_of-IsShortEffect, set-short}

-- what it is told has 32 bits
pub record IsShortTold (told : Told) : Type 0 where
  pub status : Is32Bit told.status
  pub cause : Is32Bit (cause_argument told.cause)
  pub who : Is32Bit told.who

-- an operation that it asks for has short numbers
abbrev pub IsShortAsk : Result (Option Op) NullFault → Type 0
IsShortAsk (Err why) = Unit {0}
IsShortAsk (Ok None) = Unit {0}
IsShortAsk (Ok (Some op)) = IsShortOp op

-- the open part of the machine is as it should be
pub record IsOpenPart (s : Open) : Type 0 where
  pub cells : All IsShortCell s.cells
  pub ram : IsBytes s.ram
  pub npc : Is32Bit s.npc

abbrev pub GoesOpen : Answer → Type 0
GoesOpen answer = IsOpenPart answer.0 × IsShortAsk answer.1

-- ---- What it is told

cause_number-short : (why : Cause) → Is32Bit (cause_number why)
cause_number-short cause.Nothing = lit< tt
cause_number-short _ = lit< tt

answer_of-short : (told : Told) (what : Asked) → IsShortTold told → Is32Bit (null_answer told what)
answer_of-short told asked.Status short = short.status
answer_of-short told asked.Cause short = cause_number-short told.cause
answer_of-short told asked.Arg short = short.cause
answer_of-short told asked.Who short = short.who

-- ---- What it sees

seen_open-short : (cells : List Cell) (reg : ℕ) → All IsShortCell cells
    → IsShortSeen (seen_open cells reg)
seen_open-short cells reg short =
    cond_both (reg == 0) _ _ IsShortSeen (λ _. lit< tt)
    (λ _. cond_both ((cell_at cells reg).tag == 0) _ _ IsShortSeen
    (λ _. All-at IsShortCell cells reg empty_cell (lit< tt) short) (λ _. tt))

fetched_open-Fits : (ram : List ℕ) (pc : ℕ) (ins : Ins) → fetched_open ram pc ≡ Ok ins → Fits ins
unfolding fetched_open
fetched_open-Fits ram pc ins is = by_test _ is
  where
    by_test : (b : Bool)
        → cond b (instruction_or_fault (instruction_of_word (word_at_address ram pc))) (Err fault.Address) ≡ Ok ins
        → Fits ins
    by_test true its = known-Fits (word_at_address ram pc) ins its
    by_test false its = absurd (cc)

-- ---- What it does

opened-short : (cells : List Cell) (written : Writes) → AreShortWrites written
    → All IsShortCell cells → All IsShortCell (with_null_writes cells written)
opened-short cells writes.Nothing keeps short = short
opened-short cells (writes.One reg value) keeps short =
    All-set IsShortCell cells reg (record { value = value; tag = 0 }) keeps short
opened-short cells (writes.Pair hi lo) keeps short =
    All-set IsShortCell (set cells 32 (record { value = hi; tag = 0 })) 33
    (record { value = lo; tag = 0 }) keeps.1
    (All-set IsShortCell cells 32 (record { value = hi; tag = 0 }) keeps.0 short)

module _ (told : Told) (s : Open) (short_told : IsShortTold told) (sound : IsOpenPart s) where
  passed-open : (effect : Effect) (written : Writes) → IsShortEffect effect → AreShortWrites written
      → IsOpenPart (open_after s effect written)
  passed-open effect written short keeps =
      record {
        cells = opened-short s.cells written keeps sound.cells;
        ram = sound.ram;
        npc =
            short.npc;
      }

  stopped-open : (why : NullFault) → GoesOpen (stopped_by s why)
  stopped-open why = (sound, tt)

  granted-open : (effect : Effect) (wished : Wish) → effect.wish ≡ wished → IsShortEffect effect
      → GoesOpen (wish_answer told s effect wished)
  granted-open effect wish.Nothing is short =
      (passed-open effect effect.writes short short.writes, tt)
  granted-open effect (wish.Load reg address how old) is short =
      let low : Is32Bit old = (let all = short.wish in rw is at all) in
      let value = merge_of-short how old address (word_at_address s.ram (address - address % 4)) low
      (word_at-short s.ram (address - address % 4) sound.ram) in
      cond_both (ram_holds_range s.ram (address - address % 4) 4)
      (done_answer (open_after s effect (set_register reg (loaded_open s.ram how old address))))
      (stopped_by s null.Address) GoesOpen
      (λ _. (
        passed-open effect (set_register reg (loaded_open s.ram how old address)) short
            (set-short reg (loaded_open s.ram how old address) value),
        tt,
      ))
      (λ _. stopped-open null.Address)
  granted-open effect (wish.Store address count value) is short =
      let next = passed-open effect effect.writes short short.writes in
      cond_both (ram_holds_range s.ram address count)
      (done_answer (stored_open (open_after s effect effect.writes) address
      (low_bytes count value))) (stopped_by s null.Address) GoesOpen
      (λ _. (
        record {
          cells = next.cells;
          ram = bytes-written s.ram address (low_bytes count value)
              sound.ram (bytes-low count value);
          npc = next.npc;
        },
        tt,
      )) (λ _. stopped-open null.Address)
  granted-open effect (wish.Call code) is short = stopped-open null.Call
  granted-open effect (wish.Do operation) is short =
      (passed-open effect effect.writes short short.writes, let all = short.wish in rw is at all)
  granted-open effect (wish.Ask reg what) is short = (
    passed-open effect (set_register reg (null_answer told what)) short
        (set-short reg (null_answer told what) (answer_of-short told what short_told)),
    tt,
  )
  granted-open effect (wish.Release reg value) is short = stopped-open null.Reserved
  granted-open effect _ is short = stopped-open null.Reserved

  tried-short : (found : Result Ins OwnFault) (effect : Effect)
      → ((ins : Ins) → found ≡ Ok ins → Fits ins)
      → tried_open (seen_open s.cells) found s.pc s.npc ≡ Ok effect → IsShortEffect effect
  tried-short (Err why) effect fits is = absurd (cc)
  tried-short (Ok ins) effect fits is =
      effect_of-IsShortEffect ins Null _ _ _ s.pc s.npc effect (fits ins refl)
      (seen_open-short s.cells _ sound.cells) (seen_open-short s.cells _ sound.cells)
      (seen_open-short s.cells _ sound.cells) sound.npc is

  ran-open : (found : Result Effect OwnFault)
      → ((effect : Effect) → found ≡ Ok effect → IsShortEffect effect)
      → GoesOpen (ran_open told s found)
  ran-open (Err why) short = (sound, tt)
  ran-open (Ok effect) short = granted-open effect effect.wish refl (short effect refl)

  pub null-open : GoesOpen (null_step told s)
  unfolding null_step
  null-open =
      ran-open _
      (λ effect is. tried-short (fetched_open s.ram s.pc) effect (fetched_open-Fits s.ram s.pc)
      is)
