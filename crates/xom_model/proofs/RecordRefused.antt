-- An operation that is refused leaves the whole record but for its status, the count of events and,
-- in null code, the null pair.
use Rattle.std.proofs.Common.{◌≡◌, inl, inr, cond, ℕ, ◌+◌, ◌-◌, ◌%◌, ◌==◌, Bool, true, false, not, ◌&&◌, Option, Some, None, Result, Ok, Err, IfOk, refl, sym, ◌∙◌, ap, arith}
use Rattle.std.specs.Prelude.{is_none}
use Rattle.xom_model.specs.declared.outcome.NullFault.TheVariants as null
use Rattle.xom_base.specs.declared.event.Op.{Op}
use Rattle.xom_base.specs.declared.event.Op.TheVariants.{Halt}
use Rattle.xom_base.specs.declared.event.OwnFault.{OwnFault}
use Rattle.xom_base.specs.declared.event.OwnFault.TheVariants as fault
use Rattle.xom_base.specs.declared.step.Writes.TheVariants as writes
use Rattle.mips_instruction.specs.declared.instruction.Ins.{Ins}
use Rattle.mips_instruction.specs.declared.instruction.Ins.TheVariants.{Sll, Srl, Sra, Sllv, Srlv, Srav, Jr, Jalr, Syscall, Break, Mfhi, Mthi, Mflo, Mtlo, Mult, Multu, Div, Divu, Add, Addu, Sub, Subu, And, Or, Xor, Nor, Slt, Sltu, Bltz, Bgez, Bltzal, Bgezal, J, Jal, Beq, Bne, Blez, Bgtz, Addi, Addiu, Slti, Sltiu, Andi, Ori, Xori, Lui, Lb, Lh, Lwl, Lw, Lbu, Lhu, Lwr, Sb, Sh, Swl, Sw, Swr, Xlwn, Xswn}
use Rattle.mips_effect.specs.declared.effects.Effect.{Effect}
use Rattle.mips_effect.specs.declared.seen.Mode.{Mode}
use Rattle.mips_effect.specs.declared.seen.Mode.TheVariants.{Null}
use Rattle.mips_effect.specs.declared.seen.Seen.{Seen}
use Rattle.mips_effect.specs.declared.wish.LoadKind.TheVariants as kind
use Rattle.mips_effect.specs.declared.wish.Wish.{Wish}
use Rattle.mips_effect.specs.declared.wish.Wish.TheVariants as wish
use Rattle.mips_instruction.specs.Numbers.{plus_signed, sign_extended}
use Rattle.mips_effect.specs.Arithmetic.{difference, sum}
use Rattle.mips_effect.specs.Effects.{act, alignment_of, effect_of, effect_or_fault, is_barred, is_open, is_reserved, number_of_seen, seen_at, sets_or_overflows, sources_of, write_of_register as set_register}
use Rattle.mips_plain.specs.Memory.{low_bytes}
use Rattle.xom_versions.specs.Versions.{Versions}
use Rattle.xom_model.specs.State.{CoreState, Record, ram_holds_range}
use Rattle.xom_model.specs.Null.{Answer, Open, Told, done_answer, fetched_open, loaded_open, null_step, open_after, ran_open, seen_open, stopped_by, stored_open, tried_open, wish_answer}
use Rattle.xom_model.specs.Operation.{operation}
use Rattle.xom_model.specs.Event.{after_operation, is_halt, null_turn, on, open_in, running_slot, told_in, with_open}
use Rattle.xom_model.specs.Refused.{DoRefused, IsRefusalStatus, NullRefused}
use Rattle.xom_model.proofs.Refusals.{refusals_change_nothing}

-- ---- An instruction that asks for an operation writes nothing

abbrev AsksOnly : Effect → Type 0
AsksOnly effect = (op : Op) → effect.wish ≡ wish.Do op → effect.writes ≡ writes.Nothing

overflows-ask : (reg : ℕ) (value : Option ℕ) (following : ℕ)
    → IfOk (sets_or_overflows reg value following) AsksOnly
overflows-ask reg None following = tt
overflows-ask reg (Some value) following = λ op is. absurd (cc)

either-asks : (b : Bool) (one other : Result Effect OwnFault) → IfOk one AsksOnly
    → IfOk other AsksOnly → IfOk (cond b one other) AsksOnly
either-asks true one other first second = first
either-asks false one other first second = second

act-asks : (i : Ins) (mode : Mode) (s t d following : ℕ)
    → IfOk (act i mode s t d following) AsksOnly
unfolding act
act-asks (Sll rd rt sa) mode s t d following = λ op is. absurd (cc)
act-asks (Srl rd rt sa) mode s t d following = λ op is. absurd (cc)
act-asks (Sra rd rt sa) mode s t d following = λ op is. absurd (cc)
act-asks (Sllv rd rt rs) mode s t d following = λ op is. absurd (cc)
act-asks (Srlv rd rt rs) mode s t d following = λ op is. absurd (cc)
act-asks (Srav rd rt rs) mode s t d following = λ op is. absurd (cc)
act-asks (Jr rs) mode s t d following = λ op is. absurd (cc)
act-asks (Jalr rd rs) mode s t d following = λ op is. absurd (cc)
act-asks (Syscall code) mode s t d following = λ op is. refl
act-asks (Break code) mode s t d following = tt
act-asks (Mfhi rd) mode s t d following = λ op is. absurd (cc)
act-asks (Mthi rs) mode s t d following = λ op is. absurd (cc)
act-asks (Mflo rd) mode s t d following = λ op is. absurd (cc)
act-asks (Mtlo rs) mode s t d following = λ op is. absurd (cc)
act-asks (Mult rs rt) mode s t d following = λ op is. absurd (cc)
act-asks (Multu rs rt) mode s t d following = λ op is. absurd (cc)
act-asks (Div rs rt) mode s t d following = λ op is. absurd (cc)
act-asks (Divu rs rt) mode s t d following = λ op is. absurd (cc)
act-asks (Add rd rs rt) mode s t d following = overflows-ask rd (sum s t) following
act-asks (Addu rd rs rt) mode s t d following = λ op is. absurd (cc)
act-asks (Sub rd rs rt) mode s t d following = overflows-ask rd (difference s t) following
act-asks (Subu rd rs rt) mode s t d following = λ op is. absurd (cc)
act-asks (And rd rs rt) mode s t d following = λ op is. absurd (cc)
act-asks (Or rd rs rt) mode s t d following = λ op is. absurd (cc)
act-asks (Xor rd rs rt) mode s t d following = λ op is. absurd (cc)
act-asks (Nor rd rs rt) mode s t d following = λ op is. absurd (cc)
act-asks (Slt rd rs rt) mode s t d following = λ op is. absurd (cc)
act-asks (Sltu rd rs rt) mode s t d following = λ op is. absurd (cc)
act-asks (Bltz rs imm) mode s t d following = λ op is. absurd (cc)
act-asks (Bgez rs imm) mode s t d following = λ op is. absurd (cc)
act-asks (Bltzal rs imm) mode s t d following = λ op is. absurd (cc)
act-asks (Bgezal rs imm) mode s t d following = λ op is. absurd (cc)
act-asks (J index) mode s t d following = λ op is. absurd (cc)
act-asks (Jal index) mode s t d following = λ op is. absurd (cc)
act-asks (Beq rs rt imm) mode s t d following = λ op is. absurd (cc)
act-asks (Bne rs rt imm) mode s t d following = λ op is. absurd (cc)
act-asks (Blez rs imm) mode s t d following = λ op is. absurd (cc)
act-asks (Bgtz rs imm) mode s t d following = λ op is. absurd (cc)
act-asks (Addi rt rs imm) mode s t d following = overflows-ask rt (sum s (sign_extended imm)) following
act-asks (Addiu rt rs imm) mode s t d following = λ op is. absurd (cc)
act-asks (Slti rt rs imm) mode s t d following = λ op is. absurd (cc)
act-asks (Sltiu rt rs imm) mode s t d following = λ op is. absurd (cc)
act-asks (Andi rt rs imm) mode s t d following = λ op is. absurd (cc)
act-asks (Ori rt rs imm) mode s t d following = λ op is. absurd (cc)
act-asks (Xori rt rs imm) mode s t d following = λ op is. absurd (cc)
act-asks (Lui rt imm) mode s t d following = λ op is. absurd (cc)
act-asks (Lb rt imm rs) mode s t d following =
    either-asks (is_open mode (alignment_of kind.Byte) (plus_signed s imm)) _ _ (λ op is. refl) tt
act-asks (Lh rt imm rs) mode s t d following =
    either-asks (is_open mode (alignment_of kind.Half) (plus_signed s imm)) _ _ (λ op is. refl) tt
act-asks (Lwl rt imm rs) mode s t d following =
    either-asks (is_open mode (alignment_of kind.Left) (plus_signed s imm)) _ _ (λ op is. refl) tt
act-asks (Lw rt imm rs) mode s t d following =
    either-asks (is_open mode (alignment_of kind.Word) (plus_signed s imm)) _ _ (λ op is. refl) tt
act-asks (Lbu rt imm rs) mode s t d following =
    either-asks (is_open mode (alignment_of kind.ByteU) (plus_signed s imm)) _ _ (λ op is. refl) tt
act-asks (Lhu rt imm rs) mode s t d following =
    either-asks (is_open mode (alignment_of kind.HalfU) (plus_signed s imm)) _ _ (λ op is. refl) tt
act-asks (Lwr rt imm rs) mode s t d following =
    either-asks (is_open mode (alignment_of kind.Right) (plus_signed s imm)) _ _ (λ op is. refl) tt
act-asks (Sb rt imm rs) mode s t d following =
    either-asks (is_open mode 1 (plus_signed s imm)) _ _ (λ op is. refl) tt
act-asks (Sh rt imm rs) mode s t d following =
    either-asks (is_open mode 2 (plus_signed s imm)) _ _ (λ op is. refl) tt
act-asks (Swl rt imm rs) mode s t d following =
    either-asks (is_open mode 1 (plus_signed s imm)) _ _ (λ op is. refl) tt
act-asks (Sw rt imm rs) mode s t d following =
    either-asks (is_open mode 4 (plus_signed s imm)) _ _ (λ op is. refl) tt
act-asks (Swr rt imm rs) mode s t d following =
    either-asks (is_open mode 1 (plus_signed s imm)) _ _ (λ op is. refl) tt
act-asks (Xlwn rt imm rs) mode s t d following =
    either-asks (plus_signed s imm % 4 == 0) _ _ (λ op is. refl) tt
act-asks (Xswn rt imm rs) mode s t d following =
    either-asks (plus_signed s imm % 4 == 0) _ _ (λ op is. refl) tt
act-asks _ mode s t d following = λ op is. refl

judged-asks : (i : Ins) (mode : Mode) (first second third : Seen) (following : ℕ)
    → IfOk (effect_or_fault i mode first second third following) AsksOnly
judged-asks i mode first second third following =
    either-asks (is_reserved mode i) (Err fault.Reserved) _ tt
    (either-asks (is_barred mode i first second third) (Err fault.Foreign) _ tt
    (act-asks i mode (number_of_seen first) (number_of_seen second) (number_of_seen third) following))

effect-asks : (i : Ins) (a b c : Seen) (pc npc : ℕ) → IfOk (effect_of i Null a b c pc npc) AsksOnly
unfolding effect_of
effect-asks i a b c pc npc =
    judged-asks i Null (seen_at (sources_of i).0 a) (seen_at (sources_of i).1 b)
    (seen_at (sources_of i).2 c) npc

tried-asks : (see : ℕ → Seen) (found : Result Ins OwnFault) (pc npc : ℕ)
    → IfOk (tried_open see found pc npc) AsksOnly
tried-asks see (Err why) pc npc = tt
tried-asks see (Ok i) pc npc =
    effect-asks i (see (sources_of i).0) (see (sources_of i).1) (see (sources_of i).2) pc npc

-- so cells and RAM stay where an operation is asked for
abbrev Stays : Open → Answer → Type 0
Stays s answer =
    (op : Op) → answer.1 ≡ Ok (Some op) → (answer.0.cells ≡ s.cells) × (answer.0.ram ≡ s.ram)

stays_either : (s : Open) (b : Bool) (one other : Answer) → Stays s one → Stays s other
    → Stays s (cond b one other)
stays_either s true one other first second = first
stays_either s false one other first second = second

granted_stays : (told : Told) (s : Open) (effect : Effect) → AsksOnly effect → (wished : Wish)
    → effect.wish ≡ wished → Stays s (wish_answer told s effect wished)
granted_stays told s effect asks wish.Nothing is op asked = absurd (cc)
granted_stays told s effect asks (wish.Load reg address how old) is op asked =
    stays_either s (ram_holds_range s.ram (address - address % 4) 4)
    (done_answer (open_after s effect (set_register reg (loaded_open s.ram how old address))))
    (stopped_by s null.Address) (λ o no_op. absurd (cc)) (λ o no_op. absurd (cc)) op asked
granted_stays told s effect asks (wish.Store address count value) is op asked =
    stays_either s (ram_holds_range s.ram address count)
    (done_answer (stored_open (open_after s effect effect.writes) address
    (low_bytes count value))) (stopped_by s null.Address) (λ o no_op. absurd (cc))
    (λ o no_op. absurd (cc)) op asked
granted_stays told s effect asks (wish.Call code) is op asked = absurd (cc)
granted_stays told s effect asks (wish.Do done) is op asked =
    (ap (λ written. (open_after s effect written).cells) (asks done is), refl)
granted_stays told s effect asks _ is op asked = absurd (cc)

ran_stays : (told : Told) (s : Open) (found : Result Effect OwnFault) → IfOk found AsksOnly
    → Stays s (ran_open told s found)
ran_stays told s (Err why) asks op asked = absurd (cc)
ran_stays told s (Ok effect) asks op asked =
    granted_stays told s effect asks effect.wish refl op asked

null_stays : (told : Told) (s : Open) → Stays s (null_step told s)
unfolding null_step
null_stays told s =
    ran_stays told s (tried_open (seen_open s.cells) (fetched_open s.ram s.pc) s.pc s.npc)
    (tried-asks (seen_open s.cells) (fetched_open s.ram s.pc) s.pc s.npc)

-- ---- The record

-- Halt is never refused
halt_done : (v : Versions) (core : CoreState) (op : Op) → IsRefusalStatus (operation v core op).1
    → is_halt op ≡ false
unfolding operation
halt_done v core Halt refusal = absurd (let low = refusal.0 in omega arith)
halt_done v core _ refusal = refl

core_same : (v : Versions) (core : CoreState) (op : Op) → IsRefusalStatus (operation v core op).1
    → (operation v core op).0 ≡ core
core_same v core op refusal = elim (refusals_change_nothing v core op) [
  | inl done ↦ absurd (let low = refusal.0 in omega (arith, done))
  | inr rest ↦ elim rest [
    | inl stopped ↦ absurd (let high = refusal.1 in omega (arith, stopped))
    | inr same ↦ same
  ]
]

-- a machine that isn't halted
operated_refused : (v : Versions) (r : Record) (op : Op) → r.halted ≡ false
    → IsRefusalStatus (operation v r.core op).1
    → (after_operation r op (operation v r.core op)).0 ≡ record r {
      status =
          (operation v r.core op).1;
      events = r.events + 1;
    }
operated_refused v r op goes refusal =
    let status = (operation v r.core op).1 in
    ap (λ core. let new : Record = record r {
      core = core;
      status = status;
      events =
          r.events + 1;
      halted = is_halt op;
    } in new) (core_same v r.core op refusal)
    ∙ ap (λ halted. let new : Record = record r {
      status = status;
      events = r.events + 1;
      halted =
          halted;
    } in new) (halt_done v r.core op refusal ∙ sym goes)

going : (halted other : Bool) → (not halted && other) ≡ true → halted ≡ false
going true other is = absurd (cc)
going false other is = refl

pub do_refused : DoRefused
unfolding on
do_refused v r op bytes fit refusal =
    operated_refused v r op (going r.halted (is_none (running_slot r)) fit) refusal

null_refused_by : (v : Versions) (r : Record) (op : Op) (answer : Answer) → r.halted ≡ false
    → answer.1 ≡ Ok (Some op) → (answer.0.cells ≡ r.core.cells) × (answer.0.ram ≡ r.core.ram)
    → IsRefusalStatus (null_turn v r answer).0.status
    → (null_turn v r answer).0 ≡ record r {
      status = (null_turn v r answer).0.status;
      events =
          r.events + 1;
      pc = answer.0.pc;
      npc = answer.0.npc;
    }
null_refused_by v r op (s, Err why) goes is same refusal = absurd (cc)
null_refused_by v r op (s, Ok None) goes is same refusal = absurd (cc)
null_refused_by v r op (s, Ok (Some asked)) goes is same refusal =
    let status = (operation v (with_open r s).core asked).1 in
    operated_refused v (with_open r s) asked goes refusal
    ∙ ap (λ cells. let new : Record =
    record r {
      core = record r.core { cells = cells; ram = s.ram };
      pc = s.pc;
      npc =
          s.npc;
      status = status;
      events = r.events + 1;
    } in new) same.0
    ∙ ap (λ ram. let new : Record = record r {
      core = record r.core { ram = ram };
      pc = s.pc;
      npc =
          s.npc;
      status = status;
      events = r.events + 1;
    } in new) same.1

pub null_refused : NullRefused
unfolding on
null_refused v r op bytes fit asked refusal =
    null_refused_by v r op (null_step (told_in r) (open_in r))
    (going r.halted (is_none (running_slot r)) fit) asked (null_stays (told_in r) (open_in r) op
    asked) refusal
