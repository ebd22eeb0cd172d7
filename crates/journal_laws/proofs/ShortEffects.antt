-- The values of an effect have 32 bits where those that are seen do, of a guest's instruction and
-- of null code alike.
use Rattle.std.proofs.Common.{◌≡◌, ℕ, zero, suc, ◌+◌, ◌*◌, ◌-◌, ◌/◌, ◌%◌, ◌^◌, ◌<◌, ◌≤◌, ◌==◌, ℤ, pos, negsuc, ◌+ℤ◌, ◌-ℤ◌, Bool, true, false, Some, None, Ok, Err, IfOk, lit<, arith}
use Rattle.std.proofs.lemmas.Bool.{cond_both}
use Rattle.std.proofs.Math.Nat.{div-le_self, mod-le}
use Rattle.std.proofs.lemmas.Nat.{and_le_l, mod_below, mul-lt, or_of_32, pow_pos, xor_of_32}
use Rattle.std.specs.Int.{w32, bit_not}
use Rattle.std.specs.Prelude.{bit_and}
use Rattle.mips_instruction.specs.declared.instruction.Ins.{Ins}
use Rattle.mips_instruction.specs.declared.instruction.Ins.TheVariants.{Sll, Srl, Sra, Sllv, Srlv, Srav, Jr, Jalr, Syscall, Break, Mfhi, Mthi, Mflo, Mtlo, Mult, Multu, Div, Divu, Add, Addu, Sub, Subu, And, Or, Xor, Nor, Slt, Sltu, Bltz, Bgez, Bltzal, Bgezal, J, Jal, Beq, Bne, Blez, Bgtz, Addi, Addiu, Slti, Sltiu, Andi, Ori, Xori, Lui, Lb, Lh, Lwl, Lw, Lbu, Lhu, Lwr, Sb, Sh, Swl, Sw, Swr, Xlwn, Xswn, Xmvtn, Xmvfn, Xexit, Xhand, Xsigret, Xinstall, Xenter, Xresume, Xsave, Xrestore, Xmap, Xunmap, Xkill, Xout, Xhalt, Xstat, Xcause, Xarg, Xwho}
use Rattle.mips_instruction.specs.Words.{Fits}
use Rattle.mips_instruction.specs.Numbers.{jump_target, next_address, number_modulo_word, plus_signed, reduced_64, sign_extended, signed_number}
use Rattle.xom_base.specs.declared.event.Op.TheVariants as op
use Rattle.xom_base.specs.declared.event.OwnFault.TheVariants as fault
use Rattle.xom_base.specs.declared.step.Writes.{Writes}
use Rattle.xom_base.specs.declared.step.Writes.TheVariants as writes
use Rattle.mips_effect.specs.declared.effects.Effect.{Effect}
use Rattle.mips_effect.specs.declared.seen.Mode.{Mode}
use Rattle.mips_effect.specs.declared.seen.Seen.{Seen}
use Rattle.mips_effect.specs.declared.seen.Seen.TheVariants.{Value, Foreign}
use Rattle.mips_effect.specs.declared.wish.Asked.TheVariants as asked
use Rattle.mips_effect.specs.declared.wish.LoadKind.{LoadKind}
use Rattle.mips_effect.specs.declared.wish.LoadKind.TheVariants as kind
use Rattle.mips_effect.specs.declared.wish.Wish.{Wish}
use Rattle.mips_effect.specs.declared.wish.Wish.TheVariants as wish
use Rattle.mips_effect.specs.Arithmetic.{bit_if, divided_unsigned, in_32, pair_of_halves, quotient_and_remainder}
use Rattle.mips_effect.specs.Effects.{act, alignment_of, at_word, effect_going_on, effect_of, effect_or_fault, is_barred, is_open, is_reserved, jumps, loads, number_of_seen, seen_at, sets, sets_or_overflows, sources_of, stores, stores_left, stores_part, stores_right, way, wishes, write_of_register, writes_only}
use Rattle.journal_round_trip.specs.KeepsRules.{Is32Bit}
use Rattle.journal_laws.specs.RulesOfRecord.{IsShortOp}

-- ---- what is said

abbrev pub AreShortWrites : Writes → Type 0
AreShortWrites writes.Nothing = Unit {0}
AreShortWrites (writes.One reg value) = Is32Bit value
AreShortWrites (writes.Pair hi lo) = Is32Bit hi × Is32Bit lo

abbrev pub IsShortWish : Wish → Type 0
IsShortWish wish.Nothing = Unit {0}
IsShortWish (wish.Load reg address how old) = Is32Bit old
IsShortWish (wish.Store address count value) = value < 2 ^ (8 * count)
IsShortWish (wish.NullLoad reg address) = Is32Bit address
IsShortWish (wish.NullStore address value) = Is32Bit address × Is32Bit value
IsShortWish (wish.Hand address) = Is32Bit address
IsShortWish wish.SigRet = Unit {0}
IsShortWish (wish.Release reg value) = Is32Bit value
IsShortWish (wish.Receive reg from) = Unit {0}
IsShortWish wish.Exit = Unit {0}
IsShortWish (wish.Call code) = Unit {0}
IsShortWish (wish.Do operation) = IsShortOp operation
IsShortWish (wish.Ask reg what) = Unit {0}

pub record IsShortEffect (e : Effect) : Type 0 where
  pub writes : AreShortWrites e.writes
  pub wish : IsShortWish e.wish
  pub pc : Is32Bit e.pc
  pub npc : Is32Bit e.npc

abbrev pub IsShortSeen : Seen → Type 0
IsShortSeen (Value v) = Is32Bit v
IsShortSeen Foreign = Unit {0}

-- ---- numbers

mod-short : (n : ℕ) → Is32Bit (n % 2 ^ 32)
mod-short n = omega arith

pub reduced-short : (z : ℤ) → Is32Bit (number_modulo_word z)
reduced-short (pos n) = omega arith
reduced-short (negsuc n) = omega arith

reduced_64-short : (z : ℤ) → reduced_64 z < 2 ^ 64
reduced_64-short (pos n) = omega arith
reduced_64-short (negsuc n) = omega arith

div-short : (n k : ℕ) → Is32Bit n → Is32Bit (n / k)
div-short n k short = let low : n / k ≤ n = div-le_self n k in omega arith

shifted-short : (n by : ℕ) → Is32Bit n → Is32Bit (n / 2 ^ by)
shifted-short n by short = div-short n (2 ^ by) short

and-short : (a b : ℕ) → Is32Bit a → Is32Bit (bit_and a b)
and-short a b short = let low : bit_and a b ≤ a = and_le_l a b in omega arith

not-short : (n : ℕ) → Is32Bit (bit_not w32 n)
not-short n = omega arith

imm-short : (imm : ℕ) → imm < 2 ^ 16 → Is32Bit imm
imm-short imm low = omega arith

bit_if-short : (b : Bool) → Is32Bit (bit_if b)
bit_if-short true = lit< tt
bit_if-short false = lit< tt

jump_target-short : (following index : ℕ) → Is32Bit following → index < 2 ^ 26
    → Is32Bit (jump_target following index)
jump_target-short following index short low = omega arith

halves-short : (n : ℕ) → n < 2 ^ 64 → AreShortWrites (pair_of_halves n)
halves-short n low = (omega arith, omega arith)

divided-short : (s t : ℕ) → Is32Bit s → AreShortWrites (quotient_and_remainder s t)
divided-short s t short =
    cond_both (t == 0) _ _ AreShortWrites (λ _. (short, lit< tt))
    (λ _. (reduced-short _, reduced-short _))

divided_unsigned-short : (s t : ℕ) → Is32Bit s → AreShortWrites (divided_unsigned s t)
divided_unsigned-short s t short =
    cond_both (t == 0) _ _ AreShortWrites (λ _. (short, lit< tt))
    (λ _. (let low : s % t ≤ s = mod-le s t in omega arith, div-short s t short))

pub set-short : (reg value : ℕ) → Is32Bit value → AreShortWrites (write_of_register reg value)
set-short reg value short = cond_both (reg == 0) _ _ AreShortWrites (λ _. tt) (λ _. short)

-- the high bytes of a word, from a place to its end
left-low : (place value : ℕ) → place < 4 → Is32Bit value
    → value / 2 ^ (8 * place) < 2 ^ (8 * (4 - place))
left-low zero value low short = omega arith
left-low (suc zero) value low short = omega arith
left-low (suc (suc zero)) value low short = omega arith
left-low (suc (suc (suc zero))) value low short = omega arith
left-low (suc (suc (suc (suc place)))) value low short = absurd (omega arith)

-- ---- the instructions, of values that are short

module _ (mode : Mode) (s t d following : ℕ) (short_s : Is32Bit s) (short_t : Is32Bit t)
    (short_d : Is32Bit d) (short_following : Is32Bit following) where
  goes_on-short : (written : Writes) (wished : Wish) → AreShortWrites written → IsShortWish wished
      → IfOk (effect_going_on written wished following) IsShortEffect
  goes_on-short written wished short_writes short_wish =
      record { writes = short_writes; wish = short_wish; pc = short_following; npc = mod-short _ }

  writes-short : (written : Writes) → AreShortWrites written
      → IfOk (writes_only written following) IsShortEffect
  writes-short written short = goes_on-short written wish.Nothing short tt

  wishes-short : (wished : Wish) → IsShortWish wished → IfOk (wishes wished following) IsShortEffect
  wishes-short wished short = goes_on-short writes.Nothing wished tt short

  sets-short : (reg value : ℕ) → Is32Bit value → IfOk (sets reg value following) IsShortEffect
  sets-short reg value short =
      goes_on-short (write_of_register reg value) wish.Nothing (set-short reg value short) tt

  in_32-short : (reg : ℕ) (z : ℤ) → IfOk (sets_or_overflows reg (in_32 z) following) IsShortEffect
  in_32-short reg z =
      cond_both _ (Some (number_modulo_word z)) None (λ o. IfOk (sets_or_overflows reg o following)
      IsShortEffect) (λ _. sets-short reg _ (reduced-short z)) (λ _. tt)

  jumps-short : (written : Writes) (to : ℕ) → AreShortWrites written → Is32Bit to
      → IfOk (jumps written to following) IsShortEffect
  jumps-short written to short short_to =
      record { writes = short; wish = tt; pc = short_following; npc = short_to }

  way-short : (taken : Bool) (imm : ℕ) → Is32Bit (way taken imm following)
  way-short true imm = reduced-short _
  way-short false imm = mod-short _

  loads-short : (how : LoadKind) (reg address old : ℕ) → Is32Bit old
      → IfOk (loads mode how reg address old following) IsShortEffect
  loads-short how reg address old short =
      cond_both (is_open mode (alignment_of how) address) _ _ (λ r. IfOk r IsShortEffect)
      (λ _. wishes-short (wish.Load reg address how old) short) (λ _. tt)

  stores-short : (count address value : ℕ) → value < 2 ^ (8 * count)
      → IfOk (stores mode count address value following) IsShortEffect
  stores-short count address value short =
      cond_both (is_open mode count address) _ _ (λ r. IfOk r IsShortEffect)
      (λ _. wishes-short (wish.Store address count value) short) (λ _. tt)

  part-short : (address first count value : ℕ) → value < 2 ^ (8 * count)
      → IfOk (stores_part mode address (wish.Store first count value) following) IsShortEffect
  part-short address first count value short =
      cond_both (is_open mode 1 address) _ _ (λ r. IfOk r IsShortEffect)
      (λ _. wishes-short (wish.Store first count value) short) (λ _. tt)

  stores_left-short : (address value : ℕ) → Is32Bit value
      → IfOk (stores_left mode address value following) IsShortEffect
  stores_left-short address value short =
      part-short address address (4 - address % 4) _ (left-low (address % 4) value (omega arith)
      short)

  stores_right-short : (address value : ℕ)
      → IfOk (stores_right mode address value following) IsShortEffect
  stores_right-short address value =
      part-short address (address - address % 4) (address % 4 + 1)
      _ (mod_below value (2 ^ (8 * (address % 4 + 1))) (pow_pos (8 * (address % 4 + 1))))

  at_word-short : (address : ℕ) (wished : Wish) → IsShortWish wished
      → IfOk (at_word address wished following) IsShortEffect
  at_word-short address wished short =
      cond_both (address % 4 == 0) _ _ (λ r. IfOk r IsShortEffect) (λ _. wishes-short wished short)
      (λ _. tt)

  act-short : (i : Ins) → Fits i → IfOk (act i mode s t d following) IsShortEffect
  unfolding act
  act-short (Sll rd rt sa) fits = sets-short rd _ (mod-short _)
  act-short (Srl rd rt sa) fits = sets-short rd _ (shifted-short t sa short_t)
  act-short (Sra rd rt sa) fits = sets-short rd _ (reduced-short _)
  act-short (Sllv rd rt rs) fits = sets-short rd _ (mod-short _)
  act-short (Srlv rd rt rs) fits = sets-short rd _ (shifted-short t (s % 2 ^ 5) short_t)
  act-short (Srav rd rt rs) fits = sets-short rd _ (reduced-short _)
  act-short (Jr rs) fits = jumps-short writes.Nothing s tt short_s
  act-short (Jalr rd rs) fits =
      jumps-short (write_of_register rd (next_address following)) s (set-short rd _ (mod-short _)) short_s
  act-short (Syscall code) fits = wishes-short (wish.Call code) tt
  act-short (Break code) fits = tt
  act-short (Mfhi rd) fits = sets-short rd _ short_s
  act-short (Mthi rs) fits = writes-short _ short_s
  act-short (Mflo rd) fits = sets-short rd _ short_s
  act-short (Mtlo rs) fits = writes-short _ short_s
  act-short (Mult rs rt) fits = writes-short _ (halves-short _ (reduced_64-short _))
  act-short (Multu rs rt) fits =
      writes-short _ (halves-short _ (mul-lt s t (2 ^ 32) (2 ^ 32) short_s short_t))
  act-short (Div rs rt) fits = writes-short _ (divided-short s t short_s)
  act-short (Divu rs rt) fits = writes-short _ (divided_unsigned-short s t short_s)
  act-short (Add rd rs rt) fits = in_32-short rd (signed_number s +ℤ signed_number t)
  act-short (Addu rd rs rt) fits = sets-short rd _ (mod-short _)
  act-short (Sub rd rs rt) fits = in_32-short rd (signed_number s -ℤ signed_number t)
  act-short (Subu rd rs rt) fits = sets-short rd _ (reduced-short _)
  act-short (And rd rs rt) fits = sets-short rd _ (and-short s t short_s)
  act-short (Or rd rs rt) fits = sets-short rd _ (or_of_32 s t short_s short_t)
  act-short (Xor rd rs rt) fits = sets-short rd _ (xor_of_32 s t short_s short_t)
  act-short (Nor rd rs rt) fits = sets-short rd _ (not-short _)
  act-short (Slt rd rs rt) fits = sets-short rd _ (bit_if-short _)
  act-short (Sltu rd rs rt) fits = sets-short rd _ (bit_if-short _)
  act-short (Bltz rs imm) fits = jumps-short writes.Nothing _ tt (way-short _ imm)
  act-short (Bgez rs imm) fits = jumps-short writes.Nothing _ tt (way-short _ imm)
  act-short (Bltzal rs imm) fits =
      jumps-short (write_of_register 31 (next_address following)) _ (set-short 31 _ (mod-short _)) (way-short _ imm)
  act-short (Bgezal rs imm) fits =
      jumps-short (write_of_register 31 (next_address following)) _ (set-short 31 _ (mod-short _)) (way-short _ imm)
  act-short (J index) fits =
      jumps-short writes.Nothing _ tt (jump_target-short following index short_following fits)
  act-short (Jal index) fits =
      jumps-short (write_of_register 31 (next_address following)) _ (set-short 31 _ (mod-short _))
      (jump_target-short following index short_following fits)
  act-short (Beq rs rt imm) fits = jumps-short writes.Nothing _ tt (way-short _ imm)
  act-short (Bne rs rt imm) fits = jumps-short writes.Nothing _ tt (way-short _ imm)
  act-short (Blez rs imm) fits = jumps-short writes.Nothing _ tt (way-short _ imm)
  act-short (Bgtz rs imm) fits = jumps-short writes.Nothing _ tt (way-short _ imm)
  act-short (Addi rt rs imm) fits = in_32-short rt (signed_number s +ℤ signed_number (sign_extended imm))
  act-short (Addiu rt rs imm) fits = sets-short rt _ (reduced-short _)
  act-short (Slti rt rs imm) fits = sets-short rt _ (bit_if-short _)
  act-short (Sltiu rt rs imm) fits = sets-short rt _ (bit_if-short _)
  act-short (Andi rt rs imm) fits = sets-short rt _ (and-short s imm short_s)
  act-short (Ori rt rs imm) fits = sets-short rt _ (or_of_32 s imm short_s (imm-short imm fits.2))
  act-short (Xori rt rs imm) fits = sets-short rt _ (xor_of_32 s imm short_s (imm-short imm fits.2))
  act-short (Lui rt imm) fits = sets-short rt _ (let low : imm < 2 ^ 16 = fits.1 in omega arith)
  act-short (Lb rt imm rs) fits = loads-short kind.Byte rt (plus_signed s imm) t short_t
  act-short (Lh rt imm rs) fits = loads-short kind.Half rt (plus_signed s imm) t short_t
  act-short (Lwl rt imm rs) fits = loads-short kind.Left rt (plus_signed s imm) t short_t
  act-short (Lw rt imm rs) fits = loads-short kind.Word rt (plus_signed s imm) t short_t
  act-short (Lbu rt imm rs) fits = loads-short kind.ByteU rt (plus_signed s imm) t short_t
  act-short (Lhu rt imm rs) fits = loads-short kind.HalfU rt (plus_signed s imm) t short_t
  act-short (Lwr rt imm rs) fits = loads-short kind.Right rt (plus_signed s imm) t short_t
  act-short (Sb rt imm rs) fits = stores-short 1 (plus_signed s imm) (t % 2 ^ 8) (omega arith)
  act-short (Sh rt imm rs) fits = stores-short 2 (plus_signed s imm) (t % 2 ^ 16) (omega arith)
  act-short (Swl rt imm rs) fits = stores_left-short (plus_signed s imm) t short_t
  act-short (Sw rt imm rs) fits = stores-short 4 (plus_signed s imm) t short_t
  act-short (Swr rt imm rs) fits = stores_right-short (plus_signed s imm) t
  act-short (Xlwn rt imm rs) fits =
      at_word-short (plus_signed s imm) (wish.NullLoad rt (plus_signed s imm)) (reduced-short _)
  act-short (Xswn rt imm rs) fits =
      at_word-short (plus_signed s imm) (wish.NullStore (plus_signed s imm) t)
      (reduced-short _, short_t)
  act-short (Xmvtn rs) fits = wishes-short (wish.Release rs s) short_s
  act-short (Xmvfn rd rs) fits = wishes-short (wish.Receive rd rs) tt
  act-short Xexit fits = wishes-short wish.Exit tt
  act-short (Xhand rs) fits = wishes-short (wish.Hand s) short_s
  act-short Xsigret fits = wishes-short wish.SigRet tt
  act-short (Xinstall rs rt rd) fits =
      wishes-short (wish.Do (op.Install s t d)) (short_s, short_t, short_d)
  act-short (Xenter rs) fits = wishes-short (wish.Do (op.Enter s)) short_s
  act-short (Xresume rs rt) fits = wishes-short (wish.Do (op.Resume s t)) (short_s, short_t)
  act-short (Xsave rs rt rd) fits =
      wishes-short (wish.Do (op.Save s t d)) (short_s, short_t, short_d)
  act-short (Xrestore rs rt rd) fits =
      wishes-short (wish.Do (op.Restore s t d)) (short_s, short_t, short_d)
  act-short (Xmap rs rt rd) fits = wishes-short (wish.Do (op.Map s t d)) (short_s, short_t, short_d)
  act-short (Xunmap rs rt) fits = wishes-short (wish.Do (op.Unmap s t)) (short_s, short_t)
  act-short (Xkill rs) fits = wishes-short (wish.Do (op.Kill s)) short_s
  act-short (Xout rs) fits = wishes-short (wish.Do (op.Out (s % 2 ^ 8))) (omega arith)
  act-short Xhalt fits = wishes-short (wish.Do op.Halt) tt
  act-short (Xstat rd) fits = wishes-short (wish.Ask rd asked.Status) tt
  act-short (Xcause rd) fits = wishes-short (wish.Ask rd asked.Cause) tt
  act-short (Xarg rd) fits = wishes-short (wish.Ask rd asked.Arg) tt
  act-short (Xwho rd) fits = wishes-short (wish.Ask rd asked.Who) tt

number_of-short : (v : Seen) → IsShortSeen v → Is32Bit (number_of_seen v)
number_of-short (Value v) short = short
number_of-short Foreign short = lit< tt

seen_at-short : (cell : ℕ) (v : Seen) → IsShortSeen v → IsShortSeen (seen_at cell v)
seen_at-short cell v short = cond_both (cell == 0) _ _ IsShortSeen (λ _. lit< tt) (λ _. short)

judged-short : (i : Ins) (mode : Mode) (a b c : Seen) (following : ℕ) → Fits i → IsShortSeen a
    → IsShortSeen b → IsShortSeen c
    → Is32Bit following → IfOk (effect_or_fault i mode a b c following) IsShortEffect
judged-short i mode a b c following fits short_a short_b short_c short =
    cond_both (is_reserved mode i) (Err fault.Reserved) _ (λ r. IfOk r IsShortEffect) (λ _. tt)
    (λ _. cond_both (is_barred mode i a b c) (Err fault.Foreign) _ (λ r. IfOk r IsShortEffect)
    (λ _. tt)
    (λ _. act-short mode (number_of_seen a) (number_of_seen b) (number_of_seen c) following
    (number_of-short a short_a) (number_of-short b short_b) (number_of-short c short_c) short i
    fits))

-- an effect is short where what it sees is
effect_of-short : (i : Ins) (mode : Mode) (a b c : Seen) (pc npc : ℕ) → Fits i → IsShortSeen a
    → IsShortSeen b → IsShortSeen c
    → Is32Bit npc → IfOk (effect_of i mode a b c pc npc) IsShortEffect
unfolding effect_of
effect_of-short i mode a b c pc npc fits short_a short_b short_c short =
    judged-short i mode (seen_at (sources_of i).0 a) (seen_at (sources_of i).1 b)
    (seen_at (sources_of i).2 c) npc fits (seen_at-short _ a short_a) (seen_at-short _ b short_b)
    (seen_at-short _ c short_c) short

-- the same of an effect that is told
pub effect_of-IsShortEffect : (i : Ins) (mode : Mode) (a b c : Seen) (pc npc : ℕ) (e : Effect)
    → Fits i
    → IsShortSeen a → IsShortSeen b → IsShortSeen c → Is32Bit npc
    → effect_of i mode a b c pc npc ≡ Ok e
    → IsShortEffect e
effect_of-IsShortEffect i mode a b c pc npc e fits short_a short_b short_c short is =
    let all = effect_of-short i mode a b c pc npc fits short_a short_b short_c short in rw is at all
