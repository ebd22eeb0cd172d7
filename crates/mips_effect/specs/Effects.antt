-- What an instruction does, as an equation for each form.
-- Source: Kane and Heinrich, MIPS RISC Architecture, appendix A (MIPS I); ownership, the forms of
-- COP2, and what the manual calls undefined are this project's own.
use Rattle.std.specs.Prelude.{◌≡◌, ℕ, ◌+◌, ◌-◌, ◌*◌, ◌/◌, ◌%◌, ◌^◌, ◌<◌, ◌≤◌, ◌==◌, nat_lt, ◌&&◌, ◌||◌, not, Bool, true, false, bit_and, bit_or, bit_xor, Option, Some, None, Result, Ok, Err, if◌then◌else◌}
use Rattle.std.specs.Int.{w32, bit_not}
use Rattle.mips_instruction.specs.declared.instruction.Ins.{Ins}
use Rattle.mips_instruction.specs.declared.instruction.Ins.TheVariants.{Sll, Srl, Sra, Sllv, Srlv, Srav, Jr, Jalr, Syscall, Break, Mfhi, Mthi, Mflo, Mtlo, Mult, Multu, Div, Divu, Add, Addu, Sub, Subu, And, Or, Xor, Nor, Slt, Sltu, Bltz, Bgez, Bltzal, Bgezal, J, Jal, Beq, Bne, Blez, Bgtz, Addi, Addiu, Slti, Sltiu, Andi, Ori, Xori, Lui, Lb, Lh, Lwl, Lw, Lbu, Lhu, Lwr, Sb, Sh, Swl, Sw, Swr, Xlwn, Xswn, Xmvtn, Xmvfn, Xexit, Xhand, Xsigret, Xinstall, Xenter, Xresume, Xsave, Xrestore, Xmap, Xunmap, Xkill, Xout, Xhalt, Xstat, Xcause, Xarg, Xwho}
use Rattle.mips_instruction.specs.Words.{IsMoved}
use Rattle.xom_base.specs.declared.event.Op.TheVariants as op
use Rattle.xom_base.specs.declared.event.OwnFault.{OwnFault}
use Rattle.xom_base.specs.declared.event.OwnFault.TheVariants as fault
use Rattle.xom_base.specs.declared.step.Writes.{Writes}
use Rattle.xom_base.specs.declared.step.Writes.TheVariants as writes
use Rattle.xom_base.specs.Sizes.{register_places, window_size}
use Rattle.mips_effect.specs.declared.effects.Effect.{Effect}
use Rattle.mips_effect.specs.declared.seen.Mode.{Mode}
use Rattle.mips_effect.specs.declared.seen.Mode.TheVariants.{Guest, Null}
use Rattle.mips_effect.specs.declared.seen.Seen.{Seen}
use Rattle.mips_effect.specs.declared.seen.Seen.TheVariants.{Value, Foreign}
use Rattle.mips_effect.specs.declared.wish.Asked.TheVariants as asked
use Rattle.mips_effect.specs.declared.wish.LoadKind.{LoadKind}
use Rattle.mips_effect.specs.declared.wish.LoadKind.TheVariants as kind
use Rattle.mips_effect.specs.declared.wish.Wish.{Wish}
use Rattle.mips_effect.specs.declared.wish.Wish.TheVariants as wish
use Rattle.mips_instruction.specs.Numbers.{jump_target, next_address, number_modulo_word, plus_signed, sign_extended, signed_8, target}
use Rattle.mips_effect.specs.Arithmetic.{bit_if, byte_in_word, difference, divided_unsigned, half_of, is_less, left_merged, minus, pair_of_halves, product, quotient_and_remainder, right_merged, shifted_signed, sum}

-- the bytes of private memory
abbrev pub private_bytes : ℕ
private_bytes = window_size

-- ---- Cells

-- the cells that are read: rs, rt and rd in their places, and 0 in a place that isn't read. HI is
-- cell 32 and LO is cell 33
unfoldable pub sources_of : Ins → ℕ × ℕ × ℕ
sources_of (Sll rd rt sa) = (0, rt, 0)
sources_of (Srl rd rt sa) = (0, rt, 0)
sources_of (Sra rd rt sa) = (0, rt, 0)
sources_of (Sllv rd rt rs) = (rs, rt, 0)
sources_of (Srlv rd rt rs) = (rs, rt, 0)
sources_of (Srav rd rt rs) = (rs, rt, 0)
sources_of (Jr rs) = (rs, 0, 0)
sources_of (Jalr rd rs) = (rs, 0, 0)
sources_of (Syscall code) = (0, 0, 0)
sources_of (Break code) = (0, 0, 0)
sources_of (Mfhi rd) = (32, 0, 0)
sources_of (Mthi rs) = (rs, 0, 0)
sources_of (Mflo rd) = (33, 0, 0)
sources_of (Mtlo rs) = (rs, 0, 0)
sources_of (Mult rs rt) = (rs, rt, 0)
sources_of (Multu rs rt) = (rs, rt, 0)
sources_of (Div rs rt) = (rs, rt, 0)
sources_of (Divu rs rt) = (rs, rt, 0)
sources_of (Add rd rs rt) = (rs, rt, 0)
sources_of (Addu rd rs rt) = (rs, rt, 0)
sources_of (Sub rd rs rt) = (rs, rt, 0)
sources_of (Subu rd rs rt) = (rs, rt, 0)
sources_of (And rd rs rt) = (rs, rt, 0)
sources_of (Or rd rs rt) = (rs, rt, 0)
sources_of (Xor rd rs rt) = (rs, rt, 0)
sources_of (Nor rd rs rt) = (rs, rt, 0)
sources_of (Slt rd rs rt) = (rs, rt, 0)
sources_of (Sltu rd rs rt) = (rs, rt, 0)
sources_of (Bltz rs imm) = (rs, 0, 0)
sources_of (Bgez rs imm) = (rs, 0, 0)
sources_of (Bltzal rs imm) = (rs, 0, 0)
sources_of (Bgezal rs imm) = (rs, 0, 0)
sources_of (J index) = (0, 0, 0)
sources_of (Jal index) = (0, 0, 0)
sources_of (Beq rs rt imm) = (rs, rt, 0)
sources_of (Bne rs rt imm) = (rs, rt, 0)
sources_of (Blez rs imm) = (rs, 0, 0)
sources_of (Bgtz rs imm) = (rs, 0, 0)
sources_of (Addi rt rs imm) = (rs, 0, 0)
sources_of (Addiu rt rs imm) = (rs, 0, 0)
sources_of (Slti rt rs imm) = (rs, 0, 0)
sources_of (Sltiu rt rs imm) = (rs, 0, 0)
sources_of (Andi rt rs imm) = (rs, 0, 0)
sources_of (Ori rt rs imm) = (rs, 0, 0)
sources_of (Xori rt rs imm) = (rs, 0, 0)
sources_of (Lui rt imm) = (0, 0, 0)
sources_of (Lb rt imm rs) = (rs, 0, 0)
sources_of (Lh rt imm rs) = (rs, 0, 0)
sources_of (Lwl rt imm rs) = (rs, rt, 0)
sources_of (Lw rt imm rs) = (rs, 0, 0)
sources_of (Lbu rt imm rs) = (rs, 0, 0)
sources_of (Lhu rt imm rs) = (rs, 0, 0)
sources_of (Lwr rt imm rs) = (rs, rt, 0)
sources_of (Sb rt imm rs) = (rs, rt, 0)
sources_of (Sh rt imm rs) = (rs, rt, 0)
sources_of (Swl rt imm rs) = (rs, rt, 0)
sources_of (Sw rt imm rs) = (rs, rt, 0)
sources_of (Swr rt imm rs) = (rs, rt, 0)
sources_of (Xlwn rt imm rs) = (rs, 0, 0)
sources_of (Xswn rt imm rs) = (rs, rt, 0)
sources_of (Xmvtn rs) = (rs, 0, 0)
sources_of (Xmvfn rd rs) = (rs, 0, 0)
sources_of Xexit = (0, 0, 0)
sources_of (Xhand rs) = (rs, 0, 0)
sources_of Xsigret = (0, 0, 0)
sources_of (Xinstall rs rt rd) = (rs, rt, rd)
sources_of (Xenter rs) = (rs, 0, 0)
sources_of (Xresume rs rt) = (rs, rt, 0)
sources_of (Xsave rs rt rd) = (rs, rt, rd)
sources_of (Xrestore rs rt rd) = (rs, rt, rd)
sources_of (Xmap rs rt rd) = (rs, rt, rd)
sources_of (Xunmap rs rt) = (rs, rt, 0)
sources_of (Xkill rs) = (rs, 0, 0)
sources_of (Xout rs) = (rs, 0, 0)
sources_of Xhalt = (0, 0, 0)
sources_of (Xstat rd) = (0, 0, 0)
sources_of (Xcause rd) = (0, 0, 0)
sources_of (Xarg rd) = (0, 0, 0)
sources_of (Xwho rd) = (0, 0, 0)

-- cell 0 is seen as zero, whatever is told of it
abbrev pub seen_at : ℕ → Seen → Seen
seen_at cell seen = if cell == 0 then Value 0 else seen

-- the number that is computed with; a foreign cell of null code counts as 0
abbrev pub number_of_seen : Seen → ℕ
number_of_seen (Value v) = v
number_of_seen Foreign = 0

-- the cell isn't owned by who sees it
abbrev pub is_foreign : Seen → Bool
is_foreign (Value v) = false
is_foreign Foreign = true

-- ---- What comes before an instruction's own rules

-- the forms of a guest, which null code doesn't have
abbrev pub is_guest_form : Ins → Bool
is_guest_form (Xlwn rt imm rs) = true
is_guest_form (Xswn rt imm rs) = true
is_guest_form (Xmvtn rs) = true
is_guest_form (Xmvfn rd rs) = true
is_guest_form Xexit = true
is_guest_form (Xhand rs) = true
is_guest_form Xsigret = true
is_guest_form i = false

-- the forms of null code, which a guest doesn't have
abbrev pub is_kernel_form : Ins → Bool
is_kernel_form (Xinstall rs rt rd) = true
is_kernel_form (Xenter rs) = true
is_kernel_form (Xresume rs rt) = true
is_kernel_form (Xsave rs rt rd) = true
is_kernel_form (Xrestore rs rt rd) = true
is_kernel_form (Xmap rs rt rd) = true
is_kernel_form (Xunmap rs rt) = true
is_kernel_form (Xkill rs) = true
is_kernel_form (Xout rs) = true
is_kernel_form Xhalt = true
is_kernel_form (Xstat rd) = true
is_kernel_form (Xcause rd) = true
is_kernel_form (Xarg rd) = true
is_kernel_form (Xwho rd) = true
is_kernel_form i = false

-- the compartment doesn't have the instruction
abbrev pub is_reserved : Mode → Ins → Bool
is_reserved Guest i = is_kernel_form i
is_reserved Null i = is_guest_form i

-- Ownership: a guest reads no cell that it doesn't own, and xmvfn takes from none that it owns.
-- Null code reads any.
abbrev pub is_barred : Mode → Ins → Seen → Seen → Seen → Bool
is_barred Null i first second third = false
is_barred Guest (Xmvfn rd rs) first second third = not (is_foreign first)
is_barred Guest i first second third = is_foreign first || (is_foreign second || is_foreign third)

-- ---- Kinds of effect

-- register reg gets the value; a write to $0 is dropped
abbrev pub write_of_register : ℕ → ℕ → Writes
write_of_register reg value = if reg == 0 then writes.Nothing else writes.One reg value

-- the cells are written and the wish is made, and the pair goes on
abbrev pub effect_going_on : Writes → Wish → ℕ → Result Effect OwnFault
effect_going_on written wished following =
    Ok (record { writes = written; wish = wished; pc = following; npc = next_address following })

-- only cells are written
abbrev pub writes_only : Writes → ℕ → Result Effect OwnFault
writes_only written following = effect_going_on written wish.Nothing following

-- only a register is set
abbrev pub sets : ℕ → ℕ → ℕ → Result Effect OwnFault
sets reg value following = effect_going_on (write_of_register reg value) wish.Nothing following

-- a register is set to what 32 signed bits hold, or it overflows
abbrev pub sets_or_overflows : ℕ → Option ℕ → ℕ → Result Effect OwnFault
sets_or_overflows reg None following = Err fault.Overflow
sets_or_overflows reg (Some value) following = sets reg value following

-- only a wish is made
abbrev pub wishes : Wish → ℕ → Result Effect OwnFault
wishes wished following = effect_going_on writes.Nothing wished following

-- the cells are written, and behind the instruction that follows comes this address
abbrev pub jumps : Writes → ℕ → ℕ → Result Effect OwnFault
jumps written to following =
    Ok (record { writes = written; wish = wish.Nothing; pc = following; npc = to })

-- where a branch goes behind the instruction that follows: to the target where it is taken
abbrev pub way : Bool → ℕ → ℕ → ℕ
way taken imm following = if taken then target following imm else next_address following

-- a branch writes no register; it goes to the target where it is taken
abbrev pub branches : Bool → ℕ → ℕ → Result Effect OwnFault
branches taken imm following = jumps writes.Nothing (way taken imm following) following

-- a branch with its link in $31, taken or not
abbrev pub branches_linked : Bool → ℕ → ℕ → Result Effect OwnFault
branches_linked taken imm following =
    jumps (write_of_register 31 (next_address following)) (way taken imm following) following

-- an access at this address is aligned to so many bytes and, of a guest, private
abbrev pub is_open : Mode → ℕ → ℕ → Bool
is_open Guest size address = (address % size == 0) && nat_lt address private_bytes
is_open Null size address = address % size == 0

-- the bytes that an address of this kind is a multiple of
abbrev pub alignment_of : LoadKind → ℕ
alignment_of kind.Byte = 1
alignment_of kind.ByteU = 1
alignment_of kind.Half = 2
alignment_of kind.HalfU = 2
alignment_of kind.Word = 4
alignment_of kind.Left = 1
alignment_of kind.Right = 1

-- a load into register reg, which had an old value
abbrev pub loads : Mode → LoadKind → ℕ → ℕ → ℕ → ℕ → Result Effect OwnFault
loads mode how reg address old following =
    if is_open mode (alignment_of how) address then wishes (wish.Load reg address how old) following
    else Err fault.Address

-- a store of so many bytes, aligned to their count
abbrev pub stores : Mode → ℕ → ℕ → ℕ → ℕ → Result Effect OwnFault
stores mode count address value following =
    if is_open mode count address then wishes (wish.Store address count value) following
    else Err fault.Address

-- a store within the word of this address, aligned or not
abbrev pub stores_part : Mode → ℕ → Wish → ℕ → Result Effect OwnFault
stores_part mode address store following =
    if is_open mode 1 address then wishes store following else Err fault.Address

-- swl: a register's high bytes, from the address to the word's end
abbrev pub stores_left : Mode → ℕ → ℕ → ℕ → Result Effect OwnFault
stores_left mode address value following =
    stores_part mode address (wish.Store address (4 - address % 4)
    (value / 2 ^ (8 * (address % 4)))) following

-- swr: a register's low bytes, from the word's start through the address
abbrev pub stores_right : Mode → ℕ → ℕ → ℕ → Result Effect OwnFault
stores_right mode address value following =
    stores_part mode address (wish.Store (address - address % 4) (address % 4 + 1)
    (value % 2 ^ (8 * (address % 4 + 1)))) following

-- an access to a word of RAM, at a multiple of 4
abbrev pub at_word : ℕ → Wish → ℕ → Result Effect OwnFault
at_word address wished following =
    if address % 4 == 0 then wishes wished following else Err fault.Address

-- ---- The instructions, of the values of rs, rt and rd and the address of the following
-- instruction

-- what each instruction does: in this mode, with these numbers in the cells that it reads, and with
-- this address of the instruction behind it
unfoldable pub act : Ins → Mode → ℕ → ℕ → ℕ → ℕ → Result Effect OwnFault
act (Sll rd rt sa) mode s t d following = sets rd (t * 2 ^ sa % 2 ^ 32) following
act (Srl rd rt sa) mode s t d following = sets rd (t / 2 ^ sa) following
act (Sra rd rt sa) mode s t d following = sets rd (shifted_signed t sa) following
act (Sllv rd rt rs) mode s t d following = sets rd (t * 2 ^ (s % 2 ^ 5) % 2 ^ 32) following
act (Srlv rd rt rs) mode s t d following = sets rd (t / 2 ^ (s % 2 ^ 5)) following
act (Srav rd rt rs) mode s t d following = sets rd (shifted_signed t (s % 2 ^ 5)) following
act (Jr rs) mode s t d following = jumps writes.Nothing s following
act (Jalr rd rs) mode s t d following = jumps (write_of_register rd (next_address following)) s following
act (Syscall code) mode s t d following = wishes (wish.Call code) following
act (Break code) mode s t d following = Err fault.Break
act (Mfhi rd) mode s t d following = sets rd s following
act (Mthi rs) mode s t d following = writes_only (writes.One 32 s) following
act (Mflo rd) mode s t d following = sets rd s following
act (Mtlo rs) mode s t d following = writes_only (writes.One 33 s) following
act (Mult rs rt) mode s t d following = writes_only (pair_of_halves (product s t)) following
act (Multu rs rt) mode s t d following = writes_only (pair_of_halves (s * t)) following
act (Div rs rt) mode s t d following = writes_only (quotient_and_remainder s t) following
act (Divu rs rt) mode s t d following = writes_only (divided_unsigned s t) following
act (Add rd rs rt) mode s t d following = sets_or_overflows rd (sum s t) following
act (Addu rd rs rt) mode s t d following = sets rd ((s + t) % 2 ^ 32) following
act (Sub rd rs rt) mode s t d following = sets_or_overflows rd (difference s t) following
act (Subu rd rs rt) mode s t d following = sets rd (minus s t) following
act (And rd rs rt) mode s t d following = sets rd (bit_and s t) following
act (Or rd rs rt) mode s t d following = sets rd (bit_or s t) following
act (Xor rd rs rt) mode s t d following = sets rd (bit_xor s t) following
act (Nor rd rs rt) mode s t d following = sets rd (bit_not w32 (bit_or s t)) following
act (Slt rd rs rt) mode s t d following = sets rd (bit_if (is_less s t)) following
act (Sltu rd rs rt) mode s t d following = sets rd (bit_if (nat_lt s t)) following
act (Bltz rs imm) mode s t d following = branches (is_less s 0) imm following
act (Bgez rs imm) mode s t d following = branches (not (is_less s 0)) imm following
act (Bltzal rs imm) mode s t d following = branches_linked (is_less s 0) imm following
act (Bgezal rs imm) mode s t d following = branches_linked (not (is_less s 0)) imm following
act (J index) mode s t d following = jumps writes.Nothing (jump_target following index) following
act (Jal index) mode s t d following =
    jumps (write_of_register 31 (next_address following)) (jump_target following index) following
act (Beq rs rt imm) mode s t d following = branches (s == t) imm following
act (Bne rs rt imm) mode s t d following = branches (not (s == t)) imm following
act (Blez rs imm) mode s t d following = branches (not (is_less 0 s)) imm following
act (Bgtz rs imm) mode s t d following = branches (is_less 0 s) imm following
act (Addi rt rs imm) mode s t d following = sets_or_overflows rt (sum s (sign_extended imm)) following
act (Addiu rt rs imm) mode s t d following = sets rt (plus_signed s imm) following
act (Slti rt rs imm) mode s t d following = sets rt (bit_if (is_less s (sign_extended imm))) following
act (Sltiu rt rs imm) mode s t d following = sets rt (bit_if (nat_lt s (sign_extended imm))) following
act (Andi rt rs imm) mode s t d following = sets rt (bit_and s imm) following
act (Ori rt rs imm) mode s t d following = sets rt (bit_or s imm) following
act (Xori rt rs imm) mode s t d following = sets rt (bit_xor s imm) following
act (Lui rt imm) mode s t d following = sets rt (imm * 2 ^ 16) following
act (Lb rt imm rs) mode s t d following = loads mode kind.Byte rt (plus_signed s imm) t following
act (Lh rt imm rs) mode s t d following = loads mode kind.Half rt (plus_signed s imm) t following
act (Lwl rt imm rs) mode s t d following = loads mode kind.Left rt (plus_signed s imm) t following
act (Lw rt imm rs) mode s t d following = loads mode kind.Word rt (plus_signed s imm) t following
act (Lbu rt imm rs) mode s t d following = loads mode kind.ByteU rt (plus_signed s imm) t following
act (Lhu rt imm rs) mode s t d following = loads mode kind.HalfU rt (plus_signed s imm) t following
act (Lwr rt imm rs) mode s t d following = loads mode kind.Right rt (plus_signed s imm) t following
act (Sb rt imm rs) mode s t d following = stores mode 1 (plus_signed s imm) (t % 2 ^ 8) following
act (Sh rt imm rs) mode s t d following = stores mode 2 (plus_signed s imm) (t % 2 ^ 16) following
act (Swl rt imm rs) mode s t d following = stores_left mode (plus_signed s imm) t following
act (Sw rt imm rs) mode s t d following = stores mode 4 (plus_signed s imm) t following
act (Swr rt imm rs) mode s t d following = stores_right mode (plus_signed s imm) t following
act (Xlwn rt imm rs) mode s t d following =
    at_word (plus_signed s imm) (wish.NullLoad rt (plus_signed s imm)) following
act (Xswn rt imm rs) mode s t d following =
    at_word (plus_signed s imm) (wish.NullStore (plus_signed s imm) t) following
act (Xmvtn rs) mode s t d following = wishes (wish.Release rs s) following
act (Xmvfn rd rs) mode s t d following = wishes (wish.Receive rd rs) following
act Xexit mode s t d following = wishes wish.Exit following
act (Xhand rs) mode s t d following = wishes (wish.Hand s) following
act Xsigret mode s t d following = wishes wish.SigRet following
act (Xinstall rs rt rd) mode s t d following = wishes (wish.Do (op.Install s t d)) following
act (Xenter rs) mode s t d following = wishes (wish.Do (op.Enter s)) following
act (Xresume rs rt) mode s t d following = wishes (wish.Do (op.Resume s t)) following
act (Xsave rs rt rd) mode s t d following = wishes (wish.Do (op.Save s t d)) following
act (Xrestore rs rt rd) mode s t d following = wishes (wish.Do (op.Restore s t d)) following
act (Xmap rs rt rd) mode s t d following = wishes (wish.Do (op.Map s t d)) following
act (Xunmap rs rt) mode s t d following = wishes (wish.Do (op.Unmap s t)) following
act (Xkill rs) mode s t d following = wishes (wish.Do (op.Kill s)) following
act (Xout rs) mode s t d following = wishes (wish.Do (op.Out (s % 2 ^ 8))) following
act Xhalt mode s t d following = wishes (wish.Do op.Halt) following
act (Xstat rd) mode s t d following = wishes (wish.Ask rd asked.Status) following
act (Xcause rd) mode s t d following = wishes (wish.Ask rd asked.Cause) following
act (Xarg rd) mode s t d following = wishes (wish.Ask rd asked.Arg) following
act (Xwho rd) mode s t d following = wishes (wish.Ask rd asked.Who) following

-- Reserved comes before Foreign, and Foreign before the instruction's own faults
abbrev pub effect_or_fault : Ins → Mode → Seen → Seen → Seen → ℕ → Result Effect OwnFault
effect_or_fault i mode first second third following =
    if is_reserved mode i then Err fault.Reserved
    else (if is_barred mode i first second third then Err fault.Foreign
    else act i mode (number_of_seen first) (number_of_seen second) (number_of_seen third) following)

-- the effect of an instruction on what is seen of its cells and on the pair
unfoldable pub effect_of : Ins → Mode → Seen → Seen → Seen → ℕ → ℕ → Result Effect OwnFault
effect_of i mode first second third pc npc =
    effect_or_fault i mode (seen_at (sources_of i).0 first) (seen_at (sources_of i).1 second)
    (seen_at (sources_of i).2 third) npc

-- ---- Loads

-- the address is a multiple of what the kind wants
abbrev pub IsAligned : LoadKind → ℕ → Type 0
IsAligned how address = address % alignment_of how ≡ 0

-- what a load writes, from the aligned word around its address and from what the register had
unfoldable pub merge_of : LoadKind → ℕ → ℕ → ℕ → ℕ
merge_of kind.Byte old address word = number_modulo_word (signed_8 (byte_in_word word (address % 4)))
merge_of kind.ByteU old address word = byte_in_word word (address % 4)
merge_of kind.Half old address word = sign_extended (half_of word (address % 4))
merge_of kind.HalfU old address word = half_of word (address % 4)
merge_of kind.Word old address word = word
merge_of kind.Left old address word = left_merged old (address % 4) word
merge_of kind.Right old address word = right_merged old (address % 4) word

-- ---- Where an access lies, in both modes

-- a store is of 1 to 4 bytes within one aligned word, and its value has no more bits than they
pub record IsStore (address count value : ℕ) : Type 0 where
  pub some : 1 ≤ count
  pub few : count ≤ 4
  pub one_word : address % 4 + count ≤ 4
  pub small : value < 2 ^ (8 * count)

-- what is stored lies in one word, and a word of RAM is at a multiple of 4
abbrev pub IsInOneWord : Wish → Type 0
IsInOneWord (wish.Store address count value) = IsStore address count value
IsInOneWord (wish.NullLoad reg address) = address % 4 ≡ 0
IsInOneWord (wish.NullStore address value) = address % 4 ≡ 0
IsInOneWord other = Unit {0}

-- ---- Ranges of a guest's effect

-- a load is aligned and private, and so is the whole word around its address
pub record IsPrivateLoad (reg address : ℕ) (how : LoadKind) : Type 0 where
  pub register : reg < 32
  pub aligned : address % alignment_of how ≡ 0
  pub private : address + alignment_of how ≤ private_bytes
  pub word : address - address % 4 + 4 ≤ private_bytes

-- a store is private, of 1 to 4 bytes, and lies within one word
pub record IsPrivateStore (address count : ℕ) : Type 0 where
  pub some : 1 ≤ count
  pub few : count ≤ 4
  pub one_word : address % 4 + count ≤ 4
  pub private : address + count ≤ private_bytes

-- the cells written are 1 to 33, $0 never
abbrev pub AreCells : Writes → Type 0
AreCells writes.Nothing = Unit {0}
AreCells (writes.One reg value) = (1 ≤ reg) × (reg < register_places)
AreCells (writes.Pair hi lo) = Unit {0}

-- what a guest wishes; it never asks for an operation, nor for what null code is told
abbrev pub IsInRange : Wish → Type 0
IsInRange wish.Nothing = Unit {0}
IsInRange (wish.Load reg address how old) = IsPrivateLoad reg address how
IsInRange (wish.Store address count value) = IsPrivateStore address count
IsInRange (wish.NullLoad reg address) = reg < 32
IsInRange (wish.NullStore address value) = Unit {0}
IsInRange (wish.Hand address) = Unit {0}
IsInRange wish.SigRet = Unit {0}
IsInRange (wish.Release reg value) = IsMoved reg
IsInRange (wish.Receive reg from) = IsMoved reg × IsMoved from
IsInRange wish.Exit = Unit {0}
IsInRange (wish.Call code) = code < 2 ^ 20
IsInRange (wish.Do operation) = ⊥
IsInRange (wish.Ask reg what) = ⊥

-- each number of the effect is in its range
pub record Ranged (e : Effect) : Type 0 where
  pub writes : AreCells e.writes
  pub wish : IsInRange e.wish

-- ---- Ranges of an effect of null code

-- what null code wishes: its loads are aligned, its stores have 1 to 4 bytes, and it never wishes
-- what a guest alone can
abbrev pub IsOpenWish : Wish → Type 0
IsOpenWish wish.Nothing = Unit {0}
IsOpenWish (wish.Load reg address how old) = (reg < 32) × (address % alignment_of how ≡ 0)
IsOpenWish (wish.Store address count value) = (1 ≤ count) × (count ≤ 4)
IsOpenWish (wish.NullLoad reg address) = ⊥
IsOpenWish (wish.NullStore address value) = ⊥
IsOpenWish (wish.Hand address) = ⊥
IsOpenWish wish.SigRet = ⊥
IsOpenWish (wish.Release reg value) = ⊥
IsOpenWish (wish.Receive reg from) = ⊥
IsOpenWish wish.Exit = ⊥
IsOpenWish (wish.Call code) = Unit {0}
IsOpenWish (wish.Do operation) = Unit {0}
IsOpenWish (wish.Ask reg what) = reg < 32

-- each number of the effect is in its range
pub record Opened (e : Effect) : Type 0 where
  pub writes : AreCells e.writes
  pub wish : IsOpenWish e.wish
