-- The numbers of an effect are in their ranges, in both modes.
use Rattle.std.proofs.Common.{◌≡◌, ◌≢◌, refl, sym, subst, ℕ, ◌+◌, ◌-◌, ◌*◌, ◌/◌, ◌%◌, ◌^◌, ◌<◌, ◌≤◌, ◌==◌, nat_lt, true, false, Option, Some, None, Result, Ok, Err, IfOk, if◌then◌else◌, lit<, lit≤, arith}
use Rattle.std.proofs.lemmas.Bool.{cond_both, eqb-true, eqb-false, ltb-true, and_parts}
use Rattle.std.proofs.lemmas.Nat.{shr_below, mod_below, pow_pos}
use Rattle.mips_instruction.specs.declared.instruction.Ins.{Ins}
use Rattle.mips_instruction.specs.declared.instruction.Ins.TheVariants.{Sll, Srl, Sra, Sllv, Srlv, Srav, Jr, Jalr, Syscall, Break, Mfhi, Mthi, Mflo, Mtlo, Mult, Multu, Div, Divu, Add, Addu, Sub, Subu, And, Or, Xor, Nor, Slt, Sltu, Bltz, Bgez, Bltzal, Bgezal, J, Jal, Beq, Bne, Blez, Bgtz, Addi, Addiu, Slti, Sltiu, Andi, Ori, Xori, Lui, Lb, Lh, Lwl, Lw, Lbu, Lhu, Lwr, Sb, Sh, Swl, Sw, Swr, Xlwn, Xswn, Xmvtn, Xmvfn, Xexit, Xhand, Xsigret, Xinstall, Xenter, Xresume, Xsave, Xrestore, Xmap, Xunmap, Xkill, Xout, Xhalt, Xstat, Xcause, Xarg, Xwho}
use Rattle.mips_instruction.specs.Words.{Fits}
use Rattle.xom_base.specs.declared.event.OwnFault.{OwnFault}
use Rattle.xom_base.specs.declared.event.OwnFault.TheVariants as fault
use Rattle.xom_base.specs.declared.step.Writes.{Writes}
use Rattle.mips_effect.specs.declared.effects.Effect.{Effect}
use Rattle.mips_effect.specs.declared.seen.Mode.{Mode}
use Rattle.mips_effect.specs.declared.seen.Mode.TheVariants.{Guest, Null}
use Rattle.mips_effect.specs.declared.seen.Seen.{Seen}
use Rattle.mips_effect.specs.declared.wish.LoadKind.{LoadKind}
use Rattle.mips_effect.specs.declared.wish.LoadKind.TheVariants as kind
use Rattle.mips_effect.specs.declared.wish.Wish.{Wish}
use Rattle.mips_effect.specs.declared.wish.Wish.TheVariants as wish
use Rattle.mips_instruction.specs.Numbers.{next_address, plus_signed, sign_extended}
use Rattle.mips_effect.specs.Arithmetic.{difference, divided_unsigned, quotient_and_remainder, sum}
use Rattle.mips_effect.specs.Effects.{AreCells, IsInOneWord, IsInRange, IsOpenWish, Opened, Ranged, act, alignment_of, at_word, effect_of, effect_or_fault, is_barred, is_open, is_reserved, loads, number_of_seen, private_bytes, seen_at, sets, sets_or_overflows, sources_of, stores, stores_left, stores_right, wishes, write_of_register, writes_only}

-- a register is a cell
cell : (reg : ℕ) → reg < 32 → reg < 34
cell reg below = omega arith

-- an instruction reads cells alone
pub sources_of-below : (i : Ins) → Fits i
    → ((sources_of i).0 < 34) × ((sources_of i).1 < 34) × ((sources_of i).2 < 34)
unfolding sources_of
sources_of-below (Sll rd rt sa) fits = (lit< tt, cell _ fits.1, lit< tt)
sources_of-below (Srl rd rt sa) fits = (lit< tt, cell _ fits.1, lit< tt)
sources_of-below (Sra rd rt sa) fits = (lit< tt, cell _ fits.1, lit< tt)
sources_of-below (Sllv rd rt rs) fits = (cell _ fits.2, cell _ fits.1, lit< tt)
sources_of-below (Srlv rd rt rs) fits = (cell _ fits.2, cell _ fits.1, lit< tt)
sources_of-below (Srav rd rt rs) fits = (cell _ fits.2, cell _ fits.1, lit< tt)
sources_of-below (Jr rs) fits = (cell _ fits, lit< tt, lit< tt)
sources_of-below (Jalr rd rs) fits = (cell _ fits.1, lit< tt, lit< tt)
sources_of-below (Syscall code) fits = (lit< tt, lit< tt, lit< tt)
sources_of-below (Break code) fits = (lit< tt, lit< tt, lit< tt)
sources_of-below (Mfhi rd) fits = (lit< tt, lit< tt, lit< tt)
sources_of-below (Mthi rs) fits = (cell _ fits, lit< tt, lit< tt)
sources_of-below (Mflo rd) fits = (lit< tt, lit< tt, lit< tt)
sources_of-below (Mtlo rs) fits = (cell _ fits, lit< tt, lit< tt)
sources_of-below (Mult rs rt) fits = (cell _ fits.0, cell _ fits.1, lit< tt)
sources_of-below (Multu rs rt) fits = (cell _ fits.0, cell _ fits.1, lit< tt)
sources_of-below (Div rs rt) fits = (cell _ fits.0, cell _ fits.1, lit< tt)
sources_of-below (Divu rs rt) fits = (cell _ fits.0, cell _ fits.1, lit< tt)
sources_of-below (Add rd rs rt) fits = (cell _ fits.1, cell _ fits.2, lit< tt)
sources_of-below (Addu rd rs rt) fits = (cell _ fits.1, cell _ fits.2, lit< tt)
sources_of-below (Sub rd rs rt) fits = (cell _ fits.1, cell _ fits.2, lit< tt)
sources_of-below (Subu rd rs rt) fits = (cell _ fits.1, cell _ fits.2, lit< tt)
sources_of-below (And rd rs rt) fits = (cell _ fits.1, cell _ fits.2, lit< tt)
sources_of-below (Or rd rs rt) fits = (cell _ fits.1, cell _ fits.2, lit< tt)
sources_of-below (Xor rd rs rt) fits = (cell _ fits.1, cell _ fits.2, lit< tt)
sources_of-below (Nor rd rs rt) fits = (cell _ fits.1, cell _ fits.2, lit< tt)
sources_of-below (Slt rd rs rt) fits = (cell _ fits.1, cell _ fits.2, lit< tt)
sources_of-below (Sltu rd rs rt) fits = (cell _ fits.1, cell _ fits.2, lit< tt)
sources_of-below (Bltz rs imm) fits = (cell _ fits.0, lit< tt, lit< tt)
sources_of-below (Bgez rs imm) fits = (cell _ fits.0, lit< tt, lit< tt)
sources_of-below (Bltzal rs imm) fits = (cell _ fits.0, lit< tt, lit< tt)
sources_of-below (Bgezal rs imm) fits = (cell _ fits.0, lit< tt, lit< tt)
sources_of-below (J index) fits = (lit< tt, lit< tt, lit< tt)
sources_of-below (Jal index) fits = (lit< tt, lit< tt, lit< tt)
sources_of-below (Beq rs rt imm) fits = (cell _ fits.0, cell _ fits.1, lit< tt)
sources_of-below (Bne rs rt imm) fits = (cell _ fits.0, cell _ fits.1, lit< tt)
sources_of-below (Blez rs imm) fits = (cell _ fits.0, lit< tt, lit< tt)
sources_of-below (Bgtz rs imm) fits = (cell _ fits.0, lit< tt, lit< tt)
sources_of-below (Addi rt rs imm) fits = (cell _ fits.1, lit< tt, lit< tt)
sources_of-below (Addiu rt rs imm) fits = (cell _ fits.1, lit< tt, lit< tt)
sources_of-below (Slti rt rs imm) fits = (cell _ fits.1, lit< tt, lit< tt)
sources_of-below (Sltiu rt rs imm) fits = (cell _ fits.1, lit< tt, lit< tt)
sources_of-below (Andi rt rs imm) fits = (cell _ fits.1, lit< tt, lit< tt)
sources_of-below (Ori rt rs imm) fits = (cell _ fits.1, lit< tt, lit< tt)
sources_of-below (Xori rt rs imm) fits = (cell _ fits.1, lit< tt, lit< tt)
sources_of-below (Lui rt imm) fits = (lit< tt, lit< tt, lit< tt)
sources_of-below (Lb rt imm rs) fits = (cell _ fits.2, lit< tt, lit< tt)
sources_of-below (Lh rt imm rs) fits = (cell _ fits.2, lit< tt, lit< tt)
sources_of-below (Lwl rt imm rs) fits = (cell _ fits.2, cell _ fits.0, lit< tt)
sources_of-below (Lw rt imm rs) fits = (cell _ fits.2, lit< tt, lit< tt)
sources_of-below (Lbu rt imm rs) fits = (cell _ fits.2, lit< tt, lit< tt)
sources_of-below (Lhu rt imm rs) fits = (cell _ fits.2, lit< tt, lit< tt)
sources_of-below (Lwr rt imm rs) fits = (cell _ fits.2, cell _ fits.0, lit< tt)
sources_of-below (Sb rt imm rs) fits = (cell _ fits.2, cell _ fits.0, lit< tt)
sources_of-below (Sh rt imm rs) fits = (cell _ fits.2, cell _ fits.0, lit< tt)
sources_of-below (Swl rt imm rs) fits = (cell _ fits.2, cell _ fits.0, lit< tt)
sources_of-below (Sw rt imm rs) fits = (cell _ fits.2, cell _ fits.0, lit< tt)
sources_of-below (Swr rt imm rs) fits = (cell _ fits.2, cell _ fits.0, lit< tt)
sources_of-below (Xlwn rt imm rs) fits = (cell _ fits.2, lit< tt, lit< tt)
sources_of-below (Xswn rt imm rs) fits = (cell _ fits.2, cell _ fits.0, lit< tt)
sources_of-below (Xmvtn rs) fits = (cell _ fits.1, lit< tt, lit< tt)
sources_of-below (Xmvfn rd rs) fits = (cell _ fits.1.1, lit< tt, lit< tt)
sources_of-below Xexit fits = (lit< tt, lit< tt, lit< tt)
sources_of-below (Xhand rs) fits = (cell _ fits, lit< tt, lit< tt)
sources_of-below Xsigret fits = (lit< tt, lit< tt, lit< tt)
sources_of-below (Xinstall rs rt rd) fits = (cell _ fits.0, cell _ fits.1, cell _ fits.2)
sources_of-below (Xenter rs) fits = (cell _ fits, lit< tt, lit< tt)
sources_of-below (Xresume rs rt) fits = (cell _ fits.0, cell _ fits.1, lit< tt)
sources_of-below (Xsave rs rt rd) fits = (cell _ fits.0, cell _ fits.1, cell _ fits.2)
sources_of-below (Xrestore rs rt rd) fits = (cell _ fits.0, cell _ fits.1, cell _ fits.2)
sources_of-below (Xmap rs rt rd) fits = (cell _ fits.0, cell _ fits.1, cell _ fits.2)
sources_of-below (Xunmap rs rt) fits = (cell _ fits.0, cell _ fits.1, lit< tt)
sources_of-below (Xkill rs) fits = (cell _ fits, lit< tt, lit< tt)
sources_of-below (Xout rs) fits = (cell _ fits, lit< tt, lit< tt)
sources_of-below Xhalt fits = (lit< tt, lit< tt, lit< tt)
sources_of-below (Xstat rd) fits = (lit< tt, lit< tt, lit< tt)
sources_of-below (Xcause rd) fits = (lit< tt, lit< tt, lit< tt)
sources_of-below (Xarg rd) fits = (lit< tt, lit< tt, lit< tt)
sources_of-below (Xwho rd) fits = (lit< tt, lit< tt, lit< tt)

-- ---- The kinds of effect

-- in its ranges, as the mode has them
abbrev InMode : Mode → Effect → Type 0
InMode Guest e = Ranged e
InMode Null e = Opened e

-- a wish that is in range in both modes
abbrev InBoth : Wish → Type 0
InBoth wished = IsInRange wished × IsOpenWish wished

-- what a mode answers where rt has this value: an effect in its ranges, with its access in one
-- word, or a fault; null code is never barred
abbrev Sound : Mode → ℕ → Result Effect OwnFault → Type 0
Sound mode t (Ok e) = InMode mode e × (t < 2 ^ 32 → IsInOneWord e.wish)
Sound mode t (Err why) = mode ≡ Null → why ≢ fault.Foreign

-- a fault of the instruction's own
Overflow-sound : (mode : Mode) (t : ℕ) → Sound mode t (Err fault.Overflow)
Overflow-sound mode t null same = cc

Address-sound : (mode : Mode) (t : ℕ) → Sound mode t (Err fault.Address)
Address-sound mode t null same = cc

-- cells and a wish in their ranges, that asks for no access
fine : (mode : Mode) (t : ℕ) (e : Effect) → AreCells e.writes → InBoth e.wish → IsInOneWord e.wish
    → Sound mode t (Ok e)
fine Guest t e cells both word = (record { writes = cells; wish = both.0 }, λ _. word)
fine Null t e cells both word = (record { writes = cells; wish = both.1 }, λ _. word)

-- only cells are written
calm : (mode : Mode) (t : ℕ) (written : Writes) (pc npc : ℕ) → AreCells written
    → Sound mode t (Ok (record { writes = written; wish = wish.Nothing; pc = pc; npc = npc }))
calm mode t written pc npc cells =
    fine mode t (record { writes = written; wish = wish.Nothing; pc = pc; npc = npc }) cells
    (tt, tt) tt

AreCells-set : (reg value : ℕ) → reg < 34 → AreCells (write_of_register reg value)
AreCells-set reg value below =
    cond_both (reg == 0) _ _ AreCells (λ _. tt)
    (λ not_zero. let e = eqb-false reg 0 not_zero in (omega arith, below))

sets-sound : (mode : Mode) (t reg value following : ℕ) → reg < 34
    → Sound mode t (sets reg value following)
sets-sound mode t reg value following below =
    calm mode t (write_of_register reg value) following (next_address following) (AreCells-set reg value below)

sets_or_overflows-sound : (mode : Mode) (t reg : ℕ) (value : Option ℕ) (following : ℕ) → reg < 34
    → Sound mode t (sets_or_overflows reg value following)
sets_or_overflows-sound mode t reg None following below = Overflow-sound mode t
sets_or_overflows-sound mode t reg (Some value) following below =
    sets-sound mode t reg value following below

divided-sound : (mode : Mode) (t s by following : ℕ)
    → Sound mode t (writes_only (quotient_and_remainder s by) following)
divided-sound mode t s by following =
    calm mode t _ following (next_address following) (cond_both (by == 0) _ _ AreCells (λ _. tt) (λ _. tt))

divided_unsigned-sound : (mode : Mode) (t s by following : ℕ)
    → Sound mode t (writes_only (divided_unsigned s by) following)
divided_unsigned-sound mode t s by following =
    calm mode t _ following (next_address following) (cond_both (by == 0) _ _ AreCells (λ _. tt) (λ _. tt))

-- an open access is aligned and, of a guest, private
open-parts : (size address : ℕ) → is_open Guest size address ≡ true
    → (address % size ≡ 0) × (address < private_bytes)
open-parts size address open_there =
    let parts = and_parts (address % size == 0) (nat_lt address private_bytes) open_there in
    (eqb-true (address % size) 0 parts.0, ltb-true address private_bytes parts.1)

-- an aligned access of so many bytes that begins in private memory lies in it
size-inside : (how : LoadKind) (address : ℕ) → address % alignment_of how ≡ 0 → address < private_bytes
    → address + alignment_of how ≤ private_bytes
size-inside kind.Byte address aligned inside = omega arith
size-inside kind.ByteU address aligned inside = omega arith
size-inside kind.Half address aligned inside = omega arith
size-inside kind.HalfU address aligned inside = omega arith
size-inside kind.Word address aligned inside = omega arith
size-inside kind.Left address aligned inside = omega arith
size-inside kind.Right address aligned inside = omega arith

loads-sound : (mode : Mode) (t : ℕ) (how : LoadKind) (reg address old following : ℕ) → reg < 32
    → Sound mode t (loads mode how reg address old following)
loads-sound Guest t how reg address old following below =
    cond_both (is_open Guest (alignment_of how) address) _ _ (Sound Guest t)
    (λ open_there.
    let parts = open-parts (alignment_of how) address open_there in
    let word : address - address % 4 + 4 ≤ private_bytes = let inside : address < private_bytes =
    parts.1 in omega arith in (
      record {
        writes = tt;
        wish = record {
          register = below;
          aligned = parts.0;
          private =
              size-inside how address parts.0 parts.1;
          word = word;
        };
      },
      λ _. tt,
    ))
    (λ _. Address-sound Guest t)
loads-sound Null t how reg address old following below =
    cond_both (is_open Null (alignment_of how) address) _ _ (Sound Null t)
    (λ open_there. (
      record {
        writes = tt;
        wish =
            (below, eqb-true (address % alignment_of how) 0 open_there);
      },
      λ _. tt,
    ))
    (λ _. Address-sound Null t)

-- so many bytes from here on lie in one word
record InWord (address count : ℕ) : Type 0 where
  some : 1 ≤ count
  few : count ≤ 4
  one_word : address % 4 + count ≤ 4

-- a store of bytes in one word, that a guest begins in private memory
stored-sound : (mode : Mode) (t size at address count value following : ℕ)
    → (at % size ≡ 0 → InWord address count)
    → (at < private_bytes → InWord address count → address + count ≤ private_bytes)
    → (t < 2 ^ 32 → value < 2 ^ (8 * count))
    → Sound mode t (if is_open mode size at then wishes (wish.Store address count value) following
    else Err fault.Address)
stored-sound Guest t size at address count value following aligned inside small =
    cond_both (is_open Guest size at) _ _ (Sound Guest t)
    (λ open_there.
    let parts = open-parts size at open_there in
    let word = aligned parts.0 in (
      record {
        writes = tt;
        wish = record {
          some = word.some;
          few = word.few;
          one_word =
              word.one_word;
          private = inside parts.1 word;
        };
      },
      λ below. record {
        some = word.some;
        few = word.few;
        one_word = word.one_word;
        small =
            small below;
      },
    ))
    (λ _. Address-sound Guest t)
stored-sound Null t size at address count value following aligned inside small =
    cond_both (is_open Null size at) _ _ (Sound Null t)
    (λ open_there.
    let word = aligned (eqb-true (at % size) 0 open_there) in (
      record { writes = tt; wish = (word.some, word.few) },
      λ below. record {
        some = word.some;
        few =
            word.few;
        one_word = word.one_word;
        small = small below;
      },
    ))
    (λ _. Address-sound Null t)

sb-sound : (mode : Mode) (t address following : ℕ)
    → Sound mode t (stores mode 1 address (t % 2 ^ 8) following)
sb-sound mode t address following =
    stored-sound mode t 1 address address 1 (t % 2 ^ 8) following
    (λ aligned. record { some = omega arith; few = omega arith; one_word = omega arith })
    (λ inside word. omega arith) (λ below. omega arith)

sh-sound : (mode : Mode) (t address following : ℕ)
    → Sound mode t (stores mode 2 address (t % 2 ^ 16) following)
sh-sound mode t address following =
    stored-sound mode t 2 address address 2 (t % 2 ^ 16) following
    (λ aligned. record { some = omega arith; few = omega arith; one_word = omega arith })
    (λ inside word. let one_word = word.one_word in omega arith) (λ below. omega arith)

sw-sound : (mode : Mode) (t address following : ℕ)
    → Sound mode t (stores mode 4 address t following)
sw-sound mode t address following =
    stored-sound mode t 4 address address 4 t following
    (λ aligned. record { some = omega arith; few = omega arith; one_word = omega arith })
    (λ inside word. let one_word = word.one_word in omega arith) (λ below. below)

-- a register's high bytes, so many as there are from a place of a word on
high-below : (t place : ℕ) → place < 4 → t < 2 ^ 32 → t / 2 ^ (8 * place) < 2 ^ (8 * (4 - place))
high-below t place few below =
    let bits : 8 * (4 - place) + 8 * place ≡ 32 = omega arith in
    shr_below t (8 * (4 - place)) (8 * place) (subst (λ n. t < 2 ^ n) (sym bits) below)

stores_left-sound : (mode : Mode) (t address following : ℕ)
    → Sound mode t (stores_left mode address t following)
stores_left-sound mode t address following =
    stored-sound mode t 1 address address (4 - address % 4) _ following
    (λ aligned. record { some = omega arith; few = omega arith; one_word = omega arith })
    (λ inside word. omega arith)
    (λ below. high-below t (address % 4) (omega arith) below)

stores_right-sound : (mode : Mode) (t address following : ℕ)
    → Sound mode t (stores_right mode address t following)
stores_right-sound mode t address following =
    stored-sound mode t 1 address (address - address % 4) (address % 4 + 1) _ following
    (λ aligned. record { some = omega arith; few = omega arith; one_word = omega arith })
    (λ inside word. omega arith)
    (λ below. mod_below t (2 ^ (8 * (address % 4 + 1))) (pow_pos (8 * (address % 4 + 1))))

-- a word of RAM, which a guest alone asks for
at_word-sound : (t address : ℕ) (wished : Wish) (following : ℕ) → IsInRange wished
    → (address % 4 ≡ 0 → IsInOneWord wished) → Sound Guest t (at_word address wished following)
at_word-sound t address wished following range word =
    cond_both (address % 4 == 0) _ _ (Sound Guest t)
    (λ at_multiple. (
      record { writes = tt; wish = range },
      λ _. word
          (eqb-true (address % 4) 0 at_multiple),
    )) (λ _. Address-sound Guest t)

-- ---- The instructions

-- an instruction that sets a register
puts : (mode : Mode) (t reg value following : ℕ) → reg < 32
    → Sound mode t (sets reg value following)
puts mode t reg value following below = sets-sound mode t reg value following (cell reg below)

act-sound : (i : Ins) (mode : Mode) (s t d following : ℕ) → Fits i → is_reserved mode i ≡ false
    → Sound mode t (act i mode s t d following)
unfolding act
act-sound (Sll rd rt sa) mode s t d following fits own = puts mode t rd _ following fits.0
act-sound (Srl rd rt sa) mode s t d following fits own = puts mode t rd _ following fits.0
act-sound (Sra rd rt sa) mode s t d following fits own = puts mode t rd _ following fits.0
act-sound (Sllv rd rt rs) mode s t d following fits own = puts mode t rd _ following fits.0
act-sound (Srlv rd rt rs) mode s t d following fits own = puts mode t rd _ following fits.0
act-sound (Srav rd rt rs) mode s t d following fits own = puts mode t rd _ following fits.0
act-sound (Jr rs) mode s t d following fits own = calm mode t _ _ _ tt
act-sound (Jalr rd rs) mode s t d following fits own =
    calm mode t _ _ _ (AreCells-set rd (next_address following) (cell _ fits.0))
act-sound (Syscall code) mode s t d following fits own = fine mode t _ tt (fits, tt) tt
act-sound (Break code) mode s t d following fits own = λ null same. cc
act-sound (Mfhi rd) mode s t d following fits own = puts mode t rd _ following fits
act-sound (Mthi rs) mode s t d following fits own = calm mode t _ _ _ (lit≤ tt, lit< tt)
act-sound (Mflo rd) mode s t d following fits own = puts mode t rd _ following fits
act-sound (Mtlo rs) mode s t d following fits own = calm mode t _ _ _ (lit≤ tt, lit< tt)
act-sound (Mult rs rt) mode s t d following fits own = calm mode t _ _ _ tt
act-sound (Multu rs rt) mode s t d following fits own = calm mode t _ _ _ tt
act-sound (Div rs rt) mode s t d following fits own = divided-sound mode t s t following
act-sound (Divu rs rt) mode s t d following fits own = divided_unsigned-sound mode t s t following
act-sound (Add rd rs rt) mode s t d following fits own =
    sets_or_overflows-sound mode t rd (sum s t) following (cell _ fits.0)
act-sound (Addu rd rs rt) mode s t d following fits own = puts mode t rd _ following fits.0
act-sound (Sub rd rs rt) mode s t d following fits own =
    sets_or_overflows-sound mode t rd (difference s t) following (cell _ fits.0)
act-sound (Subu rd rs rt) mode s t d following fits own = puts mode t rd _ following fits.0
act-sound (And rd rs rt) mode s t d following fits own = puts mode t rd _ following fits.0
act-sound (Or rd rs rt) mode s t d following fits own = puts mode t rd _ following fits.0
act-sound (Xor rd rs rt) mode s t d following fits own = puts mode t rd _ following fits.0
act-sound (Nor rd rs rt) mode s t d following fits own = puts mode t rd _ following fits.0
act-sound (Slt rd rs rt) mode s t d following fits own = puts mode t rd _ following fits.0
act-sound (Sltu rd rs rt) mode s t d following fits own = puts mode t rd _ following fits.0
act-sound (Bltz rs imm) mode s t d following fits own = calm mode t _ _ _ tt
act-sound (Bgez rs imm) mode s t d following fits own = calm mode t _ _ _ tt
act-sound (Bltzal rs imm) mode s t d following fits own =
    calm mode t _ _ _ (AreCells-set 31 (next_address following) (lit< tt))
act-sound (Bgezal rs imm) mode s t d following fits own =
    calm mode t _ _ _ (AreCells-set 31 (next_address following) (lit< tt))
act-sound (J index) mode s t d following fits own = calm mode t _ _ _ tt
act-sound (Jal index) mode s t d following fits own =
    calm mode t _ _ _ (AreCells-set 31 (next_address following) (lit< tt))
act-sound (Beq rs rt imm) mode s t d following fits own = calm mode t _ _ _ tt
act-sound (Bne rs rt imm) mode s t d following fits own = calm mode t _ _ _ tt
act-sound (Blez rs imm) mode s t d following fits own = calm mode t _ _ _ tt
act-sound (Bgtz rs imm) mode s t d following fits own = calm mode t _ _ _ tt
act-sound (Addi rt rs imm) mode s t d following fits own =
    sets_or_overflows-sound mode t rt (sum s (sign_extended imm)) following (cell _ fits.0)
act-sound (Addiu rt rs imm) mode s t d following fits own = puts mode t rt _ following fits.0
act-sound (Slti rt rs imm) mode s t d following fits own = puts mode t rt _ following fits.0
act-sound (Sltiu rt rs imm) mode s t d following fits own = puts mode t rt _ following fits.0
act-sound (Andi rt rs imm) mode s t d following fits own = puts mode t rt _ following fits.0
act-sound (Ori rt rs imm) mode s t d following fits own = puts mode t rt _ following fits.0
act-sound (Xori rt rs imm) mode s t d following fits own = puts mode t rt _ following fits.0
act-sound (Lui rt imm) mode s t d following fits own = puts mode t rt _ following fits.0
act-sound (Lb rt imm rs) mode s t d following fits own =
    loads-sound mode t kind.Byte rt (plus_signed s imm) t following fits.0
act-sound (Lh rt imm rs) mode s t d following fits own =
    loads-sound mode t kind.Half rt (plus_signed s imm) t following fits.0
act-sound (Lwl rt imm rs) mode s t d following fits own =
    loads-sound mode t kind.Left rt (plus_signed s imm) t following fits.0
act-sound (Lw rt imm rs) mode s t d following fits own =
    loads-sound mode t kind.Word rt (plus_signed s imm) t following fits.0
act-sound (Lbu rt imm rs) mode s t d following fits own =
    loads-sound mode t kind.ByteU rt (plus_signed s imm) t following fits.0
act-sound (Lhu rt imm rs) mode s t d following fits own =
    loads-sound mode t kind.HalfU rt (plus_signed s imm) t following fits.0
act-sound (Lwr rt imm rs) mode s t d following fits own =
    loads-sound mode t kind.Right rt (plus_signed s imm) t following fits.0
act-sound (Sb rt imm rs) mode s t d following fits own =
    sb-sound mode t (plus_signed s imm) following
act-sound (Sh rt imm rs) mode s t d following fits own =
    sh-sound mode t (plus_signed s imm) following
act-sound (Swl rt imm rs) mode s t d following fits own =
    stores_left-sound mode t (plus_signed s imm) following
act-sound (Sw rt imm rs) mode s t d following fits own =
    sw-sound mode t (plus_signed s imm) following
act-sound (Swr rt imm rs) mode s t d following fits own =
    stores_right-sound mode t (plus_signed s imm) following
act-sound (Xlwn rt imm rs) Guest s t d following fits own =
    at_word-sound t (plus_signed s imm) (wish.NullLoad rt (plus_signed s imm)) following fits.0
    (λ aligned. aligned)
act-sound (Xlwn rt imm rs) Null s t d following fits own = cc
act-sound (Xswn rt imm rs) Guest s t d following fits own =
    at_word-sound t (plus_signed s imm) (wish.NullStore (plus_signed s imm) t) following tt
    (λ aligned. aligned)
act-sound (Xswn rt imm rs) Null s t d following fits own = cc
act-sound (Xmvtn rs) Guest s t d following fits own = (record { writes = tt; wish = fits }, λ _. tt)
act-sound (Xmvtn rs) Null s t d following fits own = cc
act-sound (Xmvfn rd rs) Guest s t d following fits own =
    (record { writes = tt; wish = fits }, λ _. tt)
act-sound (Xmvfn rd rs) Null s t d following fits own = cc
act-sound Xexit Guest s t d following fits own = (record { writes = tt; wish = tt }, λ _. tt)
act-sound Xexit Null s t d following fits own = cc
act-sound (Xhand rs) Guest s t d following fits own = (record { writes = tt; wish = tt }, λ _. tt)
act-sound (Xhand rs) Null s t d following fits own = cc
act-sound Xsigret Guest s t d following fits own = (record { writes = tt; wish = tt }, λ _. tt)
act-sound Xsigret Null s t d following fits own = cc
act-sound (Xinstall rs rt rd) Guest s t d following fits own = cc
act-sound (Xinstall rs rt rd) Null s t d following fits own =
    (record { writes = tt; wish = tt }, λ _. tt)
act-sound (Xenter rs) Guest s t d following fits own = cc
act-sound (Xenter rs) Null s t d following fits own = (record { writes = tt; wish = tt }, λ _. tt)
act-sound (Xresume rs rt) Guest s t d following fits own = cc
act-sound (Xresume rs rt) Null s t d following fits own =
    (record { writes = tt; wish = tt }, λ _. tt)
act-sound (Xsave rs rt rd) Guest s t d following fits own = cc
act-sound (Xsave rs rt rd) Null s t d following fits own =
    (record { writes = tt; wish = tt }, λ _. tt)
act-sound (Xrestore rs rt rd) Guest s t d following fits own = cc
act-sound (Xrestore rs rt rd) Null s t d following fits own =
    (record { writes = tt; wish = tt }, λ _. tt)
act-sound (Xmap rs rt rd) Guest s t d following fits own = cc
act-sound (Xmap rs rt rd) Null s t d following fits own =
    (record { writes = tt; wish = tt }, λ _. tt)
act-sound (Xunmap rs rt) Guest s t d following fits own = cc
act-sound (Xunmap rs rt) Null s t d following fits own =
    (record { writes = tt; wish = tt }, λ _. tt)
act-sound (Xkill rs) Guest s t d following fits own = cc
act-sound (Xkill rs) Null s t d following fits own = (record { writes = tt; wish = tt }, λ _. tt)
act-sound (Xout rs) Guest s t d following fits own = cc
act-sound (Xout rs) Null s t d following fits own = (record { writes = tt; wish = tt }, λ _. tt)
act-sound Xhalt Guest s t d following fits own = cc
act-sound Xhalt Null s t d following fits own = (record { writes = tt; wish = tt }, λ _. tt)
act-sound (Xstat rd) Guest s t d following fits own = cc
act-sound (Xstat rd) Null s t d following fits own = (record { writes = tt; wish = fits }, λ _. tt)
act-sound (Xcause rd) Guest s t d following fits own = cc
act-sound (Xcause rd) Null s t d following fits own = (record { writes = tt; wish = fits }, λ _. tt)
act-sound (Xarg rd) Guest s t d following fits own = cc
act-sound (Xarg rd) Null s t d following fits own = (record { writes = tt; wish = fits }, λ _. tt)
act-sound (Xwho rd) Guest s t d following fits own = cc
act-sound (Xwho rd) Null s t d following fits own = (record { writes = tt; wish = fits }, λ _. tt)

-- Foreign comes of a barred cell alone, and null code has none
barred-sound : (mode : Mode) (t : ℕ) (i : Ins) (first second third : Seen)
    → is_barred mode i first second third ≡ true → Sound mode t (Err fault.Foreign)
barred-sound Guest t i first second third barred null same = cc
barred-sound Null t i first second third barred null same = cc

judged-sound : (i : Ins) (mode : Mode) (first second third : Seen) (following : ℕ) → Fits i
    → Sound mode (number_of_seen second) (effect_or_fault i mode first second third following)
judged-sound i mode first second third following fits =
    cond_both (is_reserved mode i) (Err fault.Reserved) _ (Sound mode (number_of_seen second))
    (λ _. λ null same. cc)
    (λ own. cond_both (is_barred mode i first second third) (Err fault.Foreign)
    _ (Sound mode (number_of_seen second)) (barred-sound mode (number_of_seen second) i first second third)
    (λ _. act-sound i mode (number_of_seen first) (number_of_seen second) (number_of_seen third) following fits
    own))

-- ---- What the parts say of an answer

-- a guest's effect is ranged, whatever is seen
ranged-of : (t : ℕ) (r : Result Effect OwnFault) → Sound Guest t r → IfOk r Ranged
ranged-of t (Ok e) sound = sound.0
ranged-of t (Err why) sound = tt

-- and so is one of null code
opened-of : (t : ℕ) (r : Result Effect OwnFault) → Sound Null t r → IfOk r Opened
opened-of t (Ok e) sound = sound.0
opened-of t (Err why) sound = tt

-- an access lies in one word
word-of : (mode : Mode) (t : ℕ) (r : Result Effect OwnFault) → Sound mode t r → t < 2 ^ 32
    → IfOk r (λ e. IsInOneWord e.wish)
word-of mode t (Ok e) sound below = sound.1 below
word-of mode t (Err why) sound below = tt

-- null code meets no Foreign
foreign-of : (t : ℕ) (r : Result Effect OwnFault) → Sound Null t r → r ≢ Err fault.Foreign
foreign-of t (Ok e) sound same = cc
foreign-of t (Err why) sound same = sound refl (let equal : why ≡ fault.Foreign = cc in equal)

pub judged-ranged : (i : Ins) (mode : Mode) (first second third : Seen) (following : ℕ) → Fits i
    → mode ≡ Guest → IfOk (effect_or_fault i mode first second third following) Ranged
judged-ranged i mode first second third following fits guest =
    let P : Mode → Type 0 = λ m. IfOk (effect_or_fault i m first second third following) Ranged in
    subst P (sym guest) (ranged-of (number_of_seen second) _ (judged-sound i Guest first second third
    following fits))

pub judged-opened : (i : Ins) (mode : Mode) (first second third : Seen) (following : ℕ) → Fits i
    → mode ≡ Null → IfOk (effect_or_fault i mode first second third following) Opened
judged-opened i mode first second third following fits null =
    let P : Mode → Type 0 = λ m. IfOk (effect_or_fault i m first second third following) Opened in
    subst P (sym null) (opened-of (number_of_seen second) _ (judged-sound i Null first second third
    following fits))

pub act-word : (i : Ins) (mode : Mode) (s t d following : ℕ) → Fits i → is_reserved mode i ≡ false
    → t < 2 ^ 32 → IfOk (act i mode s t d following) (λ e. IsInOneWord e.wish)
act-word i mode s t d following fits own below =
    word-of mode t _ (act-sound i mode s t d following fits own) below

pub judged-foreign : (i : Ins) (mode : Mode) (first second third : Seen) (following : ℕ) → Fits i
    → mode ≡ Null → effect_or_fault i mode first second third following ≢ Err fault.Foreign
judged-foreign i mode first second third following fits null =
    let P : Mode → Type 0 = λ m. effect_or_fault i m first second third following ≢ Err fault.Foreign in
    subst P (sym null) (foreign-of (number_of_seen second) _ (judged-sound i Null first second third
    following fits))

-- the same of an effect that is told
pub effect_of-Ranged : (i : Ins) (a b c : Seen) (pc npc : ℕ) (e : Effect) → Fits i
    → effect_of i Guest a b c pc npc ≡ Ok e → Ranged e
unfolding effect_of
effect_of-Ranged i a b c pc npc e fits is =
    let ranged = judged-ranged i Guest (seen_at (sources_of i).0 a) (seen_at (sources_of i).1 b)
    (seen_at (sources_of i).2 c) npc fits refl in
    rw is at ranged
