-- What a statement writes is as long as its size says.
use Rattle.std.proofs.Common.{◌≡◌, ℕ, suc, ◌+◌, ◌*◌, Bool, true, false, cond, leb, inl, inr, List, [], ◌∷◌, ◌++◌, length, Option, Some, None, refl, sym, ap, ◌∙◌, option_map, arith, length-append}
use Rattle.std.specs.Int.{w32, to_be_bytes}
use Rattle.std.proofs.lemmas.List.{length-replicate}
use Rattle.std.proofs.lemmas.Option.{none-some, option_and_then_some as steps, same_Some}
use Rattle.std.proofs.lemmas.Bool.{cases_Bool, le-leb, leb-true}
use Rattle.text_lines.proofs.CutLaws.{option_map_some}
use Rattle.mips_instruction.specs.Words.{word_of}
use Rattle.mips_instruction.specs.declared.instruction.Ins.{Ins}
use Rattle.mips_instruction.specs.declared.instruction.Ins.TheVariants.{Addiu, Ori}
use Rattle.asm_tokens.specs.declared.integers.Integer.{Integer}
use Rattle.asm_source.specs.declared.argument.Value.{Value}
use Rattle.asm_source.specs.declared.content.Content.{Content}
use Rattle.asm_source.specs.declared.content.Content.TheVariants.{Label, Words, Bytes, Ascii, Space, Align, Org, Entry, LoadNumber, LoadAddress, Instruction}
use Rattle.asm_syntax.specs.Forms.{map_some}
use Rattle.mips_asm.specs.Encoding.{AreWords, IsCode, StatementGives, byte_value, instruction_at, join_some, load_address, load_halves, load_number, one_instruction, twos_complement, value_number, word_value}
use Rattle.mips_asm.specs.Layout.{in_range, padding, statement_size}
use Rattle.mips_asm.specs.Passes.{Labels}

-- a word has four bytes
length-word : (n : ℕ) → length (to_be_bytes w32 n) ≡ 4
length-word n = refl

AreWords-length : (is : List Ins) (bytes : List ℕ) → AreWords is bytes
    → length bytes ≡ 4 * length is
AreWords-length [] bytes words = ap length words
AreWords-length (i ∷ is) bytes words =
    let rest = AreWords-length is words.0 words.3 in
    let whole : length bytes ≡ length (to_be_bytes w32 (word_of i)) + length words.0 =
    ap length words.2 ∙ length-append (to_be_bytes w32 (word_of i)) words.0 in
    let four = length-word (word_of i) in
    omega arith

map_some-length : {X Y : Type 0} (f : X → Option Y) (xs : List X) (ys : List Y)
    → map_some f xs ≡ Some ys → length ys ≡ length xs
map_some-length f [] ys read = sym (ap length (same_Some [] ys read))
map_some-length f (x ∷ xs) ys read =
    steps _ (f x) ys read (λ y first read.
    steps _ (map_some f xs) ys read (λ more rest same.
    sym (ap length (same_Some (y ∷ more) ys same)) ∙ ap (λ (n : ℕ). suc n)
    (map_some-length f xs more rest)))

module _ {X : Type 0} (f : X → Option (List ℕ)) (four : (x : X) (bytes : List ℕ) → f x ≡ Some bytes
    → length bytes ≡ 4) where
  join_some-length : (xs : List X) (ys : List ℕ) → join_some f xs ≡ Some ys
      → length ys ≡ 4 * length xs
  join_some-length [] ys read = sym (ap length (same_Some [] ys read))
  join_some-length (x ∷ xs) ys read =
      steps _ (f x) ys read (λ y first read.
      steps _ (join_some f xs) ys read (λ more rest same.
      let whole : length ys ≡ length y + length more =
      sym (ap length (same_Some (y ++ more) ys same)) ∙ length-append y more in
      let one = four x y first in
      let others = join_some-length xs more rest in
      omega arith))

-- a guarded value
guarded : {A : Type 0} (test : Bool) (x y : A) → cond test (Some x) None ≡ Some y → x ≡ y
guarded true x y h = same_Some x y h
guarded false x y h = absurd (none-some y h)

word_value-length : (labels : Labels) (v : Value) (bytes : List ℕ)
    → word_value labels v ≡ Some bytes → length bytes ≡ 4
unfolding word_value
word_value-length labels v bytes read =
    steps _ (value_number labels v) bytes read (λ n number given.
    sym (ap length (guarded (in_range 2147483648 4294967295 n)
    (to_be_bytes w32 (twos_complement 32 n)) bytes given)) ∙ length-word (twos_complement 32 n))

-- ---- instructions

code-length : (place : ℕ) (made : Option (List Ins)) (bytes : List ℕ) (n : ℕ)
    → ((is : List Ins) → made ≡ Some is → length is ≡ n) → IsCode place made bytes
    → length bytes ≡ 4 * n
code-length place made bytes n count code =
    AreWords-length code.0 bytes code.3 ∙ ap (λ (k : ℕ). 4 * k) (count code.0 code.2)

same_length : (some is : List Ins) → ◌≡◌ {A = Option (List Ins)} (Some some) (Some is)
    → length is ≡ length some
same_length some is h = sym (ap length (same_Some some is h))

-- numbers that `li` takes in one instruction
small_signed : (b : Bool) (m : ℕ) → cond b (leb m 32768) (leb m 32767) ≡ true
    → cond b (leb m 32768) (leb m 65535) ≡ true
small_signed true m h = h
small_signed false m h = let below = leb-true m 32767 h in le-leb m 65535 (omega arith)

small_unsigned : (b : Bool) (m : ℕ) → cond b (leb m 0) (leb m 65535) ≡ true
    → cond b (leb m 32768) (leb m 65535) ≡ true
small_unsigned true m h = let below = leb-true m 0 h in le-leb m 32768 (omega arith)
small_unsigned false m h = h

large : (b : Bool) (m : ℕ) → cond b (leb m 32768) (leb m 32767) ≡ false
    → cond b (leb m 0) (leb m 65535) ≡ false → cond b (leb m 32768) (leb m 65535) ≡ false
large true m h k = h
large false m h k = k

load_number-length : (place r : ℕ) (n : Integer) (is : List Ins) → load_number r n ≡ Some is
    → 4 * length is ≡ statement_size place (LoadNumber r n)
unfolding load_number statement_size
load_number-length place r n is read =
    elim (cases_Bool (in_range 32768 32767 n)) [
      | inl signed ↦ rw (small_signed n.negative n.magnitude signed)
          (ap (λ (k : ℕ). 4 * k) (same_length (Addiu r 0 (twos_complement 16 n) ∷ []) is
          (rw signed at read)))
      | inr more ↦ elim (cases_Bool (in_range 0 65535 n)) [
        | inl unsigned ↦ rw (small_unsigned n.negative n.magnitude unsigned)
            (ap (λ (k : ℕ). 4 * k) (same_length (Ori r 0 n.magnitude ∷ []) is
            (rw (more, unsigned) at read)))
        | inr most ↦ rw (large n.negative n.magnitude more most)
            (ap (λ (k : ℕ). 4 * k)
            (sym (ap length (guarded (in_range 2147483648 4294967295 n)
            (load_halves r (twos_complement 32 n)) is (rw (more, most) at read)))))
      ]
    ]

load_address-length : (labels : Labels) (r : ℕ) (name : List ℕ) (is : List Ins)
    → load_address labels r name ≡ Some is → length is ≡ 2
unfolding load_address
load_address-length labels r name is read =
    steps _ (labels name) is read (λ place known given.
    sym (ap length (guarded _ (load_halves r place) is given)))

alone-length : (made : Option Ins) (is : List Ins) → option_map one_instruction made ≡ Some is
    → length is ≡ 1
alone-length made is read =
    let m = option_map_some one_instruction made is read in
    sym (ap length (same_Some (one_instruction m.0) is m.2))

-- what a statement writes has its size
pub Gives-size : (labels : Labels) (place : ℕ) (content : Content) (bytes : List ℕ)
    → StatementGives labels place content bytes → length bytes ≡ statement_size place content
unfolding statement_size
Gives-size labels place (Label name) bytes given = ap length given
Gives-size labels place (Words vs) bytes given =
    join_some-length (word_value labels) (word_value-length labels) vs bytes given.1
Gives-size labels place (Bytes ns) bytes given = map_some-length byte_value ns bytes given
Gives-size labels place (Ascii text) bytes given = ap length given
Gives-size labels place (Space n) bytes given = ap length given ∙ length-replicate n 0
Gives-size labels place (Align n) bytes given =
    ap length given.1 ∙ length-replicate (padding n place) 0
Gives-size labels place (Org n) bytes given = ap length given
Gives-size labels place (Entry v) bytes given = ap length given
Gives-size labels place (LoadNumber r n) bytes given =
    AreWords-length given.0 bytes given.3 ∙ load_number-length place r n given.0 given.2
Gives-size labels place (LoadAddress r name) bytes given =
    code-length place (load_address labels r name) bytes 2 (load_address-length labels r name) given
Gives-size labels place (Instruction name arguments) bytes given =
    code-length place (option_map one_instruction (instruction_at labels place name arguments))
    bytes 1 (alone-length (instruction_at labels place name arguments)) given
