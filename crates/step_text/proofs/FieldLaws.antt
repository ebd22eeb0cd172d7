-- The functions of a step's words have just the values of its grammar.
use Rattle.std.proofs.Common.{◌≡◌, ◌≢◌, ℕ, suc, ◌+◌, ◌*◌, ◌^◌, ◌<◌, ◌≤◌, Bool, true, false, cond, eqb, leb, ◌⊎◌, inl, inr, List, [], ◌∷◌, ◌++◌, length, take, drop, Option, Some, None, refl, sym, ap, subst, ◌∙◌, arith}
use Rattle.std.specs.Prelude.{◌↔◌, codes, option_map}
use Rattle.std.specs.Char.{digit_value}
use Rattle.std.specs.Int.{w32, from_be_bytes}
use Rattle.std.specs.List.{AllByRecursion, starts_with}
use Rattle.std.specs.Str.{bytes_eq}
use Rattle.std.proofs.lemmas.Bool.{both_ways, cases_Bool, eq-eqb, eqb-true, false_from_ne_true, le-leb, leb-true}
use Rattle.std.proofs.lemmas.Bool.Decides.{Decides-eqb}
use Rattle.std.proofs.lemmas.List.{drop_at, length-append}
use Rattle.std.proofs.lemmas.Option.{cond_some, none-some, option_and_then_some as steps, same_Some, some_pair_parts}
use Rattle.std.proofs.lemmas.Slice.Eq.{bytes_eq-Decides, starts_is}
use Rattle.text_lines.specs.Hex.{IsHex, hex_of}
use Rattle.text_lines.specs.Numbers.{IsNumber, IsNumeral, WritesBelow, number_below_of, count_below_of}
use Rattle.text_lines.specs.Words.{cut_of}
use Rattle.text_lines.proofs.CutLaws.{cut_of-at, cut_of-whole, option_map_some}
use Rattle.text_lines.proofs.HexLaws.{hex_of-exact}
use Rattle.text_lines.proofs.NumberLaws.{number_below_of-exact, count_below_of-exact}
use Rattle.text_lines.proofs.ByteLaws.{same_bytes}
use Rattle.step_text.specs.StepFields.{IsCell, IsHex8, IsNamedHex8, IsNamedNumber, IsNamedPair, cell_of, hex8_of, named_hex8_of, named_number_of, named_pair_of, or_else, pair_of, text_after_name}

-- ---- words and bytes

-- a byte that is no digit stands in no word of digits
no_digit : (base at d : ℕ) → base ≤ digit_value at → digit_value d < base → eqb d at ≡ false
no_digit base at d other digit =
    false_from_ne_true (eqb d at) (λ same. let e : digit_value d ≡ digit_value at =
    ap digit_value (eqb-true d at same) in omega arith)

digits_without : (base at : ℕ) (word : List ℕ) → base ≤ digit_value at
    → AllByRecursion (λ d. digit_value d < base) word → AllByRecursion (λ b. eqb b at ≡ false) word
digits_without base at [] other all = tt
digits_without base at (d ∷ word) other all =
    (no_digit base at d other all.0, digits_without base at word other all.1)

-- neither in a number nor in a hexadecimal word
pub number_without : (bound n at : ℕ) (word : List ℕ) → 16 ≤ digit_value at → eqb 48 at ≡ false
    → eqb 120 at ≡ false → WritesBelow bound word n → AllByRecursion (λ b. eqb b at ≡ false) word
number_without bound n at word other zero x w =
    elim w.0 [
      | inl decimal ↦ digits_without 10 at word (omega arith) decimal.0.digits
      | inr hex ↦ subst (AllByRecursion (λ b. eqb b at ≡ false)) (sym hex.1)
          (zero, (x, digits_without 16 at hex.0 other hex.2.digits))
    ]

pub hex8_without : (n at : ℕ) (word : List ℕ) → 16 ≤ digit_value at → IsHex8 word n
    → AllByRecursion (λ b. eqb b at ≡ false) word
hex8_without n at word other is = digits_without 16 at word other is.1.digits

-- ---- HEX8

hex8_found : (word : List ℕ) (n : ℕ) → hex8_of word ≡ Some n → IsHex8 word n
unfolding hex8_of
hex8_found word n h =
    let m = option_map_some (from_be_bytes w32) (hex_of 4 word) n h in
    (m.0, (hex_of-exact 4 word m.0).0 m.1, sym (same_Some (from_be_bytes w32 m.0) n m.2))

hex8_only : (word : List ℕ) (n : ℕ) → IsHex8 word n → hex8_of word ≡ Some n
unfolding hex8_of
hex8_only word n is = rw ((hex_of-exact 4 word is.0).1 is.1) (ap Some (sym is.2))

pub hex8_of-exact : (word : List ℕ) (n : ℕ) → (hex8_of word ≡ Some n) ↔ IsHex8 word n
hex8_of-exact word n = (hex8_found word n, hex8_only word n)

-- ---- behind a name

-- two words that begin with other bytes
pub other_first : (a b : ℕ) (word name : List ℕ) → eqb a b ≡ false
    → bytes_eq (a ∷ word) (b ∷ name) ≡ false
other_first a b word name other =
    false_from_ne_true (bytes_eq (a ∷ word) (b ∷ name)) (λ same.
    let e : a ∷ word ≡ b ∷ name = same_bytes (a ∷ word) (b ∷ name) same in
    let first : a ≡ b = cc in
    both_ways (eqb a b) other (eq-eqb a b first))

-- the same of a word that is given by its first byte
pub other_head : (a b : ℕ) (word rest name : List ℕ) → word ≡ a ∷ rest → eqb a b ≡ false
    → bytes_eq word (b ∷ name) ≡ false
other_head a b word rest name is other = rw is (other_first a b rest name other)

starts : (word name : List ℕ)
    → (starts_with eqb word name ≡ true → word ≡ name ++ drop (length name) word)
    × ((rest : List ℕ) → word ≡ name ++ rest → starts_with eqb word name ≡ true)
starts word name = starts_is Decides-eqb word name (starts_with eqb word name) refl

pub behind_name : (name rest : List ℕ) → text_after_name name (name ++ rest) ≡ Some rest
unfolding text_after_name
behind_name name rest =
    rw ((starts (name ++ rest) name).1 rest refl) (ap Some (drop_at name rest (length name) refl))

pub behind_found : (name word rest : List ℕ) → text_after_name name word ≡ Some rest → word ≡ name ++ rest
unfolding text_after_name
behind_found name word rest h =
    let t = cond_some (starts_with eqb word name) (drop (length name) word) rest h in
    (starts word name).0 t.0 ∙ ap (λ more. name ++ more) t.1

pub behind_other : (a b : ℕ) (name word : List ℕ) → eqb b a ≡ false
    → text_after_name (a ∷ name) (b ∷ word) ≡ None
unfolding text_after_name
behind_other a b name word other =
    let away = false_from_ne_true (starts_with eqb (b ∷ word) (a ∷ name)) (λ begins.
    let e : b ∷ word ≡ a ∷ (name ++ drop (length (a ∷ name)) (b ∷ word)) =
    (starts (b ∷ word) (a ∷ name)).0 begins in
    let first : b ≡ a = cc in
    both_ways (eqb b a) other (eq-eqb b a first)) in
    rw away refl

pub behind_head : (a b : ℕ) (name word rest : List ℕ) → word ≡ b ∷ rest → eqb b a ≡ false
    → text_after_name (a ∷ name) word ≡ None
behind_head a b name word rest is other = rw is (behind_other a b name rest other)

-- ---- what stands behind a name

pub named_hex8_found : (name word : List ℕ) (n : ℕ) → named_hex8_of name word ≡ Some n
    → IsNamedHex8 name word n
unfolding named_hex8_of
named_hex8_found name word n h =
    steps _ (text_after_name name word) n h
    (λ rest front read. (rest, behind_found name word rest front, hex8_found rest n read))

pub named_hex8_only : (name word : List ℕ) (n : ℕ) → IsNamedHex8 name word n
    → named_hex8_of name word ≡ Some n
unfolding named_hex8_of
named_hex8_only name word n w = rw (w.1, behind_name name w.0) (hex8_only w.0 n w.2)

pub named_number_found : (name word : List ℕ) (n : ℕ) → named_number_of name word ≡ Some n
    → IsNamedNumber name word n
unfolding named_number_of
named_number_found name word n h =
    steps _ (text_after_name name word) n h
    (λ rest front read. (
      rest,
      behind_found name word rest front,
      (number_below_of-exact (2 ^ 32) rest n).0 read,
    ))

pub named_number_only : (name word : List ℕ) (n : ℕ) → IsNamedNumber name word n
    → named_number_of name word ≡ Some n
unfolding named_number_of
named_number_only name word n w =
    rw (w.1, behind_name name w.0) ((number_below_of-exact (2 ^ 32) w.0 n).1 w.2)

pair_found : (word : List ℕ) (first second : ℕ) → pair_of word ≡ Some (first, second)
    → (a b : List ℕ) × (word ≡ a ++ (58 ∷ b)) × IsHex8 a first × IsHex8 b second
unfolding pair_of
pair_found word first second h =
    steps _ (cut_of 58 word) (first, second) h (λ parts cuts h.
    steps _ (hex8_of parts.0) (first, second) h (λ m high h.
    steps _ (hex8_of parts.1) (first, second) h (λ n low h.
    let e = some_pair_parts m first n second h in (
      parts.0,
      parts.1,
      cut_of-whole 58 word parts.0 parts.1 cuts,
      subst (IsHex8 parts.0) e.0 (hex8_found parts.0 m high),
      subst (IsHex8 parts.1) e.1 (hex8_found parts.1 n low),
    ))))

pair_only : (a b : List ℕ) (first second : ℕ) → IsHex8 a first → IsHex8 b second
    → pair_of (a ++ (58 ∷ b)) ≡ Some (first, second)
unfolding pair_of
pair_only a b first second high low =
    rw (
      cut_of-at 58 a b (hex8_without first 58 a (omega arith) high),
      hex8_only a first high,
      hex8_only b second low,
    ) refl

pub named_pair_found : (name word : List ℕ) (first second : ℕ)
    → named_pair_of name word ≡ Some (first, second) → IsNamedPair name word first second
unfolding named_pair_of
named_pair_found name word first second h =
    steps _ (text_after_name name word) (first, second) h (λ rest front read.
    let p = pair_found rest first second read in
    (p.0, p.1, behind_found name word rest front ∙ ap (λ more. name ++ more) p.2, p.3, p.4))

pub named_pair_only : (name word : List ℕ) (first second : ℕ) → IsNamedPair name word first second
    → named_pair_of name word ≡ Some (first, second)
unfolding named_pair_of
named_pair_only name word first second w =
    rw (w.2, behind_name name (w.0 ++ (58 ∷ w.1))) (pair_only w.0 w.1 first second w.3 w.4)

-- ---- cells

pub cell_found : (word : List ℕ) (reg value : ℕ) → cell_of word ≡ Some (reg, value)
    → IsCell word reg value
unfolding cell_of
cell_found word reg value h =
    steps _ (text_after_name (codes "r") word) (reg, value) h (λ rest front h.
    steps _ (cut_of 61 rest) (reg, value) h (λ parts cuts h.
    steps _ (count_below_of 34 parts.0) (reg, value) h (λ m read h.
    steps _ (hex8_of parts.1) (reg, value) h (λ n low h.
    let e = some_pair_parts m reg n value h in
    let c = (count_below_of-exact 34 parts.0 m).0 read in (
      parts.0,
      parts.1,
      behind_found (codes "r") word rest front ∙ ap (λ more. codes "r" ++ more)
          (cut_of-whole 61 rest parts.0 parts.1 cuts),
      subst (WritesBelow 34 parts.0) e.0 c.0,
      subst (λ n. 1 ≤ n) e.0 c.1,
      subst (IsHex8 parts.1) e.1 (hex8_found parts.1 n low),
    )))))

pub cell_only : (word : List ℕ) (reg value : ℕ) → IsCell word reg value
    → cell_of word ≡ Some (reg, value)
unfolding cell_of
cell_only word reg value w =
    rw (w.2, behind_name (codes "r") (w.0 ++ (61 ∷ w.1))) (
    rw (cut_of-at 61 w.0 w.1 (number_without 34 reg 61 w.0 (omega arith) refl refl w.3)) (
    rw ((count_below_of-exact 34 w.0 reg).1 (w.3, w.4), hex8_only w.1 value w.5) refl))

-- ---- no value behind another name

pub named_hex8_none : (name word : List ℕ) → text_after_name name word ≡ None
    → named_hex8_of name word ≡ None
unfolding named_hex8_of
named_hex8_none name word none = rw none refl

pub named_pair_none : (name word : List ℕ) → text_after_name name word ≡ None
    → named_pair_of name word ≡ None
unfolding named_pair_of
named_pair_none name word none = rw none refl

pub cell_none : (word : List ℕ) → text_after_name (codes "r") word ≡ None → cell_of word ≡ None
unfolding cell_of
cell_none word none = rw none refl

-- ---- the first of two values that is there

pub or_else_some : {A : Type 0} (first second : Option A) (x : A) → or_else first second ≡ Some x
    → (first ≡ Some x) ⊎ (second ≡ Some x)
or_else_some None second x h = inr h
or_else_some (Some y) second x h = inl h
