-- The table of registers, read in both directions.
use Rattle.std.proofs.Common.{◌≡◌, ℕ, zero, suc, ◌+◌, ◌%◌, ◌<◌, Bool, true, false, cond, eqb, ◌&&◌, inl, inr, List, [], ◌∷◌, ◌++◌, length, get_or, Option, Some, None, refl, sym, ap, ◌∙◌, arith}
use Rattle.std.specs.Prelude.{◌↔◌, ◌⊎◌, map, not, position, slice_get}
use Rattle.std.specs.List.{prefix_len}
use Rattle.std.specs.Str.{bytes_eq}
use Rattle.std.proofs.lemmas.Bool.{and_parts, eqb-true, true≢false}
use Rattle.std.proofs.lemmas.List.Quantifiers.{position-Some}
use Rattle.std.proofs.lemmas.Option.{none-some, slice_get-get_or, slice_get_within}
use Rattle.std.proofs.lemmas.Slice.Eq.{bytes_eq-Decides}
use Rattle.text_lines.proofs.CutLaws.{option_map_some}
use Rattle.asm_tokens.specs.Registers.{IsRegister, register_names, register_numbers, register_of}

-- ---- first places

-- a first place, where each element is seen through a function
prefix_len-map : {A B : Type 0} (see : A → B) (p : B → Bool) (xs : List A)
    → prefix_len (λ x. p (see x)) xs ≡ prefix_len p (map see xs)
prefix_len-map see p [] = refl
prefix_len-map see p (x ∷ xs) = ap (λ n. cond (p (see x)) (1 + n) 0) (prefix_len-map see p xs)

length-seen : {A B : Type 0} (see : A → B) (xs : List A) → length xs ≡ length (map see xs)
length-seen see [] = refl
length-seen see (x ∷ xs) = ap suc (length-seen see xs)

pub position-map : {A B : Type 0} (see : A → B) (p : B → Bool) (xs : List A)
    → position (λ x. p (see x)) xs ≡ position p (map see xs)
position-map see p xs = rw (prefix_len-map see (λ y. not (p y)) xs, length-seen see xs) refl

-- where an element of two lists stands
slice_get-append : {A : Type 0} (xs ys : List A) (i : ℕ) (x : A) → slice_get (xs ++ ys) i ≡ Some x
    → (slice_get xs i ≡ Some x) ⊎ ((k : ℕ) × (i ≡ length xs + k) × (slice_get ys k ≡ Some x))
slice_get-append [] ys i x h = inr (i, omega arith, h)
slice_get-append (y ∷ xs) ys zero x h = inl h
slice_get-append (y ∷ xs) ys (suc i) x h =
    elim (slice_get-append xs ys i x h) [
      | inl here ↦ inl here
      | inr there ↦
          inr (there.0, omega (arith, there.1), there.2)
    ]

-- ---- from the function to the table

found : (text : List ℕ) (place : ℕ)
    → slice_get (register_numbers ++ register_names) place ≡ Some text
    → IsRegister text (place % 32)
unfolding register_numbers register_names
found text place h =
    elim (slice_get-append register_numbers register_names place text h) [
      | inl here ↦
          let small : place < 32 = slice_get_within register_numbers place text here in
          let same : place % 32 ≡ place = omega arith in
          inl (rw same here)
      | inr there ↦
          let small : there.0 < 32 = slice_get_within register_names there.0 text there.2 in
          let same : place % 32 ≡ there.0 = omega (arith, there.1) in
          inr (rw same (there.2))
    ]

-- ---- from the table to the function

unfoldable pub is_some_of : Option ℕ → ℕ → Bool
is_some_of None n = false
is_some_of (Some m) n = eqb m n

pub is_some_of-true : (o : Option ℕ) (n : ℕ) → is_some_of o n ≡ true → o ≡ Some n
unfolding is_some_of
is_some_of-true None n h = absurd (true≢false (sym h))
is_some_of-true (Some m) n h = ap Some (eqb-true m n h)

-- the function gives the texts these numbers, one after another
gives : ℕ → List (List ℕ) → Bool
gives i [] = true
gives i (text ∷ texts) = is_some_of (register_of text) i && gives (i + 1) texts

gives_at : (i : ℕ) (texts : List (List ℕ)) (k : ℕ) (text : List ℕ) → gives i texts ≡ true
    → slice_get texts k ≡ Some text → register_of text ≡ Some (i + k)
unfolding gives
gives_at i [] k text all h = absurd (none-some text h)
gives_at i (t ∷ texts) zero text all h =
    let here = is_some_of-true (register_of t) i (and_parts (is_some_of (register_of t) i)
    (gives (i + 1) texts) all).0 in
    let same : t ≡ text = cc h in
    let sum : i + 0 ≡ i = omega arith in
    rw (sum, ← same) here
gives_at i (t ∷ texts) (suc k) text all h =
    let there = gives_at (i + 1) texts k text (and_parts (is_some_of (register_of t) i)
    (gives (i + 1) texts) all).1 h in
    let sum : i + suc k ≡ (i + 1) + k = omega arith in
    rw sum there

numbers_given : gives 0 register_numbers ≡ true
unfolding gives is_some_of register_of register_numbers register_names
numbers_given = refl

names_given : gives 0 register_names ≡ true
unfolding gives is_some_of register_of register_numbers register_names
names_given = refl

zero_plus : (r : ℕ) → 0 + r ≡ r
zero_plus r = omega arith

register_found : (text : List ℕ) (r : ℕ) → register_of text ≡ Some r → IsRegister text r
unfolding register_of
register_found text r h =
    let test : List ℕ → Bool = λ known. bytes_eq known text in
    let all : List (List ℕ) = register_numbers ++ register_names in
    let m = option_map_some (λ place. place % 32) (position test all) r h in
    let p = position-Some test all m.0 [] m.1 in
    let is : get_or all m.0 [] ≡ text = (bytes_eq-Decides (get_or all m.0 []) text).0 p.1 in
    let here : slice_get all m.0 ≡ Some text = slice_get-get_or all m.0 [] p.0 ∙ ap Some is in
    let same : m.0 % 32 ≡ r = cc (m.2) in
    rw (← same) (found text m.0 here)

pub register_of-exact : (text : List ℕ) (r : ℕ) → (register_of text ≡ Some r) ↔ IsRegister text r
register_of-exact text r = (
  λ h. register_found text r h,
  λ h. elim h [
    | inl number ↦ gives_at 0 register_numbers r text numbers_given number ∙ ap Some (zero_plus r)
    | inr name ↦ gives_at 0 register_names r text names_given name ∙ ap Some (zero_plus r)
  ],
)

-- there are 32 of them
pub register_small : (text : List ℕ) (r : ℕ) → IsRegister text r → r < 32
unfolding register_numbers register_names
register_small text r h = elim h [
  | inl number ↦ slice_get_within register_numbers r text number
  | inr name ↦ slice_get_within register_names r text name
]
