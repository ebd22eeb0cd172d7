-- What the elements give, one behind another, in a loop.
use Rattle.std.proofs.Common.{◌≡◌, ℕ, suc, ◌+◌, ◌<◌, List, [], ◌∷◌, ◌++◌, length, get_or, take, drop, Option, Some, None, refl, sym, ap, ◌∙◌, append_assoc}
use Rattle.std.specs.Prelude.{option_and_then}
use Rattle.std.specs.Int.{w32, to_be_bytes}
use Rattle.std.proofs.lemmas.List.{take_more, take-append-drop, append-nil}
use Rattle.std.proofs.Math.Seq.{drop-cons}
use Rattle.std.proofs.lemmas.Option.{option_and_then_some as steps, same_Some}
use Rattle.mips_instruction.specs.Words.{Fits, word_of}
use Rattle.mips_instruction.specs.declared.instruction.Ins.{Ins}
use Rattle.mips_asm.specs.Encoding.{AreWords, join_some}

-- nothing comes of what always gives nothing
none_then : {X Y : Type 0} (f : X → Option Y) → ((x : X) → f x ≡ None) → (o : Option X)
    → option_and_then f o ≡ None
none_then f never None = refl
none_then f never (Some x) = never x

module _ {X Y : Type 0} (f : X → Option (List Y)) where
  join_some-push : (xs : List X) (x : X) (ys y : List Y) → join_some f xs ≡ Some ys → f x ≡ Some y
      → join_some f (xs ++ x ∷ []) ≡ Some (ys ++ y)
  join_some-push [] x ys y read one =
      rw one (ap (λ (all : List Y). Some all) (append-nil y)
      ∙ ap (λ (front : List Y). Some (front ++ y)) (same_Some [] ys read))
  join_some-push (z ∷ zs) x ys y read one =
      steps _ (f z) ys read (λ a first read.
      steps _ (join_some f zs) ys read (λ more rest same.
      rw (first, join_some-push zs x more y rest one)
      (ap (λ (all : List Y). Some all) (sym (append_assoc a more y))
      ∙ ap (λ (front : List Y). Some (front ++ y)) (same_Some (a ++ more) ys same))))

  join_some-none : (xs : List X) (x : X) (rest : List X) → f x ≡ None
      → join_some f (xs ++ (x ∷ rest)) ≡ None
  join_some-none [] x rest none = rw none refl
  join_some-none (z ∷ zs) x rest none =
      rw (join_some-none zs x rest none)
      (none_then (λ (y : List Y). option_and_then (λ (ys : List Y). Some (y ++ ys)) None)
      (λ y. refl) (f z))

  -- the next element of a list, in a loop
  pub join_some_more : (xs : List X) (i : ℕ) (d : X) (ys y : List Y) → i < length xs
      → join_some f (take i xs) ≡ Some ys → f (get_or xs i d) ≡ Some y
      → join_some f (take (i + 1) xs) ≡ Some (ys ++ y)
  join_some_more xs i d ys y within read one =
      ap (join_some f) (take_more xs i d within) ∙ join_some-push (take i xs) (get_or xs i d) ys y
      read one

  -- an element of a list that gives nothing
  pub join_some_stops : (xs : List X) (i : ℕ) (d : X) → i < length xs → f (get_or xs i d) ≡ None
      → join_some f xs ≡ None
  join_some_stops xs i d within none =
      ap (join_some f) (sym (take-append-drop i xs) ∙ ap (λ (rest : List X). take i xs ++ rest)
      (drop-cons xs i d within))
      ∙ join_some-none (take i xs) (get_or xs i d) (drop (suc i) xs) none

-- ---- instructions

AreWords-push : (is : List Ins) (i : Ins) (bytes : List ℕ) → AreWords is bytes → Fits i
    → AreWords (is ++ i ∷ []) (bytes ++ to_be_bytes w32 (word_of i))
AreWords-push [] i bytes words fits = (
  [],
  fits,
  ap (λ (front : List ℕ). front ++ to_be_bytes w32 (word_of i)) words
      ∙ sym (append-nil (to_be_bytes w32 (word_of i))),
  refl,
)
AreWords-push (j ∷ is) i bytes words fits = (
  words.0 ++ to_be_bytes w32 (word_of i),
  words.1,
  ap (λ (front : List ℕ). front ++ to_be_bytes w32 (word_of i)) words.2
      ∙ append_assoc (to_be_bytes w32 (word_of j)) words.0 (to_be_bytes w32 (word_of i)),
  AreWords-push is i words.0 words.3 fits,
)

AreWords-fits : (is : List Ins) (i : Ins) (rest : List Ins) (bytes : List ℕ)
    → AreWords (is ++ (i ∷ rest)) bytes → Fits i
AreWords-fits [] i rest bytes words = words.1
AreWords-fits (j ∷ is) i rest bytes words = AreWords-fits is i rest words.0 words.3

-- the next instruction, in a loop
pub AreWords_more : (is : List Ins) (i : ℕ) (d : Ins) (bytes : List ℕ) → i < length is
    → AreWords (take i is) bytes → Fits (get_or is i d)
    → AreWords (take (i + 1) is) (bytes ++ to_be_bytes w32 (word_of (get_or is i d)))
AreWords_more is i d bytes within words fits =
    rw (take_more is i d within) (AreWords-push (take i is) (get_or is i d) bytes words fits)

-- each instruction fits
pub AreWords_fits : (is : List Ins) (i : ℕ) (d : Ins) (bytes : List ℕ) → i < length is
    → AreWords is bytes → Fits (get_or is i d)
AreWords_fits is i d bytes within words =
    let whole = sym (take-append-drop i is) ∙ ap (λ (rest : List Ins). take i is ++ rest)
    (drop-cons is i d within) in
    AreWords-fits (take i is) (get_or is i d) (drop (suc i) is) bytes (rw whole at words)
