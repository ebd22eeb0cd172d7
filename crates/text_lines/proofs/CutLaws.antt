-- Where a byte list is cut, and the lines that come of it.
use Rattle.std.proofs.Common.{◌≡◌, ℕ, suc, ◌+◌, ◌<◌, Bool, true, false, cond, eqb, ltb, inl, inr, List, [], ◌∷◌, ◌++◌, length, take, drop, Option, Some, None, refl, sym, ap, ◌∙◌, arith, add-one}
use Rattle.std.specs.Prelude.{option_map, position}
use Rattle.std.specs.List.{AllByRecursion, onto_first, position_or_len}
use Rattle.std.proofs.lemmas.Bool.{cases_Bool, cases_lt, eq-eqb, eqb-true, lt-ltb, le-ltb}
use Rattle.std.proofs.lemmas.List.{length-append}
use Rattle.std.proofs.Math.Numerals.{one-add}
use Rattle.std.proofs.lemmas.Option.{some_pair_parts, none-some, cond_some}
use Rattle.text_lines.specs.Words.{cut_of, with_byte}
use Rattle.text_lines.specs.Lines.{lines_of}

-- what a mapped option was
pub option_map_some : {A B : Type 0} (f : A → B) (o : Option A) (y : B) → option_map f o ≡ Some y
    → (x : A) × (o ≡ Some x) × (Some (f x) ≡ Some y)
option_map_some f None y h = absurd (none-some y h)
option_map_some f (Some x) y h = (x, refl, h)

pub option_map_none : {A B : Type 0} (f : A → B) (o : Option A) → option_map f o ≡ None → o ≡ None
option_map_none f None h = refl
option_map_none f (Some x) h = absurd (none-some (f x) (sym h))

-- a guarded value that isn't there leaves no other
cond_none : {A B : Type 0} (b : Bool) (x : A) (y : B) → cond b (Some x) None ≡ None
    → cond b (Some y) None ≡ None
cond_none true x y h = absurd (none-some x (sym h))
cond_none false x y h = refl

-- ---- lines

-- the first line, where it ends
pub lines_of-cut : (text line rest : List ℕ) → cut_of 10 text ≡ Some (line, rest)
    → lines_of text ≡ line ∷ lines_of rest
unfolding cut_of
lines_of-cut [] line rest h = absurd (none-some (line, rest) h)
lines_of-cut (b ∷ bs) line rest h =
    elim (cases_Bool (eqb b 10)) [
      | inl here ↦
          let e = some_pair_parts [] line bs rest (rw here at h) in
          rw (here, e.0, e.1) refl
      | inr away ↦
          let m = option_map_some (with_byte b) (cut_of 10 bs) (line, rest) (rw away at h) in
          let e = some_pair_parts (b ∷ m.0.0) line m.0.1 rest m.2 in
          rw (away, lines_of-cut bs m.0.0 m.0.1 m.1, e.0, e.1) refl
    ]

-- no byte behind the first is the one
cut_of-tail_none : (at b : ℕ) (bs : List ℕ) → cut_of at (b ∷ bs) ≡ None
    → (eqb b at ≡ false) × (cut_of at bs ≡ None)
unfolding cut_of
cut_of-tail_none at b bs h =
    elim (cases_Bool (eqb b at)) [
      | inl here ↦ absurd (none-some ([], bs) (sym (rw here at h)))
      | inr away ↦ (away, option_map_none (with_byte b) (cut_of at bs) (rw away at h))
    ]

-- the last line, whose end is missing
pub lines_of-last : (b : ℕ) (bs : List ℕ) → cut_of 10 (b ∷ bs) ≡ None
    → lines_of (b ∷ bs) ≡ (b ∷ bs) ∷ []
lines_of-last b [] h = rw (cut_of-tail_none 10 b [] h).0 refl
lines_of-last b (c ∷ cs) h =
    let t = cut_of-tail_none 10 b (c ∷ cs) h in
    rw t.0 (ap (onto_first b) (lines_of-last c cs t.1))

pub lines_of-whole : (text : List ℕ) → 0 < length text → cut_of 10 text ≡ None
    → lines_of text ≡ text ∷ []
lines_of-whole [] some h = absurd (omega arith)
lines_of-whole (b ∷ bs) some h = lines_of-last b bs h

-- ---- places

-- one byte that isn't the one goes in front
cut_behind : (b : ℕ) (bs : List ℕ) (k : ℕ)
    → option_map (with_byte b) (cond (ltb k (length bs)) (Some (take k bs, drop (k + 1) bs)) None)
    ≡ cond (ltb (1 + k) (suc (length bs))) (Some (take (1 + k) (b ∷ bs), drop (1 + k + 1) (b ∷ bs)))
    None
cut_behind b bs k =
    elim (cases_lt k (length bs)) [
      | inl inside ↦ rw (
        lt-ltb k (length bs) inside,
        lt-ltb (1 + k) (suc (length bs))
            (omega arith),
        one-add k,
        add-one k,
        add-one (suc k),
      ) refl
      | inr past ↦ rw (le-ltb k (length bs) past, le-ltb (1 + k) (suc (length bs)) (omega arith))
          refl
    ]

-- the cut is at the first place of the byte
pub cut_of_is : (at : ℕ) (xs : List ℕ) → cut_of at xs
    ≡ cond (ltb (position_or_len (λ b. eqb b at) xs) (length xs))
    (Some (
      take (position_or_len (λ b. eqb b at) xs) xs,
      drop
          (position_or_len (λ b. eqb b at) xs + 1) xs,
    )) None
unfolding cut_of
cut_of_is at [] = refl
cut_of_is at (b ∷ bs) =
    elim (cases_Bool (eqb b at)) [
      | inl here ↦ rw (here, lt-ltb 0 (suc (length bs)) (omega arith)) refl
      | inr away ↦ rw away (ap (option_map (with_byte b)) (cut_of_is at bs) ∙ cut_behind b bs
          (position_or_len (λ b. eqb b at) bs))
    ]

pub cut_of-place : (at : ℕ) (xs : List ℕ) (n : ℕ) → position (λ b. eqb b at) xs ≡ Some n
    → cut_of at xs ≡ Some (take n xs, drop (n + 1) xs)
cut_of-place at xs n h =
    let c = cond_some (ltb (position_or_len (λ b. eqb b at) xs) (length xs))
    (position_or_len (λ b. eqb b at) xs) n h in
    cut_of_is at xs ∙ rw (c.0, c.1) refl

pub cut_of-none : (at : ℕ) (xs : List ℕ) → position (λ b. eqb b at) xs ≡ None → cut_of at xs ≡ None
cut_of-none at xs h = cut_of_is at xs ∙ cond_none _ _ _ h

behind_byte : (at b : ℕ) (bs more rest front back : List ℕ) → bs ≡ more ++ (at ∷ rest)
    → b ∷ more ≡ front → rest ≡ back
    → b ∷ bs ≡ front ++ (at ∷ back)
behind_byte at b bs more rest front back whole e f = rw (sym e, sym f, whole) refl

-- the parts and the byte between them are the whole
pub cut_of-whole : (at : ℕ) (xs front back : List ℕ) → cut_of at xs ≡ Some (front, back)
    → xs ≡ front ++ (at ∷ back)
unfolding cut_of
cut_of-whole at [] front back h = absurd (none-some (front, back) h)
cut_of-whole at (b ∷ bs) front back h =
    elim (cases_Bool (eqb b at)) [
      | inl here ↦
          let e = some_pair_parts [] front bs back (rw here at h) in
          let first : b ≡ at = eqb-true b at here in
          rw (first, sym e.0, e.1) refl
      | inr away ↦
          let m = option_map_some (with_byte b) (cut_of at bs) (front, back) (rw away at h) in
          let e = some_pair_parts (b ∷ m.0.0) front m.0.1 back m.2 in
          behind_byte at b bs m.0.0 m.0.1 front back (cut_of-whole at bs m.0.0 m.0.1 m.1) e.0 e.1
    ]

pub cut_of-shorter : (at : ℕ) (xs front back : List ℕ) → cut_of at xs ≡ Some (front, back)
    → length back < length xs
cut_of-shorter at xs front back h =
    rw (cut_of-whole at xs front back h, length-append front (at ∷ back)) (omega arith)

-- the front has no such byte, and the byte stands behind it
pub cut_of-at : (at : ℕ) (front back : List ℕ) → AllByRecursion (λ byte. eqb byte at ≡ false) front
    → cut_of at (front ++ (at ∷ back)) ≡ Some (front, back)
unfolding cut_of
cut_of-at at [] back none = rw (eq-eqb at at refl) refl
cut_of-at at (byte ∷ front) back none = rw (none.0, cut_of-at at front back none.1) refl
