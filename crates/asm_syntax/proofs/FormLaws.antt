-- What each of the elements gives, element by element.
use Rattle.std.proofs.Common.{◌≡◌, ℕ, suc, ◌+◌, ◌<◌, List, [], ◌∷◌, ◌++◌, length, get_or, take, drop, Option, Some, None, refl, sym, ap, ◌∙◌, append_assoc, append-nil}
use Rattle.std.specs.Prelude.{option_and_then}
use Rattle.std.proofs.lemmas.List.{take_more, take-append-drop}
use Rattle.std.proofs.Math.Seq.{drop-cons}
use Rattle.std.proofs.lemmas.Option.{option_and_then_some as steps, same_Some}
use Rattle.text_lines.specs.declared.lines.LineFault.{LineFault}
use Rattle.text_lines.specs.declared.lines.LineFault.TheVariants.{Bad, NoMemory}
use Rattle.asm_syntax.specs.Forms.{FormRefuses, in_front, map_some}

-- nothing comes of what always gives nothing
pub none_then : {X Y : Type 0} (f : X → Option Y) → ((x : X) → f x ≡ None) → (o : Option X)
    → option_and_then f o ≡ None
none_then f never None = refl
none_then f never (Some x) = never x

module _ {X Y : Type 0} (f : X → Option Y) where
  -- one more element at the end
  pub map_some-push : (xs : List X) (x : X) (ys : List Y) (y : Y) → map_some f xs ≡ Some ys
      → f x ≡ Some y → map_some f (xs ++ x ∷ []) ≡ Some (ys ++ y ∷ [])
  map_some-push [] x ys y read one =
      rw one (ap (λ (front : List Y). Some (front ++ y ∷ [])) (same_Some [] ys read))
  map_some-push (z ∷ zs) x ys y read one =
      steps _ (f z) ys read (λ a first read.
      steps _ (map_some f zs) ys read (λ more rest same.
      rw (first, map_some-push zs x more y rest one)
      (ap (λ (front : List Y). Some (front ++ y ∷ [])) (same_Some (a ∷ more) ys same))))

  -- an element that gives nothing
  pub map_some-none : (xs : List X) (x : X) (rest : List X) → f x ≡ None
      → map_some f (xs ++ (x ∷ rest)) ≡ None
  map_some-none [] x rest none = rw none refl
  map_some-none (z ∷ zs) x rest none =
      rw (map_some-none zs x rest none)
      (none_then (λ (y : Y). option_and_then (λ (ys : List Y). Some (y ∷ ys)) None) (λ y. refl)
      (f z))

  -- the next element of a list, in a loop
  pub map_some_more : (xs : List X) (i : ℕ) (d : X) (ys : List Y) (y : Y) → i < length xs
      → map_some f (take i xs) ≡ Some ys → f (get_or xs i d) ≡ Some y
      → map_some f (take (i + 1) xs) ≡ Some (ys ++ y ∷ [])
  map_some_more xs i d ys y within read one =
      ap (map_some f) (take_more xs i d within) ∙ map_some-push (take i xs) (get_or xs i d) ys y
      read one

  -- an element of a list that gives nothing
  pub map_some_stops : (xs : List X) (i : ℕ) (d : X) → i < length xs → f (get_or xs i d) ≡ None
      → map_some f xs ≡ None
  map_some_stops xs i d within none =
      ap (map_some f) (sym (take-append-drop i xs) ∙ ap (λ (rest : List X). take i xs ++ rest)
      (drop-cons xs i d within))
      ∙ map_some-none (take i xs) (get_or xs i d) (drop (suc i) xs) none

-- ---- what is read one by one, in front of what follows

module _ {A : Type 0} where
  -- one more is read
  pub in_front_one : (before : List A) (x : A) (rest : Option (List A))
      → in_front before (in_front (x ∷ []) rest) ≡ in_front (before ++ x ∷ []) rest
  in_front_one before x None = refl
  in_front_one before x (Some more) = ap (λ (all : List A). Some all) (sym (append_assoc before (x ∷ []) more))

  -- nothing is read yet
  pub in_front_none : (rest : Option (List A)) → in_front [] rest ≡ rest
  in_front_none None = refl
  in_front_none (Some more) = refl

  -- nothing follows
  pub in_front_nil : (before : List A) → in_front before (Some []) ≡ Some before
  in_front_nil before = ap (λ (all : List A). Some all) (append-nil before)

  -- what follows is refused, so the whole is
  pub in_front_refused : (before : List A) (rest : Option (List A)) (fault : LineFault)
      → FormRefuses rest fault → FormRefuses (in_front before rest) fault
  in_front_refused before rest Bad refused = ap (in_front before) refused
  in_front_refused before rest NoMemory refused = tt
