-- Places, one statement after another.
use Rattle.std.proofs.Common.{◌≡◌, ℕ, ◌+◌, ◌<◌, ◌≤◌, ◌&&◌, Bool, true, false, ltb, List, [], ◌∷◌, ◌++◌, length, get_or, take, drop, max, min, inl, inr, Option, Some, None, refl, sym, ap, subst, ◌∙◌, option_map, arith}
use Rattle.std.specs.Prelude.{find}
use Rattle.std.specs.List.{All}
use Rattle.std.specs.Option.{option_or}
use Rattle.std.proofs.lemmas.List.{drop_more, take-append-drop, take_more}
use Rattle.std.proofs.lemmas.List.Elements.{All-cons, All-get_or, All-head, All-nil, All-tail}
use Rattle.std.proofs.lemmas.List.Folds.{find-append}
use Rattle.std.proofs.lemmas.Bool.{cases_lt, lt-ltb, true≢false}
use Rattle.std.proofs.lemmas.Bool.Decides.{nat_tests}
use Rattle.asm_source.specs.declared.content.Part.{Part}
use Rattle.mips_asm.specs.Places.{Placed}
use Rattle.mips_asm.specs.Layout.{IsInsideImage, is_too_long, last_end, layout, limit, place_after, statement_end, statement_size}
use Rattle.mips_asm.specs.Passes.{statement_line, too_long_line}

-- ---- places

-- the next place behind labels and statements
abbrev pub place_behind : ℕ → List Part → ℕ
place_behind place [] = place
place_behind place (part ∷ parts) = place_behind (place_after place part.content) parts

-- a label or a statement at a place
abbrev pub placed_at : ℕ → Part → Placed
placed_at place part = record { place = place; size = statement_size place part.content; part = part }

layout-append : (place : ℕ) (xs ys : List Part)
    → layout place (xs ++ ys) ≡ layout place xs ++ layout (place_behind place xs) ys
unfolding layout
layout-append place [] ys = refl
layout-append place (x ∷ xs) ys =
    ap (λ (more : List Placed). placed_at place x ∷ more)
    (layout-append (place_after place x.content) xs ys)

layout-cons : (place : ℕ) (x : Part) (xs : List Part)
    → layout place (x ∷ xs) ≡ placed_at place x ∷ layout (place_after place x.content) xs
unfolding layout
layout-cons place x xs = refl

pub layout-none : (place : ℕ) → layout place [] ≡ []
unfolding layout
layout-none place = refl

pub place_behind-push : (place : ℕ) (xs : List Part) (x : Part)
    → place_behind place (xs ++ x ∷ []) ≡ place_after (place_behind place xs) x.content
place_behind-push place [] x = refl
place_behind-push place (y ∷ xs) x = place_behind-push (place_after place y.content) xs x

-- one more label or statement
pub layout-push : (place : ℕ) (xs : List Part) (x : Part)
    → layout place (xs ++ x ∷ []) ≡ layout place xs ++ placed_at (place_behind place xs) x ∷ []
layout-push place xs x =
    layout-append place xs (x ∷ [])
    ∙ ap (λ (more : List Placed). layout place xs ++ more)
    (layout-cons (place_behind place xs) x []
    ∙ ap (λ (more : List Placed). placed_at (place_behind place xs) x ∷ more)
    (layout-none (place_after (place_behind place xs) x.content)))

-- what is inside isn't too long
inside_fits : (x : Placed) → IsInsideImage x → is_too_long x ≡ false
inside_fits x inside = grind (arith, nat_tests)

pub none_too_long : (xs : List Placed) → All IsInsideImage xs → find is_too_long xs ≡ None
none_too_long [] all = refl
none_too_long (x ∷ xs) all =
    rw (inside_fits x (All-head IsInsideImage x xs all)) (none_too_long xs (All-tail IsInsideImage x xs all))

-- the next one is the first that is too long
pub too_long_next : (place : ℕ) (xs : List Part) (x : Part) (ys : List Part)
    → All IsInsideImage (layout place xs) → is_too_long (placed_at (place_behind place xs) x) ≡ true
    → too_long_line (layout place (xs ++ (x ∷ ys))) ≡ Some x.line
too_long_next place xs x ys inside long =
    let at = place_behind place xs in
    let whole : layout place (xs ++ (x ∷ ys)) ≡ layout place xs
    ++ (placed_at at x ∷ layout (place_after at x.content) ys) =
    layout-append place xs (x ∷ ys) ∙ ap (λ (more : List Placed). layout place xs ++ more)
    (layout-cons at x ys) in
    let here : find is_too_long (placed_at at x ∷ layout (place_after at x.content) ys)
    ≡ Some (placed_at at x) = rw long refl in
    let first : find is_too_long (layout place (xs ++ (x ∷ ys))) ≡ option_or
    (find is_too_long (layout place xs))
    (find is_too_long (placed_at at x ∷ layout (place_after at x.content) ys)) =
    ap (find is_too_long) whole ∙ find-append is_too_long (layout place xs)
    (placed_at at x ∷ layout (place_after at x.content) ys) in
    ap (λ (found : Option Placed). option_map statement_line found)
    (first ∙ ap (λ (found : Option Placed). option_or found
    (find is_too_long (placed_at at x ∷ layout (place_after at x.content) ys)))
    (none_too_long (layout place xs) inside) ∙ here)

-- ---- ends

-- one more statement's end
last_end-push : (xs : List Placed) (x : Placed)
    → last_end (xs ++ x ∷ []) ≡ max (last_end xs) (statement_end x)
unfolding last_end
last_end-push [] x = grind arith
last_end-push (y ∷ xs) x = rw (last_end-push xs x) (grind arith)

pub last_end_more : (xs : List Placed) (i : ℕ) (d : Placed) → i < length xs
    → last_end (take (i + 1) xs) ≡ max (last_end (take i xs)) (statement_end (get_or xs i d))
last_end_more xs i d within =
    ap last_end (take_more xs i d within) ∙ last_end-push (take i xs) (get_or xs i d)

pub last_end_none : last_end [] ≡ 0
unfolding last_end
last_end_none = refl

-- no statement ends behind the last end
All-ends : (xs : List Placed) (bound : ℕ) → last_end xs ≤ bound
    → All (λ (x : Placed). statement_end x ≤ bound) xs
unfolding last_end
All-ends [] bound below = All-nil (λ (x : Placed). statement_end x ≤ bound)
All-ends (x ∷ xs) bound below =
    All-cons (λ (x : Placed). statement_end x ≤ bound) x xs (grind arith) (All-ends xs bound (grind arith))

pub end_of-le : (xs : List Placed) (i : ℕ) (d : Placed) → i < length xs
    → statement_end (get_or xs i d) ≤ last_end xs
end_of-le xs i d within =
    All-get_or (λ (x : Placed). statement_end x ≤ last_end xs) xs i d within
    (All-ends xs (last_end xs) (omega arith))

-- ---- the next of a list, in a loop

pub layout_more : (xs : List Part) (i : ℕ) (d : Part) → i < length xs
    → layout 0 (take (i + 1) xs) ≡ layout 0 (take i xs) ++ placed_at (place_behind 0 (take i xs))
    (get_or xs i d) ∷ []
layout_more xs i d within =
    ap (layout 0) (take_more xs i d within) ∙ layout-push 0 (take i xs) (get_or xs i d)

pub place_more : (xs : List Part) (i : ℕ) (d : Part) → i < length xs
    → place_behind 0 (take (i + 1) xs) ≡ place_after (place_behind 0 (take i xs)) (get_or xs i d).content
place_more xs i d within =
    ap (place_behind 0) (take_more xs i d within) ∙ place_behind-push 0 (take i xs) (get_or xs i d)

pub too_long_at : (xs : List Part) (i : ℕ) (d : Part) → i < length xs
    → All IsInsideImage (layout 0 (take i xs))
    → is_too_long (placed_at (place_behind 0 (take i xs)) (get_or xs i d)) ≡ true
    → too_long_line (layout 0 xs) ≡ Some (get_or xs i d).line
too_long_at xs i d within inside long =
    ap (λ (parts : List Part). too_long_line (layout 0 parts)) (sym (take-append-drop i xs)
    ∙ ap (λ (rest : List Part). take i xs ++ rest) (drop_more xs i d within))
    ∙ too_long_next 0 (take i xs) (get_or xs i d) (drop (i + 1) xs) inside long

pub too_long_none : (placed : List Placed) → All IsInsideImage placed → too_long_line placed ≡ None
too_long_none placed inside =
    ap (λ (found : Option Placed). option_map statement_line found) (none_too_long placed inside)

pub fits_end : (xs : List Placed) (i : ℕ) (x : Placed) → i < length xs → x ≡ get_or xs i x
    → 0 < x.size → x.place + x.size ≤ last_end xs
fits_end xs i x within is some =
    let le : statement_end (get_or xs i x) ≤ last_end xs = end_of-le xs i x within in
    let here : statement_end x ≤ last_end xs = subst (λ (p : Placed). statement_end p ≤ last_end xs) (sym is)
    le in
    rw (lt-ltb 0 x.size some) at here

-- ---- one turn of the loop

-- a size, or the largest number below it
abbrev capped : ℕ → ℕ
capped n = min n 18446744073709551615

abbrev pub past : ℕ → ℕ → Bool
past place size = ltb 0 size && ltb limit (place + size)

both_true : (a b : Bool) → a ≡ true → b ≡ true → (a && b) ≡ true
both_true true b p q = q
both_true false b p q = absurd (true≢false (sym p))

large_is_past : (place n : ℕ) → 18446744073709551615 ≤ n → past place n ≡ true
large_is_past place n big =
    both_true (ltb 0 n) (ltb limit (place + n)) (lt-ltb 0 n (omega arith))
    (lt-ltb limit (place + n) (omega arith))

-- what is past the limit with the capped size is too long
pub past_long : (place real size : ℕ) → size ≡ capped real → past place size ≡ true
    → past place real ≡ true
past_long place real size is long = elim (cases_lt real 18446744073709551615) [
  | inl small ↦ let same : size ≡ real = omega arith in rw same at long
  | inr big ↦ large_is_past place real big
]

-- what isn't has that size
pub short_size : (place real size : ℕ) → size ≡ capped real → past place size ≡ false → size ≡ real
short_size place real size is short = elim (cases_lt real 18446744073709551615) [
  | inl small ↦ omega arith
  | inr big ↦ let most : size ≡ 18446744073709551615 = omega arith in
      absurd (true≢false (sym (large_is_past place size (omega arith)) ∙ short))
]

-- and is inside
pub short_inside : (place size : ℕ) → past place size ≡ false → 0 < size → place + size ≤ limit
short_inside place size short some = elim (cases_lt limit (place + size)) [
  | inl over ↦ absurd (true≢false
      (sym (both_true (ltb 0 size) (ltb limit (place + size)) (lt-ltb 0 size some)
      (lt-ltb limit (place + size) over)) ∙ short))
  | inr fits ↦ fits
]

pub layout_step : (xs : List Part) (n m : ℕ) (x : Part) (placed : List Placed) (place size : ℕ)
    → m ≡ n + 1 → n < length xs → x ≡ get_or xs n x
    → placed ≡ layout 0 (take n xs) → place ≡ place_behind 0 (take n xs)
    → size ≡ statement_size place x.content
    → placed ++ record { place = place; size = size; part = x } ∷ [] ≡ layout 0 (take m xs)
layout_step xs n m x placed place size em within is a b s =
    let one : ◌≡◌ {A = Placed} record { place = place; size = size; part = x }
    (placed_at (place_behind 0 (take n xs)) (get_or xs n x)) =
    ap (λ (k : ℕ). let p : Placed = record { place = place; size = k; part = x } in p) s
    ∙ ap (λ (p : ℕ). placed_at p x) b ∙ ap (placed_at (place_behind 0 (take n xs))) is in
    ap (λ (front : List Placed). front ++ record { place = place; size = size; part = x } ∷ []) a
    ∙ ap (λ (p : Placed). layout 0 (take n xs) ++ p ∷ []) one
    ∙ sym (layout_more xs n x within) ∙ ap (λ (k : ℕ). layout 0 (take k xs)) (sym em)

pub place_step : (xs : List Part) (n m : ℕ) (x : Part) (place : ℕ) → m ≡ n + 1 → n < length xs
    → x ≡ get_or xs n x → place ≡ place_behind 0 (take n xs)
    → place_after place x.content ≡ place_behind 0 (take m xs)
place_step xs n m x place em within is b =
    ap (λ (p : ℕ). place_after p x.content) b
    ∙ ap (λ (y : Part). place_after (place_behind 0 (take n xs)) y.content) is
    ∙ sym (place_more xs n x within) ∙ ap (λ (k : ℕ). place_behind 0 (take k xs)) (sym em)

-- the next part is too long
pub too_long_step : (xs : List Part) (n : ℕ) (x : Part) (place : ℕ) → n < length xs
    → x ≡ get_or xs n x → place ≡ place_behind 0 (take n xs) → All IsInsideImage (layout 0 (take n xs))
    → past place (statement_size place x.content) ≡ true → too_long_line (layout 0 xs) ≡ Some x.line
too_long_step xs n x place within is b inside long =
    let there : is_too_long (placed_at (place_behind 0 (take n xs)) (get_or xs n x)) ≡ true =
    sym (ap (λ (p : ℕ). is_too_long (placed_at p x)) b
    ∙ ap (λ (y : Part). is_too_long (placed_at (place_behind 0 (take n xs)) y)) is) ∙ long in
    too_long_at xs n x within inside there ∙ ap (λ (y : Part). Some y.line) (sym is)
