-- Columns: they are cut one after another, and together they are the whole journal.
use Rattle.std.proofs.Common.{◌≡◌, ℕ, zero, suc, ◌+◌, ◌-◌, ◌<◌, ◌≤◌, Bool, true, false, cond, List, [], ◌∷◌, ◌++◌, length, take, drop, refl, sym, ap, ◌∙◌, append-nil, arith}
use Rattle.std.specs.Prelude.{max, min}
use Rattle.std.specs.List.{flat_map, prefix_len}
use Rattle.std.proofs.lemmas.List.{drop_min, length-drop, nil_from_length, take-append-drop, take_min}
use Rattle.xom_base.specs.declared.entry.Entry.{Entry}
use Rattle.trace_picture.specs.Lanes.{column_length, column_size, columns_by, columns_from, columns_of, is_hash}

-- all the entries of columns, in their order
abbrev pub joined : List (List Entry) → List Entry
joined [] = []
joined (es ∷ columns) = es ++ joined columns

-- a column is at least as long as it has to be
pub long_enough : (size : ℕ) (es : List Entry) → 1 ≤ size → 1 ≤ column_length size es
long_enough size es some = omega (arith, some)

-- what is left behind a column is shorter
left_shorter : (k most : ℕ) (e : Entry) (es : List Entry) → 1 ≤ k → length (e ∷ es) ≤ suc most
    → length (drop k (e ∷ es)) ≤ most
left_shorter k most e es some long =
    let left : length (drop k (e ∷ es)) ≡ length (e ∷ es) - k = length-drop k (e ∷ es) in
    omega (arith, left, some, long)

pub joined-columns : (most size : ℕ) (es : List Entry) → 1 ≤ size → length es ≤ most
    → joined (columns_from most size es) ≡ es
joined-columns zero size es some long = sym (nil_from_length es (omega (arith, long)))
joined-columns (suc most) size [] some long = refl
joined-columns (suc most) size (e ∷ es) some long =
    let k = column_length size (e ∷ es) in
    ap (λ rest. take k (e ∷ es) ++ rest) (joined-columns most size (drop k (e ∷ es)) some
    (left_shorter k most e es (long_enough size (e ∷ es) some) long))
    ∙ take-append-drop k (e ∷ es)

-- how many columns are allowed doesn't matter, where they are enough
pub columns-most : (most other size : ℕ) (es : List Entry) → 1 ≤ size → length es ≤ most
    → length es ≤ other → columns_from most size es ≡ columns_from other size es
columns-most zero zero size es some long enough = refl
columns-most zero (suc other) size [] some long enough = refl
columns-most zero (suc other) size (e ∷ es) some long enough = absurd (omega (arith, long))
columns-most (suc most) zero size [] some long enough = refl
columns-most (suc most) zero size (e ∷ es) some long enough = absurd (omega (arith, enough))
columns-most (suc most) (suc other) size [] some long enough = refl
columns-most (suc most) (suc other) size (e ∷ es) some long enough =
    let k = column_length size (e ∷ es) in
    let least = long_enough size (e ∷ es) some in
    ap (λ rest. take k (e ∷ es) ∷ rest) (columns-most most other size (drop k (e ∷ es)) some
    (left_shorter k most e es least long) (left_shorter k other e es least enough))

-- the first column, and those of what is left
pub columns-first : (size : ℕ) (e : Entry) (es : List Entry) → 1 ≤ size
    → columns_by size (e ∷ es) ≡ take (column_length size (e ∷ es)) (e ∷ es)
    ∷ columns_by size (drop (column_length size (e ∷ es)) (e ∷ es))
columns-first size e es some =
    let k = column_length size (e ∷ es) in
    ap (λ rest. take k (e ∷ es) ∷ rest)
    (columns-most (length es) (length (drop k (e ∷ es))) size (drop k (e ∷ es)) some
    (left_shorter k (length es) e es (long_enough size (e ∷ es) some) (omega arith)) (omega arith))

-- the same of a list that isn't empty, where the column is cut at the end of the list
pub columns-next : (size k : ℕ) (es : List Entry) → 1 ≤ size → 0 < length es
    → k ≡ min (column_length size es) (length es)
    → columns_by size es ≡ take k es ∷ columns_by size (drop k es)
columns-next size k [] some long is = absurd (omega (arith, long))
columns-next size k (e ∷ es) some long is =
    let n = column_length size (e ∷ es) in
    columns-first size e es some
    ∙ ap (λ (c : List Entry). c ∷ columns_by size (drop n (e ∷ es)))
    (sym (take_min n (e ∷ es)) ∙ ap (λ m. take m (e ∷ es)) (sym is))
    ∙ ap (λ (c : List Entry). take k (e ∷ es) ∷ columns_by size c)
    (sym (drop_min n (e ∷ es)) ∙ ap (λ m. drop m (e ∷ es)) (sym is))
