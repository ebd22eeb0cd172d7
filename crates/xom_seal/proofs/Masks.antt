-- One text xor another, byte for byte.
use Rattle.std.proofs.Common.{◌≡◌, ℕ, zero, suc, ◌<◌, ◌≤◌, ◌+◌, List, [], ◌∷◌, ◌++◌, length, get_or, take, drop, set, ap, add-one, refl, sym, ◌∙◌, arith}
use Rattle.std.specs.Int.Bits.{bit_xor, xor_assoc, xor_self, xor_zero_r}
use Rattle.xom_seal.specs.Sealing.{xor_of_bytes}

-- a text whose first bytes are masked
abbrev pub masked_to : ℕ → List ℕ → List ℕ → List ℕ
masked_to i xs ys = xor_of_bytes (take i xs) ys ++ drop i xs

-- the byte behind those is as it was
get_or-masked_to : (xs ys : List ℕ) (i : ℕ) → i < length xs → i < length ys
    → get_or (masked_to i xs ys) i 0 ≡ get_or xs i 0
get_or-masked_to [] ys i below other = absurd (omega arith)
get_or-masked_to (x ∷ xs) [] i below other = absurd (omega arith)
get_or-masked_to (x ∷ xs) (y ∷ ys) zero below other = refl
get_or-masked_to (x ∷ xs) (y ∷ ys) (suc i) below other =
    get_or-masked_to xs ys i (omega arith) (omega arith)

-- it is masked too
set-masked_to : (xs ys : List ℕ) (i : ℕ) → i < length xs → i < length ys
    → set (masked_to i xs ys) i (bit_xor (get_or xs i 0) (get_or ys i 0)) ≡ masked_to (suc i) xs ys
set-masked_to [] ys i below other = absurd (omega arith)
set-masked_to (x ∷ xs) [] i below other = absurd (omega arith)
set-masked_to (x ∷ xs) (y ∷ ys) zero below other = refl
set-masked_to (x ∷ xs) (y ∷ ys) (suc i) below other =
    ap (λ rest. bit_xor x y ∷ rest) (set-masked_to xs ys i (omega arith) (omega arith))

-- a turn of the loop
pub masked_more : (xs ys zs : List ℕ) (i : ℕ) → i < length xs → i < length ys
    → zs ≡ masked_to i xs ys
    → set zs i (bit_xor (get_or zs i 0) (get_or ys i 0)) ≡ masked_to (i + 1) xs ys
masked_more xs ys zs i below other so_far =
    ap (λ now. set now i (bit_xor (get_or now i 0) (get_or ys i 0))) so_far
    ∙ ap (λ byte. set (masked_to i xs ys) i (bit_xor byte (get_or ys i 0)))
    (get_or-masked_to xs ys i below other)
    ∙ set-masked_to xs ys i below other
    ∙ ap (λ n. masked_to n xs ys) (sym (add-one i))

-- ---- What is masked twice

same_from_twice : (x y : ℕ) → bit_xor (bit_xor x y) y ≡ x
same_from_twice x y = xor_assoc x y y ∙ ap (λ n. bit_xor x n) (xor_self y) ∙ xor_zero_r x

-- masked twice by one pad, a text is what it was
pub xored_twice : (xs pad : List ℕ) → length xs ≤ length pad → xor_of_bytes (xor_of_bytes xs pad) pad ≡ xs
xored_twice [] pad within = refl
xored_twice (x ∷ xs) [] within = absurd (omega arith)
xored_twice (x ∷ xs) (y ∷ pad) within =
    ap (λ byte. byte ∷ xor_of_bytes (xor_of_bytes xs pad) pad) (same_from_twice x y) ∙ ap (λ rest. x ∷ rest)
    (xored_twice xs pad (omega arith))

-- a masked text has its length
pub length-xored : (xs pad : List ℕ) → length xs ≤ length pad → length (xor_of_bytes xs pad) ≡ length xs
length-xored [] pad within = refl
length-xored (x ∷ xs) [] within = absurd (omega arith)
length-xored (x ∷ xs) (y ∷ pad) within = ap suc (length-xored xs pad (omega arith))
