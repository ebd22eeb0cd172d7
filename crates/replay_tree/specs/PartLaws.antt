-- Parts of one size, one behind another: each is found at its place, and another can be stored
-- there.
use Rattle.std.proofs.Common.{◌≡◌, inl, inr, ℕ, ◌+◌, ◌*◌, ◌<◌, ◌≤◌, ◌==◌, zero, suc, true, false, if◌then◌else◌, List, ◌++◌, length, take, drop, refl, sym, ◌∙◌, ap, arith}
use Rattle.std.proofs.lemmas.Bool.Decides.{eqb_tells, nat_tests}
use Rattle.std.proofs.lemmas.List.{append_assoc, append-nil, drop-append-le, length-append, length-drop, take-append-le, take_all, take_at, drop_at, drop_all}
use Rattle.std.proofs.Math.Nat.{mul-le-mul_left}
use Rattle.line_ram.specs.Bytes.{bytes_at, ram_with_bytes}
use Rattle.replay_tree.specs.Tree.{parts_joined}

-- n parts of one size have n times that many bytes
pub length-joined : (part : ℕ → List ℕ) (size n : ℕ) → ((i : ℕ) → i < n → length (part i) ≡ size)
    → length (parts_joined part n) ≡ size * n
unfolding parts_joined
length-joined part size zero whole = omega arith
length-joined part size (suc n) whole =
    let before : length (parts_joined part n) ≡ size * n = length-joined part size n
    (λ i low. whole i (omega arith)) in
    let last : length (part n) ≡ size = whole n (omega arith) in
    length-append (parts_joined part n) (part n) ∙ grind arith

-- the same parts make the same bytes
pub joined-same : (part other : ℕ → List ℕ) (n : ℕ) → ((i : ℕ) → i < n → part i ≡ other i)
    → parts_joined part n ≡ parts_joined other n
unfolding parts_joined
joined-same part other zero same = refl
joined-same part other (suc n) same =
    ap (λ l. l ++ part n) (joined-same part other n (λ i low. same i (omega arith)))
    ∙ ap (λ l. parts_joined other n ++ l) (same n (omega arith))

-- ---- Ranges at the seam of two lists

-- a range inside the first list is found there
pub bytes-left : (xs ys : List ℕ) (address count : ℕ) → address + count ≤ length xs
    → bytes_at (xs ++ ys) address count ≡ bytes_at xs address count
bytes-left xs ys address count within =
    ap (take count) (drop-append-le address xs ys (omega arith))
    ∙ take-append-le count (drop address xs) ys (omega (arith, length-drop address xs))

-- the range behind the first list is the second
pub bytes-right : (xs ys : List ℕ) (address count : ℕ) → length xs ≡ address → length ys ≡ count
    → bytes_at (xs ++ ys) address count ≡ ys
bytes-right xs ys address count at long =
    ap (take count) (drop_at xs ys address at) ∙ take_all count ys (omega arith)

-- a store inside the first list leaves the second
pub stored-left : (xs ys bytes : List ℕ) (address : ℕ) → address + length bytes ≤ length xs
    → ram_with_bytes (xs ++ ys) address bytes ≡ ram_with_bytes xs address bytes ++ ys
stored-left xs ys bytes address within =
    let front = take address xs in let rest = drop (address + length bytes) xs in
    ap (λ l. l ++ (bytes ++ drop (address + length bytes) (xs ++ ys)))
    (take-append-le address xs ys (omega arith))
    ∙ ap (λ l. front ++ (bytes ++ l)) (drop-append-le (address + length bytes) xs ys within)
    ∙ ap (λ l. front ++ l) (sym (append_assoc bytes rest ys))
    ∙ sym (append_assoc front (bytes ++ rest) ys)

-- a store over the whole second list leaves the first
pub stored-right : (xs ys bytes : List ℕ) (address : ℕ) → length xs ≡ address
    → length bytes ≡ length ys → ram_with_bytes (xs ++ ys) address bytes ≡ xs ++ bytes
stored-right xs ys bytes address at long =
    ap (λ l. l ++ (bytes ++ drop (address + length bytes) (xs ++ ys))) (take_at xs ys address at)
    ∙ ap (λ l. xs ++ (bytes ++ l)) (drop_all (address + length bytes) (xs ++ ys)
    (omega (arith, length-append xs ys)))
    ∙ ap (λ l. xs ++ l) (append-nil bytes)

-- ---- The part of an index

-- part k of n ends inside them
pub part-fits : (size k n : ℕ) → k < n → size * k + size ≤ size * n
part-fits size k n low =
    let more : size * (k + 1) ≤ size * n = mul-le-mul_left size (omega arith) in omega arith

-- part k is found k sizes from the beginning
pub bytes-joined : (part : ℕ → List ℕ) (size n k : ℕ) → ((i : ℕ) → i < n → length (part i) ≡ size)
    → k < n → bytes_at (parts_joined part n) (size * k) size ≡ part k
unfolding parts_joined
bytes-joined part size zero k whole low = absurd (omega arith)
bytes-joined part size (suc n) k whole low =
    let before : length (parts_joined part n) ≡ size * n = length-joined part size n
    (λ i few. whole i (omega arith)) in
    elim (eqb_tells k n) [
      | inl is ↦ ap (λ at. bytes_at (parts_joined part n ++ part n) (size * at) size) is.1
          ∙ bytes-right (parts_joined part n) (part n) (size * n) size before (whole n (omega arith))
          ∙ ap part (sym is.1)
      | inr differs ↦
          let below : k < n = let other = differs.1 in grind arith in
          let fits : size * k + size ≤ size * n = part-fits size k n below in
          bytes-left (parts_joined part n) (part n) (size * k) size (omega arith) ∙ bytes-joined part size
          n k (λ i few. whole i (omega arith)) below
    ]

-- the test of two numbers that differ is false
pub apart : (i k : ℕ) → ¬ (i ≡ k) → (i == k) ≡ false
apart i k differs = grind (arith, nat_tests)

-- the test of two numbers that are the same is true
pub alike : (i k : ℕ) → i ≡ k → (i == k) ≡ true
alike i k is = grind (arith, nat_tests)

-- the parts with another one at an index
abbrev pub with_at : (ℕ → List ℕ) → ℕ → List ℕ → ℕ → List ℕ
with_at part k bytes i = if i == k then bytes else part i

-- a store over part k leaves the parts with that one replaced
pub stored-joined : (part : ℕ → List ℕ) (size n k : ℕ) (bytes : List ℕ)
    → ((i : ℕ) → i < n → length (part i) ≡ size) → k < n → length bytes ≡ size
    → ram_with_bytes (parts_joined part n) (size * k) bytes ≡ parts_joined (with_at part k bytes) n
unfolding parts_joined
stored-joined part size zero k bytes whole low long = absurd (omega arith)
stored-joined part size (suc n) k bytes whole low long =
    let before : length (parts_joined part n) ≡ size * n = length-joined part size n
    (λ i few. whole i (omega arith)) in
    let last : length (part n) ≡ size = whole n (omega arith) in
    let other = with_at part k bytes in
    elim (eqb_tells k n) [
      | inl is ↦
          let same : (i : ℕ) → i < n → part i ≡ other i =
          λ i few. sym (ap (λ b. if b then bytes else part i) (apart i k (omega arith))) in
          let here : other n ≡ bytes = ap (λ b. if b then bytes else part n)
          (alike n k (sym is.1)) in
          ap (λ at. ram_with_bytes (parts_joined part n ++ part n) (size * at) bytes) is.1
          ∙ stored-right (parts_joined part n) (part n) bytes (size * n) before (long ∙ sym last)
          ∙ ap (λ l. l ++ bytes) (joined-same part other n same)
          ∙ ap (λ l. parts_joined other n ++ l) (sym here)
      | inr differs ↦
          let below : k < n = let other = differs.1 in grind arith in
          let fits : size * k + size ≤ size * n = part-fits size k n below in
          let there : other n ≡ part n = ap (λ b. if b then bytes else part n)
          (apart n k (omega arith)) in
          stored-left (parts_joined part n) (part n) bytes (size * k) (omega arith)
          ∙ ap (λ l. l ++ part n) (stored-joined part size n k bytes
          (λ i few. whole i (omega arith)) below long)
          ∙ ap (λ l. parts_joined other n ++ l) (sym there)
    ]
