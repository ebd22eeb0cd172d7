-- Ranges of RAM that are stored and read.
use Rattle.std.proofs.Common.{◌≡◌, inl, inr, ℕ, ◌+◌, ◌≤◌, zero, suc, List, [], ◌∷◌, ◌++◌, length, take, drop, refl, sym, ◌∙◌, ap, arith}
use Rattle.std.proofs.lemmas.List.{append_assoc, drop-append-le, drop-drop, drop_at, length-append, length-drop, length-take-le, take-append-drop, take-append-le, take-take, take_at}
use Rattle.std.proofs.lemmas.Slice.{drop-append-drop}
use Rattle.line_ram.specs.Bytes.{bytes_at, ram_with_bytes}
use Rattle.line_ram.specs.Laws.{OthersStay, SizeStays, StoredIsRead, StoredInside}

pub length-stored : SizeStays
length-stored ram bytes address held =
    let front = take address ram in let rest = drop (address + length bytes) ram in
    length-append front (bytes ++ rest)
    ∙ omega (
      arith,
      length-append bytes rest,
      length-take-le address ram (omega arith),
      length-drop
          (address + length bytes) ram,
    )

pub bytes-stored_same : StoredIsRead
bytes-stored_same ram bytes address held =
    let rest = drop (address + length bytes) ram in
    ap (take (length bytes)) (drop_at (take address ram) (bytes ++ rest) address
    (length-take-le address ram (omega arith)))
    ∙ take_at bytes rest (length bytes) refl

-- a range before an address is one of the bytes before it
bytes-before : (ram more : List ℕ) (address other count : ℕ) → address ≤ length ram
    → other + count ≤ address
    → bytes_at (take address ram ++ more) other count ≡ take count (drop other (take address ram))
bytes-before ram more address other count within before =
    let long = length-take-le address ram within in
    ap (take count) (drop-append-le other (take address ram) more (omega arith))
    ∙ take-append-le count (drop other (take address ram)) more
    (omega (arith, length-drop other (take address ram)))

pub bytes-stored_apart : OthersStay
bytes-stored_apart ram bytes address other count held (inl before) =
    let front = take address ram in
    ap (λ l. bytes_at l other count)
    (sym (append_assoc front bytes (drop (address + length bytes) ram)))
    ∙ ap (take count) (drop-append-drop (address + length bytes) ram (front ++ bytes) other before
    (length-append front bytes ∙ omega (arith, length-take-le address ram (omega arith))))
bytes-stored_apart ram bytes address other count held (inr behind) =
    bytes-before ram (bytes ++ drop (address + length bytes) ram) address other count (omega arith)
    behind
    ∙ sym (bytes-before ram (drop address ram) address other count (omega arith) behind)
    ∙ ap (λ l. bytes_at l other count) (take-append-drop address ram)

-- what is taken of two lists joined, past the first
pub take-past : (ys zs : List ℕ) (n count : ℕ) → count ≡ n + length ys
    → take count (ys ++ zs) ≡ ys ++ take n zs
take-past [] zs n count is = ap (λ k. take k zs) {x = count} {y = n} (omega arith)
take-past (y ∷ ys) zs n zero is = absurd (omega arith)
take-past (y ∷ ys) zs n (suc count) is = ap (λ l. y ∷ l) (take-past ys zs n count (omega arith))

take-add : (m n : ℕ) (xs : List ℕ) → m ≤ length xs
    → take (m + n) xs ≡ take m xs ++ take n (drop m xs)
take-add m n xs within =
    ap (take (m + n)) (sym (take-append-drop m xs))
    ∙ take-past (take m xs) (drop m xs) n (m + n) (omega (arith, length-take-le m xs within))

pub stored-inside : StoredInside
stored-inside ram bytes address count place held within =
    let range = bytes_at ram address count in let tail = drop address ram in
    let long : length range ≡ count = length-take-le count tail
    (omega (arith, length-drop address ram)) in
    let end = address + place + length bytes in
    let inner : length (ram_with_bytes range place bytes) ≡ count = length-stored range bytes place
    (omega arith) ∙ long in
    let head : take place range ≡ take place tail = take-take place count tail (omega arith) in
    let back : drop (place + length bytes) range ++ drop (address + count) ram ≡ drop end ram =
    ap (λ l. drop (place + length bytes) range ++ l) (sym (drop-drop count address ram))
    ∙ sym (drop-append-le (place + length bytes) range (drop count tail) (omega arith))
    ∙ ap (drop (place + length bytes)) (take-append-drop count tail)
    ∙ drop-drop (place + length bytes) address ram ∙ ap (λ n. drop n ram)
    {x = address + (place + length bytes)} (omega arith) in
    let front = take address ram in let rest = drop (place + length bytes) range in let past =
    drop (address + count) ram in let behind = bytes ++ drop end ram in
    ap (λ n. front ++ (ram_with_bytes range place bytes ++ drop (address + n) ram)) inner
    ∙ ap (λ l. front ++ l) (
    append_assoc (take place range) (bytes ++ rest) past
    ∙ ap (λ l. take place range ++ l) (append_assoc bytes rest past ∙ ap (λ l. bytes ++ l) back)
    ∙ ap (λ l. l ++ behind) head)
    ∙ sym (append_assoc front (take place tail) behind)
    ∙ ap (λ l. l ++ behind) (sym (take-add address place ram (omega arith)))
