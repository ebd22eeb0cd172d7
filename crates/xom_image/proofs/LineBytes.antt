-- The bytes of lines, joined, are cut into the same lines again.
use Rattle.std.proofs.Common.{◌≡◌, ℕ, zero, suc, ◌+◌, ◌*◌, ◌<◌, ◌≤◌, List, [], ◌∷◌, ◌++◌, Some, length, get_or, take, drop, map, refl, sym, ◌∙◌, ap, arith, add-one, append_assoc, length-append, length-drop}
use Rattle.std.specs.Prelude.{slice_get}
use Rattle.std.specs.List.{flat_map, range_with_len}
use Rattle.std.proofs.Math.Seq.{take-add, drop-drop, drop-cons, drop-nil, take_all, take_at, drop_at, drop-append-add, length-take-le}
use Rattle.std.proofs.lemmas.List.{append-nil}
use Rattle.std.proofs.lemmas.List.Concat.{flat_map-append}
use Rattle.std.proofs.lemmas.List.FromFn.{get_or-map-range_with_len, length-map-range_with_len, map-range_with_len_more, fill_by_all}
use Rattle.std.proofs.lemmas.Option.{slice_get-get_or, slice_get_within, get_or_from_slice_get}
use Rattle.xom_seal.specs.declared.line.SealedLine.{SealedLine}
use Rattle.xom_seal.proofs.WholeLines.{AreWhole, get-made}
use Rattle.xom_image.specs.SealedFiles.{line_bytes, lines_at, sealed_line_at}

-- ---- From bytes to lines

-- a line is 64 bytes
line_at-bytes : (file : List ℕ) (place : ℕ)
    → line_bytes (sealed_line_at file place) ≡ take 64 (drop place file)
line_at-bytes file place =
    ap (λ rest. take 32 (drop place file) ++ take 32 rest) (sym (drop-drop 32 place file))
    ∙ sym (take-add 32 32 (drop place file))

-- one more line
pub lines_at_more : (file : List ℕ) (n : ℕ)
    → lines_at file (n + 1) ≡ lines_at file n ++ sealed_line_at file (96 + 64 * n) ∷ []
lines_at_more file n = map-range_with_len_more (λ i. sealed_line_at file (96 + 64 * i)) 0 n n (omega arith)

pub length-lines_at : (file : List ℕ) (n : ℕ) → length (lines_at file n) ≡ n
length-lines_at file n = length-map-range_with_len (λ i. sealed_line_at file (96 + 64 * i)) 0 n

-- the lines of a file that has the bytes for them are whole
pub lines_at-whole : (file : List ℕ) (n : ℕ) → 96 + 64 * n ≤ length file
    → AreWhole (lines_at file n)
lines_at-whole file n there i line is =
    let (below, same) = get-made (λ k. sealed_line_at file (96 + 64 * k)) n i line is in
    let ct : length (sealed_line_at file (96 + 64 * i)).ct ≡ 32 =
    length-take-le 32 (drop (96 + 64 * i) file) (simp length-drop (omega arith)) in
    let tag : length (sealed_line_at file (96 + 64 * i)).tag ≡ 32 =
    length-take-le 32 (drop (96 + 64 * i + 32) file) (simp length-drop (omega arith)) in (
      ap (λ (l : SealedLine). length l.ct) same ∙ ct,
      ap (λ (l : SealedLine). length l.tag) same
          ∙ tag,
    )

one_line : (line : SealedLine) (rest : List ℕ) → line_bytes line ≡ rest
    → flat_map line_bytes (line ∷ []) ≡ rest
one_line line rest is = append-nil (line_bytes line) ∙ is

-- the lines of a file are its bytes from 96 on
lines_at-bytes : (file : List ℕ) (n : ℕ)
    → flat_map line_bytes (lines_at file n) ≡ take (64 * n) (drop 96 file)
lines_at-bytes file zero = refl
lines_at-bytes file (suc n) =
    ap (λ k. flat_map line_bytes (lines_at file k)) (sym (add-one n))
    ∙ ap (λ lines. flat_map line_bytes lines) (lines_at_more file n)
    ∙ flat_map-append line_bytes (lines_at file n) (sealed_line_at file (96 + 64 * n) ∷ [])
    ∙ ap (λ front. front ++ flat_map line_bytes (sealed_line_at file (96 + 64 * n) ∷ []))
    (lines_at-bytes file n)
    ∙ ap (λ line. take (64 * n) (drop 96 file) ++ line) (one_line (sealed_line_at file (96 + 64 * n))
    _ (line_at-bytes file (96 + 64 * n)))
    ∙ ap (λ rest. take (64 * n) (drop 96 file) ++ take 64 rest) (sym (drop-drop (64 * n) 96 file))
    ∙ sym (take-add (64 * n) 64 (drop 96 file))
    ∙ ap (λ k. take k (drop 96 file)) (let same : 64 * n + 64 ≡ 64 * suc n = omega arith in same)

-- where the file ends with them, they are all that is left
pub lines_at-all : (file : List ℕ) (n : ℕ) → length file ≡ 96 + 64 * n
    → flat_map line_bytes (lines_at file n) ≡ drop 96 file
lines_at-all file n size =
    lines_at-bytes file n ∙ take_all (64 * n) (drop 96 file) (simp length-drop (omega arith))

-- ---- From lines to bytes

rest_whole : (line : SealedLine) (lines : List SealedLine) → AreWhole (line ∷ lines)
    → AreWhole lines
rest_whole line lines whole = λ i other is. whole (suc i) other is

first_whole : (line : SealedLine) (lines : List SealedLine) → AreWhole (line ∷ lines)
    → (length line.ct ≡ 32) × (length line.tag ≡ 32)
first_whole line lines whole = whole 0 line refl

line_bytes-length : (line : SealedLine) → (length line.ct ≡ 32) × (length line.tag ≡ 32)
    → length (line_bytes line) ≡ 64
line_bytes-length line (ct, tag) = simp length-append (omega arith)

-- lines have 64 bytes each
pub lines-length : (lines : List SealedLine) → AreWhole lines
    → length (flat_map line_bytes lines) ≡ 64 * length lines
lines-length [] whole = refl
lines-length (line ∷ lines) whole =
    let rest : length (flat_map line_bytes lines) ≡ 64 * length lines =
    lines-length lines (rest_whole line lines whole) in
    let first : length (line_bytes line) ≡ 64 = line_bytes-length line
    (first_whole line lines whole) in
    length-append (line_bytes line) (flat_map line_bytes lines) ∙ (omega arith)

-- the bytes from a line on are those of the lines from it on
lines-drop : (lines : List SealedLine) (k : ℕ) → AreWhole lines
    → drop (64 * k) (flat_map line_bytes lines) ≡ flat_map line_bytes (drop k lines)
lines-drop lines zero whole = refl
lines-drop [] (suc k) whole = drop-nil (64 * suc k)
lines-drop (line ∷ lines) (suc k) whole =
    let first : length (line_bytes line) ≡ 64 = line_bytes-length line
    (first_whole line lines whole) in
    let same : 64 * suc k ≡ length (line_bytes line) + 64 * k = omega arith in
    ap (λ n. drop n (line_bytes line ++ flat_map line_bytes lines)) same
    ∙ drop-append-add (line_bytes line) (flat_map line_bytes lines) (64 * k)
    ∙ lines-drop lines k (rest_whole line lines whole)

-- any line, to look up with
no_line : SealedLine
no_line = record { ct = []; tag = [] }

-- the line at the front of the bytes of a line and more
front_line : (line : SealedLine) (rest : List ℕ) → (length line.ct ≡ 32) × (length line.tag ≡ 32)
    → sealed_line_at (line_bytes line ++ rest) 0 ≡ line
front_line line rest (ct, tag) =
    let joined : line_bytes line ++ rest ≡ line.ct ++ (line.tag ++ rest) =
    append_assoc line.ct line.tag rest in
    let first : take 32 (line_bytes line ++ rest) ≡ line.ct = ap (take 32) joined ∙ take_at line.ct
    (line.tag ++ rest) 32 ct in
    let second : take 32 (drop 32 (line_bytes line ++ rest)) ≡ line.tag =
    ap (λ bytes. take 32 (drop 32 bytes)) joined
    ∙ ap (take 32) (drop_at line.ct (line.tag ++ rest) 32 ct) ∙ take_at line.tag rest 32 tag in
    λ i. record { ct = first i; tag = second i }

-- a line of a file is at the front of what is left there
line_at-front : (file : List ℕ) (place : ℕ) → sealed_line_at file place ≡ sealed_line_at (drop place file) 0
line_at-front file place =
    ap (λ rest. record { ct = take 32 (drop place file); tag = take 32 rest })
    (sym (drop-drop 32 place file))

-- the line at a place among the bytes of lines
line_at-lines : (before : List ℕ) (lines : List SealedLine) (k : ℕ) → length before ≡ 96
    → AreWhole lines → k < length lines
    → get_or lines k no_line ≡ sealed_line_at (before ++ flat_map line_bytes lines) (96 + 64 * k)
line_at-lines before lines k size whole below =
    let file = before ++ flat_map line_bytes lines in
    let line = get_or lines k no_line in
    let place : 96 + 64 * k ≡ length before + 64 * k = omega arith in
    let left : drop (96 + 64 * k) file ≡ line_bytes line ++ flat_map line_bytes
    (drop (suc k) lines) =
    ap (λ n. drop n file) place
    ∙ drop-append-add before (flat_map line_bytes lines) (64 * k)
    ∙ lines-drop lines k whole
    ∙ ap (λ rest. flat_map line_bytes rest) (drop-cons lines k no_line below)
    in
    sym (line_at-front file (96 + 64 * k) ∙ ap (λ rest. sealed_line_at rest 0) left ∙ front_line line
    (flat_map line_bytes (drop (suc k) lines))
    (whole k line (slice_get-get_or lines k no_line below)))

-- lines are cut from their bytes
pub lines_at-lines : (before : List ℕ) (lines : List SealedLine) → length before ≡ 96
    → AreWhole lines
    → lines_at (before ++ flat_map line_bytes lines) (length lines) ≡ lines
lines_at-lines before lines size whole =
    sym (fill_by_all (λ i. sealed_line_at (before ++ flat_map line_bytes lines) (96 + 64 * i)) lines
    (length lines) no_line refl (λ k below. line_at-lines before lines k size whole below))
