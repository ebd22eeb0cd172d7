-- The bytes of an image: those of each statement at its place, and zeros elsewhere.
use Rattle.std.proofs.Common.{◌≡◌, ℕ, ◌+◌, ◌-◌, ◌<◌, ◌≤◌, ◌&&◌, Bool, true, false, cond, leb, ltb, inl, inr, List, [], ◌∷◌, ◌++◌, length, get_or, max, None, refl, sym, ap, subst, ◌∙◌, arith}
use Rattle.std.specs.List.{All, list_any}
use Rattle.std.proofs.lemmas.Bool.{cases_lt, false_from_ne_true, or_left, or_right, true≢false}
use Rattle.std.proofs.lemmas.Bool.Decides.{nat_tests}
use Rattle.std.proofs.lemmas.List.{get_or_past}
use Rattle.std.proofs.lemmas.List.Elements.{All-cons, All-head, All-nil, All-tail, All-weaker}
use Rattle.std.proofs.lemmas.List.Folds.{list_any-append}
use Rattle.xom_base.specs.declared.image.PlainImage.{PlainImage}
use Rattle.asm_source.specs.declared.content.Part.{Part}
use Rattle.asm_syntax.specs.Lines.{source_of}
use Rattle.mips_asm.specs.Places.{Placed}
use Rattle.mips_asm.specs.Encoding.{StatementGives}
use Rattle.mips_asm.specs.Images.{IsWritten, PlacedBytes, byte_over, chunks_end, piece_covers}
use Rattle.mips_asm.specs.Laws.{AreBytesOf, BytesOfStatements, StandsAtItsPlace}
use Rattle.mips_asm.specs.Layout.{IsSized, covers, last_end, layout, place_after, statement_end}
use Rattle.mips_asm.specs.Passes.{Labels, first_fault, overlap_line, overlaps, statement_line}
use Rattle.mips_asm.specs.Sources.{IsPlacedImage, StatementsWrite, labels_of}
use Rattle.mips_asm.proofs.FaultLaws.{first_good, rest_good}
use Rattle.mips_asm.proofs.ImageLaws.{byte_over_nil, chunk_at}
use Rattle.mips_asm.proofs.LayoutLaws.{end_of-le, placed_at}
use Rattle.mips_asm.proofs.OneOutcome.{same_Ok}
use Rattle.mips_asm.proofs.OverlapLaws.{overlaps_true}
use Rattle.mips_asm.proofs.SizeLaws.{Gives-size}

-- ---- one statement

-- each statement of a layout has its size
pub layout-sized : (place : ℕ) (parts : List Part) → All IsSized (layout place parts)
unfolding layout
layout-sized place [] = All-nil IsSized
layout-sized place (part ∷ parts) =
    All-cons IsSized (placed_at place part) (layout (place_after place part.content) parts) refl
    (layout-sized (place_after place part.content) parts)

-- what a statement writes is as long as its size
own-size : (labels : Labels) (p : Placed) (own : List ℕ) → IsSized p
    → StatementGives labels p.place p.part.content own → length own ≡ p.size
own-size labels p own sized gives = Gives-size labels p.place p.part.content own gives ∙ sym sized

-- its bytes hold the places that it covers
holds-covers : (labels : Labels) (p : Placed) (own : List ℕ) (k : ℕ) → IsSized p
    → StatementGives labels p.place p.part.content own → piece_covers (chunk_at p.place own) k ≡ covers p k
holds-covers labels p own k sized gives =
    ap (λ (n : ℕ). leb p.place k && ltb k (p.place + n)) (own-size labels p own sized gives)

-- each of its bytes holds a place
holds_own : (place k : ℕ) (own : List ℕ) → k < length own
    → piece_covers (chunk_at place own) (place + k) ≡ true
holds_own place k own below = grind (arith, nat_tests)

-- its bytes stand before every end that is not before its own
before_end : (p : Placed) (k n end : ℕ) → n ≡ p.size → k < n → statement_end p ≤ end → p.place + k < end
before_end p k n end size below past = grind (arith, nat_tests)

-- ---- one statement after another

-- one more chunk
byte_over-cons : (byte : ℕ) (x : PlacedBytes) (xs : List PlacedBytes) (k : ℕ)
    → byte_over byte (x ∷ xs) k ≡ byte_over (cond (piece_covers x k) (get_or x.bytes (k - x.place) 0) byte)
    xs k
unfolding byte_over
byte_over-cons byte x xs k = refl

-- where no statement writes, what stood there before stays
untouched : (labels : Labels) (placed : List Placed) (chunks : List PlacedBytes) (byte k : ℕ)
    → All IsSized placed → StatementsWrite labels placed chunks
    → All (λ (p : Placed). covers p k ≡ false) placed → byte_over byte chunks k ≡ byte
untouched labels [] chunks byte k sized writes free =
    ap (λ (c : List PlacedBytes). byte_over byte c k) writes ∙ byte_over_nil byte k
untouched labels (p ∷ placed) chunks byte k sized writes free =
    ap (λ (c : List PlacedBytes). byte_over byte c k) writes.3
    ∙ byte_over-cons byte (chunk_at p.place writes.0) writes.1 k
    ∙ ap (λ (b : Bool). byte_over (cond b (get_or writes.0 (k - p.place) 0) byte) writes.1 k)
    (holds-covers labels p writes.0 k (All-head IsSized p placed sized) writes.2
    ∙ All-head (λ (q : Placed). covers q k ≡ false) p placed free)
    ∙ untouched labels placed writes.1 byte k (All-tail IsSized p placed sized) writes.4
    (All-tail (λ (q : Placed). covers q k ≡ false) p placed free)

-- a place that is covered lies between the first and the last
covers-from : (p : Placed) (k : ℕ) → covers p k ≡ true → p.place ≤ k
covers-from p k there = grind (arith, nat_tests)

covers-below : (p : Placed) (k : ℕ) → covers p k ≡ true → k < p.place + p.size
covers-below p k there = grind (arith, nat_tests)

-- one of these statements writes at this place
abbrev written_by : List Placed → ℕ → Bool
written_by placed k = list_any (λ (p : Placed). covers p k) placed

-- what was written stays so with one more statement
written-more : (before : List Placed) (p : Placed) (k : ℕ) → written_by before k ≡ true
    → written_by (before ++ p ∷ []) k ≡ true
written-more before p k there =
    list_any-append (λ (q : Placed). covers q k) before (p ∷ []) ∙ or_left (written_by before k)
    (written_by (p ∷ []) k) there

-- the last statement writes where it covers
written-last : (before : List Placed) (p : Placed) (k : ℕ) → covers p k ≡ true
    → written_by (before ++ p ∷ []) k ≡ true
written-last before p k there =
    list_any-append (λ (q : Placed). covers q k) before (p ∷ [])
    ∙ or_right (written_by before k) (written_by (p ∷ []) k) (or_left (covers p k) false there)

-- where nothing is written twice, no later statement writes where an earlier one does
later_free : (before placed : List Placed) (k : ℕ)
    → first_fault statement_line overlaps before placed ≡ None → written_by before k ≡ true
    → All (λ (p : Placed). covers p k ≡ false) placed
later_free before [] k apart there = All-nil (λ (p : Placed). covers p k ≡ false)
later_free before (p ∷ placed) k apart there =
    All-cons (λ (q : Placed). covers q k ≡ false) p placed
    (false_from_ne_true (covers p k) (λ here.
    true≢false (sym (overlaps_true before p k (covers-from p k here) (covers-below p k here) there)
    ∙ first_good statement_line overlaps before p placed apart)))
    (later_free (before ++ p ∷ []) placed k (rest_good statement_line overlaps before p placed apart)
    (written-more before p k there))

-- what a statement writes stands at its place once all is written, whatever stood there before
abbrev StandsOver : Labels → List PlacedBytes → Placed → Type 0
StandsOver labels chunks p =
    (own : List ℕ) × StatementGives labels p.place p.part.content own
    × ((k byte : ℕ) → k < length own → byte_over byte chunks (p.place + k) ≡ get_or own k 0)

-- the first statement's bytes stay where no later one writes
first_stands : (labels : Labels) (p : Placed) (placed : List Placed) (own : List ℕ)
    (rest : List PlacedBytes) (byte k : ℕ)
    → All IsSized placed → StatementsWrite labels placed rest
    → All (λ (q : Placed). covers q (p.place + k) ≡ false) placed → k < length own
    → byte_over byte (chunk_at p.place own ∷ rest) (p.place + k) ≡ get_or own k 0
first_stands labels p placed own rest byte k sized writes free below =
    let at : p.place + k - p.place ≡ k = omega arith in
    byte_over-cons byte (chunk_at p.place own) rest (p.place + k)
    ∙ ap (λ (b : Bool). byte_over (cond b (get_or own (p.place + k - p.place) 0) byte) rest
    (p.place + k)) (holds_own p.place k own below)
    ∙ untouched labels placed rest (get_or own (p.place + k - p.place) 0) (p.place + k) sized writes
    free
    ∙ ap (λ (n : ℕ). get_or own n 0) at

-- each statement's bytes stand at its place
all_stand : (labels : Labels) (before placed : List Placed) (chunks : List PlacedBytes)
    → first_fault statement_line overlaps before placed ≡ None → All IsSized placed
    → StatementsWrite labels placed chunks
    → All (StandsOver labels chunks) placed
all_stand labels before [] chunks apart sized writes = All-nil (StandsOver labels chunks)
all_stand labels before (p ∷ placed) chunks apart sized writes =
    let rest_apart = rest_good statement_line overlaps before p placed apart in
    let rest_sized = All-tail IsSized p placed sized in
    All-cons (StandsOver labels chunks) p placed (writes.0, writes.2, here rest_apart rest_sized)
    (All-weaker (StandsOver labels writes.1) (StandsOver labels chunks) later placed
    (all_stand labels (before ++ p ∷ []) placed writes.1 rest_apart rest_sized writes.4))
  where
    here : first_fault statement_line overlaps (before ++ p ∷ []) placed ≡ None → All IsSized placed
        → (k byte : ℕ) → k < length writes.0
        → byte_over byte chunks (p.place + k) ≡ get_or writes.0 k 0
    here rest_apart rest_sized k byte below =
        let there : covers p (p.place + k) ≡ true =
        sym (holds-covers labels p writes.0 (p.place + k) (All-head IsSized p placed sized)
        writes.2) ∙ holds_own p.place k writes.0 below in
        ap (λ (c : List PlacedBytes). byte_over byte c (p.place + k)) writes.3
        ∙ first_stands labels p placed writes.0 writes.1 byte k rest_sized writes.4
        (later_free (before ++ p ∷ []) placed (p.place + k) rest_apart
        (written-last before p (p.place + k) there)) below

    later : (q : Placed) → StandsOver labels writes.1 q → StandsOver labels chunks q
    later q stands = (
      stands.0,
      stands.1,
      λ k byte below.
          ap (λ (c : List PlacedBytes). byte_over byte c (q.place + k)) writes.3
          ∙ byte_over-cons byte (chunk_at p.place writes.0) writes.1 (q.place + k)
          ∙ stands.2 k (cond (piece_covers (chunk_at p.place writes.0) (q.place + k))
          (get_or writes.0 (q.place + k - p.place) 0) byte) below,
    )

-- the bytes end where the statements do
pub ends-same : (labels : Labels) (placed : List Placed) (chunks : List PlacedBytes)
    → All IsSized placed → StatementsWrite labels placed chunks → chunks_end chunks ≡ last_end placed
unfolding chunks_end last_end
ends-same labels [] chunks sized writes = ap chunks_end writes
ends-same labels (p ∷ placed) chunks sized writes =
    ap chunks_end writes.3
    ∙ ap (λ (n : ℕ). max (cond (ltb 0 n) (p.place + n) 0) (chunks_end writes.1))
    (own-size labels p writes.0 (All-head IsSized p placed sized) writes.2)
    ∙ ap (max (statement_end p)) (ends-same labels placed writes.1 (All-tail IsSized p placed sized)
    writes.4)

-- ---- images

-- bytes that are written statement by statement, of which no two meet
bytes_of_written : (placed : List Placed) (chunks : List PlacedBytes) (bytes : List ℕ)
    → overlap_line placed ≡ None → All IsSized placed → StatementsWrite (labels_of placed) placed chunks
    → IsWritten chunks bytes → AreBytesOf placed bytes
bytes_of_written placed chunks bytes apart sized writes is =
    record { whole = whole; written = written; gaps = gaps }
  where
    whole : length bytes ≡ last_end placed
    whole = is.whole ∙ ends-same (labels_of placed) placed chunks sized writes

    written : All (StandsAtItsPlace (labels_of placed) bytes) placed
    written i d within =
        let stands : StandsOver (labels_of placed) chunks (get_or placed i d) =
        all_stand (labels_of placed) [] placed chunks apart sized writes i d within in
        let size = own-size (labels_of placed) (get_or placed i d) stands.0 (sized i d within)
        stands.1 in
        let ends : statement_end (get_or placed i d) ≤ length bytes =
        subst (λ (n : ℕ). statement_end (get_or placed i d) ≤ n) (sym whole)
        (end_of-le placed i d within) in (
          stands.0,
          stands.1,
          λ k below.
              is.each ((get_or placed i d).place + k)
              (before_end (get_or placed i d) k (length stands.0) (length bytes) size below ends)
              ∙ stands.2 k 0 below,
        )

    gaps : (k : ℕ) → All (λ (p : Placed). covers p k ≡ false) placed → get_or bytes k 0 ≡ 0
    gaps k free = elim (cases_lt k (length bytes)) [
      | inl below ↦ is.each k below ∙ untouched (labels_of placed) placed chunks 0 k sized writes
          free
      | inr past ↦ get_or_past bytes k 0 past
    ]

-- the bytes of the image of labels and statements that follow one another
bytes_of_image : (parts : List Part) (image : PlainImage) → IsPlacedImage (layout 0 parts) image
    → AreBytesOf (layout 0 parts) image.bytes
bytes_of_image parts image is =
    bytes_of_written (layout 0 parts) is.chunks image.bytes is.no_overlap (layout-sized 0 parts)
    is.writes is.bytes

-- the bytes of a source's image
pub bytes_of_statements : BytesOfStatements
bytes_of_statements text parts image read is =
    let same : is.parts ≡ parts = same_Ok (source_of text) is.parts parts is.read read in
    bytes_of_image parts image (subst (λ (p : List Part). IsPlacedImage (layout 0 p) image) same
    is.placed)
