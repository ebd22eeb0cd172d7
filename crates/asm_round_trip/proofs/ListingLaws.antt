-- The texts of the words of a listing are a source of the image that was listed.
use Rattle.std.proofs.Common.{◌≡◌, ℕ, zero, suc, ◌+◌, ◌-◌, ◌*◌, ◌/◌, ◌%◌, ◌^◌, ◌<◌, ◌≤◌, List, [], ◌∷◌, ◌++◌, length, get_or, inl, inr, Option, Some, None, Ok, refl, sym, ap, subst, ◌∙◌, add-one, add-zero, append_assoc, arith, option_map}
use Rattle.std.specs.Prelude.{replicate, slice_index}
use Rattle.std.specs.Int.{w32, to_be_bytes}
use Rattle.std.specs.List.{All}
use Rattle.std.proofs.lemmas.Bool.{cases_lt}
use Rattle.std.proofs.lemmas.List.{append-nil, get_or-append_right, get_or-replicate, get_or_append_left, get_or_past, length-append, length-replicate}
use Rattle.std.proofs.lemmas.List.Elements.{All-get_or}
use Rattle.std.proofs.lemmas.Nat.{be_bytes_4}
use Rattle.xom_base.specs.declared.image.PlainImage.{PlainImage}
use Rattle.text_lines.specs.Lines.{lines_of, read_from}
use Rattle.mips_text.specs.Texts.{image_word_at, word_text}
use Rattle.asm_source.specs.declared.content.Content.{Content}
use Rattle.asm_source.specs.declared.content.Part.{Part}
use Rattle.asm_syntax.specs.Lines.{line_parts, part_of_line, source_of, source_step, state_behind}
use Rattle.mips_asm.specs.Places.{Placed}
use Rattle.mips_asm.specs.Layout.{layout, padding, place_after}
use Rattle.mips_asm.specs.Passes.{duplicate_line, first_fault, repeats, statement_line}
use Rattle.mips_asm.specs.Sources.{IsPlacedImage, entry_by, labels_of}
use Rattle.mips_asm.proofs.ImageLaws.{chunk_at}
use Rattle.mips_asm.proofs.LabelLaws.{repeats_none}
use Rattle.mips_asm.proofs.LayoutLaws.{layout-none, layout-push, place_behind, place_behind-push, placed_at}
use Rattle.asm_round_trip.specs.Listed.{ListingsAreAssembledAgain, WordsAreReadAgain, texts_of, whole_words}
use Rattle.asm_round_trip.proofs.Growing.{fault-more, lines-front, read-next}
use Rattle.asm_round_trip.proofs.LineEnds.{OneLine, no_line_end}
use Rattle.asm_round_trip.proofs.NoNames.{IsFixed, gives_no_names, no_labels}
use Rattle.asm_round_trip.proofs.Standing.{Stand, stand-more, stand-none}
use Rattle.mips_asm.specs.Images.{PlacedBytes}

-- ---- words

-- the bytes of the word at an address; what is behind the end counts as zero
abbrev four : List ℕ → ℕ → List ℕ
four bytes p =
    slice_index bytes p ∷ slice_index bytes (p + 1) ∷ slice_index bytes (p + 2) ∷ slice_index bytes
    (p + 3) ∷ []

-- each element is a byte, and so is what counts behind the end
byte-below : (bytes : List ℕ) → All (λ byte. byte < 2 ^ 8) bytes → (i : ℕ) → get_or bytes i 0 < 256
byte-below bytes small i = elim (cases_lt i (length bytes)) [
  | inl within ↦ All-get_or (λ (byte : ℕ). byte < 2 ^ 8) bytes i 0 within small
  | inr past ↦ rw (get_or_past bytes i 0 past) (omega arith)
]

-- so the four are bytes
four-below : (bytes : List ℕ) (p : ℕ) → ((i : ℕ) → get_or bytes i 0 < 256) → (i : ℕ)
    → get_or (four bytes p) i 0 < 256
four-below bytes p small zero = small p
four-below bytes p small (suc zero) = small (p + 1)
four-below bytes p small (suc (suc zero)) = small (p + 2)
four-below bytes p small (suc (suc (suc zero))) = small (p + 3)
four-below bytes p small (suc (suc (suc (suc i)))) = omega arith

-- and stand in the list
four-at : (bytes : List ℕ) (p k : ℕ) → k < 4 → get_or (four bytes p) k 0 ≡ get_or bytes (p + k) 0
four-at bytes p zero below = ap (λ (n : ℕ). get_or bytes n 0) (sym (add-zero p))
four-at bytes p (suc zero) below = refl
four-at bytes p (suc (suc zero)) below = refl
four-at bytes p (suc (suc (suc zero))) below = refl
four-at bytes p (suc (suc (suc (suc k)))) below = absurd (omega arith)

-- the word is below 2^32
word-below : (bytes : List ℕ) (p : ℕ) → ((i : ℕ) → get_or bytes i 0 < 256)
    → image_word_at bytes p < 2 ^ 32
word-below bytes p small =
    let a = small p in
    let b = small (p + 1) in
    let c = small (p + 2) in
    let d = small (p + 3) in
    omega arith

-- its bytes are those of the list
word-bytes : (bytes : List ℕ) (p : ℕ) → ((i : ℕ) → get_or bytes i 0 < 256) → (k : ℕ) → k < 4
    → get_or (to_be_bytes w32 (image_word_at bytes p)) k 0 ≡ get_or bytes (p + k) 0
word-bytes bytes p small k below =
    ap (λ (word : List ℕ). get_or word k 0) (be_bytes_4 (four bytes p) (image_word_at bytes p) refl
    (four-below bytes p small) refl) ∙ four-at bytes p k below

-- ---- lines

-- one more line, with one statement
read-line : (text line : List ℕ) (parts : List Part) (n : ℕ) (content : Content) → OneLine line
    → ((rest : List ℕ) → read_from source_step [] 1 (lines_of (text ++ rest)) ≡ read_from
    source_step parts n (lines_of rest))
    → line_parts n line ≡ Some (part_of_line n content ∷ [])
    → (rest : List ℕ)
    → read_from source_step [] 1 (lines_of ((text ++ (line ++ 10 ∷ [])) ++ rest)) ≡ read_from
    source_step (parts ++ part_of_line n content ∷ []) (n + 1) (lines_of rest)
read-line text line parts n content one read is rest =
    let whole : (text ++ (line ++ 10 ∷ [])) ++ rest ≡ text ++ (line ++ (10 ∷ rest)) =
    append_assoc text (line ++ 10 ∷ []) rest ∙ ap (λ (more : List ℕ). text ++ more)
    (append_assoc line (10 ∷ []) rest) in
    ap (λ (t : List ℕ). read_from source_step [] 1 (lines_of t)) whole
    ∙ read (line ++ (10 ∷ rest))
    ∙ ap (read_from source_step parts n) (lines-front line rest one)
    ∙ read-next source_step parts (parts ++ part_of_line n content ∷ []) n line (lines_of rest) (rw is refl)

-- ---- one word after another

-- So many words of a listing were read: their statements stand one behind the other.
record Grown (bytes : List ℕ) (n : ℕ) : Type 0 where
  parts : List Part
  chunks : List PlacedBytes
  read : (rest : List ℕ)
      → read_from source_step [] 1 (lines_of (texts_of bytes n ++ rest)) ≡ read_from source_step
      parts (suc n) (lines_of rest)
  unique : duplicate_line parts ≡ None
  next : place_behind 0 parts ≡ 4 * n
  stand : Stand bytes (4 * n) (layout 0 parts) chunks

-- no label is named twice where there is none
nothing-unique : duplicate_line [] ≡ None
unfolding first_fault
nothing-unique = refl

-- no word
grown-none : (bytes : List ℕ) → Grown bytes 0
grown-none bytes = record {
  parts = [];
  chunks = [];
  read = λ rest. refl;
  unique = nothing-unique;
  next = refl;
  stand = subst (λ (placed : List Placed). Stand bytes 0 placed []) (sym (layout-none 0))
      (stand-none bytes);
}

-- one more part stands behind the others
layout-more : (place : ℕ) (parts : List Part) (x : Part) → place_behind 0 parts ≡ place
    → layout 0 parts ++ placed_at place x ∷ [] ≡ layout 0 (parts ++ x ∷ [])
layout-more place parts x is =
    ap (λ (p : ℕ). layout 0 parts ++ placed_at p x ∷ []) (sym is) ∙ sym (layout-push 0 parts x)

-- and the next place is behind it
next-more : (place end : ℕ) (parts : List Part) (x : Part) → place_behind 0 parts ≡ place
    → place_after place x.content ≡ end → place_behind 0 (parts ++ x ∷ []) ≡ end
next-more place end parts x is behind =
    place_behind-push 0 parts x ∙ ap (λ (p : ℕ). place_after p x.content) is ∙ behind

-- one more word, whose text is a line with this statement
grown-more : (bytes : List ℕ) (n : ℕ) (content : Content) → ((i : ℕ) → get_or bytes i 0 < 256)
    → 4 * n + 4 ≤ 2 ^ 20
    → line_parts (suc n) (word_text (image_word_at bytes (4 * n)) (4 * n)) ≡ Some (part_of_line (suc n) content
    ∷ [])
    → IsFixed (4 * n) content (to_be_bytes w32 (image_word_at bytes (4 * n))) → Grown bytes n
    → Grown bytes (suc n)
grown-more bytes n content small below is fixed g =
    let x : Part = part_of_line (suc n) content in
    let own : List ℕ = to_be_bytes w32 (image_word_at bytes (4 * n)) in
    let line : List ℕ = word_text (image_word_at bytes (4 * n)) (4 * n) in
    let end : 4 * n + 4 ≡ 4 * suc n = omega arith in
    let stand = stand-more bytes (4 * n) (layout 0 g.parts) g.chunks (placed_at (4 * n) x) own
    g.stand refl fixed.size refl below fixed (word-bytes bytes (4 * n) small) in
    record {
      parts = g.parts ++ x ∷ [];
      chunks = g.chunks ++ chunk_at (4 * n) own ∷ [];
      read = λ rest.
          read-line (texts_of bytes n) line g.parts (suc n) content
          (no_line_end (image_word_at bytes (4 * n)) (4 * n)) g.read is rest
          ∙ ap (λ (m : ℕ). read_from source_step (g.parts ++ x ∷ []) m (lines_of rest))
          (add-one (suc n));
      unique = fault-more (λ (p : Part). p.line) repeats [] g.parts x g.unique
          (repeats_none g.parts x fixed.no_label);
      next = next-more (4 * n) (4 * suc n) g.parts x g.next (fixed.behind ∙ end);
      stand =
          subst (λ (placed : List Placed). Stand bytes (4 * suc n) placed
          (g.chunks ++ chunk_at (4 * n) own ∷ [])) (layout-more (4 * n) g.parts x g.next)
          (subst (λ (m : ℕ). Stand bytes m (layout 0 g.parts ++ placed_at (4 * n) x ∷ [])
          (g.chunks ++ chunk_at (4 * n) own ∷ [])) end stand);
    }

-- so many words, within the limit
grown : WordsAreReadAgain → (bytes : List ℕ) → ((i : ℕ) → get_or bytes i 0 < 256) → (n : ℕ)
    → 4 * n ≤ 2 ^ 20 → Grown bytes n
grown words bytes small zero below = grown-none bytes
grown words bytes small (suc n) below =
    let w = words no_labels (suc n) (4 * n) (image_word_at bytes (4 * n)) (omega arith) (omega arith)
    (word-below bytes (4 * n) small) in
    grown-more bytes n w.0 small (omega arith) w.1
    (gives_no_names (4 * n) w.0 (to_be_bytes w32 (image_word_at bytes (4 * n))) (omega arith) w.2)
    (grown words bytes small n (omega arith))

-- ---- the whole

-- so many bytes fill the last word
filled : (n : ℕ) → n + (4 - n % 4) % 4 ≡ 4 * ((n + 3) / 4)
filled n = omega arith

-- the bytes with their zeros are as long
whole-length : (bytes : List ℕ) → length (whole_words bytes) ≡ 4 * ((length bytes + 3) / 4)
whole-length bytes =
    length-append bytes (replicate (padding 2 (length bytes)) 0)
    ∙ ap (λ (n : ℕ). length bytes + n) (length-replicate (padding 2 (length bytes)) 0)
    ∙ filled (length bytes)

-- each of some zeros is zero, and so is what counts behind them
zeros-at : (n i : ℕ) → ◌≡◌ {A = ℕ} (get_or (replicate n 0) i 0) 0
zeros-at n i = elim (cases_lt i n) [
  | inl within ↦ get_or-replicate n i 0 0 within
  | inr past ↦ get_or_past (replicate n 0) i 0 (omega (arith, length-replicate {A = ℕ} n 0))
]

-- zeros behind change no byte
whole-at : (bytes : List ℕ) (k : ℕ) → get_or (whole_words bytes) k 0 ≡ get_or bytes k 0
whole-at bytes k =
    let zeros : List ℕ = replicate (padding 2 (length bytes)) 0 in
    elim (cases_lt k (length bytes)) [
      | inl within ↦ get_or_append_left bytes zeros 0 k within
      | inr past ↦
          get_or-append_right bytes zeros (length bytes) k 0 refl past
          ∙ zeros-at (padding 2 (length bytes)) (k - length bytes)
          ∙ sym (get_or_past bytes k 0 past)
    ]

-- the image that was listed
image_of : (bytes : List ℕ) → length bytes ≤ 2 ^ 20 → PlainImage
image_of bytes short =
    let fits : length (whole_words bytes) ≤ 2 ^ 20 = rw (whole-length bytes) (omega arith) in
    record {
      entry = 0;
      bytes = whole_words bytes;
      fits = fits;
      aligned = refl;
      private =
          omega arith;
    }

-- what is read of the whole
source-read : (text : List ℕ) (parts : List Part) (n : ℕ)
    → ((rest : List ℕ) → read_from source_step [] 1 (lines_of (text ++ rest)) ≡ read_from
    source_step parts n (lines_of rest))
    → source_of text ≡ Ok parts
unfolding source_of read_from
source-read text parts n read =
    ap (λ (t : List ℕ). state_behind (read_from source_step [] 1 (lines_of t))) (sym (append-nil text))
    ∙ ap state_behind (read [])

-- statements that stand have the image with their bytes
placed_image : (bytes : List ℕ) (end : ℕ) (placed : List Placed) (chunks : List PlacedBytes)
    (image : PlainImage)
    → Stand bytes end placed chunks → image.entry ≡ 0
    → length image.bytes ≡ end → ((k : ℕ) → get_or image.bytes k 0 ≡ get_or bytes k 0)
    → IsPlacedImage placed image
placed_image bytes end placed chunks image so entry long same = record {
  no_overlap = so.apart;
  no_unknown = ap (λ (found : Option Placed). option_map statement_line found)
      (so.known (labels_of placed));
  entry = ap (entry_by (labels_of placed)) so.no_entry ∙ ap (λ (n : ℕ). Some n) (sym entry);
  chunks = chunks;
  writes = so.writes (labels_of placed);
  bytes = record {
    whole = long ∙ sym so.ends;
    each = λ k below. same k ∙ sym (so.each k (rw long at below));
  };
}

-- the texts of all words are a source of the image that was listed
pub listings_assembled_again : WordsAreReadAgain → ListingsAreAssembledAgain
unfolding image_of
listings_assembled_again words bytes small short =
    let n : ℕ = (length bytes + 3) / 4 in
    let g : Grown bytes n = grown words bytes (byte-below bytes small) n (omega arith) in (
      image_of bytes short,
      refl,
      refl,
      record {
        parts = g.parts;
        read = source-read (texts_of bytes n) g.parts (suc n) g.read;
        no_duplicate = g.unique;
        not_too_long = ap (λ (found : Option Placed). option_map statement_line found) g.stand.short;
        placed = placed_image bytes (4 * n) (layout 0 g.parts) g.chunks (image_of bytes short)
            g.stand refl (whole-length bytes) (whole-at bytes);
      },
    )
