-- A source with numbers for labels has the same image.
use Rattle.std.proofs.Common.{◌≡◌, ℕ, ◌+◌, ◌*◌, Bool, true, false, cond, List, [], ◌∷◌, ◌++◌, map, Option, Some, None, option_map, refl, sym, ap, subst, ◌∙◌, reverse}
use Rattle.std.specs.Option.{option_map_or}
use Rattle.std.specs.List.{find, list_any}
use Rattle.std.proofs.lemmas.List.{length-map, map-append, reverse-append}
use Rattle.xom_base.specs.declared.image.PlainImage.{PlainImage}
use Rattle.asm_source.specs.declared.content.Content.{Content}
use Rattle.asm_source.specs.declared.content.Content.TheVariants.{Label, Words, Bytes, Ascii, Space, Align, Org, Entry, LoadNumber, LoadAddress, Instruction}
use Rattle.asm_source.specs.declared.content.Part.{Part}
use Rattle.asm_syntax.specs.Lines.{source_of}
use Rattle.mips_asm.specs.Places.{Placed}
use Rattle.mips_asm.specs.Images.{PlacedBytes}
use Rattle.mips_asm.specs.Layout.{is_too_long, layout, place_after, statement_size}
use Rattle.mips_asm.specs.Passes.{Labels, duplicate_line, first_fault, is_label, is_unknown, label_said, meets, overlap_line, overlaps, place_of, repeats, statement_line, too_long_line, unknown_line}
use Rattle.mips_asm.specs.Sources.{IsPlacedImage, StatementsWrite, entry_by, entry_content, is_entry_statement, labels_of, last_entry}
use Rattle.mips_asm.proofs.OneOutcome.{same_Ok}
use Rattle.asm_laws.specs.Replaced.{ImagesByNumbers, numbered_content, numbered_part, value_with_place}
use Rattle.asm_laws.proofs.Replacing.{Gives-numbered, content_unknown-numbered, entry_in-numbered}

-- ---- Lists whose elements are changed one by one

find-map : {X : Type 0} (f : X → X) (p q : X → Bool) → ((x : X) → q (f x) ≡ p x) → (xs : List X)
    → find q (map f xs) ≡ option_map f (find p xs)
find-map f p q same [] = refl
find-map f p q same (x ∷ xs) = rw (same x, find-map f p q same xs) (either (p x) x (find p xs))
  where
    either : (b : Bool) (y : _) (more : Option _)
        → cond b (Some (f y)) (option_map f more) ≡ option_map f (cond b (Some y) more)
    either true y more = refl
    either false y more = refl

list_any-map : {X : Type 0} (f : X → X) (p q : X → Bool) → ((x : X) → q (f x) ≡ p x) → (xs : List X)
    → list_any q (map f xs) ≡ list_any p xs
list_any-map f p q same [] = refl
list_any-map f p q same (x ∷ xs) = rw (same x, list_any-map f p q same xs) refl

reverse-map : {X : Type 0} (f : X → X) (xs : List X) → reverse (map f xs) ≡ map f (reverse xs)
reverse-map f [] = refl
reverse-map f (x ∷ xs) =
    reverse-append (f x ∷ []) (map f xs)
    ∙ ap (λ front. front ++ (f x ∷ [])) (reverse-map f xs)
    ∙ sym (map-append f (reverse xs) (x ∷ []))
    ∙ ap (map f) (sym (reverse-append (x ∷ []) xs))

first_fault-map : {X : Type 0} (f : X → X) (line : X → ℕ) (bad : List X → X → Bool)
    → ((x : X) → line (f x) ≡ line x)
    → ((before : List X) (x : X) → bad (map f before) (f x) ≡ bad before x)
    → (before xs : List X)
    → first_fault line bad (map f before) (map f xs) ≡ first_fault line bad before xs
unfolding first_fault
first_fault-map f line bad lines same before [] = refl
first_fault-map f line bad lines same before (x ∷ xs) =
    rw (
      same before x,
      lines x,
      sym (map-append f before (x ∷ [])),
      first_fault-map f line bad lines
          same (before ++ x ∷ []) xs,
    ) refl

-- the line of what is found
found_line : (f : Placed → Placed) → ((p : Placed) → statement_line (f p) ≡ statement_line p)
    → (found : Option Placed) → option_map statement_line (option_map f found) ≡ option_map statement_line found
found_line f same None = refl
found_line f same (Some p) = ap (λ (n : ℕ). Some n) (same p)

-- ---- Contents

module _ (labels : Labels) where
  label_in-numbered : (c : Content) → label_said (numbered_content labels c) ≡ label_said c
  label_in-numbered (Label name) = refl
  label_in-numbered (Words vs) = refl
  label_in-numbered (Bytes ns) = refl
  label_in-numbered (Ascii text) = refl
  label_in-numbered (Space n) = refl
  label_in-numbered (Align n) = refl
  label_in-numbered (Org n) = refl
  label_in-numbered (Entry v) = refl
  label_in-numbered (LoadNumber r n) = refl
  label_in-numbered (LoadAddress r name) = refl
  label_in-numbered (Instruction name list) = refl

  entry_content-numbered : (c : Content)
      → entry_content (numbered_content labels c) ≡ entry_content c
  entry_content-numbered (Label name) = refl
  entry_content-numbered (Words vs) = refl
  entry_content-numbered (Bytes ns) = refl
  entry_content-numbered (Ascii text) = refl
  entry_content-numbered (Space n) = refl
  entry_content-numbered (Align n) = refl
  entry_content-numbered (Org n) = refl
  entry_content-numbered (Entry v) = refl
  entry_content-numbered (LoadNumber r n) = refl
  entry_content-numbered (LoadAddress r name) = refl
  entry_content-numbered (Instruction name list) = refl

  size_of-numbered : (place : ℕ) (c : Content)
      → statement_size place (numbered_content labels c) ≡ statement_size place c
  unfolding statement_size
  size_of-numbered place (Label name) = refl
  size_of-numbered place (Words vs) = ap (λ (n : ℕ). 4 * n) (length-map vs (value_with_place labels))
  size_of-numbered place (Bytes ns) = refl
  size_of-numbered place (Ascii text) = refl
  size_of-numbered place (Space n) = refl
  size_of-numbered place (Align n) = refl
  size_of-numbered place (Org n) = refl
  size_of-numbered place (Entry v) = refl
  size_of-numbered place (LoadNumber r n) = refl
  size_of-numbered place (LoadAddress r name) = refl
  size_of-numbered place (Instruction name list) = refl

  after-numbered : (place : ℕ) (c : Content)
      → place_after place (numbered_content labels c) ≡ place_after place c
  unfolding place_after
  after-numbered place (Label name) = refl
  after-numbered place (Words vs) = ap (λ (n : ℕ). place + n) (size_of-numbered place (Words vs))
  after-numbered place (Bytes ns) = refl
  after-numbered place (Ascii text) = refl
  after-numbered place (Space n) = refl
  after-numbered place (Align n) = refl
  after-numbered place (Org n) = refl
  after-numbered place (Entry v) = ap (λ (n : ℕ). place + n) (size_of-numbered place (Entry v))
  after-numbered place (LoadNumber r n) = refl
  after-numbered place (LoadAddress r name) = refl
  after-numbered place (Instruction name list) =
      ap (λ (n : ℕ). place + n) (size_of-numbered place (Instruction name list))

  -- ---- Layouts

  abbrev numbered_placed : Placed → Placed
  numbered_placed p = record { place = p.place; size = p.size; part = numbered_part labels p.part }

  layout-numbered : (place : ℕ) (parts : List Part)
      → layout place (map (numbered_part labels) parts) ≡ map numbered_placed (layout place parts)
  unfolding layout
  layout-numbered place [] = refl
  layout-numbered place (part ∷ parts) =
      rw (
        size_of-numbered place part.content,
        after-numbered place part.content,
        layout-numbered
            (place_after place part.content) parts,
      ) refl

  -- ---- Labels

  is_label-numbered : (name : List ℕ) (part : Part)
      → is_label name (numbered_part labels part) ≡ is_label name part
  is_label-numbered name part = rw (label_in-numbered part.content) refl

  place_of-numbered : (placed : List Placed) (name : List ℕ)
      → place_of (map numbered_placed placed) name ≡ place_of placed name
  unfolding place_of
  place_of-numbered [] name = refl
  place_of-numbered (p ∷ placed) name =
      rw (place_of-numbered placed name, is_label-numbered name p.part) refl

  repeats-numbered : (before : List Part) (part : Part)
      → repeats (map (numbered_part labels) before) (numbered_part labels part) ≡ repeats before
      part
  repeats-numbered before part = rw (label_in-numbered part.content)
      (by_label (label_said part.content))
    where
      by_label : (name : Option (List ℕ))
          → option_map_or (λ name. list_any (is_label name) (map (numbered_part labels) before))
          name false ≡ option_map_or (λ name. list_any (is_label name) before) name false
      by_label None = refl
      by_label (Some name) =
          list_any-map (numbered_part labels) (is_label name) (is_label name)
          (is_label-numbered name) before

  -- ---- Faults

  duplicate-numbered : (parts : List Part)
      → duplicate_line (map (numbered_part labels) parts) ≡ duplicate_line parts
  duplicate-numbered parts =
      first_fault-map (numbered_part labels) (λ (part : Part). part.line) repeats (λ part. refl)
      repeats-numbered [] parts

  too_long-numbered : (placed : List Placed)
      → too_long_line (map numbered_placed placed) ≡ too_long_line placed
  too_long-numbered placed =
      ap (option_map statement_line) (find-map numbered_placed is_too_long is_too_long (λ p. refl) placed)
      ∙ found_line numbered_placed (λ p. refl) (find is_too_long placed)

  overlaps-numbered : (before : List Placed) (p : Placed)
      → overlaps (map numbered_placed before) (numbered_placed p) ≡ overlaps before p
  overlaps-numbered before p =
      list_any-map numbered_placed (meets p) (meets (numbered_placed p)) (λ q. refl) before

  overlap-numbered : (placed : List Placed)
      → overlap_line (map numbered_placed placed) ≡ overlap_line placed
  overlap-numbered placed =
      first_fault-map numbered_placed statement_line overlaps (λ p. refl) overlaps-numbered [] placed

  is_entry-numbered : (p : Placed) → is_entry_statement (numbered_placed p) ≡ is_entry_statement p
  is_entry-numbered p = entry_content-numbered p.part.content

  last_entry-numbered : (placed : List Placed)
      → last_entry (map numbered_placed placed) ≡ option_map numbered_placed (last_entry placed)
  last_entry-numbered placed =
      ap (find is_entry_statement) (reverse-map numbered_placed placed)
      ∙ find-map numbered_placed is_entry_statement is_entry_statement is_entry-numbered (reverse placed)

  -- ---- Values, by labels with the same places

  module _ (others : Labels) (same : (name : List ℕ) → labels name ≡ others name) where
    unknown_line-numbered : (placed : List Placed)
        → unknown_line others (map numbered_placed placed) ≡ unknown_line labels placed
    unknown_line-numbered placed =
        ap (option_map statement_line) (find-map numbered_placed (is_unknown labels) (is_unknown others)
        (λ p. content_unknown-numbered labels others same p.part.content) placed)
        ∙ found_line numbered_placed (λ p. refl) (find (is_unknown labels) placed)

    entry_by-numbered : (last : Option Placed)
        → entry_by others (option_map numbered_placed last) ≡ entry_by labels last
    entry_by-numbered None = refl
    entry_by-numbered (Some p) = entry_in-numbered labels others same p.part.content

    Writes-numbered : (placed : List Placed) (chunks : List PlacedBytes)
        → StatementsWrite labels placed chunks → StatementsWrite others (map numbered_placed placed) chunks
    Writes-numbered [] chunks writes = writes
    Writes-numbered (p ∷ placed) chunks writes = (
      writes.0,
      writes.1,
      Gives-numbered labels others same p.place p.part.content writes.0
          writes.2,
      writes.3,
      Writes-numbered placed writes.1 writes.4,
    )

-- ---- Images

-- labels and statements at their places, with numbers for labels
placed_image : (placed : List Placed) (image : PlainImage) → IsPlacedImage placed image
    → IsPlacedImage (map (numbered_placed (labels_of placed)) placed) image
placed_image placed image is =
    let labels : Labels = labels_of placed in
    let others : Labels = labels_of (map (numbered_placed labels) placed) in
    let same : (name : List ℕ) → labels name ≡ others name =
    λ name. sym (place_of-numbered labels placed name) in record {
      no_overlap = overlap-numbered labels placed ∙ is.no_overlap;
      no_unknown = unknown_line-numbered labels others same placed ∙ is.no_unknown;
      entry = ap (entry_by others) (last_entry-numbered labels placed) ∙ entry_by-numbered labels
          others same (last_entry placed) ∙ is.entry;
      chunks = is.chunks;
      writes = Writes-numbered labels others same placed is.chunks is.writes;
      bytes = is.bytes;
    }

pub images_by_numbers : ImagesByNumbers
images_by_numbers text other parts image read other_read is =
    let labels : Labels = labels_of (layout 0 parts) in
    let known : is.parts ≡ parts = same_Ok (source_of text) is.parts parts is.read read in
    let placed = layout-numbered labels 0 parts in record {
      parts = map (numbered_part labels) parts;
      read = other_read;
      no_duplicate = duplicate-numbered labels parts ∙ ap duplicate_line (sym known)
          ∙ is.no_duplicate;
      not_too_long = ap too_long_line placed ∙ too_long-numbered labels (layout 0 parts)
          ∙ ap (λ (ps : List Part). too_long_line (layout 0 ps)) (sym known) ∙ is.not_too_long;
      placed = subst (λ (l : List Placed). IsPlacedImage l image) (sym placed)
          (placed_image (layout 0 parts) image
          (subst (λ (ps : List Part). IsPlacedImage (layout 0 ps) image) known is.placed));
    }
