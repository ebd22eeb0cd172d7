-- Each text has an outcome as a source: an image, or a fault.
use Rattle.std.proofs.Common.{◌≡◌, ℕ, ◌<◌, ◌≤◌, ◌%◌, ◌^◌, ◌⊎◌, Bool, true, false, cond, leb, eqb, inl, inr, List, [], ◌∷◌, length, map, Option, Some, None, Result, Ok, Err, refl, sym, ap, subst, ◌∙◌, option_map, arith}
use Rattle.std.specs.Prelude.{find, is_none}
use Rattle.std.specs.List.{All, range_with_len}
use Rattle.std.proofs.lemmas.Bool.{cases_eq, eqb-true, leb-true}
use Rattle.std.proofs.lemmas.Bool.Decides.{nat_tests}
use Rattle.std.proofs.lemmas.List.Elements.{All-cons, All-nil}
use Rattle.std.proofs.lemmas.List.FromFn.{get_or-map-range_with_len, length-map-range_with_len}
use Rattle.std.proofs.lemmas.Option.{cond_some, none-some, option_and_then_some as steps, same_Some}
use Rattle.xom_base.specs.declared.image.PlainImage.{PlainImage}
use Rattle.asm_source.specs.declared.content.Content.{Content}
use Rattle.asm_source.specs.declared.content.Content.TheVariants.{Label, Words, Bytes, Ascii, Space, Align, Org, Entry, LoadNumber, LoadAddress, Instruction}
use Rattle.asm_source.specs.declared.content.Part.{Part}
use Rattle.asm_syntax.specs.Lines.{source_of}
use Rattle.mips_asm.specs.declared.fault.AsmFault.{AsmFault}
use Rattle.mips_asm.specs.declared.fault.AsmFault.TheVariants.{Syntax, Duplicate, TooLong, Overlap, UnknownName, Range}
use Rattle.mips_asm.specs.Places.{Placed}
use Rattle.mips_asm.specs.Encoding.{StatementGives, unsigned_below, value_number}
use Rattle.mips_asm.specs.Images.{PlacedBytes, IsWritten, byte_over, chunks_end}
use Rattle.mips_asm.specs.Laws.{ImageOrFault}
use Rattle.mips_asm.specs.Layout.{IsSized, in_range, is_too_long, last_end, layout, limit, statement_end}
use Rattle.mips_asm.specs.Passes.{Labels, duplicate_line, overlap_line, statement_line, too_long_line, unknown_line}
use Rattle.mips_asm.specs.Sources.{IsFaultOf, IsFirst, IsImageOf, IsOutOfRange, IsPlacedFault, IsPlacedImage, StatementsWrite, bad_entry, bad_entry_of, entry_by, entry_value, labels_of, last_entry}
use Rattle.mips_asm.proofs.AssemblyLaws.{no_bad_entry, placed_fault}
use Rattle.mips_asm.proofs.BytesLaws.{ends-same, layout-sized}
use Rattle.mips_asm.proofs.GivesLaws.{Gives-found}
use Rattle.mips_asm.proofs.ImageLaws.{chunk_at}

-- ---- the bytes of all statements, or the first that writes none

-- the line is none of those of the last `.entry` that is bad
abbrev OtherLine : Option ℕ → Placed → Type 0
OtherLine bad p = ¬ (bad ≡ Some (statement_line p))

-- all statements write bytes and none stands in the bad line, or there is a first that is out of
-- its range
abbrev WritesOrNot : Labels → Option ℕ → List Placed → Type 0
WritesOrNot labels bad placed =
    ((chunks : List PlacedBytes) × StatementsWrite labels placed chunks × All (OtherLine bad) placed)
    ⊎ ((n : ℕ) × IsFirst statement_line (IsOutOfRange labels bad) placed n)

-- the bad line is this one, or another
line_decided : (bad : Option ℕ) (line : ℕ) → (bad ≡ Some line) ⊎ (¬ (bad ≡ Some line))
line_decided None line = inr (λ is. none-some line is)
line_decided (Some n) line = elim (cases_eq n line) [
  | inl same ↦ inl (ap (λ (m : ℕ). Some m) same)
  | inr other ↦ inr (λ is. other (same_Some n line is))
]

-- the first of them is out of its range
out_first : (labels : Labels) (bad : Option ℕ) (x : Placed) (placed : List Placed)
    → IsOutOfRange labels bad x → WritesOrNot labels bad (x ∷ placed)
out_first labels bad x placed out = inr (
  statement_line x,
  record {
    before = [];
    first = x;
    after = placed;
    whole = refl;
    bad = out;
    number = refl;
    good = All-nil (λ (p : Placed). ¬ IsOutOfRange labels bad p);
  },
)

-- the first of them writes bytes, and stands in no bad line
good_first : (labels : Labels) (bad : Option ℕ) (x : Placed) (placed : List Placed) (own : List ℕ)
    → StatementGives labels x.place x.part.content own → OtherLine bad x
    → WritesOrNot labels bad placed → WritesOrNot labels bad (x ∷ placed)
good_first labels bad x placed own gives other (inl more) =
    inl (
      chunk_at x.place own ∷ more.0,
      (own, more.0, gives, refl, more.1),
      All-cons (OtherLine bad)
          x placed other more.2,
    )
good_first labels bad x placed own gives other (inr more) =
    let is = more.1 in
    inr (
      more.0,
      record {
        before = x ∷ is.before;
        first = is.first;
        after = is.after;
        whole = ap (λ (xs : List Placed). x ∷ xs) is.whole;
        bad = is.bad;
        number = is.number;
        good = All-cons (λ (p : Placed). ¬ IsOutOfRange labels bad p) x is.before
            (λ out. elim out [ inl nothing ↦ nothing own gives | inr here ↦ other here ]) is.good;
      },
    )

writes_or_not : (labels : Labels) (bad : Option ℕ) (placed : List Placed)
    → WritesOrNot labels bad placed
writes_or_not labels bad [] = inl ([], refl, All-nil (OtherLine bad))
writes_or_not labels bad (x ∷ placed) = elim (line_decided bad (statement_line x)) [
  | inl here ↦ out_first labels bad x placed (inr here)
  | inr other ↦ elim (Gives-found labels x.place x.part.content) [
    | inr nothing ↦ out_first labels bad x placed (inl nothing)
    | inl own ↦ good_first labels bad x placed own.0 own.1 other (writes_or_not labels bad placed)
  ]
]

-- ---- the entry

-- what an option holds, where the test says that it holds something
held_entry : (found : Option ℕ) (line : ℕ) → cond (is_none found) (Some line) None ≡ None
    → (entry : ℕ) × (found ≡ Some entry)
held_entry None line is = absurd (none-some line (sym is))
held_entry (Some entry) line is = (entry, refl)

-- where the last `.entry` isn't bad, it says an entry
entry_said : (labels : Labels) (last : Option Placed) → bad_entry labels last ≡ None
    → (entry : ℕ) × (entry_by labels last ≡ Some entry)
entry_said labels None good = (0, refl)
entry_said labels (Some p) good = held_entry (entry_value labels p.part.content) (statement_line p) good

-- an entry is a multiple of 4 below 2^20
abbrev IsEntry : ℕ → Type 0
IsEntry entry = (entry % 4 ≡ 0) × (entry < 2 ^ 20)

below_limit : (negative : Bool) (magnitude : ℕ)
    → cond negative (leb magnitude 0) (leb magnitude 1048575) ≡ true → magnitude < 2 ^ 20
below_limit true magnitude is = omega (arith, leb-true magnitude 0 is)
below_limit false magnitude is = omega (arith, leb-true magnitude 1048575 is)

entry_in-entry : (labels : Labels) (content : Content) (entry : ℕ)
    → entry_value labels content ≡ Some entry → IsEntry entry
entry_in-entry labels (Entry v) entry is =
    steps _ (value_number labels v) entry is (λ n number is.
    steps _ (unsigned_below 1048575 n) entry is (λ address given is.
    let low = cond_some (in_range 0 1048575 n) n.magnitude address given in
    let whole = cond_some (eqb (address % 4) 0) address entry is in
    subst IsEntry whole.1 (
      eqb-true (address % 4) 0 whole.0,
      subst (λ (m : ℕ). m < 2 ^ 20) low.1
          (below_limit n.negative n.magnitude low.0),
    )))
entry_in-entry labels (Label name) entry is = absurd (none-some entry is)
entry_in-entry labels (Words vs) entry is = absurd (none-some entry is)
entry_in-entry labels (Bytes ns) entry is = absurd (none-some entry is)
entry_in-entry labels (Ascii text) entry is = absurd (none-some entry is)
entry_in-entry labels (Space n) entry is = absurd (none-some entry is)
entry_in-entry labels (Align n) entry is = absurd (none-some entry is)
entry_in-entry labels (Org n) entry is = absurd (none-some entry is)
entry_in-entry labels (LoadNumber r n) entry is = absurd (none-some entry is)
entry_in-entry labels (LoadAddress r name) entry is = absurd (none-some entry is)
entry_in-entry labels (Instruction name arguments) entry is = absurd (none-some entry is)

entry_by-entry : (labels : Labels) (last : Option Placed) (entry : ℕ)
    → entry_by labels last ≡ Some entry → IsEntry entry
entry_by-entry labels None entry is = subst IsEntry (same_Some 0 entry is) (refl, omega arith)
entry_by-entry labels (Some p) entry is = entry_in-entry labels p.part.content entry is

-- ---- the bytes

-- the bytes of chunks
bytes_of : List PlacedBytes → List ℕ
bytes_of chunks = map (byte_over 0 chunks) (range_with_len 0 (chunks_end chunks))

bytes_of-written : (chunks : List PlacedBytes) → IsWritten chunks (bytes_of chunks)
unfolding bytes_of
bytes_of-written chunks = record {
  whole = length-map-range_with_len (byte_over 0 chunks) 0 (chunks_end chunks);
  each = λ k below.
      let within : k < chunks_end chunks = subst (λ (n : ℕ). k < n)
      (length-map-range_with_len (byte_over 0 chunks) 0 (chunks_end chunks)) below in
      get_or-map-range_with_len (byte_over 0 chunks) 0 (chunks_end chunks) k k 0 within
      (omega arith);
}

-- what isn't too long ends within the limit
not_long-end : (x : Placed) → is_too_long x ≡ false → statement_end x ≤ limit
not_long-end x short = grind (arith, nat_tests)

-- one that isn't found, and none behind it
first_none : {X : Type 0} (b : Bool) (x : X) (more : Option X) → cond b (Some x) more ≡ None
    → (b ≡ false) × (more ≡ None)
first_none true x more is = absurd (none-some x (sym is))
first_none false x more is = (refl, is)

not_long-last_end : (placed : List Placed) → find is_too_long placed ≡ None
    → last_end placed ≤ limit
unfolding last_end
not_long-last_end [] short = omega arith
not_long-last_end (x ∷ placed) short =
    let parts = first_none (is_too_long x) x (find is_too_long placed) short in
    let here : statement_end x ≤ limit = not_long-end x parts.0 in
    let more : last_end placed ≤ limit = not_long-last_end placed parts.1 in
    omega arith

-- no line of what isn't found
not_mapped : {X Y : Type 0} (f : X → Y) (found : Option X) → option_map f found ≡ None
    → found ≡ None
not_mapped f None is = refl
not_mapped f (Some x) is = absurd (none-some (f x) (sym is))

-- ---- the outcome, pass by pass

abbrev PlacedOutcome : List Placed → Type 0
PlacedOutcome placed =
    ((image : PlainImage) × IsPlacedImage placed image)
    ⊎ ((fault : AsmFault) × IsPlacedFault placed fault)

-- the image of what is written
placed_image_of : (placed : List Placed) (chunks : List PlacedBytes) (entry : ℕ)
    → All IsSized placed → last_end placed ≤ limit → overlap_line placed ≡ None
    → unknown_line (labels_of placed) placed ≡ None
    → entry_by (labels_of placed) (last_entry placed) ≡ Some entry
    → StatementsWrite (labels_of placed) placed chunks → (image : PlainImage) × IsPlacedImage placed image
placed_image_of placed chunks entry sized short apart known says writes =
    let written = bytes_of-written chunks in
    let is = entry_by-entry (labels_of placed) (last_entry placed) entry says in
    let size : length (bytes_of chunks) ≡ last_end placed = written.whole
    ∙ ends-same (labels_of placed) placed chunks sized writes in (
      record {
        entry = entry;
        bytes = bytes_of chunks;
        fits = subst (λ (n : ℕ). n ≤ limit)
            (sym size) short;
        aligned = is.0;
        private = is.1;
      },
      record {
        no_overlap = apart;
        no_unknown = known;
        entry = says;
        chunks = chunks;
        writes =
            writes;
        bytes = written;
      },
    )

-- the last `.entry` isn't bad, where no line is that of a bad one
last_is_good : (labels : Labels) (placed : List Placed)
    → All (OtherLine (bad_entry labels (last_entry placed))) placed → (bad : Option ℕ)
    → bad_entry labels (last_entry placed) ≡ bad → bad ≡ None
last_is_good labels placed all None is = refl
last_is_good labels placed all (Some line) is = absurd (no_bad_entry labels placed line all is)

range_outcome : (placed : List Placed) → All IsSized placed → last_end placed ≤ limit
    → overlap_line placed ≡ None → unknown_line (labels_of placed) placed ≡ None
    → WritesOrNot (labels_of placed) (bad_entry_of placed) placed → PlacedOutcome placed
range_outcome placed sized short apart known (inr first) =
    inr (Range first.0, (apart, known, first.1))
range_outcome placed sized short apart known (inl writes) =
    let good = last_is_good (labels_of placed) placed writes.2 (bad_entry_of placed) refl in
    let says = entry_said (labels_of placed) (last_entry placed) good in
    inl (placed_image_of placed writes.0 says.0 sized short apart known says.1 writes.1)

unknown_outcome : (placed : List Placed) → All IsSized placed → last_end placed ≤ limit
    → overlap_line placed ≡ None → (unknown : Option ℕ)
    → unknown_line (labels_of placed) placed ≡ unknown → PlacedOutcome placed
unknown_outcome placed sized short apart (Some n) is = inr (UnknownName n, (apart, is))
unknown_outcome placed sized short apart None is =
    range_outcome placed sized short apart is
    (writes_or_not (labels_of placed) (bad_entry_of placed) placed)

overlap_outcome : (placed : List Placed) → All IsSized placed → last_end placed ≤ limit
    → (overlap : Option ℕ) → overlap_line placed ≡ overlap → PlacedOutcome placed
overlap_outcome placed sized short (Some n) is = inr (Overlap n, is)
overlap_outcome placed sized short None is =
    unknown_outcome placed sized short is (unknown_line (labels_of placed) placed) refl

abbrev Outcome : List ℕ → Type 0
Outcome text =
    ((image : PlainImage) × IsImageOf text image) ⊎ ((fault : AsmFault) × IsFaultOf text fault)

placed_outcome : (text : List ℕ) (parts : List Part) → source_of text ≡ Ok parts
    → duplicate_line parts ≡ None → too_long_line (layout 0 parts) ≡ None
    → PlacedOutcome (layout 0 parts) → Outcome text
placed_outcome text parts read unique short (inl image) =
    inl (
      image.0,
      record {
        parts = parts;
        read = read;
        no_duplicate = unique;
        not_too_long =
            short;
        placed = image.1;
      },
    )
placed_outcome text parts read unique short (inr fault) =
    inr (fault.0, placed_fault text parts fault.0 read unique short fault.1)

too_long_outcome : (text : List ℕ) (parts : List Part) → source_of text ≡ Ok parts
    → duplicate_line parts ≡ None → (long : Option ℕ) → too_long_line (layout 0 parts) ≡ long
    → Outcome text
too_long_outcome text parts read unique (Some n) is = inr (TooLong n, (parts, read, (unique, is)))
too_long_outcome text parts read unique None is =
    let ends = not_long-last_end (layout 0 parts)
    (not_mapped statement_line (find is_too_long (layout 0 parts)) is) in
    placed_outcome text parts read unique is
    (overlap_outcome (layout 0 parts) (layout-sized 0 parts) ends (overlap_line (layout 0 parts))
    refl)

duplicate_outcome : (text : List ℕ) (parts : List Part) → source_of text ≡ Ok parts
    → (duplicate : Option ℕ) → duplicate_line parts ≡ duplicate → Outcome text
duplicate_outcome text parts read (Some n) is = inr (Duplicate n, (parts, read, is))
duplicate_outcome text parts read None is =
    too_long_outcome text parts read is (too_long_line (layout 0 parts)) refl

read_outcome : (text : List ℕ) (read : Result (List Part) ℕ) → source_of text ≡ read → Outcome text
read_outcome text (Err n) is = inr (Syntax n, is)
read_outcome text (Ok parts) is = duplicate_outcome text parts is (duplicate_line parts) refl

-- each text has an image or a fault
pub image_or_fault : ImageOrFault
image_or_fault text = read_outcome text (source_of text) refl
