-- What an assembler source stands for: an image, or a fault with its line.
use Rattle.std.specs.Prelude.{◌≡◌, ℕ, ◌%◌, ◌==◌, ◌⊎◌, Bool, true, false, if◌then◌else◌, List, [], ◌∷◌, ◌++◌, All, Option, Some, None, is_none, find, reverse, slice_index, Ok, Err}
use Rattle.xom_base.specs.declared.image.PlainImage.{PlainImage}
use Rattle.asm_source.specs.declared.content.Content.{Content}
use Rattle.asm_source.specs.declared.content.Content.TheVariants.{Entry}
use Rattle.asm_source.specs.declared.content.Part.{Part}
use Rattle.xom_base.specs.Options.{◌>>=◌, where_holds}
use Rattle.asm_syntax.specs.Lines.{source_of}
use Rattle.mips_asm.specs.declared.fault.AsmFault.{AsmFault}
use Rattle.mips_asm.specs.declared.fault.AsmFault.TheVariants.{Syntax, Duplicate, TooLong, Overlap, UnknownName, Range, NoMemory}
use Rattle.mips_asm.specs.Places.{Placed}
use Rattle.mips_asm.specs.Layout.{layout}
use Rattle.mips_asm.specs.Passes.{Labels, duplicate_line, overlap_line, place_of, statement_line, too_long_line, unknown_line}
use Rattle.mips_asm.specs.Encoding.{StatementGives, unsigned_below, value_number}
use Rattle.mips_asm.specs.Images.{IsOver, IsWritten, PlacedBytes, byte_over}

-- ---- the entry

-- it says the entry of the image: `.entry`
abbrev pub entry_content : Content → Bool
entry_content (Entry v) = true
entry_content _ = false

-- the statement says the entry of the image
abbrev pub is_entry_statement : Placed → Bool
is_entry_statement placed = entry_content placed.part.content

-- the last `.entry`, if there is one
abbrev pub last_entry : List Placed → Option Placed
last_entry placed = find is_entry_statement (reverse placed)

-- the address itself, where it is a multiple of 4
abbrev pub aligned_address : ℕ → Option ℕ
aligned_address n = where_holds (n % 4 == 0) n

-- the entry that a statement says: a multiple of 4 below 2^20
abbrev pub entry_value : Labels → Content → Option ℕ
entry_value labels (Entry v) = do
  n ← value_number labels v
  address ← unsigned_below 1048575 n
  aligned_address address
entry_value labels _ = None

-- the entry by the last `.entry`, or 0 where there is none
abbrev pub entry_by : Labels → Option Placed → Option ℕ
entry_by labels None = Some 0
entry_by labels (Some placed) = entry_value labels placed.part.content

-- ---- Range: a value out of its range

-- no bytes are what it writes
abbrev pub GivesNothing : Labels → Placed → Type 0
GivesNothing labels placed =
    (bytes : List ℕ) → ¬ StatementGives labels placed.place placed.part.content bytes

-- the line of the last `.entry`, where what it says is no entry
abbrev pub bad_entry : Labels → Option Placed → Option ℕ
bad_entry labels None = None
bad_entry labels (Some last) =
    if is_none (entry_value labels last.part.content) then Some (statement_line last) else None

-- no bytes are what it writes, or it stands in the line of a last `.entry` that says no entry
abbrev pub IsOutOfRange : Labels → Option ℕ → Placed → Type 0
IsOutOfRange labels bad placed = GivesNothing labels placed ⊎ (bad ≡ Some (statement_line placed))

-- the line of the first element that is bad
pub record IsFirst {X : Type 0} (line : X → ℕ) (Bad : X → Type 0) (xs : List X) (n : ℕ) : Type
    0 where
  pub before : List X
  pub first : X
  pub after : List X
  pub whole : xs ≡ before ++ (first ∷ after)
  pub bad : Bad first
  pub number : n ≡ line first
  pub good : All (λ x. ¬ Bad x) before

-- ---- sources

-- what each statement writes, at its place
abbrev pub StatementsWrite : Labels → List Placed → List PlacedBytes → Type 0
StatementsWrite labels [] chunks = chunks ≡ []
StatementsWrite labels (placed ∷ more) chunks =
    (bytes : List ℕ) × (rest : List PlacedBytes) × StatementGives labels placed.place placed.part.content
    bytes
    × (chunks ≡ record { place = placed.place; bytes = bytes } ∷ rest) × StatementsWrite labels more rest

-- what the statements write stands at their places, one written over another, and zeros elsewhere
abbrev pub StandsOver : Labels → List Placed → List ℕ → Type 0
StandsOver labels placed bytes =
    (chunks : List PlacedBytes) × StatementsWrite labels placed chunks
    × ((k : ℕ) → slice_index bytes k ≡ byte_over 0 chunks k)

-- these are the bytes that the statements write, up to the last one
abbrev pub HasBytes : Labels → List Placed → List ℕ → Type 0
HasBytes labels placed bytes =
    (chunks : List PlacedBytes) × StatementsWrite labels placed chunks × IsWritten chunks bytes

-- what was answered of a statement: true where its bytes were written at its place, or false where
-- it writes none
abbrev pub WritesOne : Labels → Placed → List ℕ → Bool → List ℕ → Type 0
WritesOne labels placed old true new =
    (own : List ℕ) × StatementGives labels placed.place placed.part.content own
    × IsOver placed.place own old new
WritesOne labels placed old false new = GivesNothing labels placed

-- ---- labels and statements at their places

-- what the labels stand for
abbrev pub labels_of : List Placed → Labels
labels_of placed = place_of placed

-- the line of the last `.entry`, where what it says is no entry
abbrev pub bad_entry_of : List Placed → Option ℕ
bad_entry_of placed = bad_entry (labels_of placed) (last_entry placed)

-- The image: nothing is written twice, each name is that of a label, and each value is in its
-- range. The
-- bytes are those that the statements write, each at its place, and the entry is that of the last
-- `.entry`.
pub record IsPlacedImage (placed : List Placed) (image : PlainImage) : Type 0 where
  pub no_overlap : overlap_line placed ≡ None
  pub no_unknown : unknown_line (labels_of placed) placed ≡ None
  pub entry : entry_by (labels_of placed) (last_entry placed) ≡ Some image.entry
  pub chunks : List PlacedBytes
  pub writes : StatementsWrite (labels_of placed) placed chunks
  pub bytes : IsWritten chunks image.bytes

-- What may be answered where there is no image: a fault that there is, or want of memory, which
-- comes freely.
abbrev pub OrNoMemory : (AsmFault → Type 0) → AsmFault → Type 0
OrNoMemory Has fault = (fault ≡ NoMemory) ⊎ Has fault

-- the fault of the first kind that occurs, of those that are looked for at places
abbrev pub IsPlacedFault : List Placed → AsmFault → Type 0
IsPlacedFault placed (Overlap n) = overlap_line placed ≡ Some n
IsPlacedFault placed (UnknownName n) =
    (overlap_line placed ≡ None) × (unknown_line (labels_of placed) placed ≡ Some n)
IsPlacedFault placed (Range n) =
    (overlap_line placed ≡ None) × (unknown_line (labels_of placed) placed ≡ None)
    × IsFirst statement_line (IsOutOfRange (labels_of placed) (bad_entry_of placed)) placed n
IsPlacedFault placed NoMemory = ⊥
IsPlacedFault placed _ = ⊥

-- ---- sources

-- The image of a source: its lines are all in the grammar, no label is named twice, nothing is
-- written
-- past the limit, and its labels and statements, each at its place, have this image.
pub record IsImageOf (text : List ℕ) (image : PlainImage) : Type 0 where
  pub parts : List Part
  pub read : source_of text ≡ Ok parts
  pub no_duplicate : duplicate_line parts ≡ None
  pub not_too_long : too_long_line (layout 0 parts) ≡ None
  pub placed : IsPlacedImage (layout 0 parts) image

-- the labels and statements have this fault, and none of a kind before it
abbrev pub IsPartsFault : List Part → AsmFault → Type 0
IsPartsFault parts (Syntax n) = ⊥
IsPartsFault parts (Duplicate n) = duplicate_line parts ≡ Some n
IsPartsFault parts (TooLong n) =
    (duplicate_line parts ≡ None) × (too_long_line (layout 0 parts) ≡ Some n)
IsPartsFault parts fault =
    (duplicate_line parts ≡ None) × (too_long_line (layout 0 parts) ≡ None)
    × IsPlacedFault (layout 0 parts) fault

-- The source has this fault: its first line off the grammar, or, where all lines are in it, the
-- first
-- line with a fault of the first kind that occurs. Want of memory is no fault of a source.
abbrev pub IsFaultOf : List ℕ → AsmFault → Type 0
IsFaultOf text (Syntax n) = source_of text ≡ Err n
IsFaultOf text NoMemory = ⊥
IsFaultOf text fault = (parts : List Part) × (source_of text ≡ Ok parts) × IsPartsFault parts fault
