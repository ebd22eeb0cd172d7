-- The faults of a source that are looked for over the whole text, kind by kind.
use Rattle.std.specs.Prelude.{◌≡◌, ℕ, ◌+◌, Bool, false, ◌&&◌, ◌⊎◌, nat_lt, if◌then◌else◌, List, [], ◌∷◌, ◌++◌, Option, Some, None, is_none, option_map, find, Result, Ok, Err}
use Rattle.std.specs.Option.{option_map_or, option_or}
use Rattle.std.specs.List.{list_any}
use Rattle.std.specs.Str.{bytes_eq}
use Rattle.asm_source.specs.declared.argument.Argument.{Argument}
use Rattle.asm_source.specs.declared.argument.Argument.TheVariants as argument
use Rattle.asm_source.specs.declared.argument.Value.{Value}
use Rattle.asm_source.specs.declared.argument.Value.TheVariants as values
use Rattle.asm_source.specs.declared.content.Content.{Content}
use Rattle.asm_source.specs.declared.content.Content.TheVariants.{Label, Words, Entry, LoadAddress, Instruction}
use Rattle.asm_source.specs.declared.content.Part.{Part}
use Rattle.mips_asm.specs.declared.fault.AsmFault.{AsmFault}
use Rattle.mips_asm.specs.declared.fault.AsmFault.TheVariants.{NoMemory}
use Rattle.mips_asm.specs.Places.{Placed}
use Rattle.mips_asm.specs.Layout.{is_too_long}

-- The line of the first element that is bad, as it stands behind those before it.
unfoldable pub first_fault : {X : Type 0} → (X → ℕ) → (List X → X → Bool) → List X → List X
    → Option ℕ
first_fault line bad before [] = None
first_fault line bad before (x ∷ xs) =
    if bad before x then Some (line x) else first_fault line bad (before ++ x ∷ []) xs

-- the line in which a label or a statement stands
abbrev pub statement_line : Placed → ℕ
statement_line placed = placed.part.line

-- What a pass answers that looks for this kind of fault: the fault, where there is one. Want of
-- memory
-- comes freely.
abbrev pub AnswersPass : {A : Type 0} → (ℕ → AsmFault) → Option ℕ → Result A AsmFault → Type 0
AnswersPass kind found (Ok value) = found ≡ None
AnswersPass kind found (Err fault) =
    (fault ≡ NoMemory) ⊎ ((n : ℕ) × (found ≡ Some n) × (fault ≡ kind n))

-- ---- Duplicate: a label that was named before

-- the name, if it is a label
abbrev pub label_said : Content → Option (List ℕ)
label_said (Label name) = Some name
label_said _ = None

-- it is the label of this name
abbrev pub is_label : List ℕ → Part → Bool
is_label name part = option_map_or (λ label. bytes_eq label name) (label_said part.content) false

-- it is a label, and one of the same name stands before it
abbrev pub repeats : List Part → Part → Bool
repeats before part =
    option_map_or (λ name. list_any (is_label name) before) (label_said part.content) false

-- the first line with a label that was named before
abbrev pub duplicate_line : List Part → Option ℕ
duplicate_line parts = first_fault (λ (part : Part). part.line) repeats [] parts

-- ---- TooLong: a byte past the limit

-- the first line that writes a byte past the limit, or none
abbrev pub too_long_line : List Placed → Option ℕ
too_long_line placed = option_map statement_line (find is_too_long placed)

-- ---- Overlap: a place that was written before

-- both write bytes, and neither is over before the other begins
abbrev pub meets : Placed → Placed → Bool
meets a b =
    (nat_lt 0 a.size && nat_lt 0 b.size) && (nat_lt a.place (b.place + b.size) && nat_lt b.place
    (a.place + a.size))

-- the statement writes a byte that one of these wrote before
abbrev pub overlaps : List Placed → Placed → Bool
overlaps before placed = list_any (meets placed) before

-- the first line that writes a byte for a second time, or none
abbrev pub overlap_line : List Placed → Option ℕ
overlap_line placed = first_fault statement_line overlaps [] placed

-- ---- UnknownName: a name that no label has

-- the place of the label of this name, or none; where several have it, of the last
unfoldable pub place_of : List Placed → List ℕ → Option ℕ
place_of [] name = None
place_of (placed ∷ more) name =
    option_or (place_of more name) (if is_label name placed.part then Some placed.place else None)

-- What the names stand for.
abbrev pub Labels : Type 0
Labels = List ℕ → Option ℕ

-- the value is the name of no label
abbrev pub value_unknown : Labels → Value → Bool
value_unknown labels (values.Number n) = false
value_unknown labels (values.Label name) = is_none (labels name)

-- a value in the operand is the name of no label
abbrev pub argument_unknown : Labels → Argument → Bool
argument_unknown labels (argument.Value v) = value_unknown labels v
argument_unknown labels (argument.Offset v r) = value_unknown labels v
argument_unknown labels _ = false

-- a value of the statement is the name of no label
abbrev pub content_unknown : Labels → Content → Bool
content_unknown labels (Words vs) = list_any (value_unknown labels) vs
content_unknown labels (Entry v) = value_unknown labels v
content_unknown labels (LoadAddress r name) = is_none (labels name)
content_unknown labels (Instruction name arguments) = list_any (argument_unknown labels) arguments
content_unknown labels _ = false

-- the statement names a label that there isn't
abbrev pub is_unknown : Labels → Placed → Bool
is_unknown labels placed = content_unknown labels placed.part.content

-- the first line that names a label that there isn't, or none
abbrev pub unknown_line : Labels → List Placed → Option ℕ
unknown_line labels placed = option_map statement_line (find (is_unknown labels) placed)
