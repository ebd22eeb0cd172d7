-- Lines of a text, and what a format that goes line by line makes of them.
use Rattle.std.specs.Prelude.{◌≡◌, ◌⊎◌, ℕ, ◌+◌, ◌==◌, Bool, if◌then◌else◌, List, [], ◌∷◌, ◌++◌, length, Option, Some, None, option_map, Result, Ok, Err, IfOk, MatchResult}
use Rattle.std.specs.List.{onto_first}
use Rattle.std.specs.Option.{option_to_list}
use Rattle.xom_base.specs.Memory.{OrOut}
use Rattle.text_lines.specs.Words.{words_of}
use Rattle.text_lines.specs.declared.lines.LineFault.{LineFault}
use Rattle.text_lines.specs.declared.lines.LineFault.TheVariants as line_fault
use Rattle.text_lines.specs.declared.lines.TextFault.{TextFault}
use Rattle.text_lines.specs.declared.lines.TextFault.TheVariants as text_fault

-- Byte 10 ends a line. Where the text doesn't end with it, what is left is a line too.
abbrev pub lines_of : List ℕ → List (List ℕ)
lines_of [] = []
lines_of (byte ∷ bytes) =
    if byte == 10 then [] ∷ lines_of bytes else onto_first byte (lines_of bytes)

-- ---- formats: relations

-- What a format says of one line: in this state, the line of this number and these bytes has this
-- value, or none where it is passed over, and leaves this state.
abbrev pub Format : Type 0 → Type 0 → Type 1
Format S X = S → ℕ → List ℕ → Option X → S → Type 0

-- The lines, of which the first has this number, have these values in their order: from one state
-- to
-- the other.
abbrev pub Reads : {S X : Type 0} → Format S X → S → ℕ → List (List ℕ) → List X → S → Type 0
Reads {S} {X} format s n [] values last = (values ≡ []) × (last ≡ s)
Reads {S} {X} format s n (line ∷ lines) values last =
    (value : Option X) × (next : S) × (more : List X) × format s n line value next
    × (values ≡ option_to_list value ++ more) × Reads format next (n + 1) lines more last

-- The line of this number is the first bad one of lines that begin with number n: those before it
-- are
-- read, and then the format gives it no value and doesn't pass it over.
pub record IsFirstBad {S X : Type 0} (format : Format S X) (s : S) (n : ℕ) (lines : List (List ℕ))
    (bad : ℕ) : Type 0 where
  pub before : List (List ℕ)
  pub line : List ℕ
  pub after : List (List ℕ)
  pub values : List X
  pub state : S
  pub whole : lines ≡ before ++ (line ∷ after)
  pub number : bad ≡ n + length before
  pub reads : Reads format s n before values state
  pub has_none : (value : Option X) (next : S) → format state bad line value next → ⊥

-- A format whose lines are told by their words: a line with none is passed over, and changes
-- nothing.
abbrev pub OfWords : {S X : Type 0} → (S → ℕ → List (List ℕ) → X → S → Type 0) → Format S X
OfWords row s n line None next = (words_of line ≡ []) × (next ≡ s)
OfWords row s n line (Some value) next = row s n (words_of line) value next

-- The same, where what stands in a line says its value, wherever it stands.
abbrev pub Rows : {X : Type 0} → (List (List ℕ) → X → Type 0) → Format (Unit {0}) X
Rows row = OfWords (λ s n words value next. row words value)

-- ---- texts: relations

-- The text is in the format, with this value: its lines are read from the first state on, and the
-- value
-- is made of theirs and of the last state.
abbrev pub IsText : {S X A : Type 0} → Format S X → (List X → S → A) → S → List ℕ → A → Type 0
IsText {S} {X} format make first text value =
    (values : List X) × (last : S) × Reads format first 1 (lines_of text) values last
    × (value ≡ make values last)

-- The same, where a text ends in these states alone.
abbrev pub IsWholeText : {S X A : Type 0} → Format S X → (S → Type 0) → (List X → S → A) → S
    → List ℕ → A → Type 0
IsWholeText {S} {X} format Ends make first text value =
    (values : List X) × (last : S) × (Reads format first 1 (lines_of text) values last × Ends last)
    × (value ≡ make values last)

-- The text has these values: one a line, in their order, blank lines passed over.
abbrev pub IsRows : {X : Type 0} → (List (List ℕ) → X → Type 0) → List ℕ → List X → Type 0
IsRows row text values = Reads (Rows row) tt 1 (lines_of text) values tt

-- All lines are read, and the text may not end behind them: the line of this number, behind the
-- last
-- one, is missing. An empty line counts, and a line end that is missing at the end makes no further
-- line.
pub record EndsEarly {S X : Type 0} (format : Format S X) (Ends : S → Type 0) (first : S)
    (text : List ℕ) (bad : ℕ) : Type 0 where
  pub values : List X
  pub state : S
  pub number : bad ≡ 1 + length (lines_of text)
  pub reads : Reads format first 1 (lines_of text) values state
  pub goes_on : Ends state → ⊥

-- the first bad line of a text: one of its own, or the one behind the last where it ends too early
abbrev pub IsFirstBadOf : {S X : Type 0} → Format S X → (S → Type 0) → S → List ℕ → ℕ → Type 0
IsFirstBadOf format Ends first text bad =
    IsFirstBad format first 1 (lines_of text) bad ⊎ EndsEarly format Ends first text bad

-- ---- formats: functions

-- What a format makes of one line: nothing where it is bad, else the value if it has one, and the
-- next state.
abbrev pub LineStep : Type 0 → Type 0 → Type 0
LineStep S X = S → ℕ → List ℕ → Option (Option X × S)

-- values, in front of those of the lines behind them
abbrev pub with_front : {S X : Type 0} → List X → Result (List X × S) ℕ → Result (List X × S) ℕ
with_front front (Ok more) = Ok (front ++ more.0, more.1)
with_front front (Err bad) = Err bad

-- what follows of one line
abbrev pub go_on_behind_line : {S X : Type 0} → ℕ → Option (Option X × S) → (S → Result (List X × S) ℕ)
    → Result (List X × S) ℕ
go_on_behind_line n None more = Err n
go_on_behind_line n (Some read) more = with_front (option_to_list read.0) (more read.1)

-- What lines give, of which the first has this number: their values and the last state, or the
-- number
-- of the first bad one.
unfoldable pub read_from : {S X : Type 0} → LineStep S X → S → ℕ → List (List ℕ)
    → Result (List X × S) ℕ
read_from step s n [] = Ok ([], s)
read_from step s n (line ∷ lines) =
    go_on_behind_line n (step s n line) (λ next. read_from step next (n + 1) lines)

-- what lines give, of which the first has number 1, where the line of this number is missing if the
-- text may not end behind them
abbrev pub at_end : {S X : Type 0} → (S → Bool) → ℕ → Result (List X × S) ℕ → Result (List X × S) ℕ
at_end may_end missing (Ok read) = if may_end read.1 then Ok read else Err missing
at_end may_end missing (Err bad) = Err bad

-- what the lines of a text give that may end in some states alone
abbrev pub whole_from : {S X : Type 0} → LineStep S X → (S → Bool) → S → List ℕ
    → Result (List X × S) ℕ
whole_from step may_end first text =
    at_end may_end (1 + length (lines_of text)) (read_from step first 1 (lines_of text))

-- the value that is made of what lines give
abbrev pub made_of : {S X A : Type 0} → (List X → S → A) → Result (List X × S) ℕ → Result A ℕ
made_of make (Ok read) = Ok (make read.0 read.1)
made_of make (Err bad) = Err bad

-- the step makes of each line what the format says of it
pub record Tells {S X : Type 0} (step : LineStep S X) (format : Format S X) : Type 0 where
  pub reads : (s : S) (n : ℕ) (line : List ℕ) (value : Option X) (next : S)
      → step s n line ≡ Some (value, next) → format s n line value next
  pub only : (s : S) (n : ℕ) (line : List ℕ) (value : Option X) (next : S)
      → format s n line value next → step s n line ≡ Some (value, next)

-- what a format makes of a line with these words: one with none is passed over
abbrev pub with_words : {S X : Type 0} → (S → ℕ → List (List ℕ) → Option (X × S)) → S → ℕ
    → List (List ℕ) → Option (Option X × S)
with_words row s n [] = Some (None, s)
with_words row s n (word ∷ words) =
    option_map (λ read. (Some read.0, read.1)) (row s n (word ∷ words))

-- the step of a format that is told by the words of its lines
abbrev pub step_by_words : {S X : Type 0} → (S → ℕ → List (List ℕ) → Option (X × S)) → LineStep S X
step_by_words row s n line = with_words row s n (words_of line)

-- What the words of a line say: nothing where they are off the grammar.
abbrev pub RowReading : Type 0 → Type 0
RowReading X = List (List ℕ) → Option X

-- the same, where the words say the value, wherever the line stands
abbrev pub rows_step : {X : Type 0} → RowReading X → LineStep (Unit {0}) X
rows_step row = step_by_words (λ s n words. option_map (λ value. (value, s)) (row words))

-- what the lines of such a text give: their values alone, or the number of the first bad one
abbrev pub rows_of : {X : Type 0} → RowReading X → List ℕ → Result (List X) ℕ
rows_of row text = made_of (λ values last. values) (read_from (rows_step row) tt 1 (lines_of text))

-- ---- answers

-- What a reader answered of one line, and the state that it left. Want of memory comes freely.
abbrev pub FaultsLine : {S X : Type 0} → Option (Option X × S) → LineFault → Type 0
FaultsLine step line_fault.Bad = step ≡ None
FaultsLine step line_fault.NoMemory = Unit {0}

-- What a reader may answer of a line and leave as its state, where the definition gives this value
-- and state, or calls the line bad.
abbrev pub AnswersLine : {S X : Type 0} → Option (Option X × S) → Result (Option X) LineFault → S
    → Type 0
AnswersLine step (Ok value) next = step ≡ Some (value, next)
AnswersLine step (Err fault) next = FaultsLine step fault

-- What fault was answered of a text. Want of memory comes freely.
abbrev pub TextFaults : {A : Type 0} → Result A ℕ → TextFault → Type 0
TextFaults read (text_fault.Line bad) = read ≡ Err bad
TextFaults read text_fault.NoMemory = Unit {0}

-- What was answered of a text is what its lines give, unless memory ran out.
abbrev pub AnswersRead : {A : Type 0} → Result A ℕ → Result A TextFault → Type 0
AnswersRead read result = MatchResult result (λ value. read ≡ Ok value) (TextFaults read)

-- How the reader of a format answers, where a text is in the format with a value, and a line is its
-- first
-- bad one: what is read is in the format; what is in the format is read as that value, unless
-- memory
-- ran out; a line that is answered is the first bad one.
pub record AnswersText {A : Type 0} (IsOf : A → Type 0) (IsBad : ℕ → Type 0)
    (result : Result A TextFault) : Type 0 where
  pub found : IfOk result IsOf
  pub only : (value : A) → IsOf value → OrOut text_fault.NoMemory (Ok value) result
  pub bad : (n : ℕ) → result ≡ Err (text_fault.Line n) → IsBad n
