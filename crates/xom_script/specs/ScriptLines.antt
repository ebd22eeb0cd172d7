-- The lines of a script, a row each.
use Rattle.std.specs.Prelude.{◌≡◌, ℕ, ◌^◌, ◌≤◌, ◌&&◌, nat_lt, nat_le, if◌then◌else◌, List, [], ◌∷◌, codes, Option, Some, None}
use Rattle.std.specs.Str.{bytes_eq}
use Rattle.xom_base.specs.Options.{◌>>=◌, where_holds}
use Rattle.text_lines.specs.Numbers.{WritesBelow, number_below_of}
use Rattle.xom_base.specs.declared.event.Op.{Op}
use Rattle.xom_base.specs.declared.event.Op.TheVariants as op
use Rattle.xom_script.specs.Fields.{Writes32, WritesBytes, row_by_name, write_bytes_of}
use Rattle.xom_script.specs.declared.script_line.ScriptLine.{ScriptLine}
use Rattle.xom_script.specs.declared.script_line.ScriptLine.TheVariants as line

-- the words write the operation
abbrev pub IsOp : List (List ℕ) → Op → Type 0
IsOp words (op.Install slot envelope area) =
    (s e a : List ℕ) × (words ≡ codes "install" ∷ s ∷ e ∷ a ∷ [])
    × Writes32 s slot × Writes32 e envelope × Writes32 a area
IsOp words (op.Enter slot) = (s : List ℕ) × (words ≡ codes "enter" ∷ s ∷ []) × Writes32 s slot
IsOp words (op.Resume slot signal) =
    (s n : List ℕ) × (words ≡ codes "resume" ∷ s ∷ n ∷ []) × Writes32 s slot × Writes32 n signal
IsOp words (op.Save slot reg address) =
    (s r a : List ℕ) × (words ≡ codes "save" ∷ s ∷ r ∷ a ∷ [])
    × Writes32 s slot × Writes32 r reg × Writes32 a address
IsOp words (op.Restore slot reg address) =
    (s r a : List ℕ) × (words ≡ codes "restore" ∷ s ∷ r ∷ a ∷ [])
    × Writes32 s slot × Writes32 r reg × Writes32 a address
IsOp words (op.Map slot page frame) =
    (s p f : List ℕ) × (words ≡ codes "map" ∷ s ∷ p ∷ f ∷ [])
    × Writes32 s slot × Writes32 p page × Writes32 f frame
IsOp words (op.Unmap slot page) =
    (s p : List ℕ) × (words ≡ codes "unmap" ∷ s ∷ p ∷ []) × Writes32 s slot × Writes32 p page
IsOp words (op.SetReg reg value) =
    (r v : List ℕ) × (words ≡ codes "setreg" ∷ r ∷ v ∷ []) × Writes32 r reg × Writes32 v value
IsOp words (op.Kill slot) = (s : List ℕ) × (words ≡ codes "kill" ∷ s ∷ []) × Writes32 s slot
IsOp words (op.Out byte) = (b : List ℕ) × (words ≡ codes "out" ∷ b ∷ []) × WritesBelow (2 ^ 8) b byte
IsOp words op.Halt = words ≡ codes "halt" ∷ []

-- the words write the line
abbrev pub IsScriptLine : List (List ℕ) → ScriptLine → Type 0
IsScriptLine words (line.Do op) = IsOp words op
IsScriptLine words (line.Write address bytes) =
    (a h : List ℕ) × (words ≡ codes "write" ∷ a ∷ h ∷ []) × Writes32 a address × WritesBytes h bytes
IsScriptLine words (line.Copy from to count) =
    (f t n : List ℕ) × (words ≡ codes "copy" ∷ f ∷ t ∷ n ∷ [])
    × Writes32 f from × Writes32 t to × WritesBelow 8193 n count × (1 ≤ count)
IsScriptLine words (line.Flip address mask) =
    (a m : List ℕ) × (words ≡ codes "flip" ∷ a ∷ m ∷ []) × Writes32 a address × WritesBelow (2 ^ 8) m
    mask
IsScriptLine words line.Show = words ≡ codes "show" ∷ []

-- ---- the same as a function, by the number of words

-- the lines without a number
abbrev pub rows_of_none : List (List ℕ × Option ScriptLine)
rows_of_none = (codes "halt", Some (line.Do op.Halt)) ∷ (codes "show", Some line.Show) ∷ []

-- the line of this name without a number, or none
unfoldable pub no_word_line : List ℕ → Option ScriptLine
no_word_line name = row_by_name rows_of_none name

-- the lines of one number
abbrev pub rows_of_one : ℕ → List (List ℕ × Option ScriptLine)
rows_of_one a =
    (codes "enter", Some (line.Do (op.Enter a)))
    ∷ (codes "kill", Some (line.Do (op.Kill a)))
    ∷ (codes "out", where_holds (nat_lt a 256) (line.Do (op.Out a)))
    ∷ []

-- the line of this name and one number, or none
unfoldable pub one_word_line : List ℕ → List ℕ → Option ScriptLine
one_word_line name a = do
  a ← number_below_of (2 ^ 32) a
  row_by_name (rows_of_one a) name

-- the lines of two numbers
abbrev pub rows_of_two : ℕ → ℕ → List (List ℕ × Option ScriptLine)
rows_of_two a b =
    (codes "resume", Some (line.Do (op.Resume a b)))
    ∷ (codes "unmap", Some (line.Do (op.Unmap a b)))
    ∷ (codes "setreg", Some (line.Do (op.SetReg a b)))
    ∷ (codes "flip", where_holds (nat_lt b 256) (line.Flip a b))
    ∷ []

-- the line of this name and two numbers, or none
unfoldable pub two_word_line : List ℕ → List ℕ → List ℕ → Option ScriptLine
two_word_line name a b = do
  a ← number_below_of (2 ^ 32) a
  b ← number_below_of (2 ^ 32) b
  row_by_name (rows_of_two a b) name

-- the lines of three numbers
abbrev pub rows_of_three : ℕ → ℕ → ℕ → List (List ℕ × Option ScriptLine)
rows_of_three a b c =
    (codes "install", Some (line.Do (op.Install a b c)))
    ∷ (codes "save", Some (line.Do (op.Save a b c)))
    ∷ (codes "restore", Some (line.Do (op.Restore a b c)))
    ∷ (codes "map", Some (line.Do (op.Map a b c)))
    ∷ (codes "copy", where_holds (nat_le 1 c && nat_le c 8192) (line.Copy a b c))
    ∷ []

-- the line of this name and three numbers, or none
unfoldable pub three_word_line : List ℕ → List ℕ → List ℕ → List ℕ → Option ScriptLine
three_word_line name a b c = do
  a ← number_below_of (2 ^ 32) a
  b ← number_below_of (2 ^ 32) b
  c ← number_below_of (2 ^ 32) c
  row_by_name (rows_of_three a b c) name

-- the write of the kernel at this address with these bytes, or none
unfoldable pub kernel_write_line : List ℕ → List ℕ → Option ScriptLine
kernel_write_line address bytes = do
  address ← number_below_of (2 ^ 32) address
  bytes ← write_bytes_of bytes
  Some (line.Write address bytes)

-- the line that words write, or none
unfoldable pub script_line_of : List (List ℕ) → Option ScriptLine
script_line_of (name ∷ []) = no_word_line name
script_line_of (name ∷ a ∷ []) = one_word_line name a
script_line_of (name ∷ a ∷ b ∷ []) =
    if bytes_eq name (codes "write") then kernel_write_line a b else two_word_line name a b
script_line_of (name ∷ a ∷ b ∷ c ∷ []) = three_word_line name a b c
script_line_of _ = None
