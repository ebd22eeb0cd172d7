-- Scripts: one line a turn.
use Rattle.std.specs.Prelude.{ℕ, List, Result, Ok}
use Rattle.text_lines.specs.Lines.{IsFirstBad, IsRows, Rows, lines_of, rows_of}
use Rattle.xom_base.specs.Results.{◌>>=◌}
use Rattle.xom_script.specs.ScriptLines.{IsScriptLine, script_line_of}
use Rattle.xom_script.specs.declared.script.Script.{Script}
use Rattle.xom_script.specs.declared.script_line.ScriptLine.{ScriptLine}

-- the text is this script: its lines in their order, blank ones passed over
abbrev pub IsScript : List ℕ → Script → Type 0
IsScript text script = IsRows IsScriptLine text script.lines

-- the line of this number is the first that writes no line of a script
abbrev pub IsBadScript : List ℕ → ℕ → Type 0
IsBadScript text bad = IsFirstBad (Rows IsScriptLine) tt 1 (lines_of text) bad

-- ---- the same as a function

-- the script of these lines
abbrev pub script_with : List ScriptLine → Script
script_with lines = record { lines = lines }

-- the script that a text is, or its first bad line
unfoldable pub script_at : List ℕ → Result Script ℕ
script_at text = do
  lines ← rows_of script_line_of text
  Ok (script_with lines)
