-- Run files: what a run is made of, in one order of lines.
use Rattle.std.specs.Prelude.{ℕ, ◌+◌, List, length, Option, Some, Result, Ok, Err}
use Rattle.xom_base.specs.Options.{◌>>=◌}
use Rattle.text_lines.specs.Lines.{Format, IsFirstBadOf, LineStep, OfWords, Reads, lines_of, read_from, step_by_words}
use Rattle.xom_script.specs.RunLines.{IsRunLine, run_line_of}
use Rattle.xom_script.specs.RunOrder.{Follows, IsWhole, after_line}
use Rattle.xom_script.specs.declared.progress.Progress.{Progress}
use Rattle.xom_script.specs.declared.progress.Progress.TheVariants as progress
use Rattle.xom_script.specs.declared.run_file.RunFile.{RunFile}
use Rattle.xom_script.specs.declared.run_line.RunLine.{RunLine}

-- the words write a line that may stand here, as the line of this number
abbrev pub IsRunRow : Progress → ℕ → List (List ℕ) → Unit {0} → Progress → Type 0
IsRunRow before n words value after =
    (line : RunLine) × IsRunLine words line × Follows before n line after

-- the format: a line gives no value, and leaves what the lines so far have said
abbrev pub RunFormat : Format Progress (Unit {0})
RunFormat = OfWords IsRunRow

-- the text is this run file: its lines, one after another, say what it has
abbrev pub IsRunFile : List ℕ → RunFile → Type 0
IsRunFile text file =
    (rows : List (Unit {0}))
    × Reads RunFormat progress.Start 1 (lines_of text) rows (progress.Whole file)

-- the line of this number is the first that may not stand there, or it is missing behind the last
-- one
abbrev pub IsBadRun : List ℕ → ℕ → Type 0
IsBadRun text bad = IsFirstBadOf RunFormat IsWhole progress.Start text bad

-- ---- the same as a function

-- what is known of the run file behind a line of these words, where they may stand there
abbrev pub run_row_of : Progress → ℕ → List (List ℕ) → Option (Unit {0} × Progress)
run_row_of before n words = do
  line ← run_line_of words
  after ← after_line before n line
  Some (tt, after)

-- a line of a run file, as the loop over lines takes it
abbrev pub run_step : LineStep Progress (Unit {0})
run_step = step_by_words run_row_of

-- the run file that is read, where its text may end, else the line that is missing behind the last
-- one
abbrev pub whole_file : ℕ → Progress → Result RunFile ℕ
whole_file missing (progress.Whole file) = Ok file
whole_file missing progress.Start = Err missing
whole_file missing (progress.Keyed machine) = Err missing
whole_file missing (progress.Booted machine boot) = Err missing
whole_file missing (progress.Framed machine boot frames) = Err missing
whole_file missing (progress.Files draft) = Err missing
whole_file missing (progress.Kernel draft kernel number) = Err missing

-- the run file of what the loop over lines gave, or the number of its first bad line
abbrev pub run_file_from : ℕ → Result (List (Unit {0}) × Progress) ℕ → Result RunFile ℕ
run_file_from missing (Ok read) = whole_file missing read.1
run_file_from missing (Err bad) = Err bad

-- the run file that a text is, or its first bad line
unfoldable pub run_file_at : List ℕ → Result RunFile ℕ
run_file_at text =
    run_file_from (1 + length (lines_of text)) (read_from run_step progress.Start 1 (lines_of text))
