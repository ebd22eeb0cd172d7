-- How a call ends, by the row of its words.
use Rattle.std.specs.Prelude.{◌≡◌, ℕ, List, Result, IfOk, MatchOption}
use Rattle.xom_io.specs.Answers.{FilesTold}
use Rattle.cli_base.specs.declared.answer.Answer.{Answer}
use Rattle.cli_base.specs.declared.refusal.Stop.{Stop}
use Rattle.cli_base.specs.Readings.{Meets}
use Rattle.cli_base.specs.Refusals.{words_line}
use Rattle.cli_delivery.specs.declared.ending.Ending.{Ending}
use Rattle.cli_delivery.specs.declared.ending.Ending.TheVariants as ending
use Rattle.cli_delivery.specs.Endings.{Finishes, Outside, Prints}
use Rattle.cli_trace.specs.Trace.{RunFollows}
use Rattle.xom_cli.specs.Outcome.{IsOutcome}
use Rattle.xom_cli.specs.Rows.{Asm, Debug, Disasm, Judge, Plain, Row, Run, Seal, Trace, row_of_words}

-- what owners may believe of a row's run, where its command makes one
abbrev pub RowFollows : FilesTold → Row → Type 0
RowFollows told (Asm source image) = Unit {0}
RowFollows told (Disasm image) = Unit {0}
RowFollows told (Plain image steps received) = Unit {0}
RowFollows told (Seal image key id machine sealed) = Unit {0}
RowFollows told (Run run) = RunFollows told run
RowFollows told (Trace run journal) = RunFollows told run
RowFollows told (Judge run journal) = Unit {0}
RowFollows told (Debug run commands) = Unit {0}

-- The row's command answered, and what it answered is delivered. Where it was carried out, owners
-- may believe what they may of its run.
abbrev pub EndsRow : Outside → Outside → Row → Ending → Type 0
EndsRow before after row result =
    (answered : Result Answer Stop) × Meets before.disk.held (IsOutcome row) before.reads
    after.reads answered × Finishes before.disk after.disk before.output after.output answered
    result
    × IfOk answered (λ _. RowFollows before.disk.held row)

-- the words matched no row, and that is printed
abbrev pub EndsWords : Outside → Outside → Ending → Type 0
EndsWords before after result =
    (after.disk ≡ before.disk) × (after.reads ≡ before.reads)
    × Prints before.output after.output words_line ending.NoRow ending.NoRow result

-- a whole call
abbrev pub Ends : List (List ℕ) → Outside → Outside → Ending → Type 0
Ends words before after result =
    MatchOption (row_of_words words) (EndsWords before after result)
    (λ row. EndsRow before after row result)
