-- What each list of words comes to, where files tell what they hold.
use Rattle.std.specs.Prelude.{◌≡◌, ℕ, List, Option, Some, None, Result, Ok, Err}
use Rattle.cli_base.specs.declared.answer.Answer.{Answer}
use Rattle.cli_base.specs.declared.answer.OutputFile.{OutputFile}
use Rattle.cli_base.specs.declared.refusal.Refusal.{Refusal}
use Rattle.cli_base.specs.Inputs.{Held}
use Rattle.cli_base.specs.Refusals.{refusal_status, refusal_text, words_line}
use Rattle.cli_programs.specs.Assembly.{Assembles}
use Rattle.cli_programs.specs.Programs.{disasm_of, plain_of, seal_answer}
use Rattle.xom_cli.specs.Rows.{Asm, Debug, Disasm, Judge, Plain, Row, Run, Seal, Trace, row_of_words}
use Rattle.cli_debug.specs.Debug.{debug_of}
use Rattle.cli_judge.specs.Judge.{judge_of}
use Rattle.cli_trace.specs.Run.{run_answer}
use Rattle.cli_trace.specs.Trace.{trace_of}

-- what a row's command comes to: its answer, or why it isn't carried out
abbrev pub IsOutcome : Row → Held → Result Answer Refusal → Type 0
IsOutcome (Asm source image) held result = Assembles source image held result
IsOutcome (Disasm image) held result = disasm_of held image ≡ result
IsOutcome (Plain image steps received) held result = plain_of held image steps received ≡ result
IsOutcome (Seal image key id machine sealed) held result =
    seal_answer held image key id machine sealed ≡ result
IsOutcome (Run run) held result = run_answer held run ≡ result
IsOutcome (Trace run journal) held result = trace_of held run journal ≡ result
IsOutcome (Judge run journal) held result = judge_of held run journal ≡ result
IsOutcome (Debug run commands) held result = debug_of held run commands ≡ result

-- what is printed, the file that is written, if there is one, and the status
pub record Printed : Type 0 where
  pub text : List ℕ
  pub file : Option OutputFile
  pub status : ℕ

-- what is printed of words that no command has: the line that lists the commands, with status 1
abbrev pub printed_words : Printed
printed_words = record { text = words_line; file = None; status = 1 }

-- what is printed of an answer, or of a refusal
abbrev pub printed_text : Result Answer Refusal → Printed
printed_text (Ok answer) = record { text = answer.text; file = answer.file; status = answer.status }
printed_text (Err refusal) = record {
  text = refusal_text refusal;
  file = None;
  status =
      refusal_status refusal;
}

-- what is printed of words that match a row, or none
abbrev pub IsPrintedBy : Option Row → Held → Printed → Type 0
IsPrintedBy None held p = p ≡ printed_words
IsPrintedBy (Some row) held p =
    (result : Result Answer Refusal) × IsOutcome row held result × (p ≡ printed_text result)

-- This is what words print and write, and the status that they end with, over files that hold this.
unfoldable pub IsPrinted : List (List ℕ) → Held → Printed → Type 0
IsPrinted words held p = IsPrintedBy (row_of_words words) held p
