-- `run RUN`: the console of the run that `trace RUN` makes, with the status of that trace.
use Rattle.std.specs.Prelude.{ℕ, List, None, Result, Ok}
use Rattle.cli_base.specs.declared.answer.Answer.{Answer}
use Rattle.cli_base.specs.declared.refusal.Refusal.{Refusal}
use Rattle.cli_base.specs.Inputs.{◌>>=◌, Held}
use Rattle.cli_runs.specs.declared.parts.Parts.{Parts}
use Rattle.cli_runs.specs.Parts.{parts_of}
use Rattle.run_text.specs.Console.{console_of}
use Rattle.cli_trace.specs.Trace.{last_record, report_of, trace_status}

-- the console alone, with the status of the trace
unfoldable pub console_run : Parts → Answer
console_run parts =
    record {
      text = console_of (last_record parts).core.entries;
      file = None;
      status =
          trace_status (report_of parts) (last_record parts);
    }

-- the answer of the command
unfoldable pub run_answer : Held → List ℕ → Result Answer Refusal
run_answer held run = do
  parts ← parts_of held run
  Ok (console_run parts)
