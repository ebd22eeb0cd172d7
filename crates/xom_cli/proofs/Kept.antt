-- Every call keeps its promises, however it ends.
use Rattle.std.proofs.Common.{◌≡◌, ◌≢◌, ◌⊎◌, inl, inr, ℕ, List, ◌++◌, Option, Some, None, Result, Ok, Err, take, refl, sym, ap, subst, ◌∙◌, arith}
use Rattle.std.specs.Prelude.{IfOk, IsSomeAnd, MatchOption, option_and_then}
use Rattle.xom_io.specs.declared.files.FileFault.{FileFault}
use Rattle.xom_io.specs.declared.files.FileFault.TheVariants as file_fault
use Rattle.xom_io.specs.declared.sink.SinkFault.{SinkFault}
use Rattle.xom_io.specs.declared.sink.SinkFault.TheVariants as sink_fault
use Rattle.xom_io.specs.Answers.{AppendsToSink, FilesTold, KeepsOthers, Rises, TakesAll}
use Rattle.cli_base.specs.declared.answer.Answer.{Answer}
use Rattle.cli_delivery.specs.declared.ending.Ending.{Ending}
use Rattle.cli_delivery.specs.declared.ending.Ending.TheVariants as ending
use Rattle.cli_base.specs.declared.refusal.Refusal.{Refusal}
use Rattle.cli_base.specs.declared.refusal.Refusal.TheVariants.{Unread, Bad}
use Rattle.cli_base.specs.declared.refusal.Stop.{Stop}
use Rattle.cli_base.specs.declared.refusal.Stop.TheVariants as stop
use Rattle.cli_runs.specs.declared.parts.Parts.{Parts}
use Rattle.cli_runs.specs.Parts.{parts_of}
use Rattle.cli_delivery.specs.Endings.{Disk, Finishes, IsSilent, Output, Outside, PrintsBehind, PutsFile, ending_after, ending_of_refusal, status_of}
use Rattle.xom_cli.specs.Endings.{Ends, EndsRow, EndsWords, RowFollows}
use Rattle.cli_base.specs.Commands.{IsDone}
use Rattle.cli_base.specs.Inputs.{Held, held_without}
use Rattle.xom_cli.specs.Outcome.{IsOutcome, IsPrinted, IsPrintedBy, Printed, printed_text, printed_words}
use Rattle.xom_cli.specs.Promises.{AsksForRun, ChangesOnly, FailsWriting, IsDefined, IsReadBy, IsStatus, IsSure, IsUnread, KeepsFiles, ReadCause, WordsCause, WriteCause, WritesAll, IsRunDebugged, IsUnprinted, IsJudged, IsUnput, Promises, WritesFile, WritesPrefix, WritesWhole, target_in}
use Rattle.cli_base.specs.Readings.{FilesRefuse, IsRead, Meets}
use Rattle.cli_base.specs.Refusals.{refusal_status, refusal_text, words_line}
use Rattle.xom_cli.specs.Rows.{Debug, Judge, Row, Run, Trace, row_of_words, target_of}
use Rattle.cli_debug.specs.Debug.{debug_answer}
use Rattle.run_text.specs.Console.{console_of}
use Rattle.cli_trace.specs.Run.{console_run}
use Rattle.cli_trace.specs.Trace.{GuestsFollow, NamesFinding, journal_file, last_record, report_of, trace_answer, trace_of, trace_text}
use Rattle.xom_cli.proofs.Delivered.{done_not_1, done_not_2, done_not_3, done_not_4, done_not_5, fails-rising, lacks-count, lacks-held, never-long, puts-changes, puts-count, puts-file, puts-nothing, same-changes, same-count, takes-prefix}
use Rattle.cli_trace.proofs.Statuses.{nine-names}
use Rattle.xom_cli.proofs.Targets.{commands-text, debug-answer, journal-text, judge-answer, parts-traced, run-answer, trace-answer}
use Rattle.xom_cli.proofs.Unread.{row-unread}

-- the sink took a text, and answered this
abbrev Took : Output → Output → List ℕ → Result (Unit {0}) SinkFault → Type 0
Took before after text put =
    TakesAll before.written after.written text before.faults after.faults put

module _ (words : List (List ℕ)) (before after : Outside) where
  -- ---- files as they were

  same_changes : after.disk ≡ before.disk → ChangesOnly words before after
  same_changes same = same-changes (target_in words) before.disk after.disk same

  -- what a call leaves of the files, and in the sink where one couldn't be put
  record Leaves : Type 0 where
    changes : ChangesOnly words before after
    unput : IsUnput words before after
    whole : WritesWhole words before after
    unprinted : IsUnprinted before after

  same_leaves : after.disk ≡ before.disk → Leaves
  same_leaves same = record {
    changes = same_changes same;
    unput = λ held told none. same;
    whole = λ held told calm. inl (ap (λ (d : Disk). d.held) same);
    unprinted = λ rises. absurd (same-count before.disk after.disk same rises);
  }

  -- ---- a call that isn't done

  -- what is to be shown of it; the rest speaks of calls that are done
  record Undone (status : ℕ) : Type 0 where
    answers : IsStatus status
    words_cause : WordsCause words status
    read_cause : ReadCause words before after status
    unread : IsUnread words before after status
    write_cause : WriteCause before after status
    defined : IsDefined words before status
    sure : IsSure words before after status
    all : WritesAll words before after status
    prefix : WritesPrefix words before after
    keeps : KeepsFiles before after status
    leaves : Leaves

  undone : (status : ℕ) → ¬ IsDone status → Undone status → Promises words before after status
  undone status failed said = record {
    answers = said.answers;
    words_cause = said.words_cause;
    read_cause = said.read_cause;
    unread = said.unread;
    write_cause = said.write_cause;
    done_cause = λ d. absurd (failed d);
    defined = said.defined;
    sure = said.sure;
    all = said.all;
    done_all = λ held told d. absurd (failed d);
    prefix = said.prefix;
    changes = said.leaves.changes;
    unput = said.leaves.unput;
    whole = said.leaves.whole;
    keeps = said.keeps;
    unprinted = said.leaves.unprinted;
    headline = λ held told run journal row d. absurd (failed d);
    console = λ held told run row d. absurd (failed d);
    finding_cause = λ held told run row nine. absurd (failed (inr (inr (inr (inr nine)))));
    judges = λ held told run journal row d. absurd (failed d);
    debugs = λ held told run commands row d. absurd (failed d);
  }

  -- ---- want of memory

  no_memory : WritesPrefix words before after → Leaves → Promises words before after 5
  no_memory prefix leaves = undone 5 done_not_5 (record {
    answers = inr (inr (inr (inr (inr refl))));
    words_cause = record { only = λ e. absurd (omega arith); sure = λ _. inr refl };
    read_cause = λ e. absurd (omega arith);
    unread = λ rises. inl refl;
    write_cause = λ e. absurd (omega arith);
    defined = λ held told a b c. absurd (c refl);
    sure = λ held told stays. inl refl;
    all = λ held told stays calm found. absurd (found refl);
    prefix = prefix;
    keeps = λ one. absurd (elim one [
      | inl e ↦ omega arith
      | inr other ↦
          elim other [ inl e ↦ omega arith | inr e ↦ omega arith ]
    ]);
    leaves = leaves;
  })

  silent_prefix : after.output ≡ before.output → WritesPrefix words before after
  silent_prefix same held told = inl (ap (λ (o : Output). o.written) same)

  silent : after.disk ≡ before.disk → (result : Ending)
      → IsSilent before.output after.output ending.NoMemory result
      → Promises words before after (status_of result)
  silent same result is =
      subst (λ e. Promises words before after (status_of e)) (sym is.0)
      (no_memory (silent_prefix is.1) (same_leaves same))

  -- ---- a text that is defined

  -- some first bytes of it were written
  part_prefix : (said : List ℕ)
      → ((held : Held) → before.disk.held ≡ Some held → (p : Printed) × IsPrinted words held p
      × WritesFile before.disk after.disk p.file × (p.text ≡ said))
      → (put : Result (Unit {0}) SinkFault) → Took before.output after.output said put
      → WritesPrefix words before after
  part_prefix said is put takes held told =
      let p = is held told in
      let part = takes-prefix _ _ said _ _ put takes in
      inr (inl (
        p.0,
        p.1,
        p.2,
        (
          part.0,
          subst (λ text. AppendsToSink before.output.written after.output.written
              (take part.0 text)) (sym p.3) part.1,
        ),
      ))

  -- no file was written
  no_file : after.disk ≡ before.disk → after.disk.held ≡ before.disk.held
  no_file same = ap (λ (d : Disk). d.held) same

  -- where no count rose it was put whole
  whole_put : (said : List ℕ) (put : Result (Unit {0}) SinkFault)
      → Took before.output after.output said put → put ≢ Err sink_fault.NoMemory
      → ¬ Rises before.output.faults after.output.faults
      → AppendsToSink before.output.written after.output.written said
  whole_put said (Ok done) takes found calm = takes.1
  whole_put said (Err sink_fault.Failed) takes found calm = absurd (calm takes.2)
  whole_put said (Err sink_fault.NoMemory) takes found calm = absurd (found refl)

  -- ---- words that match no row
  module _ (none : row_of_words words ≡ None) where
    words_printed : (held : Held) → IsPrinted words held printed_words
    unfolding IsPrinted
    words_printed held = subst (λ o. IsPrintedBy o held printed_words) (sym none) refl

    words_prefix : after.disk ≡ before.disk → (put : Result (Unit {0}) SinkFault)
        → Took before.output after.output words_line put → WritesPrefix words before after
    words_prefix same put takes =
        part_prefix words_line
        (λ held told. (printed_words, words_printed held, no_file same, refl)) put takes

    words_said : after.disk ≡ before.disk → after.reads ≡ before.reads
        → (put : Result (Unit {0}) SinkFault) → put ≢ Err sink_fault.NoMemory
        → Took before.output after.output words_line put → Promises words before after 1
    words_said same stays put found takes = undone 1 done_not_1 (record {
      answers = inr (inl refl);
      words_cause = record { only = λ _. none; sure = λ _. inl refl };
      read_cause = λ e. absurd (omega arith);
      unread = λ rises. absurd (omega arith);
      write_cause = λ e. absurd (omega arith);
      defined = λ held told a b c. (printed_words, words_printed held, refl);
      sure = λ held told stays. inr (printed_words, words_printed held, inl refl);
      all = λ held told stays calm _. (
        printed_words,
        words_printed held,
        whole_put words_line put
            takes found (λ rises. calm (inl rises)),
        ap (λ (d : Disk). d.held) same,
      );
      prefix = words_prefix same put takes;
      keeps = λ _. same;
      leaves = same_leaves same;
    })

    words_end : after.disk ≡ before.disk → after.reads ≡ before.reads
        → (put : Result (Unit {0}) SinkFault) → Took before.output after.output words_line put
        → Promises words before after (status_of (ending_after ending.NoRow ending.NoRow put))
    words_end same stays (Ok done) takes = words_said same stays (Ok done) (λ e. absurd (cc)) takes
    words_end same stays (Err sink_fault.Failed) takes =
        words_said same stays (Err sink_fault.Failed) (λ e. absurd (cc)) takes
    words_end same stays (Err sink_fault.NoMemory) takes =
        no_memory (words_prefix same (Err sink_fault.NoMemory) takes) (same_leaves same)

  -- ---- words of a row
  module _ (row : Row) (is_row : row_of_words words ≡ Some row) where
    row_printed : (held : Held) (result : Result Answer Refusal) → IsOutcome row held result
        → IsPrinted words held (printed_text result)
    unfolding IsPrinted
    row_printed held result is =
        subst (λ o. IsPrintedBy o held (printed_text result)) (sym is_row) (result, is, refl)

    has_row : ¬ (row_of_words words ≡ None)
    has_row none = cc

    row_target : target_in words ≡ target_of row
    row_target = ap (λ o. option_and_then target_of o) is_row

    -- ---- a command that was carried out
    module _ (answer : Answer) (done : IsDone answer.status) (stays : after.reads ≡ before.reads)
        (wanted : (held : Held) → before.disk.held ≡ Some held → IsOutcome row held (Ok answer))
        (follows : RowFollows before.disk.held row) where
      answer_printed : (held : Held) → before.disk.held ≡ Some held
          → IsPrinted words held (printed_text (Ok answer))
      answer_printed held told = row_printed held (Ok answer) (wanted held told)

      answer_prefix : (u : Unit {0}) → PutsFile before.disk after.disk answer.file (Ok u)
          → (put : Result (Unit {0}) SinkFault) → Took before.output after.output answer.text put
          → WritesPrefix words before after
      answer_prefix u puts put takes =
          part_prefix answer.text
          (λ held told. (
            printed_text (Ok answer),
            answer_printed held told,
            puts-file before.disk
                after.disk answer.file u puts,
            refl,
          ))
          put takes

      answer_changes : (put : Result (Unit {0}) FileFault)
          → PutsFile before.disk after.disk answer.file put → ChangesOnly words before after
      answer_changes put puts =
          subst (λ (o : Option (List ℕ)). MatchOption o (after.disk.held ≡ before.disk.held)
          (KeepsOthers before.disk.held after.disk.held)) (sym row_target)
          (puts-changes row answer before.disk after.disk put wanted answer.file refl puts)

      answer_unput : (put : Result (Unit {0}) FileFault)
          → PutsFile before.disk after.disk answer.file put → IsUnput words before after
      answer_unput put puts held told none =
          puts-nothing row answer before.disk after.disk put wanted answer.file refl puts held told
          (sym row_target ∙ none)

      answer_whole : (put : Result (Unit {0}) FileFault)
          → PutsFile before.disk after.disk answer.file put → WritesWhole words before after
      answer_whole (Ok u) puts held told calm =
          inr (
            printed_text (Ok answer),
            answer_printed held told,
            puts-file before.disk after.disk
                answer.file u puts,
          )
      answer_whole (Err file_fault.Failed) puts held told calm =
          absurd (calm (fails-rising before.disk after.disk answer.file puts))
      answer_whole (Err file_fault.TooLong) puts held told calm =
          absurd (never-long before.disk after.disk answer.file puts)
      answer_whole (Err file_fault.NoMemory) puts held told calm =
          inl (lacks-held before.disk after.disk answer.file puts)

      answer_leaves : (put : Result (Unit {0}) FileFault)
          → PutsFile before.disk after.disk answer.file put → IsUnprinted before after → Leaves
      answer_leaves put puts unprinted = record {
        changes = answer_changes put puts;
        unput =
            answer_unput put puts;
        whole = answer_whole put puts;
        unprinted = unprinted;
      }

      -- the command is that of this row
      is_wanted : (asked : Row) → row_of_words words ≡ Some asked → (held : Held)
          → before.disk.held ≡ Some held → IsOutcome asked held (Ok answer)
      is_wanted asked named held told =
          let same : row ≡ asked = cc in
          subst (λ r. IsOutcome r held (Ok answer)) same (wanted held told)

      as_asked : (asked : Row) → row_of_words words ≡ Some asked → RowFollows before.disk.held asked
      as_asked asked named =
          let same : row ≡ asked = cc in
          subst (RowFollows before.disk.held) same follows

      headline_here : AppendsToSink before.output.written after.output.written answer.text
          → WritesFile before.disk after.disk answer.file → (held : Held)
          → before.disk.held ≡ Some held → (run : List ℕ) (journal : Option (List ℕ))
          → row_of_words words ≡ Some (Trace run journal)
          → (parts : Parts) × (parts_of held run ≡ Ok parts) × AppendsToSink before.output.written
          after.output.written (trace_text (report_of parts) (last_record parts))
          × WritesFile before.disk after.disk
          (journal_file journal (last_record parts).core.entries) × GuestsFollow parts
      unfolding trace_answer
      headline_here whole put held told run journal named =
          let found = trace-answer held run journal answer (is_wanted (Trace run journal) named held
          told) in (
            found.0,
            found.1,
            subst (λ (a : Answer). AppendsToSink before.output.written after.output.written a.text)
                found.2 whole,
            subst (λ (a : Answer). WritesFile before.disk after.disk a.file) found.2 put,
            as_asked (Trace run journal) named held told found.0 found.1,
          )

      console_here : AppendsToSink before.output.written after.output.written answer.text → (held : Held)
          → before.disk.held ≡ Some held → (run : List ℕ) → row_of_words words ≡ Some (Run run)
          → (parts : Parts) × (parts_of held run ≡ Ok parts)
          × (trace_of held run None ≡ Ok (trace_answer None parts))
          × (answer.status ≡ (trace_answer None parts).status)
          × AppendsToSink before.output.written after.output.written
          (console_of (last_record parts).core.entries) × GuestsFollow parts
      unfolding trace_answer console_run
      console_here whole held told run named =
          let found = run-answer held run answer (is_wanted (Run run) named held told) in (
            found.0,
            found.1,
            parts-traced held run None found.0 found.1,
            ap (λ (a : Answer). a.status) found.2,
            subst (λ (a : Answer). AppendsToSink before.output.written after.output.written a.text)
                found.2 whole,
            as_asked (Run run) named held told found.0 found.1,
          )

      finding_here : answer.status ≡ 9 → (held : Held) → before.disk.held ≡ Some held
          → (run : List ℕ) → AsksForRun words run
          → (parts : Parts) × (parts_of held run ≡ Ok parts) × NamesFinding (report_of parts)
      unfolding trace_answer console_run
      finding_here nine held told run (inl named) =
          let found = run-answer held run answer (is_wanted (Run run) named held told) in (
            found.0,
            found.1,
            nine-names found.0 (as_asked (Run run) named held told found.0 found.1)
                (sym (ap (λ (a : Answer). a.status) found.2) ∙ nine),
          )
      finding_here nine held told run (inr (journal, named)) =
          let found = trace-answer held run journal answer (is_wanted (Trace run journal) named held
          told) in (
            found.0,
            found.1,
            nine-names found.0 (as_asked (Trace run journal) named held told
                found.0 found.1) (sym (ap (λ (a : Answer). a.status) found.2) ∙ nine),
          )

      judges_here : AppendsToSink before.output.written after.output.written answer.text → (held : Held)
          → before.disk.held ≡ Some held → (run journal : List ℕ)
          → row_of_words words ≡ Some (Judge run journal)
          → IsJudged held before after run journal answer.status
      judges_here whole held told run journal named =
          let found = judge-answer held run journal answer (is_wanted (Judge run journal) named held
          told) in
          let text = journal-text held journal found.2 found.5 in
          record {
            file = found.0;
            owners = found.1;
            text = text.0;
            entries = found.2;
            file_is = found.3;
            owners_are = found.4;
            text_is = text.1;
            entries_are = text.2;
            status_is = ap (λ (a : Answer). a.status) found.6;
            prints = subst (λ (a : Answer). AppendsToSink before.output.written after.output.written
                a.text) found.6 whole;
          }

      debugs_here : AppendsToSink before.output.written after.output.written answer.text → (held : Held)
          → before.disk.held ≡ Some held → (run commands : List ℕ)
          → row_of_words words ≡ Some (Debug run commands)
          → IsRunDebugged held before after run commands answer.status
      unfolding debug_answer
      debugs_here whole held told run commands named =
          let found = debug-answer held run commands answer (is_wanted (Debug run commands) named
          held told) in
          let text = commands-text held commands found.1 found.3 in
          record {
            parts = found.0;
            text = text.0;
            list = found.1;
            parts_are = found.2;
            text_is = text.1;
            list_is = text.2;
            status_is = ap (λ (a : Answer). a.status) found.4;
            prints = subst (λ (a : Answer). AppendsToSink before.output.written after.output.written
                a.text) found.4 whole;
          }

      -- the file was put, and all of the text
      delivered : (u : Unit {0}) → PutsFile before.disk after.disk answer.file (Ok u)
          → (v : Unit {0}) → Took before.output after.output answer.text (Ok v)
          → Promises words before after answer.status
      delivered u puts v takes = record {
        answers = inl done;
        words_cause = record {
          only = λ e. absurd (done_not_1 (subst IsDone e done));
          sure =
              λ none. absurd (has_row none);
        };
        read_cause = λ e. absurd (done_not_2 (subst IsDone e done));
        unread = λ rises. absurd (omega arith);
        write_cause = λ e. absurd (done_not_3 (subst IsDone e done));
        done_cause = λ _. (stays, puts-count before.disk after.disk answer.file u puts, takes.0);
        defined = λ held told a b c. (printed_text (Ok answer), answer_printed held told, refl);
        sure = λ held told _. inr (printed_text (Ok answer), answer_printed held told, inl refl);
        all = λ held told _ calm found. (
          printed_text (Ok answer),
          answer_printed held told,
          takes.1,
          puts-file before.disk after.disk answer.file u puts,
        );
        prefix = answer_prefix u puts (Ok v) takes;
        changes = answer_changes (Ok u) puts;
        unput = answer_unput (Ok u) puts;
        whole = answer_whole (Ok u) puts;
        keeps = λ one. absurd (elim one [
          | inl e ↦ done_not_1 (subst IsDone e done)
          | inr other ↦
              elim other [
                | inl e ↦ done_not_2 (subst IsDone e done)
                | inr e ↦
                    done_not_4 (subst IsDone e done)
              ]
        ]);
        unprinted = λ rises. absurd (let is : after.disk.writes ≡ before.disk.writes =
            puts-count before.disk after.disk answer.file u puts in omega arith);
        done_all = λ held told _. (
          printed_text (Ok answer),
          answer_printed held told,
          refl,
          takes.1,
          puts-file before.disk after.disk answer.file u puts,
        );
        headline = λ held told run journal named _. headline_here takes.1
            (puts-file before.disk after.disk answer.file u puts) held told run journal named;
        console = λ held told run named _. console_here takes.1 held told run named;
        finding_cause = λ held told run named nine. finding_here nine held told run named;
        judges = λ held told run journal named _. judges_here takes.1 held told run journal named;
        debugs = λ held told run commands named _. debugs_here takes.1 held told run commands named;
      }

      -- the file or the text couldn't be written
      broken : FailsWriting before after → WritesPrefix words before after → Leaves
          → Promises words before after 3
      broken fails prefix leaves = undone 3 done_not_3 (record {
        answers = inr (inr (inr (inl refl)));
        words_cause = record {
          only = λ e. absurd (omega arith);
          sure =
              λ none. absurd (has_row none);
        };
        read_cause = λ e. absurd (omega arith);
        unread = λ rises. absurd (omega arith);
        write_cause = λ _. fails;
        defined = λ held told a b c. absurd (b refl);
        sure = λ held told _. inr (
          printed_text (Ok answer),
          answer_printed held told,
          inr (refl, fails, done),
        );
        all = λ held told _ calm found. absurd (calm fails);
        prefix = prefix;
        keeps = λ one. absurd (elim one [
          | inl e ↦ omega arith
          | inr other ↦
              elim other [ inl e ↦ omega arith | inr e ↦ omega arith ]
        ]);
        leaves = leaves;
      })

      uncounted : after.disk.writes ≡ before.disk.writes → IsUnprinted before after
      uncounted is rises = absurd (omega arith)

      text_end : (u : Unit {0}) → PutsFile before.disk after.disk answer.file (Ok u)
          → (put : Result (Unit {0}) SinkFault) → Took before.output after.output answer.text put
          → Promises words before after
          (status_of (ending_after (ending.Done answer.status) ending.WriteFault put))
      text_end u puts (Ok v) takes = delivered u puts v takes
      text_end u puts (Err sink_fault.Failed) takes =
          broken (inl takes.2) (answer_prefix u puts (Err sink_fault.Failed) takes)
          (answer_leaves (Ok u) puts
          (uncounted (puts-count before.disk after.disk answer.file u puts)))
      text_end u puts (Err sink_fault.NoMemory) takes =
          no_memory (answer_prefix u puts (Err sink_fault.NoMemory) takes)
          (answer_leaves (Ok u) puts
          (uncounted (puts-count before.disk after.disk answer.file u puts)))

      answer_end : (put : Result (Unit {0}) FileFault) (result : Ending)
          → PutsFile before.disk after.disk answer.file put
          → PrintsBehind before.output after.output answer put result
          → Promises words before after (status_of result)
      answer_end (Ok u) result puts prints =
          subst (λ e. Promises words before after (status_of e)) (sym prints.2)
          (text_end u puts prints.0 prints.1)
      answer_end (Err file_fault.Failed) result puts quiet =
          subst (λ e. Promises words before after (status_of e)) (sym quiet.0)
          (broken (inr (fails-rising before.disk after.disk answer.file puts))
          (silent_prefix quiet.1) (answer_leaves (Err file_fault.Failed) puts (λ _. quiet.1)))
      answer_end (Err file_fault.TooLong) result puts quiet =
          absurd (never-long before.disk after.disk answer.file puts)
      answer_end (Err file_fault.NoMemory) result puts quiet =
          subst (λ e. Promises words before after (status_of e)) (sym quiet.0)
          (no_memory (silent_prefix quiet.1) (answer_leaves (Err file_fault.NoMemory) puts
          (uncounted (lacks-count before.disk after.disk answer.file puts))))

    -- ---- bad input
    module _ (refusal : Refusal) (bad : refusal_status refusal ≡ 4)
        (same : after.disk ≡ before.disk) (stays : after.reads ≡ before.reads) (wanted : (held : Held)
        → before.disk.held ≡ Some held → IsOutcome row held (Err refusal)) where
      bad_printed : (held : Held) → before.disk.held ≡ Some held
          → IsPrinted words held (printed_text (Err refusal))
      bad_printed held told = row_printed held (Err refusal) (wanted held told)

      bad_prefix : (put : Result (Unit {0}) SinkFault)
          → Took before.output after.output (refusal_text refusal) put → WritesPrefix words before after
      bad_prefix put takes =
          part_prefix (refusal_text refusal)
          (λ held told. (printed_text (Err refusal), bad_printed held told, no_file same, refl))
          put takes

      bad_said : (put : Result (Unit {0}) SinkFault) → put ≢ Err sink_fault.NoMemory
          → Took before.output after.output (refusal_text refusal) put → Promises words before after 4
      bad_said put found takes = undone 4 done_not_4 (record {
        answers = inr (inr (inr (inr (inl refl))));
        words_cause = record {
          only = λ e. absurd (omega arith);
          sure =
              λ none. absurd (has_row none);
        };
        read_cause = λ e. absurd (omega arith);
        unread = λ rises. absurd (omega arith);
        write_cause = λ e. absurd (omega arith);
        defined = λ held told a b c. (printed_text (Err refusal), bad_printed held told, bad);
        sure = λ held told _. inr (
          printed_text (Err refusal),
          bad_printed held told,
          inl (sym bad),
        );
        all = λ held told _ calm _. (
          printed_text (Err refusal),
          bad_printed held told,
          whole_put
              (refusal_text refusal) put takes found (λ rises. calm (inl rises)),
          ap (λ (d : Disk). d.held)
              same,
        );
        prefix = bad_prefix put takes;
        keeps = λ _. same;
        leaves = same_leaves same;
      })

      bad_end : (put : Result (Unit {0}) SinkFault)
          → Took before.output after.output (refusal_text refusal) put
          → Promises words before after
          (status_of (ending_after ending.BadInput ending.BadInput put))
      bad_end (Ok done) takes = bad_said (Ok done) (λ e. absurd (cc)) takes
      bad_end (Err sink_fault.Failed) takes =
          bad_said (Err sink_fault.Failed) (λ e. absurd (cc)) takes
      bad_end (Err sink_fault.NoMemory) takes =
          no_memory (bad_prefix (Err sink_fault.NoMemory) takes) (same_leaves same)

    -- ---- a file that can't be read
    module _ (name : List ℕ) (same : after.disk ≡ before.disk)
        (cause : Rises before.reads after.reads ⊎ IsSomeAnd before.disk.held
        (λ held. IsOutcome row held (Err (Unread name)))) (is_read : IsRead before.disk.held
        (IsOutcome row) name) where
      -- the command reads it
      read_by : (held : Held) → before.disk.held ≡ Some held → IsReadBy words held name
      read_by held told = row_printed (held_without name held) (Err (Unread name)) (is_read held told)

      -- where it is told what files hold
      told-lacks : (o : FilesTold) (held : Held) → o ≡ Some held
          → IsSomeAnd o (λ h. IsOutcome row h (Err (Unread name)))
          → IsOutcome row held (Err (Unread name))
      told-lacks None held told lacks = absurd lacks
      told-lacks (Some h) held told lacks =
          subst (λ x. IsOutcome row x (Err (Unread name))) (let here : h ≡ held = cc in here) lacks

      lacks-file : (o : FilesTold) → IsSomeAnd o (λ h. IsOutcome row h (Err (Unread name)))
          → IsSomeAnd o (λ held. (n : List ℕ) × (held n ≡ None) × IsPrinted words held
          (printed_text (Err (Unread n))))
      lacks-file None lacks = absurd lacks
      lacks-file (Some h) lacks =
          (name, row-unread row h name lacks, row_printed h (Err (Unread name)) lacks)

      unread_printed : (held : Held) → before.disk.held ≡ Some held
          → ¬ Rises before.reads after.reads
          → IsPrinted words held (printed_text (Err (Unread name)))
      unread_printed held told stays = elim cause [
        | inl rises ↦ absurd (stays rises)
        | inr lacks ↦ row_printed held (Err (Unread name)) (told-lacks before.disk.held held told
            lacks)
      ]

      unread_prefix : (put : Result (Unit {0}) SinkFault)
          → Took before.output after.output (refusal_text (Unread name)) put
          → WritesPrefix words before after
      unread_prefix put takes held told =
          let part = takes-prefix _ _ (refusal_text (Unread name)) _ _ put takes in
          elim cause [
            | inl rises ↦ inr (inr (rises, (name, read_by held told, (part.0, part.1))))
            | inr lacks ↦ inr (inl (
              printed_text (Err (Unread name)),
              row_printed held
                  (Err (Unread name)) (told-lacks before.disk.held held told lacks),
              no_file same,
              (part.0, part.1),
            ))
          ]

      unread_said : (put : Result (Unit {0}) SinkFault) → put ≢ Err sink_fault.NoMemory
          → Took before.output after.output (refusal_text (Unread name)) put
          → Promises words before after 2
      unread_said put found takes = undone 2 done_not_2 (record {
        answers = inr (inr (inl refl));
        words_cause = record {
          only = λ e. absurd (omega arith);
          sure =
              λ none. absurd (has_row none);
        };
        read_cause = λ _. elim cause [
          | inl rises ↦ inl rises
          | inr lacks ↦
              inr (lacks-file before.disk.held lacks)
        ];
        unread = λ rises. inr (
          refl,
          λ calm. (
            name,
            whole_put (refusal_text (Unread name)) put takes
                found calm,
            read_by,
          ),
        );
        write_cause = λ e. absurd (omega arith);
        defined = λ held told a b c. absurd (a refl);
        sure = λ held told stays. inr (
          printed_text (Err (Unread name)),
          unread_printed held told
              stays,
          inl refl,
        );
        all = λ held told stays calm _. (
          printed_text (Err (Unread name)),
          unread_printed held told
              stays,
          whole_put (refusal_text (Unread name)) put takes found (λ rises. calm (inl rises)),
          ap (λ (d : Disk). d.held) same,
        );
        prefix = unread_prefix put takes;
        keeps = λ _. same;
        leaves = same_leaves same;
      })

      unread_end : (put : Result (Unit {0}) SinkFault)
          → Took before.output after.output (refusal_text (Unread name)) put
          → Promises words before after (status_of (ending_after ending.Unread ending.Unread put))
      unread_end (Ok done) takes = unread_said (Ok done) (λ e. absurd (cc)) takes
      unread_end (Err sink_fault.Failed) takes =
          unread_said (Err sink_fault.Failed) (λ e. absurd (cc)) takes
      unread_end (Err sink_fault.NoMemory) takes =
          no_memory (unread_prefix (Err sink_fault.NoMemory) takes) (same_leaves same)

    -- ---- whatever was answered
    refusal_end : (refusal : Refusal) → after.disk ≡ before.disk
        → FilesRefuse before.disk.held (IsOutcome row) before.reads after.reads refusal
        → (put : Result (Unit {0}) SinkFault)
        → Took before.output after.output (refusal_text refusal) put
        → Promises words before after
        (status_of (ending_after (ending_of_refusal refusal) (ending_of_refusal refusal) put))
    refusal_end (Unread name) same why put takes = unread_end name same why.1 why.2 put takes
    refusal_end (Bad name fault) same why put takes =
        bad_end (Bad name fault) refl same why.0 why.1 put takes

    row_end : (answered : Result Answer Stop)
        → Meets before.disk.held (IsOutcome row) before.reads after.reads answered
        → (result : Ending)
        → Finishes before.disk after.disk before.output after.output answered result
        → IfOk answered (λ _. RowFollows before.disk.held row)
        → Promises words before after (status_of result)
    row_end (Ok answer) gives result finishes follows =
        answer_end answer finishes.0 gives.0 gives.1 follows finishes.1.0 result finishes.1.1
        finishes.1.2
    row_end (Err (stop.Refused refusal)) gives result finishes follows = elim finishes.1 [
      | inl quiet ↦ silent finishes.0 result quiet
      | inr prints ↦ subst (λ e. Promises words before after (status_of e)) (sym prints.2)
          (refusal_end refusal finishes.0 gives prints.0 prints.1)
    ]
    row_end (Err stop.NoMemory) gives result finishes follows = silent finishes.0 result finishes.1

  -- ---- every call
  any_end : (at : Option Row) → row_of_words words ≡ at → (result : Ending)
      → MatchOption at (EndsWords before after result) (λ row. EndsRow before after row result)
      → Promises words before after (status_of result)
  any_end None is result ends =
      subst (λ e. Promises words before after (status_of e)) (sym ends.2.2)
      (words_end is ends.0 ends.1 ends.2.0 ends.2.1)
  any_end (Some row) is result ends = row_end row is ends.0 ends.1 result ends.2 ends.3

  pub promises_kept : (result : Ending) → Ends words before after result
      → Promises words before after (status_of result)
  promises_kept result ends = any_end (row_of_words words) refl result ends
