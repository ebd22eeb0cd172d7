-- Each line adds its entry, and a bad one ends the loop.
use Rattle.std.proofs.Common.{◌≡◌, ℕ, ◌+◌, List, ◌∷◌, ◌++◌, Option, Some, None, Result, Ok, Err, length, sym, ap, ◌∙◌, append-nil, arith}
use Rattle.std.specs.Option.{option_to_list}
use Rattle.std.proofs.lemmas.Bool.{eqb-true}
use Rattle.std.proofs.lemmas.List.{nil_from_length}
use Rattle.text_lines.proofs.LineLaws.{read_from-bad, read_from-none, read_from-one}
use Rattle.text_lines.specs.Lines.{lines_of, made_of, read_from, with_front}
use Rattle.xom_base.specs.declared.entry.Entry.{Entry}
use Rattle.journal_text.specs.JournalLines.{journal_step}
use Rattle.journal_text.specs.Readings.{AnswersStep, Reading, entries_alone}
use Rattle.journal_text.proofs.ReadLaws.{step_anywhere, step_of_err, step_of_ok}
use Rattle.journal_text.proofs.reading.journal_in.Goals as goal

-- a line that is read, and those behind it
one_read : (es : List Entry) (old new : Reading) (line : List ℕ) (lines : List (List ℕ))
    (found : Option Entry) (whole : Result (List Entry × ℕ) ℕ)
    → AnswersStep (journal_step old.last 0 line) old (Ok found) new
    → with_front es (read_from journal_step old.last (old.lines + 1) (line ∷ lines)) ≡ whole
    → with_front (es ++ option_to_list found) (read_from journal_step new.last (new.lines + 1)
    lines) ≡ whole
one_read es old new line lines found whole answer before =
    let parts = step_of_ok (journal_step old.last 0 line) old new found answer in
    let one = read_from-one journal_step es old.last new.last (old.lines + 1) found line lines
    (step_anywhere old.last (old.lines + 1) 0 line ∙ parts.0) in
    rw parts.1 (sym one ∙ before)

pub loop-rest-preserved : goal.loop-rest-preserved
loop-rest-preserved c =
    let answer = rw c.in-Ok-None.field-0-is at
    (c.in-Ok-None.ensures.value c.loop-rest.invariant.good) in
    let before = rw c.first_line.ensures.lines at c.loop-rest.invariant.read in
    let parts = step_of_ok (journal_step c.loop-rest.reader.last 0 c.first_line.result.0.now)
    c.loop-rest.reader c.next.new.self None answer in
    let read = one_read c.loop-rest.journal.entries c.loop-rest.reader c.next.new.self
    c.first_line.result.0.now (lines_of c.first_line.result.1.now) None _ answer before in
    record {
      good = parts.2;
      read = rw append-nil at read;
      number = omega (arith, parts.1);
    }

pub loop-rest-preserved-in_ok-add-in-Ok-Some : goal.loop-rest-preserved-in_ok-add-in-Ok-Some
loop-rest-preserved-in_ok-add-in-Ok-Some c =
    let answer = rw c.in-Ok-Some.field-0-is at
    (c.in-Ok-Some.ensures.value c.loop-rest.invariant.good) in
    let before = rw c.first_line.ensures.lines at c.loop-rest.invariant.read in
    let parts = step_of_ok (journal_step c.loop-rest.reader.last 0 c.first_line.result.0.now)
    c.loop-rest.reader c.next.new.self (Some c.in-Ok-Some.entry) answer in
    let read = one_read c.loop-rest.journal.entries c.loop-rest.reader c.next.new.self
    c.first_line.result.0.now (lines_of c.first_line.result.1.now) (Some c.in-Ok-Some.entry)
    _ answer before in
    record {
      good = parts.2;
      read = rw c.in_ok-add-in-Ok-Some.ensures read;
      number = omega (arith, parts.1);
    }

pub returns-in-Err : goal.returns-in-Err
returns-in-Err c =
    let answer = c.in-Err.ensures.value c.loop-rest.invariant.good in
    let before = rw c.first_line.ensures.lines at c.loop-rest.invariant.read in
    let parts = step_of_err (journal_step c.loop-rest.reader.last 0 c.first_line.result.0.now)
    c.loop-rest.reader c.next.new.self c.in-Err.field-0 answer in
    let bad = read_from-bad journal_step c.loop-rest.journal.entries c.loop-rest.reader.last
    (c.loop-rest.reader.lines + 1)
    c.first_line.result.0.now (lines_of c.first_line.result.1.now)
    (step_anywhere c.loop-rest.reader.last (c.loop-rest.reader.lines + 1) 0
    c.first_line.result.0.now ∙ parts.0) in
    ap (made_of entries_alone) (sym before ∙ bad) ∙ ap Err (sym parts.1)

pub returns : goal.returns
returns c =
    let nothing = nil_from_length c.loop-rest.rest.now (eqb-true (length c.loop-rest.rest.now) 0
    (sym c.loop-rest-test.ensures)) in
    let before = rw nothing at c.loop-rest.invariant.read in
    ap (made_of entries_alone) (sym before ∙ read_from-none journal_step c.loop-rest.journal.entries
    c.loop-rest.reader.last (c.loop-rest.reader.lines + 1))
