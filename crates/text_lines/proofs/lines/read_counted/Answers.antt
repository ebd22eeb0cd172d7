-- Each line adds its value, and a bad one ends the loop.
use Rattle.std.proofs.Common.{sym, ◌∙◌, arith, length, add-zero}
use Rattle.std.proofs.lemmas.Bool.{eqb-true}
use Rattle.std.proofs.lemmas.List.{nil_from_length}
use Rattle.text_lines.proofs.LineLaws.{one_behind, read_from-bad, read_from-none, read_from-one}
use Rattle.text_lines.specs.Lines.{lines_of}
use Rattle.text_lines.proofs.lines.read_counted.Goals as goal

pub loop-rest-preserved : goal.loop-rest-preserved
loop-rest-preserved g c =
    let before = rw c.first_line.ensures.lines at c.loop-rest.invariant.read in
    let one = read_from-one g.R.LineFormat.step c.loop-rest.values.items c.loop-rest.reader
    c.read.new.self c.loop-rest.number c.in-Ok.value
    c.first_line.result.0.now (lines_of c.first_line.result.1.now) c.in-Ok.ensures in
    record {
      read = rw c.in_ok-push_value.ensures (sym one ∙ before);
      number = omega arith;
      count = one_behind c.loop-rest.number (lines_of c.loop-rest.rest.now)
          c.first_line.result.0.now (lines_of c.first_line.result.1.now) c.first_line.ensures.lines
          ∙ c.loop-rest.invariant.count;
    }

pub returns-in-Err-Bad-clause-value : goal.returns-in-Err-Bad-clause-value
returns-in-Err-Bad-clause-value g c =
    let before = rw c.first_line.ensures.lines at c.loop-rest.invariant.read in
    sym before
    ∙ read_from-bad g.R.LineFormat.step c.loop-rest.values.items c.loop-rest.reader
    c.loop-rest.number
    c.first_line.result.0.now (lines_of c.first_line.result.1.now)
    (rw c.in-Err-Bad.field-0-is at c.in-Err-Bad.ensures)

pub returns-clause-value : goal.returns-clause-value
returns-clause-value g c =
    let nothing = nil_from_length c.loop-rest.rest.now (eqb-true (length c.loop-rest.rest.now) 0
    (sym c.loop-rest-test.ensures)) in
    let before = rw nothing at c.loop-rest.invariant.read in
    sym before ∙ read_from-none g.R.LineFormat.step c.loop-rest.values.items c.loop-rest.reader
    c.loop-rest.number

pub returns-clause-number : goal.returns-clause-number
returns-clause-number g c =
    let nothing = nil_from_length c.loop-rest.rest.now (eqb-true (length c.loop-rest.rest.now) 0
    (sym c.loop-rest-test.ensures)) in
    sym (add-zero c.loop-rest.number) ∙ rw nothing at c.loop-rest.invariant.count
