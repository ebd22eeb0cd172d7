-- Each line is heard, and a bad one ends the loop.
use Rattle.std.proofs.Common.{length, sym, arith}
use Rattle.std.proofs.lemmas.Bool.{eqb-true}
use Rattle.std.proofs.lemmas.List.{nil_from_length}
use Rattle.cli_judge.proofs.Heard.{answered, heard_bad, heard_blank, heard_entry, heard_nothing}
use Rattle.cli_judge.proofs.judge.text_judged.Goals as goal

pub loop-rest-init : goal.loop-rest-init
loop-rest-init c =
    heard_nothing c.args.machine.now c.args.owners.now c.args.text.now c.in_ok-hearing.hearing
    c.new-reader.result c.new-reader.ensures.value c.in_ok-hearing.ensures

pub loop-rest-preserved : goal.loop-rest-preserved
loop-rest-preserved c =
    heard_blank c.args.machine.now c.args.owners.now c.args.text.now c.loop-rest.hearing
    c.loop-rest.reader c.next.new.self c.first_line.result.0.now c.loop-rest.rest.now
    c.first_line.result.1.now
    c.loop-rest.invariant c.first_line.ensures.lines c.first_line.ensures.shorter
    (rw c.in-Ok-None.field-0-is at (c.in-Ok-None.ensures.value c.loop-rest.invariant.good))

pub loop-rest-preserved-in_ok-hear-in-Ok-Some : goal.loop-rest-preserved-in_ok-hear-in-Ok-Some
loop-rest-preserved-in_ok-hear-in-Ok-Some c =
    heard_entry c.args.machine.now c.args.owners.now c.args.text.now c.loop-rest.hearing
    c.loop-rest.reader c.next.new.self c.first_line.result.0.now c.loop-rest.rest.now
    c.first_line.result.1.now
    c.loop-rest.invariant c.first_line.ensures.lines c.first_line.ensures.shorter c.in-Ok-Some.entry
    c.hear.new.self
    (rw c.in-Ok-Some.field-0-is at (c.in-Ok-Some.ensures.value c.loop-rest.invariant.good))
    (omega (arith, c.loop-rest.invariant.within, c.first_line.ensures.shorter))
    c.in_ok-hear-in-Ok-Some.ensures

pub returns-in-Err-clause-value : goal.returns-in-Err-clause-value
returns-in-Err-clause-value c =
    heard_bad c.args.machine.now c.args.owners.now c.args.text.now c.loop-rest.hearing
    c.loop-rest.reader c.next.new.self c.first_line.result.0.now c.loop-rest.rest.now
    c.first_line.result.1.now
    c.loop-rest.invariant c.first_line.ensures.lines c.first_line.ensures.shorter c.in-Err.field-0
    (c.in-Err.ensures.value c.loop-rest.invariant.good)

pub returns-clause-value : goal.returns-clause-value
returns-clause-value c =
    let nothing = nil_from_length c.loop-rest.rest.now (eqb-true (length c.loop-rest.rest.now) 0
    (sym c.loop-rest-test.ensures)) in
    answered c.args.machine.now c.args.owners.now c.args.text.now c.loop-rest.hearing
    c.loop-rest.reader c.loop-rest.rest.now c.in_ok-answer.field-0 c.loop-rest.invariant nothing
    c.in_ok-answer.ensures.value
