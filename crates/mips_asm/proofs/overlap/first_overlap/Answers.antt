-- Whether a statement meets one before it is whether one of its places is marked.
use Rattle.std.proofs.Common.{◌≡◌, ◌||◌, false, Some, sym, ap, ◌∙◌, take, get_or, arith}
use Rattle.mips_asm.specs.Places.{Placed}
use Rattle.mips_asm.specs.Layout.{covers}
use Rattle.mips_asm.specs.Passes.{overlaps, statement_line}
use Rattle.mips_asm.proofs.FaultLaws.{found_at, next_at, none_at}
use Rattle.mips_asm.proofs.LayoutLaws.{fits_end}
use Rattle.mips_asm.proofs.OverlapLaws.{marked_more, marked_same, overlaps_empty, overlaps_false, overlaps_true}
use Rattle.mips_asm.proofs.overlap.first_overlap.Goals as goal
use Rattle.mips_asm.proofs.overlap.first_overlap.Goals.{then-size-gt0+else-any_written, else-size-gt0}

pub any_written-requires-clause-within : goal.any_written-requires-clause-within
any_written-requires-clause-within c =
    let fits = fits_end c.args.placed.now c.loop-placed.placed-index c.placed-item.result
    c.loop-placed-test.true c.placed-item.is (rw c.size.ensures at c.if-size-gt0.true) in
    omega (arith, fits, c.requires.whole)

pub mark-requires-clause-within : goal.mark-requires-clause-within
mark-requires-clause-within c =
    let fits = fits_end c.args.placed.now c.loop-placed.placed-index c.placed-item.result
    c.loop-placed-test.true c.placed-item.is (rw c.size.ensures at c.if-size-gt0.true) in
    omega (arith, fits, c.requires.whole)

pub returns-then-any_written : goal.returns-then-any_written
returns-then-any_written c =
    let placed = c.args.placed.now in
    let i = c.loop-placed.placed-index in
    let item = c.placed-item.result in
    let some = c.if-any_written.ensures.some in
    let from = rw c.place-start.ensures at some.1 in
    let to = rw (c.place-start.ensures, c.size-then-size-gt0.ensures) at some.2 in
    let bad = overlaps_true (take i placed) item some.0 from to
    (sym (c.loop-placed.invariant.marked some.0) ∙ some.3) in
    rw c.line.ensures (sym (c.loop-placed.invariant.rest
    ∙ (found_at statement_line overlaps placed i item c.loop-placed-test.true
    (ap (overlaps (take i placed)) (sym c.placed-item.is) ∙ bad)
    ∙ ap (λ (p : Placed). Some (statement_line p)) (sym c.placed-item.is))))

pub loop-placed-preserved : goal.loop-placed-preserved
loop-placed-preserved c =
    let placed = c.args.placed.now in
    let i = c.loop-placed.placed-index in
    let item = c.placed-item.result in
    elim c.if-size-gt0.branch [
      | then-size-gt0+else-any_written w ↦ record {
        marked = λ k. rw w.written-is
            (marked_more placed i item k (get_or c.loop-placed.written k false)
            (get_or w.mark.new.written k false) c.loop-placed-test.true
            (rw (w.place-start.ensures, w.size-then-size-gt0.ensures) at (w.mark.ensures k) ∙ ap (λ (p : Placed). covers p k || get_or c.loop-placed.written k
            false) c.placed-item.is) (c.loop-placed.invariant.marked k));
        rest = c.loop-placed.invariant.rest ∙ next_at statement_line overlaps placed i item
            c.loop-placed-test.true
            (ap (overlaps (take i placed)) (sym c.placed-item.is)
            ∙ overlaps_false (take i placed) item (λ k a b. sym (c.loop-placed.invariant.marked k)
            ∙ w.if-any_written.ensures.none k (omega (arith, a)) (omega (arith, b))));
      }
      | else-size-gt0 w ↦
          let empty : c.placed-item.result.size ≡ 0 = omega (arith, w.if-size-gt0.false) in
          record {
            marked = λ k. rw w.written-is
                (marked_same placed i item k (get_or c.loop-placed.written k false)
                c.loop-placed-test.true
                (ap (λ (p : Placed). p.size) (sym c.placed-item.is) ∙ empty)
                (c.loop-placed.invariant.marked k));
            rest = c.loop-placed.invariant.rest ∙ next_at statement_line overlaps placed i item
                c.loop-placed-test.true
                (ap (overlaps (take i placed)) (sym c.placed-item.is)
                ∙ overlaps_empty (take i placed) item empty);
          }
    ]

pub returns : goal.returns
returns c =
    sym
    (c.loop-placed.invariant.rest ∙ none_at statement_line overlaps c.args.placed.now
    c.loop-placed.placed-index c.loop-placed-test.false)
