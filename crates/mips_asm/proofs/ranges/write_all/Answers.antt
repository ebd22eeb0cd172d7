-- The first statement that writes no bytes, or what all of them write.
use Rattle.std.proofs.Common.{◌≡◌, Some, inl, inr, refl, sym, subst, ◌∙◌, arith}
use Rattle.std.proofs.lemmas.List.Elements.{All-get_or, All-more}
use Rattle.mips_asm.specs.Places.{Placed}
use Rattle.mips_asm.specs.LabelMaps.{place_in}
use Rattle.mips_asm.specs.Layout.{IsInsideImage, IsSized}
use Rattle.mips_asm.specs.Passes.{statement_line}
use Rattle.mips_asm.proofs.LayoutLaws.{fits_end}
use Rattle.mips_asm.proofs.RangeLaws.{first_here, other_line, same_line}
use Rattle.mips_asm.proofs.WrittenLaws.{stands_more, stands_none}
use Rattle.mips_asm.proofs.ranges.write_all.Goals as goal

pub loop-placed-init : goal.loop-placed-init
loop-placed-init c = record {
  stands = stands_none (place_in c.args.labels.now) c.args.image.now
      c.requires.clear;
  entry = λ k d below. absurd (omega (arith, below));
}

pub returns-then-eq-clause-fault : goal.returns-then-eq-clause-fault
returns-then-eq-clause-fault c =
    let same = rw c.line-line.ensures at (sym c.eq.ensures ∙ c.if-eq.true) in
    rw c.line-line.ensures
    (inr (
      _,
      refl,
      first_here (place_in c.args.labels.now) c.args.bad_entry c.args.placed.now
          c.loop-placed.placed-index c.placed-item.result c.loop-placed.invariant.stands.0
          c.loop-placed-test.true c.placed-item.is c.loop-placed.invariant.stands.1
          c.loop-placed.invariant.entry
          (inr (same_line c.args.bad_entry (statement_line c.placed-item.result) same)),
    ))

pub returns-then-not-written-clause-fault : goal.returns-then-not-written-clause-fault
returns-then-not-written-clause-fault c =
    rw c.line-line.ensures
    (inr (
      _,
      refl,
      first_here (place_in c.args.labels.now) c.args.bad_entry c.args.placed.now
          c.loop-placed.placed-index c.placed-item.result c.loop-placed.invariant.stands.0
          c.loop-placed-test.true c.placed-item.is c.loop-placed.invariant.stands.1
          c.loop-placed.invariant.entry
          (inl (rw c.if-not-written.true at c.in_ok-written.ensures)),
    ))

pub write_one-requires-clause-inside : goal.write_one-requires-clause-inside
write_one-requires-clause-inside c =
    subst IsInsideImage (sym c.placed-item.is) (All-get_or IsInsideImage c.args.placed.now
    c.loop-placed.placed-index c.placed-item.result c.loop-placed-test.true c.requires.inside)

pub write_one-requires-clause-sized : goal.write_one-requires-clause-sized
write_one-requires-clause-sized c =
    subst IsSized (sym c.placed-item.is) (All-get_or IsSized c.args.placed.now
    c.loop-placed.placed-index c.placed-item.result c.loop-placed-test.true c.requires.sized)

pub write_one-requires-clause-room : goal.write_one-requires-clause-room
write_one-requires-clause-room c = λ some.
    let fits = fits_end c.args.placed.now c.loop-placed.placed-index c.placed-item.result
    c.loop-placed-test.true c.placed-item.is some in
    omega (arith, fits, c.requires.whole)

pub loop-placed-preserved : goal.loop-placed-preserved
loop-placed-preserved c =
    let item = c.placed-item.result in
    let placed = c.args.placed.now in
    let i = c.loop-placed.placed-index in
    let P : Placed → Type 0 = λ p. ¬ (c.args.bad_entry ≡ Some (statement_line p)) in
    let other = rw c.line-line.ensures at (sym c.eq.ensures ∙ c.if-eq.false) in
    record {
      stands = stands_more (place_in c.args.labels.now) placed i item c.loop-placed.image
          c.write_one.new.image c.loop-placed-test.true c.placed-item.is
          c.loop-placed.invariant.stands
          (rw c.if-not-written.false at c.in_ok-written.ensures);
      entry = All-more P placed i item c.loop-placed-test.true c.loop-placed.invariant.entry
          (subst P c.placed-item.is (other_line c.args.bad_entry (statement_line item) other));
    }
