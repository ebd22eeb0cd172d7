-- The end so far, with one more.
use Rattle.std.proofs.Common.{subst, sym, arith}
use Rattle.std.proofs.lemmas.List.Elements.{All-get_or}
use Rattle.std.proofs.lemmas.Bool.Decides.{nat_tests}
use Rattle.mips_asm.specs.Layout.{IsInsideImage}
use Rattle.mips_asm.proofs.LayoutLaws.{last_end_more}
use Rattle.mips_asm.proofs.overlap.last_end.Goals as goal
use Rattle.mips_asm.proofs.overlap.last_end.Goals.{then-size-gt0, else-size-gt0}

pub loop-placed-preserved : goal.loop-placed-preserved
loop-placed-preserved c =
    let more = rw (sym c.placed-item.is) at
    (last_end_more c.args.placed.now c.loop-placed.placed-index c.placed-item.result
    c.loop-placed-test.true) in
    let inside = subst IsInsideImage (sym c.placed-item.is) (All-get_or IsInsideImage c.args.placed.now
    c.loop-placed.placed-index c.placed-item.result c.loop-placed-test.true c.requires) in
    elim c.if-size-gt0.branch [
      | then-size-gt0 w ↦ record {
        value = grind (arith, nat_tests, more);
        inside =
            grind (arith, nat_tests, inside);
      }
      | else-size-gt0 w ↦ record {
        value = grind (arith, nat_tests, more);
        inside =
            grind (arith, nat_tests);
      }
    ]
