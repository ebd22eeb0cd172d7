-- What the statements so far write stands at their places.
use Rattle.std.proofs.Common.{◌≡◌, Some, take}
use Rattle.std.specs.List.{All}
use Rattle.mips_asm.specs.LabelMaps.{place_in}
use Rattle.mips_asm.specs.Passes.{statement_line}
use Rattle.mips_asm.specs.Sources.{StandsOver}
use Rattle.mips_asm.proofs.ranges.write_all.Given as goal

abbrev pub invariant-loop-placed : goal.invariant-loop-placed
invariant-loop-placed l = record {
  stands : StandsOver (place_in l.labels) (take l.placed-index l.placed) l.image;
  entry : All (λ p. ¬ (l.bad_entry ≡ Some (statement_line p))) (take l.placed-index l.placed);
}
