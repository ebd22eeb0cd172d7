-- The end so far.
use Rattle.std.proofs.Common.{◌≡◌, ◌≤◌, take}
use Rattle.mips_asm.specs.Layout.{last_end, limit}
use Rattle.mips_asm.proofs.overlap.last_end.Given as goal

abbrev pub invariant-loop-placed : goal.invariant-loop-placed
invariant-loop-placed l = record {
  value : l.end ≡ last_end (take l.placed-index l.placed);
  inside : l.end ≤ limit;
}
