-- What is still to be put leads to what all the lines lead to.
use Rattle.std.proofs.Common.{◌≡◌, drop, length}
use Rattle.power_on.specs.Start.{ram_of_whole, whole_with_ram, with_lines}
use Rattle.power_on.proofs.lines.put_lines.Given as goal

abbrev pub invariant-loop-i : goal.invariant-loop-i
invariant-loop-i g l = record {
  machine : l.machine ≡ whole_with_ram l.fn.machine (ram_of_whole l.machine);
  size : length (ram_of_whole l.machine) ≡ length (ram_of_whole l.fn.machine);
  bytes : with_lines (ram_of_whole l.machine) l.frame l.i (drop l.i l.lines) ≡ with_lines
      (ram_of_whole l.fn.machine) l.frame 0 l.lines;
}
