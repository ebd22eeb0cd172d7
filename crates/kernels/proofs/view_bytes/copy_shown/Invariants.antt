-- The bytes so far are those that are shown.
use Rattle.std.proofs.Common.{◌≡◌, take}
use Rattle.kernels.specs.Turns.{bytes_shown}
use Rattle.kernels.proofs.view_bytes.copy_shown.Given as goal

abbrev pub invariant-loop-i : goal.invariant-loop-i
invariant-loop-i l = take l.i l.chunk ≡ bytes_shown l.view l.from l.i
