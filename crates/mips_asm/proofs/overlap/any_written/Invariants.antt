-- None so far is written.
use Rattle.std.proofs.Common.{◌≡◌, ℕ, ◌≤◌, ◌<◌, false, get_or}
use Rattle.mips_asm.proofs.overlap.any_written.Given as goal

abbrev pub invariant-loop-k : goal.invariant-loop-k
invariant-loop-k l = (j : ℕ) → l.start ≤ j → j < l.k → get_or l.written j false ≡ false
