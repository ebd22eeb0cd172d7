-- Those so far are written.
use Rattle.std.proofs.Common.{◌≡◌, ℕ, ◌&&◌, ◌||◌, leb, ltb, false, get_or}
use Rattle.mips_asm.proofs.overlap.mark.Given as goal

abbrev pub invariant-loop-k : goal.invariant-loop-k
invariant-loop-k l =
    (j : ℕ)
    → get_or l.written j false ≡ ((leb l.start j && ltb j l.k) || get_or l.initial.written j
    false)
