-- The bytes so far are written.
use Rattle.std.proofs.Common.{◌≡◌, ℕ, ◌+◌, ◌-◌, ◌&&◌, leb, ltb, cond, get_or}
use Rattle.mips_asm.proofs.image.write.Given as goal

abbrev pub invariant-loop-k : goal.invariant-loop-k
invariant-loop-k l =
    (j : ℕ)
    → get_or l.bytes j 0 ≡ cond (leb l.start j && ltb j (l.start + l.k))
    (get_or l.new (j - l.start) 0) (get_or l.initial.bytes j 0)
