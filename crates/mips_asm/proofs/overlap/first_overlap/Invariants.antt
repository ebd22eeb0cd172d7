-- The places written so far are marked, and the statements so far overlap nowhere.
use Rattle.std.proofs.Common.{◌≡◌, ℕ, false, get_or, take, drop}
use Rattle.std.specs.List.{list_any}
use Rattle.mips_asm.specs.Places.{Placed}
use Rattle.mips_asm.specs.Layout.{covers}
use Rattle.mips_asm.specs.Passes.{first_fault, overlap_line, overlaps, statement_line}
use Rattle.mips_asm.proofs.overlap.first_overlap.Given as goal

abbrev pub invariant-loop-placed : goal.invariant-loop-placed
invariant-loop-placed l = record {
  marked : (k : ℕ) → get_or l.written k false ≡ list_any (λ (p : Placed). covers p k)
      (take l.placed-index l.placed);
  rest : overlap_line l.placed ≡ first_fault statement_line overlaps (take l.placed-index l.placed)
      (drop l.placed-index l.placed);
}
