-- The labels so far are in the map.
use Rattle.std.proofs.Common.{◌≡◌, ℕ, List, take}
use Rattle.mips_asm.specs.LabelMaps.{place_in}
use Rattle.mips_asm.specs.Passes.{place_of}
use Rattle.mips_asm.proofs.naming.all_labels.Given as goal

abbrev pub invariant-loop-placed : goal.invariant-loop-placed
invariant-loop-placed l =
    (name : List ℕ) → place_in l.labels name ≡ place_of (take l.placed-index l.placed) name
