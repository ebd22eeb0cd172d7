-- Numbers that ascend, each above the one before.
use Rattle.std.proofs.Common.{ℕ, add-one, zero, suc, ◌<◌, List, [], ◌∷◌, length, get_or, arith}
use Rattle.std.specs.List.Sorted.{IsStrictlyIncreasing}
use Rattle.xom_script.specs.RunLines.{Ascends}

-- they are above the number that they ascend from
pub above_last : (last : ℕ) (ns : List ℕ) → Ascends last ns → (k : ℕ) → k < length ns
    → last < get_or ns k 0
above_last last [] ascends k within = absurd (omega arith)
above_last last (n ∷ ns) ascends zero within = ascends.0
above_last last (n ∷ ns) ascends (suc k) within =
    let low : last < n = ascends.0 in
    let high = above_last n ns ascends.1 k (omega arith) in
    omega arith

-- and each is below the next
below_next : (last : ℕ) (ns : List ℕ) → Ascends last ns → (k : ℕ) → suc k < length ns
    → get_or ns k 0 < get_or ns (suc k) 0
below_next last [] ascends k within = absurd (omega arith)
below_next last (n ∷ ns) ascends zero within = above_last n ns ascends.1 0 (omega arith)
below_next last (n ∷ ns) ascends (suc k) within = below_next n ns ascends.1 k (omega arith)

pub increasing : (ns : List ℕ) → Ascends 0 ns → IsStrictlyIncreasing ns
increasing ns ascends k within = rw add-one (below_next 0 ns ascends k (rw add-one at within))
