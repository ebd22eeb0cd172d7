-- Counts of faults as they are kept, in 64 bits. They are this project's own.
use Rattle.std.specs.Prelude.{ℕ, ◌+◌, ◌-◌, ◌^◌, min}

-- A count after one more fault. It stops at its top.
abbrev pub count_after_fault : ℕ → ℕ
count_after_fault count = min (count + 1) (2 ^ 64 - 1)

-- What is seen of files that tell nothing of what they hold: how many reads and how many writes
-- failed.
pub record Counts : Type 0 where
  pub reads : ℕ
  pub writes : ℕ
