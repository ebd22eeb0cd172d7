-- The rule of install numbers: the first is 1, each is one more than the last, and what is told of
-- an install comes behind it.
use Rattle.std.specs.Prelude.{ℕ, ◌+◌, ◌==◌, ◌&&◌, nat_le, Bool, true, List, [], ◌∷◌}
use Rattle.xom_base.specs.declared.entry.Entry.{Entry}
use Rattle.xom_base.specs.declared.entry.Entry.TheVariants as entry

-- one for an Install, nothing for another entry
abbrev pub installs_in : Entry → ℕ
installs_in (entry.Install n slot id place at lines) = 1
installs_in other = 0

-- how many Install entries there are
abbrev pub install_count : List Entry → ℕ
install_count [] = 0
install_count (entry ∷ entries) = installs_in entry + install_count entries

-- an install of this number came, where there were so many
abbrev pub is_installed : ℕ → ℕ → Bool
is_installed count n = nat_le 1 n && nat_le n count

-- the entry may stand behind so many installs
abbrev pub may_stand : ℕ → Entry → Bool
may_stand count (entry.Install n slot id place at lines) = n == count + 1
may_stand count (entry.Step n step) = is_installed count n
may_stand count (entry.Trap n cause) = is_installed count n
may_stand count (entry.Stop n rule) = is_installed count n
may_stand count (entry.Kill n) = is_installed count n
may_stand count other = true
