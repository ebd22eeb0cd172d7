-- How a store of versions is tied to a journal: a parameter of what the machine keeps, since each
-- kind of store has its own.
use Rattle.std.specs.Prelude.{ℕ, List}
use Rattle.xom_base.specs.declared.entry.Entry.{Entry}
use Rattle.xom_versions.specs.Store.{Store}

-- for which numbers of the lines a store stands in a journal
abbrev pub StandsFor : Type 1
StandsFor = Store → List Entry → (ℕ → ℕ) → Type 0
