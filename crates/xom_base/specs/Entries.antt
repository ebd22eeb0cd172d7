-- What a journal says of one install: lists of entries, filtered.
use Rattle.std.specs.Prelude.{ℕ, ◌==◌, List, Option, Some, None, if◌then◌else◌}
use Rattle.std.specs.List.{filter_map}
use Rattle.xom_base.specs.declared.entry.Entry.{Entry}
use Rattle.xom_base.specs.declared.entry.Entry.TheVariants as entry
use Rattle.xom_base.specs.declared.step.Step.{Step}

-- the step of this install that the entry records, if it is one
abbrev pub step_in : ℕ → Entry → Option Step
step_in n (entry.Step install step) = if install == n then Some step else None
step_in n other = None

-- the steps of an install, in their order
abbrev pub steps_of : ℕ → List Entry → List Step
steps_of n entries = filter_map (step_in n) entries
