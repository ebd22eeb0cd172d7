-- What a judgement says of guests that did what their programs do alone.
use Rattle.std.specs.Prelude.{◌≡◌, List, All, Some, length}
use Rattle.xom_base.specs.declared.entry.Entry.{Entry}
use Rattle.xom_base.specs.declared.entry.Entry.TheVariants as entry
use Rattle.xom_base.specs.Entries.{steps_of}
use Rattle.xom_owners.specs.declared.owner.Owner.{Owner}
use Rattle.xom_owners.specs.Owners.{owner_of}
use Rattle.mips_plain.specs.declared.verdict.Verdict.TheVariants.{Follows}
use Rattle.mips_plain.specs.Machine.{State, start}
use Rattle.mips_plain.specs.Follows.{Reaches}
use Rattle.trace_judge.specs.declared.report.GuestLine.{GuestLine}
use Rattle.trace_judge.specs.Judgement.{guest_lines}

-- an installed guest has an owner, and its steps are those of the owner's program run alone
abbrev pub IsOwnersRun : List Owner → List Entry → Entry → Type 0
IsOwnersRun owners entries (entry.Install n slot id place at lines) =
    (owner : Owner) × (q : State) × (owner_of owners id ≡ Some owner) × Reaches (start owner.plain)
    (steps_of n entries) q
IsOwnersRun owners entries other = Unit {0}

-- the line says that all the steps of its install follow
abbrev pub DoesFollow : List Entry → GuestLine → Type 0
DoesFollow entries line = line.verdict ≡ Follows (length (steps_of line.install entries))

-- where each installed guest did what its program does alone, each line says that it follows
abbrev pub RunsAreFollowed : Type 0
RunsAreFollowed =
    (owners : List Owner) (entries : List Entry) → All (IsOwnersRun owners entries) entries
    → All (DoesFollow entries) (guest_lines owners entries)
