-- What a journal says of its guests beside their owners' programs, and where it names a forgery or
-- a collision.
-- Entries count from 1. All is said of any list of entries, also of one that no machine made.
use Rattle.std.specs.Prelude.{ℕ, ◌==◌, List, [], ◌∷◌, Option, Some, None, if◌then◌else◌}
use Rattle.std.specs.List.{filter_map}
use Rattle.std.specs.Option.{unwrap_or}
use Rattle.xom_base.specs.declared.entry.Entry.{Entry}
use Rattle.xom_base.specs.declared.entry.Entry.TheVariants as entry
use Rattle.xom_base.specs.declared.key.ImageId.{ImageId}
use Rattle.xom_base.specs.declared.key.Key256.{Key256}
use Rattle.xom_base.specs.declared.step.Step.{Step}
use Rattle.xom_base.specs.declared.step.StepEnd.{StepEnd}
use Rattle.xom_base.specs.declared.step.StepEnd.TheVariants as ended
use Rattle.xom_base.specs.Entries.{steps_of}
use Rattle.xom_owners.specs.declared.owner.Owner.{Owner}
use Rattle.xom_owners.specs.Owners.{owner_of}
use Rattle.mips_plain.specs.declared.verdict.Verdict.{Verdict}
use Rattle.mips_plain.specs.declared.verdict.Verdict.TheVariants.{NoOwner}
use Rattle.mips_plain.specs.Machine.{start}
use Rattle.mips_plain.specs.Follows.{verdict_from}
use Rattle.journal_findings.specs.Findings.{first_collision, first_forgery, sealed_by}
use Rattle.trace_judge.specs.declared.report.GuestEnd.{GuestEnd}
use Rattle.trace_judge.specs.declared.report.GuestEnd.TheVariants.{Ended, Stopped, Killed, Running}
use Rattle.trace_judge.specs.declared.report.GuestLine.{GuestLine}
use Rattle.trace_judge.specs.declared.report.Report.{Report}

-- ---- How a guest ended

-- a step by which the guest ends
abbrev pub exit_of : StepEnd → Option GuestEnd
exit_of ended.Exit = Some Ended
exit_of other = None

-- the end of this install, where the entry is one: its exit, its Stop or its Kill
abbrev pub end_in : ℕ → Entry → Option GuestEnd
end_in n (entry.Step install step) = if install == n then exit_of step.end else None
end_in n (entry.Stop install rule) = if install == n then Some (Stopped rule) else None
end_in n (entry.Kill install) = if install == n then Some Killed else None
end_in n other = None

-- the first end of this install, or Running where it has none
abbrev pub guest_end_of : ℕ → List Entry → GuestEnd
guest_end_of n [] = Running
guest_end_of n (entry ∷ entries) = unwrap_or (end_in n entry) (guest_end_of n entries)

-- ---- What a guest did beside its program

-- the steps beside the program of the owner, if there is one
abbrev pub verdict_by : Option Owner → List Step → Verdict
verdict_by None steps = NoOwner
verdict_by (Some owner) steps = verdict_from (start owner.plain) steps 0

-- the steps of an install beside the program of the first owner of this id
abbrev pub verdict_of : List Owner → List Entry → ℕ → ImageId → Verdict
verdict_of owners entries n id = verdict_by (owner_of owners id) (steps_of n entries)

-- ---- The lines of the guests

-- the line of an Install entry, with that entry's number, slot and id
abbrev pub guest_line_of_entry : List Owner → List Entry → Entry → Option GuestLine
guest_line_of_entry owners entries (entry.Install n slot id place at lines) =
    Some (record {
      install = n;
      slot = slot;
      id = id;
      verdict = verdict_of owners entries n id;
      end = guest_end_of n entries;
    })
guest_line_of_entry owners entries other = None

-- one line for each Install entry, in their order
abbrev pub guest_lines : List Owner → List Entry → List GuestLine
guest_lines owners entries = filter_map (guest_line_of_entry owners entries) entries

-- ---- The whole judgement

-- by the key of the machine that owners sealed for, the owners, and the journal's entries
abbrev pub judgement : Key256 → List Owner → List Entry → Report
judgement machine owners entries = record {
  guests = guest_lines owners entries;
  forged = first_forgery (sealed_by machine owners) entries;
  collision = first_collision entries;
}
