-- What entries tell of each install, in one pass over them.
use Rattle.std.specs.Prelude.{ℕ, ◌++◌, List, [], Option, Some, None}
use Rattle.std.specs.BTreeMap.{get}
use Rattle.std.specs.List.{cons_option}
use Rattle.std.specs.Ordering.{nat_cmp}
use Rattle.xom_base.specs.declared.entry.Entry.{Entry}
use Rattle.xom_base.specs.declared.entry.Entry.TheVariants as entry
use Rattle.xom_base.specs.declared.step.Step.{Step}
use Rattle.xom_base.specs.Entries.{step_in, steps_of}
use Rattle.xom_owners.specs.declared.owner.Owner.{Owner}
use Rattle.xom_owners.specs.Owners.{owner_of}
use Rattle.trace_judge.specs.declared.report.GuestEnd.{GuestEnd}
use Rattle.trace_judge.specs.declared.report.GuestEnd.TheVariants.{Running}
use Rattle.trace_judge.specs.declared.report.GuestLine.{GuestLine}
use Rattle.trace_judge.specs.declared.trails.Trail.{Trail}
use Rattle.trace_judge.specs.declared.trails.Trails.{Trails}
use Rattle.trace_judge.specs.GuestWatch.{end_after_entry}
use Rattle.trace_judge.specs.Judgement.{guest_end_of, verdict_by}

-- the steps of an install and its first end
pub record ToldOfInstall : Type 0 where
  pub steps : List Step
  pub end : GuestEnd

-- what entries tell of an install
abbrev pub install_told : List Entry → ℕ → ToldOfInstall
install_told entries n = record { steps = steps_of n entries; end = guest_end_of n entries }

-- what is told of an install with one more entry
abbrev pub told_after : ToldOfInstall → ℕ → Entry → ToldOfInstall
told_after was n e = record {
  steps = was.steps ++ cons_option (step_in n e) [];
  end =
      end_after_entry was.end n e;
}

-- what a trail tells, if there is one
abbrev pub trail_tells : Option Trail → ToldOfInstall
trail_tells None = record { steps = []; end = Running }
trail_tells (Some trail) = record { steps = trail.steps.items; end = trail.end }

-- what the map tells of an install
abbrev pub told_of_install : Trails → ℕ → ToldOfInstall
told_of_install trails n = trail_tells (get nat_cmp trails.trails n)

-- the line of an Install entry, by what is told of each install
abbrev pub line_by : List Owner → (ℕ → ToldOfInstall) → Entry → Option GuestLine
line_by owners known (entry.Install n slot id place at lines) =
    Some (record {
      install = n;
      slot = slot;
      id = id;
      verdict = verdict_by (owner_of owners id)
          (known n).steps;
      end = (known n).end;
    })
line_by owners known other = None
