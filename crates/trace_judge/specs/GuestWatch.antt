-- What is known of an install, and what its line will be once more entries came.
use Rattle.std.specs.Prelude.{ℕ, ◌≡◌, ◌≤◌, ◌<◌, ◌-◌, ◌++◌, ◌∷◌, [], length, map, slice_get, slice_set, ◌+◌, ◌%◌, ◌^◌, List, Option, Some, None, if◌then◌else◌}
use Rattle.std.specs.Option.{unwrap_or}
use Rattle.std.specs.List.{filter_map}
use Rattle.xom_base.specs.declared.entry.Entry.{Entry}
use Rattle.xom_base.specs.declared.entry.Entry.TheVariants as entry
use Rattle.xom_base.specs.declared.key.ImageId.{ImageId}
use Rattle.xom_base.specs.declared.step.Step.{Step}
use Rattle.xom_base.specs.Entries.{step_in, steps_of}
use Rattle.xom_owners.specs.declared.owner.Owner.{Owner}
use Rattle.xom_owners.specs.Owners.{owner_of}
use Rattle.mips_plain.specs.declared.verdict.Verdict.{Verdict}
use Rattle.mips_plain.specs.declared.verdict.Verdict.TheVariants as verdict
use Rattle.mips_plain.specs.Machine.{State, plain, start}
use Rattle.mips_plain.specs.Follows.{given_of, is_step, verdict_from}
use Rattle.trace_judge.specs.declared.report.GuestEnd.{GuestEnd}
use Rattle.trace_judge.specs.declared.report.GuestEnd.TheVariants.{Running}
use Rattle.trace_judge.specs.declared.report.GuestLine.{GuestLine}
use Rattle.trace_judge.specs.Judgement.{end_in, guest_end_of, guest_line_of_entry}
use Rattle.trace_judge.specs.Numbers.{install_count}
use Rattle.trace_judge.specs.declared.guests.Watch.{Watch}
use Rattle.trace_judge.specs.declared.guests.Watch.TheVariants.{NoOwner, Runs, Over, Departed}
use Rattle.trace_judge.specs.declared.guests.Guest.{Guest}

-- ---- A guest

-- the verdict on steps behind the program's end, where so many followed
abbrev pub verdict_behind_end : ℕ → List Step → Verdict
verdict_behind_end count [] = verdict.Follows count
verdict_behind_end count (step ∷ steps) = verdict.Departs (count + 1)

-- the verdict once these steps came
abbrev pub verdict_after : Watch → List Step → Verdict
verdict_after NoOwner steps = verdict.NoOwner
verdict_after (Runs p count) steps = verdict_from p steps count
verdict_after (Over count) steps = verdict_behind_end count steps
verdict_after (Departed place) steps = verdict.Departs place

-- what is known of a program in this state after so many steps
abbrev pub watch_in : State → ℕ → Watch
watch_in p count = if p.over then Over count else Runs p count

-- what is known after one more step. A count is below 2^64
abbrev pub watch_after_step : Watch → Step → Watch
watch_after_step (Runs p count) step =
    if is_step step (plain p (given_of step.received)).0
    then watch_in (plain p (given_of step.received)).1 ((count + 1) % 2 ^ 64)
    else Departed ((count + 1) % 2 ^ 64)
watch_after_step (Over count) step = Departed ((count + 1) % 2 ^ 64)
watch_after_step NoOwner step = NoOwner
watch_after_step (Departed place) step = Departed place

-- what is known of a program after one more step, its `count`th, where the program doesn't go on
abbrev pub left_after : State → ℕ → Step → Option Watch
left_after p count step =
    if is_step step (plain p (given_of step.received)).0
    then (if (plain p (given_of step.received)).1.over then Some (Over count) else None)
    else Some (Departed count)

-- what is known of an install before its first step
abbrev pub watch_of : Option Owner → Watch
watch_of None = NoOwner
watch_of (Some owner) = Runs (start owner.plain) 0

-- what is known of an install after an entry that is a step of it or isn't
abbrev pub watch_after : Watch → Option Step → Watch
watch_after watch None = watch
watch_after watch (Some step) = watch_after_step watch step

-- the end once these entries came
abbrev pub end_after : GuestEnd → ℕ → List Entry → GuestEnd
end_after Running n more = guest_end_of n more
end_after end n more = end

-- the end after one more entry: the first end stays
abbrev pub end_after_entry : GuestEnd → ℕ → Entry → GuestEnd
end_after_entry Running n e = unwrap_or (end_in n e) Running
end_after_entry end n e = end

-- the line of a guest once these entries came
abbrev pub line_after : Guest → List Entry → GuestLine
line_after g more = record {
  install = g.install;
  slot = g.slot;
  id = g.id;
  verdict =
      verdict_after g.watch (steps_of g.install more);
  end = end_after g.end g.install more;
}

-- a guest after one more entry
abbrev pub next_guest : Guest → Entry → Guest
next_guest g e = record {
  install = g.install;
  slot = g.slot;
  id = g.id;
  watch =
      watch_after g.watch (step_in g.install e);
  end = end_after_entry g.end g.install e;
}

-- an install before its first step
abbrev pub new_guest : List Owner → ℕ → ℕ → ImageId → Guest
new_guest owners n slot id = record {
  install = n;
  slot = slot;
  id = id;
  watch =
      watch_of (owner_of owners id);
  end = Running;
}

-- ---- All guests, install n at place n - 1

-- the guest at a place takes an entry, if there is one
abbrev pub guests_after_at : List Guest → ℕ → Option Guest → Entry → List Guest
guests_after_at gs i None e = gs
guests_after_at gs i (Some g) e = slice_set gs i (next_guest g e)

-- the install of this number takes an entry, if there is one
abbrev pub guests_after : List Guest → ℕ → Entry → List Guest
guests_after gs n e = guests_after_at gs (n - 1) (slice_get gs (n - 1)) e

-- the guests after one more entry
abbrev pub next_guests : List Owner → List Guest → Entry → List Guest
next_guests owners gs (entry.Install n slot id place begin lines) =
    gs ++ new_guest owners n slot id ∷ []
next_guests owners gs (entry.Step n step) = guests_after gs n (entry.Step n step)
next_guests owners gs (entry.Stop n rule) = guests_after gs n (entry.Stop n rule)
next_guests owners gs (entry.Kill n) = guests_after gs n (entry.Kill n)
next_guests owners gs other = gs

-- the entry is an Install
abbrev pub IsInstall : Entry → Type 0
IsInstall (entry.Install n slot id place begin lines) = Unit {0}
IsInstall other = ⊥

-- a count is at most so much
abbrev pub IsCounted : ℕ → Watch → Type 0
IsCounted m (Runs p count) = count ≤ m
IsCounted m (Over count) = count ≤ m
IsCounted m NoOwner = Unit {0}
IsCounted m (Departed place) = Unit {0}

-- the installs have numbers from i on, and no count is above m
abbrev pub Ranked : ℕ → ℕ → List Guest → Type 0
Ranked m i [] = Unit {0}
Ranked m i (g ∷ gs) = (g.install ≡ i) × IsCounted m g.watch × Ranked m (i + 1) gs

-- the guests are those of these entries: whatever comes yet, their lines will be those of the whole
-- list
pub record IsFed (owners : List Owner) (gs : List Guest) (es : List Entry) : Type 0 where
  pub lines : (more : List Entry)
      → map (λ g. line_after g more) gs ≡ filter_map (guest_line_of_entry owners (es ++ more)) es
  pub fresh : (n : ℕ) → length gs < n → (more : List Entry)
      → (steps_of n (es ++ more) ≡ steps_of n more) × (guest_end_of n (es ++ more) ≡ guest_end_of n more)
  pub ranked : Ranked (length es) 1 gs
  pub counted : length gs ≡ install_count es
