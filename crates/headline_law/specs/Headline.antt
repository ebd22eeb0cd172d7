-- From what the machine keeps to the judge's report: where the report names no finding, every guest
-- follows.
use Rattle.std.specs.Prelude.{◌≡◌, ℕ, ◌<◌, ◌^◌, List, [], All, Some, None}
use Rattle.xom_base.specs.declared.entry.Entry.{Entry}
use Rattle.xom_base.specs.declared.event.Event.{Event}
use Rattle.xom_base.specs.declared.key.Key256.{Key256}
use Rattle.xom_base.specs.declared.schedule.Schedule.{Schedule}
use Rattle.xom_owners.specs.declared.owner.Owner.{Owner}
use Rattle.mips_plain.specs.declared.verdict.Verdict.TheVariants.{Follows}
use Rattle.journal_findings.specs.Findings.{sealed_by}
use Rattle.trace_judge.specs.declared.report.Report.{Report}
use Rattle.trace_judge.specs.Judgement.{judgement}
use Rattle.xom_versions.specs.Versions.{VersionLaw, Versions}
use Rattle.xom_model.specs.Versions.{StandsFor}
use Rattle.xom_model.specs.State.{CoreState, Record, power_on}
use Rattle.xom_model.specs.Honest.{IsBounded, IsHonest}
use Rattle.xom_model.specs.Holds.{Holds}
use Rattle.xom_model.specs.Laws.{AreOwners}
use Rattle.xom_model.specs.Run.{IsSchedule, run_from}
use Rattle.xom_model.specs.Sequence.{AllFit, Teller, after_all}

-- ---- Reports

-- the guest of each line follows: none departs, and each has an owner
abbrev pub AllFollow : Report → Type 0
AllFollow report = All (λ line. (steps : ℕ) × (line.verdict ≡ Follows steps)) report.guests

-- the report names neither a forged entry nor a collision
pub record NamesNothing (report : Report) : Type 0 where
  pub forged : report.forged ≡ None
  pub collision : report.collision ≡ None

-- a journal of which the report names nothing is one of guests that follow, by the key of the
-- machine
abbrev pub IsJudgedWell : Key256 → List Owner → List Entry → Type 0
IsJudgedWell machine owners entries =
    NamesNothing (judgement machine owners entries) → AllFollow (judgement machine owners entries)

-- ---- What the machine keeps

-- all that the machine keeps while its journal is honest is so of this core, if it is
abbrev pub IsKept : StandsFor → List Owner → CoreState → Type 0
IsKept Stands owners core =
    IsHonest (sealed_by core.machine owners) core.entries → Holds Stands owners core

-- then a report that names nothing says that every guest follows
abbrev pub KeptIsJudgedWell : StandsFor → Type 0
KeptIsJudgedWell Stands =
    (owners : List Owner) (core : CoreState) → IsKept Stands owners core
    → IsJudgedWell core.machine owners core.entries

-- ---- Whole runs

-- The record comes from this machine's power-on by events each of which might come, and its journal
-- has a length that a journal can have.
pub record CameFromPowerOn (v : Versions) (machine : Key256) (last : Record) : Type 0 where
  pub boot : ℕ
  pub ram : List ℕ
  pub pc : ℕ
  pub events : List (Event × List ℕ)
  pub low : boot < 2 ^ 64
  pub fit : AllFit v (power_on v machine boot ram pc) events
  pub made : last ≡ after_all v (power_on v machine boot ram pc) events
  pub room : IsBounded last.core.entries

-- whatever events came, each with its chunk: a report that names nothing says that every guest
-- follows
abbrev pub RunsAreJudgedWell : Versions → StandsFor → Type 0
RunsAreJudgedWell v Stands = VersionLaw v Stands
    → (owners : List Owner) → AreOwners owners → (machine : Key256) (last : Record)
    → CameFromPowerOn v machine last
    → IsJudgedWell machine owners last.core.entries

-- the same of a run under a kernel that tells its turns, and under a schedule that keeps its rules
abbrev pub KernelsAreJudgedWell : Versions → StandsFor → Type 0
KernelsAreJudgedWell v Stands = VersionLaw v Stands
    → (owners : List Owner) → AreOwners owners
    → (machine : Key256) (boot : ℕ) (ram : List ℕ) (pc : ℕ) → boot < 2 ^ 64
    → (told : Teller) (schedule : Schedule) → IsSchedule schedule
    → (n : ℕ) (last : Record)
    → run_from v told schedule n 0 (power_on v machine boot ram pc) [] ≡ Some last
    → IsBounded last.core.entries
    → IsJudgedWell machine owners last.core.entries
