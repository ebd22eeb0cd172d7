-- The headline: in a report that names nothing every guest follows.
use Rattle.std.proofs.Common.{◌≡◌, inl, inr, ℕ, zero, suc, ◌<◌, ◌^◌, List, [], ◌∷◌, Option, Some, length, refl, sym, ap, subst}
use Rattle.std.specs.Prelude.{slice_get}
use Rattle.xom_base.specs.Entries.{steps_of}
use Rattle.xom_base.specs.declared.entry.Entry.{Entry}
use Rattle.xom_base.specs.declared.entry.Entry.TheVariants as entry
use Rattle.xom_base.specs.declared.key.ImageId.{ImageId}
use Rattle.xom_base.specs.declared.key.Key256.{Key256}
use Rattle.xom_base.specs.declared.schedule.Schedule.{Schedule}
use Rattle.xom_owners.specs.declared.owner.Owner.{Owner}
use Rattle.journal_findings.specs.Findings.{sealed_by}
use Rattle.trace_judge.specs.Laws.{IsOwnersRun}
use Rattle.trace_judge.specs.Judgement.{judgement}
use Rattle.trace_judge.proofs.Lines.{All-of_gets, Follows-lines}
use Rattle.xom_versions.specs.Versions.{VersionLaw, Versions}
use Rattle.xom_model.specs.declared.outcome.Turn.{Turn}
use Rattle.xom_model.specs.Versions.{StandsFor}
use Rattle.xom_model.specs.State.{CoreState, Record, power_on}
use Rattle.xom_model.specs.Seen.{View}
use Rattle.xom_model.specs.Run.{IsSchedule, run_from}
use Rattle.xom_model.specs.Sequence.{after_all}
use Rattle.xom_model.specs.Honest.{IsBounded, IsHonest}
use Rattle.xom_model.specs.Holds.{Holds, Installs, IsAlone, IsInstalled}
use Rattle.xom_model.specs.Laws.{AreOwners}
use Rattle.xom_model.proofs.Judged.{no_collision_found, no_forgery_found}
use Rattle.xom_model.proofs.RunEvents.{run-IsRunOf}
use Rattle.xom_model.proofs.RunKept.{runs_hold}
use Rattle.headline_law.specs.Headline.{AllFollow, IsJudgedWell, KeptIsJudgedWell, KernelsAreJudgedWell, NamesNothing, RunsAreJudgedWell}

-- ---- Entries that install

-- an Install entry installs
install-at : (entries : List Entry) (i n slot : ℕ) (id : ImageId) (place at lines : ℕ)
    → slice_get entries i ≡ Some (entry.Install n slot id place at lines) → IsInstalled entries n id
install-at [] i n slot id place at lines is = absurd (cc)
install-at (first ∷ entries) zero n slot id place at lines is =
    let here : first ≡ entry.Install n slot id place at lines = cc in
    inl (subst (λ e. Installs e n id) (sym here) (refl, refl))
install-at (first ∷ entries) (suc i) n slot id place at lines is =
    inr (install-at entries i n slot id place at lines is)

-- each entry of a journal in which each installed guest is alone
run-at : (owners : List Owner) (entries : List Entry)
    → ((n : ℕ) (id : ImageId) → IsInstalled entries n id → IsAlone owners entries n id)
    → (e : Entry) (i : ℕ) → slice_get entries i ≡ Some e → IsOwnersRun owners entries e
run-at owners entries alone (entry.Install n slot id place at lines) i is =
    let found = alone n id (install-at entries i n slot id place at lines is) in
    (found.0, found.1, found.2.whose, found.2.reaches)
run-at owners entries alone (entry.Step n step) i is = tt
run-at owners entries alone (entry.Trap n why) i is = tt
run-at owners entries alone (entry.Seal key message) i is = tt
run-at owners entries alone (entry.Accept key message place) i is = tt
run-at owners entries alone (entry.Hash preimage digest) i is = tt
run-at owners entries alone (entry.Stop n rule) i is = tt
run-at owners entries alone (entry.Kill n) i is = tt
run-at owners entries alone (entry.Out byte) i is = tt

-- where what the machine keeps holds, all follow
pub holds-AllFollow : (Stands : StandsFor) (owners : List Owner) (core : CoreState)
    (machine : Key256)
    → Holds Stands owners core → AllFollow (judgement machine owners core.entries)
holds-AllFollow Stands owners core machine holds =
    let follows = Follows-lines owners core.entries (All-of_gets (IsOwnersRun owners core.entries)
    core.entries (λ i e is. run-at owners core.entries holds.slots.alone e i is)) in
    λ k d within. (length (steps_of _ core.entries), follows k d within)

-- ---- Reports that name nothing

-- a journal of which the report names nothing is honest
pub named-IsHonest : (machine : Key256) (owners : List Owner) (entries : List Entry)
    → NamesNothing (judgement machine owners entries) → IsHonest (sealed_by machine owners) entries
named-IsHonest machine owners entries none =
    record {
      forgery = no_forgery_found (sealed_by machine owners) entries none.forged;
      collision =
          no_collision_found entries none.collision;
    }

pub kept-judged : (Stands : StandsFor) → KeptIsJudgedWell Stands
kept-judged Stands owners core kept none =
    holds-AllFollow Stands owners core core.machine
    (kept (named-IsHonest core.machine owners core.entries none))

-- ---- Whole runs

pub runs-judged : (v : Versions) (Stands : StandsFor) → RunsAreJudgedWell v Stands
runs-judged v Stands law owners are machine last came none =
    let start = power_on v machine came.boot came.ram came.pc in
    let entries-are : last.core.entries ≡ (after_all v start came.events).core.entries =
    ap (λ (r : Record). r.core.entries) came.made in
    let honest = named-IsHonest machine owners last.core.entries none in
    let holds = (runs_hold v Stands law owners are machine came.boot came.ram came.pc came.low
    came.events came.fit
    (subst IsBounded entries-are came.room) (subst (IsHonest (sealed_by machine owners)) entries-are
    honest)).holds in
    subst (λ es. AllFollow (judgement machine owners es)) (sym entries-are)
    (holds-AllFollow Stands owners (after_all v start came.events).core machine holds)

-- of a run under any kernel that tells its turns, whatever its state is
pub kernel-judged : (v : Versions) (Stands : StandsFor) → VersionLaw v Stands
    → (owners : List Owner) → AreOwners owners
    → (machine : Key256) (boot : ℕ) (ram : List ℕ) (pc : ℕ) → boot < 2 ^ 64
    → {K : Type 0} (told : K → View → Option (Turn × (List ℕ × K))) (schedule : Schedule)
    → IsSchedule schedule
    → (n : ℕ) (k : K) (last : Record)
    → run_from v told schedule n 0 (power_on v machine boot ram pc) k ≡ Some last
    → IsBounded last.core.entries
    → IsJudgedWell machine owners last.core.entries
kernel-judged v Stands law owners are machine boot ram pc low told schedule keeps n k last is room =
    let run = run-IsRunOf v told schedule keeps n 0 (power_on v machine boot ram pc) k last is in
    runs-judged v Stands law owners are machine last
    (record {
      boot = boot;
      ram = ram;
      pc = pc;
      events = run.events;
      low = low;
      fit =
          run.fit;
      made = run.made;
      room = room;
    })

pub kernels-judged : (v : Versions) (Stands : StandsFor) → KernelsAreJudgedWell v Stands
kernels-judged v Stands law owners are machine boot ram pc low told schedule keeps n last is room =
    kernel-judged v Stands law owners are machine boot ram pc low told schedule keeps n [] last is
    room
