-- Whatever events come after power-on, all that the machine keeps holds while the journal is
-- honest.
use Rattle.std.proofs.Common.{ℕ, List, [], ◌∷◌, sym, ap, subst}
use Rattle.xom_base.specs.declared.event.Event.{Event}
use Rattle.xom_owners.specs.declared.owner.Owner.{Owner}
use Rattle.journal_findings.specs.Findings.{sealed_by}
use Rattle.xom_versions.specs.Versions.{VersionLaw, Versions}
use Rattle.xom_model.specs.Versions.{StandsFor}
use Rattle.xom_model.specs.State.{Record, power_on}
use Rattle.xom_model.specs.Event.{on}
use Rattle.xom_model.specs.Holds.{Holds}
use Rattle.xom_model.specs.Laws.{AreOwners}
use Rattle.xom_model.specs.Sequence.{AllFit, RunsHold, after_all}
use Rattle.xom_model.proofs.Growth.{IsTrusted, honest_before}
use Rattle.xom_model.proofs.Onward.{Onward, onward_event, onward_none, onward_on}
use Rattle.xom_model.proofs.StartKept.{start_holds}
use Rattle.xom_model.proofs.Turns.{events_keep}

onward_all : (v : Versions) (r : Record) (events : List (Event × List ℕ))
    → Onward r.core (after_all v r events).core
onward_all v r [] = onward_none r.core
onward_all v r (first ∷ events) =
    let next = (on v r first.0 first.1).0 in
    onward_on r.core next.core (after_all v next events).core (onward_event v r first.0 first.1)
    (onward_all v next events)

all_keep : (v : Versions) (Stands : StandsFor) → VersionLaw v Stands → (owners : List Owner)
    → AreOwners owners → (r : Record) (events : List (Event × List ℕ)) → AllFit v r events
    → IsTrusted (sealed_by r.core.machine owners) (after_all v r events).core.entries
    → Holds Stands owners r.core → Holds Stands owners (after_all v r events).core
all_keep v Stands law owners are r [] fit honest holds = holds
all_keep v Stands law owners are r (first ∷ events) fit honest holds =
    let next = (on v r first.0 first.1).0 in
    let far = onward_all v next events in
    let sealed = sealed_by r.core.machine owners in
    let now : IsTrusted sealed next.core.entries = honest_before next.core.entries far.more.0 sealed
    (subst (λ es. IsTrusted sealed es) far.more.1 honest) in
    let same = ap (λ m. sealed_by m owners) (onward_event v r first.0 first.1).machine in
    all_keep v Stands law owners are next events fit.1
    (subst (λ s. IsTrusted s (after_all v next events).core.entries) (sym same) honest)
    (events_keep v Stands law owners are r first.0 first.1 fit.0 now.room now.honest holds)

pub runs_hold : (v : Versions) (Stands : StandsFor) → RunsHold v Stands
runs_hold v Stands law owners are machine boot ram pc low events fit room honest =
    let holds = all_keep v Stands law owners are (power_on v machine boot ram pc) events fit
    (record { honest = honest; room = room }) (start_holds v Stands owners machine boot ram
    low) in
    record { holds = holds; once = holds.slots.seals.once }
