-- What the machine keeps of each guest holds before the first event.
use Rattle.std.proofs.Common.{◌≡◌, ℕ, ◌<◌, ◌^◌, List, Option, Result, Ok, Err, sym, subst}
use Rattle.std.specs.Prelude.{IfOk}
use Rattle.xom_base.specs.declared.image.PlainImage.{PlainImage}
use Rattle.xom_base.specs.declared.key.Key256.{Key256}
use Rattle.xom_owners.specs.declared.owner.Owner.{Owner}
use Rattle.xom_versions.specs.Versions.{Versions}
use Rattle.xom_model.specs.Versions.{StandsFor}
use Rattle.xom_model.specs.Holds.{Holds}
use Rattle.xom_model.proofs.StartKept.{start_holds}
use Rattle.xom_machine.specs.Whole.{WholeMachine}
use Rattle.cli_runs.specs.declared.guest_image.GuestImage.{GuestImage}
use Rattle.power_on.specs.Start.{first_record, ram_at_start}

pub started_holds : {E : Type 0} (v : Versions) (Stands : StandsFor) (machine : Key256)
    (boot frames : ℕ) (kernel : Option PlainImage) (images : List GuestImage)
    → boot < 2 ^ 64 → (started : Result WholeMachine E)
    → IfOk started (λ m. m ≡ record {
      state = first_record v machine boot frames kernel images;
      spare = 0;
    })
    → IfOk started (λ m. (owners : List Owner) → Holds Stands owners m.state.core)
started_holds v Stands machine boot frames kernel images low (Err why) is = tt
started_holds v Stands machine boot frames kernel images low (Ok m) is =
    λ (owners : List Owner). subst (λ (w : WholeMachine). Holds Stands owners w.state.core) (sym is)
    (start_holds v Stands owners machine boot (ram_at_start frames kernel images) low)
