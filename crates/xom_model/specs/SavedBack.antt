-- A register that was saved comes back.
use Rattle.std.specs.Prelude.{◌≡◌, ℕ, List}
use Rattle.xom_base.specs.declared.event.Op.TheVariants.{Restore, Save}
use Rattle.xom_owners.specs.declared.owner.Owner.{Owner}
use Rattle.xom_versions.specs.Versions.{Versions}
use Rattle.xom_model.specs.Versions.{StandsFor}
use Rattle.xom_model.specs.State.{CoreState}
use Rattle.xom_model.specs.Operation.{operation}
use Rattle.xom_model.specs.Holds.{Holds}

-- a register that was saved comes back under the same epoch: where nothing happened in between,
-- Restore from the same place is done and leaves the cells as they were before
abbrev pub SavedComesBack : StandsFor → Type 0
SavedComesBack Stands = (v : Versions) (owners : List Owner) (core : CoreState)
    (slot reg address : ℕ) → Holds Stands owners core
    → (operation v core (Save slot reg address)).1 ≡ 0
    → ((operation v (operation v core (Save slot reg address)).0 (Restore slot reg address)).1 ≡ 0)
    × ((operation v (operation v core (Save slot reg address)).0 (Restore slot reg address)).0.cells
    ≡ core.cells)
