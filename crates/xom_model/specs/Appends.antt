-- A journal only grows, and each install has a number of its own.
use Rattle.std.specs.Prelude.{ℕ, ◌≡◌, ◌<◌, ◌≤◌, List, ◌++◌}
use Rattle.xom_base.specs.declared.entry.Entry.{Entry}
use Rattle.xom_base.specs.declared.entry.Entry.TheVariants as entry
use Rattle.xom_base.specs.declared.event.Event.{Event}
use Rattle.xom_versions.specs.Versions.{Versions}
use Rattle.xom_model.specs.State.{CoreState, Record}
use Rattle.xom_model.specs.Event.{on}
use Rattle.xom_model.specs.Named.{HasOne}

-- the entry gives this install number
abbrev pub GivesIt : ℕ → Entry → Type 0
GivesIt install (entry.Install number slot id place start lines) = number ≡ install
GivesIt install other = ⊥

-- Entries were added behind the journal's, and each number that they give is above the last one
-- before, and at most the last one afterwards.
pub record Appends (core new : CoreState) : Type 0 where
  pub added : List Entry
  pub entries : new.entries ≡ core.entries ++ added
  pub last : core.installs ≤ new.installs
  pub given : (install : ℕ) → HasOne (GivesIt install) added
      → (core.installs < install) × (install ≤ new.installs)

-- each event does so
abbrev pub EventsAppend : Type 0
EventsAppend =
    (v : Versions) (r : Record) (e : Event) (bytes : List ℕ)
    → Appends r.core (on v r e bytes).0.core
