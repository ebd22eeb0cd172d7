-- A line is placed in the order of the code: its way is filled first, and then the line that it
-- pushed out is written back.
use Rattle.std.specs.Prelude.{ℕ, ◌==◌, true, false, Bool, Option, Some, None, List, if◌then◌else◌}
use Rattle.xom_base.specs.declared.event.Rule.{Rule}
use Rattle.line_cache.specs.declared.way.Victim.{Victim}
use Rattle.line_cache.specs.Ways.{Cache, new_way, place_for}
use Rattle.xom_versions.specs.Versions.{Versions}
use Rattle.xom_model.specs.declared.reach.Reach.{Reach}
use Rattle.xom_model.specs.declared.reach.Reach.TheVariants as reach
use Rattle.xom_model.specs.Access.{after_stop, with_pointers, write_back}
use Rattle.xom_model.specs.State.{CoreState, core_with_way}

-- a line that was pushed out, where it is dirty
abbrev pub if_dirty : Victim → Bool → Option Victim
if_dirty victim false = None
if_dirty victim true = Some victim

-- a line that was pushed out, where it is still to be written back
abbrev pub to_write : Option Victim → Option Victim
to_write None = None
to_write (Some victim) = if_dirty victim victim.dirty

-- the cache of the core
abbrev pub cache_of : CoreState → Cache
cache_of core = record { ways = core.ways; pointers = core.pointers }

-- the core with the new line in its way
unfoldable pub core_with_new_line : CoreState → ℕ → ℕ → List ℕ → CoreState
core_with_new_line core slot line bytes =
    core_with_way (with_pointers core line) (place_for core.ways core.pointers line)
    (new_way slot line bytes)

-- what the access comes to, where the line that was pushed out was written back, or its slot is to
-- be stopped
abbrev pub settled_by : ℕ → ℕ → ℕ → CoreState → Option Rule → CoreState × Reach
settled_by slot place who core None = (core, reach.Ready place)
settled_by slot place who core (Some why) =
    (after_stop core who why, if who == slot then reach.Stopped why else reach.Ready place)

module _ (v : Versions) where
  -- an access after its line was placed, with what that pushed out written back
  abbrev pub access_after_settling : CoreState → ℕ → ℕ → Option Victim → CoreState × Reach
  access_after_settling core slot place None = (core, reach.Ready place)
  access_after_settling core slot place (Some victim) =
      settled_by slot place victim.slot (write_back v core victim.slot victim.line victim.bytes).0
      (write_back v core victim.slot victim.line victim.bytes).1

-- an access that stops its slot
abbrev pub stopped_for : CoreState → ℕ → Rule → CoreState × Reach
stopped_for core slot why = (after_stop core slot why, reach.Stopped why)
