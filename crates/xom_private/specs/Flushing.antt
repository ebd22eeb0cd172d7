-- A cached line leaves the cache in the order of the code: it is taken out first, and then what it
-- held is written back.
use Rattle.std.specs.Prelude.{◌≡◌, ℕ, Option}
use Rattle.xom_base.specs.declared.event.Rule.{Rule}
use Rattle.line_cache.specs.declared.way.Victim.{Victim}
use Rattle.line_cache.specs.declared.way.Way.{Way}
use Rattle.line_cache.specs.Lines.{TakesLeast}
use Rattle.xom_versions.specs.Versions.{Versions}
use Rattle.xom_model.specs.Access.{after_victim}
use Rattle.xom_model.specs.Holds.{IsLive}
use Rattle.xom_model.specs.State.{CoreState}
use Rattle.xom_private.specs.Settling.{cache_of}

-- the way that held a line which was taken out
abbrev pub way_of : Victim → Way
way_of victim = record {
  slot = victim.slot;
  line = victim.line;
  bytes = victim.bytes;
  dirty =
      victim.dirty;
}

-- what a line that was taken out held is written back, where it is dirty
abbrev pub settled_out : Versions → CoreState → Victim → CoreState × Option Rule
settled_out v core victim = after_victim v core (way_of victim) victim.dirty

-- the least cached line of a page of a live slot is taken out of the cache, and nothing else
-- changes
pub record TakesOut (old new : CoreState) (slot page : ℕ) (victim : Victim) : Type 0 where
  pub takes : TakesLeast (cache_of old) (cache_of new) slot page victim
  pub rest : new ≡ record old { ways = new.ways }
  pub live : IsLive new victim.slot
