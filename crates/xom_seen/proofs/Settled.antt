-- What the law needs is true of every machine.
use Rattle.std.proofs.Common.{◌≡◌, ℕ, true, false, length, refl, ◌∙◌, length-set}
use Rattle.xom_base.specs.declared.event.Rule.{Rule}
use Rattle.xom_seal.specs.declared.envelope.Unwrapped.{Unwrapped}
use Rattle.session_table.specs.declared.session.SlotState.{SlotState}
use Rattle.session_table.specs.declared.session.SlotState.TheVariants as state
use Rattle.session_table.specs.Sessions.{is_live}
use Rattle.line_cache.specs.declared.way.Way.{Way}
use Rattle.line_cache.specs.Ways.{way_at}
use Rattle.xom_versions.specs.declared.store.Torn.{Torn}
use Rattle.xom_versions.specs.Versions.{Versions}
use Rattle.xom_model.specs.State.{CoreState, session_of}
use Rattle.xom_model.specs.Access.{after_raise, after_seal, after_stop, without_guest}
use Rattle.xom_model.specs.Guest.{after_exit}
use Rattle.xom_model.specs.Operation.{after_install, after_kill, is_free_state}
use Rattle.xom_model.specs.Holds.{IsLive}
use Rattle.xom_model.specs.Stops.{IsTaken}
use Rattle.xom_model.specs.Touched.{slot_of_event}
use Rattle.xom_model.proofs.Walk.{Ends, Parts, torn_off, written_back}
use Rattle.xom_model.proofs.WalkEvents.{Deeds, walk_event}
use Rattle.xom_seen.specs.NoWayOut.{StopsSettle, StoresStay}

-- a live slot is taken
live-taken : (core : CoreState) (slot : ℕ) → IsLive core slot → IsTaken core slot
live-taken core slot live = each (session_of core slot).state live
  where
    each : (s : SlotState) → is_live s ≡ true → is_free_state s ≡ false
    each state.Free live = absurd (cc)
    each state.Fresh live = refl
    each state.Running live = refl
    each state.Paused live = refl
    each state.Ended live = refl
    each (state.Stopped why) live = refl

pub stops_settle : StopsSettle
stops_settle core stops stores = record {
  null = stops.null;
  dirty = λ place dirty. stops.cached place (λ none. let clean = stops.clean place none in
      absurd (cc));
  apart = λ slot other live alive same.
      stops.apart slot other (live-taken core slot live) (live-taken core other alive) same;
  places = stops.places;
  store_places = stores;
}

-- ---- No event makes or drops a store

abbrev SameStores : CoreState → CoreState → Type 0
SameStores core new = length new.stores ≡ length core.stores

written-stores : (v : Versions) (core : CoreState) (way : Way) (version : ℕ)
    → SameStores core (written_back v core way version)
unfolding after_seal after_raise
written-stores v core way version = length-set core.stores way.slot _

torn-stores : (v : Versions) (core : CoreState) (way : Way) (torn : Torn)
    → SameStores core (torn_off v core way torn)
unfolding without_guest after_raise
torn-stores v core way torn = length-set core.stores way.slot _

stopped-stores : (core : CoreState) (slot : ℕ) (why : Rule)
    → SameStores core (after_stop core slot why)
unfolding without_guest
stopped-stores core slot why = refl

finished-stores : (core : CoreState) (slot : ℕ) → SameStores core (after_exit core slot).0
unfolding without_guest
finished-stores core slot = refl

killed-stores : (v : Versions) (core : CoreState) (slot : ℕ)
    → SameStores core (after_kill v core slot)
unfolding without_guest
killed-stores v core slot = refl

installed-stores : (v : Versions) (core : CoreState) (slot place area : ℕ) (plain : Unwrapped)
    → SameStores core (after_install v core slot place area plain)
unfolding after_install
installed-stores v core slot place area plain = length-set core.stores slot _

stores_parts : (v : Versions) (slot : ℕ) → Parts v slot SameStores
stores_parts v slot = record {
  none = λ core. refl;
  on = λ a b c first then. then ∙ first;
  hash = λ core texts. refl;
  accept = λ core line version place ct runs. refl;
  point = λ core line. refl;
  bring = λ core place way clean may. refl;
  seal = λ core place version way dirty raised may. written-stores v core (way_at core.ways place)
      version;
  tear = λ core place torn dirty raised. torn-stores v core (way_at core.ways place) torn;
  stop = λ core why live. stopped-stores core slot why;
  step = λ core place session step runs goes stores. refl;
}

stores_ends : (slot : ℕ) → Ends slot SameStores SameStores
stores_ends slot = record {
  went = λ core. refl;
  after = λ a b c first then. then ∙ first;
  trap = λ core why runs. refl;
  exit = λ core runs exited. finished-stores core slot;
}

stores_deeds : (v : Versions) (slot : ℕ) → Deeds v slot SameStores SameStores
stores_deeds v slot = record {
  sets_register = λ core reg value. refl;
  sets_ram = λ core ram. refl;
  enters = λ core is. refl;
  resumes = λ core is. refl;
  maps = λ core page frame may. refl;
  kills = λ core some known taken. killed-stores v core slot;
  outs = λ core byte. refl;
  installs = λ core place area plain some known is_free opens fits. installed-stores v core slot
      place area plain;
  saves = λ core key ct name live same. refl;
  restores = λ core key ct name place live same. refl;
  takes_back = λ core reg value live. refl;
}

pub stores_stay : StoresStay
stores_stay v r e chunk =
    walk_event v SameStores SameStores r e chunk (stores_parts v (slot_of_event r e))
    (stores_ends (slot_of_event r e)) (stores_deeds v (slot_of_event r e))
