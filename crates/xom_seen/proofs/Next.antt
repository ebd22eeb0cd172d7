-- What is seen after an event is a function of what was seen before, the event, its bytes and what
-- it emits.
use Rattle.std.proofs.Common.{◌≡◌, ℕ, ◌+◌, ◌<◌, ◌==◌, ◌&&◌, not, take, Bool, true, false, cond, List, [], ◌∷◌, ◌++◌, length, map, refl, sym, ◌∙◌, ap, subst, Option, Some, None, Ok, Err, arith, append-nil}
use Rattle.std.specs.Prelude.{is_some, nat_lt, position}
use Rattle.std.specs.List.{prefix_len}
use Rattle.std.proofs.lemmas.List.{length-map}
use Rattle.std.proofs.lemmas.Bool.{ne_eqb}
use Rattle.xom_base.specs.declared.event.Cause.{Cause}
use Rattle.xom_base.specs.declared.event.Event.{Event}
use Rattle.xom_base.specs.declared.event.Event.TheVariants as event
use Rattle.xom_base.specs.declared.event.Op.{Op}
use Rattle.session_table.specs.declared.session.SlotState.{SlotState}
use Rattle.session_table.specs.declared.session.SlotState.TheVariants as state
use Rattle.session_table.specs.declared.session.SlotView.{SlotView}
use Rattle.session_table.specs.Sessions.{is_live, is_running}
use Rattle.xom_versions.specs.Versions.{Raised, RaisesInTheOpen, Versions}
use Rattle.xom_model.specs.declared.outcome.Outcome.{Outcome}
use Rattle.xom_model.specs.declared.outcome.Outcome.TheVariants as outcome
use Rattle.xom_model.specs.State.{CoreState, Record, session_of}
use Rattle.xom_model.specs.Guest.{guest}
use Rattle.xom_model.specs.Operation.{operation}
use Rattle.xom_model.specs.Null.{Answer, null_step, ram_after_write}
use Rattle.xom_model.specs.Event.{after_kernel_write, after_operation, fits, guest_turn, null_turn, on, open_in, ran_on, running_slot, told_in, with_open, with_ram}
use Rattle.xom_model.specs.Holds.{IsLive}
use Rattle.xom_model.specs.Seen.{Seen, seen_of, shown_slot, view_of}
use Rattle.xom_model.specs.Touched.{named_in, slot_of_event, slot_of_op as slot_named, slot_or_none}
use Rattle.xom_model.proofs.Turns.{ran_on-core, running-runs}
use Rattle.xom_seen.specs.Emission.{Emission, Signal, is_ready, line_named, signals_of_event, signals_of_guest, signals_of_others}
use Rattle.xom_seen.specs.SeenNext.{Sight, after_signals, counted_seen, guest_seen, left_seen, null_seen, operated_seen, running_seen, seen_next, sight_in, with_sight}
use Rattle.xom_seen.specs.NoWayOut.{IsSettled, NoWayOut, SameSight, emission_of}
use Rattle.xom_seen.specs.SealOwners.{AreToldOf, EventsTellOwners, GiveAll}
use Rattle.xom_seen.proofs.Sights.{live_within, sight_of}
use Rattle.xom_seen.proofs.Readings.{Reads, read-behind}
use Rattle.xom_seen.proofs.Shows.{Knows}
use Rattle.xom_seen.proofs.Guests.{guest_sight, guest_tells, outcome_by}
use Rattle.xom_seen.proofs.Operations.{Does, does_operation}
use Rattle.xom_seen.proofs.Sameness.{null_step_same, shown_answer}

-- before the event
knows-settled : (core : CoreState) → IsSettled core → Knows core core
knows-settled core settled = record {
  live = λ k live. (live, refl, refl);
  dirty = settled.dirty;
  places = settled.places;
  apart = settled.apart;
  places_before = settled.places;
}

module _ (v : Versions) (raised : Raised) (law : RaisesInTheOpen v raised) (core : CoreState)
    (settled : IsSettled core) where
  -- an operation shows what it changed by its entries and its status
  operated_looks : (op : Op)
      → Does v raised law core (is_ready (session_of (operation v core op).0 (slot_named op))) op
      core (operation v core op)
  operated_looks op = does_operation v raised law core
      (is_ready (session_of (operation v core op).0 (slot_named op))) core settled.places
      settled.store_places op refl

  module _ (slot : ℕ) (live : IsLive core slot) where
    some : (slot == 0) ≡ false
    some =
        ne_eqb slot 0
        (λ zeroth. absurd (let dead = settled.null in let alive =
        subst (λ k. is_live (session_of core k).state ≡ true) zeroth live in cc))

    low : slot < 17
    low = let within = live_within core slot live in let places = settled.places in omega arith

-- ---- Which slot runs

prefix_len-map : {A B : Type 0} (f : A → B) (test : B → Bool) (xs : List A)
    → prefix_len test (map f xs) ≡ prefix_len (λ x. test (f x)) xs
prefix_len-map f test [] = refl
prefix_len-map f test (x ∷ xs) = ap (λ n. cond (test (f x)) (1 + n) 0) (prefix_len-map f test xs)

position-map : {A B : Type 0} (f : A → B) (test : B → Bool) (xs : List A)
    → position test (map f xs) ≡ position (λ x. test (f x)) xs
position-map f test xs =
    ap (λ n. cond (nat_lt n (length (map f xs))) (Some n) None)
    (prefix_len-map f (λ y. not (test y)) xs)
    ∙ ap (λ m. cond (nat_lt (prefix_len (λ x. not (test (f x))) xs) m)
    (Some (prefix_len (λ x. not (test (f x))) xs)) None) (length-map xs f)

-- it is seen
runs-seen : (r : Record) → running_seen (seen_of r) ≡ slot_or_none (running_slot r)
unfolding seen_of view_of
runs-seen r =
    ap slot_or_none (position-map shown_slot (λ (k : SlotView). is_running k.state) r.core.sessions)

running_live : (s : SlotState) → s ≡ state.Running → is_live s ≡ true
running_live s is = rw is refl

-- ---- Whole events

-- what is seen where a core looks so
abbrev seen_from : Record → Sight → Seen
seen_from r s = record {
  view = record {
    cells = s.cells;
    slots = s.slots;
    status = r.status;
    cause = r.cause;
    who =
        r.who;
    ram = s.ram;
    events = r.events;
  };
  pc = r.pc;
  npc = r.npc;
  pages = s.pages;
  installs = s.installs;
  areas = s.areas;
}

abbrev with_signals : Record × Outcome → List Signal → Emission
with_signals after signals =
    record { status = after.0.status; outcome = after.1; signals = signals }

-- What is seen after an event about this slot, from which the record came with this outcome, and
-- whose signals are these.
pub record Looks (r : Record) (slot : ℕ) (after : Record × Outcome) (told : List Signal)
    (next : Emission → Seen) : Type 0 where
  pub owners : AreToldOf r.core (is_ready (session_of after.0.core slot)) after.0.core told
  pub seen : seen_of after.0 ≡ next (with_signals after told)

-- nothing was recorded
quiet_next : (r : Record) (slot : ℕ) (after : Record × Outcome) (next : Emission → Seen)
    → after.0.core.entries ≡ r.core.entries → seen_of after.0 ≡ next (with_signals after [])
    → Looks r slot after (signals_of_others r.core slot after.0.core) next
quiet_next r slot after next same seen =
    let entries : after.0.core.entries ≡ r.core.entries ++ [] =
    same ∙ sym (append-nil r.core.entries) in
    let none = read-behind r.core.sessions slot (is_ready (session_of after.0.core slot))
    (line_named r.core.sessions slot) r.core.entries after.0.core.entries [] [] entries refl in
    subst (λ told. Looks r slot after told next) (sym none)
    (record { owners = record { added = []; entries = entries; gives = refl }; seen = seen })

module _ (v : Versions) (raised : Raised) (law : RaisesInTheOpen v raised) where
  -- an operation, over a core with the same entries and sessions as the record's
  does_next : (r mid : Record) (op : Op) (next : Emission → Seen) → IsSettled mid.core
      → mid.core.entries ≡ r.core.entries → mid.core.sessions ≡ r.core.sessions
      → ((told : List Signal) → sight_of (operation v mid.core op).0
      ≡ operated_seen v raised (sight_of mid.core) op
      (with_signals (after_operation mid op (operation v mid.core op)) told)
      → seen_of (after_operation mid op (operation v mid.core op)).0
      ≡ next (with_signals (after_operation mid op (operation v mid.core op)) told))
      → Looks r (slot_named op) (after_operation mid op (operation v mid.core op))
      (signals_of_others r.core (slot_named op)
      (after_operation mid op (operation v mid.core op)).0.core) next
  does_next r mid op next settled entries sessions goes =
      let after = after_operation mid op (operation v mid.core op) in
      let does = operated_looks v raised law mid.core settled op in
      let knows = knows-settled mid.core settled in
      let slot = slot_named op in
      let ready = is_ready (session_of after.0.core slot) in
      let all : after.0.core.entries ≡ r.core.entries ++ does.added =
      does.entries ∙ ap (λ es. es ++ does.added) entries in
      let reads : Reads r.core.sessions slot ready (line_named r.core.sessions slot) does.added
      does.signals =
      subst (λ list. Reads list slot ready (line_named list slot) does.added does.signals) sessions
      (does.reads knows) in
      let is = read-behind r.core.sessions slot ready (line_named r.core.sessions slot)
      r.core.entries after.0.core.entries does.added does.signals all reads in
      subst (λ told. Looks r slot after told next) (sym is) (record {
        owners = record {
          added = does.added;
          entries = all;
          gives = subst (λ list. GiveAll list ready does.added does.signals) sessions
              (does.gives knows);
        };
        seen = goes does.signals (does.sight knows);
      })

  do_next : (r : Record) (op : Op) → IsSettled r.core
      → Looks r (slot_named op) (after_operation r op (operation v r.core op))
      (signals_of_others r.core (slot_named op)
      (after_operation r op (operation v r.core op)).0.core)
      (λ m. counted_seen (with_sight (seen_of r) (operated_seen v raised (sight_in (seen_of r)) op
      m)) m.status)
  unfolding seen_of view_of sight_of
  do_next r op settled =
      does_next r r op _ settled refl refl
      (λ told is. ap (λ c. seen_from (after_operation r op (operation v r.core op)).0 c) is)

  ran_next : (r : Record) (slot : ℕ) (after : CoreState × Option Cause) (signals : List Signal)
      → sight_of after.0 ≡ left_seen (after_signals v raised slot 0 (sight_of r.core) signals) slot
      (outcome_by after.1)
      → seen_of (ran_on r slot after).0 ≡ counted_seen (guest_seen v raised (seen_of r) slot
      (with_signals (ran_on r slot after) signals)) (ran_on r slot after).0.status
  unfolding seen_of view_of sight_of
  ran_next r slot (new, None) signals is = ap (λ s. seen_from (ran_on r slot (new, None)).0 s) is
  ran_next r slot (new, Some why) signals is =
      ap (λ s. seen_from (ran_on r slot (new, Some why)).0 s) is

  guest_next : (r : Record) (interrupt : Bool) (at : Option ℕ) → running_slot r ≡ at
      → is_some at ≡ true → IsSettled r.core
      → Looks r (slot_or_none at) (guest_turn v r interrupt at)
      (signals_of_guest v r.core (slot_or_none at) (guest_turn v r interrupt at).0.core)
      (λ m. counted_seen (guest_seen v raised (seen_of r) (slot_or_none at) m) m.status)
  guest_next r interrupt None is some_runs settled = absurd (cc)
  guest_next r interrupt (Some slot) is some_runs settled =
      let after = guest v r.core slot interrupt in
      let live = running_live (session_of r.core slot).state (running-runs r.core slot is) in
      let knows = knows-settled r.core settled in
      let is_some_slot = some v raised law r.core settled slot live in
      let is_low = low v raised law r.core settled slot live in
      let told = signals_of_guest v r.core slot after.0 in
      let same : (ran_on r slot after).0.core ≡ after.0 = ran_on-core r slot after.0 after.1 in
      record {
        owners = subst (λ (c : CoreState). AreToldOf r.core (is_ready (session_of c slot)) c
            (signals_of_guest v r.core slot c)) (sym same)
            (guest_tells v raised law r.core slot is_some_slot is_low interrupt live knows);
        seen = subst (λ (c : CoreState). seen_of (ran_on r slot after).0
            ≡ counted_seen (guest_seen v raised (seen_of r) slot (with_signals (ran_on r slot after)
            (signals_of_guest v r.core slot c))) (ran_on r slot after).0.status) (sym same)
            (ran_next r slot after told
            (guest_sight v raised law r.core slot is_some_slot is_low interrupt live knows));
      }

  null_next : (r : Record) (answer : Answer) → IsSettled r.core
      → Looks r (named_in answer.1) (null_turn v r answer)
      (signals_of_others r.core (named_in answer.1) (null_turn v r answer).0.core)
      (λ m. counted_seen (null_seen v raised (seen_of r) (shown_answer answer) m) m.status)
  unfolding seen_of view_of sight_of
  null_next r (s, Err why) settled = quiet_next r 0 (null_turn v r (s, Err why)) _ refl refl
  null_next r (s, Ok None) settled = quiet_next r 0 (null_turn v r (s, Ok None)) _ refl refl
  null_next r (s, Ok (Some op)) settled =
      let mid = with_open r s in
      let there : IsSettled mid.core = record {
        null = settled.null;
        dirty = settled.dirty;
        apart = settled.apart;
        places = settled.places;
        store_places = settled.store_places;
      } in
      does_next r mid op _ there refl refl
      (λ told is. ap (λ c. seen_from (null_turn v r (s, Ok (Some op))).0 c) is)

-- a guest event comes only where a guest runs
guest_runs : (a b : Bool) → (not a && b) ≡ true → b ≡ true
guest_runs true b is = absurd (cc)
guest_runs false b is = is

-- Each event looks as what it emits tells.
abbrev AllLook : Type 0
AllLook = (v : Versions) (raised : Raised) → RaisesInTheOpen v raised → (r : Record) (e : Event)
    (chunk : List ℕ)
    → fits r e ≡ true → IsSettled r.core
    → Looks r (slot_of_event r e) (on v r e chunk) (signals_of_event v r e (on v r e chunk).0)
    (λ m. seen_next v raised (seen_of r) e chunk m)

all_look : AllLook
unfolding on seen_next seen_of view_of
all_look v raised law r (event.Do op) chunk comes settled =
    let looks = do_next v raised law r op settled in
    record { owners = looks.owners; seen = looks.seen }
all_look v raised law r (event.Guest interrupt) chunk comes settled =
    let looks = guest_next v raised law r interrupt (running_slot r) refl
    (guest_runs r.halted (is_some (running_slot r)) comes) settled in
    record {
      owners = looks.owners;
      seen = looks.seen
          ∙ ap (λ k. counted_seen (guest_seen v raised (seen_of r) k
          (with_signals (guest_turn v r interrupt (running_slot r))
          (signals_of_guest v r.core (slot_or_none (running_slot r))
          (guest_turn v r interrupt (running_slot r)).0.core)))
          (guest_turn v r interrupt (running_slot r)).0.status) (sym (runs-seen r));
    }
all_look v raised law r event.Null chunk comes settled =
    let answer = null_step (told_in r) (open_in r) in
    let looks = null_next v raised law r answer settled in
    record {
      owners = looks.owners;
      seen = looks.seen
          ∙ ap (λ a. counted_seen (null_seen v raised (seen_of r) a
          (with_signals (null_turn v r answer)
          (signals_of_others r.core (named_in answer.1) (null_turn v r answer).0.core)))
          (null_turn v r answer).0.status) (sym (null_step_same (told_in r) (open_in r)));
    }
all_look v raised law r (event.Write address count) chunk comes settled =
    quiet_next r 0 (after_kernel_write r address (take count chunk)) _ refl refl
all_look v raised law r (event.Poke address count) chunk comes settled =
    quiet_next r 0 (with_ram r (ram_after_write r.core.ram address (take count chunk)), outcome.Went)
    _ refl refl

pub no_way_out : NoWayOut
no_way_out v raised law r e chunk comes settled =
    (all_look v raised law r e chunk comes settled).seen

pub events_tell_owners : EventsTellOwners
events_tell_owners v raised law r e chunk comes settled =
    (all_look v raised law r e chunk comes settled).owners

pub same_sight : SameSight
same_sight v raised law r s e chunk comes others settled other_settled same emit =
    no_way_out v raised law r e chunk comes settled
    ∙ ap (λ seen. seen_next v raised seen e chunk (emission_of v r e chunk)) same
    ∙ ap (λ m. seen_next v raised (seen_of s) e chunk m) emit
    ∙ sym (no_way_out v raised law s e chunk others other_settled)
