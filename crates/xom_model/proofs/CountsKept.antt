-- An event raises an epoch by one at most, and gives one install number at most.
use Rattle.std.proofs.Common.{◌≡◌, inl, inr, ℕ, ◌+◌, ◌<◌, ◌≤◌, ◌^◌, Bool, List, Option, Some, None, Ok, Err, length, set, refl, sym, ap, subst, arith}
use Rattle.std.proofs.lemmas.List.{get_or-set_same, get_or-set_other, set_past}
use Rattle.std.proofs.lemmas.Bool.Decides.{eqb_tells}
use Rattle.xom_base.specs.declared.event.Cause.{Cause}
use Rattle.xom_base.specs.declared.event.Event.{Event}
use Rattle.xom_base.specs.declared.event.Event.TheVariants as event
use Rattle.xom_base.specs.declared.event.Rule.{Rule}
use Rattle.session_table.specs.declared.session.Session.{Session}
use Rattle.session_table.specs.Sessions.{free, session_after_enter, session_after_pause, session_after_resume, session_at}
use Rattle.xom_seal.specs.declared.envelope.Unwrapped.{Unwrapped}
use Rattle.xom_versions.specs.Versions.{Versions}
use Rattle.line_cache.specs.declared.way.Way.{Way}
use Rattle.line_cache.specs.Ways.{way_at}
use Rattle.xom_model.specs.State.{CoreState, Record, session_of}
use Rattle.xom_model.specs.Access.{after_raise, after_seal, after_stop, without_guest}
use Rattle.xom_model.specs.Guest.{after_exit, after_trap, guest}
use Rattle.xom_model.specs.Null.{Answer, null_step}
use Rattle.xom_model.specs.Operation.{after_install, after_kill}
use Rattle.xom_model.specs.Event.{guest_turn, null_turn, on, open_in, ran_on, running_slot, told_in}
use Rattle.xom_model.specs.Counts.{AreCounted, CountedAtStart, EventsKeepCounts}
use Rattle.xom_model.specs.Touched.{slot_of_event}
use Rattle.xom_model.proofs.Gone.{less}
use Rattle.xom_model.proofs.StartStops.{free_at}
use Rattle.xom_model.proofs.Walk.{Ends, Parts, written_back}
use Rattle.xom_model.proofs.WalkEvents.{Deeds, walk_event}

-- what a part keeps, and what an event does
abbrev pub KeepsCounts : CoreState → CoreState → Type 0
KeepsCounts core new = (number : ℕ) → AreCounted core number → AreCounted new number

abbrev pub CountsOne : CoreState → CoreState → Type 0
CountsOne core new = (number : ℕ) → AreCounted core number → AreCounted new (number + 1)

-- one more event
more_counted : (core : CoreState) → CountsOne core core
more_counted core number counted = record {
  epochs = λ slot. let low = counted.epochs slot in omega arith;
  last = let low = counted.last in omega arith;
  installs = counted.installs;
}

-- sessions and the last number stay
counts_same : (core new : CoreState) → new.sessions ≡ core.sessions → new.installs ≡ core.installs
    → KeepsCounts core new
counts_same core new sessions installs number counted = record {
  epochs = λ slot. let same = ap (λ list. (session_at list slot).epoch) sessions in let low =
      counted.epochs slot in omega arith;
  last = let low = counted.last in omega (arith, installs);
  installs = λ slot. let same = ap (λ list. (session_at list slot).install) sessions in let low =
      counted.installs slot in omega (arith, installs);
}

-- a fact of each slot, where one session is set
each_set : (P : Session → Type 0) (sessions : List Session) (slot : ℕ) (s : Session) → P s
    → ((k : ℕ) → P (session_at sessions k)) → (k : ℕ) → P (session_at (set sessions slot s) k)
each_set P sessions slot s its others k = elim (eqb_tells k slot) [
  | inl is ↦ elim (less slot (length sessions)) [
    | inl within ↦ subst (λ j. P (session_at (set sessions slot s) j)) (sym is.1)
        (subst P (sym (get_or-set_same sessions slot s free within)) its)
    | inr past ↦ subst (λ list. P (session_at list k)) (sym (set_past sessions slot s past))
        (others k)
  ]
  | inr differs ↦ subst P (sym (get_or-set_other sessions slot k s free differs.1)) (others k)
]

-- one session is set, and the last number stays
counts_set : (core new : CoreState) (slot : ℕ) (s : Session) (number more : ℕ)
    → new.sessions ≡ set core.sessions slot s → new.installs ≡ core.installs
    → AreCounted core number
    → s.epoch ≤ number + more → s.install ≤ core.installs → AreCounted new (number + more)
counts_set core new slot s number more sessions installs counted epoch install = record {
  epochs = subst (λ list. (k : ℕ) → (session_at list k).epoch ≤ number + more) (sym sessions)
      (each_set (λ t. t.epoch ≤ number + more) core.sessions slot s epoch (λ k. let low =
      counted.epochs k in omega arith));
  last = let low = counted.last in omega (arith, installs);
  installs = subst (λ n. (k : ℕ) → (session_of new k).install ≤ n) (sym installs)
      (subst (λ list. (k : ℕ) → (session_at list k).install ≤ core.installs) (sym sessions)
      (each_set (λ t. t.install ≤ core.installs) core.sessions slot s install counted.installs));
}

-- the same, of a session under the same epoch and number
counts_turn : (core new : CoreState) (slot : ℕ) (s : Session)
    → new.sessions ≡ set core.sessions slot s → new.installs ≡ core.installs
    → s.epoch ≡ (session_of core slot).epoch → s.install ≡ (session_of core slot).install
    → KeepsCounts core new
counts_turn core new slot s sessions installs epoch install number counted =
    let low = counted.epochs slot in
    let few = counted.installs slot in
    let whole = counts_set core new slot s number 0 sessions installs counted (omega (arith, epoch))
    (omega (arith, install)) in
    subst (λ n. AreCounted new n) (let none : number + 0 ≡ number = omega arith in none) whole

written_sessions : (v : Versions) (core : CoreState) (way : Way) (version : ℕ)
    → ((written_back v core way version).sessions ≡ core.sessions)
    × ((written_back v core way version).installs ≡ core.installs)
unfolding after_seal after_raise
written_sessions v core way version = (refl, refl)

stop_counts : (core : CoreState) (slot : ℕ) (why : Rule)
    → KeepsCounts core (after_stop core slot why)
unfolding without_guest
stop_counts core slot why = counts_turn core (after_stop core slot why) slot _ refl refl refl refl

raise_counts : (v : Versions) (core : CoreState) (slot line : ℕ)
    → KeepsCounts core (after_raise v core slot line)
unfolding after_raise
raise_counts v core slot line = counts_same core (after_raise v core slot line) refl refl

kill_counts : (v : Versions) (core : CoreState) (slot : ℕ)
    → KeepsCounts core (after_kill v core slot)
unfolding without_guest
kill_counts v core slot number counted =
    subst (λ n. AreCounted (after_kill v core slot) n) (let none : number + 0 ≡ number =
    omega arith in none)
    (counts_set core (after_kill v core slot) slot free number 0 refl refl counted (omega arith)
    (omega arith))

exit_counts : (core : CoreState) (slot : ℕ) → KeepsCounts core (after_exit core slot).0
unfolding without_guest
exit_counts core slot = counts_turn core (after_exit core slot).0 slot _ refl refl refl refl

install_counts : (core new : CoreState) (slot : ℕ) (s : Session)
    → new.sessions ≡ set core.sessions slot s → new.installs ≡ core.installs + 1 → s.epoch ≡ 0
    → s.install ≡ core.installs + 1 → CountsOne core new
install_counts core new slot s sessions installs epoch install number counted = record {
  epochs = subst (λ list. (k : ℕ) → (session_at list k).epoch ≤ number + 1) (sym sessions)
      (each_set (λ t. t.epoch ≤ number + 1) core.sessions slot s (omega (arith, epoch))
      (λ k. let low = counted.epochs k in omega arith));
  last = let low = counted.last in omega (arith, installs);
  installs = subst (λ n. (k : ℕ) → (session_of new k).install ≤ n) (sym installs)
      (subst (λ list. (k : ℕ) → (session_at list k).install ≤ core.installs + 1) (sym sessions)
      (each_set (λ t. t.install ≤ core.installs + 1) core.sessions slot s (omega (arith, install))
      (λ k. let few = counted.installs k in omega arith)));
}

counts_parts : (v : Versions) (slot : ℕ) → Parts v slot KeepsCounts
counts_parts v slot = record {
  none = λ core number counted. counted;
  on = λ a b c first then number counted. then number (first number counted);
  hash = λ core texts. counts_same core _ refl refl;
  accept = λ core line version place ct runs. counts_same core _ refl refl;
  point = λ core line. counts_same core _ refl refl;
  bring = λ core place way clean may. counts_same core _ refl refl;
  seal = λ core place version way dirty raised may.
      let same = written_sessions v core (way_at core.ways place) version in
      counts_same core _ same.0 same.1;
  tear = λ core place torn dirty raised number counted.
      let way = way_at core.ways place in
      stop_counts (after_raise v core way.slot way.line) way.slot _ number
      (raise_counts v core way.slot way.line number counted);
  stop = λ core why live. stop_counts core slot why;
  step = λ core place session step runs goes stores. counts_turn core _ slot session refl refl
      goes.epoch goes.install;
}

counts_ends : (slot : ℕ) → Ends slot KeepsCounts CountsOne
counts_ends slot = record {
  went = more_counted;
  after = λ a b c first then number counted. then number (first number counted);
  trap = λ core why runs number counted.
      counts_set core (after_trap core slot why).0 slot (session_after_pause (session_of core slot)) number 1
      refl refl counted (let low = counted.epochs slot in omega arith) (counted.installs slot);
  exit = λ core runs exited number counted. more_counted (after_exit core slot).0 number
      (exit_counts core slot number counted);
}

installed_counts : (v : Versions) (core : CoreState) (slot place area : ℕ) (plain : Unwrapped)
    → CountsOne core (after_install v core slot place area plain)
unfolding after_install
installed_counts v core slot place area plain =
    install_counts core (after_install v core slot place area plain) slot _ refl refl refl refl

counts_deeds : (v : Versions) (slot : ℕ) → Deeds v slot KeepsCounts CountsOne
counts_deeds v slot = record {
  sets_register = λ core reg value. counts_same core _ refl refl;
  sets_ram = λ core ram. counts_same core _ refl refl;
  enters = λ core is. counts_turn core _ slot (session_after_enter (session_of core slot)) refl refl refl refl;
  resumes = λ core is. counts_turn core _ slot (session_after_resume (session_of core slot)) refl refl refl refl;
  maps = λ core page frame may. counts_same core _ refl refl;
  kills = λ core some known taken. kill_counts v core slot;
  outs = λ core byte. counts_same core _ refl refl;
  installs = λ core place area plain some known is_free opens fits. installed_counts v core slot
      place area plain;
  saves = λ core key ct name live same. counts_same core _ refl refl;
  restores = λ core key ct name place live same. counts_same core _ refl refl;
  takes_back = λ core reg value live. counts_same core _ refl refl;
}

-- ---- The count of events

turn_counted : (v : Versions) (r : Record) (interrupt : Bool) (at : Option ℕ)
    → AreCounted r.core r.events → AreCounted (guest_turn v r interrupt at).0.core (r.events + 1)
    → AreCounted (guest_turn v r interrupt at).0.core (guest_turn v r interrupt at).0.events
turn_counted v r interrupt None before after = before
turn_counted v r interrupt (Some slot) before after = by (guest v r.core slot interrupt) after
  where
    by : (result : CoreState × Option Cause)
        → AreCounted (ran_on r slot result).0.core (r.events + 1)
        → AreCounted (ran_on r slot result).0.core (ran_on r slot result).0.events
    by (core, None) counted = counted
    by (core, Some why) counted = counted

null_counted : (v : Versions) (r : Record) (answer : Answer)
    → AreCounted (null_turn v r answer).0.core (r.events + 1)
    → AreCounted (null_turn v r answer).0.core (null_turn v r answer).0.events
null_counted v r (s, Err why) counted = counted
null_counted v r (s, Ok None) counted = counted
null_counted v r (s, Ok (Some op)) counted = counted

event_counted : (v : Versions) (r : Record) (e : Event) (bytes : List ℕ)
    → AreCounted r.core r.events → AreCounted (on v r e bytes).0.core (r.events + 1)
    → AreCounted (on v r e bytes).0.core (on v r e bytes).0.events
unfolding on
event_counted v r (event.Do op) bytes before after = after
event_counted v r (event.Guest interrupt) bytes before after =
    turn_counted v r interrupt (running_slot r) before after
event_counted v r event.Null bytes before after =
    null_counted v r (null_step (told_in r) (open_in r)) after
event_counted v r (event.Write address count) bytes before after = after
event_counted v r (event.Poke address count) bytes before after = after

counted_after : (v : Versions) (r : Record) (e : Event) (bytes : List ℕ)
    → AreCounted r.core r.events → AreCounted (on v r e bytes).0.core (r.events + 1)
counted_after v r e bytes counted =
    walk_event v KeepsCounts CountsOne r e bytes (counts_parts v (slot_of_event r e))
    (counts_ends (slot_of_event r e)) (counts_deeds v (slot_of_event r e)) r.events counted

pub events_keep_counts : EventsKeepCounts
events_keep_counts v r e bytes counted =
    event_counted v r e bytes counted (counted_after v r e bytes counted)

-- install numbers fit in their field
pub numbers_low : (v : Versions) (r : Record) (e : Event) (bytes : List ℕ) → r.events < 2 ^ 63
    → AreCounted r.core r.events → (on v r e bytes).0.core.installs < 2 ^ 64
numbers_low v r e bytes few counted =
    let last = (counted_after v r e bytes counted).last in omega arith

pub counted_at_start : CountedAtStart
counted_at_start v machine boot ram pc = record {
  epochs = λ slot. let its = ap (λ s. s.epoch) (free_at slot) in omega arith;
  last = omega arith;
  installs = λ slot. let its = ap (λ s. s.install) (free_at slot) in omega arith;
}
