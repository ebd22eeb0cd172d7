-- Stops stay last, part by part.
use Rattle.std.proofs.Common.{◌≡◌, ◌≢◌, inl, inr, ℕ, ◌+◌, ◌<◌, ◌≤◌, ◌^◌, true, false, List, [], ◌∷◌, ◌++◌, length, map, set, refl, sym, ◌∙◌, ap, subst, arith, length-set, append-nil}
use Rattle.std.proofs.lemmas.List.{append_assoc, get_or-set_same, get_or-set_other}
use Rattle.std.proofs.lemmas.Bool.Decides.{eqb_tells}
use Rattle.xom_base.specs.declared.entry.Entry.{Entry}
use Rattle.xom_base.specs.declared.entry.Entry.TheVariants as entry
use Rattle.xom_base.specs.declared.event.Cause.{Cause}
use Rattle.xom_base.specs.declared.event.Rule.{Rule}
use Rattle.xom_base.specs.declared.event.Rule.TheVariants as rule
use Rattle.xom_base.specs.declared.step.Step.{Step}
use Rattle.xom_base.specs.declared.step.Stored.{Stored}
use Rattle.xom_base.specs.declared.step.Stored.TheVariants as stored
use Rattle.xom_seal.specs.declared.envelope.Unwrapped.{Unwrapped}
use Rattle.xom_seal.specs.Messages.{envelope_message, register_message}
use Rattle.session_table.specs.declared.session.Session.{Session}
use Rattle.session_table.specs.declared.session.SlotState.{SlotState}
use Rattle.session_table.specs.declared.session.SlotState.TheVariants as state
use Rattle.session_table.specs.Sessions.{free, fresh_session, is_live, session_after_enter, session_after_leaving, session_after_pause, session_after_resume, session_at}
use Rattle.xom_versions.specs.Versions.{Versions}
use Rattle.xom_versions.specs.Store.{hash_entry}
use Rattle.line_cache.specs.declared.way.Way.{Way}
use Rattle.line_cache.specs.Ways.{free_if, free_way, way_at, without_slot}
use Rattle.xom_versions.specs.declared.store.Torn.{Torn}
use Rattle.xom_model.specs.State.{CoreState, core_at_start, core_with_hashes, core_with_session, core_with_way, session_of, store_of, with_entry}
use Rattle.xom_model.specs.Lines.{accept_entry, seal_entry, who_of}
use Rattle.xom_model.specs.Access.{after_raise, after_seal, after_stop, with_pointers, without_guest}
use Rattle.xom_model.specs.Guest.{after_exit, after_trap, core_after_step, stored_at}
use Rattle.xom_model.specs.Operation.{after_install, after_kill, envelope_in_ram, is_free_state}
use Rattle.xom_model.specs.Holds.{IsLive}
use Rattle.xom_model.specs.Named.{HasOne, UsesIt}
use Rattle.xom_model.specs.Stops.{EventsKeepStops, ExitsIt, IsTaken, StopsAreLast, StopsHold, StopsHoldAtStart, StopsIt, StopsItBy}
use Rattle.xom_model.specs.Touched.{slot_of_event}
use Rattle.xom_model.proofs.Gone.{free_if-left, way-without}
use Rattle.xom_model.proofs.WayPuts.{each_put}
use Rattle.xom_model.proofs.CountsKept.{numbers_low}
use Rattle.xom_model.proofs.ClearKept.{live_known}
use Rattle.xom_model.proofs.Naming.{HasOne-before, HasOne-behind, HasOne-either, HasOne-hashes, HasOne-only, last_hashes, last_more, last_one, installs_are_told, names-line, names-register}
use Rattle.xom_model.proofs.Walk.{Ends, GoesOn, JustExited, MayCome, Parts, StoresIn, torn_off, written_back}
use Rattle.xom_model.proofs.WalkEvents.{Deeds, walk_event}
use Rattle.xom_model.proofs.StartStops.{free_at, length-none_held, way_free}

pub live-taken : (s : SlotState) → is_live s ≡ true → is_free_state s ≡ false
live-taken state.Fresh is = refl
live-taken state.Running is = refl
live-taken state.Paused is = refl
live-taken state.Free is = absurd (cc)
live-taken state.Ended is = absurd (cc)
live-taken (state.Stopped why) is = absurd (cc)

-- ---- What a part owes

-- entries behind the journal's: none uses an install but one of a live slot
pub record Adds (core : CoreState) (more : List Entry) : Type 0 where
  pub itself : StopsAreLast more
  pub used : (n : ℕ) → n < 2 ^ 64 → HasOne (UsesIt n) more
      → (slot : ℕ) × (IsLive core slot × ((session_of core slot).install ≡ n))
  pub bounded : (n : ℕ) → HasOne (StopsIt n) more → n ≤ core.installs

-- what became of a slot's session
pub record Moves (core new : CoreState) (more : List Entry) (slot : ℕ) : Type 0 where
  pub taken : IsTaken new slot
      → IsTaken core slot × ((session_of new slot).install ≡ (session_of core slot).install)
  pub live : IsLive new slot → IsLive core slot
  pub number : (session_of new slot).install ≤ core.installs
  pub spared : IsLive new slot → ¬ HasOne (StopsIt (session_of new slot).install) more
  pub has_stop : (why : Rule) → (session_of new slot).state ≡ state.Stopped why
      → HasOne (StopsItBy (session_of new slot).install why) new.entries
  pub has_exit : (session_of new slot).state ≡ state.Ended
      → HasOne (ExitsIt (session_of new slot).install) new.entries

-- the cache has lines of live slots alone
pub record HoldsLive (core : CoreState) : Type 0 where
  pub cached : (place : ℕ) → (way_at core.ways place).slot ≢ 0
      → IsLive core (way_at core.ways place).slot
  pub clean : (place : ℕ) → (way_at core.ways place).slot ≡ 0
      → (way_at core.ways place).dirty ≡ false

module _ (core new : CoreState) (low : core.installs < 2 ^ 64) (holds : StopsHold core)
    (more : List Entry) (entries : new.entries ≡ core.entries ++ more)
    (same : new.installs ≡ core.installs)
    (adds : Adds core more) (moves : (slot : ℕ) → Moves core new more slot) (ways : HoldsLive new)
    (places : length new.sessions ≡ 17) (null : is_live (session_of new 0).state ≡ false) where
  pub stops_move : StopsHold new
  stops_move = record {
    last = subst StopsAreLast (sym entries) (last_more core.entries more holds.last adds.itself
        (λ n was uses.
        let its = adds.used n (let few = holds.stops n was in omega arith) uses in
        holds.unstopped its.0 its.1.0 (subst (λ k. HasOne (StopsIt k) core.entries) (sym its.1.1)
        was)));
    unstopped = λ slot live was.
        let m = moves slot in
        let before = m.live live in
        let install = (m.taken (live-taken (session_of new slot).state live)).1 in
        elim (HasOne-either (StopsIt (session_of new slot).install) core.entries more
        (subst (λ es. HasOne (StopsIt (session_of new slot).install) es) entries was)) [
          | inl old ↦ holds.unstopped slot before (subst (λ k. HasOne (StopsIt k) core.entries)
              install old)
          | inr added ↦ m.spared live added
        ];
    has_stop = λ slot why is. (moves slot).has_stop why is;
    has_exit = λ slot is. (moves slot).has_exit is;
    apart = λ slot other one two is.
        let a = (moves slot).taken one in
        let b = (moves other).taken two in
        holds.apart slot other a.0 b.0 (sym a.1 ∙ is ∙ b.1);
    numbers = λ slot. let few = (moves slot).number in omega (arith, same);
    stops = λ n was.
        elim (HasOne-either (StopsIt n) core.entries more (subst (λ es. HasOne (StopsIt n) es)
        entries was)) [
          | inl old ↦ let few = holds.stops n old in omega (arith, same)
          | inr added ↦ let few = adds.bounded n added in omega (arith, same)
        ];
    cached = ways.cached;
    clean = ways.clean;
    places = places;
    null = null;
  }

-- a slot whose session is as it was
moves_same : (core new : CoreState) (more : List Entry) (slot : ℕ) → StopsHold core
    → new.entries ≡ core.entries ++ more → session_of new slot ≡ session_of core slot
    → (IsLive core slot → ¬ HasOne (StopsIt (session_of core slot).install) more)
    → Moves core new more slot
moves_same core new more slot holds entries same spared = record {
  taken = λ is. (ap (λ s. is_free_state s.state) (sym same) ∙ is, ap (λ s. s.install) same);
  live = λ is. ap (λ s. is_live s.state) (sym same) ∙ is;
  number = subst (λ s. s.install ≤ core.installs) (sym same) (holds.numbers slot);
  spared = λ is. subst (λ s. ¬ HasOne (StopsIt s.install) more) (sym same)
      (spared (ap (λ s. is_live s.state) (sym same) ∙ is));
  has_stop = λ why is. subst (λ es. HasOne (StopsItBy (session_of new slot).install why) es)
      (sym entries)
      (HasOne-before (StopsItBy (session_of new slot).install why) core.entries more
      (subst (λ s. HasOne (StopsItBy s.install why) core.entries) (sym same)
      (holds.has_stop slot why (ap (λ s. s.state) (sym same) ∙ is))));
  has_exit = λ is. subst (λ es. HasOne (ExitsIt (session_of new slot).install) es) (sym entries)
      (HasOne-before (ExitsIt (session_of new slot).install) core.entries more
      (subst (λ s. HasOne (ExitsIt s.install) core.entries) (sym same)
      (holds.has_exit slot (ap (λ s. s.state) (sym same) ∙ is))));
}

-- ---- Sessions stay

adds_none : (core : CoreState) → Adds core []
adds_none core = record {
  itself = tt;
  used = λ n low nothing. absurd nothing;
  bounded =
      λ n nothing. absurd nothing;
}

adds_hashes : (core : CoreState) (texts : List (List ℕ)) → Adds core (map hash_entry texts)
adds_hashes core texts = record {
  itself = last_hashes texts;
  used = λ n low uses. absurd (HasOne-hashes (UsesIt n) (λ text nothing. nothing) texts uses);
  bounded = λ n stops. absurd (HasOne-hashes (StopsIt n) (λ text nothing. nothing) texts stops);
}

-- one entry, which is no Stop and uses a live slot's install or none
adds_one : (core : CoreState) (e : Entry) → ((n : ℕ) → ¬ StopsIt n e)
    → ((n : ℕ) → n < 2 ^ 64 → UsesIt n e → (slot : ℕ)
    × (IsLive core slot × ((session_of core slot).install ≡ n)))
    → Adds core (e ∷ [])
adds_one core e no_stop used = record {
  itself = last_one e;
  used = λ n low uses. used n low (HasOne-only (UsesIt n) e uses);
  bounded = λ n stops. absurd (no_stop n (HasOne-only (StopsIt n) e stops));
}

-- cache and sessions stay
ways_stay : (core new : CoreState) → StopsHold core → new.sessions ≡ core.sessions
    → new.ways ≡ core.ways → HoldsLive new
ways_stay core new holds sessions ways = record {
  cached = λ place. subst (λ list. (way_at list place).slot ≢ 0
      → is_live (session_at new.sessions (way_at list place).slot).state ≡ true) (sym ways)
      (subst (λ list. (way_at core.ways place).slot ≢ 0
      → is_live (session_at list (way_at core.ways place).slot).state ≡ true) (sym sessions)
      (holds.cached place));
  clean = λ place. subst (λ list. (way_at list place).slot ≡ 0 → (way_at list place).dirty ≡ false)
      (sym ways) (holds.clean place);
}

-- a way that is put into a place, where each other one stays
each_way : (P : Way → Type 0) (ways : List Way) (place : ℕ) (way : Way)
    → (place < length ways → P way) → ((at : ℕ) → P (way_at ways at)) → (at : ℕ)
    → P (way_at (set ways place way) at)
each_way P ways place way here there at = each_put (λ k w. P w) ways place way here there at

ways_put : (slot : ℕ) (core : CoreState) (place : ℕ) (way : Way) → StopsHold core
    → MayCome slot core way → HoldsLive (core_with_way core place way)
ways_put slot core place way holds may = record {
  cached = each_way (λ w. w.slot ≢ 0 → IsLive core w.slot) core.ways place way (λ _. elim may [
    | inl none ↦ λ some. absurd (some (ap (λ w. w.slot) none))
    | inr its ↦ λ some. subst (λ k. IsLive core k) (sym its.1.0) (ap is_live its.1.1)
  ]) holds.cached;
  clean = each_way (λ w. w.slot ≡ 0 → w.dirty ≡ false) core.ways place way (λ _. elim may [
    | inl none ↦ λ _. ap (λ w. w.dirty) none
    | inr its ↦ λ _. its.0
  ]) holds.clean;
}

-- a part that leaves all sessions
module _ (core new : CoreState) (low : core.installs < 2 ^ 64) (holds : StopsHold core)
    (more : List Entry) (entries : new.entries ≡ core.entries ++ more)
    (same : new.installs ≡ core.installs)
    (sessions : new.sessions ≡ core.sessions) (adds : Adds core more) (no_stop : (n : ℕ)
    → ¬ HasOne (StopsIt n) more) (ways : HoldsLive new) where
  calm_stops : StopsHold new
  calm_stops =
      let at : (slot : ℕ) → session_of new slot ≡ session_of core slot =
      λ slot. ap (λ list. session_at list slot) sessions in
      stops_move core new low holds more entries same adds
      (λ slot. moves_same core new more slot holds entries (at slot)
      (λ _. no_stop (session_of core slot).install))
      ways (ap length sessions ∙ holds.places) (ap (λ s. is_live s.state) (at 0) ∙ holds.null)

-- ---- One session is set

module _ (core new : CoreState) (low : core.installs < 2 ^ 64) (holds : StopsHold core) (slot : ℕ)
    (s : Session) (known : slot ≤ 16) (some : slot ≢ 0) (sessions : new.sessions ≡ set core.sessions
    slot s)
    (more : List Entry) (entries : new.entries ≡ core.entries ++ more)
    (same : new.installs ≡ core.installs) (adds : Adds core more) where
  here : session_of new slot ≡ s
  here =
      ap (λ list. session_at list slot) sessions
      ∙ get_or-set_same core.sessions slot s free (let places : length core.sessions ≡ 17 =
      holds.places in omega arith)

  there : (other : ℕ) → other ≢ slot → session_of new other ≡ session_of core other
  there other differs =
      ap (λ list. session_at list other) sessions
      ∙ get_or-set_other core.sessions slot other s free differs

  set_stops : (its : Moves core new more slot)
      → ((other : ℕ) → other ≢ slot → IsLive core other
      → ¬ HasOne (StopsIt (session_of core other).install) more)
      → HoldsLive new → StopsHold new
  set_stops its spared ways =
      stops_move core new low holds more entries same adds
      (λ other. elim (eqb_tells other slot) [
        | inl is ↦ subst (λ k. Moves core new more k) (sym is.1) its
        | inr differs ↦ moves_same core new more other holds entries (there other differs.1)
            (spared other differs.1)
      ])
      ways (ap length sessions ∙ length-set core.sessions slot s ∙ holds.places)
      (ap (λ t. is_live t.state) (there 0 (λ none. some (sym none))) ∙ holds.null)

  -- the guest goes on
  goes_on : IsLive core slot → s.install ≡ (session_of core slot).install → is_live s.state ≡ true
      → ((n : ℕ) → ¬ HasOne (StopsIt n) more) → HoldsLive new → StopsHold new
  goes_on live install lives no_stop ways =
      set_stops (record {
        taken = λ _. (
          live-taken (session_of core slot).state live,
          ap (λ t. t.install) here
              ∙ install,
        );
        live = λ _. live;
        number = subst (λ n. n ≤ core.installs) (sym (ap (λ t. t.install) here ∙ install))
            (holds.numbers slot);
        spared = λ _. no_stop (session_of new slot).install;
        has_stop = λ why is. absurd (let its = ap (λ t. is_live t.state) here ∙ lives in let other =
            ap is_live is in cc);
        has_exit = λ is. absurd (let its = ap (λ t. is_live t.state) here ∙ lives in let other =
            ap is_live is in cc);
      }) (λ other differs lives. no_stop (session_of core other).install) ways

  -- live slots stay so
  live_on : IsLive core slot → is_live s.state ≡ true → (other : ℕ) → IsLive core other
      → IsLive new other
  live_on live lives other was = elim (eqb_tells other slot) [
    | inl is ↦ subst (λ k. IsLive new k) (sym is.1) (ap (λ t. is_live t.state) here ∙ lives)
    | inr differs ↦ ap (λ t. is_live t.state) (there other differs.1) ∙ was
  ]

  ways_on : IsLive core slot → is_live s.state ≡ true → new.ways ≡ core.ways → HoldsLive new
  ways_on live lives is = record {
    cached = λ place filled.
        let at : way_at new.ways place ≡ way_at core.ways place = ap (λ ways. way_at ways place)
        is in
        subst (λ w. IsLive new w.slot) (sym at) (live_on live lives (way_at core.ways place).slot
        (holds.cached place (λ none. filled (ap (λ w. w.slot) at ∙ none))));
    clean = λ place none.
        let at : way_at new.ways place ≡ way_at core.ways place = ap (λ ways. way_at ways place)
        is in
        ap (λ w. w.dirty) at ∙ holds.clean place (sym (ap (λ w. w.slot) at) ∙ none);
  }

  -- the slot's lines leave the cache with it
  ways_left : new.ways ≡ without_slot slot core.ways → HoldsLive new
  ways_left is = record {
    cached = λ place filled.
        let at : way_at new.ways place ≡ free_if slot (way_at core.ways place) =
        ap (λ ways. way_at ways place) is ∙ way-without slot core.ways place in
        let stays = free_if-left slot (way_at core.ways place)
        (λ none. filled (ap (λ w. w.slot) at ∙ none)) in
        let was = holds.cached place (λ none. filled (ap (λ w. w.slot) (at ∙ stays.0) ∙ none)) in
        subst (λ w. IsLive new w.slot) (sym (at ∙ stays.0))
        (ap (λ t. is_live t.state) (there (way_at core.ways place).slot stays.1) ∙ was);
    clean = λ place none.
        let at : way_at new.ways place ≡ free_if slot (way_at core.ways place) =
        ap (λ ways. way_at ways place) is ∙ way-without slot core.ways place in
        elim (eqb_tells (way_at core.ways place).slot slot) [
          | inl its ↦ ap (λ w. w.dirty) at ∙ rw its.0 refl
          | inr other ↦
              let stays : way_at new.ways place ≡ way_at core.ways place = at ∙ rw other.0 refl in
              ap (λ w. w.dirty) stays ∙ holds.clean place (sym (ap (λ w. w.slot) stays) ∙ none)
        ];
  }

-- ---- A slot that is given up

-- a live slot isn't the null compartment
live_some : (core : CoreState) (slot : ℕ) → StopsHold core → IsLive core slot → slot ≢ 0
live_some core slot holds live none =
    let null = holds.null in let its : is_live (session_of core 0).state
    ≡ true = subst (λ k. IsLive core k) none live in absurd (cc)

module _ (core : CoreState) (slot : ℕ) (low : core.installs < 2 ^ 64) (holds : StopsHold core) where
  abbrev n : ℕ
  n = (session_of core slot).install

  module _ (live : IsLive core slot) where
    known : slot ≤ 16
    known = live_known core slot holds.places live

    some : slot ≢ 0
    some = live_some core slot holds live

    -- by a rule
    module _ (why : Rule) where
      abbrev out : CoreState
      out = after_stop core slot why

      abbrev stop_entry : Entry
      stop_entry = entry.Stop n why

      abbrev left_session : Session
      left_session = session_after_leaving (session_of core slot) (state.Stopped why)

      stop_adds : Adds core (stop_entry ∷ [])
      stop_adds = record {
        itself = last_one stop_entry;
        used = λ k few uses. absurd (HasOne-only (UsesIt k) stop_entry uses);
        bounded = λ k stops. let is : n ≡ k = HasOne-only (StopsIt k) stop_entry stops in
            subst (λ j. j ≤ core.installs) is (holds.numbers slot);
      }

      stop_stops : StopsHold out
      unfolding without_guest
      stop_stops =
          let at : session_of out slot ≡ left_session = here core out low holds slot left_session
          known some refl (stop_entry ∷ []) refl refl stop_adds in
          set_stops core out low holds slot left_session known some refl (stop_entry ∷ []) refl refl
          stop_adds
          (record {
            taken = λ _. (live-taken (session_of core slot).state live, ap (λ t. t.install) at);
            live = λ lives. absurd (let its = ap (λ t. is_live t.state) at in cc);
            number = subst (λ k. k ≤ core.installs) (sym (ap (λ t. t.install) at))
                (holds.numbers slot);
            spared = λ lives. absurd (let its = ap (λ t. is_live t.state) at in cc);
            has_stop = λ rule is.
                let same : why ≡ rule = (let its : state.Stopped why ≡ state.Stopped rule =
                sym (ap (λ t. t.state) at) ∙ is in cc) in
                subst (λ k. HasOne (StopsItBy k rule) out.entries) (sym (ap (λ t. t.install) at))
                (HasOne-behind (StopsItBy n rule) core.entries (stop_entry ∷ [])
                (inl (refl, same)));
            has_exit = λ is. absurd (let its = ap (λ t. t.state) at in cc);
          })
          (λ other differs lives has. differs
          (sym (holds.apart slot other (live-taken (session_of core slot).state live)
          (live-taken (session_of core other).state lives)
          (HasOne-only (StopsIt (session_of core other).install) stop_entry has))))
          (ways_left core out low holds slot left_session known some refl (stop_entry ∷ []) refl
          refl stop_adds refl)

    -- by its exit
    exit_stops : JustExited core slot → StopsHold (after_exit core slot).0
    unfolding without_guest
    exit_stops exited =
        let new = (after_exit core slot).0 in
        let s = session_after_leaving (session_of core slot) state.Ended in
        let at : session_of new slot ≡ s = here core new low holds slot s known some refl []
        (sym (append-nil core.entries)) refl (adds_none core) in
        set_stops core new low holds slot s known some refl [] (sym (append-nil core.entries)) refl
        (adds_none core)
        (record {
          taken = λ _. (live-taken (session_of core slot).state live, ap (λ t. t.install) at);
          live = λ lives. absurd (let its = ap (λ t. is_live t.state) at in cc);
          number = subst (λ k. k ≤ core.installs) (sym (ap (λ t. t.install) at))
              (holds.numbers slot);
          spared = λ lives. absurd (let its = ap (λ t. is_live t.state) at in cc);
          has_stop = λ rule is. absurd (let its = ap (λ t. t.state) at in cc);
          has_exit = λ is. subst (λ k. HasOne (ExitsIt k) core.entries)
              (sym (ap (λ t. t.install) at))
              (subst (λ es. HasOne (ExitsIt n) es) (sym exited.2)
              (HasOne-behind (ExitsIt n) exited.0 (entry.Step n exited.1 ∷ [])
              (inl (refl, exited.3))));
        })
        (λ other differs lives has. has)
        (ways_left core new low holds slot s known some refl [] (sym (append-nil core.entries)) refl
        (adds_none core) refl)

  -- by the kernel
  kill_stops : (v : Versions) → 1 ≤ slot → slot ≤ 16 → StopsHold (after_kill v core slot)
  unfolding without_guest
  kill_stops v some_slot known_slot =
      let new = after_kill v core slot in
      let e = entry.Kill n in
      let some : slot ≢ 0 = λ none. absurd (omega arith) in
      let adds = adds_one core e (λ k nothing. nothing) (λ k few nothing. absurd nothing) in
      let at : session_of new slot ≡ free = here core new low holds slot free known_slot some refl
      (e ∷ []) refl refl adds in
      set_stops core new low holds slot free known_slot some refl (e ∷ []) refl refl adds
      (record {
        taken = λ is. absurd (let its = ap (λ t. is_free_state t.state) at in cc);
        live = λ lives. absurd (let its = ap (λ t. is_live t.state) at in cc);
        number = subst (λ k. k ≤ core.installs) (sym (ap (λ t. t.install) at)) (omega arith);
        spared = λ lives. absurd (let its = ap (λ t. is_live t.state) at in cc);
        has_stop = λ rule is. absurd (let its = ap (λ t. t.state) at in cc);
        has_exit = λ is. absurd (let its = ap (λ t. t.state) at in cc);
      })
      (λ other differs lives has. HasOne-only (StopsIt (session_of core other).install) e has)
      (ways_left core new low holds slot free known_slot some refl (e ∷ []) refl refl adds refl)

  -- ---- A slot that goes on

  module _ (live : IsLive core slot) where
    -- no entry
    turned_stops : (s : Session) → s.install ≡ n → is_live s.state ≡ true
        → StopsHold (core_with_session core slot s)
    turned_stops s install lives =
        let new = core_with_session core slot s in
        let one = known live in let two = some live in
        goes_on core new low holds slot s one two refl [] (sym (append-nil core.entries)) refl
        (adds_none core) live install lives (λ k nothing. nothing)
        (ways_on core new low holds slot s one two refl [] (sym (append-nil core.entries)) refl
        (adds_none core) live lives refl)

    trap_stops : (why : Cause) → StopsHold (after_trap core slot why).0
    trap_stops why =
        let new = (after_trap core slot why).0 in
        let e = entry.Trap n why in
        let s = session_after_pause (session_of core slot) in
        let one = known live in let two = some live in
        let adds = adds_one core e (λ k nothing. nothing) (λ k few is. (slot, (live, is))) in
        goes_on core new low holds slot s one two refl (e ∷ []) refl refl adds live refl refl
        (λ k has. HasOne-only (StopsIt k) e has)
        (ways_on core new low holds slot s one two refl (e ∷ []) refl refl adds live refl refl)

    module _ (place : ℕ) (session : Session) (step : Step) (goes : GoesOn (session_of core slot)
        session) where
      abbrev stepped_core : CoreState
      stepped_core = core_after_step core slot place session step

      abbrev step_entry : Entry
      step_entry = entry.Step n step

      step_lives : is_live session.state ≡ true
      step_lives = ap is_live goes.state ∙ live

      step_adds : Adds core (step_entry ∷ [])
      step_adds = adds_one core step_entry (λ k nothing. nothing) (λ k few is. (slot, (live, is)))

      step_on : (other : ℕ) → IsLive core other → IsLive stepped_core other
      step_on =
          live_on core stepped_core low holds slot session (known live) (some live) refl
          (step_entry ∷ []) refl refl step_adds live step_lives

      step_ways : (kept : Stored) → step.stored ≡ kept → StoresIn core slot place kept
          → HoldsLive stepped_core
      step_ways stored.Nothing is own =
          ways_on core stepped_core low holds slot session (known live) (some live) refl
          (step_entry ∷ []) refl refl step_adds live step_lives
          (ap (λ s. stored_at core.ways place s) is)
      step_ways (stored.Bytes address count value) is own =
          let ways_are : stepped_core.ways ≡ stored_at core.ways place
          (stored.Bytes address count value) = ap (λ s. stored_at core.ways place s) is in
          record {
            cached = λ at. subst (λ ways. (way_at ways at).slot ≢ 0 → IsLive stepped_core
                (way_at ways at).slot) (sym ways_are)
                (each_way (λ w. w.slot ≢ 0 → IsLive stepped_core w.slot) core.ways place
                _ (λ within filled. step_on (way_at core.ways place).slot
                (holds.cached place filled)) (λ o filled. step_on (way_at core.ways o).slot
                (holds.cached o filled)) at);
            clean = λ at. subst (λ ways. (way_at ways at).slot ≡ 0 → (way_at ways at).dirty ≡ false)
                (sym ways_are)
                (each_way (λ w. w.slot ≡ 0 → w.dirty ≡ false) core.ways place
                _ (λ within none. elim own [
                  | inl its ↦ absurd (some live (sym its ∙ none))
                  | inr past ↦ absurd (omega arith)
                ]) holds.clean at);
          }

      step_stops : StoresIn core slot place step.stored → StopsHold stepped_core
      step_stops stores =
          goes_on core stepped_core low holds slot session (known live) (some live) refl
          (step_entry ∷ []) refl refl step_adds live goes.install step_lives
          (λ k has. HasOne-only (StopsIt k) step_entry has)
          (step_ways step.stored refl stores)

-- ---- An access

module _ (v : Versions) (core : CoreState) (low : core.installs < 2 ^ 64)
    (holds : StopsHold core) where
  hash_stops : (texts : List (List ℕ)) → StopsHold (core_with_hashes core texts)
  hash_stops texts =
      calm_stops core (core_with_hashes core texts) low holds (map hash_entry texts) refl refl refl
      (adds_hashes core texts)
      (λ n has. HasOne-hashes (StopsIt n) (λ text nothing. nothing) texts has)
      (ways_stay core (core_with_hashes core texts) holds refl refl)

  -- one entry of a live slot
  entry_stops : (e : Entry) → ((n : ℕ) → ¬ StopsIt n e)
      → ((n : ℕ) → n < 2 ^ 64 → UsesIt n e → (slot : ℕ)
      × (IsLive core slot × ((session_of core slot).install ≡ n)))
      → StopsHold (with_entry core e)
  entry_stops e no_stop used =
      calm_stops core (with_entry core e) low holds (e ∷ []) refl refl refl
      (adds_one core e no_stop used) (λ n has. no_stop n (HasOne-only (StopsIt n) e has))
      (ways_stay core (with_entry core e) holds refl refl)

  install_low : (slot : ℕ) → (session_of core slot).install < 2 ^ 64
  install_low slot = let few = holds.numbers slot in omega arith

  accept_stops : (slot line version place : ℕ) (ct : List ℕ) → IsLive core slot
      → StopsHold (with_entry core (accept_entry (who_of core slot) line version ct place))
  accept_stops slot line version place ct live =
      entry_stops (accept_entry (who_of core slot) line version ct place) (λ n nothing. nothing)
      (λ n few names. (
        slot,
        (
          live,
          names-line n (who_of core slot) line version ct few
              (install_low slot) names,
        ),
      ))

  -- other fields alone
  aside_stops : (new : CoreState) → new.sessions ≡ core.sessions → new.entries ≡ core.entries
      → new.installs ≡ core.installs → new.ways ≡ core.ways → StopsHold new
  aside_stops new sessions entries installs ways =
      calm_stops core new low holds [] (entries ∙ sym (append-nil core.entries)) installs sessions
      (adds_none core) (λ n nothing. nothing) (ways_stay core new holds sessions ways)

  put_stops : (slot place : ℕ) (way : Way) → MayCome slot core way
      → StopsHold (core_with_way core place way)
  put_stops slot place way may =
      calm_stops core (core_with_way core place way) low holds [] (sym (append-nil core.entries)) refl
      refl (adds_none core) (λ n nothing. nothing) (ways_put slot core place way holds may)

  -- what stands dirty is of a live slot
  dirty_live : (place : ℕ) → (way_at core.ways place).dirty ≡ true
      → IsLive core (way_at core.ways place).slot
  dirty_live place dirty =
      holds.cached place (λ none. let clean = holds.clean place none in absurd (cc))

  raise_stops : (slot line : ℕ) → StopsHold (after_raise v core slot line)
  unfolding after_raise
  raise_stops slot line =
      let texts = v.texts_of_raise (store_of core slot) line core.ram in
      calm_stops core (after_raise v core slot line) low holds (map hash_entry texts) refl refl refl
      (adds_hashes core texts) (λ n has. HasOne-hashes (StopsIt n) (λ text nothing. nothing) texts
      has) (ways_stay core (after_raise v core slot line) holds refl refl)

  raised_live : (slot line other : ℕ) → IsLive core other
      → IsLive (after_raise v core slot line) other
  unfolding after_raise
  raised_live slot line other live = live

  raised_installs : (slot line : ℕ) → (after_raise v core slot line).installs ≡ core.installs
  unfolding after_raise
  raised_installs slot line = refl

seal_stops : (v : Versions) (core : CoreState) → core.installs < 2 ^ 64 → StopsHold core
    → (slot line version : ℕ) (bytes : List ℕ) → IsLive core slot
    → StopsHold (after_seal v core slot line bytes version)
unfolding after_seal
seal_stops v core low holds slot line version bytes live =
    let e = seal_entry (who_of core slot) line version bytes in
    calm_stops core (after_seal v core slot line bytes version) low holds (e ∷ []) refl refl refl
    (adds_one core e (λ n nothing. nothing)
    (λ n few names. (
      slot,
      (
        live,
        names-line n (who_of core slot) line version _ few
            (install_low v core low holds slot) names,
      ),
    )))
    (λ n has. HasOne-only (StopsIt n) e has)
    (ways_stay core (after_seal v core slot line bytes version) holds refl refl)

may_stay : (v : Versions) (slot : ℕ) (core : CoreState) (at line version : ℕ) (bytes : List ℕ)
    (way : Way)
    → MayCome slot core way
    → MayCome slot (after_seal v (after_raise v core at line) at line bytes version) way
unfolding after_seal after_raise
may_stay v slot core at line version bytes way may = may

sealed_installs : (v : Versions) (core : CoreState) (slot line version : ℕ) (bytes : List ℕ)
    → (after_seal v core slot line bytes version).installs ≡ core.installs
unfolding after_seal
sealed_installs v core slot line version bytes = refl

written_stops : (v : Versions) (core : CoreState) → core.installs < 2 ^ 64 → StopsHold core
    → (slot place version : ℕ) (way : Way) → (way_at core.ways place).dirty ≡ true
    → MayCome slot core way
    → StopsHold (core_with_way (written_back v core (way_at core.ways place) version) place way)
written_stops v core low holds slot place version way dirty may =
    let w = way_at core.ways place in
    let mid = after_raise v core w.slot w.line in
    let low_mid : mid.installs < 2 ^ 64 =
    (let same = raised_installs v core low holds w.slot w.line in omega arith) in
    let live = raised_live v core low holds w.slot w.line w.slot (dirty_live v core low holds place
    dirty) in
    let sealed = seal_stops v mid low_mid (raise_stops v core low holds w.slot w.line) w.slot w.line
    version w.bytes live in
    put_stops v (written_back v core w version) (let same = sealed_installs v mid w.slot w.line
    version w.bytes in omega arith) sealed slot place way (may_stay v slot core w.slot w.line
    version w.bytes way may)

torn_stops : (v : Versions) (core : CoreState) → core.installs < 2 ^ 64 → StopsHold core
    → (place : ℕ) (torn : Torn) → (way_at core.ways place).dirty ≡ true
    → StopsHold (torn_off v core (way_at core.ways place) torn)
torn_stops v core low holds place torn dirty =
    let w = way_at core.ways place in
    let mid = after_raise v core w.slot w.line in
    let low_mid : mid.installs < 2 ^ 64 =
    (let same = raised_installs v core low holds w.slot w.line in omega arith) in
    stop_stops mid w.slot low_mid (raise_stops v core low holds w.slot w.line)
    (raised_live v core low holds w.slot w.line w.slot (dirty_live v core low holds place dirty))
    (rule.TreeNode torn.level)

-- ---- A guest that is installed

module _ (v : Versions) (core : CoreState) (holds : StopsHold core) (slot place area : ℕ)
    (plain : Unwrapped) (known : slot ≤ 16) (some : slot ≢ 0) where
  abbrev its_accept : Entry
  its_accept = entry.Accept core.machine.0 (envelope_message (envelope_in_ram core place)) place

  abbrev its_install : Entry
  its_install = entry.Install (core.installs + 1) slot plain.id place plain.entry plain.lines

  abbrev its_texts : List (List ℕ)
  its_texts = v.texts_of_build area plain.lines core.ram

  abbrev its_more : List Entry
  its_more = its_accept ∷ its_install ∷ map hash_entry its_texts

  uses_none : (n : ℕ) → ¬ HasOne (UsesIt n) its_more
  uses_none n has = elim has [
    | inl names ↦ let none = installs_are_told.envelope n (envelope_in_ram core place) in absurd (cc)
    | inr rest ↦ elim rest [
      | inl nothing ↦ nothing
      | inr hashes ↦ HasOne-hashes (UsesIt n)
          (λ text nothing. nothing) its_texts hashes
    ]
  ]

  stops_none : (n : ℕ) → ¬ HasOne (StopsIt n) its_more
  stops_none n has = elim has [
    | inl nothing ↦ nothing
    | inr rest ↦ elim rest [
      | inl nothing ↦ nothing
      | inr hashes ↦ HasOne-hashes (StopsIt n)
          (λ text nothing. nothing) its_texts hashes
    ]
  ]

  its_last : StopsAreLast its_more
  its_last = (λ n no_stop used. no_stop, (λ n no_stop used. no_stop, last_hashes its_texts))

  module _ (new : CoreState) (sessions : new.sessions ≡ set core.sessions slot
      (fresh_session (core.installs + 1) plain.id plain.key plain.entry plain.lines))
      (entries : new.entries ≡ core.entries ++ its_more)
      (installs : new.installs ≡ core.installs + 1) (ways : new.ways ≡ core.ways) where
    abbrev its_session : Session
    its_session = fresh_session (core.installs + 1) plain.id plain.key plain.entry plain.lines

    at_slot : session_of new slot ≡ its_session
    at_slot =
        ap (λ list. session_at list slot) sessions
        ∙ get_or-set_same core.sessions slot its_session free
        (let places : length core.sessions ≡ 17 = holds.places in omega arith)

    at_other : (other : ℕ) → other ≢ slot → session_of new other ≡ session_of core other
    at_other other differs =
        ap (λ list. session_at list other) sessions
        ∙ get_or-set_other core.sessions slot other its_session free differs

    -- a fact of each slot
    each_slot : (P : ℕ → Session → Type 0) → P slot its_session
        → ((other : ℕ) → other ≢ slot → P other (session_of core other)) → (k : ℕ)
        → P k (session_of new k)
    each_slot P its others k = elim (eqb_tells k slot) [
      | inl is ↦ subst (λ j. P j (session_of new j)) (sym is.1) (subst (P slot) (sym at_slot) its)
      | inr differs ↦ subst (P k) (sym (at_other k differs.1)) (others k differs.1)
    ]

    stopped_before : (n : ℕ) → HasOne (StopsIt n) new.entries → HasOne (StopsIt n) core.entries
    stopped_before n has =
        elim (HasOne-either (StopsIt n) core.entries its_more (subst (λ es. HasOne (StopsIt n) es)
        entries has)) [ inl before ↦ before | inr added ↦ absurd (stops_none n added) ]

    still : (Is : Entry → Type 0) → HasOne Is core.entries → HasOne Is new.entries
    still Is has =
        subst (λ es. HasOne Is es) (sym entries) (HasOne-before Is core.entries its_more has)

    apart_from : (k : ℕ) → k ≢ slot → (other : ℕ) → IsTaken new other
        → is_free_state (session_of core k).state ≡ false
        → (session_of core k).install ≡ (session_of new other).install → k ≡ other
    apart_from k differs other taken_other taken same =
        each_slot (λ j s. is_free_state s.state ≡ false → (session_of core k).install ≡ s.install
        → k ≡ j)
        (λ _ is. absurd (let few = holds.numbers k in omega (arith, is)))
        (λ j apart taken_j is. holds.apart k j taken taken_j is) other taken_other same

    install_stops : StopsHold new
    install_stops = record {
      last = subst StopsAreLast (sym entries) (last_more core.entries its_more holds.last its_last
          (λ n was used. uses_none n used));
      unstopped = λ k live has. each_slot (λ j s. is_live s.state ≡ true
          → ¬ HasOne (StopsIt s.install) core.entries)
          (λ _ was. absurd (let few = holds.stops (core.installs + 1) was in omega arith))
          (λ j differs lives. holds.unstopped j lives) k live
          (stopped_before (session_of new k).install has);
      has_stop = λ k rule is. still (StopsItBy (session_of new k).install rule)
          (each_slot (λ j s. s.state ≡ state.Stopped rule → HasOne (StopsItBy s.install rule)
          core.entries) (λ no. absurd (cc)) (λ j differs. holds.has_stop j rule) k is);
      has_exit = λ k is. still (ExitsIt (session_of new k).install)
          (each_slot (λ j s. s.state ≡ state.Ended → HasOne (ExitsIt s.install) core.entries)
          (λ no. absurd (cc)) (λ j differs. holds.has_exit j) k is);
      apart = λ one other taken taken_other same.
          each_slot (λ k s. is_free_state s.state ≡ false
          → s.install ≡ (session_of new other).install → k ≡ other)
          (λ _ is. each_slot (λ j t. is_free_state t.state ≡ false → core.installs + 1 ≡ t.install
          → slot ≡ j)
          (λ _ _. refl)
          (λ j differs _ its. absurd (let few = holds.numbers j in omega (arith, its))) other
          taken_other is)
          (λ k differs taken_k is. apart_from k differs other taken_other taken_k is) one taken
          same;
      numbers = λ k. subst (λ n. (session_of new k).install ≤ n) (sym installs)
          (each_slot (λ j s. s.install ≤ core.installs + 1) (omega arith) (λ j differs. let few =
          holds.numbers j in omega arith) k);
      stops = λ n has. let few = holds.stops n (stopped_before n has) in omega (arith, installs);
      cached = λ at filled.
          let same : way_at new.ways at ≡ way_at core.ways at = ap (λ list. way_at list at) ways in
          let was = holds.cached at (λ none. filled (ap (λ w. w.slot) same ∙ none)) in
          subst (λ w. IsLive new w.slot) (sym same)
          (each_slot (λ j s. j ≡ (way_at core.ways at).slot → is_live s.state ≡ true) (λ _. refl)
          (λ j differs is. subst (λ i. IsLive core i) (sym is) was) (way_at core.ways at).slot
          refl);
      clean = λ at none.
          let same : way_at new.ways at ≡ way_at core.ways at = ap (λ list. way_at list at) ways in
          ap (λ w. w.dirty) same ∙ holds.clean at (sym (ap (λ w. w.slot) same) ∙ none);
      places = ap length sessions ∙ length-set core.sessions slot its_session ∙ holds.places;
      null = ap (λ t. is_live t.state) (at_other 0 (λ none. some (sym none))) ∙ holds.null;
    }

  installed_stops : StopsHold (after_install v core slot place area plain)
  unfolding after_install
  installed_stops =
      install_stops (after_install v core slot place area plain) refl
      (append_assoc core.entries (its_accept ∷ its_install ∷ []) (map hash_entry its_texts)) refl
      refl

installed_number : (v : Versions) (core : CoreState) (slot place area : ℕ) (plain : Unwrapped)
    → (after_install v core slot place area plain).installs ≡ core.installs + 1
unfolding after_install
installed_number v core slot place area plain = refl

-- ---- The relation

-- install numbers only grow, and while they fit in their field, what is kept about stops still is
pub record KeepsStops (core new : CoreState) : Type 0 where
  pub grows : core.installs ≤ new.installs
  pub keeps : new.installs < 2 ^ 64 → StopsHold core → StopsHold new

-- a part that gives no install number
quietly : (core new : CoreState) → new.installs ≡ core.installs
    → (core.installs < 2 ^ 64 → StopsHold core → StopsHold new) → KeepsStops core new
quietly core new same keeps = record {
  grows = omega (arith, same);
  keeps =
      λ low holds. keeps (let few = low in omega (arith, same)) holds;
}

pub stops_none_done : (core : CoreState) → KeepsStops core core
stops_none_done core = quietly core core refl (λ low holds. holds)

pub stops_on : (a b c : CoreState) → KeepsStops a b → KeepsStops b c → KeepsStops a c
stops_on a b c first then = record {
  grows = (let one = first.grows in let two = then.grows in omega arith);
  keeps = λ low holds. then.keeps low (first.keeps (let two = then.grows in omega arith) holds);
}

written_installs : (v : Versions) (core : CoreState) (way : Way) (version : ℕ)
    → (written_back v core way version).installs ≡ core.installs
unfolding after_seal after_raise
written_installs v core way version = refl

stopped_installs : (core : CoreState) (slot : ℕ) (why : Rule)
    → (after_stop core slot why).installs ≡ core.installs
unfolding without_guest
stopped_installs core slot why = refl

torn_installs : (v : Versions) (core : CoreState) (way : Way) (torn : Torn)
    → (torn_off v core way torn).installs ≡ core.installs
unfolding without_guest after_raise
torn_installs v core way torn = refl

finished_installs : (core : CoreState) (slot : ℕ)
    → (after_exit core slot).0.installs ≡ core.installs
unfolding without_guest
finished_installs core slot = refl

killed_installs : (v : Versions) (core : CoreState) (slot : ℕ)
    → (after_kill v core slot).installs ≡ core.installs
unfolding without_guest
killed_installs v core slot = refl

pub stops_parts : (v : Versions) (slot : ℕ) → Parts v slot KeepsStops
stops_parts v slot = record {
  none = stops_none_done;
  on = stops_on;
  hash = λ core texts. quietly core (core_with_hashes core texts) refl
      (λ low holds. hash_stops v core low holds texts);
  accept = λ core line version place ct runs. quietly core _ refl
      (λ low holds. accept_stops v core low holds slot line version place ct (ap is_live runs));
  point = λ core line. quietly core (with_pointers core line) refl
      (λ low holds. aside_stops v core low holds (with_pointers core line) refl refl refl refl);
  bring = λ core place way clean may. quietly core (core_with_way core place way) refl
      (λ low holds. put_stops v core low holds slot place way may);
  seal = λ core place version way dirty raised may.
      quietly core _ (written_installs v core (way_at core.ways place) version)
      (λ low holds. written_stops v core low holds slot place version way dirty may);
  tear = λ core place torn dirty raised.
      quietly core _ (torn_installs v core (way_at core.ways place) torn)
      (λ low holds. torn_stops v core low holds place torn dirty);
  stop = λ core why live. quietly core _ (stopped_installs core slot why)
      (λ low holds. stop_stops core slot low holds live why);
  step = λ core place session step runs goes stores. quietly core _ refl
      (λ low holds. step_stops core slot low holds (ap is_live runs) place session step goes stores);
}

pub stops_ends : (slot : ℕ) → Ends slot KeepsStops KeepsStops
stops_ends slot = record {
  went = stops_none_done;
  after = stops_on;
  trap = λ core why runs. quietly core _ refl (λ low holds. trap_stops core slot low holds
      (ap is_live runs) why);
  exit = λ core runs exited. quietly core _ (finished_installs core slot)
      (λ low holds. exit_stops core slot low holds (ap is_live runs) exited);
}

pub stops_deeds : (v : Versions) (slot : ℕ) → Deeds v slot KeepsStops KeepsStops
stops_deeds v slot = record {
  sets_register = λ core reg value. quietly core _ refl (λ low holds. aside_stops v core low holds
      _ refl refl refl refl);
  sets_ram = λ core ram. quietly core _ refl (λ low holds. aside_stops v core low holds _ refl refl
      refl refl);
  enters = λ core is. quietly core _ refl (λ low holds. turned_stops core slot low holds
      (ap is_live is) (session_after_enter (session_of core slot)) refl refl);
  resumes = λ core is. quietly core _ refl (λ low holds. turned_stops core slot low holds
      (ap is_live is) (session_after_resume (session_of core slot)) refl refl);
  maps = λ core page frame may. quietly core _ refl (λ low holds. aside_stops v core low holds
      _ refl refl refl refl);
  kills = λ core some known taken. quietly core _ (killed_installs v core slot)
      (λ low holds. kill_stops core slot low holds v some known);
  outs = λ core byte. quietly core _ refl (λ low holds. entry_stops v core low holds
      (entry.Out byte) (λ n nothing. nothing) (λ n few nothing. absurd nothing));
  installs = λ core place area plain some known is_free opens fits. record {
    grows = let one = installed_number v core slot place area plain in omega arith;
    keeps = λ low holds. installed_stops v core holds slot place area plain known
        (λ none. absurd (omega arith));
  };
  saves = λ core key ct name live same. quietly core _ refl (λ low holds.
      entry_stops v core low holds (entry.Seal key (register_message name ct))
      (λ n nothing. nothing)
      (λ n few names. (
        slot,
        (
          live,
          sym same ∙ names-register n name ct few
              (let top = install_low v core low holds slot in omega (arith, same)) names,
        ),
      )));
  restores = λ core key ct name place live same. quietly core _ refl (λ low holds.
      entry_stops v core low holds (entry.Accept key (register_message name ct) place)
      (λ n nothing. nothing)
      (λ n few names. (
        slot,
        (
          live,
          sym same ∙ names-register n name ct few
              (let top = install_low v core low holds slot in omega (arith, same)) names,
        ),
      )));
  takes_back = λ core reg value live. quietly core _ refl (λ low holds. aside_stops v core low holds
      _ refl refl refl refl);
}

-- each event keeps what is said of stops
pub events_keep_stops : EventsKeepStops
events_keep_stops v r e bytes few counted holds =
    (walk_event v KeepsStops KeepsStops r e bytes (stops_parts v (slot_of_event r e))
    (stops_ends (slot_of_event r e)) (stops_deeds v (slot_of_event r e))).keeps
    (numbers_low v r e bytes few counted) holds

-- and it is so at power-on
pub start_stops : StopsHoldAtStart
start_stops v machine boot ram =
    let core = core_at_start v machine boot ram in
    let rests : (slot : ℕ) → session_of core slot ≡ free = free_at in
    let no_way : (place : ℕ) → way_at core.ways place ≡ free_way = way_free in
    record {
      last = tt;
      unstopped = λ slot live nothing. nothing;
      has_stop = λ slot rule is. absurd (let its = ap (λ s. s.state) (rests slot) in cc);
      has_exit = λ slot is. absurd (let its = ap (λ s. s.state) (rests slot) in cc);
      apart = λ slot other taken. absurd (let its = ap (λ s. is_free_state s.state) (rests slot) in
          cc);
      numbers = λ slot. let its = ap (λ s. s.install) (rests slot) in omega arith;
      stops = λ n nothing. absurd nothing;
      cached = λ place filled. absurd (filled (ap (λ w. w.slot) (no_way place)));
      clean = λ place none. ap (λ w. w.dirty) (no_way place);
      places = length-none_held;
      null = ap (λ s. is_live s.state) (rests 0);
    }
