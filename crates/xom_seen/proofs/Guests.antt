-- An event of a guest shows what it changed by its entries and its outcome.
use Rattle.std.proofs.Common.{◌≡◌, ℕ, ◌+◌, ◌/◌, ◌<◌, ◌==◌, Bool, true, false, cond, List, [], ◌∷◌, ◌++◌, drop, length, map, refl, sym, ◌∙◌, ap, subst, slice_set, Option, Some, None, Result, Ok, Err}
use Rattle.std.specs.Prelude.{unwrap_or}
use Rattle.std.proofs.lemmas.List.{map-set, get_or-set_same, length-set, append_assoc, append-nil}
use Rattle.std.proofs.lemmas.Bool.{cond_both}
use Rattle.xom_base.specs.declared.entry.Entry.{Entry}
use Rattle.xom_base.specs.declared.entry.Entry.TheVariants as entry
use Rattle.xom_base.specs.declared.event.Cause.{Cause}
use Rattle.xom_base.specs.declared.event.Cause.TheVariants as cause
use Rattle.xom_base.specs.declared.event.OwnFault.{OwnFault}
use Rattle.xom_base.specs.declared.event.OwnFault.TheVariants as own_fault
use Rattle.xom_base.specs.declared.event.Rule.{Rule}
use Rattle.xom_base.specs.declared.step.Step.{Step}
use Rattle.xom_base.specs.declared.step.StepEnd.{StepEnd}
use Rattle.xom_base.specs.declared.step.StepEnd.TheVariants as ended
use Rattle.mips_effect.specs.declared.effects.Effect.{Effect}
use Rattle.mips_plain.specs.Instruction.{is_code, step_made}
use Rattle.line_cache.specs.Ways.{way_at}
use Rattle.session_table.specs.declared.session.Session.{Session}
use Rattle.session_table.specs.declared.session.SlotState.TheVariants as state
use Rattle.session_table.specs.declared.session.SlotView.{SlotView}
use Rattle.session_table.specs.Sessions.{free, is_live, session_after_leaving, session_after_pause}
use Rattle.xom_versions.specs.Versions.{Raised, RaisesInTheOpen, Versions}
use Rattle.xom_model.specs.declared.outcome.Outcome.{Outcome}
use Rattle.xom_model.specs.declared.outcome.Outcome.TheVariants as outcome
use Rattle.xom_model.specs.declared.reach.Reach.{Reach}
use Rattle.xom_model.specs.declared.reach.Reach.TheVariants as reach
use Rattle.xom_model.specs.State.{CoreState, line_of_address, session_of}
use Rattle.xom_model.specs.Access.{access, without_guest}
use Rattle.xom_model.specs.Guest.{address_in, after_effect, after_exit, after_retirement, after_step, after_trap, code_reached, data_of, data_reached, guest, mask_after, received_by, retirement, session_after_step, word_in, word_loaded, word_tried}
use Rattle.xom_model.specs.Holds.{IsLive}
use Rattle.xom_model.specs.Seen.{shown_slot}
use Rattle.xom_seen.specs.Emission.{Signal, SlotLine, code_line, core_after_fetch, data_address, data_line, is_ready, line_pushed_out, signals_of_entries, signals_of_guest}
use Rattle.xom_seen.specs.SealOwners.{AreToldOf, GiveAll}
use Rattle.xom_seen.specs.SeenNext.{Sight, after_signals, left_seen, sight_slot, with_slot}
use Rattle.xom_seen.proofs.Sights.{after_signals-append, areas-session, areas_of, live_within, sight_of, slot_at-is}
use Rattle.xom_seen.proofs.Readings.{Reads, read-append, read-behind}
use Rattle.xom_seen.proofs.Shows.{IfGoing, Knows, Reaches, Shows, Tells, dropped-is, give-append, give-one, reaches_access, shown_by, shows_same, tells_stepped}

-- how a guest event comes out
abbrev pub outcome_by : Option Cause → Outcome
outcome_by None = outcome.Went
outcome_by (Some why) = outcome.Left why

module _ (v : Versions) (raised : Raised) (law : RaisesInTheOpen v raised) (before : CoreState)
    (ready : Bool) (slot : ℕ) (some : (slot == 0) ≡ false) (low : slot < 17)
    (whose : List ℕ → SlotLine) where
  abbrev Knew : CoreState → Type 0
  Knew core = Knows before core

  abbrev ReadSo : List Entry → List Signal → Type 0
  ReadSo entries told = Reads before.sessions slot ready whose entries told

  abbrev Shown : CoreState → CoreState → Type 0
  Shown base new = Shows v raised law before ready slot 0 whose base new

  abbrev by_signals : Sight → List Signal → Sight
  by_signals s signals = shown_by v raised law before ready slot 0 whose s signals

  -- how a guest leaves, or goes on: no further signal
  pub record Closes (core new : CoreState) (why : Option Cause) : Type 0 where
    pub added : List Entry
    pub entries : new.entries ≡ core.entries ++ added
    pub quiet : GiveAll before.sessions ready added []
    pub silent : ReadSo added []
    pub sight : sight_of new ≡ left_seen (sight_of core) slot (outcome_by why)

  -- the new core looks as the entries and the outcome tell
  pub record Ends (base new : CoreState) (why : Option Cause) : Type 0 where
    pub added : List Entry
    pub signals : List Signal
    pub entries : new.entries ≡ base.entries ++ added
    pub gives : Knew base → GiveAll before.sessions ready added signals
    pub reads : Knew base → ReadSo added signals
    pub sight : Knew base
        → sight_of new ≡ left_seen (by_signals (sight_of base) signals) slot (outcome_by why)

  ends_close : (base mid new : CoreState) (why : Option Cause)
      → Tells v raised law before ready slot 0 whose base mid → Closes mid new why → Ends base new why
  ends_close base mid new why first last = record {
    added = first.added ++ last.added;
    signals = first.signals;
    entries = last.entries ∙ ap (λ es. es ++ last.added) first.entries ∙ append_assoc base.entries
        first.added last.added;
    gives = λ knows.
        subst (λ told. GiveAll before.sessions ready (first.added ++ last.added) told)
        (append-nil first.signals)
        (give-append before.sessions ready first.added last.added first.signals []
        (first.gives knows) last.quiet);
    reads = λ knows.
        subst (λ told. ReadSo (first.added ++ last.added) told) (append-nil first.signals)
        (read-append before.sessions slot ready whose first.added last.added first.signals []
        (first.reads knows) last.silent);
    sight = λ knows. last.sight ∙ ap (λ s. left_seen s slot (outcome_by why)) (first.sight knows);
  }

  ends_then : (base mid new : CoreState) (why : Option Cause) → Shown base mid → Ends mid new why
      → Ends base new why
  ends_then base mid new why first second =
      let one = first.tells in
      record {
        added = one.added ++ second.added;
        signals = one.signals ++ second.signals;
        entries = second.entries ∙ ap (λ es. es ++ second.added) one.entries
            ∙ append_assoc base.entries one.added second.added;
        gives = λ knows. give-append before.sessions ready one.added second.added one.signals
            second.signals (one.gives knows) (second.gives (first.knows knows));
        reads = λ knows. read-append before.sessions slot ready whose one.added second.added
            one.signals second.signals (one.reads knows) (second.reads (first.knows knows));
        sight = λ knows.
            second.sight (first.knows knows)
            ∙ ap (λ s. left_seen (by_signals s second.signals) slot (outcome_by why))
            (one.sight knows)
            ∙ ap (λ s. left_seen s slot (outcome_by why))
            (sym (after_signals-append v raised slot 0 (sight_of base) one.signals
            second.signals));
      }

  ends_only : (core new : CoreState) (why : Option Cause) → Closes core new why → Ends core new why
  ends_only core new why closes =
      ends_close core core new why (shows_same v raised law before ready slot 0 whose core).tells closes

  -- it was stopped
  ends_stopped : (base new : CoreState) (why : Rule) → Shown base new
      → Ends base new (Some (cause.Stopped why))
  ends_stopped base new why shows =
      record {
        added = shows.tells.added;
        signals = shows.tells.signals;
        entries =
            shows.tells.entries;
        gives = shows.tells.gives;
        reads = shows.tells.reads;
        sight = shows.tells.sight;
      }

  -- a trap: a cause that leaves the slot paused
  paused-is : (core : CoreState) (why : Cause) → IsLive core slot
      → sight_of (after_trap core slot why).0 ≡ with_slot (sight_of core) slot
      (record (sight_slot (sight_of core) slot) {
        epoch = (sight_slot (sight_of core) slot).epoch + 1;
        state = state.Paused;
      })
  unfolding sight_of
  paused-is core why live =
      let new = (after_trap core slot why).0 in
      let sight : List SlotView → List (Option ℕ) → Sight =
      λ ss areas. record (sight_of core) { slots = ss; areas = areas } in
      let slots = slice_set (map shown_slot core.sessions) slot
      (record (sight_slot (sight_of core) slot) {
        epoch = (sight_slot (sight_of core) slot).epoch + 1;
        state = state.Paused;
      }) in
      ap (λ ss. sight ss (areas_of new)) (map-set shown_slot core.sessions slot
      (session_after_pause (session_of core slot))
      ∙ ap (λ (s : SlotView). slice_set (map shown_slot core.sessions) slot
      (record s { epoch = s.epoch + 1; state = state.Paused })) (sym (slot_at-is core slot)))
      ∙ ap (λ areas. sight slots areas) (areas-session core new slot (session_after_pause (session_of core slot))
      refl refl (live_within core slot live) (sym live))

  closes_trapped : (core : CoreState) (why : Cause) → IsLive core slot
      → ((s : Sight) → left_seen s slot (outcome.Left why) ≡ with_slot s slot
      (record (sight_slot s slot) { epoch = (sight_slot s slot).epoch + 1; state = state.Paused }))
      → Closes core (after_trap core slot why).0 (Some why)
  closes_trapped core why live is = record {
    added = entry.Trap (session_of core slot).install why ∷ [];
    entries = refl;
    quiet = give-one before.sessions ready (entry.Trap (session_of core slot).install why) [] refl;
    silent = refl;
    sight = paused-is core why live ∙ sym (is (sight_of core));
  }

  closes_finished : (core : CoreState) → IsLive core slot
      → Closes core (after_exit core slot).0 (Some cause.Exit)
  unfolding without_guest
  closes_finished core live = record {
    added = [];
    entries = sym (append-nil core.entries);
    quiet = refl;
    silent = refl;
    sight = dropped-is v raised law before ready slot 0 whose core slot state.Ended
        (live_within core slot live) low refl;
  }

  closes_same : (core : CoreState) → Closes core core None
  closes_same core = record {
    added = [];
    entries = sym (append-nil core.entries);
    quiet =
        refl;
    silent = refl;
    sight = refl;
  }

  module _ (interrupt : Bool) where
    -- what follows a step
    closes_after : (core : CoreState) (end : StepEnd) → IsLive core slot
        → Closes core (after_step core slot interrupt end).0 (after_step core slot interrupt end).1
    closes_after core (ended.Call code) live =
        closes_trapped core (cause.Call code) live (λ s. refl)
    closes_after core ended.Exit live = closes_finished core live
    closes_after core ended.Goes live =
        cond_both interrupt (after_trap core slot cause.Interrupt) (core, None)
        (λ (r : CoreState × Option Cause). Closes core r.0 r.1)
        (λ _. closes_trapped core cause.Interrupt live (λ s. refl)) (λ _. closes_same core)

    -- it leaves the slot as ready as it was
    ready_after : (core : CoreState) (end : StepEnd) → slot < length core.sessions
        → is_ready (session_of (after_step core slot interrupt end).0 slot) ≡ is_ready
        (session_of core slot)
    unfolding without_guest
    ready_after core (ended.Call code) within =
        ap is_ready (get_or-set_same core.sessions slot (session_after_pause (session_of core slot)) free within)
    ready_after core ended.Exit within =
        ap is_ready
        (get_or-set_same core.sessions slot (session_after_leaving (session_of core slot) state.Ended) free within)
    ready_after core ended.Goes within =
        cond_both interrupt (after_trap core slot cause.Interrupt) (core, None)
        (λ (r : CoreState × Option Cause). is_ready (session_of r.0 slot) ≡ is_ready
        (session_of core slot))
        (λ _. ap is_ready (get_or-set_same core.sessions slot (session_after_pause (session_of core slot)) free
        within)) (λ _. refl)

    -- the event that came out so leaves the slot so ready
    abbrev IsReady : CoreState × Option Cause → Type 0
    IsReady result = ready ≡ is_ready (session_of result.0 slot)

    -- what is shown of an event that came out so
    abbrev Comes : CoreState → CoreState × Option Cause → Type 0
    Comes base result = IsReady result → Ends base result.0 result.1

    module _ (core : CoreState) (effect : Effect) (word place : ℕ) (live : IsLive core slot) where
      abbrev made_step : Step
      made_step =
          step_made (session_of core slot).pc (session_of core slot).npc effect word
          (received_by core.cells core.ram effect.wish)

      abbrev new_session : Session
      new_session = session_after_step (session_of core slot) effect made_step

      abbrev after : CoreState
      after = after_retirement core slot place effect made_step

      here : session_of after slot ≡ new_session
      here = get_or-set_same core.sessions slot new_session free (live_within core slot live)

      comes_retires : Comes core (retirement core slot interrupt effect word place)
      comes_retires is =
          let within : slot < length after.sessions =
          subst (λ n. slot < n) (sym (length-set core.sessions slot new_session))
          (live_within core slot live) in
          let now : ready ≡ is_ready new_session = is ∙ ready_after after made_step.end within
          ∙ ap is_ready here in
          ends_close core after _ _
          (tells_stepped v raised law before ready slot 0 whose core place new_session made_step some live
          refl
          (ap (λ b. let s : SlotView = record (shown_slot (session_of core slot)) {
            mask =
                mask_after (session_of core slot).mask made_step;
            signal_ready = b;
          } in s) (sym now)))
          (closes_after after made_step.end (ap (λ (s : Session). is_live s.state) here ∙ live))

    comes_data : (core : CoreState) (effect : Effect) (result : CoreState × Reach)
        → Reaches v raised law before ready slot 0 whose core result
        → Comes core (data_reached slot interrupt effect result)
    comes_data core effect (new, reach.PageFault page) came is =
        ends_then core new _ _ came.shows
        (ends_only new _ _ (closes_trapped new (cause.Page page) came.live (λ s. refl)))
    comes_data core effect (new, reach.Stopped why) came is = ends_stopped core new why came.shows
    comes_data core effect (new, reach.Ready place) came is =
        ends_then core new _ _ came.shows
        (comes_retires new effect (word_loaded (way_at new.ways place).bytes effect.wish) place
        came.live is)

    -- what leaves the cache for the data at an address, if there is one, is what messages are of
    abbrev IsOut : CoreState → Option ℕ → Type 0
    IsOut core address =
        (message : List ℕ)
        → whose message ≡ line_pushed_out core (line_of_address (unwrap_or address 0))

    comes_wish : (core : CoreState) (effect : Effect) (address : Option ℕ) → IsLive core slot
        → IsOut core address → Comes core (data_of v core slot interrupt effect address)
    comes_wish core effect None live out = comes_retires core effect 0 0 live
    comes_wish core effect (Some address) live out =
        comes_data core effect (access v core slot (address / 32))
        (reaches_access v raised law before ready slot 0 whose core (address / 32) live out)

    comes_ran : (core : CoreState) (result : Result Effect OwnFault) → IsLive core slot
        → IsOut core (data_address result) → Comes core (after_effect v core slot interrupt result)
    comes_ran core (Err why) live out is =
        ends_only core _ _ (closes_trapped core (cause.Fault why) live (λ s. refl))
    comes_ran core (Ok effect) live out is =
        comes_wish core effect (address_in effect.wish) live out is

    -- what comes behind a fetch that came so
    comes_code : (result : CoreState × Reach)
        → IfGoing v raised law before ready slot 0 whose result
        → ((message : List ℕ) → whose message ≡ line_pushed_out result.0 (data_line v slot result))
        → Comes result.0 (code_reached v slot interrupt result)
    comes_code (new, reach.PageFault page) live out is =
        ends_only new _ _ (closes_trapped new (cause.Page page) live (λ s. refl))
    comes_code (new, reach.Stopped why) live out is =
        ends_stopped new new why (shows_same v raised law before ready slot 0 whose new)
    comes_code (new, reach.Ready place) live out is =
        comes_ran new (word_tried v new slot (word_in (way_at new.ways place).bytes
        (session_of new slot).pc)) live out is

-- An event of the guest in the slot: its fetch, and what comes behind.
module _ (v : Versions) (raised : Raised) (law : RaisesInTheOpen v raised) (core : CoreState)
    (slot : ℕ) (some : (slot == 0) ≡ false) (low : slot < 17) (interrupt : Bool)
    (live : IsLive core slot) where
  abbrev code : ℕ
  code = code_line core slot

  abbrev fetched : CoreState × Reach
  fetched = access v core slot code

  abbrev pub after_code : CoreState
  after_code = core_after_fetch v core slot

  -- which line is sealed for the code, and which for the data
  abbrev pub of_code : List ℕ → SlotLine
  of_code message = line_pushed_out core code

  abbrev pub of_data : List ℕ → SlotLine
  of_data message = line_pushed_out after_code (data_line v slot fetched)

  abbrev pub is_ready_after : CoreState × Option Cause → Bool
  is_ready_after result = is_ready (session_of result.0 slot)

  -- the fetch shows what it changed, and so does what follows
  pub record Fetches (ready : Bool) (mid : CoreState) (result : CoreState × Option Cause) : Type 0
    where
      pub shows : Shows v raised law core ready slot 0 of_code core mid
      pub ends : Ends v raised law core ready slot some low
          (λ message. line_pushed_out mid (data_line v slot fetched)) mid result.0 result.1

  fetches : (ready : Bool) (b : Bool) → is_code (session_of core slot).pc ≡ b
      → ready ≡ is_ready_after (cond b (code_reached v slot interrupt fetched)
      (after_trap core slot (cause.Fault own_fault.Address)))
      → Fetches ready (cond b fetched.0 core) (cond b (code_reached v slot interrupt fetched)
      (after_trap core slot (cause.Fault own_fault.Address)))
  fetches ready true is ready_is =
      let came = reaches_access v raised law core ready slot 0 of_code core code live
      (λ message. refl) in
      record {
        shows = came.shows;
        ends = comes_code v raised law core ready slot some low
            (λ message. line_pushed_out fetched.0 (data_line v slot fetched)) interrupt fetched
            (going fetched came.live) (λ message. refl) ready_is;
      }
    where
      -- that a slot is live says nothing of messages
      going : (result : CoreState × Reach)
          → IfGoing v raised law core ready slot 0 of_code result
          → IfGoing v raised law core ready slot 0
          (λ message. line_pushed_out fetched.0 (data_line v slot fetched)) result
      going (new, reach.Ready place) is_live = is_live
      going (new, reach.PageFault page) is_live = is_live
      going (new, reach.Stopped why) is_live = tt
  fetches ready false is ready_is = record {
    shows = shows_same v raised law core ready slot 0 of_code core;
    ends = ends_only v raised law core ready slot some low
        (λ message. line_pushed_out core (data_line v slot fetched)) core _ _
        (closes_trapped v raised law core ready slot some low
        (λ message. line_pushed_out core (data_line v slot fetched)) core
        (cause.Fault own_fault.Address) live (λ s. refl));
  }

  pub guest_fetches : Fetches (is_ready_after (guest v core slot interrupt)) after_code
      (guest v core slot interrupt)
  unfolding guest
  guest_fetches =
      fetches (is_ready_after (guest v core slot interrupt)) (is_code (session_of core slot).pc)
      refl refl

  abbrev result : CoreState × Option Cause
  result = guest v core slot interrupt

  abbrev told : List Signal
  told = signals_of_guest v core slot result.0

  told-is : (fetching : Fetches (is_ready_after result) after_code result) → Knows core core
      → told ≡ fetching.shows.tells.signals ++ fetching.ends.signals
  told-is fetching knows =
      let one = fetching.shows.tells in
      let two = fetching.ends in
      let ready = is_ready_after result in
      ap (λ front. front ++ signals_of_entries core.sessions slot ready of_data
      (drop (length after_code.entries) result.0.entries))
      (read-behind core.sessions slot ready of_code core.entries after_code.entries one.added
      one.signals one.entries (one.reads knows))
      ∙ ap (λ behind. one.signals ++ behind)
      (read-behind core.sessions slot ready of_data after_code.entries result.0.entries two.added
      two.signals two.entries (two.reads (fetching.shows.knows knows)))

  -- the signals that are read off the entries are true of them, and tell what is seen
  pub guest_tells : Knows core core → AreToldOf core (is_ready_after result) result.0 told
  guest_tells knows =
      let fetching = guest_fetches in
      let one = fetching.shows.tells in
      let two = fetching.ends in
      record {
        added = one.added ++ two.added;
        entries = two.entries ∙ ap (λ es. es ++ two.added) one.entries
            ∙ append_assoc core.entries one.added two.added;
        gives = subst (λ signals. GiveAll core.sessions (is_ready_after result)
            (one.added ++ two.added) signals) (sym (told-is fetching knows))
            (give-append core.sessions (is_ready_after result) one.added two.added one.signals
            two.signals (one.gives knows) (two.gives (fetching.shows.knows knows)));
      }

  pub guest_sight : Knows core core
      → sight_of result.0 ≡ left_seen (after_signals v raised slot 0 (sight_of core) told) slot
      (outcome_by result.1)
  guest_sight knows =
      let fetching = guest_fetches in
      let one = fetching.shows.tells in
      let two = fetching.ends in
      two.sight (fetching.shows.knows knows)
      ∙ ap (λ s. left_seen (after_signals v raised slot 0 s two.signals) slot (outcome_by result.1))
      (one.sight knows)
      ∙ ap (λ s. left_seen s slot (outcome_by result.1))
      (sym (after_signals-append v raised slot 0 (sight_of core) one.signals two.signals)
      ∙ ap (λ signals. after_signals v raised slot 0 (sight_of core) signals)
      (sym (told-is fetching knows)))
