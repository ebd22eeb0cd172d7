-- An operation shows what it changed by its entries and its status.
use Rattle.std.proofs.Common.{◌≡◌, ℕ, ◌+◌, ◌*◌, ◌<◌, ◌≤◌, ◌^◌, ◌==◌, not, Bool, true, false, cond, if◌then◌else◌, List, [], ◌∷◌, ◌++◌, length, map, inr, refl, sym, ◌∙◌, ap, subst, arith, slice_set, slice_index_or, Option, Some, None}
use Rattle.std.specs.Prelude.{nat_le}
use Rattle.std.specs.Str.{bytes_eq}
use Rattle.std.proofs.lemmas.List.{map-set, get_or-set_same, get_or-set_other, length-map, length-set, set-set, append_assoc, append-nil}
use Rattle.std.proofs.lemmas.Bool.{cond_both, ne_eqb}
use Rattle.std.proofs.lemmas.Bool.Decides.{nat_tests}
use Rattle.xom_base.specs.declared.entry.Entry.{Entry}
use Rattle.xom_base.specs.declared.entry.Entry.TheVariants as entry
use Rattle.xom_base.specs.declared.event.Op.{Op}
use Rattle.xom_base.specs.declared.event.Op.TheVariants.{Install, Enter, Resume, Save, Restore, Map, Unmap, SetReg, Kill, Out, Halt}
use Rattle.xom_base.specs.declared.event.Rule.{Rule}
use Rattle.xom_base.specs.declared.event.Rule.TheVariants as rule
use Rattle.xom_base.specs.declared.step.Step.{Step}
use Rattle.xom_seal.specs.declared.envelope.Unwrapped.{Unwrapped}
use Rattle.xom_seal.specs.Envelopes.{contents_of, envelope_contents, envelope_tag, lines_in, tag_in}
use Rattle.xom_seal.specs.Messages.{register_message}
use Rattle.xom_seal.specs.Sealing.{register_tag}
use Rattle.xom_seal.specs.declared.register.SealedReg.{SealedReg}
use Rattle.page_map.specs.Pages.{with_page}
use Rattle.tag_regs.specs.declared.cell.Cell.{Cell}
use Rattle.tag_regs.specs.TaggedCells.{cell_at, with_cell}
use Rattle.session_table.specs.declared.session.Session.{Session}
use Rattle.session_table.specs.declared.session.SlotState.{SlotState}
use Rattle.session_table.specs.declared.session.SlotState.TheVariants as state
use Rattle.session_table.specs.declared.session.SlotView.{SlotView}
use Rattle.session_table.specs.Sessions.{free, is_live, session_after_enter, session_after_resume}
use Rattle.xom_versions.specs.Store.{Store, hash_entry, no_store}
use Rattle.xom_versions.specs.Versions.{Raised, RaisesInTheOpen, Versions}
use Rattle.xom_model.specs.State.{CoreState, core_with_session, session_of, store_of, with_cells}
use Rattle.xom_model.specs.Lines.{who_of}
use Rattle.xom_model.specs.Saves.{reg_accept_entry, reg_name, reg_seal_entry, saved_at, sealed_reg}
use Rattle.xom_model.specs.Access.{after_flush, without_guest}
use Rattle.xom_model.specs.Guest.{after_delivery, mask_after, session_after_signal, signal_of as step_of_signal}
use Rattle.xom_model.specs.Holds.{IsLive}
use Rattle.xom_model.specs.Operation.{after_install, after_kill, after_reopening, after_restore, after_save, after_unmap, enter, envelope_in_ram, epoch_of, first_refusal_or, image_tests, install, install_tests, is_cell, is_slot, kill, kill_tests, map_page, map_tests, missing_cell, operation, refusal_of, reopening, restore_register, restore_tests, resume, resume_or_stop, resume_paused, save_register, save_tests, session_for, set_register, slot_takes_signal, success, unmap_page, unmap_tests, unwrap, with_signal}
use Rattle.xom_model.specs.Seen.{shown_cell, shown_slot}
use Rattle.xom_model.specs.Touched.{slot_of_op as slot_named}
use Rattle.xom_model.proofs.WalkEvents.{good_slot, paused_live, slot_from}
use Rattle.xom_seen.specs.Emission.{Made, RegisterSealed, Signal, is_ready, line_named, names_of}
use Rattle.xom_seen.specs.SealOwners.{GiveAll}
use Rattle.xom_seen.specs.SeenNext.{Sight, after_signal, after_signals, done_seen, installed_slot, seal_address, sight_slot, with_slot}
use Rattle.xom_seen.proofs.Sights.{area_if, areas-session, areas-set, areas_of, live_within, shown_hidden, sight_of, slot_at-is}
use Rattle.xom_seen.proofs.Readings.{Reads, read-hashes}
use Rattle.xom_seen.proofs.Shows.{Knows, Shows, give-hashes, give-one, removed-is, shows_flushed, shows_stop, stepped-is}

-- none of the tests holds
abbrev Passes : List (Bool × ℕ) → Type 0
Passes [] = Unit {0}
Passes (test ∷ tests) = (test.0 ≡ false) × Passes tests

-- each refuses with a status other than 0
abbrev Refuse : List (Bool × ℕ) → Type 0
Refuse [] = Unit {0}
Refuse (test ∷ tests) = ((test.1 == 0) ≡ false) × Refuse tests

some_of : (slot : ℕ) → 1 ≤ slot → (slot == 0) ≡ false
some_of slot from = ne_eqb slot 0 (λ none. absurd (omega arith))

-- one change of an element and then another, in either order
set-swap : {X : Type 0} (xs : List X) (i : ℕ) (d : X) (f g : X → X) → i < length xs
    → f (g (slice_index_or xs i d)) ≡ g (f (slice_index_or xs i d))
    → slice_set (slice_set xs i (g (slice_index_or xs i d))) i
    (f (slice_index_or (slice_set xs i (g (slice_index_or xs i d))) i d))
    ≡ slice_set (slice_set xs i (f (slice_index_or xs i d))) i
    (g (slice_index_or (slice_set xs i (f (slice_index_or xs i d))) i d))
set-swap xs i d f g within swap =
    let x = slice_index_or xs i d in
    set-set xs i (g x) (f (slice_index_or (slice_set xs i (g x)) i d))
    ∙ ap (λ y. slice_set xs i y) (ap f (get_or-set_same xs i (g x) d within) ∙ swap
    ∙ sym (ap g (get_or-set_same xs i (f x) d within)))
    ∙ sym (set-set xs i (f x) (g (slice_index_or (slice_set xs i (f x)) i d)))

module _ (v : Versions) (raised : Raised) (law : RaisesInTheOpen v raised) (before : CoreState)
    (ready : Bool) (op : Op) where
  -- what is seen after these signals
  abbrev by_signals : CoreState → List Signal → Sight
  by_signals base signals =
      after_signals v raised (slot_named op) (seal_address op) (sight_of base) signals

  abbrev Knew : CoreState → Type 0
  Knew core = Knows before core

  abbrev ReadSo : List Entry → List Signal → Type 0
  ReadSo entries told =
      Reads before.sessions (slot_named op) ready (line_named before.sessions (slot_named op))
      entries told

  abbrev Shown : CoreState → CoreState → Type 0
  Shown base new = Shows v raised law before ready (slot_named op) (seal_address op)
      (line_named before.sessions (slot_named op)) base new

  abbrev after_done : Sight → Sight
  after_done s = done_seen v raised s op

  -- the core after the operation looks as the entries and the status tell
  pub record Does (base : CoreState) (after : CoreState × ℕ) : Type 0 where
    pub added : List Entry
    pub signals : List Signal
    pub entries : after.0.entries ≡ base.entries ++ added
    pub gives : Knew base → GiveAll before.sessions ready added signals
    pub reads : Knew base → ReadSo added signals
    pub sight : Knew base
        → sight_of after.0 ≡ (if after.1 == 0 then after_done (by_signals base signals)
        else by_signals base signals)

  does_refused : (core : CoreState) (status : ℕ) → (status == 0) ≡ false
      → Does core (refusal_of core status)
  does_refused core status not_done = record {
    added = [];
    signals = [];
    entries =
        sym (append-nil core.entries);
    gives = λ _. refl;
    reads = λ _. refl;
    sight = λ _. rw not_done refl;
  }

  -- the operation that came out so leaves its slot so ready
  abbrev pub IsReady : CoreState × ℕ → Type 0
  IsReady after = ready ≡ is_ready (session_of after.0 (slot_named op))

  abbrev Comes : CoreState → CoreState × ℕ → Type 0
  Comes core after = IsReady after → Does core after

  -- the first test that holds refuses; where none does, the deed is done
  does_tested : (core : CoreState) (tests : List (Bool × ℕ)) (deed : CoreState × ℕ) → Refuse tests
      → (Passes tests → Comes core deed) → Comes core (first_refusal_or core tests deed)
  does_tested core [] deed refuse does = does tt
  does_tested core (test ∷ tests) deed refuse does =
      cond_both test.0 (refusal_of core test.1) (first_refusal_or core tests deed)
      (λ after. Comes core after)
      (λ _ _. does_refused core test.1 refuse.0)
      (λ not_this. does_tested core tests deed refuse.1 (λ passed. does (not_this, passed)))

  -- the operation was done, after a part that shows what it changed
  does_then : (base mid new : CoreState) → Shown base mid → new.entries ≡ mid.entries
      → sight_of new ≡ after_done (sight_of mid) → Does base (success new)
  does_then base mid new shows same is = record {
    added = shows.tells.added;
    signals = shows.tells.signals;
    entries = same ∙ shows.tells.entries;
    gives = shows.tells.gives;
    reads = shows.tells.reads;
    sight = λ knows. is ∙ ap after_done (shows.tells.sight knows);
  }

  -- a guest was stopped
  does_stop : (base new : CoreState) → Shown base new → Does base (new, 8)
  does_stop base new shows =
      record {
        added = shows.tells.added;
        signals = shows.tells.signals;
        entries =
            shows.tells.entries;
        gives = shows.tells.gives;
        reads = shows.tells.reads;
        sight = shows.tells.sight;
      }

  -- with entries that show nothing
  does_quiet : (base new : CoreState) (added : List Entry) → new.entries ≡ base.entries ++ added
      → GiveAll before.sessions ready added [] → ReadSo added []
      → sight_of new ≡ after_done (sight_of base)
      → Does base (success new)
  does_quiet base new added entries quiet silent is = record {
    added = added;
    signals = [];
    entries =
        entries;
    gives = λ _. quiet;
    reads = λ _. silent;
    sight = λ _. is;
  }

-- another session in a slot, as live as the one before
set-is : (core : CoreState) (slot : ℕ) (session : Session) (new : SlotView)
    → slot < length core.sessions → is_live session.state ≡ is_live (session_of core slot).state
    → shown_slot session ≡ new
    → sight_of (core_with_session core slot session) ≡ with_slot (sight_of core) slot new
unfolding sight_of
set-is core slot session new within same is =
    let after = core_with_session core slot session in
    let sight : List SlotView → List (Option ℕ) → Sight =
    λ ss areas. record (sight_of core) { slots = ss; areas = areas } in
    ap (λ ss. sight ss (areas_of after)) (map-set shown_slot core.sessions slot session
    ∙ ap (λ s. slice_set (map shown_slot core.sessions) slot s) is)
    ∙ ap (λ areas. sight (slice_set (map shown_slot core.sessions) slot new) areas)
    (areas-session core after slot session refl refl within same)

module _ (v : Versions) (raised : Raised) (law : RaisesInTheOpen v raised) (before : CoreState)
    (ready : Bool) (core : CoreState) (places : length core.sessions ≡ 17)
    (store_places : length core.stores ≡ 17) where
  -- what comes of an operation
  abbrev Done : Op → CoreState × ℕ → Type 0
  Done op after = Comes v raised law before ready op core after

  abbrev refuse : (op : Op) (status : ℕ) → (status == 0) ≡ false → Done op (refusal_of core status)
  refuse op status not_done = λ _. does_refused v raised law before ready op core status not_done

  running-is : (slot : ℕ) (session : Session) → IsLive core slot
      → shown_slot session ≡ record (shown_slot (session_of core slot)) { state = state.Running }
      → is_live session.state ≡ true
      → sight_of (core_with_session core slot session) ≡ with_slot (sight_of core) slot
      (record (sight_slot (sight_of core) slot) { state = state.Running })
  running-is slot session live shown alive =
      set-is core slot session _ (live_within core slot live) (alive ∙ sym live)
      (shown ∙ ap (λ (s : SlotView). record s { state = state.Running })
      (sym (slot_at-is core slot)))

  -- ---- Enter

  does_enter : (slot : ℕ) (at : SlotState) → (session_of core slot).state ≡ at
      → Done (Enter slot) (enter core slot at)
  does_enter slot state.Free is = refuse (Enter slot) 1 refl
  does_enter slot state.Fresh is = λ _.
      does_quiet v raised law before ready (Enter slot) core _ [] (sym (append-nil core.entries))
      refl refl (running-is slot (session_after_enter (session_of core slot)) (ap is_live is) refl refl)
  does_enter slot _ is = refuse (Enter slot) 2 refl

  -- ---- Resume

  module _ (slot signal : ℕ) (some : (slot == 0) ≡ false)
      (is : (session_of core slot).state ≡ state.Paused) where
    abbrev op : Op
    op = Resume slot signal

    alive : IsLive core slot
    alive = ap is_live is

    abbrev now : CoreState
    now = core_with_session core slot (session_after_resume (session_of core slot))

    here : session_of now slot ≡ session_after_resume (session_of core slot)
    here = get_or-set_same core.sessions slot _ free (live_within core slot alive)

    now-is : sight_of now ≡ with_slot (sight_of core) slot
        (record (sight_slot (sight_of core) slot) { state = state.Running })
    now-is = running-is slot (session_after_resume (session_of core slot)) alive refl refl

    -- a signal is a step
    abbrev step : Step
    step = step_of_signal (session_of now slot) signal

    abbrev new_session : Session
    new_session = session_after_signal (session_of now slot) signal

    abbrev shown_step : Signal
    shown_step = Made (names_of step.writes) step.released step.end ready

    swapped : after_signal v raised slot 0
        (with_slot (sight_of core) slot (record (sight_slot (sight_of core) slot) {
          state =
              state.Running;
        })) shown_step ≡ done_seen v raised
        (after_signal v raised slot 0 (sight_of core) shown_step) op
    unfolding sight_of
    swapped =
        ap (λ ss. record (after_signal v raised slot 0 (sight_of core) shown_step) { slots = ss })
        (set-swap (map shown_slot core.sessions) slot (shown_slot free)
        (λ (s : SlotView). record s { mask = mask_after s.mask step; signal_ready = ready })
        (λ (s : SlotView). record s { state = state.Running })
        (subst (λ n. slot < n) (sym (length-map core.sessions shown_slot))
        (live_within core slot alive)) refl)

    does_delivered : Done op (success (after_delivery now slot signal))
    does_delivered so = record {
      added = entry.Step (session_of now slot).install step ∷ [];
      signals = shown_step ∷ [];
      entries = refl;
      gives = λ _. give-one before.sessions ready (entry.Step (session_of now slot).install step)
          (shown_step ∷ []) refl;
      reads = λ _. refl;
      sight = λ _.
          let within : slot < length now.sessions =
          subst (λ n. slot < n)
          (sym (length-set core.sessions slot (session_after_resume (session_of core slot))))
          (live_within core slot alive) in
          let is_ready_now : ready ≡ is_ready new_session =
          so ∙ ap is_ready (get_or-set_same now.sessions slot new_session free within) in
          stepped-is v raised law before ready slot 0 (line_named before.sessions slot) now 0 new_session step some
          (ap (λ (s : Session). is_live s.state) here) refl
          (ap (λ b. let s : SlotView = record (shown_slot (session_of now slot)) {
            mask =
                mask_after (session_of now slot).mask step;
            signal_ready = b;
          } in s) (sym is_ready_now))
          ∙ ap (λ s. after_signal v raised slot 0 s shown_step) now-is
          ∙ swapped;
    }

    does_signal : Done op (success (with_signal now slot signal))
    does_signal =
        cond_both (signal == 0) now (after_delivery now slot signal) (λ new. Done op (success new))
        (λ _ _. does_quiet v raised law before ready op core now [] (sym (append-nil core.entries))
        refl refl now-is)
        (λ _. does_delivered)

    does_go_on : (lost : Option ℕ) → Done op (resume_or_stop core slot signal lost)
    does_go_on None = does_signal
    does_go_on (Some reg) =
        λ _. does_stop v raised law before ready op core _ (shows_stop v raised law before ready
        slot 0 (line_named before.sessions slot) core slot (rule.RegisterMissing reg) (λ _. alive))

    does_paused : Done op (resume_paused core slot signal)
    does_paused =
        cond_both (nat_le signal 63) (cond (slot_takes_signal (session_of core slot) signal)
        (resume_or_stop core slot signal (missing_cell slot (session_of core slot).mask core.cells))
        (refusal_of core 2)) (refusal_of core 7) (λ after. Done op after)
        (λ _. cond_both (slot_takes_signal (session_of core slot) signal)
        (resume_or_stop core slot signal (missing_cell slot (session_of core slot).mask core.cells))
        (refusal_of core 2) (λ after. Done op after)
        (λ _. does_go_on (missing_cell slot (session_of core slot).mask core.cells))
        (λ _. refuse op 2 refl))
        (λ _. refuse op 7 refl)

  does_resume : (slot signal : ℕ) → (slot == 0) ≡ false → (at : SlotState)
      → (session_of core slot).state ≡ at → Done (Resume slot signal) (resume core slot signal at)
  does_resume slot signal some state.Free is = refuse (Resume slot signal) 1 refl
  does_resume slot signal some state.Fresh is = refuse (Resume slot signal) 2 refl
  does_resume slot signal some state.Running is = refuse (Resume slot signal) 2 refl
  does_resume slot signal some state.Paused is = does_paused slot signal some is
  does_resume slot signal some state.Ended is = refuse (Resume slot signal) 2 refl
  does_resume slot signal some (state.Stopped why) is = refuse (Resume slot signal) 2 refl

  -- ---- Save and Restore

  -- a register that is saved shows its ciphertext and tag, which then lie in RAM
  module _ (slot reg address : ℕ) (live : IsLive core slot) where
    abbrev sealed : SealedReg
    sealed = sealed_reg (who_of core slot) (epoch_of core slot) reg (cell_at core.cells reg).value

    abbrev seal : Entry
    seal = reg_seal_entry (who_of core slot) (epoch_of core slot) reg (cell_at core.cells reg).value

    abbrev shown_seal : Signal
    shown_seal = RegisterSealed slot reg sealed.ct sealed.tag

    does_saved : Done (Save slot reg address) (success (after_save core slot reg address))
    unfolding after_save register_message register_tag sight_of
    does_saved _ = record {
      added = seal ∷ [];
      signals = shown_seal ∷ [];
      entries = refl;
      gives = λ knows.
          let was = knows.live slot live in
          give-one before.sessions ready seal (shown_seal ∷ []) (inr (record {
            slot = slot;
            ct = sealed.ct;
            name = reg_name (who_of core slot) (epoch_of core slot) reg;
            live = was.0;
            named = was.1;
            text = refl;
            given = refl;
          }));
      reads = λ _. refl;
      sight = λ _. refl;
    }

  does_save : (slot reg address : ℕ)
      → Done (Save slot reg address) (save_register core slot reg address)
  does_save slot reg address = does_tested v raised law before ready (Save slot reg address) core
      (save_tests core slot reg address) (success (after_save core slot reg address))
      (refl, (refl, (refl, (refl, (refl, tt)))))
      (λ (passed : Passes (save_tests core slot reg address)). does_saved slot reg address
      (paused_live (session_of core slot).state passed.1.0))

  does_reopened : (slot reg address : ℕ) → (slot == 0) ≡ false → IsLive core slot
      → (value : Option ℕ)
      → Done (Restore slot reg address) (after_reopening core slot reg address value)
  unfolding after_restore sight_of
  does_reopened slot reg address some live None = λ _.
      does_stop v raised law before ready (Restore slot reg address) core
      _ (shows_stop v raised law before ready slot 0 (line_named before.sessions slot) core slot (rule.RegisterTag reg) (λ _. live))
  does_reopened slot reg address some live (Some value) = λ _.
      let cells : List Cell → Sight =
      λ cs. record (sight_of core) { cells = cs } in
      does_quiet v raised law before ready (Restore slot reg address) core
      _ (reg_accept_entry (who_of core slot) (epoch_of core slot) reg
      (saved_at core.ram address).ct address ∷ []) refl
      (give-one before.sessions ready (reg_accept_entry (who_of core slot) (epoch_of core slot) reg
      (saved_at core.ram address).ct address) [] refl) refl
      (ap cells (map-set shown_cell core.cells reg _
      ∙ ap (λ c. slice_set (map shown_cell core.cells) reg c) (shown_hidden slot value some)))

  does_restore : (slot reg address : ℕ)
      → Done (Restore slot reg address) (restore_register core slot reg address)
  does_restore slot reg address = does_tested v raised law before ready (Restore slot reg address)
      core (restore_tests core slot reg address) (reopening core slot reg address)
      (refl, (refl, (refl, (refl, (refl, tt)))))
      (λ passed. does_reopened slot reg address (some_of slot (good_slot core slot passed.0).0.0)
      (paused_live (session_of core slot).state passed.1.0) _)

  -- ---- Install

  contents-is : (text : List ℕ) (plain : Unwrapped) → envelope_contents core.machine text ≡ Some plain
      → contents_of core.machine text ≡ plain
  contents-is text plain =
      cond_both (bytes_eq (tag_in text) (envelope_tag core.machine text))
      (Some (contents_of core.machine text)) None (λ (o : Option Unwrapped). o ≡ Some plain
      → contents_of core.machine text ≡ plain)
      (λ _ is. cc) (λ _ is. absurd (cc))

  module _ (slot place area : ℕ) (low : slot < 17) where
    abbrev text : List ℕ
    text = envelope_in_ram core place

    abbrev plain : Unwrapped
    plain = contents_of core.machine text

    abbrev new_core : CoreState
    new_core = after_install v core slot place area plain

    abbrev store : Store
    store = v.store_after_build area (lines_in text) core.ram

    installed-areas : areas_of new_core ≡ slice_set (areas_of core) slot store.area
    unfolding after_install contents_of
    installed-areas =
        let session = session_for core plain in
        areas-set core new_core slot store.area low
        (ap (λ s. area_if s (store_of new_core slot)) (get_or-set_same core.sessions slot session
        free (omega arith)) ∙ ap (λ (t : Store). t.area) (get_or-set_same core.stores slot store
        no_store (omega arith)))
        (λ other differs. ap (λ s. area_if s (store_of new_core other))
        (get_or-set_other core.sessions slot other session free differs)
        ∙ ap (λ t. area_if (session_of core other) t) (get_or-set_other core.stores slot other
        store no_store differs))

    installed-is : sight_of new_core ≡ done_seen v raised (sight_of core) (Install slot place area)
    unfolding after_install contents_of sight_of
    installed-is =
        let sight : List SlotView → List (Option ℕ) → Sight =
        λ ss areas. record (sight_of core) {
          slots = ss;
          areas = areas;
          ram = v.ram_after_build area (lines_in text) core.ram;
          installs = core.installs + 1;
        } in
        ap (λ ss. sight ss (areas_of new_core)) (map-set shown_slot core.sessions slot
        (session_for core plain))
        ∙ ap (λ areas. sight (slice_set (map shown_slot core.sessions) slot
        (installed_slot (core.installs + 1) text)) areas) installed-areas

    does_installed : Done (Install slot place area) (success new_core)
    unfolding after_install
    does_installed _ =
        let texts = v.texts_of_build area plain.lines core.ram in
        does_quiet v raised law before ready (Install slot place area) core new_core
        (_ ∷ _ ∷ map hash_entry texts) (append_assoc core.entries (_ ∷ _ ∷ [])
        (map hash_entry texts))
        ([], [], refl, ([], [], refl, give-hashes before.sessions ready texts, refl), refl)
        (read-hashes before.sessions slot ready (line_named before.sessions slot) texts)
        installed-is

  does_unwrap : (slot place area : ℕ) → slot < 17 → (opens : Option Unwrapped)
      → envelope_contents core.machine (envelope_in_ram core place) ≡ opens
      → Done (Install slot place area) (unwrap v core slot place area opens)
  does_unwrap slot place area low None is = refuse (Install slot place area) 3 refl
  does_unwrap slot place area low (Some plain) is =
      does_tested v raised law before ready (Install slot place area) core (image_tests core plain)
      (success (after_install v core slot place area plain)) (refl, tt)
      (λ _. subst (λ p. Done (Install slot place area)
      (success (after_install v core slot place area p))) (contents-is (envelope_in_ram core place)
      plain is) (does_installed slot place area low))

  does_install : (slot place area : ℕ)
      → Done (Install slot place area) (install v core slot place area)
  does_install slot place area = does_tested v raised law before ready (Install slot place area)
      core (install_tests core slot place area)
      (unwrap v core slot place area (envelope_contents core.machine (envelope_in_ram core place)))
      (refl, (refl, (refl, tt)))
      (λ passed. let slots = slot_from slot passed.0 in does_unwrap slot place area (let most =
      slots.1 in omega arith) (envelope_contents core.machine (envelope_in_ram core place)) refl)

  -- ---- Map, Unmap and Kill

  does_map : (slot page frame : ℕ) → Done (Map slot page frame) (map_page v core slot page frame)
  unfolding sight_of
  does_map slot page frame = does_tested v raised law before ready (Map slot page frame) core
      (map_tests core slot page frame)
      (success (record core { pages = with_page core.pages slot page (Some frame) }))
      (refl, (refl, (refl, (refl, (refl, tt)))))
      (λ _ _. does_quiet v raised law before ready (Map slot page frame) core _ []
      (sym (append-nil core.entries)) refl refl refl)

  does_unmapped : (slot page : ℕ) (result : CoreState × Option Rule)
      → Shows v raised law before ready slot 0 (line_named before.sessions slot) core result.0
      → Done (Unmap slot page) (after_unmap v slot page result)
  unfolding sight_of
  does_unmapped slot page (mid, None) shows =
      λ _. does_then v raised law before ready (Unmap slot page) core mid _ shows refl refl
  does_unmapped slot page (mid, Some why) shows =
      λ _. does_stop v raised law before ready (Unmap slot page) core mid shows

  does_unmap : (slot page : ℕ) → Done (Unmap slot page) (unmap_page v core slot page)
  does_unmap slot page = does_tested v raised law before ready (Unmap slot page) core
      (unmap_tests core slot page)
      (after_unmap v slot page (after_flush v slot 128 (128 * page) core))
      (refl, (refl, (refl, (refl, tt))))
      (λ (passed : Passes (unmap_tests core slot page)).
      does_unmapped slot page (after_flush v slot 128 (128 * page) core)
      (shows_flushed v raised law before ready slot 0 (line_named before.sessions slot) 128
      (128 * page) core (few page passed.1.1.0) (λ message. refl)))
    where
      few : (page : ℕ) → nat_le 256 page ≡ false → 128 * page + 128 ≤ 2 ^ 32
      few page below = let low : page < 256 = grind (arith, nat_tests) in omega arith

  killed-is : (slot : ℕ) → slot < 17
      → sight_of (after_kill v core slot) ≡ done_seen v raised (sight_of core) (Kill slot)
  unfolding sight_of
  killed-is slot low =
      removed-is v raised law before ready slot 0 (line_named before.sessions slot) core slot free (omega arith) low refl

  does_kill : (slot : ℕ) → Done (Kill slot) (kill v core slot)
  unfolding without_guest
  does_kill slot = does_tested v raised law before ready (Kill slot) core (kill_tests core slot)
      (success (after_kill v core slot)) (refl, tt)
      (λ passed _.
      let most : slot ≤ 16 = (good_slot core slot passed.0).0.1 in
      does_quiet v raised law before ready (Kill slot) core (after_kill v core slot)
      (entry.Kill (session_of core slot).install ∷ []) refl
      (give-one before.sessions ready (entry.Kill (session_of core slot).install) [] refl) refl
      (killed-is slot (omega arith)))

  -- ---- The others

  does_set : (reg value : ℕ) → Done (SetReg reg value) (set_register core reg value)
  unfolding sight_of
  does_set reg value =
      let cells : List Cell → Sight =
      λ cs. record (sight_of core) { cells = cs } in
      cond_both (is_cell reg) (success (with_cells core (with_cell core.cells reg value 0)))
      (refusal_of core 7) (λ after. Done (SetReg reg value) after)
      (λ _ _. does_quiet v raised law before ready (SetReg reg value) core _ []
      (sym (append-nil core.entries)) refl refl (ap cells (map-set shown_cell core.cells reg _)))
      (λ _. refuse (SetReg reg value) 7 refl)

  by_slot : (op : Op) (slot : ℕ) (deed : CoreState × ℕ) → ((slot == 0) ≡ false → Done op deed)
      → Done op (if is_slot slot then deed else refusal_of core 1)
  by_slot op slot deed does =
      cond_both (is_slot slot) deed (refusal_of core 1) (λ after. Done op after)
      (λ is. does (some_of slot (slot_from slot (ap not is)).0)) (λ _. refuse op 1 refl)

  pub does_operation : (op : Op) → Done op (operation v core op)
  unfolding operation sight_of
  does_operation (Enter slot) =
      by_slot (Enter slot) slot (enter core slot (session_of core slot).state)
      (λ _. does_enter slot (session_of core slot).state refl)
  does_operation (Resume slot signal) =
      by_slot (Resume slot signal) slot (resume core slot signal (session_of core slot).state)
      (λ some. does_resume slot signal some (session_of core slot).state refl)
  does_operation (SetReg reg value) = does_set reg value
  does_operation Halt =
      λ _. does_quiet v raised law before ready Halt core core [] (sym (append-nil core.entries))
      refl refl refl
  does_operation (Install slot place area) = does_install slot place area
  does_operation (Save slot reg address) = does_save slot reg address
  does_operation (Restore slot reg address) = does_restore slot reg address
  does_operation (Map slot page frame) = does_map slot page frame
  does_operation (Unmap slot page) = does_unmap slot page
  does_operation (Kill slot) = does_kill slot
  does_operation (Out byte) =
      λ _. does_quiet v raised law before ready (Out byte) core _ (entry.Out byte ∷ []) refl
      (give-one before.sessions ready (entry.Out byte) [] refl) refl refl
