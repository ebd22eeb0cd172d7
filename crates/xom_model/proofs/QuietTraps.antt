-- A trap without retirement changes no cell and no private byte of its guest.
use Rattle.std.proofs.Common.{◌≡◌, ◌≢◌, ◌⊎◌, inl, inr, ℕ, ◌/◌, Bool, true, false, All, List, [], ◌∷◌, ◌++◌, Option, Some, None, Result, Ok, Err, length, map, set, replicate, refl, sym, ◌∙◌, ap, subst, arith, append-nil, ◌==◌}
use Rattle.std.proofs.lemmas.List.{append_assoc, get_or-set_same, get_or-set_other, get_or_past}
use Rattle.std.proofs.lemmas.List.Elements.{All-append, All-nil, All-push}
use Rattle.std.proofs.lemmas.Bool.{cond_both}
use Rattle.std.proofs.lemmas.Bool.Decides.{eqb_tells}
use Rattle.xom_base.specs.declared.entry.Entry.{Entry}
use Rattle.xom_base.specs.declared.entry.Entry.TheVariants as entry
use Rattle.xom_base.specs.declared.event.Cause.{Cause}
use Rattle.xom_base.specs.declared.event.Cause.TheVariants as cause
use Rattle.xom_base.specs.declared.event.OwnFault.{OwnFault}
use Rattle.xom_base.specs.declared.event.OwnFault.TheVariants as own_fault
use Rattle.xom_base.specs.declared.event.Rule.TheVariants as rule
use Rattle.xom_base.specs.declared.step.StepEnd.{StepEnd}
use Rattle.xom_base.specs.declared.step.StepEnd.TheVariants as ended
use Rattle.xom_seal.specs.Sealing.{unsealed_line}
use Rattle.mips_effect.specs.declared.effects.Effect.{Effect}
use Rattle.mips_plain.specs.Instruction.{is_code}
use Rattle.tag_regs.specs.declared.cell.Cell.{Cell}
use Rattle.tag_regs.specs.TaggedCells.{cell_at, cells_after_scrub, empty_cell}
use Rattle.session_table.specs.declared.session.SlotState.TheVariants as state
use Rattle.session_table.specs.Sessions.{free, session_after_leaving, session_after_pause}
use Rattle.xom_versions.specs.declared.store.Torn.{Torn}
use Rattle.xom_model.specs.declared.reach.Reach.{Reach}
use Rattle.xom_model.specs.declared.reach.Reach.TheVariants as reach
use Rattle.xom_versions.specs.Versions.{Versions}
use Rattle.xom_versions.specs.Store.{hash_entry}
use Rattle.line_cache.specs.declared.way.Way.{Way}
use Rattle.line_cache.specs.Ways.{new_way, place_for, place_of_line, pointers_after, way_at, without_slot}
use Rattle.page_map.specs.Pages.{frame_of}
use Rattle.xom_model.specs.State.{CoreState, core_with_hashes, page_of, session_of, store_of, with_entry}
use Rattle.xom_model.specs.Lines.{accept_entry, ct_place, keys_of, line_name_of, seal_entry, sealed_at, who_of}
use Rattle.xom_model.specs.Access.{access, after_opening, after_raise, after_seal, after_victim, brought, cleared_at, or_stopped, reach_after_placing, reach_after_victim, reach_by_cache, reach_by_frame, reach_in_frame, sealed_by_raise, without_guest}
use Rattle.xom_model.specs.Guest.{address_in, after_effect, after_step, after_trap, code_reached, data_of, data_reached, guest, word_in, word_tried}
use Rattle.xom_model.specs.Holds.{IsOf, IsRunning}
use Rattle.xom_model.specs.Quiet.{IsAsCached, IsKeptOrSealed, IsQuiet, MayPrecede, SealsWay, TrapsChangeNothing, TrapsQuietly}
use Rattle.xom_model.specs.Named.{HasOne}
use Rattle.xom_model.proofs.AccessKept.{found-none}
use Rattle.xom_model.proofs.Gone.{free_if-left, free_if-other, less, way-without}
use Rattle.xom_model.proofs.Naming.{HasOne-behind}
use Rattle.xom_model.proofs.Left.{cell-scrubbed, length-scrubbed, scrubbed-tagged}
use Rattle.xom_model.proofs.Walk.{running-within}
use Rattle.xom_model.proofs.WayPuts.{each_put}

-- ---- Cells of another slot that was given up

scrubbed-stays : (other : ℕ) (cells : List Cell) (reg : ℕ) → (cell_at cells reg).tag ≢ other
    → cell_at (cells_after_scrub other cells) reg ≡ cell_at cells reg
scrubbed-stays other cells reg differs = elim (less reg (length cells)) [
  | inl within ↦ cell-scrubbed other cells reg within
      ∙ elim (eqb_tells (cell_at cells reg).tag other) [
        | inl is ↦
            absurd (differs is.1)
        | inr apart ↦ rw apart.0 refl
      ]
  | inr past ↦ get_or_past (cells_after_scrub other cells) reg empty_cell (let same =
      length-scrubbed other cells in omega arith) ∙ sym (get_or_past cells reg empty_cell past)
]

scrubbed-own : (other slot : ℕ) (cells : List Cell) (reg : ℕ) → slot ≢ 0
    → (cell_at (cells_after_scrub other cells) reg).tag ≡ slot
    → cell_at (cells_after_scrub other cells) reg ≡ cell_at cells reg
scrubbed-own other slot cells reg some is = elim (less reg (length cells)) [
  | inl within ↦ scrubbed-tagged other cells reg within (λ none. some (sym is ∙ none))
  | inr past ↦ get_or_past (cells_after_scrub other cells) reg empty_cell (let same =
      length-scrubbed other cells in omega arith) ∙ sym (get_or_past cells reg empty_cell past)
]

module _ (v : Versions) (slot : ℕ) (some : slot ≢ 0) where
  -- ---- An access

  -- the guest has its session, its cells and its lines, and what was recorded may precede a trap
  pub record Brings (core new : CoreState) : Type 0 where
    pub session : session_of new slot ≡ session_of core slot
    pub cells : (reg : ℕ) → (cell_at core.cells reg).tag ≡ slot
        → cell_at new.cells reg ≡ cell_at core.cells reg
    pub others : (reg : ℕ) → (cell_at new.cells reg).tag ≡ slot
        → cell_at new.cells reg ≡ cell_at core.cells reg
    pub lines : (place : ℕ) → (way_at new.ways place).slot ≡ slot → IsAsCached core new slot place
    pub more : List Entry
    pub entries : new.entries ≡ core.entries ++ more
    pub precede : All (MayPrecede core slot) more
    pub left : (place : ℕ) → (way_at core.ways place).slot ≡ slot
        → IsKeptOrSealed core new more place

  abbrev Brought : CoreState → CoreState × Reach → Type 0
  Brought core (new, reach.Ready place) = Brings core new
  Brought core (new, reach.PageFault page) = new ≡ core
  Brought core (new, reach.Stopped why) = Unit {0}

  brings_none : (core : CoreState) → Brings core core
  brings_none core = record {
    session = refl;
    cells = λ reg is. refl;
    others = λ reg is. refl;
    lines = λ place is. inl refl;
    more = [];
    entries = sym (append-nil core.entries);
    precede = All-nil (MayPrecede core slot);
    left = λ place is. inl refl;
  }

  hashes_precede : (core : CoreState) (texts : List (List ℕ))
      → All (MayPrecede core slot) (map hash_entry texts)
  hashes_precede core [] = All-nil (MayPrecede core slot)
  hashes_precede core (text ∷ texts) =
      All-append (MayPrecede core slot) (hash_entry text ∷ []) (map hash_entry texts)
      (All-push (MayPrecede core slot) [] (hash_entry text) (All-nil (MayPrecede core slot)) tt)
      (hashes_precede core texts)

  -- a new line in a place: each other line of the slot is as it was
  module _ (core : CoreState) (line : ℕ) (bytes : List ℕ) (alone : (other : ℕ)
      → ¬ IsOf (way_at core.ways other) slot line) where
    abbrev AsBefore : ℕ → Way → Type 0
    AsBefore at way =
        way.slot ≡ slot
        → (way ≡ way_at core.ways at) ⊎ ((other : ℕ) → ¬ IsOf (way_at core.ways other) slot
        way.line)

    put_lines : (ways : List Way) (place : ℕ)
        → ((at : ℕ) → (way_at ways at).slot ≡ slot → way_at ways at ≡ way_at core.ways at)
        → (at : ℕ) → AsBefore at (way_at (set ways place (new_way slot line bytes)) at)
    put_lines ways place stay at =
        each_put AsBefore ways place (new_way slot line bytes) (λ _ _. inr alone)
        (λ k is. inl (stay k is)) at

    -- and each line of it stays, or is the one that left
    put_left : (added : List Entry) (ways : List Way) (place : ℕ)
        → ((at : ℕ) → (way_at core.ways at).slot ≡ slot → way_at ways at ≡ way_at core.ways at)
        → ((way_at core.ways place).slot ≡ slot → ((way_at core.ways place).dirty ≡ false)
        ⊎ HasOne (SealsWay core (way_at core.ways place)) added)
        → (at : ℕ) → (way_at core.ways at).slot ≡ slot
        → (way_at (set ways place (new_way slot line bytes)) at ≡ way_at core.ways at)
        ⊎ (((way_at core.ways at).dirty ≡ false) ⊎ HasOne (SealsWay core (way_at core.ways at))
        added)
    put_left added ways place stay gone at =
        each_put (λ j w. (way_at core.ways j).slot ≡ slot → (w ≡ way_at core.ways j)
        ⊎ (((way_at core.ways j).dirty ≡ false) ⊎ HasOne (SealsWay core (way_at core.ways j))
        added))
        ways place (new_way slot line bytes) (λ _ is. inr (gone is)) (λ k is. inl (stay k is)) at

    module _ (es more : List Entry) (es_are : es ≡ core.entries ++ more)
        (precede : All (MayPrecede core slot) more) where
      abbrev pointed : CoreState
      pointed = record core { pointers = pointers_after core.ways core.pointers line; entries = es }

      abbrev place : ℕ
      place = place_for core.ways core.pointers line

      abbrev victim : Way
      victim = way_at core.ways place

      abbrev texts : List (List ℕ)
      texts = v.texts_of_raise (store_of core victim.slot) victim.line core.ram

      -- hashes, and an entry behind them
      abbrev more_with : Entry → List Entry
      more_with e = more ++ (map hash_entry texts ++ e ∷ [])

      more_is : (e : Entry) → (es ++ map hash_entry texts) ++ e ∷ [] ≡ core.entries ++ more_with e
      more_is e =
          append_assoc es (map hash_entry texts) (e ∷ [])
          ∙ ap (λ l. l ++ (map hash_entry texts ++ e ∷ [])) es_are ∙ append_assoc core.entries
          more (map hash_entry texts ++ e ∷ [])

      more_precede : (e : Entry) → MayPrecede core slot e → All (MayPrecede core slot) (more_with e)
      more_precede e may =
          All-append (MayPrecede core slot) more (map hash_entry texts ++ e ∷ []) precede
          (All-push (MayPrecede core slot) (map hash_entry texts) e (hashes_precede core texts)
          may)

      more_has : (Is : Entry → Type 0) (e : Entry) → Is e → HasOne Is (more_with e)
      more_has Is e is =
          HasOne-behind Is more (map hash_entry texts ++ e ∷ [])
          (HasOne-behind Is (map hash_entry texts) (e ∷ []) (inl is))

      sealed_brings : victim.dirty ≡ true → (version : ℕ)
          → Brought core (reach_after_victim v victim.slot place slot line bytes
          (or_stopped v victim.slot
          (sealed_by_raise v (after_raise v pointed victim.slot victim.line) victim.slot
          victim.line victim.bytes (Ok version))))
      unfolding after_seal after_raise
      sealed_brings dirty version = record {
        session = refl;
        cells = λ reg is. refl;
        others = λ reg is. refl;
        lines = put_lines core.ways place (λ at is. refl);
        more = more_with (seal_entry (who_of core victim.slot) victim.line version victim.bytes);
        entries = more_is (seal_entry (who_of core victim.slot) victim.line version victim.bytes);
        precede = more_precede (seal_entry (who_of core victim.slot) victim.line version
            victim.bytes) (place, (dirty, (version, refl)));
        left = put_left (more_with (seal_entry (who_of core victim.slot) victim.line version
            victim.bytes)) core.ways place (λ at is. refl)
            (λ _. inr (more_has (SealsWay core victim) (seal_entry (who_of core victim.slot)
            victim.line version victim.bytes) (version, refl)));
      }

      torn_stays : (at : ℕ) → (way_at (without_slot victim.slot core.ways) at).slot ≡ slot
          → way_at (without_slot victim.slot core.ways) at ≡ way_at core.ways at
      torn_stays at is =
          let same = way-without victim.slot core.ways at in
          same ∙ (free_if-left victim.slot (way_at core.ways at)
          (λ none. some (sym is ∙ ap (λ w. w.slot) same ∙ none))).0

      torn_brings : victim.slot ≢ slot → (torn : Torn)
          → Brought core (reach_after_victim v victim.slot place slot line bytes
          (or_stopped v victim.slot
          (sealed_by_raise v (after_raise v pointed victim.slot victim.line) victim.slot
          victim.line victim.bytes (Err torn))))
      unfolding without_guest after_raise
      torn_brings differs torn = rw (apart_test differs) (record {
        session = get_or-set_other core.sessions victim.slot slot
            (session_after_leaving (session_of core victim.slot) (state.Stopped (rule.TreeNode torn.level))) free
            (λ is. differs (sym is));
        cells = λ reg is. scrubbed-stays victim.slot core.cells reg (λ its. differs (sym its ∙ is));
        others = λ reg is. scrubbed-own victim.slot slot core.cells reg some is;
        lines = put_lines (without_slot victim.slot core.ways) place torn_stays;
        more = more_with (entry.Stop (session_of core victim.slot).install
            (rule.TreeNode torn.level));
        entries = more_is (entry.Stop (session_of core victim.slot).install
            (rule.TreeNode torn.level));
        precede = more_precede (entry.Stop (session_of core victim.slot).install
            (rule.TreeNode torn.level)) (victim.slot, (differs, refl));
        left = put_left (more_with (entry.Stop (session_of core victim.slot).install
            (rule.TreeNode torn.level))) (without_slot victim.slot core.ways) place
            (λ at is. way-without victim.slot core.ways at ∙ free_if-other victim.slot
            (way_at core.ways at) (λ own. differs (sym own ∙ is))) (λ is. absurd (differs is));
      })
        where
          apart_test : victim.slot ≢ slot → (victim.slot == slot) ≡ false
          apart_test differs = elim (eqb_tells victim.slot slot) [
            | inl is ↦
                absurd (differs is.1)
            | inr other ↦ other.0
          ]

      by_answer : victim.dirty ≡ true → (answer : Result ℕ Torn)
          → Brought core (reach_after_victim v victim.slot place slot line bytes
          (or_stopped v victim.slot
          (sealed_by_raise v (after_raise v pointed victim.slot victim.line) victim.slot
          victim.line victim.bytes answer)))
      by_answer dirty (Ok version) = sealed_brings dirty version
      by_answer dirty (Err torn) = elim (eqb_tells victim.slot slot) [
        | inl own ↦ rw own.0 tt
        | inr other ↦ torn_brings other.1 torn
      ]

      by_dirty : (dirty : Bool) → victim.dirty ≡ dirty
          → Brought core (reach_after_victim v victim.slot place slot line bytes
          (after_victim v pointed victim dirty))
      by_dirty false clean = record {
        session = refl;
        cells = λ reg is. refl;
        others = λ reg is. refl;
        lines = put_lines core.ways place (λ at is. refl);
        more = more;
        entries = es_are;
        precede = precede;
        left = put_left more core.ways place (λ at is. refl) (λ _. inl clean);
      }
      by_dirty true dirty =
          by_answer dirty (v.answer_of_raise (store_of core victim.slot) victim.line core.ram)

      placed_brings : Brought core (reach_after_placing v (record core { entries = es }) slot line
          bytes)
      unfolding reach_after_placing cleared_at
      placed_brings = by_dirty victim.dirty refl

    module _ (texts : List (List ℕ)) where
      abbrev asked : CoreState
      asked = core_with_hashes core texts

      opened_brings : (version at : ℕ) (ct : List ℕ)
          → Brought core (reach_after_placing v
          (with_entry asked (accept_entry (who_of core slot) line version ct at)) slot line bytes)
      opened_brings version at ct =
          let accept = accept_entry (who_of core slot) line version ct at in
          placed_brings ((core.entries ++ map hash_entry texts) ++ accept ∷ [])
          (map hash_entry texts ++ accept ∷ []) (append_assoc core.entries (map hash_entry texts)
          (accept ∷ []))
          (All-push (MayPrecede core slot) (map hash_entry texts) accept (hashes_precede core texts)
          tt)

      fresh_brings : Brought core (reach_after_placing v asked slot line bytes)
      fresh_brings =
          placed_brings (core.entries ++ map hash_entry texts) (map hash_entry texts) refl
          (hashes_precede core texts)

  module _ (core : CoreState) (line : ℕ) where
    module _ (alone : (other : ℕ) → ¬ IsOf (way_at core.ways other) slot line)
        (texts : List (List ℕ)) where
      read_opens : (version at : ℕ) (ct : List ℕ) (bytes : Option (List ℕ))
          → Brought core (after_opening v (core_with_hashes core texts) slot line version at ct
          bytes)
      read_opens version at ct None = tt
      read_opens version at ct (Some bytes) =
          opened_brings core line bytes alone texts version at ct

      answer_brings : (frame : ℕ) (answer : Result ℕ Torn)
          → Brought core (brought v (core_with_hashes core texts) slot line frame answer)
      answer_brings frame (Err torn) = tt
      answer_brings frame (Ok version) =
          let asked_core = core_with_hashes core texts in
          cond_both (version == 0) (reach_after_placing v asked_core slot line (replicate 32 0))
          (reach_by_frame v asked_core slot line frame version) (λ result. Brought core result)
          (λ _. fresh_brings core line (replicate 32 0) alone texts)
          (λ _. read_opens version (ct_place frame line) (sealed_at core.ram frame line).ct
          (unsealed_line (line_name_of (who_of core slot) line version)
          (keys_of (who_of core slot) line version) (sealed_at core.ram frame line)))

    looked_brings : (frame : ℕ) (at : Option ℕ) → place_of_line core.ways slot line ≡ at
        → Brought core (reach_by_cache v core slot line frame at)
    looked_brings frame (Some at) is = brings_none core
    looked_brings frame None is =
        answer_brings (λ other. found-none core.ways slot line other some is)
        (v.texts_of_version (store_of core slot) line core.ram) frame
        (v.answer_of_version (store_of core slot) line core.ram)

    mapped_brings : (frame : Option ℕ) → Brought core (reach_in_frame v core slot line frame)
    mapped_brings None = refl
    mapped_brings (Some frame) = looked_brings frame (place_of_line core.ways slot line) refl

    access_brings : Brought core (access v core slot line)
    unfolding access
    access_brings = mapped_brings (frame_of core.pages slot (page_of line))

  -- ---- The trap

  trapped_quietly : (core new : CoreState) (why : Cause) → IsRunning core slot → Brings core new
      → TrapsQuietly core (after_trap new slot why).0 slot why
  trapped_quietly core new why runs brings =
      let more = brings.more in
      let trap = entry.Trap (session_of new slot).install why in
      let within = running-within new slot (ap (λ s. s.state) brings.session ∙ runs) in
      record {
        session = get_or-set_same new.sessions slot (session_after_pause (session_of new slot)) free within
            ∙ ap (λ s. session_after_pause s) brings.session;
        cells = brings.cells;
        others = brings.others;
        lines = brings.lines;
        more = more;
        entries = ap (λ es. es ++ trap ∷ []) brings.entries ∙ append_assoc core.entries more
            (trap ∷ []) ∙ ap (λ s. core.entries ++ (more ++ entry.Trap s.install why ∷ []))
            brings.session;
        precede = brings.precede;
        left = brings.left;
      }

  -- a cause is the one that was given
  quiet_of : (a why : Cause) → Some a ≡ Some why → IsQuiet why → IsQuiet a
  quiet_of a why is quiet = let same : why ≡ a = cc in subst IsQuiet same quiet

  module _ (base : CoreState) (base_runs : IsRunning base slot) (interrupt : Bool) (why : Cause)
      (quiet : IsQuiet why) where
    abbrev Quietly : CoreState × Option Cause → Type 0
    Quietly result = result.1 ≡ Some why → TrapsQuietly base result.0 slot why

    quietly_trapped : (new : CoreState) (its : Cause) → Brings base new
        → Quietly (after_trap new slot its)
    quietly_trapped new its brings is =
        let same : its
        ≡ why = cc in subst (λ c. TrapsQuietly base (after_trap new slot c).0 slot why) (sym same)
        (trapped_quietly base new why base_runs brings)

    after_quietly : (core : CoreState) (end : StepEnd)
        → Quietly (after_step core slot interrupt end)
    after_quietly core (ended.Call code) is = absurd (quiet_of (cause.Call code) why is quiet)
    after_quietly core ended.Exit is = absurd (quiet_of cause.Exit why is quiet)
    after_quietly core ended.Goes some_cause =
        cond_both interrupt (after_trap core slot cause.Interrupt) (core, None)
        (λ (r : CoreState × Option Cause). Quietly r)
        (λ _ is. absurd (quiet_of cause.Interrupt why is quiet)) (λ _ no. absurd (cc)) some_cause

    data_quietly : (core : CoreState) (effect : Effect) (result : CoreState × Reach)
        → Brings base core → Brought core result
        → Quietly (data_reached slot interrupt effect result)
    data_quietly core effect (new, reach.PageFault page) brings came is =
        quietly_trapped new (cause.Page page) (subst (λ c. Brings base c) (sym came) brings) is
    data_quietly core effect (new, reach.Stopped rule) brings came is =
        absurd (quiet_of (cause.Stopped rule) why is quiet)
    data_quietly core effect (new, reach.Ready at) brings came is = after_quietly _ _ is

    wish_quietly : (core : CoreState) (effect : Effect) (address : Option ℕ) → Brings base core
        → Quietly (data_of v core slot interrupt effect address)
    wish_quietly core effect None brings is = after_quietly _ _ is
    wish_quietly core effect (Some address) brings is =
        data_quietly core effect (access v core slot (address / 32)) brings
        (access_brings core (address / 32)) is

    ran_quietly : (core : CoreState) (result : Result Effect OwnFault) → Brings base core
        → Quietly (after_effect v core slot interrupt result)
    ran_quietly core (Err fault) brings = quietly_trapped core (cause.Fault fault) brings
    ran_quietly core (Ok effect) brings = wish_quietly core effect (address_in effect.wish) brings

    code_quietly : (result : CoreState × Reach) → Brought base result
        → Quietly (code_reached v slot interrupt result)
    code_quietly (new, reach.PageFault page) came is =
        quietly_trapped new (cause.Page page)
        (subst (λ c. Brings base c) (sym came) (brings_none base)) is
    code_quietly (new, reach.Stopped rule) came is =
        absurd (quiet_of (cause.Stopped rule) why is quiet)
    code_quietly (new, reach.Ready at) came is =
        ran_quietly new
        (word_tried v new slot (word_in (way_at new.ways at).bytes (session_of new slot).pc)) came
        is

    guest_quietly : Quietly (guest v base slot interrupt)
    unfolding guest
    guest_quietly =
        let pc = (session_of base slot).pc in
        cond_both (is_code pc) (code_reached v slot interrupt (access v base slot (pc / 32)))
        (after_trap base slot (cause.Fault own_fault.Address))
        (λ (r : CoreState × Option Cause). Quietly r)
        (λ _. code_quietly (access v base slot (pc / 32)) (access_brings base (pc / 32)))
        (λ _. quietly_trapped base (cause.Fault own_fault.Address) (brings_none base))

pub traps_change_nothing : TrapsChangeNothing
traps_change_nothing v core slot interrupt why some runs is quiet =
    guest_quietly v slot some core runs interrupt why quiet is
