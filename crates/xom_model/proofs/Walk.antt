-- The event of a guest as a walk of small parts, over any relation that holds of each part, and of
-- one part after another.
use Rattle.std.proofs.Common.{◌≡◌, ◌≢◌, ◌⊎◌, inl, inr, ℕ, ◌/◌, ◌<◌, ◌≤◌, Bool, true, false, List, [], ◌∷◌, ◌++◌, Option, Some, None, Result, Ok, Err, length, set, replicate, refl, sym, ◌∙◌, ap, subst, arith, length-set, ◌==◌}
use Rattle.std.proofs.lemmas.List.{get_or-set_same, get_or-set_other, get_or_past}
use Rattle.std.proofs.lemmas.Bool.{cond_both}
use Rattle.std.proofs.lemmas.Bool.Decides.{eqb_tells}
use Rattle.xom_base.specs.declared.entry.Entry.{Entry}
use Rattle.xom_base.specs.declared.entry.Entry.TheVariants as entry
use Rattle.xom_base.specs.declared.event.Cause.{Cause}
use Rattle.xom_base.specs.declared.event.Cause.TheVariants as cause
use Rattle.xom_base.specs.declared.event.OwnFault.{OwnFault}
use Rattle.xom_base.specs.declared.event.OwnFault.TheVariants as own_fault
use Rattle.xom_base.specs.declared.event.Rule.{Rule}
use Rattle.xom_base.specs.declared.event.Rule.TheVariants as rule
use Rattle.xom_base.specs.declared.step.Step.{Step}
use Rattle.xom_base.specs.declared.step.StepEnd.{StepEnd}
use Rattle.xom_base.specs.declared.step.StepEnd.TheVariants as ended
use Rattle.xom_base.specs.declared.step.Stored.{Stored}
use Rattle.xom_base.specs.declared.step.Stored.TheVariants as stored
use Rattle.xom_base.specs.declared.step.Writes.{Writes}
use Rattle.xom_seal.specs.Sealing.{unsealed_line}
use Rattle.mips_effect.specs.declared.effects.Effect.{Effect}
use Rattle.mips_effect.specs.declared.wish.Wish.{Wish}
use Rattle.mips_effect.specs.declared.wish.Wish.TheVariants as wish
use Rattle.mips_plain.specs.Instruction.{is_code, step_made, step_of_wish}
use Rattle.session_table.specs.declared.session.Session.{Session}
use Rattle.session_table.specs.declared.session.SlotState.TheVariants as state
use Rattle.session_table.specs.Sessions.{free, session_after_leaving, session_at}
use Rattle.xom_versions.specs.declared.store.Torn.{Torn}
use Rattle.xom_model.specs.declared.reach.Reach.{Reach}
use Rattle.xom_model.specs.declared.reach.Reach.TheVariants as reach
use Rattle.xom_versions.specs.Versions.{Versions}
use Rattle.line_cache.specs.declared.way.Way.{Way}
use Rattle.line_cache.specs.Ways.{free_way, new_way, place_for, place_of_line, way_at}
use Rattle.page_map.specs.Pages.{frame_of}
use Rattle.xom_model.specs.State.{CoreState, core_with_hashes, core_with_way, page_of, session_of, store_of, with_entry}
use Rattle.xom_model.specs.Lines.{accept_entry, ct_place, keys_of, line_name_of, sealed_at, who_of}
use Rattle.xom_model.specs.Access.{access, after_opening, after_raise, after_seal, after_stop, after_victim, brought, cleared_at, or_stopped, reach_after_placing, reach_after_victim, reach_by_cache, reach_by_frame, reach_in_frame, sealed_by_raise, with_pointers, without_guest}
use Rattle.xom_model.specs.Guest.{address_in, after_effect, after_exit, after_retirement, after_step, after_trap, code_reached, core_after_step, data_of, data_reached, guest, received_by, retirement, session_after_step, word_in, word_loaded, word_tried}
use Rattle.xom_model.specs.Holds.{IsLive, IsRunning}
use Rattle.xom_model.proofs.Gone.{less, way-without}
use Rattle.xom_model.proofs.AccessKept.{found-IsOf}

-- ---- The parts

-- a way that may be put into the cache for a slot: none, or a clean line of the slot, which runs
abbrev pub MayCome : ℕ → CoreState → Way → Type 0
MayCome slot core way =
    (way ≡ free_way) ⊎ ((way.dirty ≡ false) × ((way.slot ≡ slot) × IsRunning core slot))

-- a place is one of the slot's, or no place of the cache
abbrev pub IsOwnPlace : CoreState → ℕ → ℕ → Type 0
IsOwnPlace core slot place = ((way_at core.ways place).slot ≡ slot) ⊎ (length core.ways ≤ place)

-- what a step stores, it stores in such a place
abbrev pub StoresIn : CoreState → ℕ → ℕ → Stored → Type 0
StoresIn core slot place stored.Nothing = Unit {0}
StoresIn core slot place (stored.Bytes address count value) = IsOwnPlace core slot place

-- a session in which the same guest goes on
pub record GoesOn (s t : Session) : Type 0 where
  pub install : t.install ≡ s.install
  pub id : t.id ≡ s.id
  pub key : t.key ≡ s.key
  pub lines : t.lines ≡ s.lines
  pub epoch : t.epoch ≡ s.epoch
  pub state : t.state ≡ s.state

-- a line that stands dirty in a place is sealed and written to its frame
abbrev pub written_back : Versions → CoreState → Way → ℕ → CoreState
written_back v core way version =
    after_seal v (after_raise v core way.slot way.line) way.slot way.line way.bytes version

-- or its tree is torn, and its slot stopped
abbrev pub torn_off : Versions → CoreState → Way → Torn → CoreState
torn_off v core way torn =
    after_stop (after_raise v core way.slot way.line) way.slot (rule.TreeNode torn.level)

abbrev pub raised_for : Versions → CoreState → Way → Result ℕ Torn
raised_for v core way = v.answer_of_raise (store_of core way.slot) way.line core.ram

-- A relation that holds of each part of an event of the slot's guest but its end, and of one part
-- after another.
pub record Parts (v : Versions) (slot : ℕ) (R : CoreState → CoreState → Type 0) : Type 0 where
  pub none : (core : CoreState) → R core core
  pub on : (a b c : CoreState) → R a b → R b c → R a c
  -- a private access
  pub hash : (core : CoreState) (texts : List (List ℕ)) → R core (core_with_hashes core texts)
  pub accept : (core : CoreState) (line version place : ℕ) (ct : List ℕ) → IsRunning core slot
      → R core (with_entry core (accept_entry (who_of core slot) line version ct place))
  pub point : (core : CoreState) (line : ℕ) → R core (with_pointers core line)
  pub bring : (core : CoreState) (place : ℕ) (way : Way) → (way_at core.ways place).dirty ≡ false
      → MayCome slot core way → R core (core_with_way core place way)
  pub seal : (core : CoreState) (place version : ℕ) (way : Way)
      → (way_at core.ways place).dirty ≡ true
      → raised_for v core (way_at core.ways place) ≡ Ok version → MayCome slot core way
      → R core (core_with_way (written_back v core (way_at core.ways place) version) place way)
  pub tear : (core : CoreState) (place : ℕ) (torn : Torn) → (way_at core.ways place).dirty ≡ true
      → raised_for v core (way_at core.ways place) ≡ Err torn
      → R core (torn_off v core (way_at core.ways place) torn)
  pub stop : (core : CoreState) (why : Rule) → IsLive core slot → R core (after_stop core slot why)
  -- a step
  pub step : (core : CoreState) (place : ℕ) (session : Session) (step : Step) → IsRunning core slot
      → GoesOn (session_of core slot) session → StoresIn core slot place step.stored
      → R core (core_after_step core slot place session step)

-- the last entry is the slot's exit step
abbrev pub JustExited : CoreState → ℕ → Type 0
JustExited core slot =
    (before : List Entry) × (step : Step)
    × (core.entries ≡ before ++ entry.Step (session_of core slot).install step ∷ [])
    × (step.end ≡ ended.Exit)

-- How such a guest event ends: another relation holds of each end, and of what the first relates
-- before it.
pub record Ends (slot : ℕ) (R T : CoreState → CoreState → Type 0) : Type 0 where
  pub went : (core : CoreState) → T core core
  pub after : (a b c : CoreState) → R a b → T b c → T a c
  pub trap : (core : CoreState) (why : Cause) → IsRunning core slot
      → T core (after_trap core slot why).0
  pub exit : (core : CoreState) → IsRunning core slot → JustExited core slot
      → T core (after_exit core slot).0

-- ---- What an access comes to

-- the slot's session is as it was, and the place is its own; nothing was done where the page isn't
-- mapped
abbrev pub Reached : CoreState → ℕ → CoreState → Reach → Type 0
Reached core slot new (reach.Ready place) =
    (session_of new slot ≡ session_of core slot) × IsOwnPlace new slot place
Reached core slot new (reach.PageFault page) = new ≡ core
Reached core slot new (reach.Stopped why) = Unit {0}

-- the same of a line whose page is mapped
abbrev pub Found : CoreState → ℕ → CoreState → Reach → Type 0
Found core slot new (reach.Ready place) =
    (session_of new slot ≡ session_of core slot) × IsOwnPlace new slot place
Found core slot new (reach.PageFault page) = ⊥
Found core slot new (reach.Stopped why) = Unit {0}

found-Reached : (core : CoreState) (slot : ℕ) (new : CoreState) (answer : Reach)
    → Found core slot new answer → Reached core slot new answer
found-Reached core slot new (reach.Ready place) is = is
found-Reached core slot new (reach.PageFault page) no_fault = absurd no_fault
found-Reached core slot new (reach.Stopped why) is = tt

-- a way that was put in a place stands there
pub own-put : (ways : List Way) (slot place : ℕ) (way : Way) → way.slot ≡ slot
    → ((way_at (set ways place way) place).slot ≡ slot) ⊎ (length (set ways place way) ≤ place)
own-put ways slot place way own = elim (less place (length ways)) [
  | inl within ↦ inl (ap (λ w. w.slot) (get_or-set_same ways place way free_way within) ∙ own)
  | inr past ↦ inr (let same = length-set ways place way in omega arith)
]

-- a slot whose guest runs is one of the table's
pub running-within : (core : CoreState) (slot : ℕ) → IsRunning core slot
    → slot < length core.sessions
running-within core slot runs = elim (less slot (length core.sessions)) [
  | inl within ↦ within
  | inr past ↦ absurd (let its = ap (λ s. s.state) (get_or_past core.sessions slot free past) in cc)
]

-- what a step stores is in its line
stores-in : (core : CoreState) (slot place pc npc : ℕ) (written : Writes) (wished : Wish)
    (word got : ℕ)
    → ((address : ℕ) → address_in wished ≡ Some address → IsOwnPlace core slot place)
    → StoresIn core slot place (step_of_wish pc npc written wished word got).stored
stores-in core slot place pc npc written (wish.Store address count value) word got own =
    own address refl
stores-in core slot place pc npc written _ word got own = tt

pub step-stores : (core : CoreState) (slot place pc npc : ℕ) (effect : Effect) (word got : ℕ)
    → ((address : ℕ) → address_in effect.wish ≡ Some address → IsOwnPlace core slot place)
    → StoresIn core slot place (step_made pc npc effect word got).stored
unfolding step_made
step-stores core slot place pc npc effect word got own =
    stores-in core slot place pc npc effect.writes effect.wish word got own

-- a place of a slot that was stopped holds nothing
stopped-clean : (v : Versions) (core : CoreState) (place : ℕ) (torn : Torn)
    → (way_at (torn_off v core (way_at core.ways place) torn).ways place).dirty ≡ false
unfolding without_guest after_raise
stopped-clean v core place torn =
    let slot = (way_at core.ways place).slot in
    ap (λ w. w.dirty) (way-without slot core.ways place) ∙ elim (eqb_tells slot slot) [
      | inl is ↦
          rw is.0 refl
      | inr other ↦ absurd (other.1 refl)
    ]

torn-session : (v : Versions) (core : CoreState) (way : Way) (torn : Torn) (slot : ℕ)
    → slot ≢ way.slot → session_of (torn_off v core way torn) slot ≡ session_of core slot
unfolding without_guest after_raise
torn-session v core way torn slot differs =
    get_or-set_other core.sessions way.slot slot
    (session_after_leaving (session_of core way.slot) (state.Stopped (rule.TreeNode torn.level))) free differs

written-sessions : (v : Versions) (core : CoreState) (way : Way) (version : ℕ)
    → (written_back v core way version).sessions ≡ core.sessions
unfolding after_seal after_raise
written-sessions v core way version = refl

-- ---- The walk

module _ (v : Versions) (slot : ℕ) (R : CoreState → CoreState → Type 0)
    (parts : Parts v slot R) where
  -- the parts were walked, and the line is ready or its slot was stopped
  abbrev Walked : CoreState → CoreState × Reach → Type 0
  Walked core result = R core result.0 × Found core slot result.0 result.1

  -- what comes after a part that leaves the session
  then_walked : (core mid : CoreState) → session_of mid slot ≡ session_of core slot → R core mid
      → (result : CoreState × Reach) → Walked mid result → Walked core result
  then_walked core mid same walked (new, reach.Ready place) rest =
      (parts.on core mid new walked rest.0, (rest.1.0 ∙ same, rest.1.1))
  then_walked core mid same walked (new, reach.PageFault page) rest = absurd rest.1
  then_walked core mid same walked (new, reach.Stopped why) rest =
      (parts.on core mid new walked rest.0, tt)

  module _ (core : CoreState) (line : ℕ) (bytes : List ℕ) (runs : IsRunning core slot) where
    abbrev pointed : CoreState
    pointed = with_pointers core line

    abbrev place : ℕ
    place = place_for core.ways core.pointers line

    abbrev victim : Way
    victim = way_at core.ways place

    abbrev fresh_way : Way
    fresh_way = new_way slot line bytes

    -- the new line is put
    filled : (mid : CoreState) → session_of mid slot ≡ session_of core slot
        → R pointed (core_with_way mid place fresh_way)
        → Walked core (core_with_way mid place fresh_way, reach.Ready place)
    filled mid same walked = (
      parts.on core pointed (core_with_way mid place fresh_way) (parts.point core line) walked,
      (same, own-put mid.ways slot place fresh_way refl),
    )

    by_answer : victim.dirty ≡ true → (answer : Result ℕ Torn)
        → raised_for v pointed victim ≡ answer
        → Walked core (reach_after_victim v victim.slot place slot line bytes
        (or_stopped v victim.slot
        (sealed_by_raise v (after_raise v pointed victim.slot victim.line) victim.slot victim.line
        victim.bytes answer)))
    by_answer dirty (Ok version) is =
        filled (written_back v pointed victim version) (ap (λ list. session_at list slot)
        (written-sessions v pointed victim version))
        (parts.seal pointed place version fresh_way dirty is (inr (refl, (refl, runs))))
    by_answer dirty (Err torn) is =
        let off = torn_off v pointed victim torn in
        elim (eqb_tells victim.slot slot) [
          | inl own ↦ rw own.0 (
            parts.on core pointed off (parts.point core line)
                (parts.tear pointed place torn dirty is),
            tt,
          )
          | inr other ↦
              let same = torn-session v pointed victim torn slot (λ is_own. other.1 (sym is_own)) in
              rw other.0 (filled off same
              (parts.on pointed off _ (parts.tear pointed place torn dirty is)
              (parts.bring off place fresh_way (stopped-clean v pointed place torn)
              (inr (refl, (refl, ap (λ s. s.state) same ∙ runs))))))
        ]

    by_dirty : (dirty : Bool) → victim.dirty ≡ dirty
        → Walked core (reach_after_victim v victim.slot place slot line bytes
        (after_victim v pointed victim dirty))
    by_dirty false clean =
        filled pointed refl (parts.bring pointed place fresh_way clean (inr (refl, (refl, runs))))
    by_dirty true dirty = by_answer dirty (raised_for v pointed victim) refl

    walk_placed : Walked core (reach_after_placing v core slot line bytes)
    unfolding reach_after_placing cleared_at
    walk_placed = by_dirty victim.dirty refl

  -- what was read opens, or stops its slot
  walk_opened : (core : CoreState) (line version place : ℕ) (ct : List ℕ) (bytes : Option (List ℕ))
      → IsRunning core slot → Walked core (after_opening v core slot line version place ct bytes)
  walk_opened core line version place ct None runs =
      (parts.stop core (rule.LineTag line) (rw runs refl), tt)
  walk_opened core line version place ct (Some bytes) runs =
      then_walked core (with_entry core (accept_entry (who_of core slot) line version ct place))
      refl (parts.accept core line version place ct runs) _
      (walk_placed (with_entry core (accept_entry (who_of core slot) line version ct place)) line
      bytes runs)

  walk_brought : (core : CoreState) (line frame : ℕ) (answer : Result ℕ Torn) → IsRunning core slot
      → Walked core (brought v core slot line frame answer)
  walk_brought core line frame (Err torn) runs =
      (parts.stop core (rule.TreeNode torn.level) (rw runs refl), tt)
  walk_brought core line frame (Ok version) runs =
      cond_both (version == 0) (reach_after_placing v core slot line (replicate 32 0))
      (reach_by_frame v core slot line frame version) (λ result. Walked core result)
      (λ _. walk_placed core line (replicate 32 0) runs)
      (λ _. walk_opened core line version (ct_place frame line) (sealed_at core.ram frame line).ct
      (unsealed_line (line_name_of (who_of core slot) line version)
      (keys_of (who_of core slot) line version) (sealed_at core.ram frame line)) runs)

  walk_looked : (core : CoreState) (line frame : ℕ) (at : Option ℕ) → place_of_line core.ways slot line ≡ at
      → IsRunning core slot → Walked core (reach_by_cache v core slot line frame at)
  walk_looked core line frame (Some place) is runs =
      (parts.none core, (refl, inl (found-IsOf core.ways slot line place is).0))
  walk_looked core line frame None is runs =
      let asked = core_with_hashes core (v.texts_of_version (store_of core slot) line core.ram) in
      then_walked core asked refl
      (parts.hash core (v.texts_of_version (store_of core slot) line core.ram))
      _ (walk_brought asked line frame (v.answer_of_version (store_of core slot) line core.ram)
      runs)

  -- what comes of an access
  abbrev pub Accessed : CoreState → CoreState × Reach → Type 0
  Accessed core result = R core result.0 × Reached core slot result.0 result.1

  walk_mapped : (core : CoreState) (line : ℕ) (frame : Option ℕ) → IsRunning core slot
      → Accessed core (reach_in_frame v core slot line frame)
  walk_mapped core line None runs = (parts.none core, refl)
  walk_mapped core line (Some frame) runs =
      let result = reach_by_cache v core slot line frame (place_of_line core.ways slot line) in
      let walked = walk_looked core line frame (place_of_line core.ways slot line) refl runs in
      (walked.0, found-Reached core slot result.0 result.1 walked.1)

  pub walk_access : (core : CoreState) (line : ℕ) → IsRunning core slot
      → Accessed core (access v core slot line)
  unfolding access
  walk_access core line runs = walk_mapped core line (frame_of core.pages slot (page_of line)) runs

  -- ---- The whole event

  module _ (T : CoreState → CoreState → Type 0) (ends : Ends slot R T) (interrupt : Bool) where
    after_walks : (core : CoreState) (end : StepEnd) → IsRunning core slot
        → (end ≡ ended.Exit → JustExited core slot) → T core (after_step core slot interrupt end).0
    after_walks core (ended.Call code) runs exits = ends.trap core (cause.Call code) runs
    after_walks core ended.Exit runs exits = ends.exit core runs (exits refl)
    after_walks core ended.Goes runs exits =
        cond_both interrupt (after_trap core slot cause.Interrupt) (core, None)
        (λ (r : CoreState × Option Cause). T core r.0) (λ _. ends.trap core cause.Interrupt runs)
        (λ _. ends.went core)

    module _ (core : CoreState) (runs : IsRunning core slot) (effect : Effect)
        (word place : ℕ) where
      abbrev made_step : Step
      made_step =
          step_made (session_of core slot).pc (session_of core slot).npc effect word
          (received_by core.cells core.ram effect.wish)

      abbrev after : CoreState
      after = after_retirement core slot place effect made_step

      here : session_of after slot ≡ session_after_step (session_of core slot) effect made_step
      here = get_or-set_same core.sessions slot _ free (running-within core slot runs)

      walk_retires : ((address : ℕ) → address_in effect.wish ≡ Some address → IsOwnPlace core slot
          place)
          → T core (retirement core slot interrupt effect word place).0
      walk_retires own =
          ends.after core after _
          (parts.step core place (session_after_step (session_of core slot) effect made_step)
          made_step runs (record {
            install = refl;
            id = refl;
            key = refl;
            lines = refl;
            epoch =
                refl;
            state = refl;
          })
          (step-stores core slot place (session_of core slot).pc (session_of core slot).npc effect
          word (received_by core.cells core.ram effect.wish) own))
          (after_walks after made_step.end (ap (λ s. s.state) here ∙ runs)
          (λ is. (
            core.entries,
            made_step,
            ap (λ n. core.entries ++ entry.Step n made_step ∷ [])
                (sym (ap (λ s. s.install) here)),
            is,
          )))

    -- what was reached, after what was walked before
    data_walks : (core : CoreState) (effect : Effect) (result : CoreState × Reach)
        → IsRunning core slot → Accessed core result
        → T core (data_reached slot interrupt effect result).0
    data_walks core effect (new, reach.PageFault page) runs came = ends.after core new _ came.0
        (ends.trap new (cause.Page page) (subst (λ c. IsRunning c slot) (sym came.1) runs))
    data_walks core effect (new, reach.Stopped why) runs came = ends.after core new _ came.0
        (ends.went new)
    data_walks core effect (new, reach.Ready place) runs came =
        ends.after core new _ came.0 (walk_retires new (ap (λ s. s.state) came.1.0 ∙ runs) effect
        (word_loaded (way_at new.ways place).bytes effect.wish) place (λ address is. came.1.1))

    walk_data : (core : CoreState) (effect : Effect) (address : Option ℕ)
        → address_in effect.wish ≡ address → IsRunning core slot
        → T core (data_of v core slot interrupt effect address).0
    walk_data core effect None is runs =
        walk_retires core runs effect 0 0 (λ address some. absurd (cc))
    walk_data core effect (Some address) is runs =
        data_walks core effect (access v core slot (address / 32)) runs
        (walk_access core (address / 32) runs)

    walk_ran : (core : CoreState) (result : Result Effect OwnFault) → IsRunning core slot
        → T core (after_effect v core slot interrupt result).0
    walk_ran core (Err why) runs = ends.trap core (cause.Fault why) runs
    walk_ran core (Ok effect) runs = walk_data core effect (address_in effect.wish) refl runs

    code_walks : (core : CoreState) (result : CoreState × Reach) → IsRunning core slot
        → Accessed core result → T core (code_reached v slot interrupt result).0
    code_walks core (new, reach.PageFault page) runs came =
        ends.after core new _ came.0
        (ends.trap new (cause.Page page) (subst (λ c. IsRunning c slot) (sym came.1) runs))
    code_walks core (new, reach.Stopped why) runs came =
        ends.after core new _ came.0 (ends.went new)
    code_walks core (new, reach.Ready place) runs came =
        let now : IsRunning new slot = ap (λ s. s.state) came.1.0 ∙ runs in
        ends.after core new _ came.0
        (walk_ran new (word_tried v new slot (word_in (way_at new.ways place).bytes
        (session_of new slot).pc)) now)

    -- the event of the running guest
    pub walk_guest : (core : CoreState) → IsRunning core slot
        → T core (guest v core slot interrupt).0
    unfolding guest
    walk_guest core runs =
        let pc = (session_of core slot).pc in
        cond_both (is_code pc) (code_reached v slot interrupt (access v core slot (pc / 32)))
        (after_trap core slot (cause.Fault own_fault.Address))
        (λ (r : CoreState × Option Cause). T core r.0)
        (λ _. code_walks core (access v core slot (pc / 32)) runs (walk_access core (pc / 32) runs))
        (λ _. ends.trap core (cause.Fault own_fault.Address) runs)
