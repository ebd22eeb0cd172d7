-- An event of a running guest keeps what the machine keeps.
use Rattle.std.proofs.Common.{◌≡◌, ◌≢◌, inl, inr, cond, ℕ, ◌+◌, ◌-◌, ◌/◌, ◌%◌, ◌<◌, ◌≤◌, ◌^◌, List, Option, Some, None, Result, Ok, Err, refl, sym, ◌∙◌, ap, subst, arith, Bool, true, false}
use Rattle.std.specs.Prelude.{nat_lt}
use Rattle.std.proofs.lemmas.Bool.{cond_both}
use Rattle.std.proofs.lemmas.Bool.Decides.{eqb_tells, nat_tests}
use Rattle.xom_base.specs.declared.event.Cause.TheVariants as cause
use Rattle.xom_base.specs.declared.event.OwnFault.{OwnFault}
use Rattle.xom_base.specs.declared.event.OwnFault.TheVariants as own_fault
use Rattle.xom_base.specs.declared.step.StepEnd.{StepEnd}
use Rattle.xom_base.specs.declared.step.StepEnd.TheVariants as ended
use Rattle.xom_base.specs.declared.step.Writes.{Writes}
use Rattle.xom_owners.specs.declared.owner.Owner.{Owner}
use Rattle.mips_instruction.specs.declared.instruction.Ins.{Ins}
use Rattle.mips_instruction.specs.Words.{Fits, instruction_of_word}
use Rattle.mips_isa.proofs.Reading.{read-Fits}
use Rattle.mips_effect.specs.declared.effects.Effect.{Effect}
use Rattle.mips_effect.specs.declared.wish.Wish.{Wish}
use Rattle.mips_effect.specs.declared.wish.Wish.TheVariants as wish
use Rattle.mips_effect.specs.Effects.{IsInRange, Ranged}
use Rattle.mips_plain.specs.Memory.{private_size, word_at_address}
use Rattle.mips_plain.proofs.Sizes.{private_size_is}
use Rattle.mips_plain.specs.Instruction.{effect_at, instruction_in, instruction_or_fault, is_code, step_made, step_of_wish, word_for}
use Rattle.mips_plain.specs.Machine.{State, answer_to, is_exit, plain, seen_of_cell}
use Rattle.mips_plain.specs.declared.given.Given.TheVariants as given
use Rattle.mips_plain.specs.declared.given.PlainStep.{PlainStep}
use Rattle.mips_plain.specs.declared.given.PlainStep.TheVariants as plain_step
use Rattle.xom_base.specs.declared.event.Cause.{Cause}
use Rattle.xom_model.specs.Laws.{FaultsAlone, FaultsAreOwn}
use Rattle.xom_model.proofs.Retired.{plain-answered}
use Rattle.xom_model.proofs.OwnersTell.{owners_tell}
use Rattle.xom_model.specs.declared.reach.Reach.{Reach}
use Rattle.xom_model.specs.declared.reach.Reach.TheVariants as reach
use Rattle.journal_findings.specs.Findings.{sealed_by}
use Rattle.xom_model.specs.Honest.{Sealing}
use Rattle.xom_versions.specs.Versions.{VersionLaw, Versions}
use Rattle.xom_model.specs.Versions.{StandsFor}
use Rattle.line_cache.specs.Ways.{way_at}
use Rattle.xom_model.specs.State.{CoreState, session_of}
use Rattle.xom_model.specs.Access.{access}
use Rattle.xom_model.specs.Guest.{address_in, after_effect, after_exit, after_step, after_trap, code_reached, data_of, data_reached, guest, received_by, retirement, seen_by, word_in, word_loaded, word_tried}
use Rattle.xom_model.specs.Holds.{Agrees, FollowsAlone, Holds, IsLive, IsOf, IsRunning, Private, line_of_bytes}
use Rattle.xom_model.specs.Kept.{Kept}
use Rattle.xom_model.proofs.Growth.{IsTrusted, honest_before}
use Rattle.xom_model.proofs.Longer.{Longer, longer_code, longer_none, longer_retires, longer_trapped}
use Rattle.xom_model.proofs.KeptLaws.{held_agrees, held_follows, kept_holds}
use Rattle.xom_model.proofs.ClearKept.{Sound}
use Rattle.xom_model.proofs.Opening.{OwnersTell}
use Rattle.xom_model.proofs.AccessKept.{Comes, access_comes}
use Rattle.xom_model.proofs.LineBytes.{word-in_line}
use Rattle.xom_model.proofs.Parts.{StoresAt}
use Rattle.xom_model.proofs.SameSight.{tried-Ranged}
use Rattle.xom_model.proofs.Steps.{comes_same, runs_after, retired_holds, finished_holds}
use Rattle.xom_model.proofs.ChangeKept.{trapped_holds}

-- what holds is sound for an access
pub sound_of : (Stands : StandsFor) (owners : List Owner) (core : CoreState)
    → Holds Stands owners core → Sound Stands owners core
sound_of Stands owners core holds = record {
  shape = holds.slots.shape;
  known = λ slot some live. let h = holds.slots.held slot live in
      (h.0, line_of_bytes h.1.bytes, h.2.whose, h.4);
  places = holds.slots.session_places;
  whole = holds.slots.cell_places;
}

-- a word is an instruction whose operands are in their ranges
known-Fits : (found : Option Ins) (ins : Ins) → ((i : Ins) → found ≡ Some i → Fits i)
    → instruction_or_fault found ≡ Ok ins → Fits ins
known-Fits None ins fits is = absurd (cc)
known-Fits (Some i) ins fits is = fits ins (cc)

word-Fits : (word : ℕ) (ins : Ins) → instruction_or_fault (instruction_of_word word) ≡ Ok ins → Fits ins
word-Fits word ins is = known-Fits (instruction_of_word word) ins (λ i has. read-Fits i word has) is

-- an address of a wish is a private one
pub address-low : (wished : Wish) (address : ℕ) → IsInRange wished
    → address_in wished ≡ Some address → address / 32 < 2 ^ 15
address-low (wish.Load reg at how old) address range is =
    let same : at ≡ address = cc in let word : at - at % 4 + 4 ≤ 2 ^ 20 = range.word in omega arith
address-low (wish.Store at count value) address range is =
    let same : at
    ≡ address = cc in let room : at + count ≤ 2 ^ 20 = range.private in let one : 1 ≤ count =
    range.some in omega arith
address-low _ address range is = absurd (cc)

-- the word that is loaded is that of the program's memory
loaded-same : (wished : Wish) (address : ℕ) (bytes : List ℕ) → address_in wished ≡ Some address
    → word_loaded (line_of_bytes bytes (address / 32)) wished ≡ word_for bytes wished
loaded-same (wish.Load reg at how old) address bytes is =
    let same : at ≡ address = cc in ap (λ a. word_in (line_of_bytes bytes (a / 32)) at) (sym same)
    ∙ word-in_line bytes at
loaded-same _ address bytes is = refl

none-loaded : (wished : Wish) (bytes : List ℕ) → address_in wished ≡ None
    → 0 ≡ word_for bytes wished
none-loaded (wish.Load reg at how old) bytes is = absurd (cc)
none-loaded (wish.Store at count value) bytes is = absurd (cc)
none-loaded _ bytes is = refl

-- a step stores in the line of its address
stores-at : (core : CoreState) (slot place pc npc : ℕ) (written : Writes) (wished : Wish)
    (word got address : ℕ)
    → IsInRange wished → address_in wished ≡ Some address
    → IsOf (way_at core.ways place) slot (address / 32) → place < 128
    → StoresAt core slot place (step_of_wish pc npc written wished word got).stored
stores-at core slot place pc npc written (wish.Store at count value) word got address range is its
    low =
    let same : at ≡ address = cc in (
      subst (λ a. IsOf (way_at core.ways place) slot (a / 32)) (sym same) its,
      low,
      let one : at % 4 + count ≤ 4 = range.one_word in omega arith,
      range.few,
      let room : at + count ≤ 2 ^ 20 = range.private in let one : 1 ≤ count = range.some in
          omega arith,
    )
stores-at core slot place pc npc written _ word got address range is its low = tt

stores-none : (core : CoreState) (slot place pc npc : ℕ) (written : Writes) (wished : Wish)
    (word got : ℕ)
    → address_in wished ≡ None
    → StoresAt core slot place (step_of_wish pc npc written wished word got).stored
stores-none core slot place pc npc written (wish.Store at count value) word got is = absurd (cc)
stores-none core slot place pc npc written (wish.Load reg at how old) word got is = absurd (cc)
stores-none core slot place pc npc written _ word got is = tt

-- a place of code is private, and a fetched instruction is the word there
pub code-low : (pc : ℕ) → is_code pc ≡ true → (pc % 4 ≡ 0) × (pc / 32 < 2 ^ 15)
code-low pc is = elim (eqb_tells (pc % 4) 0) [
  | inl whole ↦ (
    whole.1,
    let low : nat_lt pc private_size ≡ true = rw whole.0 at is in let size =
        private_size_is in let below : pc < private_size = grind (arith, nat_tests) in omega arith,
  )
  | inr other ↦ absurd (let e = rw other.0 at is in cc)
]

fetched-word : (bytes : List ℕ) (pc : ℕ) → is_code pc ≡ true
    → instruction_in bytes pc ≡ instruction_or_fault (instruction_of_word (word_at_address bytes pc))
unfolding instruction_in
fetched-word bytes pc is = rw is refl

module _ (Stands : StandsFor) (owners : List Owner) (v : Versions) (law : VersionLaw v Stands)
    (sealed : List Sealing) (slot : ℕ) (interrupt : Bool) (some : 1 ≤ slot)
    (known_slot : slot ≤ 16) where
  not_zero : slot ≢ 0
  not_zero none = absurd (omega arith)

  -- a core in which the slot runs, with its guest at this state of this owner's program
  pub record At (core : CoreState) (owner : Owner) (p : State) : Type 0 where
    pub runs : IsRunning core slot
    pub holds : Holds Stands owners core
    pub follows : FollowsAlone owners core.entries (session_of core slot).install
        (session_of core slot).id owner p
    pub agrees : Agrees (session_of core slot) core.cells core.entries slot owner p
    pub private : Private Stands core slot owner (line_of_bytes p.bytes)

  -- a part of an event after which the slot's session is as it was leaves the guest there
  at_kept : (core new : CoreState) (owner : Owner) (p : State) → Kept Stands owners core new
      → session_of new slot ≡ session_of core slot → At core owner p → At new owner p
  at_kept core new owner p kept same at =
      let runs : IsRunning new slot = ap (λ s. s.state) same ∙ at.runs in
      let live : IsLive new slot = rw runs refl in
      record {
        runs = runs;
        holds = kept_holds Stands owners core new kept at.holds;
        follows = held_follows Stands owners core new kept at.holds.slots slot live owner p
            at.follows;
        agrees = held_agrees Stands owners core new kept at.holds.slots slot live owner p at.agrees;
        private = kept.private slot not_zero live owner (line_of_bytes p.bytes) at.follows.whose
            at.private;
      }

  -- what follows a step
  after_step_holds : (core : CoreState) (end : StepEnd) → IsRunning core slot
      → (is_exit end ≡ false → Holds Stands owners core)
      → (is_exit end ≡ true → Holds Stands owners (after_exit core slot).0)
      → Holds Stands owners (after_step core slot interrupt end).0
  after_step_holds core (ended.Call code) runs goes exits =
      trapped_holds Stands owners v law core slot not_zero known_slot (goes refl) (cause.Call code)
      runs
  after_step_holds core ended.Exit runs goes exits = exits refl
  after_step_holds core ended.Goes runs goes exits =
      cond_both interrupt (after_trap core slot cause.Interrupt) (core, None)
      (λ r. Holds Stands owners r.0)
      (λ _. trapped_holds Stands owners v law core slot not_zero known_slot (goes refl)
      cause.Interrupt runs) (λ _. goes refl)

  module _ (owner : Owner) (p : State) (effect : Effect) (is : effect_at (seen_of_cell p.cells)
      p.kept (instruction_in p.bytes p.pc) p.pc p.npc ≡ Ok effect) (ranged : Ranged effect) where
    -- an instruction retires
    retires_holds : (core : CoreState) (at : At core owner p) (word place : ℕ)
        (word_is : word ≡ word_for p.bytes effect.wish)
        → StoresAt core slot place (step_made (session_of core slot).pc (session_of core slot).npc
        effect word (received_by core.cells core.ram effect.wish)).stored
        → Holds Stands owners (retirement core slot interrupt effect word place).0
    retires_holds core at word place word_is stores =
        after_step_holds _ _
        (runs_after Stands owners v law core slot some known_slot at.runs at.holds owner p
        at.follows at.agrees at.private effect is ranged word place word_is stores)
        (retired_holds Stands owners v law core slot some known_slot at.runs at.holds owner p
        at.follows at.agrees at.private effect is ranged word place word_is stores)
        (λ _. finished_holds Stands owners v law core slot some known_slot at.runs at.holds owner p
        at.follows at.agrees at.private effect is ranged word place word_is stores)

    retires_none : (core : CoreState) → At core owner p → address_in effect.wish ≡ None
        → Holds Stands owners (retirement core slot interrupt effect 0 0).0
    unfolding step_made
    retires_none core at none =
        retires_holds core at 0 0 (none-loaded effect.wish p.bytes none)
        (stores-none core slot 0 (session_of core slot).pc (session_of core slot).npc effect.writes
        effect.wish 0 (received_by core.cells core.ram effect.wish) none)

    retires_ready : (core : CoreState) → At core owner p → (address place : ℕ)
        → address_in effect.wish ≡ Some address → IsOf (way_at core.ways place) slot (address / 32)
        → place < 128
        → Holds Stands owners (retirement core slot interrupt effect
        (word_loaded (way_at core.ways place).bytes effect.wish) place).0
    unfolding step_made
    retires_ready core at address place wished its low =
        let bytes_are = (at.private.lines (address / 32)
        (address-low effect.wish address ranged.wish wished)).cached place its in
        retires_holds core at (word_loaded (way_at core.ways place).bytes effect.wish) place
        (ap (λ b. word_loaded b effect.wish) bytes_are ∙ loaded-same effect.wish address p.bytes
        wished)
        (stores-at core slot place (session_of core slot).pc (session_of core slot).npc
        effect.writes effect.wish (word_loaded (way_at core.ways place).bytes effect.wish)
        (received_by core.cells core.ram effect.wish) address ranged.wish wished its low)

    -- the access of its own bytes
    longer_reached : (result : CoreState × Reach)
        → Longer result.0.entries (data_reached slot interrupt effect result).0.entries
    longer_reached (new, reach.PageFault page) = longer_trapped new slot (cause.Page page)
    longer_reached (new, reach.Stopped why) = longer_none new.entries
    longer_reached (new, reach.Ready place) =
        longer_retires new slot interrupt effect
        (word_loaded (way_at new.ways place).bytes effect.wish) place

    data_reached_holds : (core : CoreState) (at : At core owner p) (address : ℕ)
        → address_in effect.wish ≡ Some address → (result : CoreState × Reach)
        → Comes Stands owners core slot (address / 32) result.0 result.1
        → Holds Stands owners (data_reached slot interrupt effect result).0
    data_reached_holds core at address wished (new, reach.PageFault page) comes =
        subst (λ c. Holds Stands owners (after_trap c slot (cause.Page page)).0) (sym comes.came)
        (trapped_holds Stands owners v law core slot not_zero known_slot at.holds (cause.Page page)
        at.runs)
    data_reached_holds core at address wished (new, reach.Stopped why) comes =
        kept_holds Stands owners core new comes.kept at.holds
    data_reached_holds core at address wished (new, reach.Ready place) comes =
        retires_ready new (at_kept core new owner p comes.kept comes.came.0 at) address place wished
        comes.came.1 comes.came.2

    data_holds : (core : CoreState) (at : At core owner p) → OwnersTell core.machine owners
        → sealed ≡ sealed_by core.machine owners → (address : Option ℕ)
        → address_in effect.wish ≡ address
        → IsTrusted sealed (data_of v core slot interrupt effect address).0.entries
        → Holds Stands owners (data_of v core slot interrupt effect address).0
    data_holds core at tell sealings None wished honest = retires_none core at wished
    data_holds core at tell sealings (Some address) wished honest =
        let result = access v core slot (address / 32) in
        let more = longer_reached result in
        data_reached_holds core at address wished result
        (access_comes Stands owners v law sealed slot (address / 32) not_zero
        (address-low effect.wish address ranged.wish wished) core
        (sound_of Stands owners core at.holds) (rw at.runs refl) tell sealings
        (honest_before result.0.entries more.0 sealed (subst (λ es. IsTrusted sealed es) more.1
        honest)))

  -- what a word comes to
  ran_holds : (core : CoreState) (owner : Owner) (p : State) (at : At core owner p)
      → OwnersTell core.machine owners → sealed ≡ sealed_by core.machine owners
      → (result : Result Effect OwnFault)
      → effect_at (seen_of_cell p.cells) p.kept (instruction_in p.bytes p.pc) p.pc p.npc ≡ result
      → ((effect : Effect) → result ≡ Ok effect → Ranged effect)
      → IsTrusted sealed (after_effect v core slot interrupt result).0.entries
      → Holds Stands owners (after_effect v core slot interrupt result).0
  ran_holds core owner p at tell sealings (Err why) is ranged honest =
      trapped_holds Stands owners v law core slot not_zero known_slot at.holds (cause.Fault why)
      at.runs
  ran_holds core owner p at tell sealings (Ok effect) is ranged honest =
      data_holds owner p effect is (ranged effect refl) core at tell sealings
      (address_in effect.wish) refl honest

  -- the fetch
  module _ (base : CoreState) (owner : Owner) (p : State) (start : At base owner p)
      (tell : OwnersTell base.machine owners) (sealings : sealed ≡ sealed_by base.machine owners)
      (code : is_code (session_of base slot).pc ≡ true) where
    pc_is : (session_of base slot).pc ≡ p.pc
    pc_is = start.agrees.pc (rw start.runs refl)

    start_line : (new : CoreState) (place : ℕ) → At new owner p
        → IsOf (way_at new.ways place) slot ((session_of base slot).pc / 32)
        → (session_of base slot).pc / 32 < 2 ^ 15
        → (way_at new.ways place).bytes ≡ line_of_bytes p.bytes ((session_of base slot).pc / 32)
    start_line new place at its low =
        (at.private.lines ((session_of base slot).pc / 32) low).cached place its

    word_same : (new : CoreState) (place : ℕ) → At new owner p → (pc : ℕ)
        → (session_of base slot).pc ≡ pc
        → (way_at new.ways place).bytes ≡ line_of_bytes p.bytes ((session_of base slot).pc / 32)
        → (session_of base slot).pc % 4 ≡ 0
        → word_in (way_at new.ways place).bytes pc ≡ word_at_address p.bytes p.pc
    word_same new place at pc same bytes_are whole =
        let here = (session_of base slot).pc in
        ap (λ b. word_in b pc) bytes_are
        ∙ ap (λ a. word_in (line_of_bytes p.bytes (here / 32)) a) (sym same)
        ∙ word-in_line p.bytes here
        ∙ ap (λ a. word_at_address p.bytes a) (let whole_pc : here - here % 4 ≡ here = omega arith in
        whole_pc)
        ∙ ap (λ a. word_at_address p.bytes a) pc_is

    code_holds : (result : CoreState × Reach)
        → Comes Stands owners base slot ((session_of base slot).pc / 32) result.0 result.1
        → IsTrusted sealed (code_reached v slot interrupt result).0.entries
        → Holds Stands owners (code_reached v slot interrupt result).0
    code_holds (new, reach.PageFault page) comes honest =
        subst (λ c. Holds Stands owners (after_trap c slot (cause.Page page)).0) (sym comes.came)
        (trapped_holds Stands owners v law base slot not_zero known_slot start.holds
        (cause.Page page) start.runs)
    code_holds (new, reach.Stopped why) comes honest =
        kept_holds Stands owners base new comes.kept start.holds
    code_holds (new, reach.Ready place) comes honest =
        let at = at_kept base new owner p comes.kept comes.came.0 start in
        let pc = (session_of new slot).pc in
        let same_pc : (session_of base slot).pc ≡ pc = ap (λ s. s.pc) (sym comes.came.0) in
        let low = code-low (session_of base slot).pc code in
        let bytes_are = (start_line new place at comes.came.1 low.1) in
        let word = word_in (way_at new.ways place).bytes pc in
        let word_is : word ≡ word_at_address p.bytes p.pc = word_same new place at pc same_pc bytes_are
        low.0 in
        let found : instruction_in p.bytes p.pc ≡ instruction_or_fault (instruction_of_word word) =
        fetched-word p.bytes p.pc (subst (λ a. is_code a ≡ true) pc_is code)
        ∙ ap (λ w. instruction_or_fault (instruction_of_word w)) (sym word_is) in
        let fits : (ins : Ins) → instruction_or_fault (instruction_of_word word) ≡ Ok ins → Fits ins =
        word-Fits word in
        ran_holds new owner p at (subst (λ m. OwnersTell m owners) (sym comes.kept.machine) tell)
        (sealings ∙ ap (λ m. sealed_by m owners) (sym comes.kept.machine))
        (word_tried v new slot word)
        (ap (λ f. effect_at (seen_of_cell p.cells) p.kept f p.pc p.npc) found
        ∙ comes_same Stands owners v law new slot some known_slot at.runs at.holds owner p
        at.follows at.agrees at.private (instruction_or_fault (instruction_of_word word)) fits)
        (λ effect is. tried-Ranged (seen_by slot new.cells) (session_of new slot).saved
        (instruction_or_fault (instruction_of_word word)) pc (session_of new slot).npc effect fits is)
        honest

  -- the running guest stands somewhere in its program
  stands_at : (core : CoreState) (live : IsLive core slot) → IsRunning core slot
      → (holds : Holds Stands owners core)
      → At core (holds.slots.held slot live).0 (holds.slots.held slot live).1
  stands_at core live runs holds =
      let h = holds.slots.held slot live in
      record { runs = runs; holds = holds; follows = h.2; agrees = h.3; private = h.4 }

  -- an event of the running guest
  pub guest_keeps : (core : CoreState) → OwnersTell core.machine owners
      → sealed ≡ sealed_by core.machine owners → IsRunning core slot → Holds Stands owners core
      → IsTrusted sealed (guest v core slot interrupt).0.entries
      → Holds Stands owners (guest v core slot interrupt).0
  unfolding guest
  guest_keeps core tell sealings runs holds honest =
      let live : IsLive core slot = rw runs refl in
      let h = holds.slots.held slot live in
      let start : At core h.0 h.1 = stands_at core live runs holds in
      let at_pc = (session_of core slot).pc in
      let result = access v core slot (at_pc / 32) in
      elim (is_code at_pc) as (λ b. is_code at_pc ≡ b → IsTrusted sealed
      (cond b (code_reached v slot interrupt result)
      (after_trap core slot (cause.Fault own_fault.Address))).0.entries
      → Holds Stands owners (cond b (code_reached v slot interrupt result)
      (after_trap core slot (cause.Fault own_fault.Address))).0) [
        | true ↦ λ code good.
            let more = longer_code v slot interrupt result in
            code_holds core h.0 h.1 start tell sealings code result
            (access_comes Stands owners v law sealed slot (at_pc / 32) not_zero
            (code-low at_pc code).1 core (sound_of Stands owners core holds) live tell sealings
            (honest_before result.0.entries more.0 sealed (subst (λ es. IsTrusted sealed es) more.1
            good)))
            good
        | false ↦ λ no_code good. trapped_holds Stands owners v law core slot not_zero known_slot
            holds (cause.Fault own_fault.Address) runs
      ] refl honest

  -- ---- An own fault is the program's own

  abbrev IsOwn : State → OwnFault → Type 0
  IsOwn p fault = plain p given.Nothing ≡ (plain_step.Fault fault, p)

  after_no_fault : (core : CoreState) (end : StepEnd) (fault : OwnFault)
      → ¬ ((after_step core slot interrupt end).1 ≡ Some (cause.Fault fault))
  after_no_fault core (ended.Call code) fault is = cc
  after_no_fault core ended.Exit fault is = cc
  after_no_fault core ended.Goes fault is =
      cond_both interrupt (after_trap core slot cause.Interrupt) (core, None)
      (λ (r : CoreState × Option Cause). ¬ (r.1 ≡ Some (cause.Fault fault))) (λ _ no. cc)
      (λ _ no. cc) is

  reached_no_fault : (effect : Effect) (result : CoreState × Reach) (fault : OwnFault)
      → ¬ ((data_reached slot interrupt effect result).1 ≡ Some (cause.Fault fault))
  reached_no_fault effect (new, reach.PageFault page) fault is = cc
  reached_no_fault effect (new, reach.Stopped why) fault is = cc
  reached_no_fault effect (new, reach.Ready place) fault is = after_no_fault _ _ fault is

  data_no_fault : (core : CoreState) (effect : Effect) (address : Option ℕ) (fault : OwnFault)
      → ¬ ((data_of v core slot interrupt effect address).1 ≡ Some (cause.Fault fault))
  data_no_fault core effect None fault is = after_no_fault _ _ fault is
  data_no_fault core effect (Some address) fault is = reached_no_fault effect
      (access v core slot (address / 32)) fault is

  faulted : (p : State) → p.over ≡ false → (why fault : OwnFault)
      → effect_at (seen_of_cell p.cells) p.kept (instruction_in p.bytes p.pc) p.pc p.npc ≡ Err why
      → Some (cause.Fault why) ≡ Some (cause.Fault fault) → IsOwn p fault
  faulted p over why fault found is =
      let same : why ≡ fault = cc in
      plain-answered p given.Nothing over ∙ ap (answer_to p given.Nothing) found
      ∙ ap (λ f. let a : PlainStep × State = (plain_step.Fault f, p) in a) same

  ran_fault : (core : CoreState) (p : State) → p.over ≡ false
      → (result : Result Effect OwnFault) (fault : OwnFault)
      → effect_at (seen_of_cell p.cells) p.kept (instruction_in p.bytes p.pc) p.pc p.npc ≡ result
      → (after_effect v core slot interrupt result).1 ≡ Some (cause.Fault fault) → IsOwn p fault
  ran_fault core p over (Err why) fault found is = faulted p over why fault found is
  ran_fault core p over (Ok effect) fault found is =
      absurd (data_no_fault core effect (address_in effect.wish) fault is)

  code_fault : (base : CoreState) (owner : Owner) (p : State) (start : At base owner p)
      → OwnersTell base.machine owners → sealed ≡ sealed_by base.machine owners
      → is_code (session_of base slot).pc ≡ true → (fault : OwnFault) → (result : CoreState × Reach)
      → Comes Stands owners base slot ((session_of base slot).pc / 32) result.0 result.1
      → (code_reached v slot interrupt result).1 ≡ Some (cause.Fault fault) → IsOwn p fault
  code_fault base owner p start tell sealings code fault (new, reach.PageFault page) comes is =
      absurd (cc)
  code_fault base owner p start tell sealings code fault (new, reach.Stopped why) comes is =
      absurd (cc)
  code_fault base owner p start tell sealings code fault (new, reach.Ready place) comes is =
      let at = at_kept base new owner p comes.kept comes.came.0 start in
      let pc = (session_of new slot).pc in
      let pc_is : (session_of base slot).pc ≡ p.pc = start.agrees.pc (rw start.runs refl) in
      let same_pc : (session_of base slot).pc ≡ pc = ap (λ s. s.pc) (sym comes.came.0) in
      let low = code-low (session_of base slot).pc code in
      let bytes_are = (at.private.lines ((session_of base slot).pc / 32) low.1).cached place
      comes.came.1 in
      let word = word_in (way_at new.ways place).bytes pc in
      let word_is : word ≡ word_at_address p.bytes p.pc = word_same base owner p start tell sealings code
      new place at pc same_pc bytes_are low.0 in
      let found : instruction_in p.bytes p.pc ≡ instruction_or_fault (instruction_of_word word) =
      fetched-word p.bytes p.pc (subst (λ a. is_code a ≡ true) pc_is code)
      ∙ ap (λ w. instruction_or_fault (instruction_of_word w)) (sym word_is) in
      ran_fault new p start.agrees.over (word_tried v new slot word) fault
      (ap (λ f. effect_at (seen_of_cell p.cells) p.kept f p.pc p.npc) found
      ∙ comes_same Stands owners v law new slot some known_slot at.runs at.holds owner p at.follows
      at.agrees at.private (instruction_or_fault (instruction_of_word word)) (word-Fits word))
      is

  no_code_fault : (p : State) → p.over ≡ false → (pc : ℕ) → pc ≡ p.pc → is_code pc ≡ false
      → (fault : OwnFault) → Some (cause.Fault own_fault.Address) ≡ Some (cause.Fault fault)
      → IsOwn p fault
  unfolding instruction_in
  no_code_fault p over pc same code fault is =
      let no_code : instruction_in p.bytes p.pc ≡ Err own_fault.Address =
      rw (subst (λ a. is_code a ≡ false) same code) refl in
      faulted p over own_fault.Address fault
      (ap (λ f. effect_at (seen_of_cell p.cells) p.kept f p.pc p.npc) no_code) is

  pub faults_own : (core : CoreState) → OwnersTell core.machine owners
      → sealed ≡ sealed_by core.machine owners → IsRunning core slot → Holds Stands owners core
      → (fault : OwnFault)
      → IsTrusted sealed (guest v core slot interrupt).0.entries
      → (guest v core slot interrupt).1 ≡ Some (cause.Fault fault)
      → FaultsAlone owners core slot fault
  unfolding guest
  faults_own core tell sealings runs holds fault honest is =
      let live : IsLive core slot = rw runs refl in
      let h = holds.slots.held slot live in
      let start : At core h.0 h.1 = stands_at core live runs holds in
      let at_pc = (session_of core slot).pc in
      let result = access v core slot (at_pc / 32) in
      let whole = elim (is_code at_pc) as (λ b. is_code at_pc ≡ b → IsTrusted sealed
      (cond b (code_reached v slot interrupt result)
      (after_trap core slot (cause.Fault own_fault.Address))).0.entries
      → (cond b (code_reached v slot interrupt result)
      (after_trap core slot (cause.Fault own_fault.Address))).1 ≡ Some (cause.Fault fault)
      → IsOwn h.1 fault) [
        | true ↦ λ code good here.
            let more = longer_code v slot interrupt result in
            code_fault core h.0 h.1 start tell sealings code fault result
            (access_comes Stands owners v law sealed slot (at_pc / 32) not_zero
            (code-low at_pc code).1 core (sound_of Stands owners core holds) live tell sealings
            (honest_before result.0.entries more.0 sealed (subst (λ es. IsTrusted sealed es) more.1
            good)))
            here
        | false ↦ λ no_code good here. no_code_fault h.1 h.3.over at_pc (h.3.pc (rw runs refl))
            no_code fault here
      ] refl honest is in
      (h.0, h.1, h.2, whole)

pub faults_are_own : (v : Versions) (Stands : StandsFor) → FaultsAreOwn v Stands
faults_are_own v Stands law owners are core slot interrupt fault some known_slot runs room honest
    holds is =
    faults_own Stands owners v law (sealed_by core.machine owners) slot interrupt some known_slot
    core (owners_tell owners are core.machine) refl runs holds fault
    (record { honest = honest; room = room }) is
