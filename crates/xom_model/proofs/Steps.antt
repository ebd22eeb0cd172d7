-- The step of a running guest, beside its program: the same step, and the same state after it.
use Rattle.std.proofs.Common.{◌≡◌, ◌≢◌, inl, inr, ◌&&◌, ◌+◌, ◌%◌, ◌^◌, Some, true, lit≤, lit<, ℕ, ◌<◌, ◌≤◌, List, [], ◌∷◌, ◌++◌, Result, Ok, length, set, refl, sym, ◌∙◌, ap, subst, arith, false, length-set}
use Rattle.std.proofs.lemmas.Bool.Decides.{eqb_tells}
use Rattle.std.proofs.lemmas.List.{get_or-set_same, get_or-set_other}
use Rattle.std.specs.Int.{bit_at}
use Rattle.xom_base.specs.Entries.{steps_of}
use Rattle.xom_base.specs.declared.entry.Entry.{Entry}
use Rattle.xom_base.specs.declared.entry.Entry.TheVariants as entry
use Rattle.xom_base.specs.declared.event.OwnFault.{OwnFault}
use Rattle.xom_base.specs.declared.key.ImageId.{ImageId}
use Rattle.xom_base.specs.declared.step.Step.{Step}
use Rattle.xom_owners.specs.declared.owner.Owner.{Owner}
use Rattle.xom_owners.specs.Owners.{owner_of}
use Rattle.mips_instruction.specs.declared.instruction.Ins.{Ins}
use Rattle.mips_instruction.specs.Words.{Fits}
use Rattle.mips_effect.specs.declared.effects.Effect.{Effect}
use Rattle.mips_effect.specs.Effects.{AreCells, Ranged}
use Rattle.mips_plain.specs.declared.given.PlainStep.TheVariants.{Did}
use Rattle.mips_plain.specs.Memory.{stored_in}
use Rattle.mips_plain.specs.Instruction.{effect_at, handler_after, instruction_in, is_signal, is_signal_ready, kept_after, signal_step, step_made, word_for}
use Rattle.mips_plain.specs.Machine.{State, is_exit, plain, seen_of_cell, start, state_after_signal as plain_signalled, state_after_step as plain_after, with_lent, with_owned}
use Rattle.mips_plain.specs.declared.given.Given.TheVariants as given
use Rattle.mips_plain.specs.declared.given.PlainStep.{PlainStep}
use Rattle.mips_plain.specs.Follows.{given_of, Reaches}
use Rattle.mips_plain.proofs.Runs.{Reaches-more}
use Rattle.tag_regs.specs.TaggedCells.{cell_at}
use Rattle.session_table.specs.declared.session.Session.{Session}
use Rattle.session_table.specs.declared.session.SlotState.TheVariants as state
use Rattle.session_table.specs.Sessions.{free, is_live, session_after_leaving}
use Rattle.xom_versions.specs.Versions.{VersionLaw, Versions}
use Rattle.xom_model.specs.Versions.{StandsFor}
use Rattle.xom_model.specs.State.{CoreState, session_of}
use Rattle.xom_model.specs.Lines.{who_in, who_of}
use Rattle.image_sealer.specs.Membership.{is_sealed}
use Rattle.xom_model.specs.Honest.{seals_of}
use Rattle.xom_model.specs.Saves.{SavesAgree, SealsHold}
use Rattle.xom_seal.specs.declared.names.RegName.{RegName}
use Rattle.xom_seal.specs.Messages.{register_message}
use Rattle.xom_model.specs.Kept.{Kept}
use Rattle.xom_model.specs.Access.{without_guest}
use Rattle.xom_model.specs.Guest.{after_delivery, after_exit, after_retirement, cells_after_step, core_after_step, given_out, mask_after, mask_written, received_by, seen_by, session_after_signal, session_after_step, signal_of, with_writes}
use Rattle.xom_model.specs.Holds.{Agrees, FollowsAlone, Holds, Installs, IsAlone, IsInstalled, IsLive, IsRunning, Private, RamFits, Shape, line_of_bytes}
use Rattle.xom_model.proofs.Places.{steps_of-other, steps_of-step, step_in-other, IsInstalled-more}
use Rattle.xom_model.proofs.Frame.{IsAlone-same, Owes, changed_holds}
use Rattle.xom_model.proofs.SameSight.{tried-same, sight-same}
use Rattle.xom_model.proofs.Tied.{IsKnown, Tied, Tied-written, Tied-released, foreign-written, foreign-released, length-written}
use Rattle.xom_model.proofs.Retired.{step_made-AreCells, step_made-IsKnown, plain-does, plain-signals}
use Rattle.xom_model.proofs.Growth.{seals_none}
use Rattle.xom_model.proofs.RamSize.{frames_stay, length-given_out, areas_stay}
use Rattle.xom_model.proofs.SealsKept.{length-more, saves_carry, seals_set}
use Rattle.xom_model.proofs.KeptLaws.{aside, aside_private, aside_shape}
use Rattle.xom_model.proofs.Gone.{left_kept}
use Rattle.xom_model.proofs.Parts.{StoresAt, session_private, session_shape, stored_other, stored_own, stored_shape, with_stored}
use Rattle.xom_model.proofs.Left.{scrubbed-tag, RunningHolds-one}

-- an entry that installs nothing
pub no_install : (entries : List Entry) (e : Entry) (install : ℕ) (id : ImageId)
    → ¬ Installs e install id → IsInstalled (entries ++ e ∷ []) install id
    → IsInstalled entries install id
no_install entries e install id none installed =
    elim (IsInstalled-more entries e install id installed) [
      | inl before ↦ before
      | inr here ↦
          absurd (none here)
    ]

module _ (Stands : StandsFor) (owners : List Owner) (v : Versions) (law : VersionLaw v Stands)
    (core : CoreState) (slot : ℕ) (some : 1 ≤ slot) (known : slot ≤ 16) (runs : IsRunning core slot)
    (holds : Holds Stands owners core)
    (owner : Owner) (p : State) (follows : FollowsAlone owners core.entries
    (session_of core slot).install (session_of core slot).id owner p)
    (agrees : Agrees (session_of core slot) core.cells core.entries slot owner p)
    (private : Private Stands core slot owner (line_of_bytes p.bytes)) where
  pub live : IsLive core slot
  live = rw runs refl

  pub not_null : slot ≢ 0
  not_null none = absurd (omega arith)

  here : (s : Session) → session_of (record core { sessions = set core.sessions slot s }) slot ≡ s
  here s =
      get_or-set_same core.sessions slot s free
      (let places : length core.sessions ≡ 17 = holds.slots.session_places in omega arith)

  tied : Tied slot core.cells p.cells (session_of core slot).mask
  tied = record {
    bits = agrees.mask;
    values = agrees.cells;
    tags = λ reg from to. holds.running.tagged slot reg runs from to;
    cell_places = holds.slots.cell_places;
    own_places = agrees.places;
  }

  pc_same : (session_of core slot).pc ≡ p.pc
  pc_same = agrees.pc (rw runs refl)

  npc_same : (session_of core slot).npc ≡ p.npc
  npc_same = agrees.npc (rw runs refl)

  -- what an instruction comes to is what it comes to for the program alone, where it is the same
  -- one
  pub comes_same : (found : Result Ins OwnFault) → ((ins : Ins) → found ≡ Ok ins → Fits ins)
      → effect_at (seen_of_cell p.cells) p.kept found p.pc p.npc ≡ effect_at
      (seen_by slot core.cells) (session_of core slot).saved found (session_of core slot).pc
      (session_of core slot).npc
  comes_same found fits =
      ap (λ pc. effect_at (seen_of_cell p.cells) p.kept found pc p.npc) (sym pc_same)
      ∙ ap (λ npc. effect_at (seen_of_cell p.cells) p.kept found (session_of core slot).pc npc)
      (sym npc_same)
      ∙ ap (λ kept. effect_at (seen_of_cell p.cells) kept found (session_of core slot).pc
      (session_of core slot).npc) (sym agrees.saved)
      ∙ tried-same (seen_of_cell p.cells) (seen_by slot core.cells) (session_of core slot).saved
      found (session_of core slot).pc (session_of core slot).npc fits
      (sight-same slot core.cells p.cells (session_of core slot).mask tied.bits tied.values
      tied.tags)

  -- A step of the slot, with its new session, that the program alone takes too, to this state.
  pub record Takes (session : Session) (step : Step) (next : State) : Type 0 where
    pub does : plain p (given_of step.received) ≡ (Did step, next)
    pub writes : AreCells step.writes
    pub released : IsKnown step.released
    pub cells : next.cells ≡ with_lent (with_owned p.cells step.writes) step.released
    pub bytes : next.bytes ≡ stored_in p.bytes step.stored
    pub over : next.over ≡ is_exit step.end
    -- the session is another in what a step may change alone
    pub same : session ≡ record (session_of core slot) {
      pc = next.pc;
      npc = next.npc;
      mask =
          mask_after (session_of core slot).mask step;
      handler = next.handler;
      saved = next.kept;
    }

  module _ (place : ℕ) (session : Session) (step : Step) (next : State)
      (takes : Takes session step next) (at : StoresAt core slot place step.stored) where
    -- the journal with the step
    abbrev pub longer : List Entry
    longer = core.entries ++ entry.Step (session_of core slot).install step ∷ []

    -- the recorded steps are a run of the program, one step longer
    followed : FollowsAlone owners longer (session_of core slot).install (session_of core slot).id
        owner next
    followed = record {
      whose = follows.whose;
      reaches = subst (λ steps. Reaches (start owner.plain) steps next)
          (sym (steps_of-step (session_of core slot).install core.entries step))
          (subst (λ q. Reaches (start owner.plain) (steps_of (session_of core slot).install
          core.entries ++ step ∷ []) q) (ap (λ r. r.1) takes.does)
          (Reaches-more (start owner.plain) (steps_of (session_of core slot).install core.entries) p
          step follows.reaches (ap (λ r. r.0) takes.does)));
    }

    -- the registers are those of the program after it
    tied_next : Tied slot (cells_after_step slot core.cells step) next.cells
        (mask_after (session_of core slot).mask step)
    tied_next = rw takes.cells (Tied-released slot (with_writes slot core.cells step.writes)
        (with_owned p.cells step.writes) (mask_written (session_of core slot).mask step.writes)
        step.released
        takes.released not_null
        (Tied-written slot core.cells p.cells (session_of core slot).mask step.writes takes.writes
        tied))

    -- a cell that has another slot's tag afterwards is as it was
    foreign_next : (reg : ℕ) → (cell_at (cells_after_step slot core.cells step) reg).tag ≢ 0
        → (cell_at (cells_after_step slot core.cells step) reg).tag ≢ slot
        → cell_at (cells_after_step slot core.cells step) reg ≡ cell_at core.cells reg
    foreign_next reg has other =
        let written = with_writes slot core.cells step.writes in
        let places = length-written slot core.cells step.writes ∙ holds.slots.cell_places in
        let same = foreign-released slot reg written step.released places takes.released has
        other in
        same ∙ foreign-written slot reg core.cells step.writes holds.slots.cell_places takes.writes
        (λ none. has (ap (λ c. c.tag) same ∙ none)) (λ its. other (ap (λ c. c.tag) same ∙ its))

    -- each install with the number of this slot's is this slot's guest
    alone_next : (id : ImageId) → IsInstalled core.entries (session_of core slot).install id
        → IsAlone owners longer (session_of core slot).install id
    alone_next id installed = (
      owner,
      next,
      subst (λ its. FollowsAlone owners longer (session_of core slot).install its
          owner next) (sym (holds.slots.ids slot live id installed)) followed,
    )

    other_steps : (install : ℕ) → install ≢ (session_of core slot).install
        → steps_of install longer ≡ steps_of install core.entries
    other_steps install differs =
        steps_of-other install core.entries (entry.Step (session_of core slot).install step)
        (step_in-other install (session_of core slot).install step differs)

    -- the core after the step
    abbrev pub taken : CoreState
    taken = core_after_step core slot place session step

    session_after : session_of taken slot ≡ record (session_of core slot) {
      pc = next.pc;
      npc =
          next.npc;
      mask = mask_after (session_of core slot).mask step;
      handler = next.handler;
      saved =
          next.kept;
    }
    session_after = here session ∙ takes.same

    pub runs_taken : IsRunning taken slot
    runs_taken = ap (λ s. s.state) session_after ∙ runs

    -- the parts of the step that shape and private memory speak of: bytes in a line, the session,
    -- and what they don't speak of
    rest_seals : seals_of longer ≡ seals_of core.entries
    rest_seals = seals_none core.entries (entry.Step (session_of core slot).install step) refl

    abbrev mid : CoreState
    mid = with_stored core place step.stored

    abbrev rest : CoreState
    rest =
        aside Stands owners v law mid (cells_after_step slot core.cells step) core.pointers
        (given_out core.ram step.released) longer
        (entry.Step (session_of core slot).install step ∷ [], refl) rest_seals

    its_install : session.install ≡ (session_of core slot).install
    its_install = ap (λ s. s.install) takes.same

    its_id : session.id ≡ (session_of core slot).id
    its_id = ap (λ s. s.id) takes.same

    its_live : is_live session.state ≡ true
    its_live = ap (λ s. is_live s.state) takes.same ∙ live

    its_who : who_in core.boot session ≡ who_of core slot
    its_who = ap (who_in core.boot) takes.same

    within : slot < length core.sessions
    within = let places : length core.sessions ≡ 17 = holds.slots.session_places in omega arith

    shape_taken : Shape taken
    shape_taken = session_shape Stands rest slot session not_null within live its_live its_install
        its_id
        (aside_shape Stands owners v law mid (cells_after_step slot core.cells step) core.pointers
        (given_out core.ram step.released) longer (
          entry.Step (session_of core slot).install step
              ∷ [],
          refl,
        ) rest_seals
        (stored_shape Stands core slot place not_null step.stored at holds.slots.shape))

    private_more : (k : ℕ) (its : Owner) (memory : ℕ → List ℕ) → Private Stands mid k its memory
        → Private Stands taken k its memory
    private_more k its memory old = session_private Stands rest slot session not_null within live
        its_live its_install its_id its_who k its memory
        (aside_private Stands owners v law mid (cells_after_step slot core.cells step) core.pointers
        (given_out core.ram step.released) longer (
          entry.Step (session_of core slot).install step
              ∷ [],
          refl,
        ) rest_seals k its memory old)

    private_own : Private Stands taken slot owner (line_of_bytes next.bytes)
    private_own =
        private_more slot owner (line_of_bytes next.bytes)
        (subst (λ b. Private Stands mid slot owner (line_of_bytes b)) (sym takes.bytes)
        (stored_own Stands core slot place not_null step.stored at holds.slots.shape owner
        p.bytes private))

    private_other : (k : ℕ) → k ≢ slot → (its : Owner) (memory : ℕ → List ℕ)
        → Private Stands core k its memory → Private Stands taken k its memory
    private_other k differs its memory old =
        private_more k its memory
        (stored_other Stands core slot place not_null step.stored at holds.slots.shape k differs
        its memory old)

    -- no register was sealed, and the epoch stays
    no_register : (key : List ℕ) (name : RegName) (ct : List ℕ)
        → is_sealed key (register_message name ct) (seals_of longer) ≡ is_sealed key
        (register_message name ct) (seals_of core.entries)
    no_register key name ct = ap (is_sealed key (register_message name ct)) rest_seals

    seals_taken : SealsHold taken.sessions taken.installs longer
    seals_taken =
        let epoch : session.epoch ≡ (session_of core slot).epoch = ap (λ s. s.epoch) takes.same in
        let grows : length core.entries ≤ length longer = length-more core.entries longer
        (entry.Step (session_of core slot).install step ∷ [], refl) in
        seals_set core.sessions slot session core.installs core.entries longer rest_seals grows
        within
        (record { live = live; install = its_install; up = omega arith; few = omega arith })
        holds.slots.seals

    was_live : (k : ℕ) → IsLive taken k → IsLive core k
    was_live k alive = elim (eqb_tells k slot) [
      | inl own ↦ subst (λ j. IsLive core j) (sym own.1) live
      | inr other ↦ sym (ap (λ t. is_live t.state) (get_or-set_other core.sessions slot k session
          free other.1)) ∙ alive
    ]

    fits_taken : RamFits taken
    fits_taken = record {
      frames = frames_stay core.pages core.ram taken.ram (length-given_out core.ram step.released)
          holds.slots.fits.frames;
      areas = areas_stay core taken (length-given_out core.ram step.released)
          (λ k alive. (was_live k alive, refl)) holds.slots.fits.areas;
    }

    saves_other : (k : ℕ) → k ≢ slot → (q : State)
        → SavesAgree (who_of core k) (session_of core k) (seals_of core.entries) q
        → SavesAgree (who_of taken k) (session_of taken k) (seals_of longer) q
    saves_other k differs q old =
        saves_carry core taken refl k (get_or-set_other core.sessions slot k _ free differs)
        no_register q old

    agrees_after : is_exit step.end ≡ false
        → Agrees (session_of taken slot) taken.cells taken.entries slot owner next
    agrees_after goes = record {
      key = ap (λ s. s.key) session_after ∙ agrees.key;
      entry = ap (λ s. s.entry) session_after ∙ agrees.entry;
      lines = ap (λ s. s.lines) session_after ∙ agrees.lines;
      fresh = λ fresh. absurd (cc (runs_taken, fresh));
      pc = λ _. ap (λ s. s.pc) session_after;
      npc = λ _. ap (λ s. s.npc) session_after;
      over = takes.over ∙ goes;
      handler = ap (λ s. s.handler) session_after;
      saved = ap (λ s. s.saved) session_after;
      mask = λ reg from to. ap (λ s. bit_at s.mask reg) session_after ∙ tied_next.bits reg from to;
      cells = tied_next.values;
      places = tied_next.own_places;
    }

    -- what the step owes, where the guest goes on
    owes_after : is_exit step.end ≡ false → Owes Stands owners core taken slot
    owes_after goes = record {
      live = live;
      sessions = λ other differs. get_or-set_other core.sessions slot other _ free differs;
      private = λ other differs filled lives its memory whose old. private_other other differs its
          memory old;
      saves = λ other differs lives q old. saves_other other differs q old;
      foreign = λ reg from to. foreign_next reg;
      steps = other_steps;
      installed = λ install id. no_install core.entries (entry.Step (session_of core slot).install
          step) install id (λ none. none);
      last = refl;
      install = ap (λ s. s.install) session_after;
      id = ap (λ s. s.id) session_after;
      tags = λ reg from to tag. rw runs_taken refl;
      alone = alone_next;
      held = λ _. (
        owner,
        next,
        subst (λ (s : Session). FollowsAlone owners longer s.install s.id
            owner next) (sym session_after) followed,
        agrees_after goes,
        private_own,
        λ paused. absurd
            (cc (runs_taken, paused)),
      );
      cell_places = tied_next.cell_places;
      session_places = length-set core.sessions slot _ ∙ holds.slots.session_places;
      shape = shape_taken;
      fits = fits_taken;
      seals = seals_taken;
    }

    -- what holds still does after a step with which the guest goes on
    pub taken_holds : is_exit step.end ≡ false → Holds Stands owners taken
    taken_holds goes = record {
      slots = changed_holds Stands owners core taken slot holds.slots (owes_after goes);
      running = RunningHolds-one taken slot
          (λ other differs runs'. differs
          (holds.running.one other slot
          (sym (ap (λ s. s.state) (get_or-set_other core.sessions slot other _ free differs))
          ∙ runs') runs))
          (λ reg _ from to bit. tied_next.tags reg from to
          (sym (ap (λ s. bit_at s.mask reg) session_after) ∙ bit));
    }

    -- the core after the guest left for good with that step
    abbrev pub left_core : CoreState
    left_core = (after_exit taken slot).0

    session_gone : session_of left_core slot ≡ session_after_leaving (session_of taken slot) state.Ended
    unfolding without_guest
    session_gone =
        get_or-set_same taken.sessions slot _ free
        (let places : length core.sessions ≡ 17 = holds.slots.session_places in
        let same : length taken.sessions ≡ length core.sessions = length-set core.sessions slot
        _ in omega arith)

    left_frame : Kept Stands owners taken left_core
    left_frame =
        left_kept Stands owners v law taken slot not_null
        (length-set core.sessions slot _ ∙ holds.slots.session_places) known tied_next.cell_places
        shape_taken state.Ended refl

    left_tags : (reg : ℕ) → 1 ≤ reg → reg < 34 → (cell_at left_core.cells reg).tag ≢ slot
    unfolding without_guest
    left_tags reg from to =
        scrubbed-tag slot taken.cells reg not_null
        (let places : length taken.cells ≡ 34 = tied_next.cell_places in omega arith)

    left_places : length left_core.sessions ≡ 17
    left_places =
        left_frame.session_places ∙ length-set core.sessions slot _ ∙ holds.slots.session_places

    not_live : ¬ IsLive left_core slot
    not_live lives = let its = ap (λ s. is_live s.state) session_gone in cc

    gone_others : (other : ℕ) → other ≢ slot → session_of left_core other ≡ session_of core other
    unfolding without_guest
    gone_others other differs =
        get_or-set_other taken.sessions slot other _ free differs
        ∙ get_or-set_other core.sessions slot other _ free differs

    owes_gone : Owes Stands owners core left_core slot
    owes_gone = record {
      live = live;
      sessions = gone_others;
      private = λ other differs filled lives its memory whose old.
          left_frame.private other filled (ap (λ s. is_live s.state) (gone_others other differs)
          ∙ lives) its memory
          (ap (λ s. owner_of owners s.id) (get_or-set_other core.sessions slot other _ free differs)
          ∙ whose) (private_other other differs its memory old);
      saves = λ other differs lives q old.
          saves_carry taken left_core left_frame.boot other (gone_others other differs
          ∙ sym (get_or-set_other core.sessions slot other _ free differs)) left_frame.registers q
          (saves_other other differs q old);
      foreign = λ reg from to has other.
          let same = left_frame.cells reg from to has in
          same ∙ foreign_next reg (λ none. has (ap (λ c. c.tag) same ∙ none))
          (λ its. other (ap (λ c. c.tag) same ∙ its));
      steps = λ install differs. left_frame.steps install ∙ other_steps install differs;
      installed = λ install id is. no_install core.entries
          (entry.Step (session_of core slot).install step) install id (λ none. none)
          (left_frame.installed install id is);
      last = left_frame.last;
      install = ap (λ s. s.install) session_gone ∙ ap (λ s. s.install) session_after;
      id = ap (λ s. s.id) session_gone ∙ ap (λ s. s.id) session_after;
      tags = λ reg from to tag. absurd (left_tags reg from to tag);
      alone = λ id installed. IsAlone-same owners longer left_core.entries
          (session_of core slot).install id (left_frame.steps (session_of core slot).install)
          (alone_next id installed);
      held = λ lives. absurd (not_live lives);
      shape = left_frame.shape shape_taken;
      fits = (left_frame.ram fits_taken).1;
      seals = left_frame.seals seals_taken;
      cell_places = left_frame.cell_places ∙ tied_next.cell_places;
      session_places = left_places;
    }

    -- what holds still does after a step with which the guest leaves for good
    pub left_holds : Holds Stands owners left_core
    left_holds = record {
      slots = changed_holds Stands owners core left_core slot holds.slots owes_gone;
      running = RunningHolds-one left_core slot
          (λ other differs runs'. differs
          (holds.running.one other slot (sym (ap (λ s. s.state) (gone_others other differs))
          ∙ runs') runs))
          (λ reg runs' from to bit. absurd (not_live (rw runs' refl)));
    }

  -- The step that retires, with the word that it loads and the place in which it stores, and the
  -- state of the program after it.
  module _ (effect : Effect) (is : effect_at (seen_of_cell p.cells) p.kept
      (instruction_in p.bytes p.pc) p.pc p.npc ≡ Ok effect) (ranged : Ranged effect) (word place : ℕ)
      (word_is : word ≡ word_for p.bytes effect.wish) where
    abbrev pub step : Step
    step =
        step_made (session_of core slot).pc (session_of core slot).npc effect word
        (received_by core.cells core.ram effect.wish)

    abbrev next : State
    next = plain_after p effect step

    -- the program's step is the same
    step_same : step_made p.pc p.npc effect (word_for p.bytes effect.wish)
        (received_by core.cells core.ram effect.wish) ≡ step
    step_same =
        ap (λ w. step_made p.pc p.npc effect w (received_by core.cells core.ram effect.wish))
        (sym word_is)
        ∙ ap (λ pc. step_made pc p.npc effect word (received_by core.cells core.ram effect.wish))
        (sym pc_same)
        ∙ ap (λ npc. step_made (session_of core slot).pc npc effect word
        (received_by core.cells core.ram effect.wish)) (sym npc_same)

    -- given what the step received, the program does it
    does : plain p (given_of step.received) ≡ (Did step, next)
    does =
        subst (λ s. plain p (given_of s.received) ≡ (Did s, plain_after p effect s)) step_same
        (plain-does p core.cells core.ram effect agrees.over is)

    retired_takes : Takes (session_after_step (session_of core slot) effect step) step next
    retired_takes = record {
      does = does;
      writes = step_made-AreCells _ _ effect _ _ ranged;
      released = step_made-IsKnown _ _ effect _ _ ranged;
      cells = refl;
      bytes = refl;
      over = refl;
      same =
          ap (λ handler. record (session_after_step (session_of core slot) effect step) {
            handler =
                handler_after handler effect.wish;
          }) agrees.handler
          ∙ ap (λ kept. record (session_after_step (session_of core slot) effect step) {
            handler =
                next.handler;
            saved = kept_after kept effect.wish;
          }) agrees.saved;
    }

    abbrev pub after : CoreState
    after = after_retirement core slot place effect step

    module _ (at : StoresAt core slot place step.stored) where
      pub runs_after : IsRunning after slot
      runs_after =
          runs_taken place (session_after_step (session_of core slot) effect step) step next
          retired_takes at

      pub retired_holds : is_exit step.end ≡ false → Holds Stands owners after
      retired_holds =
          taken_holds place (session_after_step (session_of core slot) effect step) step next
          retired_takes at

      pub finished_holds : Holds Stands owners (after_exit after slot).0
      finished_holds =
          left_holds place (session_after_step (session_of core slot) effect step) step next
          retired_takes at

  -- The step of a signal, which the program alone takes too.
  module _ (n : ℕ) (ready : (is_signal n && is_signal_ready (session_of core slot).handler
      (session_of core slot).saved) ≡ true) where
    signal_does : plain p (given.Signal n) ≡ (
      Did (signal_of (session_of core slot) n),
      plain_signalled p n,
    )
    signal_does =
        plain-signals p n agrees.over
        (subst (λ h. (is_signal n && is_signal_ready h p.kept) ≡ true) agrees.handler
        (subst (λ k. (is_signal n && is_signal_ready (session_of core slot).handler k) ≡ true)
        agrees.saved ready))
        ∙ ap (λ pc. let a : PlainStep × State =
        (Did (signal_step pc p.npc n), plain_signalled p n) in a) (sym pc_same)
        ∙ ap (λ npc. let a : PlainStep × State =
        (Did (signal_step (session_of core slot).pc npc n), plain_signalled p n) in a)
        (sym npc_same)

    signals : Takes (session_after_signal (session_of core slot) n)
        (signal_of (session_of core slot) n) (plain_signalled p n)
    signals = record {
      does = signal_does;
      writes = (lit≤ tt, lit< tt);
      released = tt;
      cells = refl;
      bytes = refl;
      over = agrees.over;
      same =
          ap (λ handler. record (session_after_signal (session_of core slot) n) {
            pc =
                handler;
            npc = (handler + 4) % 2 ^ 32;
            handler = handler;
          }) agrees.handler
          ∙ ap (λ pc. record (session_after_signal (session_of core slot) n) {
            pc = p.handler;
            npc =
                (p.handler + 4) % 2 ^ 32;
            handler = p.handler;
            saved =
                Some (pc, (session_of core slot).npc);
          }) pc_same
          ∙ ap (λ npc. record (session_after_signal (session_of core slot) n) {
            pc =
                p.handler;
            npc = (p.handler + 4) % 2 ^ 32;
            handler = p.handler;
            saved =
                Some (p.pc, npc);
          }) npc_same;
    }

    -- what holds still does after a signal was delivered to the guest that runs
    pub delivered_holds : Holds Stands owners (after_delivery core slot n)
    delivered_holds =
        taken_holds 0 (session_after_signal (session_of core slot) n)
        (signal_of (session_of core slot) n) (plain_signalled p n) signals tt refl
