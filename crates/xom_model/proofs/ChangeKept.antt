-- A live slot's session changes, with its guest at the same state of the same program: a trap, an
-- Enter, a Resume.
use Rattle.std.proofs.Common.{inl, inr, ◌≡◌, ◌≢◌, ℕ, ◌+◌, ◌<◌, ◌≤◌, ◌%◌, ◌^◌, List, [], ◌∷◌, ◌++◌, length, set, refl, sym, ◌∙◌, ap, subst, arith, true, length-set}
use Rattle.std.proofs.lemmas.Bool.Decides.{eqb_tells}
use Rattle.std.proofs.lemmas.List.{get_or-set_same, get_or-set_other, get_or-replicate, length-append}
use Rattle.std.specs.Int.{bit_at}
use Rattle.xom_base.specs.declared.entry.Entry.{Entry}
use Rattle.xom_base.specs.declared.entry.Entry.TheVariants as entry
use Rattle.xom_base.specs.declared.event.Cause.{Cause}
use Rattle.xom_owners.specs.declared.owner.Owner.{Owner}
use Rattle.mips_plain.specs.Machine.{plain_cell_at as plain_cell, start}
use Rattle.mips_plain.specs.declared.cell.PlainCell.TheVariants.{Lent}
use Rattle.mips_plain.specs.Follows.{Reaches}
use Rattle.tag_regs.specs.TaggedCells.{cell_at}
use Rattle.session_table.specs.declared.session.Session.{Session}
use Rattle.session_table.specs.declared.session.SlotState.TheVariants as state
use Rattle.session_table.specs.Sessions.{free, is_live, session_after_enter, session_after_pause, session_after_resume}
use Rattle.xom_model.specs.Honest.{seals_of}
use Rattle.xom_versions.specs.Versions.{VersionLaw, Versions}
use Rattle.xom_model.specs.Versions.{StandsFor}
use Rattle.xom_seal.specs.Messages.{IsRegName, register_message}
use Rattle.image_sealer.specs.Membership.{is_sealed}
use Rattle.xom_model.specs.State.{CoreState, session_of}
use Rattle.xom_model.specs.Lines.{who_in, who_of}
use Rattle.xom_model.specs.Saves.{SavesAgree, reg_name}
use Rattle.xom_model.specs.Guest.{after_trap}
use Rattle.xom_model.specs.Holds.{Agrees, FollowsAlone, Holds, IsHeld, IsLive, IsRunning, Private, SlotsHold, line_of_bytes, own_bit}
use Rattle.xom_model.proofs.Growth.{Goes, goes_entry, goes_none, seals_none}
use Rattle.xom_model.proofs.KeptLaws.{aside, aside_private, aside_shape}
use Rattle.xom_model.proofs.Parts.{session_private, session_shape}
use Rattle.xom_model.proofs.Frame.{Agrees-at, FollowsAlone-same, IsAlone-same, Owes, changed_holds}
use Rattle.xom_model.proofs.Left.{RunningHolds-one}
use Rattle.xom_model.proofs.RamSize.{areas_stay}
use Rattle.xom_model.proofs.SealsKept.{Rises, length-more, saves_carry, seals_set}

module _ (Stands : StandsFor) (owners : List Owner) (v : Versions) (law : VersionLaw v Stands)
    (core : CoreState) (slot : ℕ) (some : slot ≢ 0) (known : slot ≤ 16) (live : IsLive core slot)
    (holds : SlotsHold Stands owners core)
    (s : Session) (entries : List Entry) (grows : Goes core.entries entries)
    (seals : seals_of entries ≡ seals_of core.entries)
    (lives : is_live s.state ≡ true) (install : s.install ≡ (session_of core slot).install)
    (id : s.id ≡ (session_of core slot).id) (who : who_in core.boot s ≡ who_of core slot)
    (agrees : Agrees s core.cells entries slot (holds.held slot live).0 (holds.held slot live).1)
    (rises : Rises (session_of core slot) s core.entries entries)
    (saves : SavesAgree (who_in core.boot s) s (seals_of entries) (holds.held slot live).1) where
  abbrev held : IsHeld Stands owners core slot
  held = holds.held slot live

  within : slot < length core.sessions
  within = let places : length core.sessions ≡ 17 = holds.session_places in omega arith

  abbrev mid : CoreState
  mid = aside Stands owners v law core core.cells core.pointers core.ram entries grows.more seals

  abbrev pub out : CoreState
  out = record core { sessions = set core.sessions slot s; entries = entries }

  pub here : session_of out slot ≡ s
  here = get_or-set_same core.sessions slot s free within

  pub there : (other : ℕ) → other ≢ slot → session_of out other ≡ session_of core other
  there other differs = get_or-set_other core.sessions slot other s free differs

  private_out : (k : ℕ) (owner : Owner) (memory : ℕ → List ℕ) → Private Stands core k owner memory
      → Private Stands out k owner memory
  private_out k owner memory old =
      session_private Stands mid slot s some within live lives install id who k owner memory
      (aside_private Stands owners v law core core.cells core.pointers core.ram entries grows.more
      seals k owner memory old)

  was_live : (k : ℕ) → IsLive out k → IsLive core k
  was_live k alive = elim (eqb_tells k slot) [
    | inl own ↦ subst (λ j. IsLive core j) (sym own.1) live
    | inr other ↦ sym (ap (λ t. is_live t.state) (there k other.1)) ∙ alive
  ]

  owes_out : Owes Stands owners core out slot
  owes_out = record {
    live = live;
    sessions = there;
    private = λ other differs filled before owner memory whose old. private_out other owner memory
        old;
    saves = λ other differs lives p old. saves_carry core out refl other (there other differs)
        (λ key name ct. ap (is_sealed key (register_message name ct)) seals) p old;
    foreign = λ reg from to tagged differs. refl;
    steps = λ n differs. grows.steps n;
    installed = grows.installed;
    last = refl;
    install = ap (λ t. t.install) here ∙ install;
    id = ap (λ t. t.id) here ∙ id;
    tags = λ reg from to tag. ap (λ t. is_live t.state) here ∙ lives;
    alone = λ its installed. IsAlone-same owners core.entries entries (session_of core slot).install
        its (grows.steps (session_of core slot).install) (holds.alone (session_of core slot).install
        its installed);
    held = λ _. (
      held.0,
      held.1,
      subst (λ n. FollowsAlone owners entries n (session_of out slot).id held.0 held.1)
          (sym (ap (λ t. t.install) here ∙ install))
          (subst (λ i. FollowsAlone owners entries (session_of core slot).install i held.0 held.1)
          (sym (ap (λ t. t.id) here ∙ id))
          (FollowsAlone-same owners core.entries entries (session_of core slot).install
          (session_of core slot).id held.0 held.1 (grows.steps (session_of core slot).install)
          held.2)),
      subst (λ (t : Session). Agrees t core.cells entries slot held.0 held.1) (sym here) agrees,
      private_out slot held.0 (line_of_bytes held.1.bytes) held.4,
      subst (λ (t : Session). SavesAgree (who_in core.boot t) t (seals_of entries) held.1)
          (sym here) saves,
    );
    shape = session_shape Stands mid slot s some within live lives install id
        (aside_shape Stands owners v law core core.cells core.pointers core.ram entries grows.more
        seals holds.shape);
    fits = record {
      frames = holds.fits.frames;
      areas = areas_stay core out refl
          (λ k alive. (was_live k alive, refl)) holds.fits.areas;
    };
    seals = seals_set core.sessions slot s core.installs core.entries entries seals
        (length-more core.entries entries grows.more) within rises holds.seals;
    cell_places = holds.cell_places;
    session_places = length-set core.sessions slot s ∙ holds.session_places;
  }

  -- where no other slot runs
  pub change_holds : ((other : ℕ) → other ≢ slot → ¬ IsRunning core other)
      → ((reg : ℕ) → s.state ≡ state.Running → 1 ≤ reg → reg < 34 → bit_at s.mask reg ≡ 1
      → (cell_at core.cells reg).tag ≡ slot)
      → Holds Stands owners out
  change_holds others tagged = record {
    slots = changed_holds Stands owners core out slot holds owes_out;
    running = RunningHolds-one out slot
        (λ other differs runs. others other differs (sym (ap (λ t. t.state) (there other differs))
        ∙ runs))
        (λ reg runs from to bit. tagged reg (sym (ap (λ t. t.state) here) ∙ runs) from to
        (sym (ap (λ t. bit_at t.mask reg) here) ∙ bit));
  }

module _ (Stands : StandsFor) (owners : List Owner) (v : Versions) (law : VersionLaw v Stands)
    (core : CoreState) (slot : ℕ) (some : slot ≢ 0) (known : slot ≤ 16)
    (holds : Holds Stands owners core) where
  -- a trap of a running guest
  pub trapped_holds : (why : Cause) → IsRunning core slot
      → Holds Stands owners (after_trap core slot why).0
  trapped_holds why runs =
      let live : IsLive core slot = rw runs refl in
      let s = session_of core slot in
      let trap = entry.Trap s.install why in
      let old = (holds.slots.held slot live).3 in
      let grows = goes_entry core.entries trap
      (record { step = λ n. refl; install = λ n id no. no }) in
      change_holds Stands owners v law core slot some known live holds.slots (session_after_pause s)
      (core.entries ++ trap ∷ []) grows (seals_none core.entries trap refl) refl refl refl refl
      (Agrees-at s state.Paused (s.epoch + 1) s.pc s.npc core.cells core.cells core.entries
      (core.entries ++ trap ∷ []) slot _ _ (λ fresh. absurd (cc)) (λ _. old.pc (rw runs refl))
      (λ _. old.npc (rw runs refl)) old.cells old)
      (record {
        live = live;
        install = refl;
        up = omega arith;
        few = let more =
            length-append core.entries (trap ∷ []) in omega arith;
      })
      (λ paused install low reg from to key ct is.
      let name = reg_name (who_of core slot) (s.epoch + 1) reg in
      let named : IsRegName name = record {
        boot = holds.slots.shape.boot;
        install =
            install;
        epoch = low;
        reg = omega arith;
      } in
      let none = holds.slots.seals.epochs slot live name named refl (omega arith) key ct in
      absurd (let again = sym (ap (is_sealed key (register_message name ct))
      (seals_none core.entries trap refl)) ∙ is in cc))
      (λ other differs runs'. differs (holds.running.one other slot runs' runs))
      (λ reg running. absurd (cc))

  -- a fresh guest owns nothing yet, and stands at its entry
  pub entered_holds : ((other : ℕ) → ¬ IsRunning core other)
      → (session_of core slot).state ≡ state.Fresh → Holds Stands owners
      (record core { sessions = set core.sessions slot (session_after_enter (session_of core slot)) })
  unfolding start
  entered_holds none fresh =
      let live : IsLive core slot = rw fresh refl in
      let s = session_of core slot in
      let held = holds.slots.held slot live in
      let old = held.3 in
      let began : held.1 ≡ start held.0.plain =
      subst (λ steps. Reaches (start held.0.plain) steps held.1) (old.fresh fresh)
      held.2.reaches in
      let entry_private : held.0.plain.entry < 2 ^ 20 = held.0.plain.private in
      let lent : (reg : ℕ) → reg < 34 → plain_cell held.1.cells reg ≡ Lent =
      λ reg to. ap (λ p. plain_cell p.cells reg) began ∙ get_or-replicate 34 reg Lent Lent to in
      change_holds Stands owners v law core slot some known live holds.slots (session_after_enter s)
      core.entries (goes_none core.entries) refl refl refl refl refl
      (Agrees-at s state.Running s.epoch s.entry ((s.entry + 4) % 2 ^ 32) core.cells core.cells
      core.entries core.entries slot _ _ (λ fresh. absurd (cc))
      (λ _. old.entry ∙ sym (ap (λ p. p.pc) began))
      (λ _. ap (λ n. (n + 4) % 2 ^ 32) old.entry ∙ omega (arith, sym (ap (λ p. p.npc) began)))
      old.cells old)
      (record { live = live; install = refl; up = omega arith; few = omega arith })
      (λ paused. absurd (cc))
      (λ other differs. none other)
      (λ reg running from to bit. absurd (let own = old.mask reg from to in let none_own =
      ap own_bit (lent reg to) in cc))

  -- a paused guest whose cells are all there goes on
  pub resumed_holds : ((other : ℕ) → ¬ IsRunning core other)
      → (session_of core slot).state ≡ state.Paused
      → ((reg : ℕ) → 1 ≤ reg → reg < 34 → bit_at (session_of core slot).mask reg ≡ 1
      → (cell_at core.cells reg).tag ≡ slot)
      → Holds Stands owners
      (record core { sessions = set core.sessions slot (session_after_resume (session_of core slot)) })
  resumed_holds none is_paused whole =
      let live : IsLive core slot = rw is_paused refl in
      let s = session_of core slot in
      let old = (holds.slots.held slot live).3 in
      change_holds Stands owners v law core slot some known live holds.slots (session_after_resume s)
      core.entries (goes_none core.entries) refl refl refl refl refl
      (Agrees-at s state.Running s.epoch s.pc s.npc core.cells core.cells core.entries core.entries
      slot _ _ (λ fresh. absurd (cc)) (λ _. old.pc (rw is_paused refl))
      (λ _. old.npc (rw is_paused refl)) old.cells old)
      (record { live = live; install = refl; up = omega arith; few = omega arith })
      (λ paused. absurd (cc))
      (λ other differs. none other)
      (λ reg running from to bit. whole reg from to bit)
