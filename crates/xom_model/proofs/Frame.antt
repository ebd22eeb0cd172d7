-- One event changes one slot. What it owes about that slot, and about the rest, so that what holds
-- of every slot still does.
use Rattle.std.proofs.Common.{◌≡◌, ◌≢◌, inl, inr, ℕ, ◌<◌, ◌≤◌, true, List, [], Some, length, sym, ◌∙◌, ap, subst, arith}
use Rattle.std.proofs.lemmas.Bool.Decides.{eqb_tells}
use Rattle.xom_base.specs.Entries.{steps_of}
use Rattle.xom_base.specs.declared.entry.Entry.{Entry}
use Rattle.xom_base.specs.declared.key.ImageId.{ImageId}
use Rattle.xom_owners.specs.declared.owner.Owner.{Owner}
use Rattle.xom_owners.specs.Owners.{owner_of}
use Rattle.mips_plain.specs.Machine.{State, plain_cell_at as plain_cell, start}
use Rattle.mips_plain.specs.declared.cell.PlainCell.TheVariants.{Own}
use Rattle.mips_plain.specs.Follows.{Reaches}
use Rattle.tag_regs.specs.declared.cell.Cell.{Cell}
use Rattle.tag_regs.specs.TaggedCells.{cell_at}
use Rattle.session_table.specs.declared.session.Session.{Session}
use Rattle.session_table.specs.declared.session.SlotState.{SlotState}
use Rattle.session_table.specs.declared.session.SlotState.TheVariants as state
use Rattle.session_table.specs.Sessions.{is_live}
use Rattle.xom_model.specs.Versions.{StandsFor}
use Rattle.xom_model.specs.Honest.{seals_of}
use Rattle.xom_model.specs.State.{CoreState, session_of}
use Rattle.xom_model.specs.Lines.{who_of}
use Rattle.xom_model.specs.Saves.{SavesAgree, SealsHold}
use Rattle.xom_model.specs.Holds.{Agrees, FollowsAlone, IsAlone, IsHeld, IsInstalled, IsLive, Private, RamFits, Shape, SlotsHold, line_of_bytes, was_entered}

-- no slot but this one changed, and the journal grew by no other install
pub record Owes (Stands : StandsFor) (owners : List Owner) (core new : CoreState) (slot : ℕ) : Type
    0 where
  pub live : IsLive core slot
  -- the other slots
  pub sessions : (other : ℕ) → other ≢ slot → session_of new other ≡ session_of core other
  pub private : (other : ℕ) → other ≢ slot → other ≢ 0 → IsLive core other
      → (owner : Owner) (memory : ℕ → List ℕ)
      → owner_of owners (session_of core other).id ≡ Some owner
      → Private Stands core other owner memory → Private Stands new other owner memory
  pub saves : (other : ℕ) → other ≢ slot → IsLive core other → (p : State)
      → SavesAgree (who_of core other) (session_of core other) (seals_of core.entries) p
      → SavesAgree (who_of new other) (session_of new other) (seals_of new.entries) p
  pub foreign : (reg : ℕ) → 1 ≤ reg → reg < 34 → (cell_at new.cells reg).tag ≢ 0
      → (cell_at new.cells reg).tag ≢ slot → cell_at new.cells reg ≡ cell_at core.cells reg
  -- the journal
  pub steps : (install : ℕ) → install ≢ (session_of core slot).install
      → steps_of install new.entries ≡ steps_of install core.entries
  pub installed : (install : ℕ) (id : ImageId) → IsInstalled new.entries install id
      → IsInstalled core.entries install id
  pub last : new.installs ≡ core.installs
  -- the slot
  pub install : (session_of new slot).install ≡ (session_of core slot).install
  pub id : (session_of new slot).id ≡ (session_of core slot).id
  pub tags : (reg : ℕ) → 1 ≤ reg → reg < 34 → (cell_at new.cells reg).tag ≡ slot → IsLive new slot
  pub alone : (id : ImageId) → IsInstalled core.entries (session_of core slot).install id
      → IsAlone owners new.entries (session_of core slot).install id
  pub held : IsLive new slot → IsHeld Stands owners new slot
  -- the whole
  pub shape : Shape new
  pub fits : RamFits new
  pub seals : SealsHold new.sessions new.installs new.entries
  pub cell_places : length new.cells ≡ 34
  pub session_places : length new.sessions ≡ 17

-- the same steps follow the same program
pub FollowsAlone-same : (owners : List Owner) (old new : List Entry) (install : ℕ) (id : ImageId)
    (owner : Owner) (p : State)
    → steps_of install new ≡ steps_of install old → FollowsAlone owners old install id owner p
    → FollowsAlone owners new install id owner p
FollowsAlone-same owners old new install id owner p same alone = record {
  whose = alone.whose;
  reaches = subst (λ steps. Reaches (start owner.plain) steps p) (sym same) alone.reaches;
}

pub IsAlone-same : (owners : List Owner) (old new : List Entry) (install : ℕ) (id : ImageId)
    → steps_of install new ≡ steps_of install old → IsAlone owners old install id
    → IsAlone owners new install id
IsAlone-same owners old new install id same alone =
    (alone.0, alone.1, FollowsAlone-same owners old new install id alone.0 alone.1 same alone.2)

-- a slot agrees, whatever its state, epoch and pair, where it stands at the program's pair and each
-- cell with its tag has the program's value
pub Agrees-at : (s : Session) (now : SlotState) (epoch pc npc : ℕ) (cells new : List Cell)
    (entries longer : List Entry) (slot : ℕ) (owner : Owner) (p : State)
    → (now ≡ state.Fresh → steps_of s.install longer ≡ [])
    → (was_entered now ≡ true → pc ≡ p.pc) → (was_entered now ≡ true → npc ≡ p.npc)
    → ((reg : ℕ) → 1 ≤ reg → reg < 34 → (cell_at new reg).tag ≡ slot
    → plain_cell p.cells reg ≡ Own (cell_at new reg).value)
    → Agrees s cells entries slot owner p
    → Agrees (record s { state = now; epoch = epoch; pc = pc; npc = npc }) new longer slot owner p
Agrees-at s now epoch pc npc cells new entries longer slot owner p fresh pc_is npc_is values
    agrees =
    record {
      key = agrees.key;
      entry = agrees.entry;
      lines = agrees.lines;
      fresh = fresh;
      pc = pc_is;
      npc = npc_is;
      over = agrees.over;
      handler = agrees.handler;
      saved = agrees.saved;
      mask = agrees.mask;
      cells = values;
      places = agrees.places;
    }

-- so does one whose session and steps are as they were
pub Agrees-cells : (s : Session) (cells new : List Cell) (entries longer : List Entry) (slot : ℕ)
    (owner : Owner) (p : State)
    → ((reg : ℕ) → 1 ≤ reg → reg < 34 → (cell_at new reg).tag ≡ slot
    → plain_cell p.cells reg ≡ Own (cell_at new reg).value)
    → steps_of s.install longer ≡ steps_of s.install entries
    → Agrees s cells entries slot owner p → Agrees s new longer slot owner p
Agrees-cells s cells new entries longer slot owner p values steps agrees =
    Agrees-at s s.state s.epoch s.pc s.npc cells new entries longer slot owner p
    (λ is. steps ∙ agrees.fresh is) agrees.pc agrees.npc values agrees

-- and one whose cells are as they were, too
pub Agrees-same : (s : Session) (cells new : List Cell) (entries longer : List Entry) (slot : ℕ)
    (owner : Owner) (p : State)
    → ((reg : ℕ) → 1 ≤ reg → reg < 34 → (cell_at new reg).tag ≡ slot → cell_at new reg ≡ cell_at
    cells reg)
    → steps_of s.install longer ≡ steps_of s.install entries
    → Agrees s cells entries slot owner p → Agrees s new longer slot owner p
Agrees-same s cells new entries longer slot owner p cell steps agrees =
    Agrees-cells s cells new entries longer slot owner p
    (λ reg some known tag.
    let same = cell reg some known tag in
    agrees.cells reg some known (sym (ap (λ c. c.tag) same) ∙ tag) ∙ ap (λ c. Own c.value)
    (sym same))
    steps agrees

module _ (Stands : StandsFor) (owners : List Owner) (core new : CoreState) (slot : ℕ)
    (holds : SlotsHold Stands owners core) (owes : Owes Stands owners core new slot) where
  -- the slot isn't the null compartment
  slot_some : slot ≢ 0
  slot_some none =
      absurd (cc (ap (λ k. is_live (session_of core k).state) none, owes.live, holds.shape.null))

  -- another live slot was live before
  live_before : (other : ℕ) → other ≢ slot → IsLive new other → IsLive core other
  live_before other differs live =
      sym (ap (λ s. is_live s.state) (owes.sessions other differs)) ∙ live

  -- another live slot's install is another
  install_differs : (other : ℕ) → other ≢ slot → IsLive core other
      → (session_of core other).install ≢ (session_of core slot).install
  install_differs other differs live same =
      differs (holds.shape.apart other slot live owes.live same)

  -- a live slot isn't the null compartment
  live_some : (other : ℕ) → IsLive core other → other ≢ 0
  live_some other live none =
      absurd (cc (ap (λ k. is_live (session_of core k).state) none, live, holds.shape.null))

  held_other : (other : ℕ) → other ≢ slot → IsLive new other → IsHeld Stands owners new other
  held_other other differs live =
      let before = live_before other differs live in
      let held = holds.held other before in
      let session = owes.sessions other differs in
      let steps = owes.steps (session_of core other).install
      (install_differs other differs before) in
      let some = live_some other before in
      let agrees = Agrees-same (session_of core other) core.cells new.cells core.entries new.entries
      other held.0 held.1
      (λ reg from to tag. owes.foreign reg from to (λ none. some (sym tag ∙ none))
      (λ own. differs (sym tag ∙ own)))
      steps held.3 in
      let alone = FollowsAlone-same owners core.entries new.entries (session_of core other).install
      (session_of core other).id held.0 held.1 steps held.2 in (
        held.0,
        held.1,
        subst (λ (s : Session). FollowsAlone owners new.entries s.install s.id held.0 held.1)
            (sym session) alone,
        subst (λ (s : Session). Agrees s new.cells new.entries other held.0 held.1) (sym session)
            agrees,
        owes.private other differs some before held.0 (line_of_bytes held.1.bytes) held.2.whose held.4,
        owes.saves other differs before held.1 held.5,
      )

  held_new : (other : ℕ) → IsLive new other → IsHeld Stands owners new other
  held_new other live = elim (eqb_tells other slot) [
    | inl is ↦ subst (λ k. IsHeld Stands owners new k) (sym is.1)
        (owes.held (subst (λ k. IsLive new k) is.1 live))
    | inr differs ↦ held_other other differs.1 live
  ]

  alone_new : (install : ℕ) (id : ImageId) → IsInstalled new.entries install id
      → IsAlone owners new.entries install id
  alone_new install id installed =
      let before = owes.installed install id installed in
      elim (eqb_tells install (session_of core slot).install) [
        | inl is ↦ subst (λ n. IsAlone owners new.entries n id) (sym is.1)
            (owes.alone id (subst (λ n. IsInstalled core.entries n id) is.1 before))
        | inr differs ↦ IsAlone-same owners core.entries new.entries install id
            (owes.steps install differs.1) (holds.alone install id before)
      ]

  -- whether the slot's or another's, a live slot was live before
  was_live : (other : ℕ) → IsLive new other → IsLive core other
  was_live other live = elim (eqb_tells other slot) [
    | inl is ↦ subst (λ k. IsLive core k) (sym is.1) owes.live
    | inr differs ↦ live_before other differs.1 live
  ]

  -- no install number changed
  install_same : (other : ℕ) → (session_of new other).install ≡ (session_of core other).install
  install_same other = elim (eqb_tells other slot) [
    | inl is ↦ subst (λ k. (session_of new k).install ≡ (session_of core k).install) (sym is.1)
        owes.install
    | inr differs ↦ ap (λ s. s.install) (owes.sessions other differs.1)
  ]

  id_same : (other : ℕ) → (session_of new other).id ≡ (session_of core other).id
  id_same other = elim (eqb_tells other slot) [
    | inl is ↦ subst (λ k. (session_of new k).id ≡ (session_of core k).id) (sym is.1) owes.id
    | inr differs ↦ ap (λ s. s.id) (owes.sessions other differs.1)
  ]

  tags_new : (reg : ℕ) → 1 ≤ reg → reg < 34 → (cell_at new.cells reg).tag ≢ 0
      → IsLive new (cell_at new.cells reg).tag
  tags_new reg from to some = elim (eqb_tells (cell_at new.cells reg).tag slot) [
    | inl is ↦ subst (λ k. IsLive new k) (sym is.1) (owes.tags reg from to is.1)
    | inr differs ↦
        let same = owes.foreign reg from to some differs.1 in
        let before = holds.tags reg from to (λ none. some (ap (λ c. c.tag) same ∙ none)) in
        let live = subst (λ c. IsLive core c.tag) (sym same) before in
        ap (λ s. is_live s.state) (owes.sessions (cell_at new.cells reg).tag differs.1) ∙ live
  ]

  -- what holds of every slot still does
  pub changed_holds : SlotsHold Stands owners new
  changed_holds = record {
    alone = alone_new;
    held = held_new;
    tags = tags_new;
    ids = λ other live id installed.
        holds.ids other (was_live other live) id (subst (λ n. IsInstalled core.entries n id)
        (install_same other) (owes.installed (session_of new other).install id installed))
        ∙ sym (id_same other);
    steps = λ install above.
        owes.steps install (λ same. absurd
        (let low : (session_of core slot).install ≤ core.installs = holds.shape.numbers slot in
        let is : new.installs ≡ core.installs = owes.last in omega arith))
        ∙ holds.steps install (subst (λ n. n < install) owes.last above);
    installs = λ install id installed. subst (λ n. install ≤ n) (sym owes.last)
        (holds.installs install id (owes.installed install id installed));
    shape = owes.shape;
    fits = owes.fits;
    seals = owes.seals;
    cell_places = owes.cell_places;
    session_places = owes.session_places;
  }
