-- A saved register that comes back: Restore keeps what the machine keeps, since only the machine
-- seals registers.
use Rattle.std.proofs.Common.{◌≡◌, ◌≢◌, inl, inr, cond, ℕ, ◌<◌, ◌≤◌, ◌^◌, Bool, List, [], ◌∷◌, ◌++◌, Some, None, length, set, refl, sym, ◌∙◌, ap, subst, arith, true, false, length-set}
use Rattle.std.specs.Int.{w32, from_be_bytes, to_be_bytes}
use Rattle.std.specs.Str.{bytes_eq}
use Rattle.std.proofs.lemmas.List.{get_or-set_same, get_or-set_other}
use Rattle.std.proofs.lemmas.List.Folds.{list_any-append}
use Rattle.std.proofs.lemmas.Bool.Decides.{eqb_tells}
use Rattle.xom_base.specs.declared.entry.Entry.{Entry}
use Rattle.xom_seal.specs.declared.keys.RegisterKeys.{RegisterKeys}
use Rattle.xom_seal.specs.declared.names.RegName.{RegName}
use Rattle.xom_seal.specs.declared.register.SealedReg.{SealedReg}
use Rattle.xom_seal.specs.Messages.{register_message}
use Rattle.xom_seal.specs.Sealing.{register_masked, register_tag, unsealed_register}
use Rattle.xom_seal.proofs.SealLaws.{lets_through, registers_open}
use Rattle.xom_owners.specs.declared.owner.Owner.{Owner}
use Rattle.mips_plain.specs.declared.cell.PlainCell.TheVariants.{Own}
use Rattle.mips_plain.specs.Machine.{plain_cell_at as plain_cell}
use Rattle.tag_regs.specs.declared.cell.Cell.{Cell}
use Rattle.tag_regs.specs.TaggedCells.{cell_at, empty_cell}
use Rattle.session_table.specs.declared.session.SlotState.TheVariants as state
use Rattle.image_sealer.specs.Membership.{is_sealed, is_sealing}
use Rattle.journal_findings.specs.Findings.{sealed_by}
use Rattle.xom_model.specs.Honest.{seals_of}
use Rattle.xom_versions.specs.Versions.{VersionLaw, Versions}
use Rattle.xom_model.specs.Versions.{StandsFor}
use Rattle.xom_model.specs.State.{CoreState, session_of}
use Rattle.xom_model.specs.Lines.{who_of}
use Rattle.xom_model.specs.Saves.{reg_accept_entry, reg_keys, reg_name, saved_at}
use Rattle.xom_model.specs.Operation.{epoch_of}
use Rattle.xom_model.specs.Holds.{Holds, IsHeld, IsLive, IsRunning, line_of_bytes}
use Rattle.xom_model.proofs.Growth.{IsTrusted, Goes, goes_entry, honest_before, seals_none}
use Rattle.xom_model.proofs.KeptLaws.{aside_private, aside_shape}
use Rattle.xom_model.proofs.Frame.{Agrees-cells, FollowsAlone-same, IsAlone-same}
use Rattle.xom_model.proofs.OwnersTell.{no_register}
use Rattle.xom_model.proofs.SealsKept.{length-more, saves_carry, seals_stay}
use Rattle.xom_model.proofs.SavesKept.{epoch_low, install_low}

-- what opens is the ciphertext, masked
opened_is : (name : RegName) (keys : RegisterKeys) (sealed : SealedReg) (value : ℕ)
    → unsealed_register name keys sealed ≡ Some value
    → value ≡ from_be_bytes w32 (register_masked name keys sealed.ct)
opened_is name keys sealed value = by (bytes_eq sealed.tag (register_tag name keys sealed.ct))
    (from_be_bytes w32 (register_masked name keys sealed.ct)) value
  where
    by : (b : Bool) (masked found : ℕ) → cond b (Some masked) None ≡ Some found → found ≡ masked
    by true masked found is = cc
    by false masked found is = absurd (cc)

some_same : (a b : ℕ) → Some a ≡ Some b → a ≡ b
some_same a b is = cc

-- a value's bytes, masked twice, give the value
masked_back : (name : RegName) (keys : RegisterKeys) (value : ℕ) → value < 2 ^ 32
    → from_be_bytes w32 (register_masked name keys
    (register_masked name keys (to_be_bytes w32 value))) ≡ value
masked_back name keys value small =
    let ct = register_masked name keys (to_be_bytes w32 value) in
    some_same (from_be_bytes w32 (register_masked name keys ct)) value
    (sym (lets_through (register_tag name keys ct)
    (from_be_bytes w32 (register_masked name keys ct))) ∙ registers_open name keys value small)

module _ (Stands : StandsFor) (owners : List Owner) (v : Versions) (law : VersionLaw v Stands)
    (core : CoreState) (none : (other : ℕ) → ¬ IsRunning core other)
    (holds : Holds Stands owners core)
    (slot reg address value : ℕ) (live : IsLive core slot)
    (paused : (session_of core slot).state ≡ state.Paused) (from : 1 ≤ reg) (to : reg < 34)
    (opens : unsealed_register (reg_name (who_of core slot) (epoch_of core slot) reg)
    (reg_keys (who_of core slot) (epoch_of core slot)) (saved_at core.ram address) ≡ Some value)
    (honest : IsTrusted (sealed_by core.machine owners)
    (core.entries ++ reg_accept_entry (who_of core slot) (epoch_of core slot) reg
    (saved_at core.ram address).ct address ∷ [])) where
  abbrev name : RegName
  name = reg_name (who_of core slot) (epoch_of core slot) reg

  abbrev keys : RegisterKeys
  keys = reg_keys (who_of core slot) (epoch_of core slot)

  abbrev ct : List ℕ
  ct = (saved_at core.ram address).ct

  abbrev accept : Entry
  accept = reg_accept_entry (who_of core slot) (epoch_of core slot) reg ct address

  abbrev entries : List Entry
  entries = core.entries ++ accept ∷ []

  abbrev cells : List Cell
  cells = set core.cells reg (record { value = value; tag = slot })

  abbrev out : CoreState
  out = record core { cells = cells; entries = entries }

  goes_out : Goes core.entries entries
  goes_out =
      goes_entry core.entries accept
      (record { step = λ n. refl; install = λ n id no_entry. no_entry })

  seals_same : seals_of entries ≡ seals_of core.entries
  seals_same = seals_none core.entries accept refl

  room : length core.entries < 2 ^ 63
  room = (honest_before core.entries (accept ∷ []) (sealed_by core.machine owners) honest).room

  -- ---- The value

  by_machine : is_sealed keys.tag.0 (register_message name ct) (seals_of core.entries) ≡ true
  by_machine =
      let was : is_sealed keys.tag.0 (register_message name ct) (sealed_by core.machine owners
      ++ seals_of core.entries) ≡ true = honest.honest.forgery core.entries [] keys.tag.0
      (register_message name ct) address refl in
      let all = sym (list_any-append (is_sealing keys.tag.0 (register_message name ct))
      (sealed_by core.machine owners) (seals_of core.entries)) ∙ was in
      rw (no_register core.machine owners keys.tag.0 name ct) at all

  value_is : (lives : IsLive core slot)
      → plain_cell (holds.slots.held slot lives).1.cells reg ≡ Own value
  value_is lives =
      let was = (holds.slots.held slot lives).5 paused (install_low Stands owners core holds room
      slot) (epoch_low Stands owners core holds room slot live) reg from to keys.tag.0 ct
      by_machine in
      let same : was.0 ≡ value = sym (masked_back name keys was.0 was.1)
      ∙ ap (λ c. from_be_bytes w32 (register_masked name keys c)) (sym was.4)
      ∙ sym (opened_is name keys (saved_at core.ram address) value opens) in
      was.2 ∙ ap (λ n. Own n) same

  -- ---- Cells

  here : cell_at cells reg ≡ record { value = value; tag = slot }
  here =
      get_or-set_same core.cells reg _ empty_cell
      (let places : length core.cells ≡ 34 = holds.slots.cell_places in omega arith)

  there : (r : ℕ) → r ≢ reg → cell_at cells r ≡ cell_at core.cells r
  there r differs = get_or-set_other core.cells reg r _ empty_cell differs

  values : (k : ℕ) (lives : IsLive core k) (r : ℕ) → 1 ≤ r → r < 34 → (cell_at cells r).tag ≡ k
      → plain_cell (holds.slots.held k lives).1.cells r ≡ Own (cell_at cells r).value
  values k lives r low high tag = elim (eqb_tells r reg) [
    | inl is ↦
        let at : cell_at cells r ≡ record { value = value; tag = slot } = ap (cell_at cells) is.1
        ∙ here in
        let same : slot ≡ k = sym (ap (λ c. c.tag) at) ∙ tag in
        let moved : (its : IsLive core k) → plain_cell (holds.slots.held k its).1.cells reg ≡ Own
        value =
        subst (λ j. (its : IsLive core j) → plain_cell (holds.slots.held j its).1.cells reg ≡ Own
        value) same value_is in
        ap (plain_cell (holds.slots.held k lives).1.cells) is.1 ∙ moved lives
        ∙ ap (λ c. Own c.value) (sym at)
    | inr differs ↦
        let at = there r differs.1 in
        (holds.slots.held k lives).3.cells r low high (sym (ap (λ c. c.tag) at) ∙ tag)
        ∙ ap (λ c. Own c.value) (sym at)
  ]

  held_out : (k : ℕ) → IsLive core k → IsHeld Stands owners out k
  held_out k lives =
      let h = holds.slots.held k lives in
      let steps = goes_out.steps (session_of core k).install in (
        h.0,
        h.1,
        FollowsAlone-same owners core.entries entries (session_of core k).install
            (session_of core k).id h.0 h.1 steps h.2,
        Agrees-cells (session_of core k) core.cells cells core.entries entries k h.0 h.1
            (values k lives) steps h.3,
        aside_private Stands owners v law core cells core.pointers core.ram entries goes_out.more
            seals_same k h.0 (line_of_bytes h.1.bytes) h.4,
        saves_carry core out refl k refl
            (λ key other bytes. ap (is_sealed key (register_message other bytes)) seals_same) h.1 h.5,
      )

  tags_out : (r : ℕ) → 1 ≤ r → r < 34 → (cell_at cells r).tag ≢ 0
      → IsLive core (cell_at cells r).tag
  tags_out r low high some = elim (eqb_tells r reg) [
    | inl is ↦ subst (λ c. IsLive core c.tag) (sym (ap (cell_at cells) is.1 ∙ here)) live
    | inr differs ↦
        let at = there r differs.1 in
        subst (λ c. IsLive core c.tag) (sym at)
        (holds.slots.tags r low high (λ empty_tag. some (ap (λ c. c.tag) at ∙ empty_tag)))
  ]

  pub restored_out : Holds Stands owners out
  restored_out = record {
    slots = record {
      alone = λ install id is. IsAlone-same owners core.entries entries install id
          (goes_out.steps install) (holds.slots.alone install id (goes_out.installed install id is));
      held = held_out;
      tags = tags_out;
      ids = λ k lives id is. holds.slots.ids k lives id
          (goes_out.installed (session_of core k).install id is);
      steps = λ install above. goes_out.steps install ∙ holds.slots.steps install above;
      installs = λ install id is. holds.slots.installs install id
          (goes_out.installed install id is);
      shape = aside_shape Stands owners v law core cells core.pointers core.ram entries
          goes_out.more seals_same holds.slots.shape;
      fits = record { frames = holds.slots.fits.frames; areas = holds.slots.fits.areas };
      seals = seals_stay core.sessions core.sessions core.installs core.entries entries seals_same
          (length-more core.entries entries goes_out.more) (λ k lives. refl) holds.slots.seals;
      cell_places = length-set core.cells reg _ ∙ holds.slots.cell_places;
      session_places = holds.slots.session_places;
    };
    running = record {
      one = λ k other runs. absurd (none k runs);
      tagged = λ k r runs. absurd (none k runs);
    };
  }
