-- A register that is saved under its epoch: Save keeps what the machine keeps.
use Rattle.std.proofs.Common.{◌≡◌, ◌≢◌, inl, inr, ℕ, ◌+◌, ◌<◌, ◌≤◌, ◌^◌, List, [], ◌∷◌, ◌++◌, length, drop, refl, sym, ◌∙◌, ap, subst, arith, true, false}
use Rattle.std.specs.Int.{w32, to_be_bytes}
use Rattle.xom_base.specs.declared.entry.Entry.{Entry}
use Rattle.xom_seal.specs.declared.names.LineName.TheVariants.{Image}
use Rattle.xom_seal.specs.declared.names.RegName.{RegName}
use Rattle.xom_seal.specs.Messages.{IsRegName, register_message}
use Rattle.xom_seal.specs.Sealing.{register_masked}
use Rattle.xom_seal.proofs.MessageLaws.{kinds_differ, register_messages_tell}
use Rattle.xom_seal.proofs.NamingLaws.{run_lines_are_told}
use Rattle.xom_owners.specs.declared.owner.Owner.{Owner}
use Rattle.mips_plain.specs.declared.cell.PlainCell.TheVariants.{Own}
use Rattle.mips_plain.specs.Machine.{plain_cell_at as plain_cell}
use Rattle.tag_regs.specs.TaggedCells.{cell_at}
use Rattle.session_table.specs.declared.session.SlotState.TheVariants as state
use Rattle.image_sealer.specs.Membership.{is_sealed}
use Rattle.xom_model.specs.Honest.{Sealing, seals_of}
use Rattle.xom_versions.specs.Versions.{VersionLaw, Versions, start_version}
use Rattle.xom_model.specs.Versions.{StandsFor}
use Rattle.xom_model.specs.State.{CoreState, session_of, store_of}
use Rattle.xom_model.specs.Lines.{Who, line_seals, names_line, names_version, version_of_line, version_seals, who_of}
use Rattle.xom_model.specs.Saves.{IsOnce, SavesAgree, SealsHold, before_ct, reg_keys, reg_name, reg_pair, reg_seal_entry}
use Rattle.xom_model.specs.Operation.{epoch_of}
use Rattle.xom_model.specs.Holds.{Holds, IsHeld, IsLive, IsRunning, LineHolds, Private, Shape, line_of_bytes}
use Rattle.xom_model.proofs.Growth.{Goes, goes_entry, seals_more}
use Rattle.xom_model.proofs.Frame.{Agrees-same, FollowsAlone-same, IsAlone-same}
use Rattle.xom_model.proofs.SealCounts.{filter-no}
use Rattle.xom_model.proofs.SealKept.{line_more}
use Rattle.xom_model.proofs.SealLists.{once_more, register_before, register_of_before, sealed_more, sealed_same}
use Rattle.xom_model.proofs.RamSize.{frames_stay, areas_stay}
use Rattle.xom_model.proofs.SealsKept.{length-more}

-- the numbers in the names of a live slot's registers are in their ranges
module _ (Stands : StandsFor) (owners : List Owner) (core : CoreState)
    (holds : Holds Stands owners core) (room : length core.entries < 2 ^ 63) where
  pub install_low : (k : ℕ) → (session_of core k).install < 2 ^ 64
  install_low k =
      let a : (session_of core k).install ≤ core.installs = holds.slots.shape.numbers k in
      let b : core.installs ≤ length core.entries = holds.slots.shape.count in omega arith

  pub epoch_low : (k : ℕ) → IsLive core k → epoch_of core k < 2 ^ 64
  epoch_low k live =
      let a : epoch_of core k ≤ length core.entries = holds.slots.seals.counted k live in
      omega arith

  pub its_name : (k reg : ℕ) → IsLive core k → reg < 34
      → IsRegName (reg_name (who_of core k) (epoch_of core k) reg)
  its_name k reg live to = record {
    boot = holds.slots.shape.boot;
    install = install_low k;
    epoch =
        epoch_low k live;
    reg = omega arith;
  }

-- ---- Save

module _ (Stands : StandsFor) (owners : List Owner) (v : Versions) (law : VersionLaw v Stands)
    (core : CoreState) (none : (other : ℕ) → ¬ IsRunning core other)
    (holds : Holds Stands owners core) (room : length core.entries < 2 ^ 63)
    (slot reg : ℕ) (live : IsLive core slot) (paused : (session_of core slot).state ≡ state.Paused)
    (from : 1 ≤ reg) (to : reg < 34)
    (own : (cell_at core.cells reg).tag ≡ slot) (small : (cell_at core.cells reg).value < 2 ^ 32)
    (ram : List ℕ) (size : length ram ≡ length core.ram) where
  abbrev who : Who
  who = who_of core slot

  abbrev epoch : ℕ
  epoch = epoch_of core slot

  abbrev value : ℕ
  value = (cell_at core.cells reg).value

  abbrev name : RegName
  name = reg_name who epoch reg

  abbrev its_ct : List ℕ
  its_ct = register_masked name (reg_keys who epoch) (to_be_bytes w32 value)

  abbrev seals : List Sealing
  seals = seals_of core.entries

  abbrev pair : Sealing
  pair = reg_pair who epoch reg value

  abbrev seal : Entry
  seal = reg_seal_entry who epoch reg value

  abbrev entries : List Entry
  entries = core.entries ++ seal ∷ []

  abbrev out : CoreState
  out = record core { ram = ram; entries = entries }

  goes_out : Goes core.entries entries
  goes_out =
      goes_entry core.entries seal
      (record { step = λ n. refl; install = λ n id no_entry. no_entry })

  seals_are : seals_of entries ≡ seals ++ pair ∷ []
  seals_are = seals_more core.entries seal pair refl

  named : IsRegName name
  named = its_name Stands owners core holds room slot reg live to

  -- the program's value of the cell
  value_at : (k : ℕ) (lives : IsLive core k) → slot ≡ k
      → plain_cell (holds.slots.held k lives).1.cells reg ≡ Own value
  value_at k lives same = (holds.slots.held k lives).3.cells reg from to (own ∙ same)

  -- only a register of this name has its message
  names_it : (other : RegName) (ct : List ℕ) → IsRegName other → register_message other ct ≡ pair.1
      → (other ≡ name) × (ct ≡ its_ct)
  names_it other ct is same = register_messages_tell other name ct its_ct is named same

  not_named : (key : List ℕ) (other : RegName) (ct : List ℕ) → register_message other ct ≢ pair.1
      → is_sealed key (register_message other ct) (seals_of entries) ≡ is_sealed key
      (register_message other ct) seals
  not_named key other ct differs =
      ap (is_sealed key (register_message other ct)) seals_are
      ∙ sealed_same key (register_message other ct) seals pair differs

  no_line : (install line : ℕ) → names_line install line pair ≡ false
  no_line install line = run_lines_are_told.register install line name its_ct

  lines_same : (install line : ℕ)
      → line_seals install line (seals ++ pair ∷ []) ≡ line_seals install line seals
  lines_same install line = filter-no (names_line install line) seals pair (no_line install line)

  versions_same : (install line version : ℕ)
      → version_seals install line version (seals ++ pair ∷ []) ≡ version_seals install line version
      seals
  versions_same install line version =
      filter-no (names_version install line version) seals pair (rw (no_line install line) refl)

  -- the install's slot is this one
  its_slot : (k : ℕ) → IsLive core k → (session_of core k).install ≡ who.install → slot ≡ k
  its_slot k lives same = holds.slots.shape.apart slot k live lives (sym same)

  -- a Seal of this name is this one
  alone : (key message : List ℕ) → is_sealed key message seals ≡ true
      → before_ct message ≡ before_ct pair.1 → (key ≡ pair.0) × (message ≡ pair.1)
  alone key message is same =
      let ct = drop 26 message in
      let whole : message ≡ register_message name ct = register_of_before name message
      (same ∙ register_before name its_ct) in
      let was = (holds.slots.held slot live).5 paused (install_low Stands owners core holds room
      slot) (epoch_low Stands owners core holds room slot live) reg from to key ct
      (subst (λ m. is_sealed key m seals ≡ true) whole is) in
      let same_value : was.0 ≡ value = cc (was.2, value_at slot live refl) in (
        was.3,
        whole ∙ ap (register_message name)
            (was.4 ∙ ap (λ n. register_masked name (reg_keys who epoch) (to_be_bytes w32 n))
            same_value),
      )

  seals_out : SealsHold core.sessions core.installs entries
  seals_out = record {
    beyond = λ install line low past top. ap (line_seals install line) seals_are
        ∙ lines_same install line ∙ holds.slots.seals.beyond install line low past top;
    to_come = λ other is above key ct.
        not_named key other ct (λ same. let its : other.install ≡ who.install =
        ap (λ n. n.install) (names_it other ct is same).0 in
        let last : who.install ≤ core.installs = holds.slots.shape.numbers slot in
        absurd (omega arith))
        ∙ holds.slots.seals.to_come other is above key ct;
    epochs = λ k lives other is its above key ct.
        not_named key other ct (λ same.
        let told = (names_it other ct is same).0 in
        let here : slot ≡ k = its_slot k lives (sym its ∙ ap (λ n. n.install) told) in
        let at : other.epoch ≡ epoch = ap (λ n. n.epoch) told in
        let one : epoch_of core k ≡ epoch = ap (epoch_of core) (sym here) in
        absurd (omega arith))
        ∙ holds.slots.seals.epochs k lives other is its above key ct;
    counted = λ k lives. let old : epoch_of core k ≤ length core.entries = holds.slots.seals.counted
        k lives in let grows = length-more core.entries entries goes_out.more in omega arith;
    once = subst (λ s. IsOnce s) (sym seals_are) (once_more seals pair holds.slots.seals.once
        alone);
  }

  saves_out : (k : ℕ) (lives : IsLive core k)
      → SavesAgree (who_of core k) (session_of core k) (seals_of entries)
      (holds.slots.held k lives).1
  saves_out k lives its_paused low top r r_from r_to key ct is =
      let its = reg_name (who_of core k) (epoch_of core k) r in
      elim (sealed_more key (register_message its ct) seals pair
      (subst (λ s. is_sealed key (register_message its ct) s ≡ true) seals_are is)) [
        | inl before ↦ (holds.slots.held k lives).5 its_paused low top r r_from r_to key ct before
        | inr new ↦
            let told = names_it its ct (its_name Stands owners core holds room k r lives r_to)
            new.1 in
            let here : slot ≡ k = its_slot k lives (ap (λ n. n.install) told.0) in
            let at : reg ≡ r = sym (ap (λ n. n.reg) told.0) in (
              value,
              small,
              subst (λ n. plain_cell (holds.slots.held k lives).1.cells n ≡ Own value) at
                  (value_at k lives here),
              new.0 ∙ ap (λ j. (reg_keys (who_of core j) (epoch_of core j)).tag.0) here,
              told.1 ∙ ap (λ j. register_masked (reg_name (who_of core j) (epoch_of core j) reg)
                  (reg_keys (who_of core j) (epoch_of core j)) (to_be_bytes w32 value)) here
                  ∙ ap (λ n. register_masked (reg_name (who_of core k) (epoch_of core k) n)
                  (reg_keys (who_of core k) (epoch_of core k)) (to_be_bytes w32 value)) at,
            )
      ]

  shape_out : Shape out
  shape_out =
      let shape = holds.slots.shape in
      record {
        live = shape.live;
        inside = shape.inside;
        mapped = shape.mapped;
        one = shape.one;
        clean = shape.clean;
        owned = shape.owned;
        no_image = λ key id at ct.
            ap (is_sealed key _) seals_are ∙ sealed_same key _ seals pair
            (kinds_differ.line_register (Image id at) name ct its_ct) ∙ shape.no_image key id at
            ct;
        no_envelope = λ key envelope.
            ap (is_sealed key _) seals_are ∙ sealed_same key _ seals pair
            (λ same. kinds_differ.register_envelope name its_ct envelope (sym same))
            ∙ shape.no_envelope key envelope;
        to_come = λ install line above top few. ap (line_seals install line) seals_are
            ∙ lines_same install line ∙ shape.to_come install line above top few;
        apart = shape.apart;
        null = shape.null;
        numbers = shape.numbers;
        boot = shape.boot;
        count = let count : core.installs ≤ length core.entries = shape.count in let grows =
            length-more core.entries entries goes_out.more in omega arith;
        ids = shape.ids;
        way_places = shape.way_places;
        page_places = shape.page_places;
        store_places = shape.store_places;
      }

  ver_same : (k line : ℕ)
      → version_of_line (who_of core k) seals line ≡ version_of_line (who_of core k)
      (seals_of entries) line
  ver_same k line =
      ap (λ l. start_version (who_of core k).lines line + length l)
      (sym (ap (line_seals (session_of core k).install line) seals_are
      ∙ lines_same (session_of core k).install line))

  private_out : (k : ℕ) (owner : Owner) (memory : ℕ → List ℕ) → Private Stands core k owner memory
      → Private Stands out k owner memory
  private_out k owner memory old = record {
    lines = λ line low. subst (λ s. LineHolds owner (who_of core k) k line core.ways s
        (memory line)) (sym seals_are)
        (line_more owner (who_of core k) k line core.ways seals (seals ++ pair ∷ []) (memory line)
        (lines_same (session_of core k).install line)
        (λ version. versions_same (session_of core k).install line version) (old.lines line low));
    stands = law.alike entries (store_of core k) (version_of_line (who_of core k) seals)
        (version_of_line (who_of core k) (seals_of entries)) (λ line low. ver_same k line)
        (law.longer core.entries (seal ∷ []) (store_of core k)
        (version_of_line (who_of core k) seals) old.stands);
  }

  held_out : (k : ℕ) → IsLive core k → IsHeld Stands owners out k
  held_out k lives =
      let h = holds.slots.held k lives in
      let steps = goes_out.steps (session_of core k).install in (
        h.0,
        h.1,
        FollowsAlone-same owners core.entries entries (session_of core k).install
            (session_of core k).id h.0 h.1 steps h.2,
        Agrees-same (session_of core k) core.cells core.cells core.entries entries k h.0 h.1
            (λ r low high tag. refl) steps h.3,
        private_out k h.0 (line_of_bytes h.1.bytes) h.4,
        saves_out k lives,
      )

  pub saved_out : Holds Stands owners out
  saved_out = record {
    slots = record {
      alone = λ install id is. IsAlone-same owners core.entries entries install id
          (goes_out.steps install) (holds.slots.alone install id (goes_out.installed install id is));
      held = held_out;
      tags = holds.slots.tags;
      ids = λ k lives id is. holds.slots.ids k lives id
          (goes_out.installed (session_of core k).install id is);
      steps = λ install above. goes_out.steps install ∙ holds.slots.steps install above;
      installs = λ install id is. holds.slots.installs install id
          (goes_out.installed install id is);
      shape = shape_out;
      fits = record {
        frames = frames_stay core.pages core.ram ram size holds.slots.fits.frames;
        areas = areas_stay core out size (λ k alive. (alive, refl)) holds.slots.fits.areas;
      };
      seals = seals_out;
      cell_places = holds.slots.cell_places;
      session_places = holds.slots.session_places;
    };
    running = record {
      one = λ k other runs. absurd (none k runs);
      tagged = λ k r runs. absurd (none k runs);
    };
  }
