-- The frame: it holds where nothing is done, goes on from one part to the next, and what holds of
-- every slot it keeps.
use Rattle.std.proofs.Common.{◌≡◌, ◌≢◌, ℕ, ◌<◌, ◌≤◌, List, [], ◌++◌, length, refl, sym, ◌∙◌, ap, subst, arith, false, ◌^◌}
use Rattle.xom_seal.specs.declared.names.LineName.TheVariants.{Image}
use Rattle.xom_seal.specs.Messages.{envelope_message, line_message, register_message}
use Rattle.std.proofs.lemmas.List.{length-append}
use Rattle.std.specs.Int.{bit_at}
use Rattle.xom_base.specs.declared.entry.Entry.{Entry}
use Rattle.xom_base.specs.declared.key.ImageId.{ImageId}
use Rattle.xom_owners.specs.declared.owner.Owner.{Owner}
use Rattle.xom_owners.specs.Owners.{owner_of}
use Rattle.mips_plain.specs.Machine.{State, start}
use Rattle.mips_plain.specs.Follows.{Reaches}
use Rattle.tag_regs.specs.declared.cell.Cell.{Cell}
use Rattle.tag_regs.specs.TaggedCells.{cell_at}
use Rattle.session_table.specs.declared.session.Session.{Session}
use Rattle.session_table.specs.Sessions.{is_live}
use Rattle.image_sealer.specs.Membership.{is_sealed}
use Rattle.xom_model.specs.Honest.{seals_of}
use Rattle.xom_versions.specs.Versions.{VersionLaw, Versions}
use Rattle.xom_model.specs.Versions.{StandsFor}
use Rattle.xom_model.specs.State.{CoreState, session_of, store_of}
use Rattle.xom_model.specs.Lines.{line_seals, version_of_line, who_of}
use Rattle.xom_model.specs.Saves.{SavesAgree}
use Rattle.xom_model.specs.Holds.{Agrees, FollowsAlone, Holds, IsHeld, IsInstalled, IsLive, IsRunning, LineHolds, Private, Shape, SlotsHold, line_of_bytes}
use Rattle.xom_model.specs.Kept.{Kept}
use Rattle.xom_model.proofs.Frame.{Agrees-same}
use Rattle.xom_model.proofs.Growth.{Goes, goes_none, goes_on}
use Rattle.xom_model.proofs.RamSize.{areas_stay, frames_stay}
use Rattle.xom_model.proofs.SealsKept.{length-more, saves_carry, seals_stay}

module _ (Stands : StandsFor) (owners : List Owner) where
  pub kept_none : (core : CoreState) → Kept Stands owners core core
  kept_none core = record {
    shape = λ shape. shape;
    boot = refl;
    machine = refl;
    last = refl;
    more = (goes_none core.entries).more;
    steps = λ n. refl;
    installed = λ n id is. is;
    registers = λ key name ct. refl;
    seals = λ seals. seals;
    same = λ slot live. refl;
    lent = λ reg from to none. refl;
    cells = λ reg from to some. refl;
    tags = λ reg from to live some. live;
    stay = λ reg from to live. refl;
    cell_places = refl;
    session_places = refl;
    ram = λ fit. (refl, fit);
    private = λ slot some live owner memory whose holds. holds;
  }

  module _ (a b c : CoreState) (first : Kept Stands owners a b)
      (then : Kept Stands owners b c) where
    goes : Goes a.entries c.entries
    goes =
        goes_on a.entries b.entries c.entries
        (record { more = first.more; steps = first.steps; installed = first.installed })
        (record { more = then.more; steps = then.steps; installed = then.installed })

    live_mid : (slot : ℕ) → IsLive c slot → IsLive b slot
    live_mid slot live = sym (ap (λ s. is_live s.state) (then.same slot live)) ∙ live

    tag_mid : (reg : ℕ) → 1 ≤ reg → reg < 34 → (cell_at c.cells reg).tag ≢ 0
        → (cell_at b.cells reg).tag ≢ 0
    tag_mid reg from to some none =
        some (ap (λ cell. cell.tag) (then.cells reg from to some) ∙ none)

    pub kept_on : Kept Stands owners a c
    kept_on = record {
      shape = λ shape. then.shape (first.shape shape);
      boot = then.boot ∙ first.boot;
      machine = then.machine ∙ first.machine;
      last = then.last ∙ first.last;
      more = goes.more;
      steps = goes.steps;
      installed = goes.installed;
      registers = λ key name ct. then.registers key name ct ∙ first.registers key name ct;
      seals = λ seals. then.seals (first.seals seals);
      same = λ slot live. then.same slot live ∙ first.same slot (live_mid slot live);
      lent = λ reg from to none. let cell = first.lent reg from to none in
          then.lent reg from to (ap (λ c. c.tag) cell ∙ none) ∙ cell;
      cells = λ reg from to some. then.cells reg from to some ∙ first.cells reg from to
          (tag_mid reg from to some);
      tags = λ reg from to live some.
          let mid = tag_mid reg from to some in
          let cell = first.cells reg from to mid in
          let live_b = first.tags reg from to live mid in
          subst (λ t. IsLive c t) (ap (λ x. x.tag) cell)
          (then.tags reg from to (subst (λ t. IsLive b t) (ap (λ x. x.tag) (sym cell)) live_b)
          some);
      stay = λ reg from to live.
          let cell = first.stay reg from to (live_mid _ live) in
          then.stay reg from to (subst (λ t. IsLive c t) (ap (λ x. x.tag) (sym cell)) live) ∙ cell;
      cell_places = then.cell_places ∙ first.cell_places;
      session_places = then.session_places ∙ first.session_places;
      ram = λ fit. let one = first.ram fit in let two = then.ram one.1 in (two.0 ∙ one.0, two.1);
      private = λ slot some live owner memory whose holds.
          let mid = live_mid slot live in
          then.private slot some live owner memory
          (ap (λ s. owner_of owners s.id) (first.same slot mid) ∙ whose)
          (first.private slot some mid owner memory whose holds);
    }

  -- ---- Cells, pointers, RAM and entries that are no Seal: neither the cache's shape nor private
  -- memory speaks of them

  module _ (v : Versions) (law : VersionLaw v Stands) (core : CoreState) (cells : List Cell)
      (pointers ram : List ℕ) (entries : List Entry)
      (more : (added : List Entry) × (entries ≡ core.entries ++ added))
      (seals : seals_of entries ≡ seals_of core.entries) where
    abbrev pub aside : CoreState
    aside = record core { cells = cells; pointers = pointers; ram = ram; entries = entries }

    pub aside_shape : Shape core → Shape aside
    aside_shape shape = record {
      live = shape.live;
      inside = shape.inside;
      mapped = shape.mapped;
      one = shape.one;
      clean = shape.clean;
      owned = shape.owned;
      no_image = subst (λ s. (key : List ℕ) (id : ImageId) (line : ℕ) (ct : List ℕ)
          → is_sealed key (line_message (Image id line) ct) s ≡ false) (sym seals) shape.no_image;
      no_envelope = subst (λ s. (key envelope : List ℕ) → is_sealed key (envelope_message envelope)
          s ≡ false) (sym seals) shape.no_envelope;
      to_come = subst (λ s. (install line : ℕ) → core.installs < install → install < 2 ^ 64
          → line < 2 ^ 15 → line_seals install line s ≡ []) (sym seals) shape.to_come;
      apart = shape.apart;
      null = shape.null;
      numbers = shape.numbers;
      boot = shape.boot;
      count = let count : core.installs ≤ length core.entries = shape.count in let whole =
          ap length more.1 ∙ length-append core.entries more.0 in omega arith;
      ids = shape.ids;
      way_places = shape.way_places;
      page_places = shape.page_places;
      store_places = shape.store_places;
    }

    pub aside_private : (slot : ℕ) (owner : Owner) (memory : ℕ → List ℕ)
        → Private Stands core slot owner memory → Private Stands aside slot owner memory
    aside_private slot owner memory holds = record {
      lines = λ line low. subst (λ s. LineHolds owner (who_of core slot) slot line core.ways s
          (memory line)) (sym seals) (holds.lines line low);
      stands =
          let now : Stands (store_of core slot) entries (version_of_line (who_of core slot)
          (seals_of core.entries)) =
          subst (λ es. Stands (store_of core slot) es (version_of_line (who_of core slot)
          (seals_of core.entries))) (sym more.1)
          (law.longer core.entries more.0 (store_of core slot) (version_of_line (who_of core slot)
          (seals_of core.entries)) holds.stands) in
          subst (λ s. Stands (store_of core slot) entries (version_of_line (who_of core slot) s))
          (sym seals) now;
    }

  module _ (v : Versions) (law : VersionLaw v Stands) (core : CoreState) (pointers ram : List ℕ)
      (entries : List Entry)
      (grows : Goes core.entries entries) (seals : seals_of entries ≡ seals_of core.entries)
      (size : length ram ≡ length core.ram) where
    abbrev rest : CoreState
    rest = record core { pointers = pointers; ram = ram; entries = entries }

    pub kept_rest : Kept Stands owners core rest
    kept_rest = record {
      shape = aside_shape v law core core.cells pointers ram entries grows.more seals;
      boot = refl;
      machine = refl;
      last = refl;
      more = grows.more;
      steps = grows.steps;
      installed = grows.installed;
      registers = λ key name ct. ap (is_sealed key (register_message name ct)) seals;
      seals = seals_stay core.sessions core.sessions core.installs core.entries entries seals
          (length-more core.entries entries grows.more) (λ slot live. refl);
      same = λ slot live. refl;
      lent = λ reg from to none. refl;
      cells = λ reg from to some. refl;
      tags = λ reg from to live some. live;
      stay = λ reg from to live. refl;
      cell_places = refl;
      session_places = refl;
      ram = λ fit. (
        size,
        record {
          frames = frames_stay core.pages core.ram ram size fit.frames;
          areas = areas_stay core rest size (λ k alive. (alive, refl)) fit.areas;
        },
      );
      private = λ slot some live owner memory whose holds. aside_private v law core core.cells
          pointers ram entries grows.more seals slot owner memory holds;
    }

  -- RAM alone: kernel writes and bus writes
  pub kept_ram : (v : Versions) → VersionLaw v Stands → (core : CoreState) (ram : List ℕ)
      → length ram ≡ length core.ram → Kept Stands owners core (record core { ram = ram })
  kept_ram v law core ram size =
      kept_rest v law core core.pointers ram core.entries (goes_none core.entries) refl size

  -- ---- What holds still does

  module _ (core new : CoreState) (kept : Kept Stands owners core new)
      (holds : SlotsHold Stands owners core) where
    follows : (install : ℕ) (id : ImageId) (owner : Owner) (p : State)
        → FollowsAlone owners core.entries install id owner p
        → FollowsAlone owners new.entries install id owner p
    follows install id owner p alone = record {
      whose = alone.whose;
      reaches =
          subst (λ steps. Reaches (start owner.plain) steps p) (sym (kept.steps install)) alone.reaches;
    }

    -- a slot that is live afterwards was so before, and isn't the null compartment
    pub was : (slot : ℕ) → IsLive new slot → IsLive core slot
    was slot live = sym (ap (λ s. is_live s.state) (kept.same slot live)) ∙ live

    pub not_null : (slot : ℕ) → IsLive core slot → slot ≢ 0
    not_null slot live none =
        absurd (cc (ap (λ k. is_live (session_of core k).state) none, live, holds.shape.null))

    -- a live slot's guest is at the same state of the same program
    module _ (slot : ℕ) (live : IsLive new slot) (owner : Owner) (p : State) where
      session : session_of new slot ≡ session_of core slot
      session = kept.same slot live

      some : slot ≢ 0
      some = not_null slot (was slot live)

      pub held_follows : FollowsAlone owners core.entries (session_of core slot).install
          (session_of core slot).id owner p
          → FollowsAlone owners new.entries (session_of new slot).install (session_of new slot).id
          owner p
      held_follows alone =
          subst (λ (s : Session). FollowsAlone owners new.entries s.install s.id owner p)
          (sym session) (follows _ _ owner p alone)

      pub held_agrees : Agrees (session_of core slot) core.cells core.entries slot owner p
          → Agrees (session_of new slot) new.cells new.entries slot owner p
      held_agrees old = subst (λ (s : Session). Agrees s new.cells new.entries slot owner p)
          (sym session) (Agrees-same (session_of core slot) core.cells new.cells core.entries
          new.entries slot owner p
          (λ reg from to tag. kept.cells reg from to (λ none. some (sym tag ∙ none)))
          (kept.steps (session_of core slot).install) old)

    held_saves : (slot : ℕ) → IsLive new slot → (p : State)
        → SavesAgree (who_of core slot) (session_of core slot) (seals_of core.entries) p
        → SavesAgree (who_of new slot) (session_of new slot) (seals_of new.entries) p
    held_saves slot live p old =
        saves_carry core new kept.boot slot (kept.same slot live) kept.registers p old

    held_new : (slot : ℕ) → IsLive new slot → IsHeld Stands owners new slot
    held_new slot live =
        let before = was slot live in
        let held = holds.held slot before in (
          held.0,
          held.1,
          held_follows slot live held.0 held.1 held.2,
          held_agrees slot live held.0 held.1 held.3,
          kept.private slot (not_null slot before) live held.0 (line_of_bytes held.1.bytes) held.2.whose
              held.4,
          held_saves slot live held.1 held.5,
        )

    pub kept_slots : SlotsHold Stands owners new
    kept_slots = record {
      alone = λ install id installed.
          let alone = holds.alone install id (kept.installed install id installed) in
          (alone.0, alone.1, follows install id alone.0 alone.1 alone.2);
      held = held_new;
      tags = λ reg from to some.
          let same = kept.cells reg from to some in
          let before = holds.tags reg from to (λ none. some (ap (λ c. c.tag) same ∙ none)) in
          subst (λ c. IsLive new c.tag) (sym same) (kept.tags reg from to before some);
      ids = λ slot live id installed.
          let session = kept.same slot live in
          holds.ids slot (was slot live) id (kept.installed (session_of core slot).install id
          (subst (λ (s : Session). IsInstalled new.entries s.install id) session installed))
          ∙ ap (λ s. s.id) (sym session);
      steps = λ install above. kept.steps install ∙ holds.steps install
          (subst (λ n. n < install) kept.last above);
      installs = λ install id installed. subst (λ n. install ≤ n) (sym kept.last)
          (holds.installs install id (kept.installed install id installed));
      shape = kept.shape holds.shape;
      fits = (kept.ram holds.fits).1;
      seals = kept.seals holds.seals;
      cell_places = kept.cell_places ∙ holds.cell_places;
      session_places = kept.session_places ∙ holds.session_places;
    }

  -- whatever the frame keeps, all that holds
  pub kept_holds : (core new : CoreState) → Kept Stands owners core new → Holds Stands owners core
      → Holds Stands owners new
  kept_holds core new kept holds = record {
    slots = kept_slots core new kept holds.slots;
    running = record {
      one = λ slot other runs runs'. holds.running.one slot other (ran slot runs) (ran other runs');
      tagged = λ slot reg runs from to bit.
          let before = ran slot runs in
          let bit_before = subst (λ (s : Session). bit_at s.mask reg ≡ 1) (same_session slot runs)
          bit in
          let tag = holds.running.tagged slot reg before from to bit_before in
          let live : IsLive new slot = rw runs refl in
          ap (λ c. c.tag) (kept.stay reg from to (subst (λ k. IsLive new k) (sym tag) live)) ∙ tag;
    };
  }
    where
      same_session : (slot : ℕ) → IsRunning new slot → session_of new slot ≡ session_of core slot
      same_session slot runs = kept.same slot (rw runs refl)

      ran : (slot : ℕ) → IsRunning new slot → IsRunning core slot
      ran slot runs = sym (ap (λ s. s.state) (same_session slot runs)) ∙ runs
