-- What is kept of a journal's Seals, where the journal grows, sessions change, and a run line is
-- sealed.
use Rattle.std.proofs.Common.{◌≡◌, inl, inr, ◌==◌, ◌&&◌, ℕ, ◌+◌, ◌<◌, ◌≤◌, ◌^◌, List, [], ◌∷◌, ◌++◌, length, drop, set, refl, sym, ◌∙◌, ap, subst, arith, true}
use Rattle.std.specs.List.{list_any}
use Rattle.std.proofs.lemmas.List.{get_or-set_same, get_or-set_other, length-append}
use Rattle.std.proofs.lemmas.Bool.{eq-eqb}
use Rattle.std.proofs.lemmas.Bool.Decides.{eqb_tells}
use Rattle.xom_base.specs.declared.entry.Entry.{Entry}
use Rattle.xom_seal.specs.declared.names.LineName.TheVariants.{Run}
use Rattle.xom_seal.specs.declared.names.RegName.{RegName}
use Rattle.xom_seal.specs.Messages.{line_message, names_run_line, register_message, version_of_message}
use Rattle.xom_seal.specs.Sealing.{line_masked}
use Rattle.xom_seal.specs.Keys.{run_keys}
use Rattle.xom_seal.proofs.MessageLaws.{kinds_differ}
use Rattle.xom_seal.proofs.NamingLaws.{run_lines_are_told}
use Rattle.session_table.specs.declared.session.Session.{Session}
use Rattle.session_table.specs.Sessions.{free, is_live, session_at}
use Rattle.mips_plain.specs.Machine.{State}
use Rattle.image_sealer.specs.Membership.{is_sealed, is_sealing}
use Rattle.xom_model.specs.Honest.{Sealing, seals_of}
use Rattle.xom_model.specs.State.{CoreState, session_of}
use Rattle.xom_model.specs.Lines.{Who, line_seals, names_line, names_version, run_name, run_pair, version_seals, who_in, who_of}
use Rattle.xom_model.specs.Saves.{IsOnce, SavesAgree, SealsHold, before_ct}
use Rattle.xom_model.proofs.Opening.{any_filtered}
use Rattle.xom_model.proofs.SealCounts.{filter-no, not_both}
use Rattle.xom_model.proofs.SealLists.{is_sealing_told, once_more, run_before, run_of_before, sealed_same}

-- a longer list is no shorter
pub length-more : (entries longer : List Entry) → (added : List Entry) × (longer ≡ entries ++ added)
    → length entries ≤ length longer
length-more entries longer more =
    let whole = ap length more.1 ∙ length-append entries more.0 in omega arith

-- ---- Sessions

-- What a live slot's session came from: a live one of the same install, whose epoch rose by no more
-- than the journal grew.
pub record Rises (old new : Session) (entries longer : List Entry) : Type 0 where
  pub live : is_live old.state ≡ true
  pub install : new.install ≡ old.install
  pub up : old.epoch ≤ new.epoch
  pub few : new.epoch + length entries ≤ old.epoch + length longer

module _ (sessions new : List Session) (installs : ℕ) (entries longer : List Entry)
    (same : seals_of longer ≡ seals_of entries) where
  pub seals_rise : ((slot : ℕ) → is_live (session_at new slot).state ≡ true
      → Rises (session_at sessions slot) (session_at new slot) entries longer)
      → SealsHold sessions installs entries → SealsHold new installs longer
  seals_rise rises holds = record {
    beyond = λ install line low past top. ap (line_seals install line) same ∙ holds.beyond install
        line low past top;
    to_come = λ name is above key ct. ap (is_sealed key (register_message name ct)) same
        ∙ holds.to_come name is above key ct;
    epochs = λ slot live name is its above key ct.
        let r = rises slot live in
        ap (is_sealed key (register_message name ct)) same ∙ holds.epochs slot r.live name is
        (its ∙ r.install) (let up : (session_at sessions slot).epoch ≤ (session_at new
        slot).epoch = r.up in omega arith) key ct;
    counted = λ slot live.
        let r = rises slot live in
        let old : (session_at sessions slot).epoch ≤ length entries = holds.counted slot r.live in
        let few : (session_at new slot).epoch + length entries ≤ (session_at sessions slot).epoch
        + length longer = r.few in omega arith;
    once = subst (λ s. IsOnce s) (sym same) holds.once;
  }

  -- each session of a live slot is as it was
  pub seals_stay : length entries ≤ length longer
      → ((slot : ℕ) → is_live (session_at new slot).state ≡ true → session_at new slot ≡ session_at
      sessions slot)
      → SealsHold sessions installs entries → SealsHold new installs longer
  seals_stay grows stays holds = seals_rise (λ slot live.
      let is = stays slot live in
      let epoch : (session_at new slot).epoch ≡ (session_at sessions slot).epoch =
      ap (λ s. s.epoch) is in
      record {
        live = sym (ap (λ s. is_live s.state) is) ∙ live;
        install = ap (λ s. s.install) is;
        up = omega arith;
        few = omega arith;
      }) holds

-- one session is another
pub seals_set : (sessions : List Session) (slot : ℕ) (s : Session) (installs : ℕ)
    (entries longer : List Entry)
    → seals_of longer ≡ seals_of entries → length entries ≤ length longer → slot < length sessions
    → Rises (session_at sessions slot) s entries longer → SealsHold sessions installs entries
    → SealsHold (set sessions slot s) installs longer
seals_set sessions slot s installs entries longer same grows within rise =
    seals_rise sessions (set sessions slot s) installs entries longer same
    (λ k live. elim (eqb_tells k slot) [
      | inl own ↦
          subst (λ j. Rises (session_at sessions j) (session_at (set sessions slot s) j) entries
          longer) (sym own.1)
          (subst (λ t. Rises (session_at sessions slot) t entries longer)
          (sym (get_or-set_same sessions slot s free within)) rise)
      | inr other ↦
          let is = get_or-set_other sessions slot k s free other.1 in
          let epoch : (session_at (set sessions slot s) k).epoch ≡ (session_at sessions k).epoch =
          ap (λ t. t.epoch) is in
          record {
            live = sym (ap (λ t. is_live t.state) is) ∙ live;
            install = ap (λ t. t.install) is;
            up = omega arith;
            few = omega arith;
          }
    ])

-- what was saved of a slot's registers, where its session stays and no register is sealed
pub saves_carry : (core new : CoreState) → new.boot ≡ core.boot → (k : ℕ)
    → session_of new k ≡ session_of core k
    → ((key : List ℕ) (name : RegName) (ct : List ℕ) → is_sealed key (register_message name ct)
    (seals_of new.entries) ≡ is_sealed key (register_message name ct) (seals_of core.entries))
    → (p : State) → SavesAgree (who_of core k) (session_of core k) (seals_of core.entries) p
    → SavesAgree (who_of new k) (session_of new k) (seals_of new.entries) p
saves_carry core new boot k same registers p old =
    subst (λ b. SavesAgree (who_in b (session_of new k)) (session_of new k) (seals_of new.entries)
    p) (sym boot)
    (subst (λ (s : Session). SavesAgree (who_in core.boot s) s (seals_of new.entries) p) (sym same)
    (λ paused install low reg from to key ct is. old paused install low reg from to key ct
    (sym (registers key _ ct) ∙ is)))

-- ---- A run line is sealed

module _ (who : Who) (line version : ℕ) (bytes : List ℕ) (install_low : who.install < 2 ^ 64)
    (line_low : line < 2 ^ 15) (version_low : version < 2 ^ 64) (seals : List Sealing) where
  abbrev pair : Sealing
  pair = run_pair who line version bytes

  abbrev ct : List ℕ
  ct = line_masked (run_name who line version) (run_keys who.key who.boot who.install) bytes

  -- no register is named by it
  pub registers_run : (key : List ℕ) (name : RegName) (other : List ℕ)
      → is_sealed key (register_message name other) (seals ++ pair ∷ []) ≡ is_sealed key
      (register_message name other) seals
  registers_run key name other =
      sealed_same key (register_message name other) seals pair
      (λ same. kinds_differ.line_register (run_name who line version) name ct other (sym same))

  -- nor a line that no guest has
  beyond_run : (install at : ℕ) → install < 2 ^ 64 → 2 ^ 15 ≤ at → at < 2 ^ 32
      → line_seals install at (seals ++ pair ∷ []) ≡ line_seals install at seals
  beyond_run install at low past top = filter-no (names_line install at) seals pair
      (run_lines_are_told.run install at who.boot who.install line version ct low top install_low
      (omega arith) ∙ not_both who.install install line at (λ _ same. absurd (omega arith)))

  -- a Seal of its name would have been one of its version
  none_yet : version_seals who.install line version seals ≡ [] → (key message : List ℕ)
      → is_sealed key message seals ≡ true → before_ct message ≡ before_ct pair.1 → ⊥
  none_yet none key message is same =
      let rest = drop 29 message in
      let whole : message ≡ line_message (Run who.boot who.install line version) rest =
      run_of_before who.boot who.install line version message
      (same ∙ run_before who.boot who.install line version ct) in
      let names : names_version who.install line version
      (key, line_message (Run who.boot who.install line version) rest) ≡ true =
      rw (
        run_lines_are_told.run who.install line who.boot who.install line version rest install_low
            (omega arith) install_low (omega arith),
        eq-eqb who.install who.install refl,
        eq-eqb line line refl,
      )
      (eq-eqb (version_of_message (line_message (Run who.boot who.install line version) rest)) version
      (run_lines_are_told.version who.boot who.install line version rest version_low)) in
      let weaker : (s : Sealing) → is_sealing key message s ≡ true → names_version who.install line
      version s ≡ true = λ s its.
      subst (λ m. (names_run_line who.install line m && (version_of_message m == version)) ≡ true)
      (sym whole ∙ (is_sealing_told key message s its).1) names in
      let among = subst (λ l. list_any (is_sealing key message) l ≡ true) none
      (any_filtered (is_sealing key message) (names_version who.install line version) weaker seals
      is) in
      cc

  pub seals_run : (sessions : List Session) (installs : ℕ) (entries longer : List Entry)
      → seals_of entries ≡ seals → seals_of longer ≡ seals ++ pair ∷ []
      → length entries ≤ length longer
      → version_seals who.install line version seals ≡ [] → SealsHold sessions installs entries
      → SealsHold sessions installs longer
  seals_run sessions installs entries longer were are grows none holds = record {
    beyond = λ install at low past top. ap (line_seals install at) are ∙ beyond_run install at low
        past top ∙ ap (line_seals install at) (sym were) ∙ holds.beyond install at low past top;
    to_come = λ name is above key other. ap (is_sealed key (register_message name other)) are
        ∙ registers_run key name other ∙ ap (is_sealed key (register_message name other)) (sym were)
        ∙ holds.to_come name is above key other;
    epochs = λ slot live name is its above key other.
        ap (is_sealed key (register_message name other)) are ∙ registers_run key name other
        ∙ ap (is_sealed key (register_message name other)) (sym were) ∙ holds.epochs slot live
        name is its above key other;
    counted = λ slot live. let old : (session_at sessions slot).epoch ≤ length entries =
        holds.counted slot live in omega arith;
    once = subst (λ s. IsOnce s) (sym are)
        (once_more seals pair (subst (λ s. IsOnce s) were holds.once)
        (λ key message is same. absurd (none_yet none key message is same)));
  }
