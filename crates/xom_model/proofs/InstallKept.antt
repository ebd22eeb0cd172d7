-- An Install that is done: the envelope is an owner's, so the new guest is that owner's program at
-- its start.
use Rattle.std.proofs.Common.{Option, None, IfSome, ◌≡◌, ◌≢◌, ◌⊎◌, inl, inr, ◌&&◌, ◌||◌, cond, ℕ, ◌+◌, ◌<◌, ◌≤◌, ◌^◌, Bool, List, [], ◌∷◌, ◌++◌, Some, length, map, set, refl, sym, ◌∙◌, ap, subst, arith, true, false, length-set, append-nil}
use Rattle.std.specs.Prelude.{nat_lt}
use Rattle.std.specs.List.{filter}
use Rattle.std.proofs.lemmas.List.{append_assoc, get_or-replicate, get_or-set_same, get_or-set_other, length-append}
use Rattle.std.proofs.lemmas.List.Elements.{filter_map-append}
use Rattle.std.proofs.lemmas.List.Folds.{list_any-append}
use Rattle.std.proofs.lemmas.Bool.Decides.{eqb_tells, nat_tests}
use Rattle.std.proofs.lemmas.Nat.Bits.{bit_at-zero}
use Rattle.xom_base.specs.Entries.{step_in, steps_of}
use Rattle.xom_base.specs.declared.entry.Entry.{Entry}
use Rattle.xom_base.specs.declared.entry.Entry.TheVariants as entry
use Rattle.xom_base.specs.declared.key.ImageId.{ImageId}
use Rattle.xom_seal.specs.declared.envelope.Unwrapped.{Unwrapped}
use Rattle.xom_seal.specs.Envelopes.{contents_of, envelope_contents}
use Rattle.xom_seal.specs.Messages.{envelope_message, register_message}
use Rattle.xom_owners.specs.declared.owner.Owner.{Owner}
use Rattle.xom_owners.specs.Owners.{owner_of}
use Rattle.image_sealer.specs.Sealing.{contents_for_owner as its_contents, line_count}
use Rattle.mips_plain.specs.declared.cell.PlainCell.TheVariants.{Lent}
use Rattle.mips_plain.specs.Machine.{start}
use Rattle.session_table.specs.declared.session.Session.{Session}
use Rattle.session_table.specs.declared.session.SlotState.TheVariants as state
use Rattle.session_table.specs.Sessions.{free, fresh_session, is_live}
use Rattle.image_sealer.specs.Membership.{is_sealed, is_sealing}
use Rattle.journal_findings.specs.Findings.{sealed_by}
use Rattle.xom_model.specs.Honest.{Sealing, seals_of}
use Rattle.xom_versions.specs.Store.{Store, hash_entry, HoldsArea, area_size, no_store}
use Rattle.xom_versions.specs.Versions.{VersionLaw, Versions, start_version}
use Rattle.xom_model.specs.Versions.{StandsFor}
use Rattle.line_cache.specs.Ways.{way_at}
use Rattle.xom_model.specs.State.{CoreState, session_of, store_of}
use Rattle.xom_model.specs.Lines.{Who, is_image_at, line_seals, names_line, names_version, version_of_line, who_in, who_of}
use Rattle.xom_model.specs.Saves.{IsOnce, SealsHold}
use Rattle.xom_model.specs.Operation.{after_install, envelope_in_ram}
use Rattle.xom_model.specs.Holds.{Agrees, AreasFit, Behind, FollowsAlone, Holds, IsHeld, IsInstalled, IsLive, IsOf, IsRunning, LineHolds, Private, Shape, line_of_bytes, own_bit}
use Rattle.xom_model.proofs.Places.{IsInstalled-more}
use Rattle.xom_model.proofs.Growth.{IsTrusted, goes_hashes, seals_hashes}
use Rattle.xom_model.proofs.Frame.{FollowsAlone-same, IsAlone-same, Agrees-same}
use Rattle.xom_model.proofs.Opening.{OwnersTell}
use Rattle.xom_model.proofs.RamSize.{frames_stay, area_stays}
use Rattle.xom_model.proofs.SealsKept.{saves_carry}
use Rattle.xom_model.proofs.OwnersTell.{unwrapped_contents}
use Rattle.line_ram.specs.Bytes.{HoldsRange}
use Rattle.xom_model.proofs.StartLines.{start_image, start_size, start_zeros}

-- what passes a stronger test isn't there where nothing passes the weaker one
none_stronger : (p q : Sealing → Bool) → ((s : Sealing) → q s ≡ true → p s ≡ true)
    → (seals : List Sealing) → filter p seals ≡ [] → filter q seals ≡ []
none_stronger p q weaker [] none = refl
none_stronger p q weaker (s ∷ seals) none = by (p s) (q s) refl refl
    (none_stronger p q weaker seals) none
  where
    by : (a b : Bool) → p s ≡ a → q s ≡ b → (filter p seals ≡ [] → filter q seals ≡ [])
        → cond a (s ∷ filter p seals) (filter p seals) ≡ []
        → cond b (s ∷ filter q seals) (filter q seals) ≡ []
    by true b pa qb rest is = absurd (cc)
    by false true pa qb rest is = absurd (cc (weaker s qb, pa))
    by false false pa qb rest is = rest is

first_true : (a b : Bool) → (a && b) ≡ true → a ≡ true
first_true true b is = refl
first_true false b is = absurd (cc)

second_of : (a b : Bool) → a ≡ true → b ≡ false → (a || b) ≡ true
second_of true b is none = refl
second_of false b is none = absurd (cc)

left_of : (a b : Bool) → b ≡ false → (a || b) ≡ true → a ≡ true
left_of true b none is = refl
left_of false b none is = absurd (cc)

module _ (Stands : StandsFor) (owners : List Owner) (v : Versions) (law : VersionLaw v Stands)
    (core : CoreState) (tell : OwnersTell core.machine owners) (holds : Holds Stands owners core)
    (slot place area : ℕ) (plain : Unwrapped) (some : 1 ≤ slot) (known : slot ≤ 16)
    (none : (other : ℕ) → ¬ IsRunning core other)
    (is_free : (session_of core slot).state ≡ state.Free)
    (opens : envelope_contents core.machine (envelope_in_ram core place) ≡ Some plain)
    (held : HoldsRange core.ram area area_size) (texts : List (List ℕ)) (ram : List ℕ)
    (size : length ram ≡ length core.ram)
    (honest : IsTrusted (sealed_by core.machine owners)
    ((core.entries ++ entry.Accept core.machine.0 (envelope_message (envelope_in_ram core place))
    place ∷ entry.Install (core.installs + 1) slot plain.id place plain.entry plain.lines ∷ [])
    ++ map hash_entry texts))
    (texts_are : v.texts_of_build area plain.lines core.ram ≡ texts) where
  abbrev n : ℕ
  n = core.installs + 1

  abbrev accept : Entry
  accept = entry.Accept core.machine.0 (envelope_message (envelope_in_ram core place)) place

  abbrev install : Entry
  install = entry.Install n slot plain.id place plain.entry plain.lines

  abbrev two : List Entry
  two = core.entries ++ accept ∷ install ∷ []

  abbrev entries : List Entry
  entries = two ++ map hash_entry texts

  abbrev session : Session
  session = fresh_session n plain.id plain.key plain.entry plain.lines

  abbrev store : Store
  store = v.store_after_build area plain.lines core.ram

  abbrev pub out : CoreState
  out = record core {
    sessions = set core.sessions slot session;
    stores = set core.stores slot store;
    ram = ram;
    installs = n;
    entries = entries;
  }

  shape : Shape core
  shape = holds.slots.shape

  -- ---- Whose it is

  was : is_sealed core.machine.0 (envelope_message (envelope_in_ram core place))
      (sealed_by core.machine owners ++ seals_of core.entries) ≡ true
  was =
      honest.honest.forgery core.entries (install ∷ map hash_entry texts) core.machine.0
      (envelope_message (envelope_in_ram core place)) place
      (append_assoc core.entries (accept ∷ install ∷ []) (map hash_entry texts))

  whose : (owner : Owner) × (owner_of owners owner.id ≡ Some owner)
      × (contents_of core.machine (envelope_in_ram core place) ≡ its_contents owner)
      × (length owner.id.0 ≡ 16)
  whose = tell.envelope (envelope_in_ram core place)
      (left_of _ _ (shape.no_envelope core.machine.0 (envelope_in_ram core place))
      (sym (list_any-append
      (is_sealing core.machine.0 (envelope_message (envelope_in_ram core place)))
      (sealed_by core.machine owners) (seals_of core.entries)) ∙ was))

  abbrev owner : Owner
  owner = whose.0

  plain_is : plain ≡ its_contents owner
  plain_is = sym (unwrapped_contents core.machine (envelope_in_ram core place) plain opens) ∙ whose.2

  few_lines : plain.lines ≤ 2 ^ 15
  few_lines =
      let is = ap (λ p. p.lines) plain_is in let small : length owner.plain.bytes ≤ 2 ^ 20 =
      owner.plain.fits in omega (arith, is)

  -- ---- The journal

  seals_same : seals_of entries ≡ seals_of core.entries
  seals_same =
      seals_hashes two texts ∙ filter_map-append _ core.entries (accept ∷ install ∷ [])
      ∙ append-nil (seals_of core.entries)

  steps_same : (k : ℕ) → steps_of k entries ≡ steps_of k core.entries
  steps_same k =
      (goes_hashes two texts).steps k
      ∙ filter_map-append (step_in k) core.entries (accept ∷ install ∷ [])
      ∙ append-nil (steps_of k core.entries)

  more : (added : List Entry) × (entries ≡ core.entries ++ added)
  more = (
    (accept ∷ install ∷ []) ++ map hash_entry texts,
    append_assoc core.entries (accept ∷ install
        ∷ []) (map hash_entry texts),
  )

  which_install : (k : ℕ) (id : ImageId) → IsInstalled entries k id
      → IsInstalled core.entries k id ⊎ ((n ≡ k) × (plain.id ≡ id))
  which_install k id is =
      let first = subst (λ es. IsInstalled es k id)
      (sym (append_assoc core.entries (accept ∷ []) (install ∷ [])))
      ((goes_hashes two texts).installed k id is) in
      elim (IsInstalled-more (core.entries ++ accept ∷ []) install k id first) [
        | inl before ↦ elim (IsInstalled-more core.entries accept k id before) [
          | inl old ↦
              inl old
          | inr nothing ↦ absurd nothing
        ]
        | inr here ↦ inr here
      ]

  -- ---- Sessions

  within : slot < length core.sessions
  within = let places : length core.sessions ≡ 17 = holds.slots.session_places in omega arith

  here : session_of out slot ≡ session
  here = get_or-set_same core.sessions slot session free within

  there : (k : ℕ) → k ≢ slot → session_of out k ≡ session_of core k
  there k differs = get_or-set_other core.sessions slot k session free differs

  dead : ¬ IsLive core slot
  dead live = let its = ap is_live is_free in cc

  old_live : (k : ℕ) → IsLive core k → (k ≢ slot) × IsLive out k
  old_live k live =
      let differs : k ≢ slot = λ same. dead (subst (λ j. IsLive core j) same live) in
      (differs, ap (λ s. is_live s.state) (there k differs) ∙ live)

  new_live : (k : ℕ) → k ≢ slot → IsLive out k → IsLive core k
  new_live k differs live = sym (ap (λ s. is_live s.state) (there k differs)) ∙ live

  grown : length core.entries + 2 ≤ length entries
  grown =
      let a = length-append two (map hash_entry texts) in let b : length two
      ≡ length core.entries + 2 = length-append core.entries (accept ∷ install ∷ []) in
      omega arith

  room : n < 2 ^ 63
  room =
      let all : length entries < 2 ^ 63 = honest.room in let a = grown in
      let c : core.installs ≤ length core.entries = shape.count in omega arith

  shape_out : Shape out
  shape_out = record {
    live = λ at filled. (old_live _ (shape.live at filled)).1;
    inside = shape.inside;
    mapped = shape.mapped;
    one = shape.one;
    clean = shape.clean;
    owned = λ k page frame is. (old_live k (shape.owned k page frame is)).1;
    no_image = λ key id line ct. ap (is_sealed key _) seals_same ∙ shape.no_image key id line ct;
    no_envelope = λ key envelope. ap (is_sealed key (envelope_message envelope)) seals_same
        ∙ shape.no_envelope key envelope;
    to_come = λ k line above top few. ap (line_seals k line) seals_same ∙ shape.to_come k line
        (omega arith) top few;
    apart = λ k other one two same. elim (eqb_tells k slot) [
      | inl own ↦ elim (eqb_tells other slot) [
        | inl its ↦ own.1 ∙ sym its.1
        | inr differs ↦ absurd (let a = ap (λ s. s.install) (ap (session_of out) own.1 ∙ here) in
            let b = ap (λ s. s.install) (there other differs.1) in
            let c : (session_of core other).install ≤ core.installs = shape.numbers other in
            omega (arith, same))
      ]
      | inr differs ↦ elim (eqb_tells other slot) [
        | inl its ↦ absurd (let a = ap (λ s. s.install) (ap (session_of out) its.1 ∙ here) in
            let b = ap (λ s. s.install) (there k differs.1) in
            let c : (session_of core k).install ≤ core.installs = shape.numbers k in
            omega (arith, same))
        | inr apart ↦ shape.apart k other (new_live k differs.1 one) (new_live other apart.1 two)
            (sym (ap (λ s. s.install) (there k differs.1)) ∙ same ∙ ap (λ s. s.install)
            (there other apart.1))
      ]
    ];
    null = ap (λ s. is_live s.state) (there 0 (λ zero_slot. absurd (omega arith))) ∙ shape.null;
    numbers = λ k. elim (eqb_tells k slot) [
      | inl own ↦ let a = ap (λ s. s.install) (ap (session_of out) own.1 ∙ here) in omega arith
      | inr differs ↦ let b = ap (λ s. s.install) (there k differs.1) in
          let c : (session_of core k).install ≤ core.installs = shape.numbers k in omega arith
    ];
    boot = shape.boot;
    count = let a = grown in let c : core.installs ≤ length core.entries = shape.count in
        omega arith;
    ids = λ k. elim (eqb_tells k slot) [
      | inl own ↦ ap (λ s. length s.id.0) (ap (session_of out) own.1 ∙ here)
          ∙ ap (λ p. length p.id.0) plain_is ∙ whose.3
      | inr differs ↦ ap (λ s. length s.id.0) (there k differs.1) ∙ shape.ids k
    ];
    way_places = shape.way_places;
    page_places = shape.page_places;
    store_places = length-set core.stores slot store ∙ shape.store_places;
  }

  -- ---- The other slots

  private_other : (k : ℕ) → k ≢ slot → (its : Owner) (memory : ℕ → List ℕ)
      → Private Stands core k its memory → Private Stands out k its memory
  private_other k differs its memory old =
      let same : who_of out k ≡ who_of core k = ap (who_in core.boot) (there k differs) in
      record {
        lines = λ line low. subst (λ w. LineHolds its w k line core.ways (seals_of entries)
            (memory line)) (sym same)
            (subst (λ s. LineHolds its (who_of core k) k line core.ways s (memory line))
            (sym seals_same) (old.lines line low));
        stands =
            let longer = subst (λ es. Stands (store_of core k) es
            (version_of_line (who_of core k) (seals_of core.entries))) (sym more.1)
            (law.longer core.entries more.0 (store_of core k)
            (version_of_line (who_of core k) (seals_of core.entries)) old.stands) in
            let store_is : store_of out k ≡ store_of core k = get_or-set_other core.stores slot k
            store no_store differs in
            subst (λ w. Stands (store_of out k) entries (version_of_line w (seals_of entries)))
            (sym same)
            (subst (λ s. Stands (store_of out k) entries (version_of_line (who_of core k) s))
            (sym seals_same)
            (subst (λ st. Stands st entries
            (version_of_line (who_of core k) (seals_of core.entries))) (sym store_is) longer));
      }

  -- ---- The new guest

  abbrev who : Who
  who = who_in core.boot session

  no_seals : (line : ℕ) → line < 2 ^ 15 → line_seals n line (seals_of core.entries) ≡ []
  no_seals line low = shape.to_come n line (omega arith) (let a = room in omega arith) low

  ver_is : (line : ℕ) → line < 2 ^ 15
      → version_of_line who (seals_of core.entries) line ≡ start_version plain.lines line
  ver_is line low =
      ap (λ l. start_version plain.lines line + length l) (no_seals line low) ∙ omega arith

  lines_are : plain.lines ≡ line_count owner.plain.bytes
  lines_are = ap (λ p. p.lines) plain_is

  abbrev memory : ℕ → List ℕ
  memory = line_of_bytes (start owner.plain).bytes

  begins : (line : ℕ) → line < 2 ^ 15
      → Behind owner who line (start_version plain.lines line) (seals_of core.entries) (memory line)
  unfolding start
  begins line low = elim (nat_lt line plain.lines) as (λ b. nat_lt line plain.lines ≡ b
      → Behind owner who line (cond b 1 0) (seals_of core.entries) (memory line)) [
        | true ↦ λ is. record {
          zeros = λ no_one. absurd (omega arith);
          owners = λ _. start_image owner.plain.bytes owner.plain.fits line low
              (let below : line < plain.lines = grind (arith, nat_tests) in omega (arith, lines_are));
          one = λ _ no_image. absurd (let yes_image : is_image_at who line 1 ≡ true = rw is refl in cc);
        }
        | false ↦ λ is. record {
          zeros = λ _. start_zeros owner.plain.bytes owner.plain.fits line low
              (let past : plain.lines ≤ line = grind (arith, nat_tests) in omega (arith, lines_are));
          owners = λ image. absurd (let no_image : is_image_at who line 0 ≡ false = rw is refl in cc);
          one = λ some_version. absurd (some_version refl);
        }
      ] refl

  size_of : (line : ℕ) → line < 2 ^ 15 → length (memory line) ≡ 32
  unfolding start
  size_of line low = start_size owner.plain.bytes owner.plain.fits line low

  no_way : (at line : ℕ) → ¬ IsOf (way_at core.ways at) slot line
  no_way at line is =
      dead
      (subst (λ k. IsLive core k) is.0
      (shape.live at (λ empty. absurd (let a = is.0 in omega arith))))

  line_new : (line : ℕ) → line < 2 ^ 15
      → LineHolds owner who slot line core.ways (seals_of core.entries) (memory line)
  line_new line low = record {
    cached = λ at is. absurd (no_way at line is);
    behind = λ _. subst (λ k. Behind owner who line k (seals_of core.entries) (memory line))
        (sym (ver_is line low)) (begins line low);
    above = λ version later top. none_stronger (names_line n line) (names_version n line version)
        (λ s is. first_true _ _ is) (seals_of core.entries) (no_seals line low);
    size = size_of line low;
  }

  private_new : Private Stands out slot owner memory
  private_new =
      let same : who_of out slot ≡ who = ap (who_in core.boot) here in
      let store_is : store_of out slot ≡ store = get_or-set_same core.stores slot store no_store
      (let places : length core.stores ≡ 17 = shape.store_places in omega arith) in
      let built = subst (λ t. Stands store (two ++ map hash_entry t) (start_version plain.lines))
      texts_are (law.builds two area plain.lines core.ram few_lines) in
      record {
        lines = λ line low. subst (λ w. LineHolds owner w slot line core.ways (seals_of entries)
            (memory line)) (sym same)
            (subst (λ s. LineHolds owner who slot line core.ways s (memory line)) (sym seals_same)
            (line_new line low));
        stands =
            subst (λ w. Stands (store_of out slot) entries (version_of_line w (seals_of entries)))
            (sym same)
            (subst (λ s. Stands (store_of out slot) entries (version_of_line who s))
            (sym seals_same)
            (subst (λ st. Stands st entries (version_of_line who (seals_of core.entries)))
            (sym store_is)
            (law.alike entries store (start_version plain.lines)
            (version_of_line who (seals_of core.entries)) (λ line low. sym (ver_is line low))
            built)));
      }

  follows_new : FollowsAlone owners entries n plain.id owner (start owner.plain)
  follows_new = record {
    whose = ap (λ p. owner_of owners p.id) plain_is ∙ whose.1;
    reaches = rw (steps_same n ∙ holds.slots.steps n (omega arith)) refl;
  }

  agrees_new : Agrees session core.cells entries slot owner (start owner.plain)
  unfolding start
  agrees_new = record {
    key = ap (λ p. p.key) plain_is;
    entry = ap (λ p. p.entry) plain_is;
    lines = lines_are;
    fresh = λ _. steps_same n ∙ holds.slots.steps n (omega arith);
    pc = λ entered. absurd (cc);
    npc = λ entered. absurd (cc);
    over = refl;
    handler = refl;
    saved = refl;
    mask = λ reg from to. bit_at-zero reg ∙ sym (ap own_bit (get_or-replicate 34 reg Lent Lent to));
    cells = λ reg from to tag. absurd
        (dead (subst (λ k. IsLive core k) tag
        (holds.slots.tags reg from to (λ empty. absurd (omega (arith, tag, empty))))));
    places = refl;
  }

  held_out : (k : ℕ) → IsLive out k → IsHeld Stands owners out k
  held_out k live = elim (eqb_tells k slot) [
    | inl own ↦ subst (λ j. IsHeld Stands owners out j) (sym own.1) (
      owner,
      start owner.plain,
      subst (λ (s : Session). FollowsAlone owners entries s.install s.id owner (start owner.plain))
          (sym here) follows_new,
      subst (λ (s : Session). Agrees s core.cells entries slot owner (start owner.plain)) (sym here)
          agrees_new,
      private_new,
      λ paused. absurd (let its = ap (λ s. s.state) here in cc),
    )
    | inr differs ↦
        let h = holds.slots.held k (new_live k differs.1 live) in
        let same = there k differs.1 in (
          h.0,
          h.1,
          subst (λ (s : Session). FollowsAlone owners entries s.install s.id h.0 h.1) (sym same)
              (FollowsAlone-same owners core.entries entries (session_of core k).install
              (session_of core k).id h.0 h.1 (steps_same (session_of core k).install) h.2),
          subst (λ (s : Session). Agrees s core.cells entries k h.0 h.1) (sym same)
              (Agrees-same (session_of core k) core.cells core.cells core.entries entries k h.0 h.1
              (λ reg from to tag. refl) (steps_same (session_of core k).install) h.3),
          private_other k differs.1 h.0 (line_of_bytes h.1.bytes) h.4,
          saves_carry core out refl k same
              (λ key name ct. ap (is_sealed key (register_message name ct)) seals_same) h.1 h.5,
        )
  ]

  -- the new install is the first of its number, so no Seal names a register of it
  seals_out : SealsHold out.sessions n entries
  seals_out = record {
    beyond = λ k line low past top. ap (line_seals k line) seals_same ∙ holds.slots.seals.beyond k
        line low past top;
    to_come = λ name is above key ct. ap (is_sealed key (register_message name ct)) seals_same
        ∙ holds.slots.seals.to_come name is (omega arith) key ct;
    epochs = λ k live name is its above key ct. ap (is_sealed key (register_message name ct))
        seals_same ∙ elim (eqb_tells k slot) [
          | inl own ↦ holds.slots.seals.to_come name is
              (let a = ap (λ s. s.install) (ap (session_of out) own.1 ∙ here) in omega (arith, its)) key
              ct
          | inr differs ↦
              let same = there k differs.1 in
              holds.slots.seals.epochs k (new_live k differs.1 live) name is
              (its ∙ ap (λ s. s.install) same) (subst (λ s. s.epoch < name.epoch) same above) key ct
        ];
    counted = λ k live. elim (eqb_tells k slot) [
      | inl own ↦ let a = ap (λ s. s.epoch) (ap (session_of out) own.1 ∙ here) in omega arith
      | inr differs ↦
          let same : (session_of out k).epoch ≡ (session_of core k).epoch =
          ap (λ s. s.epoch) (there k differs.1) in
          let old : (session_of core k).epoch ≤ length core.entries = holds.slots.seals.counted k
          (new_live k differs.1 live) in
          let a = grown in omega arith
    ];
    once = subst (λ s. IsOnce s) (sym seals_same) holds.slots.seals.once;
  }

  -- the new store's area is the one that was looked at
  area_new : (at : Option ℕ) → store.area ≡ at → IfSome at (λ a. HoldsRange ram a area_size)
  area_new None is = tt
  area_new (Some kept) is =
      let given : kept ≡ area = law.area_after_build area plain.lines kept core.ram is in
      let within : area + 411904 ≤ length core.ram = held in omega arith

  areas_out : AreasFit out
  areas_out k alive = elim (eqb_tells k slot) [
    | inl own ↦
        let here = get_or-set_same core.stores slot store no_store
        (let places : length core.stores ≡ 17 = shape.store_places in omega arith) in
        subst (λ j. HoldsArea ram (store_of out j)) (sym own.1)
        (subst (λ s. HoldsArea ram s) (sym here) (area_new store.area refl))
    | inr differs ↦
        let there_is : store_of out k ≡ store_of core k = get_or-set_other core.stores slot k store
        no_store differs.1 in
        subst (λ s. HoldsArea ram s) (sym there_is) (area_stays (store_of core k).area core.ram ram
        size (holds.slots.fits.areas k (new_live k differs.1 alive)))
  ]

  none_runs : (k : ℕ) → ¬ IsRunning out k
  none_runs k runs = elim (eqb_tells k slot) [
    | inl own ↦ let its = ap (λ s. s.state) (ap (session_of out) own.1 ∙ here) in cc
    | inr differs ↦ none k (sym (ap (λ s. s.state) (there k differs.1)) ∙ runs)
  ]

  pub install_out : Holds Stands owners out
  install_out = record {
    slots = record {
      alone = λ k id is. elim (which_install k id is) [
        | inl old ↦ IsAlone-same owners core.entries entries k id (steps_same k)
            (holds.slots.alone k id old)
        | inr new ↦ (
          owner,
          start owner.plain,
          subst (λ i. FollowsAlone owners entries i id owner
              (start owner.plain)) new.0
              (subst (λ i. FollowsAlone owners entries n i owner (start owner.plain)) new.1
              follows_new),
        )
      ];
      held = held_out;
      tags = λ reg from to tagged. (old_live _ (holds.slots.tags reg from to tagged)).1;
      ids = λ k live id is. elim (eqb_tells k slot) [
        | inl own ↦
            let at = ap (session_of out) own.1 ∙ here in
            elim (which_install (session_of out k).install id is) [
              | inl old ↦ absurd (let low = holds.slots.installs (session_of out k).install id
                  old in let a = ap (λ s. s.install) at in omega arith)
              | inr new ↦ sym new.1 ∙ sym (ap (λ s. s.id) at)
            ]
        | inr differs ↦
            let same = there k differs.1 in
            elim (which_install (session_of out k).install id is) [
              | inl old ↦ holds.slots.ids k (new_live k differs.1 live) id
                  (subst (λ (s : Session). IsInstalled core.entries s.install id) same old)
                  ∙ sym (ap (λ s. s.id) same)
              | inr new ↦ absurd (let c : (session_of core k).install ≤ core.installs =
                  shape.numbers k in let a = ap (λ s. s.install) same in let b = new.0 in
                  omega arith)
            ]
      ];
      steps = λ k above. steps_same k ∙ holds.slots.steps k (omega arith);
      installs = λ k id is. elim (which_install k id is) [
        | inl old ↦
            omega (arith, holds.slots.installs k id old)
        | inr new ↦ omega (arith, new.0)
      ];
      shape = shape_out;
      fits = record {
        frames = frames_stay core.pages core.ram ram size holds.slots.fits.frames;
        areas = areas_out;
      };
      seals = seals_out;
      cell_places = holds.slots.cell_places;
      session_places = length-set core.sessions slot session ∙ holds.slots.session_places;
    };
    running = record {
      one = λ k other runs. absurd (none_runs k runs);
      tagged = λ k reg runs. absurd (none_runs k runs);
    };
  }

pub install_keeps : (Stands : StandsFor) (owners : List Owner) (v : Versions) → VersionLaw v Stands
    → (core : CoreState) → OwnersTell core.machine owners → Holds Stands owners core
    → (slot place area : ℕ) (plain : Unwrapped) → 1 ≤ slot → slot ≤ 16
    → ((other : ℕ) → ¬ IsRunning core other) → (session_of core slot).state ≡ state.Free
    → HoldsRange core.ram area area_size
    → envelope_contents core.machine (envelope_in_ram core place) ≡ Some plain
    → IsTrusted (sealed_by core.machine owners) (after_install v core slot place area plain).entries
    → Holds Stands owners (after_install v core slot place area plain)
unfolding after_install
install_keeps Stands owners v law core tell holds slot place area plain some known none is_free held
    opens honest =
    install_out Stands owners v law core tell holds slot place area plain some known none is_free
    opens held (v.texts_of_build area plain.lines core.ram) (v.ram_after_build area plain.lines
    core.ram) (law.size_after_build area plain.lines core.ram held) honest refl
