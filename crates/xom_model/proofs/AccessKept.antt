-- A private access keeps every slot's memory, and the line that it makes ready is its slot's own.
use Rattle.std.proofs.Common.{◌≡◌, ◌≢◌, inl, inr, ◌==◌, ℕ, ◌<◌, ◌≤◌, ◌^◌, List, [], ◌∷◌, ◌++◌, Option, Some, None, Result, Ok, Err, length, map, replicate, refl, sym, ◌∙◌, ap, subst, arith, true}
use Rattle.std.proofs.Math.Decide.{dec_lt}
use Rattle.std.proofs.lemmas.List.{get_or_past, get_or-set_same, length-append, length-take}
use Rattle.std.proofs.lemmas.List.Quantifiers.{position-Some}
use Rattle.std.proofs.lemmas.Bool.{cond_both}
use Rattle.std.proofs.lemmas.Bool.Decides.{eqb_tells}
use Rattle.xom_base.specs.declared.entry.Entry.{Entry}
use Rattle.xom_base.specs.declared.event.Rule.{Rule}
use Rattle.xom_base.specs.declared.event.Rule.TheVariants as rule
use Rattle.xom_seal.specs.Messages.{line_message}
use Rattle.xom_seal.specs.Sealing.{line_masked, unsealed_line}
use Rattle.xom_owners.specs.declared.owner.Owner.{Owner}
use Rattle.xom_owners.specs.Owners.{owner_of}
use Rattle.session_table.specs.declared.session.Session.{Session}
use Rattle.session_table.specs.declared.session.SlotState.TheVariants as state
use Rattle.session_table.specs.Sessions.{free, is_live, session_after_leaving}
use Rattle.xom_model.specs.declared.reach.Reach.{Reach}
use Rattle.xom_model.specs.declared.reach.Reach.TheVariants as reach
use Rattle.xom_versions.specs.declared.store.Torn.{Torn}
use Rattle.xom_versions.specs.Store.{NoCollision, hash_entry}
use Rattle.image_sealer.specs.Membership.{is_sealed}
use Rattle.journal_findings.specs.Findings.{sealed_by}
use Rattle.xom_model.specs.Honest.{Sealing, seals_of}
use Rattle.xom_versions.specs.Versions.{VersionLaw, Versions}
use Rattle.xom_model.specs.Versions.{StandsFor}
use Rattle.line_cache.specs.declared.way.Way.{Way}
use Rattle.line_cache.specs.Ways.{free_in_set, free_or_pointed, free_way, is_free, is_of, new_way, place_for, place_of_line, pointers_after, set_of, way_at, way_of_pointer}
use Rattle.line_cache.proofs.Search.{none_passes}
use Rattle.page_map.specs.Pages.{frame_of}
use Rattle.xom_model.specs.State.{CoreState, core_with_hashes, core_with_way, page_of, session_of, store_of, with_entry}
use Rattle.xom_model.specs.Lines.{accept_entry, ct_place, keys_of, line_name_of, line_seals, sealed_at, version_of_line, who_in, who_of}
use Rattle.xom_model.specs.Access.{access, after_opening, after_stop, brought, cleared_at, reach_after_placing, reach_after_victim, reach_by_cache, reach_by_frame, reach_in_frame, with_pointers, without_guest}
use Rattle.xom_model.specs.Holds.{Behind, IsLive, IsOf, Private}
use Rattle.xom_model.specs.Kept.{Kept}
use Rattle.xom_model.proofs.Growth.{IsTrusted, few_seals, goes_entry, goes_hashes, goes_none, honest_before, seals_hashes, seals_none}
use Rattle.xom_model.proofs.Longer.{Longer, longer_on, longer_placed, longer_stopped}
use Rattle.xom_model.proofs.KeptLaws.{kept_none, kept_on, kept_rest}
use Rattle.xom_model.proofs.Gone.{stopped_kept}
use Rattle.xom_model.proofs.PutKept.{MayStand, put_kept}
use Rattle.xom_model.proofs.SealCounts.{few_pass}
use Rattle.xom_model.proofs.SealKept.{few_first}
use Rattle.xom_model.proofs.ClearKept.{Clears, Sound, Stays, clears, live_known, sound_kept}
use Rattle.xom_model.proofs.Opening.{OwnersTell, opens_plain, unsealed_is}

-- ---- Looking a line up

is_of-IsOf : (slot line : ℕ) (way : Way) → is_of slot line way ≡ true → IsOf way slot line
is_of-IsOf slot line way is = elim (eqb_tells way.slot slot) [
  | inl first ↦ elim (eqb_tells way.line line) [
    | inl second ↦ (first.1, second.1)
    | inr other ↦
        absurd (let e = rw (first.0, other.0) at is in cc)
  ]
  | inr other ↦ absurd (let e = rw other.0 at is in cc)
]

IsOf-is_of : (slot line : ℕ) (way : Way) → IsOf way slot line → is_of slot line way ≡ true
IsOf-is_of slot line way is = elim (eqb_tells way.slot slot) [
  | inl first ↦ elim (eqb_tells way.line line) [
    | inl second ↦ rw (first.0, second.0) refl
    | inr other ↦ absurd (other.1 is.1)
  ]
  | inr other ↦ absurd (other.1 is.0)
]

pub found-IsOf : (ways : List Way) (slot line place : ℕ) → place_of_line ways slot line ≡ Some place
    → IsOf (way_at ways place) slot line
found-IsOf ways slot line place is =
    is_of-IsOf slot line (way_at ways place)
    (position-Some (is_of slot line) ways place free_way is).1

pub found-low : (ways : List Way) (slot line place : ℕ) → length ways ≡ 128
    → place_of_line ways slot line ≡ Some place → place < 128
found-low ways slot line place places is =
    let within = (position-Some (is_of slot line) ways place free_way is).0 in omega arith

pub found-none : (ways : List Way) (slot line place : ℕ) → slot ≢ 0 → place_of_line ways slot line ≡ None
    → ¬ IsOf (way_at ways place) slot line
found-none ways slot line place some none is = elim (dec_lt place (length ways)) [
  | yes within ↦ let no_way = none_passes (is_of slot line) ways place free_way none within in
      let its = IsOf-is_of slot line (way_at ways place) is in cc
  | no past ↦ some (sym is.0 ∙ ap (λ w. w.slot) (get_or_past ways place free_way (omega arith)))
]

-- ---- The chosen place

set-small : (ways : List Way) (line : ℕ) → length (set_of ways line) ≤ 4
set-small ways line = simp (length-take) (omega arith)

chosen-low : (ways : List Way) (line named : ℕ) (free : Option ℕ) → free_in_set ways line ≡ free
    → named < 4 → free_or_pointed free named < 4
unfolding free_in_set
chosen-low ways line named (Some way) is low =
    let within = (position-Some is_free (set_of ways line) way free_way is).0 in let small =
    set-small ways line in omega arith
chosen-low ways line named None is low = low

pub place_for-low : (ways : List Way) (pointers : List ℕ) (line : ℕ)
    → place_for ways pointers line < 128
place_for-low ways pointers line =
    let low = chosen-low ways line (way_of_pointer pointers line) (free_in_set ways line) refl
    (omega arith) in omega arith

-- ---- What an access comes to

-- the line is ready in a place of its live slot, or its page isn't mapped and nothing was done, or
-- its slot was stopped
abbrev pub Came : CoreState → CoreState → ℕ → ℕ → Reach → Type 0
Came base new slot line (reach.Ready place) =
    (session_of new slot ≡ session_of base slot) × IsOf (way_at new.ways place) slot line
    × (place < 128)
Came base new slot line (reach.PageFault page) = new ≡ base
Came base new slot line (reach.Stopped why) = ¬ IsLive new slot

pub record Comes (Stands : StandsFor) (owners : List Owner) (base : CoreState) (slot line : ℕ)
    (new : CoreState) (answer : Reach) : Type 0 where
  pub kept : Kept Stands owners base new
  pub came : Came base new slot line answer

module _ (Stands : StandsFor) (owners : List Owner) (v : Versions) (law : VersionLaw v Stands)
    (sealed : List Sealing) (slot line : ℕ) (some : slot ≢ 0) (low : line < 2 ^ 15) (base : CoreState)
    (sound : Sound Stands owners base) (live : IsLive base slot) where
  -- a slot that was stopped isn't live
  stopped_dead : (core : CoreState) (k : ℕ) (why : Rule) → length core.sessions ≡ 17 → k ≤ 16
      → ¬ IsLive (after_stop core k why) k
  unfolding without_guest
  stopped_dead core k why places known lives =
      let here = get_or-set_same core.sessions k (session_after_leaving (session_of core k) (state.Stopped why)) free
      (omega arith) in
      let its = ap (λ s. is_live s.state) here in cc

  -- ---- A line is placed

  module _ (core : CoreState) (kept : Kept Stands owners base core) (stays : Stays base core slot)
      (bytes : List ℕ)
      (alone : (other : ℕ) → ¬ IsOf (way_at core.ways other) slot line) (frame : ℕ)
      (is_mapped : frame_of core.pages slot (page_of line) ≡ Some frame)
      (fits : (owner : Owner) (memory : ℕ → List ℕ) → owner_of owners (session_of base slot).id
      ≡ Some owner → Private Stands base slot owner memory → bytes ≡ memory line) where
    core_sound : Sound Stands owners core
    core_sound = sound_kept Stands owners base core kept sound

    abbrev marked : CoreState
    marked = with_pointers core line

    chosen_kept : Kept Stands owners core marked
    chosen_kept =
        kept_rest Stands owners v law core (pointers_after core.ways core.pointers line) core.ram
        core.entries (goes_none core.entries) refl refl

    chosen_sound : Sound Stands owners marked
    chosen_sound = sound_kept Stands owners core marked chosen_kept core_sound

    abbrev place : ℕ
    place = place_for core.ways core.pointers line

    module _ (mid : CoreState) (answer : Option Rule) (clear : Clears Stands owners marked place mid
        answer) where
      mid_kept : Kept Stands owners base mid
      mid_kept =
          kept_on Stands owners base marked mid
          (kept_on Stands owners base core marked kept chosen_kept) clear.kept

      -- the line may stand there where its slot stayed
      module _ (stayed : Stays marked mid slot) where
        session_mid : session_of mid slot ≡ session_of base slot
        session_mid = stayed.0 ∙ stays.0

        may : MayStand Stands owners base mid place (new_way slot line bytes)
        may = record {
          clean = refl;
          live = λ _. ap (λ (s : Session). is_live s.state) session_mid ∙ live;
          inside = λ _. low;
          mapped = λ _. (frame, stayed.1 (page_of line) ∙ is_mapped);
          alone = λ _ other is. absurd
              (alone other (subst (λ w. IsOf w slot line)
              (clear.ways other (λ none. some (sym is.0 ∙ none))) is));
          fits = λ _. fits;
        }

        within : place < length mid.ways
        within =
            let a = place_for-low core.ways core.pointers line in let b : length core.ways ≡ 128 =
            core_sound.shape.way_places in
            let c : length mid.ways ≡ length core.ways = clear.places in omega arith

        filled : Comes Stands owners base slot line (core_with_way mid place (new_way slot line bytes))
            (reach.Ready place)
        filled = record {
          kept = put_kept Stands owners base mid mid_kept place (new_way slot line bytes) within may
              clear.done;
          came = (
            session_mid,
            (let here = get_or-set_same mid.ways place (new_way slot line bytes)
                free_way within in (ap (λ w. w.slot) here, ap (λ w. w.line) here)),
            place_for-low
                core.ways core.pointers line,
          );
        }

    -- by what the clearing came to
    put_comes : (result : CoreState × Option Rule)
        → Clears Stands owners marked place result.0 result.1
        → Comes Stands owners base slot line (reach_after_victim v (way_at core.ways place).slot
        place slot line bytes result).0 (reach_after_victim v (way_at core.ways place).slot place
        slot line bytes result).1
    put_comes (mid, None) clear = filled mid None clear (clear.calm refl slot)
    put_comes (mid, Some why) clear = elim (eqb_tells (way_at core.ways place).slot slot) [
      | inl own ↦ rw own.0 (record {
        kept = mid_kept mid (Some why) clear;
        came =
            subst (λ k. ¬ IsLive mid k) own.1 (clear.stop why refl);
      })
      | inr other ↦ rw other.0
          (filled mid (Some why) clear (clear.others slot (λ same. other.1 (sym same))))
    ]

    put_entries : (result : CoreState × Option Rule)
        → (reach_after_victim v (way_at core.ways place).slot place slot line bytes
        result).0.entries ≡ result.0.entries
    put_entries (mid, None) = refl
    put_entries (mid, Some why) =
        cond_both ((way_at core.ways place).slot == slot) _ _
        (λ (r : CoreState × Reach). r.0.entries ≡ mid.entries) (λ _. refl) (λ _. refl)

    pub placed_comes : IsTrusted sealed (reach_after_placing v core slot line bytes).0.entries
        → Comes Stands owners base slot line (reach_after_placing v core slot line bytes).0
        (reach_after_placing v core slot line bytes).1
    unfolding reach_after_placing
    placed_comes honest =
        let result = cleared_at v marked place in
        put_comes result (clears Stands owners v law sealed marked chosen_sound place
        (subst (λ es. IsTrusted sealed es) (put_entries result) honest))

  -- ---- A line is read and opened

  module _ (tell : OwnersTell base.machine owners) (sealings : sealed ≡ sealed_by base.machine
      owners) (core : CoreState) (kept : Kept Stands owners base core) (stays : Stays base core slot)
      (seals_same : seals_of core.entries ≡ seals_of base.entries) (alone_base : (other : ℕ)
      → ¬ IsOf (way_at base.ways other) slot line) (ways_same : core.ways ≡ base.ways)
      (frame : ℕ) (is_mapped : frame_of core.pages slot (page_of line) ≡ Some frame)
      (version : ℕ) (version_is : version ≡ version_of_line (who_of base slot)
      (seals_of base.entries) line) where
    sound_now : Sound Stands owners core
    sound_now = sound_kept Stands owners base core kept sound

    live_now : IsLive core slot
    live_now = ap (λ (s : Session). is_live s.state) stays.0 ∙ live

    known_now : slot ≤ 16
    known_now = live_known core slot sound_now.places live_now

    alone_now : (other : ℕ) → ¬ IsOf (way_at core.ways other) slot line
    alone_now other is =
        alone_base other (subst (λ w. IsOf (way_at w other) slot line) ways_same is)

    who_same : who_of core slot ≡ who_of base slot
    who_same =
        ap (λ (s : Session). who_in core.boot s) stays.0
        ∙ ap (λ b. who_in b (session_of base slot)) kept.boot

    -- what stands behind the line
    behind_now : (owner : Owner) (memory : ℕ → List ℕ) → Private Stands base slot owner memory
        → Behind owner (who_of base slot) line version (seals_of base.entries) (memory line)
    behind_now owner memory holds =
        subst (λ n. Behind owner (who_of base slot) line n (seals_of base.entries) (memory line))
        (sym version_is)
        ((holds.lines line low).behind (λ at is. absurd (alone_base at is)))

    -- its slot is stopped
    stop_comes : (why : Rule)
        → Comes Stands owners base slot line (after_stop core slot why) (reach.Stopped why)
    stop_comes why = record {
      kept = kept_on Stands owners base core (after_stop core slot why) kept
          (stopped_kept Stands owners v law core slot some sound_now.places known_now sound_now.whole
          sound_now.shape why);
      came = stopped_dead core slot why sound_now.places known_now;
    }

    version_low : length base.entries < 2 ^ 63 → version < 2 ^ 64
    version_low room =
        let a = few_first (who_of base slot).lines line in
        let b : length (line_seals (who_of base slot).install line (seals_of base.entries)) ≤ length
        (seals_of base.entries) = few_pass _ (seals_of base.entries) in
        let c : length (seals_of base.entries) ≤ length base.entries = few_seals base.entries in
        let d = version_is in omega arith

    room_base : IsTrusted sealed core.entries → length base.entries < 2 ^ 63
    room_base honest =
        let all : length core.entries < 2 ^ 63 = honest.room in let whole = ap length kept.more.1
        ∙ length-append base.entries kept.more.0 in omega arith

    -- zeros
    zeros_comes : version ≡ 0
        → IsTrusted sealed (reach_after_placing v core slot line (replicate 32 0)).0.entries
        → Comes Stands owners base slot line (reach_after_placing v core slot line
        (replicate 32 0)).0 (reach_after_placing v core slot line (replicate 32 0)).1
    zeros_comes none honest =
        placed_comes core kept stays (replicate 32 0) alone_now frame is_mapped
        (λ owner memory whose holds. sym ((behind_now owner memory holds).zeros none)) honest

    module _ (nonzero : version ≢ 0) (place : ℕ) (ct bytes : List ℕ)
        (bytes_are : bytes ≡ line_masked (line_name_of (who_of core slot) line version)
        (keys_of (who_of core slot) line version) ct) where
      abbrev accept : Entry
      accept = accept_entry (who_of core slot) line version ct place

      abbrev accepted : CoreState
      accepted = with_entry core accept

      accept_kept : Kept Stands owners core accepted
      accept_kept = kept_rest Stands owners v law core core.pointers core.ram
          (core.entries ++ accept ∷ [])
          (goes_entry core.entries accept
          (record { step = λ n. refl; install = λ n id no_entry. no_entry }))
          (seals_none core.entries accept refl) refl

      -- the bytes are those of the program
      accept_fits : IsTrusted sealed accepted.entries → (owner : Owner) (memory : ℕ → List ℕ)
          → owner_of owners (session_of base slot).id ≡ Some owner
          → Private Stands base slot owner memory → bytes ≡ memory line
      accept_fits honest owner memory whose holds =
          let who = who_of base slot in
          let room = let all : length (core.entries ++ accept ∷ []) < 2 ^ 63 = honest.room in
          let whole = length-append core.entries (accept ∷ []) in let more = ap length kept.more.1
          ∙ length-append base.entries kept.more.0 in let few : length base.entries < 2 ^ 63 =
          omega arith in few in
          let was = honest.honest.forgery core.entries []
          (keys_of (who_of core slot) line version).tag.0
          (line_message (line_name_of (who_of core slot) line version) ct) place refl in
          let was_base = subst (λ w. is_sealed (keys_of w line version).tag.0
          (line_message (line_name_of w line version) ct) (sealed ++ seals_of core.entries) ≡ true)
          who_same was in
          let was_owners = subst (λ l. is_sealed (keys_of who line version).tag.0
          (line_message (line_name_of who line version) ct) (l ++ seals_of core.entries) ≡ true)
          sealings was_base in
          let was_seals = subst (λ l. is_sealed (keys_of who line version).tag.0
          (line_message (line_name_of who line version) ct) (sealed_by base.machine owners ++ l)
          ≡ true) seals_same was_owners in
          bytes_are
          ∙ ap (λ w. line_masked (line_name_of w line version) (keys_of w line version) ct) who_same
          ∙ opens_plain base.machine owners tell owner who line version (seals_of base.entries)
          (memory line) ct whose (sound.shape.ids slot) sound.shape.boot
          (let a : (session_of base slot).install ≤ base.installs = sound.shape.numbers slot in
          let b : base.installs ≤ length base.entries = sound.shape.count in omega arith)
          low (version_low room) nonzero (holds.lines line low).size (behind_now owner memory holds)
          sound.shape.no_image was_seals

      accept_comes : IsTrusted sealed accepted.entries
          → IsTrusted sealed (reach_after_placing v accepted slot line bytes).0.entries
          → Comes Stands owners base slot line (reach_after_placing v accepted slot line bytes).0
          (reach_after_placing v accepted slot line bytes).1
      accept_comes before honest =
          placed_comes accepted (kept_on Stands owners base core accepted kept accept_kept) stays
          bytes alone_now frame is_mapped (accept_fits before) honest

  -- ---- The whole access

  module _ (tell : OwnersTell base.machine owners) (sealings : sealed ≡ sealed_by base.machine
      owners) where
    -- the line isn't cached: its version is asked for
    module _ (frame : ℕ) (is_mapped : frame_of base.pages slot (page_of line) ≡ Some frame)
        (alone_base : (other : ℕ) → ¬ IsOf (way_at base.ways other) slot line)
        (texts : List (List ℕ)) (texts_are : v.texts_of_version (store_of base slot) line
        base.ram ≡ texts) where
      abbrev asked : CoreState
      asked = core_with_hashes base texts

      asked_seals : seals_of asked.entries ≡ seals_of base.entries
      asked_seals = seals_hashes base.entries texts

      asked_kept : Kept Stands owners base asked
      asked_kept =
          kept_rest Stands owners v law base base.pointers base.ram asked.entries
          (goes_hashes base.entries texts) asked_seals refl

      asked_stays : Stays base asked slot
      asked_stays = (refl, λ page. refl)

      asked_version : (version : ℕ)
          → v.answer_of_version (store_of base slot) line base.ram ≡ Ok version
          → NoCollision asked.entries
          → version ≡ version_of_line (who_of base slot) (seals_of base.entries) line
      asked_version version is none =
          law.versions base.entries (store_of base slot) (version_of_line (who_of base slot)
          (seals_of base.entries)) line version base.ram (sound.known slot some live).3.stands low
          (subst (λ t. NoCollision (base.entries ++ map hash_entry t)) (sym texts_are) none) is

      -- what was read opens, or stops the slot
      opened_comes : (version : ℕ)
          → version ≡ version_of_line (who_of base slot) (seals_of base.entries) line → version ≢ 0
          → (address : ℕ) (ct : List ℕ) (found_bytes : Option (List ℕ))
          → ((bytes : List ℕ) → found_bytes ≡ Some bytes → bytes ≡ line_masked
          (line_name_of (who_of asked slot) line version) (keys_of (who_of asked slot) line version)
          ct)
          → IsTrusted sealed (after_opening v asked slot line version address ct
          found_bytes).0.entries
          → Comes Stands owners base slot line (after_opening v asked slot line version address ct
          found_bytes).0 (after_opening v asked slot line version address ct found_bytes).1
      opened_comes version is nonzero address ct None bytes_are honest =
          stop_comes tell sealings asked asked_kept asked_stays asked_seals alone_base refl frame
          is_mapped version is (rule.LineTag line)
      opened_comes version is nonzero address ct (Some bytes) bytes_are honest =
          let accept = with_entry asked (accept_entry (who_of asked slot) line version ct
          address) in
          let more = longer_placed v accept slot line bytes in
          accept_comes tell sealings asked asked_kept asked_stays asked_seals alone_base refl frame
          is_mapped version is nonzero address ct bytes (bytes_are bytes refl)
          (honest_before accept.entries more.0 sealed (subst (λ es. IsTrusted sealed es) more.1
          honest)) honest

      read_comes : (version : ℕ)
          → version ≡ version_of_line (who_of base slot) (seals_of base.entries) line → version ≢ 0
          → IsTrusted sealed (reach_by_frame v asked slot line frame version).0.entries
          → Comes Stands owners base slot line (reach_by_frame v asked slot line frame version).0
          (reach_by_frame v asked slot line frame version).1
      read_comes version is nonzero honest =
          opened_comes version is nonzero (ct_place frame line) (sealed_at base.ram frame line).ct
          (unsealed_line (line_name_of (who_of asked slot) line version)
          (keys_of (who_of asked slot) line version) (sealed_at base.ram frame line))
          (λ bytes opens. unsealed_is (line_name_of (who_of asked slot) line version)
          (keys_of (who_of asked slot) line version) (sealed_at base.ram frame line) bytes opens)
          honest

      opened_longer : (version address : ℕ) (ct : List ℕ) (found_bytes : Option (List ℕ))
          → Longer asked.entries (after_opening v asked slot line version address ct
          found_bytes).0.entries
      opened_longer version address ct None = longer_stopped asked slot (rule.LineTag line)
      opened_longer version address ct (Some bytes) =
          let accept = with_entry asked (accept_entry (who_of asked slot) line version ct
          address) in
          longer_on asked.entries accept.entries _ (_, refl)
          (longer_placed v accept slot line bytes)

      brought_longer : (answer : Result ℕ Torn)
          → Longer asked.entries (brought v asked slot line frame answer).0.entries
      brought_longer (Err torn) = longer_stopped asked slot (rule.TreeNode torn.level)
      brought_longer (Ok version) =
          cond_both (version == 0) (reach_after_placing v asked slot line (replicate 32 0))
          (reach_by_frame v asked slot line frame version) (λ (r : CoreState × Reach). Longer
          asked.entries r.0.entries)
          (λ _. longer_placed v asked slot line (replicate 32 0))
          (λ _. opened_longer version (ct_place frame line) (sealed_at base.ram frame line).ct
          (unsealed_line (line_name_of (who_of asked slot) line version)
          (keys_of (who_of asked slot) line version) (sealed_at base.ram frame line)))

      brought_comes : (answer : Result ℕ Torn)
          → v.answer_of_version (store_of base slot) line base.ram ≡ answer
          → IsTrusted sealed (brought v asked slot line frame answer).0.entries
          → Comes Stands owners base slot line (brought v asked slot line frame answer).0
          (brought v asked slot line frame answer).1
      brought_comes (Err torn) is honest =
          stop_comes tell sealings asked asked_kept asked_stays asked_seals alone_base refl frame
          is_mapped (version_of_line (who_of base slot) (seals_of base.entries) line) refl
          (rule.TreeNode torn.level)
      brought_comes (Ok version) is honest =
          let more = brought_longer (Ok version) in
          let before : IsTrusted sealed asked.entries = honest_before asked.entries more.0 sealed
          (subst (λ es. IsTrusted sealed es) more.1 honest) in
          let number = asked_version version is before.honest.collision in
          elim (eqb_tells version 0) [
            | inl none ↦ rw none.0 (zeros_comes tell sealings asked asked_kept asked_stays
                asked_seals alone_base refl frame is_mapped version number none.1
                (rw none.0 at honest))
            | inr other ↦ rw other.0 (read_comes version number other.1 (rw other.0 at honest))
          ]

    looked_comes : (frame : ℕ) → frame_of base.pages slot (page_of line) ≡ Some frame
        → (at : Option ℕ) → place_of_line base.ways slot line ≡ at
        → IsTrusted sealed (reach_by_cache v base slot line frame at).0.entries
        → Comes Stands owners base slot line (reach_by_cache v base slot line frame at).0
        (reach_by_cache v base slot line frame at).1
    looked_comes frame is_mapped (Some place) is honest =
        record {
          kept = kept_none Stands owners base;
          came = (
            refl,
            found-IsOf base.ways slot line place is,
            found-low base.ways slot line place
                sound.shape.way_places is,
          );
        }
    looked_comes frame is_mapped None is honest =
        brought_comes frame is_mapped (λ other. found-none base.ways slot line other some is)
        (v.texts_of_version (store_of base slot) line base.ram) refl
        (v.answer_of_version (store_of base slot) line base.ram) refl honest

    mapped_comes : (frame : Option ℕ) → frame_of base.pages slot (page_of line) ≡ frame
        → IsTrusted sealed (reach_in_frame v base slot line frame).0.entries
        → Comes Stands owners base slot line (reach_in_frame v base slot line frame).0
        (reach_in_frame v base slot line frame).1
    mapped_comes None is honest = record { kept = kept_none Stands owners base; came = refl }
    mapped_comes (Some frame) is honest =
        looked_comes frame is (place_of_line base.ways slot line) refl honest

    pub access_comes : IsTrusted sealed (access v base slot line).0.entries
        → Comes Stands owners base slot line (access v base slot line).0 (access v base slot line).1
    unfolding access
    access_comes honest = mapped_comes (frame_of base.pages slot (page_of line)) refl honest
