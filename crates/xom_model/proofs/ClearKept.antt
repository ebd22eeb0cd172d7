-- A place of the cache is cleared: what stands dirty there is sealed and behind its line, or its
-- slot was stopped.
use Rattle.std.proofs.Common.{◌≡◌, ◌≢◌, inl, inr, ℕ, ◌+◌, ◌*◌, ◌<◌, ◌≤◌, ◌^◌, Bool, List, [], ◌∷◌, ◌++◌, Option, Some, None, Result, Ok, Err, length, map, set, get_or, refl, sym, ◌∙◌, ap, subst, arith, true, false, length-set}
use Rattle.std.proofs.lemmas.List.{get_or-set_same, get_or-set_other, get_or_past, length-append, length-map}
use Rattle.std.proofs.lemmas.Bool.Decides.{eqb_tells}
use Rattle.xom_base.specs.declared.event.Rule.{Rule}
use Rattle.xom_base.specs.declared.event.Rule.TheVariants as rule
use Rattle.xom_owners.specs.declared.owner.Owner.{Owner}
use Rattle.xom_owners.specs.Owners.{owner_of}
use Rattle.session_table.specs.declared.session.Session.{Session}
use Rattle.session_table.specs.declared.session.SlotState.TheVariants as state
use Rattle.session_table.specs.Sessions.{free, is_live, session_after_leaving}
use Rattle.xom_versions.specs.declared.store.Torn.{Torn}
use Rattle.xom_versions.specs.Store.{NoCollision, Store, hash_entry, no_store}
use Rattle.xom_model.specs.Honest.{Sealing, seals_of}
use Rattle.xom_versions.specs.Versions.{VersionLaw, Versions}
use Rattle.xom_model.specs.Versions.{StandsFor}
use Rattle.line_cache.specs.declared.way.Way.{Way}
use Rattle.page_map.specs.Pages.{frame_of}
use Rattle.line_cache.specs.Ways.{way_at}
use Rattle.xom_model.specs.State.{CoreState, session_of, store_of, page_of}
use Rattle.xom_model.specs.Lines.{keys_of, line_name_of, seal_entry, sealed_as, version_of_line, who_of}
use Rattle.xom_seal.proofs.SealLaws.{sealed_lines_have_their_length}
use Rattle.xom_model.proofs.RamSize.{length-with_sealed, areas_stay, frames_stay}
use Rattle.xom_model.specs.Access.{after_raise, after_seal, after_stop, after_victim, cleared_at, or_stopped, sealed_by_raise, without_guest}
use Rattle.xom_model.specs.Holds.{IsLive, Private, Shape, RamFits}
use Rattle.xom_model.specs.Kept.{Kept}
use Rattle.xom_model.proofs.Growth.{IsTrusted, goes_hashes, no_collision_before, seals_hashes}
use Rattle.xom_model.proofs.KeptLaws.{kept_none, kept_on, kept_rest}
use Rattle.xom_model.proofs.Gone.{free_if-left, less, pages-other, stopped_kept, way-without}
use Rattle.xom_model.proofs.PutKept.{IsDone}
use Rattle.xom_model.proofs.SealKept.{seal_keeps}

-- A core in which every live slot's private memory is some owner's guest's.
pub record Sound (Stands : StandsFor) (owners : List Owner) (core : CoreState) : Type 0 where
  pub shape : Shape core
  pub known : (slot : ℕ) → slot ≢ 0 → IsLive core slot
      → (owner : Owner) × (memory : ℕ → List ℕ)
      × (owner_of owners (session_of core slot).id ≡ Some owner) × Private Stands core slot owner
      memory
  pub places : length core.sessions ≡ 17
  pub whole : length core.cells ≡ 34

pub sound_kept : (Stands : StandsFor) (owners : List Owner) (core new : CoreState)
    → Kept Stands owners core new → Sound Stands owners core → Sound Stands owners new
sound_kept Stands owners core new kept sound = record {
  shape = kept.shape sound.shape;
  known = λ slot some live.
      let same = kept.same slot live in
      let before = sound.known slot some (sym (ap (λ s. is_live s.state) same) ∙ live) in (
        before.0,
        before.1,
        ap (λ (s : Session). owner_of owners s.id) same ∙ before.2,
        kept.private
            slot some live before.0 before.1 before.2 before.3,
      );
  places = kept.session_places ∙ sound.places;
  whole = kept.cell_places ∙ sound.whole;
}

-- a live slot is one of the slots
pub live_known : (core : CoreState) (slot : ℕ) → length core.sessions ≡ 17 → IsLive core slot
    → slot ≤ 16
live_known core slot places live = elim (less slot 17) [
  | inl within ↦ omega arith
  | inr past ↦ absurd (let its = ap (λ s. is_live s.state) (get_or_past core.sessions slot free
      (omega arith)) in cc)
]

-- a slot's session and pages stay
abbrev pub Stays : CoreState → CoreState → ℕ → Type 0
Stays core new slot =
    (session_of new slot ≡ session_of core slot)
    × ((page : ℕ) → frame_of new.pages slot page ≡ frame_of core.pages slot page)

-- What is so after a place was cleared.
pub record Clears (Stands : StandsFor) (owners : List Owner) (core : CoreState) (place : ℕ)
    (new : CoreState) (answer : Option Rule) : Type 0 where
  pub kept : Kept Stands owners core new
  pub done : IsDone Stands owners new place
  pub ways : (at : ℕ) → (way_at new.ways at).slot ≢ 0 → way_at new.ways at ≡ way_at core.ways at
  pub places : length new.ways ≡ length core.ways
  pub calm : answer ≡ None → (slot : ℕ) → Stays core new slot
  pub others : (slot : ℕ) → slot ≢ (way_at core.ways place).slot → Stays core new slot
  pub stop : (why : Rule) → answer ≡ Some why → ¬ IsLive new (way_at core.ways place).slot

-- ---- Other stores, as many, and another RAM

stores_shape : (core : CoreState) (stores : List Store) (ram : List ℕ)
    → length stores ≡ length core.stores → Shape core
    → Shape (record core { stores = stores; ram = ram })
stores_shape core stores ram whole s = record {
  live = s.live;
  inside = s.inside;
  mapped = s.mapped;
  one = s.one;
  clean = s.clean;
  owned = s.owned;
  no_image = s.no_image;
  no_envelope = s.no_envelope;
  to_come = s.to_come;
  apart = s.apart;
  null = s.null;
  numbers = s.numbers;
  boot = s.boot;
  count = s.count;
  ids = s.ids;
  way_places = s.way_places;
  page_places = s.page_places;
  store_places = whole ∙ s.store_places;
}

module _ (Stands : StandsFor) (owners : List Owner) (v : Versions) (law : VersionLaw v Stands)
    (sealed : List Sealing) (core : CoreState) (sound : Sound Stands owners core) (place : ℕ) where
  abbrev way : Way
  way = way_at core.ways place

  abbrev texts : List (List ℕ)
  texts = v.texts_of_raise (store_of core way.slot) way.line core.ram

  -- what was clean is done
  clears_clean : way.dirty ≡ false → Clears Stands owners core place core None
  clears_clean clean = record {
    kept = kept_none Stands owners core;
    done = λ slot line some live is dirty. absurd (cc);
    ways = λ at some. refl;
    places = refl;
    calm = λ _ slot. (refl, λ page. refl);
    others = λ slot differs. (refl, λ page. refl);
    stop = λ why no. absurd (cc);
  }

  module _ (dirty : way.dirty ≡ true) where
    some : way.slot ≢ 0
    some none = absurd (cc (sound.shape.clean place none, dirty))

    live : IsLive core way.slot
    live = sound.shape.live place some

    known : way.slot ≤ 16
    known = live_known core way.slot sound.places live

    -- it was sealed
    clears_sealed : (number : ℕ)
        → v.answer_of_raise (store_of core way.slot) way.line core.ram ≡ Ok number
        → IsTrusted sealed (after_seal v (after_raise v core way.slot way.line) way.slot way.line
        way.bytes number).entries
        → Clears Stands owners core place (after_seal v (after_raise v core way.slot way.line)
        way.slot way.line way.bytes number) None
    unfolding after_seal after_raise
    clears_sealed number raised honest =
        let its = sound.known way.slot some live in
        let line_is = its.3.lines way.line (sound.shape.inside place some) in
        let size : length way.bytes ≡ 32 = ap length (line_is.cached place (refl, refl))
        ∙ line_is.size in
        let who = who_of core way.slot in
        let sizes = sealed_lines_have_their_length (line_name_of who way.line number)
        (keys_of who way.line number) way.bytes size in
        let sized = λ (fit : RamFits core). law.size_after_raise (store_of core way.slot) way.line
        core.ram (fit.areas way.slot live) (sound.shape.inside place some) in
        let first = core.entries ++ map hash_entry texts in
        let seal = seal_entry (who_of core way.slot) way.line number way.bytes in
        let none : NoCollision first = no_collision_before first (seal ∷ [])
        honest.honest.collision in
        let room : length core.entries < 2 ^ 63 =
        let all : length (first ++ seal ∷ []) < 2 ^ 63 = honest.room in
        let a = length-append first (seal ∷ []) in let b = length-append core.entries
        (map hash_entry texts) in omega arith in
        let both = seal_keeps Stands owners v law core sound.shape room way.slot way.line place some
        known live (sound.shape.inside place some) (refl, refl) dirty its.0 its.1 its.3 number
        raised texts refl none _ (λ fit. let raised_size = sized fit in
        length-with_sealed (v.ram_after_raise (store_of core way.slot) way.line core.ram)
        (frame_of core.pages way.slot (page_of way.line)) way.line
        (sealed_as who way.line number way.bytes) sizes.0 sizes.1
        (λ f is. let within : f * 8192 + 8192 ≤ length core.ram =
        fit.frames way.slot (page_of way.line) f is in omega arith) ∙ raised_size) in
        record {
          kept = both.0;
          done = both.1;
          ways = λ at filled. refl;
          places = refl;
          calm = λ _ slot. (refl, λ page. refl);
          others = λ slot differs. (refl, λ page. refl);
          stop = λ why no. absurd (cc);
        }

    -- its tree is torn: the store stands for what it stood for
    module _ (torn : Torn) (is : v.answer_of_raise (store_of core way.slot) way.line
        core.ram ≡ Err torn) where
      abbrev torn_store : Store
      torn_store = v.store_after_raise (store_of core way.slot) way.line core.ram

      abbrev torn_stores : List Store
      torn_stores = set core.stores way.slot torn_store

      abbrev torn_core : CoreState
      torn_core = record core { entries = core.entries ++ map hash_entry texts }

      hashes_kept : Kept Stands owners core torn_core
      hashes_kept =
          kept_rest Stands owners v law core core.pointers core.ram torn_core.entries
          (goes_hashes core.entries texts) (seals_hashes core.entries texts) refl

      torn_stands : (k : ℕ) (numbers : ℕ → ℕ) → Stands (store_of core k) core.entries numbers
          → Stands (get_or torn_stores k no_store) torn_core.entries numbers
      torn_stands k numbers stands = elim (eqb_tells k way.slot) [
        | inl own ↦
            let here = get_or-set_same core.stores way.slot torn_store no_store
            (let places : length core.stores ≡ 17 = sound.shape.store_places in let few = known in
            omega arith) in
            subst (λ j. Stands (get_or torn_stores j no_store) torn_core.entries numbers)
            (sym own.1)
            (subst (λ s. Stands s torn_core.entries numbers) (sym here)
            (law.torn core.entries (store_of core way.slot) numbers way.line core.ram torn
            (subst (λ j. Stands (store_of core j) core.entries numbers) own.1 stands)
            (sound.shape.inside place some) is))
        | inr other ↦
            subst (λ s. Stands s torn_core.entries numbers)
            (sym (get_or-set_other core.stores way.slot k torn_store no_store other.1))
            (law.longer core.entries (map hash_entry texts) (store_of core k) numbers stands)
      ]

      abbrev torn_ram : List ℕ
      torn_ram = v.ram_after_raise (store_of core way.slot) way.line core.ram

      torn_area : (k : ℕ) → (get_or torn_stores k no_store).area ≡ (store_of core k).area
      torn_area k = elim (eqb_tells k way.slot) [
        | inl own ↦
            let here = get_or-set_same core.stores way.slot torn_store no_store
            (let places : length core.stores ≡ 17 = sound.shape.store_places in let few = known in
            omega arith) in
            subst (λ j. (get_or torn_stores j no_store).area ≡ (store_of core j).area) (sym own.1)
            (ap (λ s. s.area) here ∙ law.area_after_raise (store_of core way.slot) way.line
            core.ram)
        | inr other ↦ ap (λ s. s.area) (get_or-set_other core.stores way.slot k torn_store no_store
            other.1)
      ]

      torn_kept : Kept Stands owners core (after_raise v core way.slot way.line)
      unfolding after_raise
      torn_kept = record {
        shape = λ s. stores_shape torn_core torn_stores torn_ram
            (length-set core.stores way.slot torn_store) (hashes_kept.shape s);
        boot = refl;
        machine = refl;
        last = refl;
        more = hashes_kept.more;
        steps = hashes_kept.steps;
        installed = hashes_kept.installed;
        registers = hashes_kept.registers;
        seals = hashes_kept.seals;
        same = λ k lives. refl;
        lent = λ reg from to none. refl;
        cells = λ reg from to tagged. refl;
        tags = λ reg from to lives tagged. lives;
        stay = λ reg from to lives. refl;
        cell_places = refl;
        session_places = refl;
        ram = λ fit.
            let size = law.size_after_raise (store_of core way.slot) way.line core.ram
            (fit.areas way.slot live) (sound.shape.inside place some) in (
              size,
              record {
                frames = frames_stay core.pages core.ram torn_ram size fit.frames;
                areas = areas_stay core (record torn_core { stores = torn_stores; ram = torn_ram })
                    size (λ k alive. (alive, torn_area k)) fit.areas;
              },
            );
        private = λ k named lives owner memory whose holds. record {
          lines = (hashes_kept.private k named lives owner memory whose holds).lines;
          stands = subst (λ seals. Stands (get_or torn_stores k no_store) torn_core.entries
              (version_of_line (who_of core k) seals)) (sym (seals_hashes core.entries texts))
              (torn_stands k (version_of_line (who_of core k) (seals_of core.entries))
              holds.stands);
        };
      }

    raised_ways : (after_raise v core way.slot way.line).ways ≡ core.ways
    unfolding after_raise
    raised_ways = refl

    raised_pages : (after_raise v core way.slot way.line).pages ≡ core.pages
    unfolding after_raise
    raised_pages = refl

    raised_sessions : (after_raise v core way.slot way.line).sessions ≡ core.sessions
    unfolding after_raise
    raised_sessions = refl

    module _ (torn : Torn) (is : v.answer_of_raise (store_of core way.slot) way.line
        core.ram ≡ Err torn) where
      abbrev mid : CoreState
      mid = after_raise v core way.slot way.line

      abbrev out : CoreState
      out = after_stop mid way.slot (rule.TreeNode torn.level)

      out_ways : (at : ℕ) → (way_at out.ways at).slot ≢ 0
          → (way_at out.ways at ≡ way_at core.ways at) × ((way_at core.ways at).slot ≢ way.slot)
      unfolding without_guest after_raise
      out_ways at filled =
          let is = way-without way.slot core.ways at in
          let stays = free_if-left way.slot (way_at core.ways at)
          (λ none. filled (ap (λ w. w.slot) is ∙ none)) in
          (is ∙ stays.0, stays.1)

      out_places : length out.ways ≡ length core.ways
      unfolding without_guest after_raise
      out_places = length-map core.ways _

      out_dead : ¬ IsLive out way.slot
      unfolding without_guest after_raise
      out_dead lives =
          let here = get_or-set_same core.sessions way.slot
          (session_after_leaving (session_of core way.slot) (state.Stopped (rule.TreeNode torn.level))) free
          (let places : length core.sessions ≡ 17 = sound.places in let few = known in
          omega arith) in
          absurd (let its = ap (λ s. is_live s.state) here in cc)

      out_others : (slot : ℕ) → slot ≢ way.slot → Stays core out slot
      unfolding without_guest after_raise
      out_others slot differs = (
        get_or-set_other core.sessions way.slot slot _ free differs,
        λ page. pages-other
            core.pages way.slot slot page differs,
      )

      clears_torn : Clears Stands owners core place out (Some (rule.TreeNode torn.level))
      clears_torn =
          let first = torn_kept torn is in
          let mid_sound = sound_kept Stands owners core mid first sound in
          record {
            kept = kept_on Stands owners core mid out first (stopped_kept Stands owners v law mid
                way.slot some mid_sound.places known mid_sound.whole mid_sound.shape
                (rule.TreeNode torn.level));
            done = λ slot line filled lives is its_dirty. absurd
                ((out_ways place (λ none. filled (sym is.0 ∙ none))).1 refl);
            ways = λ at filled. (out_ways at filled).0;
            places = out_places;
            calm = λ no. absurd (cc);
            others = out_others;
            stop = λ why is. out_dead;
          }

    clears_answer : (answer : Result ℕ Torn)
        → v.answer_of_raise (store_of core way.slot) way.line core.ram ≡ answer
        → IsTrusted sealed (or_stopped v way.slot
        (sealed_by_raise v (after_raise v core way.slot way.line) way.slot way.line way.bytes
        answer)).0.entries
        → Clears Stands owners core place
        (or_stopped v way.slot (sealed_by_raise v (after_raise v core way.slot way.line) way.slot
        way.line way.bytes answer)).0
        (or_stopped v way.slot (sealed_by_raise v (after_raise v core way.slot way.line) way.slot
        way.line way.bytes answer)).1
    clears_answer (Ok number) is honest = clears_sealed number is honest
    clears_answer (Err torn) is honest = clears_torn torn is

  clears_by : (dirty : Bool) → way.dirty ≡ dirty
      → IsTrusted sealed (after_victim v core way dirty).0.entries
      → Clears Stands owners core place (after_victim v core way dirty).0
      (after_victim v core way dirty).1
  clears_by false is honest = clears_clean is
  clears_by true is honest = clears_answer is _ refl honest

  pub clears : IsTrusted sealed (cleared_at v core place).0.entries
      → Clears Stands owners core place (cleared_at v core place).0 (cleared_at v core place).1
  unfolding cleared_at
  clears honest = clears_by way.dirty refl honest
