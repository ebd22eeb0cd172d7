-- A page is mapped, or its lines leave the cache and it is unmapped.
use Rattle.std.proofs.Common.{◌≡◌, ◌≢◌, inl, inr, ℕ, zero, suc, ◌+◌, ◌*◌, ◌/◌, ◌<◌, ◌≤◌, List, Option, Some, None, length, set, get_or, refl, sym, ◌∙◌, ap, subst, arith, length-set}
use Rattle.std.proofs.lemmas.List.{get_or-set_same, get_or-set_other, get_or_past}
use Rattle.std.proofs.lemmas.Bool.Decides.{eqb_tells}
use Rattle.xom_base.specs.declared.event.Rule.{Rule}
use Rattle.xom_owners.specs.declared.owner.Owner.{Owner}
use Rattle.session_table.specs.declared.session.Session.{Session}
use Rattle.session_table.specs.Sessions.{is_live}
use Rattle.xom_model.specs.Honest.{Sealing}
use Rattle.xom_versions.specs.Versions.{VersionLaw, Versions}
use Rattle.xom_model.specs.Versions.{StandsFor}
use Rattle.line_cache.specs.Ways.{free_way, place_of_line, way_at}
use Rattle.page_map.specs.Pages.{frame_of, no_pages, pages_at, with_page}
use Rattle.xom_model.specs.State.{CoreState, core_with_way, page_of}
use Rattle.xom_model.specs.Access.{after_eviction, after_flush, and_then, cleared_at, taken_out}
use Rattle.xom_model.specs.Operation.{after_unmap}
use Rattle.xom_model.specs.Holds.{IsLive, IsOf, Shape}
use Rattle.xom_model.specs.Kept.{Kept}
use Rattle.xom_model.proofs.Growth.{IsTrusted, goes_none, honest_before}
use Rattle.xom_model.proofs.KeptLaws.{kept_none, kept_on}
use Rattle.xom_model.proofs.Gone.{less}
use Rattle.xom_model.proofs.Longer.{Longer, longer_flushed, longer_none}
use Rattle.xom_model.proofs.PutKept.{free_may, put_kept}
use Rattle.xom_model.proofs.ClearKept.{Clears, Sound, Stays, clears, sound_kept}
use Rattle.xom_model.proofs.AccessKept.{found-IsOf, found-low, found-none}

-- another page
page-other : (pages : List (List (Option ℕ))) (slot page : ℕ) (frame : Option ℕ) (k at : ℕ)
    → slot < length pages → (k ≡ slot → at ≢ page)
    → frame_of (with_page pages slot page frame) k at ≡ frame_of pages k at
page-other pages slot page frame k at within differ = elim (eqb_tells k slot) [
  | inl own ↦
      subst (λ j. frame_of (with_page pages slot page frame) j at ≡ frame_of pages j at) (sym own.1)
      (ap (λ p. get_or p at None) (get_or-set_same pages slot (set (pages_at pages slot) page frame)
      no_pages within) ∙ get_or-set_other (pages_at pages slot) page at frame None (differ own.1))
  | inr other ↦ ap (λ p. get_or p at None)
      (get_or-set_other pages slot k (set (pages_at pages slot) page frame) no_pages other.1)
]

-- a page of which no line is cached is mapped, or unmapped
module _ (Stands : StandsFor) (owners : List Owner) (core : CoreState) (slot page : ℕ)
    (frame : Option ℕ) (known : slot ≤ 16) (live : IsLive core slot)
    (empty : (place : ℕ) → (way_at core.ways place).slot ≡ slot → (way_at core.ways place).slot ≢ 0
    → page_of (way_at core.ways place).line ≢ page) (fits : (f : ℕ) → frame ≡ Some f
    → f * 8192 + 8192 ≤ length core.ram) (places : length core.pages ≡ 17) where
  abbrev out : CoreState
  out = record core { pages = with_page core.pages slot page frame }

  page_shape : Shape core → Shape out
  page_shape s = record {
    live = s.live;
    inside = s.inside;
    mapped = λ place filled. let old = s.mapped place filled in (
      old.0,
      page-other core.pages slot page frame _ _ (let places : length core.pages ≡ 17 =
          s.page_places in omega arith) (λ own. empty place own filled) ∙ old.1,
    );
    one = s.one;
    clean = s.clean;
    owned = λ k at f is. elim (eqb_tells k slot) [
      | inl own ↦ subst (λ j. IsLive core j) (sym own.1) live
      | inr other ↦ s.owned k at f
          (sym (page-other core.pages slot page frame k at (let places : length core.pages ≡ 17 =
          s.page_places in omega arith) (λ own. absurd (other.1 own))) ∙ is)
    ];
    no_image = s.no_image;
    no_envelope = s.no_envelope;
    to_come = s.to_come;
    apart = s.apart;
    null = s.null;
    numbers = s.numbers;
    boot = s.boot;
    count = s.count;
    ids = s.ids;
    way_places = s.way_places;
    page_places = length-set core.pages slot _ ∙ s.page_places;
    store_places = s.store_places;
  }

  -- the page's own frame, where it is one of the pages
  page_fits : (f : ℕ) → frame_of out.pages slot page ≡ Some f → f * 8192 + 8192 ≤ length core.ram
  page_fits f is = elim (less page (length (pages_at core.pages slot))) [
    | inl within ↦ fits f (sym (here_page within) ∙ is)
    | inr past ↦ absurd (let no_page = past_page past in cc)
  ]
    where
      here_page : page < length (pages_at core.pages slot) → frame_of out.pages slot page ≡ frame
      here_page within =
          ap (λ p. get_or p page None)
          (get_or-set_same core.pages slot (set (pages_at core.pages slot) page frame) no_pages
          (omega arith))
          ∙ get_or-set_same (pages_at core.pages slot) page frame None within

      past_page : length (pages_at core.pages slot) ≤ page → frame_of out.pages slot page ≡ None
      past_page past =
          ap (λ p. get_or p page None)
          (get_or-set_same core.pages slot (set (pages_at core.pages slot) page frame) no_pages
          (omega arith))
          ∙ get_or_past (set (pages_at core.pages slot) page frame) page None
          (let same : length (set (pages_at core.pages slot) page frame) ≡ length
          (pages_at core.pages slot) = length-set (pages_at core.pages slot) page frame in
          omega arith)

  pub page_kept : Kept Stands owners core out
  page_kept = record {
    shape = page_shape;
    boot = refl;
    machine = refl;
    last = refl;
    more = (goes_none core.entries).more;
    steps = λ n. refl;
    installed = λ n id is. is;
    registers = λ key name ct. refl;
    seals = λ seals. seals;
    same = λ k lives. refl;
    lent = λ reg from to none. refl;
    cells = λ reg from to tagged. refl;
    tags = λ reg from to lives tagged. lives;
    stay = λ reg from to lives. refl;
    cell_places = refl;
    session_places = refl;
    ram = λ fit. (
      refl,
      record {
        areas = fit.areas;
        frames = λ k at f is. elim (eqb_tells k slot) [
          | inl own ↦ elim (eqb_tells at page) [
            | inl same ↦ page_fits f (subst (λ j. frame_of out.pages j page ≡ Some f) own.1
                (subst (λ a. frame_of out.pages k a ≡ Some f) same.1 is))
            | inr apart ↦ fit.frames k at f
                (sym (page-other core.pages slot page frame k at (omega arith) (λ _. apart.1)) ∙ is)
          ]
          | inr other ↦ fit.frames k at f
              (sym (page-other core.pages slot page frame k at (omega arith)
              (λ own. absurd (other.1 own))) ∙ is)
        ];
      },
    );
    private = λ k some lives owner memory whose holds. record {
      lines = holds.lines;
      stands =
          holds.stands;
    };
  }

-- Map: the page wasn't mapped, so none of its lines is cached
pub map_kept : (Stands : StandsFor) (owners : List Owner) (core : CoreState) (slot page frame : ℕ)
    → slot ≢ 0 → slot ≤ 16 → IsLive core slot → Shape core → frame_of core.pages slot page ≡ None
    → frame * 8192 + 8192 ≤ length core.ram
    → Kept Stands owners core (record core { pages = with_page core.pages slot page (Some frame) })
map_kept Stands owners core slot page frame some known live shape none fits =
    page_kept Stands owners core slot page (Some frame) known live (λ place own filled same.
    absurd (let old = shape.mapped place filled in let here : frame_of core.pages slot
    page ≡ Some old.0 = subst (λ p. frame_of core.pages slot p ≡ Some old.0) same
    (subst (λ k. frame_of core.pages k (page_of (way_at core.ways place).line) ≡ Some old.0) own
    old.1) in cc))
    (λ f is. let same : frame ≡ f = cc in omega arith) shape.page_places

-- ---- Lines leave the cache

-- What is so after some of a slot's lines left.
pub record Flushes (Stands : StandsFor) (owners : List Owner) (slot line count : ℕ)
    (core new : CoreState) (answer : Option Rule) : Type 0 where
  pub kept : Kept Stands owners core new
  pub ways : (at : ℕ) → (way_at new.ways at).slot ≢ 0 → way_at new.ways at ≡ way_at core.ways at
  pub calm : answer ≡ None → Stays core new slot
  pub empty : answer ≡ None → (at own : ℕ) → line ≤ own → own < line + count
      → ¬ IsOf (way_at new.ways at) slot own

module _ (Stands : StandsFor) (owners : List Owner) (v : Versions) (law : VersionLaw v Stands)
    (sealed : List Sealing) (slot : ℕ) (some : slot ≢ 0) where
  -- one line
  module _ (core : CoreState) (sound : Sound Stands owners core) (line : ℕ) where
    abbrev One : CoreState × Option Rule → Type 0
    One result = Flushes Stands owners slot line 1 core result.0 result.1

    taken_one : (place : ℕ) → IsOf (way_at core.ways place) slot line → place < 128
        → (result : CoreState × Option Rule) → Clears Stands owners core place result.0 result.1
        → One (after_eviction place result)
    taken_one place is low (mid, None) clear =
        let within : place < length mid.ways = (let a : length mid.ways ≡ length core.ways =
        clear.places in let b : length core.ways ≡ 128 = sound.shape.way_places in omega arith) in
        let here = get_or-set_same mid.ways place free_way free_way within in
        let old : (at : ℕ) → (way_at (core_with_way mid place free_way).ways at).slot ≢ 0 → (at ≢ place)
        × (way_at (core_with_way mid place free_way).ways at ≡ way_at core.ways at) =
        λ at filled. elim (eqb_tells at place) [
          | inl same ↦ absurd (filled
              (ap (λ w. w.slot) (subst (λ j. way_at (core_with_way mid place free_way).ways j ≡ free_way)
              (sym same.1) here)))
          | inr differs ↦
              let stays = get_or-set_other mid.ways place at free_way free_way differs.1 in
              (differs.1, stays ∙ clear.ways at (λ none. filled (ap (λ w. w.slot) stays ∙ none)))
        ] in
        record {
          kept = put_kept Stands owners core mid clear.kept place free_way within
              (free_may Stands owners core mid place) clear.done;
          ways = λ at filled. (old at filled).1;
          calm = λ _. clear.calm refl slot;
          empty = λ _ at own from to its.
              let kept = old at (λ none. some (sym its.0 ∙ none)) in
              let same_line : own ≡ line = omega arith in
              let before = subst (λ w. IsOf w slot own) kept.1 its in
              kept.0 (sound.shape.one place at (λ none. some (sym is.0 ∙ none))
              (before.0 ∙ sym is.0, before.1 ∙ same_line ∙ sym is.1));
        }
    taken_one place is low (mid, Some why) clear = record {
      kept = clear.kept;
      ways =
          clear.ways;
      calm = λ no. absurd (cc);
      empty = λ no. absurd (cc);
    }

    taken_entries : (place : ℕ) (result : CoreState × Option Rule)
        → (after_eviction place result).0.entries ≡ result.0.entries
    taken_entries place (mid, None) = refl
    taken_entries place (mid, Some why) = refl

    one_line : (at : Option ℕ) → place_of_line core.ways slot line ≡ at
        → IsTrusted sealed (taken_out v core at).0.entries → One (taken_out v core at)
    one_line None is honest = record {
      kept = kept_none Stands owners core;
      ways = λ at filled. refl;
      calm = λ _. (refl, λ page. refl);
      empty = λ _ at own from to its. found-none core.ways slot line at some is
          (let same : own ≡ line = omega arith in subst (λ l. IsOf (way_at core.ways at) slot l) same
          its);
    }
    one_line (Some place) is honest =
        taken_one place (found-IsOf core.ways slot line place is)
        (found-low core.ways slot line place sound.shape.way_places is) (cleared_at v core place)
        (clears Stands owners v law sealed core sound place (subst (λ es. IsTrusted sealed es)
        (taken_entries place (cleared_at v core place)) honest))

  -- then the rest
  then_flushes : (core : CoreState) (line count : ℕ) (first : CoreState × Option Rule)
      (rest : CoreState → CoreState × Option Rule)
      → Flushes Stands owners slot line 1 core first.0 first.1
      → (first.1 ≡ None → Flushes Stands owners slot (line + 1) count first.0 (rest first.0).0
      (rest first.0).1)
      → Flushes Stands owners slot line (suc count) core (and_then first rest).0
      (and_then first rest).1
  then_flushes core line count (mid, Some why) rest one more =
      record { kept = one.kept; ways = one.ways; calm = λ no. absurd (cc); empty = λ no. absurd (cc) }
  then_flushes core line count (mid, None) rest one more =
      let then = more refl in
      let calm_one = one.calm refl in
      record {
        kept = kept_on Stands owners core mid (rest mid).0 one.kept then.kept;
        ways = λ at filled. let same = then.ways at filled in
            same ∙ one.ways at (λ none. filled (ap (λ w. w.slot) same ∙ none));
        calm = λ quiet. let calm = then.calm quiet in (
          calm.0 ∙ calm_one.0,
          λ page. calm.1 page
              ∙ calm_one.1 page,
        );
        empty = λ quiet at own from to its. elim (less line own) [
          | inl later ↦ then.empty quiet at own (omega arith) (omega arith) its
          | inr here ↦
              let same = then.ways at (λ none. some (sym its.0 ∙ none)) in
              one.empty refl at own from (omega arith) (subst (λ w. IsOf w slot own) same its)
        ];
      }

  and_then_longer : (first : CoreState × Option Rule) (rest : CoreState → CoreState × Option Rule)
      → ((core : CoreState) → Longer core.entries (rest core).0.entries)
      → Longer first.0.entries (and_then first rest).0.entries
  and_then_longer (mid, None) rest grows = grows mid
  and_then_longer (mid, Some why) rest grows = longer_none mid.entries

  and_then_none : (first : CoreState × Option Rule) (rest : CoreState → CoreState × Option Rule)
      → first.1 ≡ None → (and_then first rest).0.entries ≡ (rest first.0).0.entries
  and_then_none (mid, None) rest is = refl
  and_then_none (mid, Some why) rest is = absurd (cc)

  flushes : (count line : ℕ) (core : CoreState) → Sound Stands owners core
      → IsTrusted sealed (after_flush v slot count line core).0.entries
      → Flushes Stands owners slot line count core (after_flush v slot count line core).0
      (after_flush v slot count line core).1
  unfolding after_flush
  flushes zero line core sound honest = record {
    kept = kept_none Stands owners core;
    ways = λ at filled. refl;
    calm = λ _. (refl, λ page. refl);
    empty = λ _ at own from to its. absurd (omega arith);
  }
  flushes (suc count) line core sound honest =
      let first = taken_out v core (place_of_line core.ways slot line) in
      let rest = after_flush v slot count (line + 1) in
      let more = and_then_longer first rest (λ c. longer_flushed v slot count (line + 1) c) in
      let one = one_line core sound line (place_of_line core.ways slot line) refl
      (honest_before first.0.entries more.0 sealed (subst (λ es. IsTrusted sealed es) more.1
      honest)) in
      then_flushes core line count first rest one
      (λ quiet. flushes count (line + 1) first.0 (sound_kept Stands owners core first.0 one.kept
      sound) (subst (λ es. IsTrusted sealed es) (and_then_none first rest quiet) honest))

-- Unmap
module _ (Stands : StandsFor) (owners : List Owner) (v : Versions) (law : VersionLaw v Stands)
    (sealed : List Sealing) (slot page : ℕ) (some : slot ≢ 0) (known : slot ≤ 16) (core : CoreState)
    (sound : Sound Stands owners core) (live : IsLive core slot) where
  by_result : (result : CoreState × Option Rule)
      → Flushes Stands owners slot (128 * page) 128 core result.0 result.1
      → Kept Stands owners core (after_unmap v slot page result).0
  by_result (new, Some why) flush = flush.kept
  by_result (new, None) flush =
      kept_on Stands owners core new _ flush.kept
      (page_kept Stands owners new slot page None known (ap (λ (s : Session). is_live s.state)
      (flush.calm refl).0 ∙ live)
      (λ place own filled same.
      let line = (way_at new.ways place).line in
      let at : line / 128 ≡ page = same in
      flush.empty refl place line (omega arith) (omega arith) (own, refl))
      (λ f no_frame. absurd (cc)) (flush.kept.shape sound.shape).page_places)

  unmapped_entries : (result : CoreState × Option Rule)
      → (after_unmap v slot page result).0.entries ≡ result.0.entries
  unmapped_entries (new, None) = refl
  unmapped_entries (new, Some why) = refl

  pub unmap_kept : (result : CoreState × Option Rule)
      → after_flush v slot 128 (128 * page) core ≡ result
      → IsTrusted sealed (after_unmap v slot page result).0.entries
      → Kept Stands owners core (after_unmap v slot page result).0
  unmap_kept result is honest =
      by_result result (subst (λ (r : CoreState × Option Rule). Flushes Stands owners slot
      (128 * page) 128 core r.0 r.1) is
      (flushes Stands owners v law sealed slot some 128 (128 * page) core sound
      (subst (λ (r : CoreState × Option Rule). IsTrusted sealed r.0.entries) (sym is)
      (subst (λ es. IsTrusted sealed es) (unmapped_entries result) honest))))
