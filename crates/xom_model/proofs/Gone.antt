-- A slot that is given up: no cell, no line and no page of it is left, and nothing of another slot
-- changes.
use Rattle.std.proofs.Common.{◌≡◌, ◌≢◌, ◌⊎◌, inl, inr, ℕ, ◌<◌, ◌≤◌, ◌^◌, List, [], ◌∷◌, ◌++◌, Option, Some, None, length, get_or, set, replicate, refl, sym, ◌∙◌, ap, subst, arith, false, length-set}
use Rattle.std.proofs.lemmas.List.{get_or-map, length-map, get_or-set_same, get_or-set_other, get_or-replicate, get_or_past}
use Rattle.std.proofs.lemmas.Bool.Decides.{eqb_tells}
use Rattle.std.proofs.Math.Decide.{dec_lt}
use Rattle.xom_base.specs.declared.entry.Entry.TheVariants as entry
use Rattle.xom_base.specs.declared.event.Rule.{Rule}
use Rattle.xom_owners.specs.declared.owner.Owner.{Owner}
use Rattle.tag_regs.specs.declared.cell.Cell.{Cell}
use Rattle.tag_regs.specs.TaggedCells.{cell_at, cells_after_scrub, scrubbed_cell}
use Rattle.session_table.specs.declared.session.Session.{Session}
use Rattle.session_table.specs.declared.session.SlotState.{SlotState}
use Rattle.session_table.specs.declared.session.SlotState.TheVariants as state
use Rattle.session_table.specs.Sessions.{free, is_live, session_after_leaving}
use Rattle.xom_model.specs.Honest.{Sealing, seals_of}
use Rattle.xom_versions.specs.Versions.{VersionLaw, Versions}
use Rattle.xom_model.specs.Versions.{StandsFor}
use Rattle.line_cache.specs.declared.way.Way.{Way}
use Rattle.page_map.specs.Pages.{frame_of, no_pages}
use Rattle.line_cache.specs.Ways.{free_if, free_way, way_at, without_slot}
use Rattle.xom_model.specs.State.{CoreState, core_with_session, page_of, session_of, store_of}
use Rattle.xom_model.specs.Lines.{Who, version_of_line, who_in, who_of}
use Rattle.xom_model.specs.Access.{after_leaving, after_stop, without_guest}
use Rattle.xom_model.specs.Operation.{after_kill}
use Rattle.xom_model.specs.Holds.{IsLive, IsOf, LineHolds, Private, Shape}
use Rattle.xom_model.specs.Kept.{Kept}
use Rattle.xom_model.proofs.Growth.{goes_none, goes_entry, seals_none}
use Rattle.xom_model.proofs.KeptLaws.{kept_on, kept_rest}
use Rattle.xom_model.proofs.SealsKept.{seals_stay}
use Rattle.xom_model.proofs.RamSize.{areas_stay}
use Rattle.xom_model.proofs.Left.{cell-scrubbed, length-scrubbed, scrubbed-tag, scrubbed-tagged}

-- a number is below another, or isn't
pub less : (a b : ℕ) → (a < b) ⊎ (b ≤ a)
less a b = elim (dec_lt a b) [ yes low ↦ inl low | no high ↦ inr (omega arith) ]

-- ---- Ways

-- a way of another slot stays
pub free_if-other : (slot : ℕ) (way : Way) → way.slot ≢ slot → free_if slot way ≡ way
free_if-other slot way differs = elim (eqb_tells way.slot slot) [
  | inl is ↦
      absurd (differs is.1)
  | inr other ↦ rw other.0 refl
]

free_if-free : (slot : ℕ) → free_if slot free_way ≡ free_way
free_if-free slot = elim (eqb_tells 0 slot) [ inl is ↦ rw is.0 refl | inr other ↦ rw other.0 refl ]

-- a way that is left was there, and of another slot
pub free_if-left : (slot : ℕ) (way : Way) → (free_if slot way).slot ≢ 0
    → (free_if slot way ≡ way) × (way.slot ≢ slot)
free_if-left slot way some = elim (eqb_tells way.slot slot) [
  | inl is ↦ absurd (some (rw is.0 refl))
  | inr other ↦ (rw other.0 refl, other.1)
]

pub way-without : (slot : ℕ) (ways : List Way) (place : ℕ)
    → way_at (without_slot slot ways) place ≡ free_if slot (way_at ways place)
way-without slot ways place = elim (less place (length ways)) [
  | inl within ↦ get_or-map (free_if slot) ways place free_way free_way within
  | inr past ↦
      get_or_past (without_slot slot ways) place free_way
      (let same : length (without_slot slot ways) ≡ length ways =
      length-map ways (free_if slot) in omega arith)
      ∙ sym (free_if-free slot) ∙ ap (free_if slot) (sym (get_or_past ways place free_way past))
]

-- what holds of a line still does where the ways that are its own are the same
pub lines_alike : (owner : Owner) (who : Who) (slot line : ℕ) (ways new : List Way)
    (seals : List Sealing) (bytes : List ℕ)
    → ((place : ℕ) → IsOf (way_at new place) slot line → way_at new place ≡ way_at ways place)
    → ((place : ℕ) → IsOf (way_at ways place) slot line → way_at new place ≡ way_at ways place)
    → LineHolds owner who slot line ways seals bytes → LineHolds owner who slot line new seals bytes
lines_alike owner who slot line ways new seals bytes from to holds = record {
  cached = λ place is. let same = from place is in ap (λ w. w.bytes) same ∙ holds.cached place
      (subst (λ w. IsOf w slot line) same is);
  behind = λ clean. holds.behind (λ place is. let same = to place is in ap (λ w. w.dirty) (sym same)
      ∙ clean place (subst (λ w. IsOf w slot line) (sym same) is));
  above = holds.above;
  size = holds.size;
}

-- a cell of another slot stays
scrubbed_cell-other : (slot : ℕ) (cell : Cell) → cell.tag ≢ slot → scrubbed_cell slot cell ≡ cell
scrubbed_cell-other slot cell differs = elim (eqb_tells cell.tag slot) [
  | inl is ↦
      absurd (differs is.1)
  | inr other ↦ rw other.0 refl
]

-- ---- Pages

pub frame-none : (page : ℕ) → get_or no_pages page None ≡ None
unfolding no_pages
frame-none page = elim (less page 256) [
  | inl within ↦ get_or-replicate 256 page None None within
  | inr past ↦ get_or_past (replicate 256 None) page None past
]

pub pages-gone : (pages : List (List (Option ℕ))) (slot page : ℕ)
    → frame_of (set pages slot no_pages) slot page ≡ None
pages-gone pages slot page = elim (less slot (length pages)) [
  | inl within ↦ ap (λ p. get_or p page None) (get_or-set_same pages slot no_pages no_pages within)
      ∙ frame-none page
  | inr past ↦ ap (λ p. get_or p page None) (get_or_past (set pages slot no_pages) slot no_pages
      (let same : length (set pages slot no_pages) ≡ length pages =
      length-set pages slot no_pages in omega arith)) ∙ frame-none page
]

pub pages-other : (pages : List (List (Option ℕ))) (slot other page : ℕ) → other ≢ slot
    → frame_of (set pages slot no_pages) other page ≡ frame_of pages other page
pages-other pages slot other page differs =
    ap (λ p. get_or p page None) (get_or-set_other pages slot other no_pages no_pages differs)

-- ---- The slot is given up, and its session is one that isn't live

module _ (Stands : StandsFor) (owners : List Owner) (core : CoreState) (slot : ℕ) (s : Session)
    (some : slot ≢ 0) (within : slot < length core.sessions) (whole : length core.cells ≡ 34)
    (dead : is_live s.state ≡ false) (number : s.install ≤ core.installs)
    (id : length s.id.0 ≡ 16) where
  abbrev out : CoreState
  out = record core {
    cells = cells_after_scrub slot core.cells;
    ways = without_slot slot core.ways;
    pages = set core.pages slot no_pages;
    sessions = set core.sessions slot s;
  }

  here : session_of out slot ≡ s
  here = get_or-set_same core.sessions slot s free within

  there : (other : ℕ) → other ≢ slot → session_of out other ≡ session_of core other
  there other differs = get_or-set_other core.sessions slot other s free differs

  -- a slot that is live isn't this one
  another : (other : ℕ) → IsLive out other → other ≢ slot
  another other live is =
      let its = ap (λ t. is_live t.state) here in let one : IsLive out slot =
      subst (λ k. IsLive out k) is live in absurd (cc)

  same_out : (other : ℕ) → IsLive out other → session_of out other ≡ session_of core other
  same_out other live = there other (another other live)

  was : (other : ℕ) → IsLive out other → IsLive core other
  was other live = sym (ap (λ t. is_live t.state) (same_out other live)) ∙ live

  live_there : (other : ℕ) → other ≢ slot → IsLive core other → IsLive out other
  live_there other differs live = ap (λ t. is_live t.state) (there other differs) ∙ live

  -- a way that is left
  left_way : (place : ℕ) → (way_at out.ways place).slot ≢ 0
      → (way_at out.ways place ≡ way_at core.ways place) × ((way_at core.ways place).slot ≢ slot)
  left_way place filled =
      let is = way-without slot core.ways place in
      let kept = free_if-left slot (way_at core.ways place)
      (λ none. filled (ap (λ w. w.slot) is ∙ none)) in
      (is ∙ kept.0, kept.1)

  stays_way : (place : ℕ) → (way_at core.ways place).slot ≢ slot
      → way_at out.ways place ≡ way_at core.ways place
  stays_way place differs =
      way-without slot core.ways place ∙ free_if-other slot (way_at core.ways place) differs

  clean_out : Shape core → (place : ℕ) → (way_at out.ways place).slot ≡ 0
      → (way_at out.ways place).dirty ≡ false
  clean_out shape place none =
      let is = way-without slot core.ways place in
      elim (eqb_tells (way_at core.ways place).slot slot) [
        | inl its ↦ ap (λ w. w.dirty) is ∙ rw its.0 refl
        | inr other ↦ let same = stays_way place other.1 in ap (λ w. w.dirty) same
            ∙ shape.clean place (sym (ap (λ w. w.slot) same) ∙ none)
      ]

  shape_out : Shape core → Shape out
  shape_out shape = record {
    live = λ place filled. let kept = left_way place filled in
        let before = shape.live place (λ none. filled (ap (λ w. w.slot) kept.0 ∙ none)) in
        subst (λ w. IsLive out w.slot) (sym kept.0) (live_there _ kept.1 before);
    inside = λ place filled. let kept = left_way place filled in
        subst (λ w. w.line < 2 ^ 15) (sym kept.0)
        (shape.inside place (λ none. filled (ap (λ w. w.slot) kept.0 ∙ none)));
    mapped = λ place filled. let kept = left_way place filled in
        let before = shape.mapped place (λ none. filled (ap (λ w. w.slot) kept.0 ∙ none)) in (
          before.0,
          subst (λ w. frame_of out.pages w.slot (page_of w.line) ≡ Some before.0)
              (sym kept.0) (pages-other core.pages slot _ _ kept.1 ∙ before.1),
        );
    one = λ place other filled is.
        let kept = left_way place filled in
        let its = left_way other (λ none. filled (sym is.0 ∙ none)) in
        let now = subst (λ w. IsOf w (way_at out.ways place).slot (way_at out.ways place).line)
        its.0 is in
        shape.one place other (λ none. filled (ap (λ w. w.slot) kept.0 ∙ none))
        (now.0 ∙ ap (λ w. w.slot) kept.0, now.1 ∙ ap (λ w. w.line) kept.0);
    clean = clean_out shape;
    owned = λ k page frame is. elim (eqb_tells k slot) [
      | inl its ↦ absurd (let none = pages-gone core.pages slot page in let one : frame_of out.pages
          slot page ≡ Some frame = subst (λ j. frame_of out.pages j page ≡ Some frame) its.1 is in
          cc)
      | inr differs ↦ live_there k differs.1
          (shape.owned k page frame (sym (pages-other core.pages slot k page differs.1) ∙ is))
    ];
    no_image = shape.no_image;
    no_envelope = shape.no_envelope;
    to_come = shape.to_come;
    apart = λ k other live live' same. shape.apart k other (was k live) (was other live')
        (sym (ap (λ t. t.install) (same_out k live)) ∙ same ∙ ap (λ t. t.install)
        (same_out other live'));
    null = ap (λ t. is_live t.state) (there 0 (λ none. some (sym none))) ∙ shape.null;
    numbers = λ k. elim (eqb_tells k slot) [
      | inl its ↦ subst (λ j. (session_of out j).install ≤ core.installs) (sym its.1)
          (subst (λ t. t.install ≤ core.installs) (sym here) number)
      | inr differs ↦ subst (λ t. t.install ≤ core.installs) (sym (there k differs.1))
          (shape.numbers k)
    ];
    boot = shape.boot;
    count = shape.count;
    ids = λ k. elim (eqb_tells k slot) [
      | inl its ↦ subst (λ j. length (session_of out j).id.0 ≡ 16) (sym its.1)
          (subst (λ t. length t.id.0 ≡ 16) (sym here) id)
      | inr differs ↦ subst (λ t. length t.id.0 ≡ 16) (sym (there k differs.1)) (shape.ids k)
    ];
    way_places = length-map core.ways (free_if slot) ∙ shape.way_places;
    page_places = length-set core.pages slot no_pages ∙ shape.page_places;
    store_places = shape.store_places;
  }

  private_out : (k : ℕ) → k ≢ 0 → IsLive out k → (owner : Owner) (memory : ℕ → List ℕ)
      → Private Stands core k owner memory → Private Stands out k owner memory
  private_out k filled live owner memory holds =
      let session = same_out k live in
      let differs = another k live in
      record {
        lines = λ line low. subst (λ t. LineHolds owner (who_in core.boot t) k line out.ways
            (seals_of core.entries) (memory line)) (sym session)
            (lines_alike owner (who_of core k) k line core.ways out.ways (seals_of core.entries)
            (memory line)
            (λ place is. (left_way place (λ none. filled (sym is.0 ∙ none))).0)
            (λ place is. stays_way place (λ its. differs (sym is.0 ∙ its)))
            (holds.lines line low));
        stands = subst (λ t. Stands (store_of core k) core.entries
            (version_of_line (who_in core.boot t) (seals_of core.entries))) (sym session)
            holds.stands;
      }

  reg_within : (reg : ℕ) → reg < 34 → reg < length core.cells
  reg_within reg to = omega arith

  pub gone_kept : Kept Stands owners core out
  gone_kept = record {
    shape = shape_out;
    boot = refl;
    machine = refl;
    last = refl;
    more = (goes_none core.entries).more;
    steps = λ n. refl;
    installed = λ n its is. is;
    registers = λ key name ct. refl;
    seals = seals_stay core.sessions out.sessions core.installs core.entries core.entries refl
        (omega arith) same_out;
    same = same_out;
    lent = λ reg from to none.
        cell-scrubbed slot core.cells reg (reg_within reg to) ∙ scrubbed_cell-other slot
        (cell_at core.cells reg) (λ its. some (sym its ∙ none));
    cells = λ reg from to tagged. scrubbed-tagged slot core.cells reg (reg_within reg to) tagged;
    tags = λ reg from to live tagged.
        let same = scrubbed-tagged slot core.cells reg (reg_within reg to) tagged in
        live_there _ (λ its. scrubbed-tag slot core.cells reg some (reg_within reg to)
        (ap (λ c. c.tag) same ∙ its)) live;
    stay = λ reg from to live.
        let differs = another _ live in
        cell-scrubbed slot core.cells reg (reg_within reg to) ∙ scrubbed_cell-other slot
        (cell_at core.cells reg) differs;
    cell_places = length-scrubbed slot core.cells;
    session_places = length-set core.sessions slot s;
    ram = λ fit. (
      refl,
      record {
        frames = λ k page frame is. elim (eqb_tells k slot) [
          | inl its ↦ absurd (let no_frame = pages-gone core.pages slot page in
              let one : frame_of out.pages slot page ≡ Some frame =
              subst (λ j. frame_of out.pages j page ≡ Some frame) its.1 is in cc)
          | inr differs ↦ fit.frames k page frame
              (sym (pages-other core.pages slot k page differs.1) ∙ is)
        ];
        areas = areas_stay core out refl
            (λ k alive. (sym (ap (λ t. is_live t.state) (same_out k alive)) ∙ alive, refl)) fit.areas;
      },
    );
    private = λ k filled live owner memory whose holds. private_out k filled live owner memory
        holds;
  }

-- ---- A stop, an exit and a Kill

module _ (Stands : StandsFor) (owners : List Owner) (v : Versions) (law : VersionLaw v Stands)
    (core : CoreState) (slot : ℕ) (some : slot ≢ 0) (places : length core.sessions ≡ 17)
    (known : slot ≤ 16) (whole : length core.cells ≡ 34) (shape : Shape core) where
  pub left_kept : (final : SlotState) → is_live final ≡ false
      → Kept Stands owners core (after_leaving core slot final)
  unfolding without_guest
  left_kept final dead =
      gone_kept Stands owners core slot (session_after_leaving (session_of core slot) final) some (omega arith) whole
      dead (shape.numbers slot) (shape.ids slot)

  pub stopped_kept : (why : Rule) → Kept Stands owners core (after_stop core slot why)
  stopped_kept why =
      let mid = after_leaving core slot (state.Stopped why) in
      let stop = entry.Stop (session_of core slot).install why in
      kept_on Stands owners core mid (after_stop core slot why) (left_kept (state.Stopped why) refl)
      (kept_rest Stands owners v law mid mid.pointers mid.ram (mid.entries ++ stop ∷ [])
      (goes_entry mid.entries stop (record { step = λ n. refl; install = λ n id no. no }))
      (seals_none mid.entries stop refl) refl)

  killed_session : Kept Stands owners core (core_with_session (without_guest core slot) slot free)
  unfolding without_guest
  killed_session =
      gone_kept Stands owners core slot free some (omega arith) whole refl (omega arith) refl

  pub killed_kept : Kept Stands owners core (after_kill v core slot)
  killed_kept =
      let mid = core_with_session (without_guest core slot) slot free in
      let kill = entry.Kill (session_of core slot).install in
      kept_on Stands owners core mid (after_kill v core slot) killed_session
      (kept_rest Stands owners v law mid mid.pointers mid.ram (mid.entries ++ kill ∷ [])
      (goes_entry mid.entries kill (record { step = λ n. refl; install = λ n id no. no }))
      (seals_none mid.entries kill refl) refl)
