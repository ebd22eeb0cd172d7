-- Shape and private memory where a live slot's session changes, and where bytes are stored in a
-- cached line.
use Rattle.std.proofs.Common.{◌≡◌, ◌≢◌, inl, inr, ℕ, ◌+◌, ◌*◌, ◌/◌, ◌%◌, ◌<◌, ◌≤◌, ◌^◌, List, Some, length, drop, set, sym, ◌∙◌, ap, subst, arith, true, false, length-set}
use Rattle.std.proofs.lemmas.List.{get_or-set_same, get_or-set_other, length-drop, length-take}
use Rattle.std.proofs.lemmas.Bool.Decides.{eqb_tells}
use Rattle.xom_base.specs.declared.step.Stored.{Stored}
use Rattle.xom_base.specs.declared.step.Stored.TheVariants as stored
use Rattle.xom_owners.specs.declared.owner.Owner.{Owner}
use Rattle.mips_plain.specs.Memory.{low_bytes, stored_in, written_at}
use Rattle.mips_plain.proofs.Stores.{length-low_bytes}
use Rattle.session_table.specs.declared.session.Session.{Session}
use Rattle.session_table.specs.Sessions.{free, is_live}
use Rattle.xom_model.specs.Honest.{seals_of}
use Rattle.xom_model.specs.Versions.{StandsFor}
use Rattle.line_cache.specs.declared.way.Way.{Way}
use Rattle.page_map.specs.Pages.{frame_of}
use Rattle.line_cache.specs.Ways.{free_way, way_at}
use Rattle.xom_model.specs.State.{CoreState, page_of, session_of, store_of}
use Rattle.xom_model.specs.Lines.{Who, version_of_line, who_in, who_of}
use Rattle.xom_model.specs.Guest.{stored_at, stored_way}
use Rattle.xom_model.specs.Holds.{IsLive, IsOf, LineHolds, Private, Shape, line_of_bytes}
use Rattle.xom_model.proofs.Gone.{lines_alike}
use Rattle.xom_model.proofs.LineBytes.{length-written, line-other, line-stored}

-- ---- A session

module _ (Stands : StandsFor) (core : CoreState) (slot : ℕ) (s : Session) (some : slot ≢ 0)
    (within : slot < length core.sessions) (live : IsLive core slot) (lives : is_live s.state ≡ true)
    (install : s.install ≡ (session_of core slot).install)
    (id : s.id ≡ (session_of core slot).id) where
  abbrev pub with_it : CoreState
  with_it = record core { sessions = set core.sessions slot s }

  pub here : session_of with_it slot ≡ s
  here = get_or-set_same core.sessions slot s free within

  pub there : (other : ℕ) → other ≢ slot → session_of with_it other ≡ session_of core other
  there other differs = get_or-set_other core.sessions slot other s free differs

  live_on : (k : ℕ) → IsLive core k → IsLive with_it k
  live_on k before = elim (eqb_tells k slot) [
    | inl is ↦ subst (λ j. IsLive with_it j) (sym is.1) (ap (λ t. is_live t.state) here ∙ lives)
    | inr differs ↦ ap (λ t. is_live t.state) (there k differs.1) ∙ before
  ]

  was_live : (k : ℕ) → IsLive with_it k → IsLive core k
  was_live k now = elim (eqb_tells k slot) [
    | inl is ↦ subst (λ j. IsLive core j) (sym is.1) live
    | inr differs ↦ sym (ap (λ t. is_live t.state) (there k differs.1)) ∙ now
  ]

  install_same : (k : ℕ) → (session_of with_it k).install ≡ (session_of core k).install
  install_same k = elim (eqb_tells k slot) [
    | inl is ↦ subst (λ j. (session_of with_it j).install ≡ (session_of core j).install) (sym is.1)
        (ap (λ t. t.install) here ∙ install)
    | inr differs ↦ ap (λ t. t.install) (there k differs.1)
  ]

  id_same : (k : ℕ) → (session_of with_it k).id ≡ (session_of core k).id
  id_same k = elim (eqb_tells k slot) [
    | inl is ↦ subst (λ j. (session_of with_it j).id ≡ (session_of core j).id) (sym is.1)
        (ap (λ t. t.id) here ∙ id)
    | inr differs ↦ ap (λ t. t.id) (there k differs.1)
  ]

  pub session_shape : Shape core → Shape with_it
  session_shape shape = record {
    live = λ place filled. live_on _ (shape.live place filled);
    inside = shape.inside;
    mapped = shape.mapped;
    one = shape.one;
    clean = shape.clean;
    owned = λ k page frame is. live_on k (shape.owned k page frame is);
    no_image = shape.no_image;
    no_envelope = shape.no_envelope;
    to_come = shape.to_come;
    apart = λ k other one two same. shape.apart k other (was_live k one) (was_live other two)
        (sym (install_same k) ∙ same ∙ install_same other);
    null = ap (λ t. is_live t.state) (there 0 (λ none. some (sym none))) ∙ shape.null;
    numbers = λ k. subst (λ n. n ≤ core.installs) (sym (install_same k)) (shape.numbers k);
    boot = shape.boot;
    count = shape.count;
    ids = λ k. subst (λ i. length i.0 ≡ 16) (sym (id_same k)) (shape.ids k);
    way_places = shape.way_places;
    page_places = shape.page_places;
    store_places = shape.store_places;
  }

  -- names and keys of its lines stay
  module _ (same : who_in core.boot s ≡ who_of core slot) where
    who_same : (k : ℕ) → who_of with_it k ≡ who_of core k
    who_same k = elim (eqb_tells k slot) [
      | inl is ↦ subst (λ j. who_of with_it j ≡ who_of core j) (sym is.1)
          (ap (who_in core.boot) here ∙ same)
      | inr differs ↦ ap (who_in core.boot) (there k differs.1)
    ]

    pub session_private : (k : ℕ) (owner : Owner) (memory : ℕ → List ℕ)
        → Private Stands core k owner memory → Private Stands with_it k owner memory
    session_private k owner memory holds = record {
      lines = λ line low. subst (λ w. LineHolds owner w k line core.ways (seals_of core.entries)
          (memory line)) (sym (who_same k)) (holds.lines line low);
      stands = subst (λ w. Stands (store_of core k) core.entries
          (version_of_line w (seals_of core.entries))) (sym (who_same k)) holds.stands;
    }

-- ---- Bytes in a cached line

module _ (Stands : StandsFor) (core : CoreState) (slot place address : ℕ) (part : List ℕ)
    (some : slot ≢ 0) (is : IsOf (way_at core.ways place) slot (address / 32))
    (within : place < length core.ways)
    (fits : address % 32 + length part ≤ 32) (shape : Shape core) where
  abbrev pub with_bytes : CoreState
  with_bytes = record core {
    ways = set core.ways place (stored_way (way_at core.ways place) address
        part);
  }

  abbrev way : Way
  way = way_at core.ways place

  here_way : way_at with_bytes.ways place ≡ stored_way way address part
  here_way = get_or-set_same core.ways place _ free_way within

  there_way : (other : ℕ) → other ≢ place → way_at with_bytes.ways other ≡ way_at core.ways other
  there_way other differs = get_or-set_other core.ways place other _ free_way differs

  filled : way.slot ≢ 0
  filled none = some (sym is.0 ∙ none)

  each : (P : ℕ → Way → Type 0) → P place (stored_way way address part)
      → ((other : ℕ) → other ≢ place → P other (way_at core.ways other)) → (other : ℕ)
      → P other (way_at with_bytes.ways other)
  each P new old other = elim (eqb_tells other place) [
    | inl same ↦ subst (λ k. P k (way_at with_bytes.ways k)) (sym same.1)
        (subst (P place) (sym here_way) new)
    | inr differs ↦ subst (P other) (sym (there_way other differs.1)) (old other differs.1)
  ]

  pub bytes_shape : Shape with_bytes
  bytes_shape = record {
    live = each (λ at w. w.slot ≢ 0 → IsLive core w.slot) (shape.live place)
        (λ o differs. shape.live o);
    inside = each (λ at w. w.slot ≢ 0 → w.line < 2 ^ 15) (shape.inside place)
        (λ o differs. shape.inside o);
    mapped = each (λ at w. w.slot ≢ 0 → (frame : ℕ)
        × (frame_of core.pages w.slot (page_of w.line) ≡ Some frame)) (shape.mapped place)
        (λ o differs. shape.mapped o);
    one = λ at other has its.
        each (λ a w. w.slot ≢ 0 → (o : ℕ) → IsOf (way_at with_bytes.ways o) w.slot w.line → o ≡ a)
        (λ h o. each (λ b w. IsOf w way.slot way.line → b ≡ place) (λ i. shape.one place place h i)
        (λ b differs i. shape.one place b h i) o)
        (λ a differs h o. each (λ b w. IsOf w (way_at core.ways a).slot (way_at core.ways a).line
        → b ≡ a) (λ i. shape.one a place h i) (λ b apart i. shape.one a b h i) o)
        at has other its;
    clean = each (λ at w. w.slot ≡ 0 → w.dirty ≡ false) (λ none. absurd (filled none))
        (λ o differs. shape.clean o);
    owned = shape.owned;
    no_image = shape.no_image;
    no_envelope = shape.no_envelope;
    to_come = shape.to_come;
    apart = shape.apart;
    null = shape.null;
    numbers = shape.numbers;
    boot = shape.boot;
    count = shape.count;
    ids = shape.ids;
    way_places = length-set core.ways place _ ∙ shape.way_places;
    page_places = shape.page_places;
    store_places = shape.store_places;
  }

  -- a line that isn't the one in the place
  other_line : (k line : ℕ) → ¬ IsOf way k line → (owner : Owner) (who : Who) (bytes : List ℕ)
      → LineHolds owner who k line core.ways (seals_of core.entries) bytes
      → LineHolds owner who k line with_bytes.ways (seals_of core.entries) bytes
  other_line k line differs owner who bytes =
      lines_alike owner who k line core.ways with_bytes.ways (seals_of core.entries) bytes
      (λ at its. apart at (λ same. differs (subst (λ w. IsOf w k line) here_way
      (subst (λ j. IsOf (way_at with_bytes.ways j) k line) same its))))
      (λ at its. apart at (λ same. differs (subst (λ j. IsOf (way_at core.ways j) k line) same
      its)))
    where
      apart : (at : ℕ) → at ≢ place → way_at with_bytes.ways at ≡ way_at core.ways at
      apart = there_way

  pub bytes_other : (k : ℕ) → k ≢ slot → (owner : Owner) (memory : ℕ → List ℕ)
      → Private Stands core k owner memory → Private Stands with_bytes k owner memory
  bytes_other k differs owner memory holds = record {
    lines = λ line low. other_line k line (λ its. differs (sym its.0 ∙ is.0)) owner (who_of core k)
        (memory line) (holds.lines line low);
    stands = holds.stands;
  }

  -- the slot's own memory, with the bytes in that line
  module _ (owner : Owner) (memory new : ℕ → List ℕ) (own : new (address / 32) ≡ written_at
      (memory (address / 32)) (address % 32) part) (others : (line : ℕ) → line ≢ address / 32
      → new line ≡ memory line)
      (holds : Private Stands core slot owner memory) where
    its_line : address / 32 < 2 ^ 15
        → LineHolds owner (who_of core slot) slot (address / 32) with_bytes.ways
        (seals_of core.entries) (written_at (memory (address / 32)) (address % 32) part)
    its_line low =
        let old = holds.lines (address / 32) low in
        record {
          cached = each (λ at w. IsOf w slot (address / 32) → w.bytes ≡ written_at
              (memory (address / 32)) (address % 32) part)
              (λ _. ap (λ b. written_at b (address % 32) part) (old.cached place is))
              (λ at differs its. absurd
              (differs (shape.one place at filled (its.0 ∙ sym is.0, its.1 ∙ sym is.1))));
          behind = λ clean. absurd (let dirty = ap (λ w. w.dirty) here_way in let no_dirt =
              clean place (subst (λ w. IsOf w slot (address / 32)) (sym here_way) is) in cc);
          above = old.above;
          size = length-written (memory (address / 32)) part (address % 32)
              (let size : length (memory (address / 32)) ≡ 32 = old.size in omega arith) ∙ old.size;
        }

    pub bytes_own : Private Stands with_bytes slot owner new
    bytes_own = record {
      lines = λ line low. elim (eqb_tells line (address / 32)) [
        | inl same ↦
            subst (λ l. LineHolds owner (who_of core slot) slot l with_bytes.ways
            (seals_of core.entries) (new l)) (sym same.1)
            (subst (λ b. LineHolds owner (who_of core slot) slot (address / 32) with_bytes.ways
            (seals_of core.entries) b) (sym own) (its_line (subst (λ l. l < 2 ^ 15) same.1 low)))
        | inr differs ↦
            subst (λ b. LineHolds owner (who_of core slot) slot line with_bytes.ways
            (seals_of core.entries) b) (sym (others line differs.1))
            (other_line slot line (λ its. differs.1 (sym its.1 ∙ is.1)) owner (who_of core slot)
            (memory line) (holds.lines line low))
      ];
      stands = holds.stands;
    }

-- ---- What a step stores

-- the line at a place is the one in which a step stores, if it stores
abbrev pub StoresAt : CoreState → ℕ → ℕ → Stored → Type 0
StoresAt core slot place stored.Nothing = Unit {0}
StoresAt core slot place (stored.Bytes address count value) =
    IsOf (way_at core.ways place) slot (address / 32) × (place < 128) × (address % 32 + count ≤ 32)
    × (count ≤ 4) × (address < 2 ^ 20)

abbrev pub with_stored : CoreState → ℕ → Stored → CoreState
with_stored core place kept = record core { ways = stored_at core.ways place kept }

pub stored_shape : (Stands : StandsFor) (core : CoreState) (slot place : ℕ) → slot ≢ 0
    → (kept : Stored) → StoresAt core slot place kept → Shape core
    → Shape (with_stored core place kept)
stored_shape Stands core slot place some stored.Nothing at shape = shape
stored_shape Stands core slot place some (stored.Bytes address count value) at shape =
    bytes_shape Stands core slot place address (low_bytes count value) some at.0
    (let places : length core.ways ≡ 128 = shape.way_places in let low = at.1 in omega arith)
    (let size = length-low_bytes count value at.3 in let fits = at.2 in omega arith) shape

pub stored_other : (Stands : StandsFor) (core : CoreState) (slot place : ℕ) → slot ≢ 0
    → (kept : Stored) → StoresAt core slot place kept → Shape core
    → (k : ℕ) → k ≢ slot → (owner : Owner) (memory : ℕ → List ℕ)
    → Private Stands core k owner memory
    → Private Stands (with_stored core place kept) k owner memory
stored_other Stands core slot place some stored.Nothing at shape k differs owner memory holds =
    holds
stored_other Stands core slot place some (stored.Bytes address count value) at shape k differs owner
    memory holds =
    bytes_other Stands core slot place address (low_bytes count value) some at.0
    (let places : length core.ways ≡ 128 = shape.way_places in let low = at.1 in omega arith)
    (let size = length-low_bytes count value at.3 in let fits = at.2 in omega arith) shape k differs
    owner memory holds

-- a memory whose lines have their size is long enough
line_room : (bytes : List ℕ) (line : ℕ) → length (line_of_bytes bytes line) ≡ 32
    → 32 * line + 32 ≤ length bytes
line_room bytes line size =
    let a = length-take 32 (drop (32 * line) bytes) in let b = length-drop (32 * line) bytes in
    omega (arith, size)

pub stored_own : (Stands : StandsFor) (core : CoreState) (slot place : ℕ) → slot ≢ 0
    → (kept : Stored) → StoresAt core slot place kept → Shape core
    → (owner : Owner) (bytes : List ℕ) → Private Stands core slot owner (line_of_bytes bytes)
    → Private Stands (with_stored core place kept) slot owner (line_of_bytes (stored_in bytes kept))
stored_own Stands core slot place some stored.Nothing at shape owner bytes holds = holds
stored_own Stands core slot place some (stored.Bytes address count value) at shape owner bytes
    holds =
    let part = low_bytes count value in
    let size = length-low_bytes count value at.3 in
    let room = line_room bytes (address / 32)
    ((holds.lines (address / 32) (let high = at.4 in omega arith)).size) in
    let fits : address % 32 + length part ≤ 32 = (let inside = at.2 in omega arith) in
    let whole : address + length part ≤ length bytes = omega arith in
    bytes_own Stands core slot place address part some at.0 (let places : length core.ways ≡ 128 =
    shape.way_places in let low = at.1 in omega arith) fits shape owner
    (line_of_bytes bytes) (line_of_bytes (written_at bytes address part)) (line-stored bytes part address whole
    fits) (λ line differs. line-other bytes part address whole line fits differs) holds
