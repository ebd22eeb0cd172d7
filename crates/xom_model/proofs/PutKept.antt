-- Another line in a place of the cache, where what stood dirty there is behind its line.
use Rattle.std.proofs.Common.{◌≡◌, ◌≢◌, inl, inr, ℕ, ◌<◌, ◌^◌, List, Some, length, refl, sym, ◌∙◌, ap, subst, true, false, length-set}
use Rattle.std.proofs.lemmas.List.{get_or-set_same, get_or-set_other}
use Rattle.std.proofs.lemmas.Bool.Decides.{eqb_tells}
use Rattle.xom_owners.specs.declared.owner.Owner.{Owner}
use Rattle.xom_owners.specs.Owners.{owner_of}
use Rattle.xom_model.specs.Honest.{seals_of}
use Rattle.xom_model.specs.Versions.{StandsFor}
use Rattle.line_cache.specs.declared.way.Way.{Way}
use Rattle.page_map.specs.Pages.{frame_of}
use Rattle.line_cache.specs.Ways.{free_way, way_at}
use Rattle.xom_model.specs.State.{CoreState, core_with_way, page_of, session_of}
use Rattle.xom_model.specs.Lines.{version_of_line, who_of}
use Rattle.xom_model.specs.Holds.{Behind, IsLive, IsOf, LineHolds, Private, Shape}
use Rattle.xom_model.specs.Kept.{Kept}

-- what stands dirty in a place is behind its line, if its slot is live
abbrev pub IsDone : StandsFor → List Owner → CoreState → ℕ → Type 0
IsDone Stands owners core place =
    (slot line : ℕ) → slot ≢ 0 → IsLive core slot → IsOf (way_at core.ways place) slot line
    → (way_at core.ways place).dirty ≡ true
    → (owner : Owner) (memory : ℕ → List ℕ) → owner_of owners (session_of core slot).id ≡ Some owner
    → Private Stands core slot owner memory
    → Behind owner (who_of core slot) line (version_of_line (who_of core slot)
    (seals_of core.entries) line) (seals_of core.entries) (memory line)

-- A clean line that may stand in a place, with the bytes that it had in the base, an earlier core.
pub record MayStand (Stands : StandsFor) (owners : List Owner) (base core : CoreState) (place : ℕ)
    (way : Way) : Type 0 where
  pub clean : way.dirty ≡ false
  pub live : way.slot ≢ 0 → IsLive core way.slot
  pub inside : way.slot ≢ 0 → way.line < 2 ^ 15
  pub mapped : way.slot ≢ 0
      → (frame : ℕ) × (frame_of core.pages way.slot (page_of way.line) ≡ Some frame)
  pub alone : way.slot ≢ 0 → (other : ℕ) → IsOf (way_at core.ways other) way.slot way.line
      → other ≡ place
  pub fits : way.slot ≢ 0 → (owner : Owner) (memory : ℕ → List ℕ)
      → owner_of owners (session_of base way.slot).id ≡ Some owner
      → Private Stands base way.slot owner memory → way.bytes ≡ memory way.line

-- no line may stand anywhere
pub free_may : (Stands : StandsFor) (owners : List Owner) (base core : CoreState) (place : ℕ)
    → MayStand Stands owners base core place free_way
free_may Stands owners base core place = record {
  clean = refl;
  live = λ some. absurd (some refl);
  inside = λ some. absurd (some refl);
  mapped = λ some. absurd (some refl);
  alone = λ some. absurd (some refl);
  fits = λ some. absurd (some refl);
}

module _ (Stands : StandsFor) (owners : List Owner) (base core : CoreState)
    (kept : Kept Stands owners base core) (place : ℕ) (way : Way) (within : place < length core.ways)
    (may : MayStand Stands owners base core place way) (done : IsDone Stands owners core place) where
  abbrev out : CoreState
  out = core_with_way core place way

  here : way_at out.ways place ≡ way
  here = get_or-set_same core.ways place way free_way within

  there : (other : ℕ) → other ≢ place → way_at out.ways other ≡ way_at core.ways other
  there other differs = get_or-set_other core.ways place other way free_way differs

  -- a fact on a place, from the new line or from the way that was there
  each : (P : ℕ → Way → Type 0) → P place way
      → ((other : ℕ) → other ≢ place → P other (way_at core.ways other)) → (other : ℕ)
      → P other (way_at out.ways other)
  each P new old other = elim (eqb_tells other place) [
    | inl is ↦ subst (λ k. P k (way_at out.ways k)) (sym is.1) (subst (P place) (sym here) new)
    | inr differs ↦ subst (P other) (sym (there other differs.1)) (old other differs.1)
  ]

  one_out : Shape core → (at other : ℕ) → (way_at out.ways at).slot ≢ 0
      → IsOf (way_at out.ways other) (way_at out.ways at).slot (way_at out.ways at).line
      → other ≡ at
  one_out shape =
      each (λ at w. (other : ℕ) → w.slot ≢ 0 → IsOf (way_at out.ways other) w.slot w.line
      → other ≡ at)
      (λ other some is. each (λ o w. IsOf w way.slot way.line → o ≡ place) (λ _. refl)
      (λ o differs is'. may.alone some o is') other is)
      (λ at differs other some is.
      each (λ o w. IsOf w (way_at core.ways at).slot (way_at core.ways at).line → o ≡ at)
      (λ its. absurd (differs (may.alone (λ none. some (sym its.0 ∙ none)) at
      (sym its.0, sym its.1))))
      (λ o apart its. shape.one at o some its) other is)

  shape_out : Shape core → Shape out
  shape_out shape = record {
    live = each (λ at w. w.slot ≢ 0 → IsLive core w.slot) may.live (λ o differs. shape.live o);
    inside = each (λ at w. w.slot ≢ 0 → w.line < 2 ^ 15) may.inside (λ o differs. shape.inside o);
    mapped = each (λ at w. w.slot ≢ 0 → (frame : ℕ)
        × (frame_of core.pages w.slot (page_of w.line) ≡ Some frame)) may.mapped
        (λ o differs. shape.mapped o);
    one = one_out shape;
    clean = each (λ at w. w.slot ≡ 0 → w.dirty ≡ false) (λ _. may.clean)
        (λ o differs. shape.clean o);
    owned = shape.owned;
    no_image = shape.no_image;
    no_envelope = shape.no_envelope;
    to_come = shape.to_come;
    apart = shape.apart;
    null = shape.null;
    numbers = shape.numbers;
    boot = shape.boot;
    count = shape.count;
    ids = shape.ids;
    way_places = length-set core.ways place way ∙ shape.way_places;
    page_places = shape.page_places;
    store_places = shape.store_places;
  }

  module _ (slot : ℕ) (some : slot ≢ 0) (live : IsLive core slot) (owner : Owner)
      (memory : ℕ → List ℕ) (whose : owner_of owners (session_of base slot).id ≡ Some owner)
      (before : Private Stands base slot owner memory) where
    holds : Private Stands core slot owner memory
    holds = kept.private slot some live owner memory whose before

    whose_now : owner_of owners (session_of core slot).id ≡ Some owner
    whose_now = ap (λ s. owner_of owners s.id) (kept.same slot live) ∙ whose

    module _ (line : ℕ) (low : line < 2 ^ 15) where
      abbrev BehindIt : Type 0
      BehindIt =
          Behind owner (who_of core slot) line
          (version_of_line (who_of core slot) (seals_of core.entries) line)
          (seals_of core.entries) (memory line)

      abbrev AllClean : Type 0
      AllClean = (at : ℕ) → IsOf (way_at out.ways at) slot line → (way_at out.ways at).dirty ≡ false

      -- where what stood there was clean, or of another line
      from_others : AllClean
          → (IsOf (way_at core.ways place) slot line → (way_at core.ways place).dirty ≡ false)
          → BehindIt
      from_others clean its = (holds.lines line low).behind (λ at is. elim (eqb_tells at place) [
        | inl same ↦ subst (λ k. IsOf (way_at core.ways k) slot line
            → (way_at core.ways k).dirty ≡ false) (sym same.1) its is
        | inr differs ↦
            let stays = there at differs.1 in
            ap (λ w. w.dirty) (sym stays) ∙ clean at (subst (λ w. IsOf w slot line) (sym stays) is)
      ])

      behind_out : AllClean → BehindIt
      behind_out clean = elim ((way_at core.ways place).dirty) as
          (λ b. (way_at core.ways place).dirty ≡ b → BehindIt) [
            | false ↦ λ is. from_others clean (λ _. is)
            | true ↦ λ dirty. elim (eqb_tells (way_at core.ways place).slot slot) [
              | inl first ↦ elim (eqb_tells (way_at core.ways place).line line) [
                | inl second ↦ done slot line some live (first.1, second.1) dirty owner memory whose_now
                    holds
                | inr other ↦ from_others clean (λ is. absurd (other.1 is.1))
              ]
              | inr other ↦ from_others clean (λ is. absurd (other.1 is.0))
            ]
          ] refl

      cached_out : (at : ℕ) → IsOf (way_at out.ways at) slot line
          → (way_at out.ways at).bytes ≡ memory line
      cached_out = each (λ at w. IsOf w slot line → w.bytes ≡ memory line)
          (λ is.
          may.fits (λ none. some (sym is.0 ∙ none)) owner memory
          (subst (λ k. owner_of owners (session_of base k).id ≡ Some owner) (sym is.0) whose)
          (subst (λ k. Private Stands base k owner memory) (sym is.0) before)
          ∙ ap memory is.1)
          (λ o differs is. (holds.lines line low).cached o is)

      line_out : LineHolds owner (who_of core slot) slot line out.ways (seals_of core.entries)
          (memory line)
      line_out = record {
        cached = cached_out;
        behind = behind_out;
        above =
            (holds.lines line low).above;
        size = (holds.lines line low).size;
      }

    private_out : Private Stands out slot owner memory
    private_out = record { lines = line_out; stands = holds.stands }

  pub put_kept : Kept Stands owners base out
  put_kept = record {
    shape = λ shape. shape_out (kept.shape shape);
    boot = kept.boot;
    machine = kept.machine;
    last = kept.last;
    more = kept.more;
    steps = kept.steps;
    installed = kept.installed;
    registers = kept.registers;
    seals = kept.seals;
    same = kept.same;
    lent = kept.lent;
    cells = kept.cells;
    tags = kept.tags;
    stay = kept.stay;
    cell_places = kept.cell_places;
    session_places = kept.session_places;
    ram = λ fit. let fits = kept.ram fit in
        (fits.0, record { frames = fits.1.frames; areas = fits.1.areas });
    private = private_out;
  }
