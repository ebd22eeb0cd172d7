-- What the machine keeps holds at power-on, whatever stands in RAM.
use Rattle.std.proofs.Common.{◌≡◌, inl, inr, ℕ, ◌<◌, None, length, get_or, replicate, refl, ◌∙◌, ap, arith}
use Rattle.std.proofs.lemmas.List.{get_or-replicate, get_or_past, length-replicate}
use Rattle.tag_regs.specs.TaggedCells.{all_empty, cell_at, empty_cell}
use Rattle.session_table.specs.Sessions.{free, is_live, none_held, session_at}
use Rattle.xom_versions.specs.Versions.{Versions}
use Rattle.xom_model.specs.Versions.{StandsFor}
use Rattle.line_cache.specs.Ways.{free_way, no_ways, way_at}
use Rattle.page_map.specs.Pages.{frame_of, no_pages, nothing_mapped}
use Rattle.xom_model.specs.State.{core_at_start}
use Rattle.xom_model.specs.Holds.{IsLive, IsRunning}
use Rattle.xom_model.specs.Laws.{HoldsAtStart}
use Rattle.xom_model.proofs.Gone.{frame-none, less}

-- at power-on each place of the table is free
free_at : (slot : ℕ) → session_at none_held slot ≡ free
unfolding none_held
free_at slot = elim (less slot 17) [
  | inl within ↦ get_or-replicate 17 slot free free within
  | inr past ↦ get_or_past (replicate 17 free) slot free past
]

length-none_held : length none_held ≡ 17
unfolding none_held
length-none_held = refl

-- each cell is empty
empty_at : (reg : ℕ) → reg < 34 → cell_at all_empty reg ≡ empty_cell
unfolding all_empty
empty_at reg to = get_or-replicate 34 reg empty_cell empty_cell to

length-all_empty : length all_empty ≡ 34
unfolding all_empty
length-all_empty = refl

-- no line is cached
way_free : (place : ℕ) → way_at no_ways place ≡ free_way
unfolding no_ways
way_free place = elim (less place 128) [
  | inl within ↦ get_or-replicate 128 place free_way free_way within
  | inr past ↦ get_or_past (replicate 128 free_way) place free_way
      (omega (arith, length-replicate 128 free_way))
]

length-no_ways : length no_ways ≡ 128
unfolding no_ways
length-no_ways = length-replicate 128 free_way

-- no page is mapped
pub none_mapped : (slot page : ℕ) → frame_of nothing_mapped slot page ≡ None
unfolding nothing_mapped
none_mapped slot page =
    ap (λ pages. get_or pages page None) (elim (less slot 17) [
      | inl within ↦ get_or-replicate 17 slot no_pages no_pages within
      | inr past ↦ get_or_past (replicate 17 no_pages) slot no_pages
          (omega (arith, length-replicate 17 no_pages))
    ]) ∙ frame-none page

length-nothing_mapped : length nothing_mapped ≡ 17
unfolding nothing_mapped
length-nothing_mapped = length-replicate 17 no_pages

pub start_holds : (v : Versions) (Stands : StandsFor) → HoldsAtStart v Stands
start_holds v Stands owners machine boot ram low =
    let core = core_at_start v machine boot ram in
    let rests : (slot : ℕ) → ¬ IsLive core slot =
    λ slot live. (let its = ap (λ s. is_live s.state) (free_at slot) in cc) in
    let rests_too : (slot : ℕ) → ¬ IsRunning core slot =
    λ slot runs. (let its = ap (λ s. s.state) (free_at slot) in cc) in
    let no_way : (place : ℕ) → (way_at core.ways place).slot ≡ 0 = λ place. ap (λ w. w.slot)
    (way_free place) in
    record {
      slots = record {
        alone = λ install id nothing. absurd nothing;
        held = λ slot live. absurd (rests slot live);
        tags = λ reg from to some. absurd (some (ap (λ c. c.tag) (empty_at reg to)));
        ids = λ slot live. absurd (rests slot live);
        steps = λ install above. refl;
        installs = λ install id nothing. absurd nothing;
        shape = record {
          live = λ place filled. absurd (filled (no_way place));
          inside = λ place filled. absurd (filled (no_way place));
          mapped = λ place filled. absurd (filled (no_way place));
          one = λ place other filled is. absurd (filled (no_way place));
          clean = λ place none. ap (λ w. w.dirty) (way_free place);
          owned = λ slot page frame is. absurd (let none = none_mapped slot page in cc);
          no_image = λ key id line ct. refl;
          no_envelope = λ key envelope. refl;
          to_come = λ install line above top few. refl;
          apart = λ slot other live. absurd (rests slot live);
          null = ap (λ s. is_live s.state) (free_at 0);
          numbers = λ slot. let its = ap (λ s. s.install) (free_at slot) in omega arith;
          boot = low;
          count = omega arith;
          ids = λ slot. ap (λ s. length s.id.0) (free_at slot);
          way_places = length-no_ways;
          page_places = length-nothing_mapped;
          store_places = length-replicate 17 v.blank_store;
        };
        fits = record {
          frames = λ slot page frame is. absurd (let none = none_mapped slot page in cc);
          areas = λ slot live. absurd (rests slot live);
        };
        seals = record {
          beyond = λ install line low past top. refl;
          to_come = λ name is above key ct. refl;
          epochs = λ slot live. absurd (rests slot live);
          counted = λ slot live. absurd (rests slot live);
          once = λ key message other_key other one two same. absurd (cc one);
        };
        cell_places = length-all_empty;
        session_places = length-none_held;
      };
      running = record {
        one = λ slot other runs. absurd (rests_too slot runs);
        tagged = λ slot reg runs. absurd (rests_too slot runs);
      };
    }
