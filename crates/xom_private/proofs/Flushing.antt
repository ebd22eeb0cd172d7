-- Taking a page's lines out one after the other, and writing each back then, is the model's flush
-- of the page.
use Rattle.std.proofs.Common.{◌≡◌, inl, inr, ℕ, zero, suc, ◌+◌, ◌-◌, ◌*◌, ◌<◌, ◌≤◌, Bool, true, false, List, Option, Some, None, Result, Ok, Err, set, refl, sym, ◌∙◌, ap, subst, arith}
use Rattle.std.proofs.lemmas.Bool.Decides.{eqb_tells}
use Rattle.std.specs.Result.{IsErrAnd}
use Rattle.std.proofs.Math.Seq.{map-set_same}
use Rattle.xom_base.specs.declared.event.Rule.{Rule}
use Rattle.xom_base.specs.declared.event.Rule.TheVariants as rule
use Rattle.line_cache.specs.declared.way.Victim.{Victim}
use Rattle.line_cache.specs.declared.way.Way.{Way}
use Rattle.line_cache.specs.Lines.{HasNoLine, TakesLeast, way_found}
use Rattle.line_cache.specs.Ways.{Cache, free_if, free_way, place_of_line, victim_of, way_at, without_slot}
use Rattle.xom_versions.specs.declared.store.Torn.{Torn}
use Rattle.xom_versions.specs.Versions.{Versions}
use Rattle.xom_model.specs.Access.{after_eviction, after_flush, after_raise, after_seal, after_stop, after_victim, and_then, cleared_at, or_stopped, sealed_by_raise, taken_out, without_guest}
use Rattle.xom_model.specs.State.{CoreState, core_with_way, store_of}
use Rattle.xom_model.proofs.Gone.{less}
use Rattle.xom_private.specs.Cores.{rule_in}
use Rattle.xom_private.specs.Settling.{cache_of}
use Rattle.xom_private.specs.Flushing.{TakesOut, settled_out, way_of}
use Rattle.xom_private.proofs.Filling.{gone_way}

-- ---- The two orders

free_stays : (slot : ℕ) → free_if slot free_way ≡ free_way
free_stays slot = elim (eqb_tells 0 slot) [ inl is ↦ rw is.0 refl | inr other ↦ rw other.0 refl ]

-- the freed way of a stopped slot was to be freed
way_gone : (place : ℕ) (ways : List Way)
    → without_slot (way_at ways place).slot (set ways place free_way) ≡ without_slot
    (way_at ways place).slot ways
way_gone place ways =
    map-set_same (free_if (way_at ways place).slot) ways place free_way free_way
    (free_stays (way_at ways place).slot
    ∙ sym (gone_way (way_at ways place).slot (way_at ways place) refl))

module _ (v : Versions) (core : CoreState) (place : ℕ) where
  abbrev way : Way
  way = way_at core.ways place

  abbrev out : CoreState
  out = core_with_way core place free_way

  abbrev Same : Result ℕ Torn → Type 0
  Same answer = after_eviction place
      (or_stopped v way.slot (sealed_by_raise v (after_raise v core way.slot way.line) way.slot
      way.line way.bytes answer))
      ≡ or_stopped v way.slot (sealed_by_raise v (after_raise v out way.slot way.line) way.slot
      way.line way.bytes answer)

  same_torn : (torn : Torn) → Same (Err torn)
  unfolding after_raise without_guest
  same_torn torn = ap (λ ways. (
    record (after_stop (after_raise v core way.slot way.line) way.slot
        (rule.TreeNode torn.level)) { ways = ways },
    Some (rule.TreeNode torn.level),
  ))
      (sym (way_gone place core.ways))

  same_answer : (answer : Result ℕ Torn) → Same answer
  unfolding after_raise after_seal
  same_answer (Ok version) = refl
  same_answer (Err torn) = same_torn torn

  same_dirty : (dirty : Bool)
      → after_eviction place (after_victim v core way dirty) ≡ after_victim v out way dirty
  same_dirty false = refl
  same_dirty true = same_answer (v.answer_of_raise (store_of core way.slot) way.line core.ram)

  pub taken_settles : after_eviction place (cleared_at v core place) ≡ settled_out v out
      (victim_of way)
  unfolding cleared_at
  taken_settles = same_dirty way.dirty

-- a line that was written back leaves all ways
module _ (v : Versions) (core : CoreState) (way : Way) where
  ways_sealed : (answer : Result ℕ Torn)
      → (or_stopped v way.slot (sealed_by_raise v (after_raise v core way.slot way.line) way.slot
      way.line way.bytes answer)).1 ≡ None
      → (or_stopped v way.slot (sealed_by_raise v (after_raise v core way.slot way.line) way.slot
      way.line way.bytes answer)).0.ways ≡ core.ways
  unfolding after_raise after_seal
  ways_sealed (Ok version) none = refl
  ways_sealed (Err torn) none = absurd (cc)

  ways_stay : (dirty : Bool) → (after_victim v core way dirty).1 ≡ None
      → (after_victim v core way dirty).0.ways ≡ core.ways
  ways_stay false none = refl
  ways_stay true none =
      ways_sealed (v.answer_of_raise (store_of core way.slot) way.line core.ram) none

-- ---- One part after another

then_rest : (first : CoreState × Option Rule) (rest : CoreState → CoreState × Option Rule)
    → first.1 ≡ None → and_then first rest ≡ rest first.0
then_rest (core, None) rest none = refl
then_rest (core, Some why) rest none = absurd (cc)

then_ends : (first : CoreState × Option Rule) (rest : CoreState → CoreState × Option Rule)
    (why : Rule)
    → first.1 ≡ Some why → and_then first rest ≡ first
then_ends (core, None) rest why is = absurd (cc)
then_ends (core, Some other) rest why is = refl

-- where no rule is told, every part came to its end
no_rule_first : (first : CoreState × Option Rule) (rest : CoreState → CoreState × Option Rule)
    → (and_then first rest).1 ≡ None → first.1 ≡ None
no_rule_first (core, None) rest none = refl
no_rule_first (core, Some why) rest none = absurd (cc)

-- ---- Pages that stay

taken_pages : (place : ℕ) (first : CoreState × Option Rule) → (after_eviction place first).1 ≡ None
    → (first.1 ≡ None) × ((after_eviction place first).0.pages ≡ first.0.pages)
taken_pages place (core, None) none = (refl, refl)
taken_pages place (core, Some why) none = absurd (cc)

module _ (v : Versions) where
  pages_sealed : (core : CoreState) (way : Way) (answer : Result ℕ Torn)
      → (or_stopped v way.slot (sealed_by_raise v (after_raise v core way.slot way.line) way.slot
      way.line way.bytes answer)).1 ≡ None
      → (or_stopped v way.slot (sealed_by_raise v (after_raise v core way.slot way.line) way.slot
      way.line way.bytes answer)).0.pages ≡ core.pages
  unfolding after_raise after_seal
  pages_sealed core way (Ok version) none = refl
  pages_sealed core way (Err torn) none = absurd (cc)

  cleared_pages : (core : CoreState) (way : Way) (dirty : Bool)
      → (after_victim v core way dirty).1 ≡ None
      → (after_victim v core way dirty).0.pages ≡ core.pages
  cleared_pages core way false none = refl
  cleared_pages core way true none =
      pages_sealed core way (v.answer_of_raise (store_of core way.slot) way.line core.ram) none

  taken_out_pages : (core : CoreState) (at : Option ℕ) → (taken_out v core at).1 ≡ None
      → (taken_out v core at).0.pages ≡ core.pages
  unfolding cleared_at
  taken_out_pages core None none = refl
  taken_out_pages core (Some place) none =
      let ended = taken_pages place (cleared_at v core place) none in
      ended.1 ∙ cleared_pages core (way_at core.ways place) (way_at core.ways place).dirty ended.0

  -- a flush that tells no rule leaves all pages
  pub flushed_pages : (slot count line : ℕ) (core : CoreState)
      → (after_flush v slot count line core).1 ≡ None
      → (after_flush v slot count line core).0.pages ≡ core.pages
  unfolding after_flush
  flushed_pages slot zero line core none = refl
  flushed_pages slot (suc count) line core none =
      let first : CoreState × Option Rule = taken_out v core (place_of_line core.ways slot line) in
      let rest : CoreState → CoreState × Option Rule = after_flush v slot count (line + 1) in
      let ended : first.1 ≡ None = no_rule_first first rest none in
      let whole : and_then first rest ≡ rest first.0 = then_rest first rest ended in
      ap (λ (r : CoreState × Option Rule). r.0.pages) whole
      ∙ flushed_pages slot count (line + 1) first.0
      (sym (ap (λ (r : CoreState × Option Rule). r.1) whole) ∙ none)
      ∙ taken_out_pages core (place_of_line core.ways slot line) ended

-- ---- Lines that aren't cached

-- no line from one on to another is cached
abbrev pub NoneFrom : List Way → ℕ → ℕ → ℕ → Type 0
NoneFrom ways slot from to = (line : ℕ) → from ≤ line → line < to → place_of_line ways slot line ≡ None

module _ (v : Versions) (slot more : ℕ) where
  -- such lines are passed over
  pub passed_over : (count total from to : ℕ) (core : CoreState) → total ≡ count + more
      → to ≡ from + count → NoneFrom core.ways slot from to
      → after_flush v slot total from core ≡ after_flush v slot more to core
  unfolding after_flush
  passed_over zero total from to core total_is to_is none =
      let totals : total ≡ more = omega arith in
      let places : to ≡ from = omega arith in
      rw (totals, places) refl
  passed_over (suc count) total from to core total_is to_is none =
      let totals : total ≡ suc (count + more) = omega arith in
      rw totals
      (ap (λ at. and_then (taken_out v core at) (after_flush v slot (count + more) (from + 1)))
      (none from (omega arith) (omega arith))
      ∙ passed_over count (count + more) (from + 1) to core refl (omega arith)
      (λ line low high. none line (omega arith) high))

-- a page without a cached line is flushed already
pub none_left : (v : Versions) (slot page : ℕ) (core : CoreState)
    → NoneFrom core.ways slot (128 * page) (128 * page + 128)
    → after_flush v slot 128 (128 * page) core ≡ (core, None)
unfolding after_flush
none_left v slot page core none =
    passed_over v slot 0 128 128 (128 * page) (128 * page + 128) core (omega arith) refl none

pub none_of_page : (v : Versions) (slot page : ℕ) (core : CoreState) → HasNoLine core.ways slot page
    → after_flush v slot 128 (128 * page) core ≡ (core, None)
none_of_page v slot page core none =
    none_left v slot page core (λ line low high. none line (omega arith))

-- ---- One line of a page

not_found : (ways : List Way) (at : Option ℕ) → way_found ways at ≡ None → at ≡ None
not_found ways None none = refl
not_found ways (Some place) none = absurd (cc)

-- the flush of the page has come so far: no line of the page before this one is left, and the rest
-- is flushed to the same end
pub record Reached (v : Versions) (slot page count : ℕ) (start core : CoreState) : Type 0 where
  pub same : after_flush v slot 128 (128 * page) core ≡ after_flush v slot 128 (128 * page) start
  pub gone : NoneFrom core.ways slot (128 * page) (128 * page + count)

module _ (v : Versions) (slot page : ℕ) (some : 1 ≤ slot) (old mid : CoreState) (victim : Victim)
    (out : TakesOut old mid slot page victim) where
  abbrev takes : TakesLeast (cache_of old) (cache_of mid) slot page victim
  takes = out.takes

  abbrev settled : CoreState × Option Rule
  settled = settled_out v mid victim

  abbrev remaining : ℕ
  remaining = 128 * page + 127 - victim.line

  in_page : (128 * page ≤ victim.line) × (victim.line < 128 * page + 128)
  in_page = let page_is = takes.page_is in (omega arith, omega arith)

  settled_is : after_eviction takes.place (cleared_at v old takes.place) ≡ settled
  settled_is =
      taken_settles v old takes.place
      ∙ ap (λ core. settled_out v core (victim_of (way_at old.ways takes.place)))
      (sym (out.rest ∙ ap (λ (c : Cache). record old { ways = c.ways }) takes.cache))
      ∙ ap (settled_out v mid) (sym takes.whole)

  before : NoneFrom old.ways slot (128 * page) victim.line
  before line low high = let within = in_page in takes.least line high (omega arith)

  after : NoneFrom mid.ways slot (128 * page) (victim.line + 1)
  after line low high = elim (less line victim.line) [
    | inl lower ↦ not_found mid.ways (place_of_line mid.ways slot line)
        (takes.other_lines slot line (λ none. absurd (omega arith)) (λ _ same. absurd (omega arith))
        ∙ ap (way_found old.ways) (before line low lower))
    | inr last ↦
        let same : victim.line ≡ line = omega arith in
        subst (λ l. place_of_line mid.ways slot l ≡ None) same
        (not_found mid.ways (place_of_line mid.ways slot victim.line) takes.gone)
  ]

  from_here : after_flush v slot 128 (128 * page) old ≡ and_then settled
      (after_flush v slot remaining (victim.line + 1))
  unfolding after_flush
  from_here =
      let within = in_page in
      passed_over v slot (suc remaining) (victim.line - 128 * page) 128 (128 * page) victim.line old
      (omega arith) (omega arith) before
      ∙ ap (λ at. and_then (taken_out v old at) (after_flush v slot remaining (victim.line + 1)))
      takes.place_is
      ∙ ap (λ first. and_then first (after_flush v slot remaining (victim.line + 1))) settled_is

  from_next : (new : CoreState) → new.ways ≡ mid.ways
      → after_flush v slot 128 (128 * page) new ≡ after_flush v slot remaining (victim.line + 1) new
  from_next new ways_are =
      let within = in_page in
      passed_over v slot remaining (victim.line + 1 - 128 * page) 128 (128 * page) (victim.line + 1)
      new (omega arith) (omega arith)
      (λ line low high. ap (λ ways. place_of_line ways slot line) ways_are ∙ after line low high)

  -- the least line is past those that are gone
  past_gone : (count : ℕ) → NoneFrom old.ways slot (128 * page) (128 * page + count)
      → 128 * page + count ≤ victim.line
  past_gone count gone = elim (less victim.line (128 * page + count)) [
    | inl low ↦ absurd (let none = gone victim.line in_page.0 low in let there = takes.place_is in
        cc)
    | inr high ↦ high
  ]

  -- a line was written back or was clean, and the flush goes on
  pub reached_next : (start new : CoreState) (count : ℕ) → new ≡ settled.0 → None ≡ settled.1
      → Reached v slot page count start old → Reached v slot page (count + 1) start new
  reached_next start new count new_is told reached =
      let none : settled.1 ≡ None = sym told in
      let ways_are : new.ways ≡ mid.ways = ap (λ (c : CoreState). c.ways) new_is ∙ ways_stay v mid
      (way_of victim) victim.dirty none in
      record {
        same = from_next new ways_are ∙ ap (after_flush v slot remaining (victim.line + 1)) new_is
            ∙ sym (then_rest settled (after_flush v slot remaining (victim.line + 1)) none)
            ∙ sym from_here ∙ reached.same;
        gone = λ line low high.
            let past = past_gone count reached.gone in
            ap (λ ways. place_of_line ways slot line) ways_are ∙ after line low (omega arith);
      }

  -- the slot was stopped, and the flush ends with that
  pub reached_stop : (start new : CoreState) (count : ℕ) (why : Rule) → new ≡ settled.0
      → Some why ≡ settled.1 → Reached v slot page count start old
      → (new ≡ (after_flush v slot 128 (128 * page) start).0)
      × (Some why ≡ (after_flush v slot 128 (128 * page) start).1)
  reached_stop start new count why new_is is reached =
      let all = sym (then_ends settled (after_flush v slot remaining (victim.line + 1)) why
      (sym is)) ∙ sym from_here ∙ reached.same in (
        new_is ∙ ap (λ (r : CoreState × Option Rule). r.0) all,
        is
            ∙ ap (λ (r : CoreState × Option Rule). r.1) all,
      )

-- ---- The end

module _ (v : Versions) (slot page count : ℕ) (start core : CoreState)
    (reached : Reached v slot page count start core) where
  -- where no line of the page is left
  pub reached_none : (new : CoreState) → new ≡ core → HasNoLine core.ways slot page
      → (new, None) ≡ after_flush v slot 128 (128 * page) start
  reached_none new new_is none =
      ap (λ c. (c, None)) new_is ∙ sym (none_of_page v slot page core none) ∙ reached.same

  -- no line of the page is left where all were looked for
  pub reached_gone : count ≡ 128 → HasNoLine core.ways slot page
  reached_gone all line of = reached.gone line (omega arith) (omega arith)

  -- where all lines were looked for
  pub reached_end : count ≡ 128 → (core, None) ≡ after_flush v slot 128 (128 * page) start
  reached_end all =
      sym (none_left v slot page core (λ line low high. reached.gone line low (omega arith)))
      ∙ reached.same

-- no line of the page is cached in a core that is the same
pub none_there : (slot page : ℕ) (core new : CoreState) → new ≡ core → HasNoLine core.ways slot page
    → HasNoLine new.ways slot page
none_there slot page core new same none =
    subst (λ (c : CoreState). HasNoLine c.ways slot page) (sym same) none

-- pages stay where the flush came to its end
pub pages_left : (v : Versions) (slot page : ℕ) (start new : CoreState)
    → (new, None) ≡ after_flush v slot 128 (128 * page) start → new.pages ≡ start.pages
pages_left v slot page start new is =
    ap (λ (r : CoreState × Option Rule). r.0.pages) is
    ∙ flushed_pages v slot 128 (128 * page) start
    (sym (ap (λ (r : CoreState × Option Rule). r.1) is))

-- the rule that an answer has is the one that it tells
pub rule_told : (result : Result Unit Rule) (why : Rule) → IsErrAnd result (λ e. e ≡ why)
    → rule_in result ≡ Some why
rule_told (Ok done) why is = absurd is
rule_told (Err e) why is = ap Some is
