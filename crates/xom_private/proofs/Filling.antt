-- Filling a way first and writing back what it held then gives what the model's order gives.
use Rattle.std.proofs.Common.{◌≡◌, ◌≢◌, inl, inr, ℕ, ◌+◌, ◌-◌, ◌<◌, Bool, true, false, List, Option, Some, None, Result, Ok, Err, get_or, drop, map, set, refl, sym, ◌∙◌, ap, subst, arith}
use Rattle.std.proofs.lemmas.List.{get_or-drop, get_or-take, length-take, map-set}
use Rattle.std.proofs.lemmas.List.Quantifiers.{position-Some}
use Rattle.std.proofs.lemmas.Bool.Decides.{eqb_tells}
use Rattle.std.proofs.Math.Seq.{map-set_same}
use Rattle.xom_base.specs.declared.event.Rule.TheVariants as rule
use Rattle.line_cache.specs.declared.way.Victim.{Victim}
use Rattle.line_cache.specs.declared.way.Way.{Way}
use Rattle.line_cache.specs.Ways.{first_place, free_if, free_in_set, free_way, is_free, new_way, place_for, set_of, victim_for, victim_of, way_at, without_slot}
use Rattle.xom_versions.specs.declared.store.Torn.{Torn}
use Rattle.xom_versions.specs.Versions.{Versions}
use Rattle.xom_model.specs.declared.reach.Reach.TheVariants as reach
use Rattle.xom_model.specs.Access.{after_raise, after_seal, after_stop, after_victim, cleared_at, or_stopped, reach_after_placing, reach_after_victim, sealed_by_raise, with_pointers, without_guest}
use Rattle.xom_model.specs.State.{CoreState, core_with_way, store_of}
use Rattle.xom_model.proofs.Gone.{free_if-other}
use Rattle.xom_private.specs.Cores.{FreeAreClean}
use Rattle.xom_private.specs.Settling.{access_after_settling, cache_of, core_with_new_line, if_dirty, settled_by, to_write}

-- ---- What is pushed out

-- a way that is taken because it is free is free
free_place : (ways : List Way) (line way : ℕ) → free_in_set ways line ≡ Some way
    → (way_at ways (first_place line + way)).slot ≡ 0
unfolding free_in_set
free_place ways line way is =
    let at = position-Some is_free (set_of ways line) way free_way is in
    let size = length-take (first_place line + 4 - first_place line)
    (drop (first_place line) ways) in
    let low : way < first_place line + 4 - first_place line = omega arith in
    let here : get_or (set_of ways line) way free_way ≡ way_at ways (first_place line + way) =
    get_or-take (first_place line + 4 - first_place line) (drop (first_place line) ways) way
    free_way low ∙ get_or-drop (first_place line) ways way free_way in
    let free : is_free (way_at ways (first_place line + way)) ≡ true = sym (ap is_free here)
    ∙ at.1 in
    elim (eqb_tells (way_at ways (first_place line + way)).slot 0) [
      | inl zero_is ↦
          zero_is.1
      | inr not ↦ absurd (let no_free = not.0 in cc)
    ]

-- what is to be written back, out of the way itself
pub pushed : (core : CoreState) (line : ℕ) → FreeAreClean core.ways
    → let way = way_at core.ways (place_for core.ways core.pointers line) in
    to_write (victim_for (cache_of core) line) ≡ if_dirty (victim_of way) way.dirty
pushed core line clean = elim (free_in_set core.ways line) as
    (λ free. free_in_set core.ways line ≡ free → let way =
    way_at core.ways (place_for core.ways core.pointers line) in
    to_write (victim_for (cache_of core) line) ≡ if_dirty (victim_of way) way.dirty) [
      | Some free ↦ λ is. (let none = clean (first_place line + free)
          (free_place core.ways line free is) in rw (is, none) refl)
      | None ↦ λ is. rw is refl
    ] refl

-- ---- The two orders

new_gone : (slot line : ℕ) (bytes : List ℕ) → free_if slot (new_way slot line bytes) ≡ free_way
new_gone slot line bytes = elim (eqb_tells slot slot) [
  | inl is ↦ rw is.0 refl
  | inr not ↦
      absurd (not.1 refl)
]

pub gone_way : (slot : ℕ) (way : Way) → way.slot ≡ slot → free_if slot way ≡ free_way
gone_way slot way its = elim (eqb_tells way.slot slot) [
  | inl is ↦ rw is.0 refl
  | inr not ↦
      absurd (not.1 its)
]

-- the stopped slot's new line goes with its others
own_gone : (slot place line : ℕ) (bytes : List ℕ) (ways : List Way)
    → (way_at ways place).slot ≡ slot
    → without_slot slot (set ways place (new_way slot line bytes)) ≡ without_slot slot ways
own_gone slot place line bytes ways its =
    map-set_same (free_if slot) ways place (new_way slot line bytes) free_way
    (new_gone slot line bytes ∙ sym (gone_way slot (way_at ways place) its))

-- another slot's new line stays
other_stays : (who slot place line : ℕ) (bytes : List ℕ) (ways : List Way) → who ≢ slot
    → without_slot who (set ways place (new_way slot line bytes)) ≡ set (without_slot who ways)
    place (new_way slot line bytes)
other_stays who slot place line bytes ways differs =
    map-set (free_if who) ways place (new_way slot line bytes)
    ∙ ap (set (map (free_if who) ways) place) (free_if-other who (new_way slot line bytes)
    (λ same. differs (sym same)))

module _ (v : Versions) (core : CoreState) (slot line : ℕ) (bytes : List ℕ) where
  abbrev place : ℕ
  place = place_for core.ways core.pointers line

  abbrev way : Way
  way = way_at core.ways place

  abbrev moved : CoreState
  moved = with_pointers core line

  abbrev full : CoreState
  full = core_with_way moved place (new_way slot line bytes)

  abbrev Same : Result ℕ Torn → Type 0
  Same answer = reach_after_victim v way.slot place slot line bytes
      (or_stopped v way.slot (sealed_by_raise v (after_raise v moved way.slot way.line) way.slot
      way.line way.bytes answer))
      ≡ settled_by slot place way.slot (sealed_by_raise v (after_raise v full way.slot way.line)
      way.slot way.line way.bytes answer).0
      (sealed_by_raise v (after_raise v full way.slot way.line) way.slot way.line way.bytes
      answer).1

  same_sealed : (version : ℕ) → Same (Ok version)
  unfolding after_raise after_seal
  same_sealed version = refl

  same_torn : (torn : Torn) → Same (Err torn)
  unfolding after_raise without_guest
  same_torn torn = elim (eqb_tells way.slot slot) [
    | inl is ↦ rw is.0 (ap
        (λ ways. (
          record (after_stop (after_raise v moved way.slot way.line) way.slot
              (rule.TreeNode torn.level)) { ways = ways },
          reach.Stopped (rule.TreeNode torn.level),
        ))
        (sym (subst (λ k. without_slot way.slot (set core.ways place (new_way k line bytes))
        ≡ without_slot way.slot core.ways) is.1 (own_gone way.slot place line bytes core.ways
        refl))))
    | inr differs ↦ rw differs.0
        (ap (λ ways. (
          record (after_stop (after_raise v moved way.slot way.line) way.slot
              (rule.TreeNode torn.level)) { ways = ways },
          reach.Ready place,
        ))
        (sym (other_stays way.slot slot place line bytes core.ways differs.1)))
  ]

  same_answer : (answer : Result ℕ Torn) → Same answer
  same_answer (Ok version) = same_sealed version
  same_answer (Err torn) = same_torn torn

  same_dirty : (dirty : Bool)
      → reach_after_victim v way.slot place slot line bytes (after_victim v moved way dirty)
      ≡ access_after_settling v full slot place (if_dirty (victim_of way) dirty)
  same_dirty false = refl
  same_dirty true = same_answer (v.answer_of_raise (store_of core way.slot) way.line core.ram)

  pub placed_settles : reach_after_placing v core slot line bytes ≡ access_after_settling v
      (core_with_new_line core slot line bytes) slot place (if_dirty (victim_of way) way.dirty)
  unfolding reach_after_placing cleared_at core_with_new_line
  placed_settles = same_dirty way.dirty

-- what the code makes of a new line is what the model makes of it
pub settles : (v : Versions) (core now : CoreState) (slot line at : ℕ) (bytes : List ℕ)
    (victim : Option Victim)
    → now ≡ core_with_new_line core slot line bytes → at ≡ place_for core.ways core.pointers line
    → victim ≡ to_write (victim_for (cache_of core) line) → FreeAreClean core.ways
    → access_after_settling v now slot at victim ≡ reach_after_placing v core slot line bytes
settles v core now slot line at bytes victim now_is at_is victim_is clean =
    rw (now_is, at_is, victim_is ∙ pushed core line clean)
    (sym (placed_settles v core slot line bytes))
