-- A journal is honest exactly where the judge's two searches find nothing.
use Rattle.std.proofs.Common.{◌≡◌, ◌⊎◌, inl, inr, ℕ, zero, suc, not, ◌+◌, ◌<◌, cond, Bool, true, false, List, [], ◌∷◌, ◌++◌, Option, Some, None, length, take, drop, get_or, refl, sym, ◌∙◌, ap, subst, arith, append-nil}
use Rattle.std.specs.List.{Contains, position}
use Rattle.std.specs.Option.{option_map, option_or}
use Rattle.std.specs.Str.{bytes_eq}
use Rattle.std.proofs.Math.Seq.{split_at}
use Rattle.std.proofs.lemmas.List.{append_assoc, get_or-take, length-take-le}
use Rattle.std.proofs.lemmas.List.Elements.{Contains-append_left, Contains-append_right}
use Rattle.std.proofs.lemmas.Slice.Eq.{bytes_eq-Decides}
use Rattle.std.proofs.lemmas.Bool.{and_left, and_right, cases_lt}
use Rattle.line_cache.proofs.Search.{none_passes, position_none}
use Rattle.xom_base.specs.declared.entry.Entry.{Entry}
use Rattle.xom_base.specs.declared.entry.Entry.TheVariants as entry
use Rattle.journal_findings.specs.Findings.{collides, collision_at, first_collision, first_forgery, first_found, forgery_at}
use Rattle.image_sealer.specs.Membership.{is_sealed}
use Rattle.xom_versions.specs.Store.{NoCollision}
use Rattle.xom_model.specs.Honest.{NoForgery, Sealing, seals_of}
use Rattle.xom_model.specs.Laws.{HonestyIsJudged}

-- ---- Searches

neither : {A : Type 0} (a b : Option A) → option_or a b ≡ None → (a ≡ None) × (b ≡ None)
neither None b is = (refl, is)
neither (Some x) b is = absurd (cc)

-- where a search finds nothing, nothing is to be found at any entry
nothing_found : {A : Type 0} (find : List Entry → Entry → Option A) (before b : List Entry)
    (e : Entry) (behind : List Entry)
    → first_found find before (b ++ (e ∷ behind)) ≡ None → find (before ++ b) e ≡ None
nothing_found find before [] e behind none =
    ap (λ l. find l e) (append-nil before) ∙ (neither (find before e) _ none).0
nothing_found find before (x ∷ b) e behind none =
    ap (λ l. find l e) (sym (append_assoc before (x ∷ []) b)) ∙ nothing_found find
    (before ++ x ∷ []) b e behind (neither (find before x) _ none).1

-- and the other way round
nothing_there : {A : Type 0} (find : List Entry → Entry → Option A) (before entries : List Entry)
    → ((b : List Entry) (e : Entry) (behind : List Entry) → entries ≡ b ++ (e ∷ behind)
    → find (before ++ b) e ≡ None)
    → first_found find before entries ≡ None
nothing_there find before [] each = refl
nothing_there find before (x ∷ entries) each =
    ap (λ o. option_or o (first_found find (before ++ x ∷ []) entries))
    (ap (λ l. find l x) (sym (append-nil before)) ∙ each [] x entries refl)
    ∙ nothing_there find (before ++ x ∷ []) entries (λ b e behind is. ap (λ l. find l e)
    (append_assoc before (x ∷ []) b) ∙ each (x ∷ b) e behind (ap (λ l. x ∷ l) is))

-- ---- Forgeries

sealed_so : (b : Bool) (n : ℕ) → cond b None (Some n) ≡ None → b ≡ true
sealed_so true n is = refl
sealed_so false n is = absurd (cc)

pub no_forgery_found : (sealed : List Sealing) (entries : List Entry) → first_forgery sealed entries ≡ None
    → NoForgery sealed entries
no_forgery_found sealed entries none before behind key message place is =
    sealed_so (is_sealed key message (sealed ++ seals_of before)) (length before + 1)
    (nothing_found (forgery_at sealed) [] before (entry.Accept key message place) behind
    (subst (λ es. first_found (forgery_at sealed) [] es ≡ None) is none))

no_forgery_at : (sealed : List Sealing) (entries b : List Entry) (e : Entry) (behind : List Entry)
    → NoForgery sealed entries → entries ≡ b ++ (e ∷ behind) → forgery_at sealed b e ≡ None
no_forgery_at sealed entries b (entry.Accept key message place) behind none is =
    rw (none b behind key message place is) refl
no_forgery_at sealed entries b _ behind none is = refl

pub none_forged : (sealed : List Sealing) (entries : List Entry) → NoForgery sealed entries
    → first_forgery sealed entries ≡ None
none_forged sealed entries none =
    nothing_there (forgery_at sealed) [] entries
    (λ b e behind is. no_forgery_at sealed entries b e behind none is)

-- ---- Collisions

same_bytes : (a b : List ℕ) → (a ≡ b) ⊎ (bytes_eq a b ≡ false)
same_bytes a b = elim (bytes_eq a b) as (λ r. bytes_eq a b ≡ r → (a ≡ b) ⊎ (bytes_eq a b ≡ false)) [
  | true ↦ λ is. inl ((bytes_eq-Decides a b).0 is)
  | false ↦ λ is. inr is
] refl

-- an entry that doesn't collide has the same text, where it has the same digest
same_text : (text other digest : List ℕ) → collides other digest (entry.Hash text digest) ≡ false
    → text ≡ other
same_text text other digest calm = elim (same_bytes other text) [
  | inl is ↦ sym is
  | inr differs ↦ absurd (let e = rw ((bytes_eq-Decides digest digest).1 refl, differs) at calm in
      cc)
]

-- the numbers of two entries, of which so many stand before the second
abbrev numbers : ℕ → ℕ → ℕ × ℕ
numbers n i = (i + 1, n + 1)

none_at : (at : Option ℕ) (n : ℕ) → option_map (numbers n) at ≡ None → at ≡ None
none_at None n is = refl
none_at (Some i) n is = absurd (cc)

-- within a list the default doesn't count
any_default : (xs : List Entry) (k : ℕ) (a b : Entry) → k < length xs
    → get_or xs k a ≡ get_or xs k b
any_default [] k a b within = absurd (omega arith)
any_default (x ∷ xs) zero a b within = refl
any_default (x ∷ xs) (suc k) a b within = any_default xs k a b (omega arith)

one_entry : (text other digest : List ℕ) → entry.Hash text digest ≡ entry.Hash other digest
    → text ≡ other
one_entry text other digest is = cc

module _ (entries : List Entry) (none : first_collision entries ≡ None) where
  -- of two hashes of one digest the later one has the earlier one's text
  earlier : (i j : ℕ) (text other digest : List ℕ) → i < j → j < length entries
      → get_or entries i (entry.Hash text digest) ≡ entry.Hash text digest
      → get_or entries j (entry.Hash other digest) ≡ entry.Hash other digest → text ≡ other
  earlier i j text other digest before within first second =
      let front = take j entries in
      let whole : entries ≡ front ++ (entry.Hash other digest ∷ drop (suc j) entries) =
      split_at entries j (entry.Hash other digest) within
      ∙ ap (λ (e : Entry). front ++ (e ∷ drop (suc j) entries)) second in
      let quiet = none_at (position (collides other digest) front) (length front)
      (nothing_found collision_at [] front (entry.Hash other digest) (drop (suc j) entries)
      (subst (λ es. first_found collision_at [] es ≡ None) whole none)) in
      let long : length front ≡ j = length-take-le j entries (omega arith) in
      let here = get_or-take j entries i (entry.Hash text digest) before ∙ first in
      same_text text other digest (subst (λ e. collides other digest e ≡ false) here
      (none_passes (collides other digest) front i (entry.Hash text digest) quiet (omega arith)))

  pub no_collision_found : NoCollision entries
  no_collision_found text other digest has same = elim (cases_lt has.0 same.0) [
    | inl before ↦ earlier has.0 same.0 text other digest before same.1 has.2 same.2
    | inr late ↦ elim (cases_lt same.0 has.0) [
      | inl behind ↦ sym (earlier same.0 has.0 other text digest behind has.1 same.2 has.2)
      | inr early ↦
          let here : has.0 ≡ same.0 = omega arith in
          one_entry text other digest
          (sym has.2 ∙ ap (λ k. get_or entries k (entry.Hash text digest)) here
          ∙ any_default entries same.0 (entry.Hash text digest) (entry.Hash other digest) same.1
          ∙ same.2)
    ]
  ]

calm_at : (preimage digest : List ℕ) (e : Entry)
    → ((other : List ℕ) → e ≡ entry.Hash other digest → preimage ≡ other)
    → collides preimage digest e ≡ false
calm_at preimage digest (entry.Hash other same) one = elim (same_bytes digest same) [
  | inl is ↦ and_right (bytes_eq digest same) (not (bytes_eq preimage other))
      (ap not ((bytes_eq-Decides preimage other).1
      (one other (ap (λ d. entry.Hash other d) (sym is)))))
  | inr differs ↦ and_left (bytes_eq digest same) (not (bytes_eq preimage other)) differs
]
calm_at preimage digest (entry.Install install slot id place start lines) one = refl
calm_at preimage digest _ one = refl

module _ (entries : List Entry) (none : NoCollision entries) where
  no_collision_at : (b : List Entry) (e : Entry) (behind : List Entry) → entries ≡ b ++ (e ∷ behind)
      → collision_at b e ≡ None
  no_collision_at b (entry.Hash preimage digest) behind is =
      let hash = entry.Hash preimage digest in
      let here : Contains entries hash = subst (λ es. Contains es hash) (sym is)
      (Contains-append_right b (hash ∷ behind) hash (0, omega arith, refl)) in
      let calm = position_none (collides preimage digest) b hash
      (λ j within. calm_at preimage digest (get_or b j hash) (λ other its.
      none preimage other digest here
      (subst (λ es. Contains es (entry.Hash other digest)) (sym is)
      (Contains-append_left b (hash ∷ behind) (entry.Hash other digest)
      (j, within, any_default b j (entry.Hash other digest) hash within ∙ its))))) in
      ap (option_map (numbers (length b))) calm
  no_collision_at b _ behind is = refl

  pub none_collides : first_collision entries ≡ None
  none_collides = nothing_there collision_at [] entries no_collision_at

-- ---- Both

pub honesty_is_judged : HonestyIsJudged
honesty_is_judged = record {
  forgery = λ sealed entries. (no_forgery_found sealed entries, none_forged sealed entries);
  collision = λ entries. (no_collision_found entries, none_collides entries);
}
