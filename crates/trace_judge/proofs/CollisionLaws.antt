-- The search for collisions, entry by entry.
use Rattle.std.proofs.Common.{◌≡◌, ℕ, ◌+◌, Bool, true, false, List, [], ◌∷◌, ◌++◌, length, refl, sym, ◌∙◌, ap, arith}
use Rattle.std.specs.Prelude.{Option, Some, None, if◌then◌else◌, not, ◌&&◌}
use Rattle.std.specs.List.{position}
use Rattle.std.specs.Option.{option_or, option_map}
use Rattle.std.specs.Str.{bytes_eq}
use Rattle.std.proofs.lemmas.Slice.Eq.{bytes_eq-Decides}
use Rattle.xom_base.specs.declared.entry.Entry.{Entry}
use Rattle.xom_base.specs.declared.entry.Entry.TheVariants as entry
use Rattle.journal_findings.specs.Findings.{collides, collision_at, first_collision}
use Rattle.journal_findings.proofs.Found.{collision-more, collisions_stay}
use Rattle.trace_judge.specs.declared.hashes.First.{First}
use Rattle.trace_judge.specs.HashSearch.{FindsCollisions, IsHash, TellsOtherTexts, entry_number_at, next_first, next_found, other_text, with_hash}
use Rattle.trace_judge.proofs.Bytes.{same_bytes}
use Rattle.trace_judge.proofs.Places.{position_push}

-- nothing was fed
pub nothing_fed : (first : List ℕ → Option First) → ((d : List ℕ) → first d ≡ None)
    → FindsCollisions None first []
nothing_fed first none = record {
  answer = refl;
  tells = λ _ p d. ap (λ f. other_text f p) (none d);
}

-- equal from both sides
flip : (xs ys : List ℕ) → bytes_eq xs ys ≡ bytes_eq ys xs
flip xs ys = Prim.grind (arith, bytes_eq-Decides xs ys, bytes_eq-Decides ys xs)

-- an answer or none is that answer
or_none : {A : Type 0} (x : Option A) → option_or x None ≡ x
or_none None = refl
or_none (Some x) = refl

-- an entry that isn't a Hash is a place of no other text
tells_still : (first next : List ℕ → Option First) (es : List Entry) (e : Entry)
    → ((p d : List ℕ) → collides p d e ≡ false) → ((d : List ℕ) → next d ≡ first d)
    → TellsOtherTexts first es → TellsOtherTexts next (es ++ e ∷ [])
tells_still first next es e never same tells p d =
    ap (λ f. other_text f p) (same d) ∙ tells p d
    ∙ ap entry_number_at (sym (position_push (collides p d) es e
    ∙ ap (λ b. option_or (position (collides p d) es) (if b then Some (length es) else None))
    (never p d) ∙ or_none (position (collides p d) es)))

-- of the first text itself there is no other
there_same : (b : Bool) (n : ℕ) → (if b then None else Some n) ≡ None → b ≡ true
there_same true n is = refl
there_same false n is = absurd (let e : Some n ≡ None = is in cc)

again : (b : Bool) (m n : ℕ)
    → (if b then None else Some m) ≡ option_or (if b then None else Some m) (if not b then Some n
    else None)
again true m n = refl
again false m n = refl

-- numbers of one more place
numbered_or : (x : Option ℕ) (b : Bool) (n : ℕ)
    → entry_number_at (option_or x (if b then Some n else None)) ≡ option_or (entry_number_at x)
    (if b then Some (n + 1) else None)
numbered_or None true n = refl
numbered_or None false n = refl
numbered_or (Some i) b n = refl

first_one : (b : Bool) (n : ℕ) → (if b then None else Some n) ≡ (if not b then Some n else None)
first_one true n = refl
first_one false n = refl

-- what the map tells after a Hash that collides with no earlier one: by the first Hash of its
-- digest, and by whether the digest asked for is its
told_more : (found : Option First) (same : Bool) (n : ℕ) (p preimage : List ℕ) (asked : Option ℕ)
    (there : Option First)
    → other_text found preimage ≡ None → (same ≡ true → there ≡ found) → other_text there p ≡ asked
    → other_text (if same then option_or found (Some (record { number = n; preimage = preimage }))
    else there) p ≡ option_or asked (if same && not (bytes_eq p preimage) then Some n else None)
told_more found false n p preimage asked there clean at told = told ∙ sym (or_none asked)
told_more None true n p preimage asked there clean at told =
    first_one (bytes_eq p preimage) n
    ∙ ap (λ a. option_or a (if not (bytes_eq p preimage) then Some n else None))
    (sym (ap (λ t. other_text t p) (at refl)) ∙ told)
told_more (Some f) true n p preimage asked there clean at told =
    again (bytes_eq p f.preimage) f.number n
    ∙ ap (λ a. option_or a (if not (bytes_eq p f.preimage) then Some n else None))
    (sym (ap (λ t. other_text t p) (at refl)) ∙ told)
    ∙ ap (λ x. option_or asked (if not (bytes_eq p x) then Some n else None))
    (sym (same_bytes preimage f.preimage (there_same (bytes_eq preimage f.preimage) f.number
    clean)))

tells_hash : (number : ℕ) (first next : List ℕ → Option First) (es : List Entry)
    (preimage digest : List ℕ)
    → number ≡ length es + 1 → other_text (first digest) preimage ≡ None
    → ((d : List ℕ) → next d ≡ with_hash number first preimage digest d) → TellsOtherTexts first es
    → TellsOtherTexts next (es ++ entry.Hash preimage digest ∷ [])
tells_hash number first next es preimage digest counted clean made tells p d =
    ap (λ f. other_text f p) (made d)
    ∙ told_more (first digest) (bytes_eq digest d) number p preimage
    (entry_number_at (position (collides p d) es)) (first d) clean
    (λ same. ap first (sym (same_bytes digest d same))) (tells p d)
    ∙ sym (ap entry_number_at (position_push (collides p d) es (entry.Hash preimage digest)
    ∙ ap (λ b. option_or (position (collides p d) es) (if b && not (bytes_eq p preimage)
    then Some (length es) else None)) (flip d digest))
    ∙ numbered_or (position (collides p d) es) (bytes_eq digest d && not (bytes_eq p preimage))
    (length es)
    ∙ ap (λ n. option_or (entry_number_at (position (collides p d) es)) (if bytes_eq digest d
    && not (bytes_eq p preimage) then Some n else None)) (sym counted))

-- an answer stays
found_stays : (count : ℕ) (pair : ℕ × ℕ) (first : List ℕ → Option First) (e : Entry)
    → next_found count (Some pair) first e ≡ Some pair
found_stays count pair first (entry.Hash p d) = refl
found_stays count pair first (entry.Install n slot id place begin lines) = refl
found_stays count pair first (entry.Step n step) = refl
found_stays count pair first (entry.Trap n cause) = refl
found_stays count pair first (entry.Seal key message) = refl
found_stays count pair first (entry.Accept key message place) = refl
found_stays count pair first (entry.Stop n rule) = refl
found_stays count pair first (entry.Kill n) = refl
found_stays count pair first (entry.Out byte) = refl

both : (x : Option ℕ) (m : ℕ) → option_map {U = ℕ × ℕ} (λ (n : ℕ). (n, m))
    (entry_number_at x) ≡ option_map {U = ℕ × ℕ} (λ (i : ℕ). (i + 1, m)) x
both None m = refl
both (Some i) m = refl

none_answer : (number : ℕ) (first : List ℕ → Option First) (es : List Entry) (e : Entry)
    → number ≡ length es + 1 → TellsOtherTexts first es
    → next_found number None first e ≡ collision_at es e
none_answer number first es (entry.Hash p d) counted tells =
    ap (option_map {U = ℕ × ℕ} (λ (n : ℕ). (n, number))) (tells p d)
    ∙ both (position (collides p d) es) number
    ∙ ap (λ n. option_map {U = ℕ × ℕ} (λ (i : ℕ). (i + 1, n)) (position (collides p d) es)) counted
none_answer count first es (entry.Install n slot id place begin lines) counted tells = refl
none_answer count first es (entry.Step n step) counted tells = refl
none_answer count first es (entry.Trap n cause) counted tells = refl
none_answer count first es (entry.Seal key message) counted tells = refl
none_answer count first es (entry.Accept key message place) counted tells = refl
none_answer count first es (entry.Stop n rule) counted tells = refl
none_answer count first es (entry.Kill n) counted tells = refl
none_answer count first es (entry.Out byte) counted tells = refl

-- the answer of one more entry is that of the list
next_answer : (count : ℕ) (found : Option (ℕ × ℕ)) (first : List ℕ → Option First) (es : List Entry)
    (e : Entry)
    → count ≡ length es + 1 → FindsCollisions found first es
    → next_found count found first e ≡ first_collision (es ++ e ∷ [])
next_answer count (Some pair) first es e counted was =
    found_stays count pair first e ∙ sym (collisions_stay es (e ∷ []) pair (sym was.answer))
next_answer count None first es e counted was =
    none_answer count first es e counted (was.tells refl)
    ∙ sym (collision-more es e (sym was.answer))

-- no answer after the entry, so none before, and the Hash told of no other text
none_mapped : (count : ℕ) (x : Option ℕ) → option_map {U = ℕ × ℕ} (λ (n : ℕ). (n, count)) x ≡ None
    → x ≡ None
none_mapped count None none = refl
none_mapped count (Some i) none =
    absurd (let pair : ℕ × ℕ = (i, count) in let n : Some pair ≡ None = none in cc)

next_tells : (count : ℕ) (found : Option (ℕ × ℕ)) (first first' : List ℕ → Option First)
    (es : List Entry) (e : Entry)
    → count ≡ length es + 1 → FindsCollisions found first es → next_found count found first e ≡ None
    → ((d : List ℕ) → first' d ≡ next_first count found first e d)
    → TellsOtherTexts first' (es ++ e ∷ [])
next_tells count None first first' es (entry.Hash p d) counted was none makes =
    tells_hash count first first' es p d counted (none_mapped count (other_text (first d) p) none)
    makes (was.tells refl)
next_tells count None first first' es (entry.Install n slot id place begin lines) counted was none
    makes = tells_still first first' es _ (λ p d. refl) makes (was.tells refl)
next_tells count None first first' es (entry.Step n step) counted was none makes =
    tells_still first first' es _ (λ p d. refl) makes (was.tells refl)
next_tells count None first first' es (entry.Trap n cause) counted was none makes =
    tells_still first first' es _ (λ p d. refl) makes (was.tells refl)
next_tells count None first first' es (entry.Seal key message) counted was none makes =
    tells_still first first' es _ (λ p d. refl) makes (was.tells refl)
next_tells count None first first' es (entry.Accept key message place) counted was none makes =
    tells_still first first' es _ (λ p d. refl) makes (was.tells refl)
next_tells count None first first' es (entry.Stop n rule) counted was none makes =
    tells_still first first' es _ (λ p d. refl) makes (was.tells refl)
next_tells count None first first' es (entry.Kill n) counted was none makes =
    tells_still first first' es _ (λ p d. refl) makes (was.tells refl)
next_tells count None first first' es (entry.Out byte) counted was none makes =
    tells_still first first' es _ (λ p d. refl) makes (was.tells refl)
next_tells count (Some pair) first first' es e counted was none makes =
    absurd (let n : Some pair ≡ None = sym (found_stays count pair first e) ∙ none in cc)

-- one more entry
pub fed_one : (number : ℕ) (found found' : Option (ℕ × ℕ)) (first first' : List ℕ → Option First)
    (es : List Entry) (e : Entry)
    → number ≡ length es + 1 → found' ≡ next_found number found first e
    → ((d : List ℕ) → first' d ≡ next_first number found first e d) → FindsCollisions found first es
    → FindsCollisions found' first' (es ++ e ∷ [])
fed_one number found found' first first' es e counted finds makes was = record {
  answer = finds ∙ next_answer number found first es e counted was;
  tells = λ none. next_tells number found first first' es e counted was (sym finds ∙ none) makes;
}

-- an entry that is no Hash adds nothing
passed : (found : Option (ℕ × ℕ)) (first : List ℕ → Option First) (es : List Entry) (e : Entry)
    → ((p d : List ℕ) → collides p d e ≡ false)
    → next_found (length es + 1) found first e ≡ found → FindsCollisions found first es
    → FindsCollisions found first (es ++ e ∷ [])
passed found first es e never same was = record {
  answer = sym same ∙ next_answer (length es + 1) found first es e refl was;
  tells = λ none. tells_still first first es e never (λ d. refl) (was.tells none);
}

pub other_passed : (found : Option (ℕ × ℕ)) (first : List ℕ → Option First) (es : List Entry)
    (e : Entry)
    → (IsHash e → ⊥) → FindsCollisions found first es → FindsCollisions found first (es ++ e ∷ [])
other_passed found first es (entry.Hash p d) other was = absurd (other tt)
other_passed found first es (entry.Install n slot id place begin lines) other was =
    passed found first es _ (λ p d. refl) refl was
other_passed found first es (entry.Step n step) other was =
    passed found first es _ (λ p d. refl) refl was
other_passed found first es (entry.Trap n cause) other was =
    passed found first es _ (λ p d. refl) refl was
other_passed found first es (entry.Seal key message) other was =
    passed found first es _ (λ p d. refl) refl was
other_passed found first es (entry.Accept key message place) other was =
    passed found first es _ (λ p d. refl) refl was
other_passed found first es (entry.Stop n rule) other was =
    passed found first es _ (λ p d. refl) refl was
other_passed found first es (entry.Kill n) other was =
    passed found first es _ (λ p d. refl) refl was
other_passed found first es (entry.Out byte) other was =
    passed found first es _ (λ p d. refl) refl was

-- one more Hash where memory was wanted
pub fed_not : (found found' : Option (ℕ × ℕ)) (first first' : List ℕ → Option First)
    (es : List Entry)
    → found' ≡ found → ((d : List ℕ) → first' d ≡ first d) → FindsCollisions found first es
    → FindsCollisions found' first' es
fed_not found found' first first' es finds makes was = record {
  answer = finds ∙ was.answer;
  tells = λ none p d. ap (λ f. other_text f p) (makes d) ∙ was.tells (sym finds ∙ none) p d;
}
