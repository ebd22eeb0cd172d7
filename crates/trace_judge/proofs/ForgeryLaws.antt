-- The search for forgeries, entry by entry.
use Rattle.std.proofs.Common.{◌≡◌, ℕ, ◌+◌, Bool, true, false, ◌||◌, List, [], ◌∷◌, ◌++◌, suc, length, refl, sym, ◌∙◌, ap, arith}
use Rattle.std.specs.Prelude.{slice_get, take, Option, Some, None, if◌then◌else◌, ◌&&◌}
use Rattle.std.specs.List.{filter_map, cons_option, flat_map, list_any}
use Rattle.std.specs.Str.{bytes_eq}
use Rattle.std.proofs.lemmas.Slice.Eq.{bytes_eq-Decides}
use Rattle.std.proofs.lemmas.List.{append-nil}
use Rattle.std.proofs.lemmas.List.Concat.{flat_map-append}
use Rattle.std.proofs.lemmas.List.Elements.{filter_map-append}
use Rattle.std.proofs.lemmas.List.Folds.{list_any-append}
use Rattle.xom_base.specs.declared.entry.Entry.{Entry}
use Rattle.xom_base.specs.declared.entry.Entry.TheVariants as entry
use Rattle.xom_base.specs.declared.key.Key256.{Key256}
use Rattle.xom_owners.specs.declared.owner.Owner.{Owner}
use Rattle.image_sealer.specs.declared.owner_sealing.OwnerSealing.{OwnerSealing}
use Rattle.image_sealer.specs.Membership.{is_sealed, is_sealing}
use Rattle.image_sealer.specs.Sealing.{sealing_of}
use Rattle.journal_findings.specs.Findings.{first_forgery, forgery_at, seal_in, sealed_by}
use Rattle.journal_findings.proofs.Found.{forged-more, forgeries_stay}
use Rattle.trace_judge.proofs.Takes.{take_got}
use Rattle.trace_judge.specs.SealSearch.{FindsForgeries, HasSeals, answer_at_accept, name, next_forged, next_has}

-- what stands in one of the lists stands in all of them together
pub sealed_by_any : {X : Type 0} (f : X → List (List ℕ × List ℕ)) (owned : List X)
    (key message : List ℕ)
    → list_any (λ own. is_sealed key message (f own)) owned ≡ is_sealed key message
    (flat_map f owned)
sealed_by_any f [] key message = refl
sealed_by_any f (own ∷ owned) key message =
    ap (λ b. is_sealed key message (f own) || b) (sealed_by_any f owned key message)
    ∙ sym (list_any-append (is_sealing key message) (f own) (flat_map f owned))

-- nothing was fed
pub nothing_fed : (sealed : List (List ℕ × List ℕ)) (has : List ℕ → Bool)
    → ((n : List ℕ) → has n ≡ false) → FindsForgeries sealed None has []
nothing_fed sealed has none =
    record { answer = refl; seals = λ _ key message. none (name key message) }

-- two names of the same length of keys are equal where both parts are
parts_eq : (j k m n : List ℕ) → length j ≡ length k
    → bytes_eq (j ++ m) (k ++ n) ≡ (bytes_eq k j && bytes_eq n m)
parts_eq [] [] m n same = Prim.grind (arith, bytes_eq-Decides m n, bytes_eq-Decides n m)
parts_eq (x ∷ j) [] m n same = absurd (let h : length (x ∷ j) ≡ 0 = same in omega arith)
parts_eq [] (y ∷ k) m n same = absurd (let h : 0 ≡ length (y ∷ k) = same in omega arith)
parts_eq (x ∷ j) (y ∷ k) m n same =
    let shorter : length j ≡ length k = (let h : suc (length j) ≡ suc (length k) = same in
    omega arith) in
    Prim.grind (arith, parts_eq j k m n shorter)

-- names tell keys and messages apart
pub names_eq : (k m key message : List ℕ)
    → bytes_eq (name k m) (name key message) ≡ is_sealing key message (k, m)
names_eq k m key message =
    Prim.grind (arith, parts_eq k key m message, bytes_eq-Decides k key, bytes_eq-Decides key k)

-- the Seals with an entry that is none
no_more : (es : List Entry) (e : Entry) → seal_in e ≡ None
    → filter_map seal_in (es ++ e ∷ []) ≡ filter_map seal_in es
no_more es e none =
    filter_map-append seal_in es (e ∷ []) ∙ ap (λ x. filter_map seal_in es ++ cons_option x []) none
    ∙ append-nil (filter_map seal_in es)

-- an entry that is no Seal adds nothing
knows_still : (has next : List ℕ → Bool) (es : List Entry) (e : Entry) → seal_in e ≡ None
    → ((n : List ℕ) → next n ≡ has n) → HasSeals has es → HasSeals next (es ++ e ∷ [])
knows_still has next es e none same knows key message =
    same (name key message) ∙ knows key message
    ∙ ap (is_sealed key message) (sym (no_more es e none))

or_swap : (b x : Bool) → (if b then true else x) ≡ (x || (b || false))
or_swap true true = refl
or_swap true false = refl
or_swap false true = refl
or_swap false false = refl

knows_seal : (has next : List ℕ → Bool) (es : List Entry) (k m : List ℕ)
    → ((n : List ℕ) → next n ≡ (if bytes_eq (name k m) n then true else has n)) → HasSeals has es
    → HasSeals next (es ++ entry.Seal k m ∷ [])
knows_seal has next es k m made knows key message =
    made (name key message)
    ∙ ap (λ b. if b then true else has (name key message)) (names_eq k m key message)
    ∙ ap (λ x. if is_sealing key message (k, m) then true else x) (knows key message)
    ∙ or_swap (is_sealing key message (k, m)) (is_sealed key message (filter_map seal_in es))
    ∙ sym (ap (is_sealed key message) (filter_map-append seal_in es (entry.Seal k m ∷ []))
    ∙ list_any-append (is_sealing key message) (filter_map seal_in es) ((k, m) ∷ []))

-- an answer stays
found_stays : (sealed : List (List ℕ × List ℕ)) (count n : ℕ) (has : List ℕ → Bool) (e : Entry)
    → next_forged sealed count (Some n) has e ≡ Some n
found_stays sealed count n has (entry.Accept key message place) = refl
found_stays sealed count n has (entry.Seal key message) = refl
found_stays sealed count m has (entry.Install n slot id place begin lines) = refl
found_stays sealed count m has (entry.Step n step) = refl
found_stays sealed count m has (entry.Trap n cause) = refl
found_stays sealed count m has (entry.Hash preimage digest) = refl
found_stays sealed count m has (entry.Stop n rule) = refl
found_stays sealed count m has (entry.Kill n) = refl
found_stays sealed count m has (entry.Out byte) = refl

-- the answer at one more entry, where there was none
none_answer : (sealed : List (List ℕ × List ℕ)) (number : ℕ) (has : List ℕ → Bool) (es : List Entry)
    (e : Entry)
    → number ≡ length es + 1 → HasSeals has es
    → next_forged sealed number None has e ≡ forgery_at sealed es e
none_answer sealed number has es (entry.Accept key message place) counted knows =
    ap (λ b. answer_at_accept number (is_sealed key message sealed || b)) (knows key message)
    ∙ ap (answer_at_accept number)
    (sym (list_any-append (is_sealing key message) sealed (filter_map seal_in es)))
    ∙ ap (λ n. answer_at_accept n (is_sealed key message (sealed ++ filter_map seal_in es))) counted
none_answer sealed count has es (entry.Seal key message) counted knows = refl
none_answer sealed count has es (entry.Install n slot id place begin lines) counted knows = refl
none_answer sealed count has es (entry.Step n step) counted knows = refl
none_answer sealed count has es (entry.Trap n cause) counted knows = refl
none_answer sealed count has es (entry.Hash preimage digest) counted knows = refl
none_answer sealed count has es (entry.Stop n rule) counted knows = refl
none_answer sealed count has es (entry.Kill n) counted knows = refl
none_answer sealed count has es (entry.Out byte) counted knows = refl

-- the answer of one more entry is that of the list
next_answer : (sealed : List (List ℕ × List ℕ)) (count : ℕ) (found : Option ℕ) (has : List ℕ → Bool)
    (es : List Entry) (e : Entry)
    → count ≡ length es + 1 → FindsForgeries sealed found has es
    → next_forged sealed count found has e ≡ first_forgery sealed (es ++ e ∷ [])
next_answer sealed count (Some n) has es e counted was =
    found_stays sealed count n has e ∙ sym (forgeries_stay sealed es (e ∷ []) n (sym was.answer))
next_answer sealed count None has es e counted was =
    none_answer sealed count has es e counted (was.seals refl)
    ∙ sym (forged-more sealed es e (sym was.answer))

-- what the set has after one more entry, where there is no answer
next_knows : (sealed : List (List ℕ × List ℕ)) (count : ℕ) (found : Option ℕ) (has next : List ℕ
    → Bool) (es : List Entry) (e : Entry)
    → FindsForgeries sealed found has es → next_forged sealed count found has e ≡ None
    → ((n : List ℕ) → next n ≡ next_has found has e n) → HasSeals next (es ++ e ∷ [])
next_knows sealed count None has next es (entry.Seal k m) was none makes =
    knows_seal has next es k m makes (was.seals refl)
next_knows sealed count None has next es (entry.Accept key message place) was none makes =
    knows_still has next es _ refl makes (was.seals refl)
next_knows sealed count None has next es (entry.Install n slot id place begin lines) was none
    makes = knows_still has next es _ refl makes (was.seals refl)
next_knows sealed count None has next es (entry.Step n step) was none makes =
    knows_still has next es _ refl makes (was.seals refl)
next_knows sealed count None has next es (entry.Trap n cause) was none makes =
    knows_still has next es _ refl makes (was.seals refl)
next_knows sealed count None has next es (entry.Hash preimage digest) was none makes =
    knows_still has next es _ refl makes (was.seals refl)
next_knows sealed count None has next es (entry.Stop n rule) was none makes =
    knows_still has next es _ refl makes (was.seals refl)
next_knows sealed count None has next es (entry.Kill n) was none makes =
    knows_still has next es _ refl makes (was.seals refl)
next_knows sealed count None has next es (entry.Out byte) was none makes =
    knows_still has next es _ refl makes (was.seals refl)
next_knows sealed count (Some n) has next es e was none makes =
    absurd (let x : Some n ≡ None = sym (found_stays sealed count n has e) ∙ none in cc)

-- one more entry
pub fed_one : (sealed : List (List ℕ × List ℕ)) (number : ℕ) (found found' : Option ℕ)
    (has has' : List ℕ → Bool) (es : List Entry) (e : Entry)
    → number ≡ length es + 1 → found' ≡ next_forged sealed number found has e
    → ((n : List ℕ) → has' n ≡ next_has found has e n) → FindsForgeries sealed found has es
    → FindsForgeries sealed found' has' (es ++ e ∷ [])
fed_one sealed number found found' has has' es e counted finds makes was = record {
  answer = finds ∙ next_answer sealed number found has es e counted was;
  seals = λ none. next_knows sealed number found has has' es e was (sym finds ∙ none) makes;
}

-- a Hash adds nothing
pub hash_passed : (sealed : List (List ℕ × List ℕ)) (found : Option ℕ) (has : List ℕ → Bool)
    (es : List Entry) (preimage digest : List ℕ)
    → FindsForgeries sealed found has es
    → FindsForgeries sealed found has (es ++ entry.Hash preimage digest ∷ [])
hash_passed sealed None has es preimage digest was =
    fed_one sealed (length es + 1) None None has has es _ refl refl (λ n. refl) was
hash_passed sealed (Some m) has es preimage digest was =
    fed_one sealed (length es + 1) (Some m) (Some m) has has es _ refl refl (λ n. refl) was

-- no more, where memory was wanted
pub fed_not : (sealed : List (List ℕ × List ℕ)) (found found' : Option ℕ) (has has' : List ℕ → Bool)
    (es : List Entry)
    → found' ≡ found → ((n : List ℕ) → has' n ≡ has n) → FindsForgeries sealed found has es
    → FindsForgeries sealed found' has' es
fed_not sealed found found' has has' es finds makes was = record {
  answer = finds ∙ was.answer;
  seals = λ none key message. makes (name key message) ∙ was.seals (sym finds ∙ none) key message;
}

-- one more owner made ready
pub sealings_more : (machine : Key256) (owners : List Owner) (i : ℕ) (owner : Owner)
    (ready : List OwnerSealing)
    → slice_get owners i ≡ Some owner
    → flat_map (λ (own : OwnerSealing). sealing_of own.machine own.owner) ready ≡ sealed_by machine
    (take i owners)
    → flat_map (λ (own : OwnerSealing). sealing_of own.machine own.owner)
    (ready ++ record { machine = machine; owner = owner } ∷ []) ≡ sealed_by machine
    (take (i + 1) owners)
sealings_more machine owners i owner ready got is =
    flat_map-append (λ (own : OwnerSealing). sealing_of own.machine own.owner) ready
    (record { machine = machine; owner = owner } ∷ [])
    ∙ ap (λ front. front ++ (sealing_of machine owner ++ [])) is
    ∙ sym (flat_map-append (sealing_of machine) (take i owners) (owner ∷ []))
    ∙ ap (sealed_by machine) (sym (take_got owners i owner got))
