-- The last events of a list, when one more comes.
use Rattle.std.proofs.Common.{◌≡◌, ℕ, ◌+◌, ◌-◌, ◌≤◌, List, [], ◌∷◌, ◌++◌, length, drop, refl, sym, ap, ◌∙◌, arith, length-drop}
use Rattle.std.proofs.lemmas.List.{drop-append-le, drop-drop, length_push}
use Rattle.circular_buffer.specs.Buffer.{keep_last}
use Rattle.xom_base.specs.declared.event.Event.{Event}
use Rattle.xom_debug.specs.declared.session.Noted.{Noted}
use Rattle.xom_debug.specs.DebugTexts.{events_by_number, kept_events, last_events}

-- what was kept, and one more, has the same last items as all of them
keep_last-push : {A : Type 0} (n : ℕ) (xs : List A) (y : A)
    → keep_last n (keep_last n xs ++ y ∷ []) ≡ keep_last n (xs ++ y ∷ [])
keep_last-push n xs y =
    let ys = xs ++ y ∷ [] in
    let k = length xs - n in
    let longer : length ys ≡ length xs + 1 = length_push xs y in
    let shorter : length (drop k ys) ≡ length ys - k = length-drop k ys in
    let same : k + (length (drop k ys) - n) ≡ length ys - n = omega (arith, shorter, longer) in
    ap (keep_last n) (sym (drop-append-le k xs (y ∷ []) (omega arith)))
    ∙ drop-drop (length (drop k ys) - n) k ys
    ∙ ap (λ i. drop i ys) same

-- an event with its number
abbrev noted : ℕ → Event → Noted
noted n e = record { number = n; event = e }

-- a place of the list of numbered events
at_place : (a b : ℕ) (e : Event) → a ≡ b → noted a e ∷ [] ≡ noted b e ∷ []
at_place a b e same = ap (λ n. noted n e ∷ []) same

numbered-push : (n : ℕ) (past : List Event) (e : Event) (number : ℕ) → number ≡ n + length past
    → events_by_number n (past ++ e ∷ []) ≡ events_by_number n past ++ record { number = number; event = e } ∷ []
numbered-push n [] e number is = at_place n number e (omega (arith, is))
numbered-push n (first ∷ past) e number is =
    ap (λ rest. record { number = n; event = first } ∷ rest)
    (numbered-push (n + 1) past e number (omega (arith, is)))

pub last_of-push : (past : List Event) (e : Event) (number : ℕ) → number ≡ length past + 1
    → keep_last kept_events (last_events past ++ record { number = number; event = e } ∷ []) ≡ last_events
    (past ++ e ∷ [])
last_of-push past e number is =
    keep_last-push kept_events (events_by_number 1 past) (record { number = number; event = e })
    ∙ ap (keep_last kept_events) (sym (numbered-push 1 past e number (omega (arith, is))))
