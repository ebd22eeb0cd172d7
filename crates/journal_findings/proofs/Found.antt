-- The searches over a journal that grows.
use Rattle.std.proofs.Common.{◌≡◌, ℕ, List, [], ◌∷◌, ◌++◌, Option, Some, None, refl, sym, ◌∙◌, ap, append_assoc}
use Rattle.std.specs.Option.{option_or}
use Rattle.std.proofs.lemmas.List.{append-nil}
use Rattle.xom_base.specs.declared.entry.Entry.{Entry}
use Rattle.journal_findings.specs.Findings.{collision_at, first_collision, first_forgery, first_found, forgery_at}
use Rattle.journal_findings.specs.Laws.{ForgeriesStay, CollisionsStay}

-- of three answers the first one that there is
or_assoc : {A : Type 0} (x y z : Option A)
    → option_or (option_or x y) z ≡ option_or x (option_or y z)
or_assoc None y z = refl
or_assoc (Some x) y z = refl

-- an answer or none is that answer
or_none : {A : Type 0} (x : Option A) → option_or x None ≡ x
or_none None = refl
or_none (Some x) = refl

-- what is found in a longer list is found in its front, or else behind it
pub first_found-append : {A : Type 0} (find : List Entry → Entry → Option A)
    (before front more : List Entry)
    → first_found find before (front ++ more) ≡ option_or (first_found find before front)
    (first_found find (before ++ front) more)
first_found-append find before [] more =
    ap (λ seen. first_found find seen more) (sym (append-nil before))
first_found-append find before (entry ∷ front) more =
    ap (option_or (find before entry)) (first_found-append find (before ++ entry ∷ []) front more)
    ∙ ap (λ seen. option_or (find before entry)
    (option_or (first_found find (before ++ entry ∷ []) front) (first_found find seen more)))
    (append_assoc before (entry ∷ []) front)
    ∙ sym (or_assoc (find before entry) (first_found find (before ++ entry ∷ []) front)
    (first_found find (before ++ entry ∷ front) more))

-- what is found stays found
first_found-stays : {A : Type 0} (find : List Entry → Entry → Option A) (front more : List Entry)
    (a : A)
    → first_found find [] front ≡ Some a → first_found find [] (front ++ more) ≡ Some a
first_found-stays find front more a found =
    first_found-append find [] front more ∙ ap (λ x. option_or x (first_found find front more))
    found

pub forgeries_stay : ForgeriesStay
forgeries_stay sealed entries more n = first_found-stays (forgery_at sealed) entries more n

pub collisions_stay : CollisionsStay
collisions_stay entries more pair = first_found-stays collision_at entries more pair

-- one more entry where nothing was forged
pub forged-more : (sealed : List (List ℕ × List ℕ)) (entries : List Entry) (entry : Entry)
    → first_forgery sealed entries ≡ None
    → first_forgery sealed (entries ++ entry ∷ []) ≡ forgery_at sealed entries entry
forged-more sealed entries entry honest =
    first_found-append (forgery_at sealed) [] entries (entry ∷ [])
    ∙ ap (λ x. option_or x (first_found (forgery_at sealed) entries (entry ∷ []))) honest
    ∙ or_none (forgery_at sealed entries entry)

-- one more entry where nothing collided
pub collision-more : (entries : List Entry) (entry : Entry) → first_collision entries ≡ None
    → first_collision (entries ++ entry ∷ []) ≡ collision_at entries entry
collision-more entries entry honest =
    first_found-append collision_at [] entries (entry ∷ [])
    ∙ ap (λ x. option_or x (first_found collision_at entries (entry ∷ []))) honest
    ∙ or_none (collision_at entries entry)
