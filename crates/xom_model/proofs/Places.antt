-- Reading a place after it, or another, was written; and what one more entry adds to a journal.
use Rattle.std.proofs.Common.{◌≡◌, ◌≢◌, ◌⊎◌, inl, inr, ℕ, List, [], ◌∷◌, ◌++◌, Some, None, refl, sym, ◌∙◌, eqb, true, false, cond, append-nil}
use Rattle.std.proofs.lemmas.List.Elements.{filter_map-append}
use Rattle.std.proofs.lemmas.Bool.{eq-eqb, eqb-true}
use Rattle.xom_base.specs.Entries.{step_in, steps_of}
use Rattle.xom_base.specs.declared.entry.Entry.{Entry}
use Rattle.xom_base.specs.declared.entry.Entry.TheVariants as entry
use Rattle.xom_base.specs.declared.key.ImageId.{ImageId}
use Rattle.xom_base.specs.declared.step.Step.{Step}
use Rattle.xom_model.specs.Holds.{Installs, IsInstalled}

-- an entry that is no step of this install leaves its steps
pub steps_of-other : (n : ℕ) (entries : List Entry) (e : Entry) → step_in n e ≡ None
    → steps_of n (entries ++ e ∷ []) ≡ steps_of n entries
steps_of-other n entries e none =
    filter_map-append (step_in n) entries (e ∷ []) ∙ rw none (append-nil (steps_of n entries))

-- a step of this install is its last step
pub steps_of-step : (n : ℕ) (entries : List Entry) (step : Step)
    → steps_of n (entries ++ entry.Step n step ∷ []) ≡ steps_of n entries ++ step ∷ []
steps_of-step n entries step =
    filter_map-append (step_in n) entries (entry.Step n step ∷ []) ∙ rw (eq-eqb n n refl) refl

-- a step of one install is none of another
pub step_in-other : (n m : ℕ) (step : Step) → n ≢ m → step_in n (entry.Step m step) ≡ None
step_in-other n m step other =
    elim (eqb m n) as (λ b. eqb m n ≡ b → cond b (Some step) None ≡ None) [
      | true ↦
          λ same. absurd (other (sym (eqb-true m n same)))
      | false ↦ λ _. refl
    ] refl

-- what is installed after one more entry was installed before it or by it
pub IsInstalled-more : (entries : List Entry) (e : Entry) (n : ℕ) (id : ImageId)
    → IsInstalled (entries ++ e ∷ []) n id → IsInstalled entries n id ⊎ Installs e n id
IsInstalled-more [] e n id h = elim h [ inl here ↦ inr here | inr nowhere ↦ absurd nowhere ]
IsInstalled-more (first ∷ entries) e n id h = elim h [
  | inl here ↦ inl (inl here)
  | inr later ↦ elim (IsInstalled-more entries e n id later) [
    | inl before ↦
        inl (inr before)
    | inr last ↦ inr last
  ]
]

-- what was installed stays so
pub IsInstalled-stays : (entries : List Entry) (e : Entry) (n : ℕ) (id : ImageId)
    → IsInstalled entries n id → IsInstalled (entries ++ e ∷ []) n id
IsInstalled-stays [] e n id h = absurd h
IsInstalled-stays (first ∷ entries) e n id h = elim h [
  | inl here ↦ inl here
  | inr later ↦
      inr (IsInstalled-stays entries e n id later)
]
