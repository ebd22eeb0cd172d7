-- A line's function has just the values of its grammar.
use Rattle.std.proofs.Common.{◌≡◌, ℕ, List, [], ◌∷◌, Some, None, refl}
use Rattle.std.specs.Prelude.{◌↔◌}
use Rattle.std.proofs.lemmas.Option.{none-some}
use Rattle.step_text.proofs.FieldLaws.{hex8_of-exact}
use Rattle.plain_run.specs.Received.{IsValue, value_of_line}

value_found : (words : List (List ℕ)) (value : ℕ) → value_of_line words ≡ Some value
    → IsValue words value
unfolding value_of_line
value_found [] value h = absurd (none-some value h)
value_found (word ∷ []) value h = (word, refl, (hex8_of-exact word value).0 h)
value_found (word ∷ other ∷ words) value h = absurd (none-some value h)

value_only : (words : List (List ℕ)) (value : ℕ) → IsValue words value → value_of_line words ≡ Some value
unfolding value_of_line
value_only words value w = rw w.1 ((hex8_of-exact w.0 value).1 w.2)

pub value_exact : (words : List (List ℕ)) (value : ℕ)
    → (value_of_line words ≡ Some value) ↔ IsValue words value
value_exact words value = (value_found words value, value_only words value)

pub value_nothing : value_of_line [] ≡ None
unfolding value_of_line
value_nothing = refl
