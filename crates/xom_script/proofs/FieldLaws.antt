-- What a field of a line, or a row of lines, was where it has a value.
use Rattle.std.proofs.Common.{◌≡◌, ℕ, suc, ◌≤◌, Bool, true, false, not, cond, eqb, ◌⊎◌, inl, inr, List, [], ◌∷◌, length, Option, Some, None, refl, subst, arith}
use Rattle.std.specs.Prelude.{◌↔◌}
use Rattle.std.specs.List.{AllByRecursion}
use Rattle.std.specs.Str.{IsUtf8, bytes_eq, is_utf8}
use Rattle.std.proofs.lemmas.Bool.{eqb-true, false_from_ne_true}
use Rattle.std.proofs.lemmas.Bool.Decides.{nat_tests}
use Rattle.std.proofs.lemmas.Option.{none-some, option_and_then_some as steps, same_Some}
use Rattle.std.proofs.lemmas.Slice.Eq.{bytes_eq-Decides}
use Rattle.std.proofs.lemmas.Str.{IsUtf8-from_is_utf8, is_utf8-from_IsUtf8}
use Rattle.text_lines.specs.Hex.{hex_within}
use Rattle.text_lines.proofs.HexLaws.{hex_within-exact}
use Rattle.text_lines.proofs.ChoiceLaws.{cond-cases}
use Rattle.text_lines.proofs.ByteLaws.{same_bytes}
use Rattle.text_lines.proofs.NumberLaws.{cond_then}
use Rattle.xom_script.specs.Fields.{WritesBytes, name_of_word, row_by_name, write_bytes_of}

-- what holds of the value of each row holds of the value that was found
pub row_found : {A : Type 0} (P : Type 0) (name : List ℕ) (value : A)
    (rows : List (List ℕ × Option A))
    → row_by_name rows name ≡ Some value
    → AllByRecursion (λ row. name ≡ row.0 → row.1 ≡ Some value → P) rows → P
row_found P name value [] h each = absurd (none-some value h)
row_found P name value (row ∷ rows) h each =
    elim (cond-cases (bytes_eq name row.0) row.1 (row_by_name rows name) (Some value) h) [
      | inl t ↦ each.0 (same_bytes name row.0 t.0) t.1
      | inr t ↦ row_found P name value rows t.1 each.1
    ]

-- a list without items
pub no_items : {A : Type 0} (items : List A) → eqb (length items) 0 ≡ true → items ≡ []
no_items [] h = refl
no_items (item ∷ items) h =
    let none : suc (length items) ≡ 0 = eqb-true (suc (length items)) 0 h in absurd (omega arith)

-- ---- file names

pub name_of-utf8 : (word : List ℕ) → IsUtf8 word → name_of_word word ≡ Some word
unfolding name_of_word
name_of-utf8 word utf8 = rw (is_utf8-from_IsUtf8 word utf8) refl

pub name_of-none : (word : List ℕ) → (IsUtf8 word → ⊥) → name_of_word word ≡ None
unfolding name_of_word
name_of-none word never =
    rw (false_from_ne_true (is_utf8 word) (λ utf8. never (IsUtf8-from_is_utf8 word utf8))) refl

pub name_of-found : (word name : List ℕ) → name_of_word word ≡ Some name → (word ≡ name) × IsUtf8 name
unfolding name_of_word
name_of-found word name h =
    let t = cond_then (is_utf8 word) (Some word) name h in
    let same : word ≡ name = same_Some word name t.1 in
    (same, subst IsUtf8 same (IsUtf8-from_is_utf8 word t.0))

-- ---- bytes of a write

some_bytes : (bytes : List ℕ) → not (eqb (length bytes) 0) ≡ true → 1 ≤ length bytes
some_bytes bytes h = grind (arith, nat_tests)

has_bytes : (bytes : List ℕ) → 1 ≤ length bytes → not (eqb (length bytes) 0) ≡ true
has_bytes bytes h = grind (arith, nat_tests)

pub write_bytes_of-exact : (word bytes : List ℕ)
    → (write_bytes_of word ≡ Some bytes) ↔ WritesBytes word bytes
unfolding write_bytes_of
write_bytes_of-exact word bytes = (
  λ h.
      steps _ (hex_within 8192 word) bytes h (λ read is h.
      let t = cond_then (not (eqb (length read) 0)) (Some read) bytes h in
      subst (WritesBytes word) (same_Some read bytes t.1) (
        (hex_within-exact 8192 word read).0 is,
        some_bytes read t.0,
      )),
  λ h. rw ((hex_within-exact 8192 word bytes).1 h.0, has_bytes bytes h.1) refl,
)
