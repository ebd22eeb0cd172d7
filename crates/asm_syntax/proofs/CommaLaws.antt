-- The parts between commas, one after another, and the operands of them.
use Rattle.std.proofs.Common.{◌≡◌, ℕ, ◌+◌, not, inl, inr, ltb, List, [], ◌∷◌, length, take, drop, Some, None, refl, ap, ◌∙◌, arith}
use Rattle.std.specs.List.{onto_first, position, position_or_len, slice_split}
use Rattle.std.proofs.lemmas.Bool.{cases_Bool, ltb-true}
use Rattle.std.proofs.lemmas.List.Splits.{slice_split_first, slice_split-cons_no}
use Rattle.std.proofs.lemmas.List.Sums.{prefix_len-le-length}
use Rattle.std.proofs.lemmas.Option.{cond_some}
use Rattle.asm_syntax.specs.Arguments.{is_comma}
use Rattle.asm_syntax.specs.declared.lexeme.Lexeme.{Lexeme}
use Rattle.asm_syntax.specs.declared.lexeme.Lexeme.TheVariants.{Comma}

-- the first part ends at the first comma
pub split_at_comma : (xs : List Lexeme) (k : ℕ) → position is_comma xs ≡ Some k
    → slice_split is_comma xs ≡ take k xs ∷ slice_split is_comma (drop (k + 1) xs)
split_at_comma xs k found =
    let first = cond_some (ltb (position_or_len is_comma xs) (length xs))
    (position_or_len is_comma xs) k found in
    rw (← first.1) (slice_split_first is_comma xs Comma
    (ltb-true (position_or_len is_comma xs) (length xs) first.0))

-- where no element passes there is one part
split_whole : (xs : List Lexeme) → position_or_len is_comma xs ≡ length xs
    → slice_split is_comma xs ≡ xs ∷ []
split_whole [] none = refl
split_whole (x ∷ xs) none =
    elim (cases_Bool (is_comma x)) [
      | inl comma ↦ absurd (Prim.grind (arith))
      | inr other ↦
          let rest : position_or_len is_comma xs ≡ length xs = Prim.grind (arith) in
          slice_split-cons_no is_comma x xs other ∙ ap (onto_first x) (split_whole xs rest)
    ]

-- where there is no comma there is one part
pub split_at_none : (xs : List Lexeme) → position is_comma xs ≡ None
    → slice_split is_comma xs ≡ xs ∷ []
split_at_none xs none =
    split_whole xs (Prim.grind (arith, prefix_len-le-length (λ x. not (is_comma x)) xs))
