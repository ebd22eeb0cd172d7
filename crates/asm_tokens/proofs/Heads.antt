-- Lists by their first element.
use Rattle.std.proofs.Common.{◌≡◌, ℕ, suc, ◌+◌, Bool, inl, inr, List, [], ◌∷◌, get_or, drop, ap, arith}
use Rattle.std.specs.List.{prefix_len}
use Rattle.std.proofs.lemmas.Bool.{cases_Bool}
use Rattle.asm_tokens.specs.Tokens.{FirstFails}

-- the first numbers of equal lists are equal, and so is what follows
pub first_same : (x y : ℕ) (xs ys : List ℕ) → x ∷ xs ≡ y ∷ ys → x ≡ y
first_same x y xs ys h = ap (λ w. get_or w 0 0) h

pub rest_same : (x y : ℕ) (xs ys : List ℕ) → x ∷ xs ≡ y ∷ ys → xs ≡ ys
rest_same x y xs ys h = ap (drop 1) h

-- what stands behind all those in front that pass a test begins with none that passes it
pub FirstFails-behind : (test : ℕ → Bool) (bytes : List ℕ)
    → FirstFails test (drop (prefix_len test bytes) bytes)
FirstFails-behind test [] = tt
FirstFails-behind test (byte ∷ bytes) =
    elim (cases_Bool (test byte)) [
      | inl passes ↦ let one : 1 + prefix_len test bytes ≡ suc (prefix_len test bytes) =
          omega arith in rw (passes, one) (FirstFails-behind test bytes)
      | inr fails ↦ rw fails fails
    ]
