-- What each row of a format keeps, all lines of a text keep.
use Rattle.std.proofs.Common.{ℕ, ◌+◌, List, [], ◌∷◌, Option, Some, None, sym, subst}
use Rattle.text_lines.specs.Lines.{OfWords, Reads}
use Rattle.text_lines.specs.Words.{words_of}

module _ {S X : Type 0} (row : S → ℕ → List (List ℕ) → X → S → Type 0) (Keeps : S → Type 0)
    (row_keeps : (s : S) (n : ℕ) (words : List (List ℕ)) (value : X) (next : S)
    → Keeps s → row s n words value next → Keeps next) where
  line_keeps : (s : S) (n : ℕ) (line : List ℕ) (value : Option X) (next : S)
      → Keeps s → OfWords row s n line value next → Keeps next
  line_keeps s n line None next keeps is = subst Keeps (sym is.1) keeps
  line_keeps s n line (Some value) next keeps is = row_keeps s n (words_of line) value next keeps is

  pub reads_keep : (s : S) (n : ℕ) (lines : List (List ℕ)) (values : List X) (last : S)
      → Keeps s → Reads (OfWords row) s n lines values last → Keeps last
  reads_keep s n [] values last keeps is = subst Keeps (sym is.1) keeps
  reads_keep s n (line ∷ lines) values last keeps is = reads_keep is.1 (n + 1) lines is.2 last
      (line_keeps s n line is.0 is.1 keeps is.3) is.5
