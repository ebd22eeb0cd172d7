-- What one more Seal of a run line changes in the counts of Seals.
use Rattle.std.proofs.Common.{◌≡◌, ◌≢◌, inl, inr, ◌==◌, ◌&&◌, cond, ℕ, ◌+◌, ◌<◌, ◌≤◌, ◌^◌, Bool, List, [], ◌∷◌, ◌++◌, length, refl, sym, ◌∙◌, ap, arith, true, false, append-nil}
use Rattle.std.specs.List.{filter}
use Rattle.std.proofs.lemmas.List.{length-append}
use Rattle.std.proofs.lemmas.List.Elements.{filter-append}
use Rattle.std.proofs.lemmas.Bool.{eq-eqb}
use Rattle.std.proofs.lemmas.Bool.Decides.{eqb_tells}
use Rattle.xom_seal.specs.Messages.{version_of_message}
use Rattle.xom_seal.proofs.NamingLaws.{run_lines_are_told}
use Rattle.xom_model.specs.Honest.{Sealing}
use Rattle.xom_model.specs.Lines.{Who, line_seals, names_line, names_version, run_pair, version_seals}

-- no more pass a test than there are
pub few_pass : (p : Sealing → Bool) (seals : List Sealing) → length (filter p seals) ≤ length seals
few_pass p [] = omega arith
few_pass p (s ∷ seals) =
    elim (p s) as (λ b. length (cond b (s ∷ filter p seals) (filter p seals)) ≤ length (s ∷ seals)) [
      | true ↦ omega (arith, few_pass p seals)
      | false ↦ omega (arith, few_pass p seals)
    ]

-- one more Seal
pub filter-one : (p : Sealing → Bool) (seals : List Sealing) (s : Sealing)
    → filter p (seals ++ s ∷ []) ≡ filter p seals ++ cond (p s) (s ∷ []) []
filter-one p seals s = filter-append p seals (s ∷ [])

filter-yes : (p : Sealing → Bool) (seals : List Sealing) (s : Sealing) → p s ≡ true
    → filter p (seals ++ s ∷ []) ≡ filter p seals ++ s ∷ []
filter-yes p seals s is = filter-one p seals s ∙ ap (λ b. filter p seals ++ cond b (s ∷ []) []) is

pub filter-no : (p : Sealing → Bool) (seals : List Sealing) (s : Sealing) → p s ≡ false
    → filter p (seals ++ s ∷ []) ≡ filter p seals
filter-no p seals s is =
    filter-one p seals s ∙ ap (λ b. filter p seals ++ cond b (s ∷ []) []) is
    ∙ append-nil (filter p seals)

-- two numbers that aren't both the same
pub not_both : (a b c d : ℕ) → (a ≡ b → c ≢ d) → ((a == b) && (c == d)) ≡ false
not_both a b c d differ = elim (eqb_tells a b) [
  | inl first ↦ elim (eqb_tells c d) [
    | inl second ↦ absurd (differ first.1 second.1)
    | inr other ↦
        rw (first.0, other.0) refl
  ]
  | inr other ↦ rw other.0 refl
]

module _ (who : Who) (line version : ℕ) (bytes : List ℕ) (install_low : who.install < 2 ^ 64)
    (line_low : line < 2 ^ 15) (version_low : version < 2 ^ 64) where
  abbrev pair : Sealing
  pair = run_pair who line version bytes

  names : (install at : ℕ) → install < 2 ^ 64 → at < 2 ^ 15
      → names_line install at pair ≡ ((who.install == install) && (line == at))
  names install at low few =
      run_lines_are_told.run install at who.boot who.install line version _ low (omega arith)
      install_low (omega arith)

  its_version : version_of_message pair.1 ≡ version
  its_version = run_lines_are_told.version who.boot who.install line version _ version_low

  names_own : names_line who.install line pair ≡ true
  names_own =
      names who.install line install_low line_low
      ∙ rw (eq-eqb who.install who.install refl, eq-eqb line line refl) refl

  module _ (seals : List Sealing) where
    abbrev more : List Sealing
    more = seals ++ pair ∷ []

    -- the line itself
    pub own_count : length (line_seals who.install line more) ≡ length
        (line_seals who.install line seals) + 1
    own_count =
        ap length (filter-yes (names_line who.install line) seals pair names_own)
        ∙ length-append (line_seals who.install line seals) (pair ∷ [])

    pub own_version : version_seals who.install line version more ≡ version_seals who.install line
        version seals ++ pair ∷ []
    own_version =
        filter-yes (names_version who.install line version) seals pair
        (rw names_own (eq-eqb (version_of_message pair.1) version its_version))

    pub later_version : (other : ℕ) → other ≢ version
        → version_seals who.install line other more ≡ version_seals who.install line other seals
    later_version other differs = filter-no (names_version who.install line other) seals pair
        (elim (eqb_tells (version_of_message pair.1) other) [
          | inl is ↦ absurd (differs (sym is.1 ∙ its_version))
          | inr other_number ↦ rw (names_own, other_number.0) refl
        ])

    -- another line, or the line of another install
    module _ (install at : ℕ) (low : install < 2 ^ 64) (few : at < 2 ^ 15)
        (differ : who.install ≡ install → line ≢ at) where
      names_other : names_line install at pair ≡ false
      names_other = names install at low few ∙ not_both who.install install line at differ

      pub other_seals : line_seals install at more ≡ line_seals install at seals
      other_seals = filter-no (names_line install at) seals pair names_other

      pub other_version : (number : ℕ)
          → version_seals install at number more ≡ version_seals install at number seals
      other_version number =
          filter-no (names_version install at number) seals pair (rw names_other refl)
