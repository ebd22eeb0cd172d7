-- What a journal names as forged or as a collision stays as it grows.
use Rattle.std.specs.Prelude.{ℕ, ◌≡◌, List, ◌++◌, Some}
use Rattle.xom_base.specs.declared.entry.Entry.{Entry}
use Rattle.journal_findings.specs.Findings.{first_collision, first_forgery}

-- a forgery that a journal names, each longer journal names
abbrev pub ForgeriesStay : Type 0
ForgeriesStay =
    (sealed : List (List ℕ × List ℕ)) (entries more : List Entry) (n : ℕ)
    → first_forgery sealed entries ≡ Some n → first_forgery sealed (entries ++ more) ≡ Some n

-- a collision that a journal names, each longer journal names
abbrev pub CollisionsStay : Type 0
CollisionsStay =
    (entries more : List Entry) (pair : ℕ × ℕ)
    → first_collision entries ≡ Some pair → first_collision (entries ++ more) ≡ Some pair
