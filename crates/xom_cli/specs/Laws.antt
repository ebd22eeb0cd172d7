-- What words come to is one thing.
use Rattle.std.specs.Prelude.{◌≡◌, ℕ, List}
use Rattle.cli_base.specs.Inputs.{Held}
use Rattle.xom_cli.specs.Outcome.{IsPrinted, Printed}

-- over files that hold the same, words print one text, write one file and end with one status
abbrev pub HaveOneOutcome : Type 0
HaveOneOutcome =
    (words : List (List ℕ)) (held : Held) (p q : Printed) → IsPrinted words held p
    → IsPrinted words held q → p ≡ q
