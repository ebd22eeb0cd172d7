-- What a command that was carried out answers.
use Rattle.std.specs.Prelude.{◌≡◌, ◌⊎◌, ℕ, List, Some, None}
use Rattle.cli_base.specs.declared.answer.Answer.{Answer}

-- the answer that prints this text and does nothing else
abbrev pub prints : List ℕ → Answer
prints text = record { text = text; file = None; status = 0 }

-- the answer that puts this file and prints this text
abbrev pub writes : List ℕ → List ℕ → List ℕ → Answer
writes text name bytes = record {
  text = text;
  file = Some (record { name = name; bytes = bytes });
  status = 0;
}

-- a command that was carried out ends so
abbrev pub IsDone : ℕ → Type 0
IsDone status = (status ≡ 0) ⊎ (status ≡ 6) ⊎ (status ≡ 7) ⊎ (status ≡ 8) ⊎ (status ≡ 9)
