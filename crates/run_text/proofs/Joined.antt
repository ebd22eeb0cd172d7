-- A text to which three pieces were added, one after another.
use Rattle.std.proofs.Common.{◌≡◌, ℕ, List, ◌++◌, Result, Ok, Err, ap, ◌∙◌}
use Rattle.std.specs.Prelude.{OnOk}
use Rattle.std.proofs.lemmas.List.{append_assoc}
use Rattle.xom_base.specs.declared.list.NoMemory.{NoMemory}

pub three-joined : (r : Result (Unit {0}) NoMemory) (old a b k mid low new : List ℕ)
    → mid ≡ old ++ a → low ≡ mid ++ b → OnOk r (new ≡ low ++ k)
    → OnOk r (new ≡ old ++ (a ++ (b ++ k)))
three-joined (Ok u) old a b k mid low new first second last =
    last ∙ ap (λ l. l ++ k) second ∙ append_assoc mid b k ∙ ap (λ m. m ++ (b ++ k)) first
    ∙ append_assoc old a (b ++ k)
three-joined (Err why) old a b k mid low new first second last = tt
