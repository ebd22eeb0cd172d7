-- The table's texts are what its references show.
use Rattle.std.proofs.Common.{◌∙◌, ℕ, List, Bor}
use Rattle.std.specs.Str.{bytes_eq}
use Rattle.asm_tokens.proofs.RegisterLaws.{position-map}
use Rattle.asm_tokens.proofs.registers.place_of.Goals as goal

pub returns : goal.returns
returns c =
    c.first_place.ensures
    ∙ position-map (λ (known : Bor (List ℕ)). known.now) (λ known. bytes_eq known c.args.text.now)
    c.args.table.now
