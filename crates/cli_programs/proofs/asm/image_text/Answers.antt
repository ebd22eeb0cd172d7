use Rattle.std.proofs.Common.{◌≡◌, ℕ, List, ◌++◌, ap, ◌∙◌, append_assoc}
use Rattle.std.specs.Prelude.{codes}
use Rattle.std.specs.Fmt.{decimal}
use Rattle.text_pieces.specs.Pieces.{hex8}
use Rattle.cli_programs.proofs.asm.image_text.Goals as goal

-- four texts, one behind the other
in_order : (a b d e : List ℕ) → ((a ++ b) ++ d) ++ e ≡ a ++ (b ++ (d ++ e))
in_order a b d e = append_assoc (a ++ b) d e ∙ append_assoc a b (d ++ e)

pub returns : goal.returns
returns c =
    rw (
      c.from_vec.ensures,
      c.in_ok-push_bytes-3.ensures.ok,
      c.in_ok-push_hex8.ensures.ok,
      c.in_ok-push_bytes-2.ensures.ok,
      c.in_ok-push_decimal.ensures.ok,
      c.in_ok-push_bytes.ensures.ok,
      c.new-text.ensures.items,
    )
    (ap (λ rest. codes "image " ++ rest) (in_order (decimal c.args.size) (codes " bytes entry ")
    (hex8 c.args.entry) (codes "\n")))
