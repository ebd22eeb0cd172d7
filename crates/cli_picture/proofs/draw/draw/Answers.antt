use Rattle.std.specs.Prelude.{string_bytes}
use Rattle.cli_picture.proofs.Drawn.{drawn_meets}
use Rattle.cli_picture.proofs.draw.draw.Goals as goal

pub returns-clause-meets : goal.returns-clause-meets
returns-clause-meets g c =
    drawn_meets _ (string_bytes c.args.journal.now) (string_bytes c.args.page.now) _ _ _
    c.in_ok-text.ensures.gives.0 c.in_ok-text.ensures.gives.1 c.draw_text.result
    c.draw_text.ensures.drawn
