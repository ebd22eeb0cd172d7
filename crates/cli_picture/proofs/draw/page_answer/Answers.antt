use Rattle.std.proofs.Common.{◌≡◌, [], List, ℕ, subst}
use Rattle.std.specs.Prelude.{IfOk, string_bytes}
use Rattle.cli_base.specs.Commands.{writes}
use Rattle.cli_picture.proofs.draw.page_answer.Goals as goal

pub returns : goal.returns
returns c =
    subst (λ (b : List ℕ). IfOk c.file_answer.result (λ answer. answer ≡ writes []
    (string_bytes c.args.page.now) b)) c.in_ok-bytes.ensures.page c.file_answer.ensures
