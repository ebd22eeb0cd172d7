use Rattle.std.specs.Prelude.{string_bytes}
use Rattle.cli_base.proofs.Without.{given_on}
use Rattle.cli_judge.proofs.Files.{judge_ends, judge_stops}
use Rattle.cli_judge.proofs.judge.judge.Goals as goal

pub returns-in_err-owners-clause-gives : goal.returns-in_err-owners-clause-gives
returns-in_err-owners-clause-gives g c =
    given_on _ _ _ _ c.in_err-owners.field-0.0 c.from_residual-in_err-owners.result
    c.from_residual-in_err-owners.ensures.1
    (judge_stops _ (string_bytes c.args.run.now) (string_bytes c.args.journal.now)
    _ _ _ _ c.in_err-owners.field-0.0 c.in_ok-file.ensures.gives
    (rw c.in_ok-file.ensures.names at c.in_err-owners.ensures.gives))

pub returns-clause-gives : goal.returns-clause-gives
returns-clause-gives g c =
    judge_ends _ (string_bytes c.args.run.now) (string_bytes c.args.journal.now)
    _ _ _ _ _ _ c.journal_judged.result c.in_ok-file.ensures.gives
    (rw c.in_ok-file.ensures.names at c.in_ok-owners.ensures.gives)
    (rw (c.in_ok-owners.ensures.names, c.in_ok-file.ensures.names) at
    c.journal_judged.ensures.gives)
