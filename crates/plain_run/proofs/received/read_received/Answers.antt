-- The reader of received files answers as their grammar says.
use Rattle.text_lines.proofs.TextLaws.{AnswersText-rows}
use Rattle.plain_run.specs.Received.{IsValue, received_at, value_of_line}
use Rattle.plain_run.proofs.ReceivedLaws.{value_exact, value_nothing}
use Rattle.plain_run.proofs.received.read_received.Goals as goal

pub returns-clause-text : goal.returns-clause-text
unfolding received_at
returns-clause-text c =
    AnswersText-rows value_of_line IsValue value_exact value_nothing c.args.text.now c.read_values.result
    c.read_values.ensures
