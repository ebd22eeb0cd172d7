-- The function of commands has just the values of their grammar, and these keep the rules.
use Rattle.xom_debug.proofs.CommandLaws.{commands-rules, commands_answer}
use Rattle.xom_debug.proofs.reading.read_commands.Goals as goal

pub returns-clause-text : goal.returns-clause-text
returns-clause-text c = commands_answer c.args.text.now c.commands_in.result c.commands_in.ensures

pub returns-clause-rules : goal.returns-clause-rules
returns-clause-rules c = commands-rules c.args.text.now c.commands_in.result (returns-clause-text c)
