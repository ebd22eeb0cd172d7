-- The function of scripts has just the values of their grammar.
use Rattle.xom_script.proofs.ScriptLaws.{script_answers}
use Rattle.xom_script.proofs.script.read_script.Goals as goal

pub returns-clause-text : goal.returns-clause-text
returns-clause-text c = script_answers c.args.text.now c.script_in.result c.script_in.ensures
