-- The function of run files has just the values of their grammar.
use Rattle.xom_script.proofs.RuleLaws.{rules_kept}
use Rattle.xom_script.proofs.RunLaws.{run_file_answers}
use Rattle.xom_script.proofs.run_reader.read_run.Goals as goal

pub returns-clause-text : goal.returns-clause-text
returns-clause-text c = run_file_answers c.args.text.now c.run_file_in.result c.run_file_in.ensures

pub returns-clause-rules : goal.returns-clause-rules
returns-clause-rules c = rules_kept c.args.text.now c.run_file_in.result c.run_file_in.ensures
