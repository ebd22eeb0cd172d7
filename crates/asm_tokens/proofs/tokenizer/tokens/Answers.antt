-- The function is the grammar.
use Rattle.asm_tokens.proofs.LineLaws.{answers_bad, answers_found, answers_only, answers_only_bad, answers_slices}
use Rattle.asm_tokens.proofs.tokenizer.tokens.Goals as goal

pub returns-clause-found : goal.returns-clause-found
returns-clause-found c = answers_found c.args.line.now c.tokens_in.result c.tokens_in.ensures

pub returns-clause-only : goal.returns-clause-only
returns-clause-only c = answers_only c.args.line.now c.tokens_in.result c.tokens_in.ensures

pub returns-clause-bad : goal.returns-clause-bad
returns-clause-bad c = answers_bad c.args.line.now c.tokens_in.result c.tokens_in.ensures

pub returns-clause-only_bad : goal.returns-clause-only_bad
returns-clause-only_bad c = answers_only_bad c.args.line.now c.tokens_in.result c.tokens_in.ensures

pub returns-clause-slices : goal.returns-clause-slices
returns-clause-slices c = answers_slices c.args.line.now c.tokens_in.result c.tokens_in.ensures
