-- The function is the table.
use Rattle.std.proofs.Common.{◌<◌}
use Rattle.text_lines.proofs.NumberLaws.{none_by_exact, some_by_exact}
use Rattle.asm_tokens.proofs.RegisterLaws.{register_of-exact, register_small}
use Rattle.asm_tokens.specs.Registers.{IsRegister}
use Rattle.asm_tokens.proofs.registers.register.Goals as goal

pub returns-clause-exact : goal.returns-clause-exact
returns-clause-exact c = rw c.register_in.ensures (register_of-exact c.args.text.now)

pub returns-clause-none : goal.returns-clause-none
returns-clause-none c =
    none_by_exact (IsRegister c.args.text.now) c.register_in.result (returns-clause-exact c)

pub returns-clause-small : goal.returns-clause-small
returns-clause-small c =
    some_by_exact (IsRegister c.args.text.now) (λ r. r < 32) c.register_in.result
    (returns-clause-exact c) (register_small c.args.text.now)
