-- A text's place in the table.
use Rattle.std.proofs.Common.{sym, ap, ◌∙◌, ◌%◌}
use Rattle.std.specs.Prelude.{option_map}
use Rattle.asm_tokens.specs.Registers.{register_of, register_names, register_numbers}
use Rattle.asm_tokens.proofs.registers.listed.Goals as goal

pub returns-in_err-place : goal.returns-in_err-place
unfolding register_of register_names register_numbers
returns-in_err-place c =
    rw c.from_residual.ensures (ap (option_map (λ place. place % 32)) (sym c.in_err-place.was
    ∙ c.place_of.ensures))

pub returns : goal.returns
unfolding register_of register_names register_numbers
returns c = ap (option_map (λ place. place % 32)) (sym c.in_ok-place.was ∙ c.place_of.ensures)
