-- What a statement writes, by what it is.
use Rattle.std.proofs.Common.{arith}
use Rattle.mips_asm.specs.Layout.{statement_size}
use Rattle.mips_asm.proofs.data.add_bytes.Goals as goal

pub instruction_at-requires : goal.instruction_at-requires
unfolding statement_size
instruction_at-requires c =
    let inside = rw c.in-Instruction.is at c.requires.inside in
    omega (arith, inside)

pub overflow_cast-place : goal.overflow_cast-place
unfolding statement_size
overflow_cast-place c =
    let inside = rw c.in-Instruction.is at c.requires.inside in
    omega (arith, inside)

pub returns-in_ok-instructions-in-LoadNumber : goal.returns-in_ok-instructions-in-LoadNumber
returns-in_ok-instructions-in-LoadNumber c =
    rw c.in-LoadNumber.is (rw c.in_ok-instructions-in-LoadNumber.ensures at c.add_code.ensures)

pub returns-in_ok-instructions-in-LoadAddress : goal.returns-in_ok-instructions-in-LoadAddress
returns-in_ok-instructions-in-LoadAddress c =
    rw c.in-LoadAddress.is
    (rw (c.in_ok-instructions-in-LoadAddress.ensures, c.as_slice-in-LoadAddress.ensures) at
    c.add_code-in-LoadAddress.ensures)

pub returns-in_ok-made-in-Instruction : goal.returns-in_ok-made-in-Instruction
returns-in_ok-made-in-Instruction c =
    rw c.in-Instruction.is
    (rw (
      c.in_ok-made-in-Instruction.ensures,
      c.as_slice-name.ensures,
      c.as_slice-arguments.ensures,
    ) at c.add_instruction.ensures)
