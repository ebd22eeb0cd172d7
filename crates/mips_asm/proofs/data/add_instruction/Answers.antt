-- The words of one instruction are its code.
use Rattle.std.proofs.Common.{◌≡◌, ◌%◌, arith}
use Rattle.std.proofs.lemmas.Result.{IfOk-weaker}
use Rattle.mips_asm.proofs.CodeLaws.{one_code}
use Rattle.mips_asm.proofs.data.add_instruction.Goals as goal

pub returns-in-Some : goal.returns-in-Some
returns-in-Some c =
    let whole = c.if-place-ne0.false in
    let aligned : c.args.place % 4 ≡ 0 = grind (arith, whole) in
    rw c.in-Some.is (IfOk-weaker c.words.result _ _ (λ written told. one_code c.args.place
    c.in-Some.ins written _ aligned told) c.words.ensures)
