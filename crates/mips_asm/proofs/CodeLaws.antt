-- What was answered of words tells of the code of a statement.
use Rattle.std.proofs.Common.{◌≡◌, ℕ, ◌%◌, Bool, true, false, List, [], ◌∷◌, Some, refl, sym, subst}
use Rattle.std.proofs.lemmas.Option.{same_Some}
use Rattle.mips_instruction.specs.declared.instruction.Ins.{Ins}
use Rattle.mips_asm.specs.Encoding.{AreWords, IsCode, TellsWhether, one_instruction}

-- the code of one instruction are its words
pub one_code : (place : ℕ) (i : Ins) (written : Bool) (bytes : List ℕ) → place % 4 ≡ 0
    → TellsWhether (AreWords (i ∷ [])) written bytes
    → TellsWhether (IsCode place (Some (one_instruction i))) written bytes
one_code place i true bytes aligned words = (i ∷ [], aligned, refl, words)
one_code place i false bytes aligned none =
    λ all code. none all (subst (λ (is : List Ins). AreWords is all)
    (sym (same_Some (one_instruction i) code.0 code.2)) code.3)
