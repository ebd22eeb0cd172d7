-- The test of steps decides their equality.
use Rattle.std.proofs.Common.{◌≡◌, true, refl, arith}
use Rattle.std.proofs.lemmas.Bool.Decides.{nat_tests}
use Rattle.xom_base.specs.declared.step.Writes.{Writes}
use Rattle.xom_base.specs.declared.step.Writes.TheVariants as writes
use Rattle.xom_base.specs.declared.step.Stored.{Stored}
use Rattle.xom_base.specs.declared.step.Stored.TheVariants as stored
use Rattle.xom_base.specs.declared.step.Received.{Received}
use Rattle.xom_base.specs.declared.step.Received.TheVariants as received
use Rattle.xom_base.specs.declared.step.Released.{Released}
use Rattle.xom_base.specs.declared.step.Released.TheVariants as released
use Rattle.xom_base.specs.declared.step.StepEnd.{StepEnd}
use Rattle.xom_base.specs.declared.step.StepEnd.TheVariants as ended
use Rattle.xom_base.specs.declared.step.Step.{Step}
use Rattle.xom_base.specs.Steps.{same_step, same_writes, same_stored, same_received, same_released, same_end}

writes-same : (a : Writes) → same_writes a a ≡ true
writes-same writes.Nothing = refl
writes-same (writes.One r v) = grind (arith, nat_tests)
writes-same (writes.Pair h l) = grind (arith, nat_tests)

stored-same : (a : Stored) → same_stored a a ≡ true
stored-same stored.Nothing = refl
stored-same (stored.Bytes x n v) = grind (arith, nat_tests)

received-same : (a : Received) → same_received a a ≡ true
received-same received.Nothing = refl
received-same (received.Cell v) = grind (arith, nat_tests)
received-same (received.Null x v) = grind (arith, nat_tests)
received-same (received.Signal n) = grind (arith, nat_tests)

released-same : (a : Released) → same_released a a ≡ true
released-same released.Nothing = refl
released-same (released.Cell r v) = grind (arith, nat_tests)
released-same (released.Null x v) = grind (arith, nat_tests)

end-same : (a : StepEnd) → same_end a a ≡ true
end-same ended.Goes = refl
end-same (ended.Call n) = grind (arith, nat_tests)
end-same ended.Exit = refl

-- a step is the same as itself
pub same_step-same : (a : Step) → same_step a a ≡ true
unfolding same_step
same_step-same a =
    grind (
      arith,
      nat_tests,
      writes-same a.writes,
      stored-same a.stored,
      received-same a.received,
      released-same a.released,
      end-same a.end,
    )
