-- One cell after another is looked at.
use Rattle.std.proofs.Common.{refl, sym, ◌∙◌}
use Rattle.xom_ops.proofs.Least.{missing-start, missing-found, missing-passed, missing-none}
use Rattle.xom_ops.proofs.missing.missing.Goals as goal

pub loop-reg-init : goal.loop-reg-init
loop-reg-init c = missing-start _ _ _ _ _ refl refl

pub loop-reg-preserved : goal.loop-reg-preserved
loop-reg-preserved c =
    missing-passed _ _ _ _ c.loop-reg-test.true c.loop-reg.invariant
    (sym c.is_missing.ensures ∙ c.if-is_missing.false)

pub returns-then-is_missing : goal.returns-then-is_missing
returns-then-is_missing c =
    missing-found _ _ _ _ c.loop-reg-test.true c.loop-reg.invariant
    (sym c.is_missing.ensures ∙ c.if-is_missing.true)

pub returns : goal.returns
returns c = missing-none _ _ _ _ c.loop-reg-test.false c.loop-reg.invariant
