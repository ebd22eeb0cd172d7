-- The effect is the definition's, which is in its ranges.
use Rattle.mips_effect.proofs.Ranges.{judged-ranged, judged-opened, judged-foreign}
use Rattle.mips_effect.proofs.acts.effect.Goals as goal

pub returns-clause-ranged : goal.returns-clause-ranged
returns-clause-ranged c guest =
    rw c.judged.ensures.value (judged-ranged c.args.ins c.args.mode c.seen_at.result
    c.seen_at-2.result c.seen_at-3.result c.args.npc c.requires guest)

pub returns-clause-opened : goal.returns-clause-opened
returns-clause-opened c null =
    rw c.judged.ensures.value (judged-opened c.args.ins c.args.mode c.seen_at.result
    c.seen_at-2.result c.seen_at-3.result c.args.npc c.requires null)

pub returns-clause-foreign : goal.returns-clause-foreign
returns-clause-foreign c null =
    rw c.judged.ensures.value (judged-foreign c.args.ins c.args.mode c.seen_at.result
    c.seen_at-2.result c.seen_at-3.result c.args.npc c.requires null)
