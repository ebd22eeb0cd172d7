-- An access lies in one word, of values that have 32 bits.
use Rattle.mips_effect.proofs.Ranges.{act-word}
use Rattle.mips_effect.proofs.acts.judged.Goals as goal

pub returns-clause-word : goal.returns-clause-word
returns-clause-word c =
    rw c.act.ensures (act-word c.args.ins c.args.mode c.number_of.result c.number_of-2.result
    c.number_of-3.result c.args.following c.requires (cc) c.number_of-2.type_inv)
