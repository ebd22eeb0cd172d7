-- Both laws are proved where their definitions unfold.
use Rattle.xom_seal.proofs.EnvelopeLaws.{envelopes_show}
use Rattle.xom_seal.proofs.SealLaws.{sealed_lines_have_their_length}
use Rattle.xom_seal.proofs.law.sealings_have_their_form.Goals as goal

pub returns : goal.returns
returns c = record { lines = sealed_lines_have_their_length; envelopes = envelopes_show }
