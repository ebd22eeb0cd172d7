-- A file whose fields are read breaks no rule.
use Rattle.xom_image.proofs.Reading.{fields_whole}
use Rattle.xom_image.proofs.fields.fields.Goals as goal

pub returns-clause-whole : goal.returns-clause-whole
returns-clause-whole c =
    rw c.judged.ensures (fields_whole c.args.format.now c.args.file.now c.requires)
