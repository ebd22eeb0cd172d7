-- What the reader promises follows from what it answers.
use Rattle.xom_image.proofs.SealedReading.{AnswersSealed-file}
use Rattle.xom_image.proofs.sealed.read_sealed.Goals as goal

pub returns-clause-file : goal.returns-clause-file
returns-clause-file c =
    AnswersSealed-file c.args.bytes.now c.image_of.result
    (rw c.as_slice.ensures at c.image_of.ensures.found)
    (rw c.as_slice.ensures at c.image_of.ensures.value)
