-- What the reader promises follows from what it answers.
use Rattle.xom_image.proofs.PlainReading.{Answers-file}
use Rattle.xom_image.proofs.plain.read_plain.Goals as goal

pub returns-clause-file : goal.returns-clause-file
returns-clause-file c =
    Answers-file c.args.bytes.now c.image_of.result
    (rw c.as_slice.ensures at c.image_of.ensures.found)
    (rw c.as_slice.ensures at c.image_of.ensures.value)
