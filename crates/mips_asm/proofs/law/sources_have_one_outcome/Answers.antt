-- The law, as images and faults give it.
use Rattle.mips_asm.proofs.OneOutcome.{not_both, one_fault, one_image}
use Rattle.mips_asm.proofs.SomeOutcome.{image_or_fault}
use Rattle.mips_asm.proofs.law.sources_have_one_outcome.Goals as goal

pub returns : goal.returns
returns c = record {
  image = one_image;
  fault = one_fault;
  not_both = not_both;
  image_or_fault =
      image_or_fault;
}
