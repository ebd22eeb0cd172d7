use Rattle.mips_laws.proofs.ReadingBack.{words_are_read_back, halves_are_read_back, bytes_are_read_back, unaligned_words_are_read_back}
use Rattle.mips_laws.proofs.accesses.stored_values_are_read_back.Goals as goal

pub returns : goal.returns
returns c = record {
  words = words_are_read_back;
  halves = halves_are_read_back;
  bytes = bytes_are_read_back;
  unaligned = unaligned_words_are_read_back;
}
