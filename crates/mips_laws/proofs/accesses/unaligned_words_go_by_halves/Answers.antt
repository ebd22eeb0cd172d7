use Rattle.mips_laws.proofs.Halves.{words_are_big_endian, halves_load_the_word, lw_loads_the_word}
use Rattle.mips_laws.proofs.ReadingBack.{written_words_are_alone}
use Rattle.mips_laws.proofs.Storing.{halves_store_the_word, sw_stores_the_word}
use Rattle.mips_laws.proofs.accesses.unaligned_words_go_by_halves.Goals as goal

pub returns : goal.returns
returns c = record {
  big_endian = words_are_big_endian;
  alone = written_words_are_alone;
  loads = halves_load_the_word;
  aligned_load = lw_loads_the_word;
  stores = halves_store_the_word;
  aligned_store = sw_stores_the_word;
}
