use Rattle.std.proofs.Common.{◌≡◌, ◌-◌, take, length}
use Rattle.aes_block.specs.Columns.{words_in}
use Rattle.aes_block.specs.Keys.{schedule_words}
use Rattle.aes_block.proofs.expansion.expanded.Given as goal

abbrev pub invariant-loop-i : goal.invariant-loop-i
invariant-loop-i l = record {
  begun : take l.i (words_in l.words) ≡ schedule_words l.key (l.i - 4);
  all : length l.words ≡ 44;
}
