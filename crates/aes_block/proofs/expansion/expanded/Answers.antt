use Rattle.std.proofs.Common.{ℕ, List, ◌+◌, take, set, ◌∙◌, ap, arith}
use Rattle.std.specs.Int.{w32, to_be_bytes}
use Rattle.std.proofs.lemmas.List.{length-map, length-set, map-set}
use Rattle.aes_block.specs.Columns.{words_in}
use Rattle.aes_block.specs.Keys.{key_of}
use Rattle.aes_block.proofs.Growth.{expansion_done, expansion_grows, key_of-key_expansion}
use Rattle.aes_block.proofs.expansion.expanded.Goals as goal

pub loop-i-preserved : goal.loop-i-preserved
loop-i-preserved c =
    let words = words_in c.loop-i.words in
    record {
      begun =
          ap (take (c.loop-i.i + 1)) (map-set (to_be_bytes w32) c.loop-i.words c.loop-i.i
          c.next_word-word.result)
          ∙ ap (λ (word : List ℕ). take (c.loop-i.i + 1) (set words c.loop-i.i word))
          c.next_word-word.ensures
          ∙ expansion_grows c.args.key.now words c.loop-i.i (omega arith)
          (omega (arith, length-map c.loop-i.words (to_be_bytes w32))) c.loop-i.invariant.begun;
      all = length-set c.loop-i.words c.loop-i.i c.next_word-word.result ∙ c.loop-i.invariant.all;
    }

pub returns : goal.returns
returns c =
    let words = words_in c.loop-i.words in
    let done = expansion_done c.args.key.now words c.loop-i.i (omega arith)
    (length-map c.loop-i.words (to_be_bytes w32) ∙ c.loop-i.invariant.all)
    c.loop-i.invariant.begun in
    record {
      words = done;
      key = ap key_of done ∙ key_of-key_expansion c.args.key.now c.told-key;
    }
