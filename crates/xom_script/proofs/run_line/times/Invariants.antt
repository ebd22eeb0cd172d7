-- The numbers so far stand in front of those of the words that are left.
use Rattle.std.proofs.Common.{◌≡◌, ◌++◌, map, drop, option_map}
use Rattle.xom_script.specs.RunLines.{times_of}
use Rattle.xom_script.proofs.run_line.times.Given as goal

abbrev pub invariant-loop-word : goal.invariant-loop-word
invariant-loop-word l =
    option_map (λ more. l.times ++ more)
    (times_of l.last (map (λ word. word.now) (drop l.word-index l.words)))
    ≡ times_of 0 (map (λ word. word.now) l.words)
