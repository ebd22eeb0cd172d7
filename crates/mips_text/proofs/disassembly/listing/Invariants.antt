-- The lines so far are those of the words so far.
use Rattle.std.proofs.Common.{◌≡◌}
use Rattle.mips_text.specs.Texts.{listing_lines}
use Rattle.mips_text.proofs.disassembly.listing.Given as goal

abbrev pub invariant-loop-n : goal.invariant-loop-n
invariant-loop-n l = l.text.items ≡ listing_lines l.bytes l.n
