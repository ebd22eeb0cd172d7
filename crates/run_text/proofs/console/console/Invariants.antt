-- The bytes so far are those of the entries in front.
use Rattle.std.proofs.Common.{◌≡◌, take}
use Rattle.run_text.specs.Console.{console_of}
use Rattle.run_text.proofs.console.console.Given as goal

abbrev pub invariant-loop-i : goal.invariant-loop-i
invariant-loop-i l = l.bytes.items ≡ console_of (take l.i l.journal.entries)
