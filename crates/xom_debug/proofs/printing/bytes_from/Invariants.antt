use Rattle.std.proofs.Common.{◌≡◌}
use Rattle.xom_debug.specs.DebugTexts.{bytes_from as bytes_from_of}
use Rattle.xom_debug.proofs.printing.bytes_from.Given as goal

abbrev pub invariant-loop-i : goal.invariant-loop-i
invariant-loop-i l = l.bytes.items ≡ bytes_from_of l.fn.view l.fn.address l.i
