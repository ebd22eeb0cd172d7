use Rattle.std.proofs.Common.{◌≡◌, ◌++◌, take}
use Rattle.std.specs.List.{flat_map}
use Rattle.xom_debug.specs.DebugTexts.{noted_line}
use Rattle.xom_debug.proofs.printing.push_noted.Given as goal

abbrev pub invariant-loop-noted : goal.invariant-loop-noted
invariant-loop-noted l =
    l.text.items ≡ l.fn.text.items ++ flat_map noted_line (take l.noted-index l.events)
