-- The parts so far stand at their places, within the limit.
use Rattle.std.proofs.Common.{◌≡◌, take}
use Rattle.std.specs.List.{All}
use Rattle.mips_asm.specs.Layout.{IsInsideImage, IsSized, layout}
use Rattle.mips_asm.proofs.LayoutLaws.{place_behind}
use Rattle.mips_asm.proofs.layout.layout.Given as goal

abbrev pub invariant-loop-part : goal.invariant-loop-part
invariant-loop-part l = record {
  placed : l.placed.items ≡ layout 0 (take l.part-index l.parts);
  place : l.place ≡ place_behind 0 (take l.part-index l.parts);
  inside : All IsInsideImage l.placed.items;
  sized : All IsSized l.placed.items;
}
