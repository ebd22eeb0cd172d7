-- The names so far are known, and the labels so far repeat none.
use Rattle.std.proofs.Common.{◌≡◌, ℕ, List, take, drop}
use Rattle.std.specs.Prelude.{is_some}
use Rattle.std.specs.List.{list_any}
use Rattle.asm_source.specs.declared.content.Part.{Part}
use Rattle.mips_asm.specs.LabelMaps.{place_in}
use Rattle.mips_asm.specs.Passes.{duplicate_line, first_fault, is_label, repeats}
use Rattle.mips_asm.proofs.duplicates.no_duplicate.Given as goal

abbrev pub invariant-loop-part : goal.invariant-loop-part
invariant-loop-part l = record {
  known : (name : List ℕ) → is_some (place_in l.known name) ≡ list_any (is_label name)
      (take l.part-index l.parts);
  rest : duplicate_line l.parts ≡ first_fault (λ (part : Part). part.line) repeats
      (take l.part-index l.parts) (drop l.part-index l.parts);
}
