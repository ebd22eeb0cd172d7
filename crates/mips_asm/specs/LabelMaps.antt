-- The map of the labels, as a function from names.
use Rattle.std.specs.Prelude.{ℕ, List, Option}
use Rattle.std.specs.HashMap.{get_by}
use Rattle.std.specs.Str.{bytes_eq}
use Rattle.mips_asm.specs.declared.labels.Labels.{Labels}

-- the place that a name stands for, or none
abbrev pub place_in : Labels → List ℕ → Option ℕ
place_in labels name = get_by (λ k. bytes_eq name k.now) labels.places
