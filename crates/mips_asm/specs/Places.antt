-- A label or a statement at its place.
use Rattle.std.specs.Prelude.{ℕ}
use Rattle.asm_source.specs.declared.content.Part.{Part}

pub record Placed : Type 0 where
  -- the place at which it stands
  pub place : ℕ
  -- how many bytes it writes from there on
  pub size : ℕ
  pub part : Part
