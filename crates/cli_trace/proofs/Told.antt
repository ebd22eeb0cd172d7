-- A kernel that tells each turn has its run told whole.
use Rattle.std.proofs.Common.{◌≡◌, Option, Some, None, Result, Ok, Err}
use Rattle.std.specs.Prelude.{IfOk, IfSome, IsSome, unwrap_or}

pub told-whole : {A : Type 0} (o : Option A) (d s : A) → IsSome o → IfSome o (λ r. s ≡ r)
    → s ≡ unwrap_or o d
told-whole (Some r) d s some is = is
told-whole None d s some is = absurd (cc)
