-- What a choice by a test was.
use Rattle.std.proofs.Common.{◌≡◌, ◌⊎◌, Bool, true, false, cond, inl, inr, refl}

-- a choice of two values is one of them, as the test says
pub cond-cases : {A : Type 0} (b : Bool) (x y z : A) → cond b x y ≡ z
    → ((b ≡ true) × (x ≡ z)) ⊎ ((b ≡ false) × (y ≡ z))
cond-cases true x y z h = inl (refl, h)
cond-cases false x y z h = inr (refl, h)
