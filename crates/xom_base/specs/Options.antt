-- Values that may be absent: one step after another, and a value on a condition.
use Rattle.std.specs.Prelude.{Bool, Option, Some, None, if◌then◌else◌, option_and_then}

infixl 10 ◌>>=◌
-- one step and the next, where the first has a value
abbrev pub ◌>>=◌ : {A B : Type 0} → Option A → (A → Option B) → Option B
o >>= f = option_and_then f o

-- the value where the test holds
abbrev pub where_holds : {A : Type 0} → Bool → A → Option A
where_holds test x = if test then Some x else None
