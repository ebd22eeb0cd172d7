-- How high the epochs of a machine are.
use Rattle.std.specs.Prelude.{ℕ, ◌≤◌, List}
use Rattle.session_table.specs.declared.session.Session.{Session}
use Rattle.session_table.specs.Sessions.{session_at}

-- no epoch is above this number
abbrev pub AreBelow : List Session → ℕ → Type 0
AreBelow sessions n = (slot : ℕ) → (session_at sessions slot).epoch ≤ n
