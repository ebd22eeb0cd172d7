-- A loan of a slot's session.
use Rattle.std.specs.Prelude.{ℕ}
use Rattle.std.specs.Borrow.{Lends, MutBor, Fml}
use Rattle.session_table.specs.declared.session.Session.{Session}
use Rattle.session_table.specs.contracts.session.Session as session
use Rattle.session_table.specs.contracts.table.Table as table
use Rattle.session_table.specs.Sessions.{Sessions, with_session}

-- the slot ends with the last session behind the loan, and every other one as it was
abbrev pub LendsSession : MutBor Sessions → ℕ → MutBor Session → Fml
LendsSession s slot loan = Lends table.the_row session.the_row s loan (with_session s.now slot)
