-- What a refused operation leaves of the whole record, whoever asked for it.
use Rattle.std.specs.Prelude.{ℕ, ◌≡◌, ◌+◌, ◌≤◌, true, List, Some, Ok}
use Rattle.xom_base.specs.declared.event.Event.TheVariants as event
use Rattle.xom_base.specs.declared.event.Op.{Op}
use Rattle.xom_model.specs.Null.{null_step}
use Rattle.xom_versions.specs.Versions.{Versions}
use Rattle.xom_model.specs.State.{Record}
use Rattle.xom_model.specs.Event.{fits, on, open_in, told_in}

-- the statuses of an operation that was refused; 0 is done, and 8 stopped its guest
abbrev pub IsRefusalStatus : ℕ → Type 0
IsRefusalStatus status = (1 ≤ status) × (status ≤ 7)

-- a refused operation of a script leaves all but its status and the count of events
abbrev pub DoRefused : Type 0
DoRefused = (v : Versions) (r : Record) (op : Op) (bytes : List ℕ) → fits r (event.Do op) ≡ true
    → IsRefusalStatus (on v r (event.Do op) bytes).0.status
    → (on v r (event.Do op) bytes).0 ≡ record r {
      status = (on v r (event.Do op) bytes).0.status;
      events = r.events + 1;
    }

-- and one that an instruction of null code asks for, all but these and the null pair, which goes on
abbrev pub NullRefused : Type 0
NullRefused = (v : Versions) (r : Record) (op : Op) (bytes : List ℕ) → fits r event.Null ≡ true
    → (null_step (told_in r) (open_in r)).1 ≡ Ok (Some op)
    → IsRefusalStatus (on v r event.Null bytes).0.status
    → (on v r event.Null bytes).0
    ≡ record r {
      status = (on v r event.Null bytes).0.status;
      events = r.events + 1;
      pc =
          (null_step (told_in r) (open_in r)).0.pc;
      npc = (null_step (told_in r) (open_in r)).0.npc;
    }
