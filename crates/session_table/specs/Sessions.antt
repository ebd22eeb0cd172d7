-- What the processor keeps of each compartment. Place 0 stands for the null compartment, which has
-- no session; places 1 to 16 are the slots.
use Rattle.std.specs.Prelude.{ℕ, ◌+◌, ◌%◌, ◌^◌, Bool, true, false, List, Option, None, length, position, replicate, slice_index_or, slice_set, ◌≡◌}
use Rattle.xom_base.specs.declared.key.ImageId.{ImageId}
use Rattle.xom_base.specs.declared.key.Key256.{Key256}
use Rattle.xom_base.specs.Sizes.{compartment_count, id_size, key_size}
use Rattle.session_table.specs.declared.session.Session.{Session}
use Rattle.session_table.specs.declared.session.SlotState.{SlotState}
use Rattle.session_table.specs.declared.session.SlotState.TheVariants as state

-- the sessions, and the last install number given
pub record Sessions : Type 0 where
  pub list : List Session
  pub installs : ℕ

-- the session of a free slot
abbrev pub free : Session
free = record {
  install = 0;
  id = record { 0 = replicate id_size 0 };
  key =
      record { 0 = replicate key_size 0 };
  entry = 0;
  lines = 0;
  pc = 0;
  npc = 0;
  mask = 0;
  epoch =
      0;
  handler = 0;
  saved = None;
  state = state.Free;
}

-- no slot holds a guest
unfoldable pub none_held : List Session
none_held = replicate compartment_count free

-- the session of a slot; the free one where there is no such place
abbrev pub session_at : List Session → ℕ → Session
session_at sessions slot = slice_index_or sessions slot free

-- a slot is live where it holds a guest that may run on
abbrev pub is_live : SlotState → Bool
is_live state.Fresh = true
is_live state.Running = true
is_live state.Paused = true
is_live other = false

-- the slot's guest runs now
abbrev pub is_running : SlotState → Bool
is_running state.Running = true
is_running other = false

-- the least slot whose guest runs
abbrev pub running_in : List Session → Option ℕ
running_in sessions = position (λ s. is_running s.state) sessions

-- there is a place for each compartment, and none is held in the null one
pub record IsTable (sessions : List Session) : Type 0 where
  pub places : length sessions ≡ compartment_count
  pub null : session_at sessions 0 ≡ free

-- a guest that was just installed
abbrev pub fresh_session : ℕ → ImageId → Key256 → ℕ → ℕ → Session
fresh_session install id key entry lines =
    record free {
      install = install;
      id = id;
      key = key;
      entry = entry;
      lines = lines;
      state = state.Fresh;
    }

-- a guest that is started at its entry
abbrev pub session_after_enter : Session → Session
session_after_enter s = record s { pc = s.entry; npc = (s.entry + 4) % 2 ^ 32; state = state.Running }

-- a guest that goes on where it was
abbrev pub session_after_resume : Session → Session
session_after_resume s = record s { state = state.Running }

-- a guest that left and may come back: what was sealed under its old epoch is of no use any more
abbrev pub session_after_pause : Session → Session
session_after_pause s = record s { epoch = s.epoch + 1; state = state.Paused }

-- a guest under the next epoch: what was sealed under the old one is of no use any more
abbrev pub session_after_epoch : Session → Session
session_after_epoch s = record s { epoch = s.epoch + 1 }

-- the table with another session in a slot
abbrev pub with_session : Sessions → ℕ → Session → Sessions
with_session table slot session = record table { list = slice_set table.list slot session }

-- a guest that left for good
abbrev pub session_after_leaving : Session → SlotState → Session
session_after_leaving s final = record s { state = final }

-- a guest of the slot is live in these sessions
abbrev pub IsLiveIn : List Session → ℕ → Type 0
IsLiveIn sessions slot = is_live (session_at sessions slot).state ≡ true
