-- What an event emits: all that leaves the processor with it and isn't a function of what is seen
-- of the machine. It is read off the entries that the event added.
use Rattle.std.specs.Prelude.{ℕ, ◌==◌, ◌&&◌, Bool, List, ◌++◌, Option, Some, None, Result, Ok, Err, drop, take, length, position, unwrap_or, if◌then◌else◌}
use Rattle.std.specs.Int.{w32, from_be_bytes}
use Rattle.std.specs.List.{filter_map}
use Rattle.xom_base.specs.declared.entry.Entry.{Entry}
use Rattle.xom_base.specs.declared.entry.Entry.TheVariants as entry
use Rattle.xom_base.specs.declared.event.Event.{Event}
use Rattle.xom_base.specs.declared.event.Event.TheVariants as event
use Rattle.xom_base.specs.declared.event.OwnFault.{OwnFault}
use Rattle.xom_base.specs.declared.event.Rule.{Rule}
use Rattle.xom_base.specs.declared.step.Released.{Released}
use Rattle.xom_base.specs.declared.step.StepEnd.{StepEnd}
use Rattle.xom_base.specs.declared.step.Writes.{Writes}
use Rattle.xom_base.specs.declared.step.Writes.TheVariants as writes
use Rattle.keyed_mac.specs.Hmac.{hmac_sha256}
use Rattle.xom_seal.specs.Readers.{image_line_kind, kind_of_text, register_kind, register_of_message}
use Rattle.mips_effect.specs.declared.effects.Effect.{Effect}
use Rattle.mips_plain.specs.Instruction.{is_code, is_signal_ready}
use Rattle.line_cache.specs.Ways.{place_for, way_at}
use Rattle.session_table.specs.declared.session.Session.{Session}
use Rattle.session_table.specs.Sessions.{is_live, session_at}
use Rattle.xom_versions.specs.Versions.{Versions}
use Rattle.xom_model.specs.declared.outcome.Outcome.{Outcome}
use Rattle.xom_model.specs.declared.reach.Reach.{Reach}
use Rattle.xom_model.specs.declared.reach.Reach.TheVariants as reach
use Rattle.xom_model.specs.State.{CoreState, Record, line_of_address, session_of}
use Rattle.xom_model.specs.Access.{access}
use Rattle.xom_model.specs.Guest.{address_in, word_in, word_tried}
use Rattle.xom_model.specs.Touched.{slot_of_event, slot_or_none}

-- the names of the cells that a step wrote, without their values
pub data Names : Type 0 where
  NoCell Halves : Names
  OneCell : ℕ → Names

-- the names of the cells that were written
abbrev pub names_of : Writes → Names
names_of writes.Nothing = NoCell
names_of (writes.One reg value) = OneCell reg
names_of (writes.Pair hi lo) = Halves

-- what one entry of the journal gives away
pub data Signal : Type 0 where
  -- a step: the names of the cells that it wrote, what it released, how it ended, and whether its
  -- slot is signal-ready after the event
  Made : Names → Released → StepEnd → Bool → Signal
  -- a line was sealed: slot, line, ciphertext and tag
  LineSealed : ℕ → ℕ → List ℕ → List ℕ → Signal
  -- a register was: slot, register, ciphertext and tag
  RegisterSealed : ℕ → ℕ → List ℕ → List ℕ → Signal
  -- a guest was stopped: slot and rule
  Broke : ℕ → Rule → Signal

-- what an event emits
pub record Emission : Type 0 where
  pub status : ℕ
  pub outcome : Outcome
  pub signals : List Signal

-- ---- One entry. Sessions are those before the event.

-- a line of a slot's guest
pub record SlotLine : Type 0 where
  pub slot : ℕ
  pub line : ℕ

-- What stands in the message of a line from its number on: behind kind and id where it is a line of
-- an image, and else behind kind, boot and install.
abbrev pub message_from_line : Session → List ℕ → List ℕ
message_from_line s message =
    if kind_of_text message == image_line_kind then drop (length s.id.0) (drop 1 message)
    else drop 17 message

-- its ciphertext: behind the number of the line, or behind that and the version
abbrev pub ct_of_line_message : Session → List ℕ → List ℕ
ct_of_line_message s message =
    if kind_of_text message == image_line_kind then drop 4 (message_from_line s message)
    else drop 12 (message_from_line s message)

-- that of the message of a register: behind kind, boot, install, epoch and register
abbrev pub ct_of_register_message : List ℕ → List ℕ
ct_of_register_message message = drop 26 message

-- the live slot whose guest has this install number
abbrev pub slot_of_install : List Session → ℕ → ℕ
slot_of_install sessions install =
    slot_or_none
    (position (λ (s : Session). is_live s.state && (s.install == install)) sessions)

-- of an event that runs or names this slot, and leaves it ready for a signal or not; which line is
-- sealed with a message
module _ (sessions : List Session) (slot : ℕ) (ready : Bool) (sealed : List ℕ → SlotLine) where
  -- a sealed line: its slot and number, its ciphertext, and its tag
  abbrev pub signal_of_line : List ℕ → List ℕ → SlotLine → Signal
  signal_of_line key message its =
      LineSealed its.slot its.line (ct_of_line_message (session_at sessions its.slot) message)
      (hmac_sha256 key message)

  -- an event that seals a register names its slot
  abbrev pub signal_of_register : List ℕ → List ℕ → Signal
  signal_of_register key message =
      RegisterSealed slot (register_of_message message) (ct_of_register_message message)
      (hmac_sha256 key message)

  -- a step, a Seal and a Stop give one signal, the other entries none
  abbrev pub signal_of_entry : Entry → Option Signal
  signal_of_entry (entry.Install install k id place start lines) = None
  signal_of_entry (entry.Step install step) =
      Some (Made (names_of step.writes) step.released step.end ready)
  signal_of_entry (entry.Trap install why) = None
  signal_of_entry (entry.Seal key message) =
      Some (if kind_of_text message == register_kind then signal_of_register key message
      else signal_of_line key message (sealed message))
  signal_of_entry (entry.Accept key message place) = None
  signal_of_entry (entry.Hash preimage digest) = None
  signal_of_entry (entry.Stop install why) = Some (Broke (slot_of_install sessions install) why)
  signal_of_entry (entry.Kill install) = None
  signal_of_entry (entry.Out byte) = None

  -- the signals of a list of entries, in their order
  abbrev pub signals_of_entries : List Entry → List Signal
  signals_of_entries entries = filter_map signal_of_entry entries

-- ---- Which line is sealed

-- an operation seals lines of the slot that it names, and their messages have their numbers
abbrev pub line_named : List Session → ℕ → List ℕ → SlotLine
line_named sessions slot message = record {
  slot = slot;
  line = from_be_bytes w32 (take 4 (message_from_line (session_at sessions slot) message));
}

-- an access of a guest seals the line that it pushes out of the cache: the one that stands in the
-- place of the new line
abbrev pub line_pushed_out : CoreState → ℕ → SlotLine
line_pushed_out core line =
    let way = way_at core.ways (place_for core.ways core.pointers line) in
    record { slot = way.slot; line = way.line }

-- ---- Events

-- the guest takes signals: it has a handler and is in none
abbrev pub is_ready : Session → Bool
is_ready s = is_signal_ready s.handler s.saved

-- the signals of an event but a guest's
abbrev pub signals_of_others : CoreState → ℕ → CoreState → List Signal
signals_of_others core slot new =
    signals_of_entries core.sessions slot (is_ready (session_of new slot))
    (line_named core.sessions slot) (drop (length core.entries) new.entries)

-- the line of a guest's instruction
abbrev pub code_line : CoreState → ℕ → ℕ
code_line core slot = line_of_address (session_of core slot).pc

-- the address that an instruction reads or writes; where there is none, nothing is brought in
abbrev pub data_address : Result Effect OwnFault → Option ℕ
data_address (Ok effect) = address_in effect.wish
data_address (Err why) = None

module _ (v : Versions) where
  -- the core after the fetch of a guest's event
  abbrev pub core_after_fetch : CoreState → ℕ → CoreState
  core_after_fetch core slot =
      if is_code (session_of core slot).pc then (access v core slot (code_line core slot)).0 else core

  -- the line of the data that the instruction reads or writes
  abbrev pub data_line : ℕ → CoreState × Reach → ℕ
  data_line slot (core, reach.Ready place) =
      line_of_address
      (unwrap_or (data_address (word_tried v core slot
      (word_in (way_at core.ways place).bytes (session_of core slot).pc))) 0)
  data_line slot (core, reach.PageFault page) = 0
  data_line slot (core, reach.Stopped why) = 0

  -- a guest's event: the entries of its fetch, and those that came behind
  abbrev pub signals_of_guest : CoreState → ℕ → CoreState → List Signal
  signals_of_guest core slot new =
      let fetched = core_after_fetch core slot in
      let ready = is_ready (session_of new slot) in
      signals_of_entries core.sessions slot ready
      (λ message. line_pushed_out core (code_line core slot))
      (drop (length core.entries) fetched.entries)
      ++ signals_of_entries core.sessions slot ready
      (λ message. line_pushed_out fetched
      (data_line slot (access v core slot (code_line core slot))))
      (drop (length fetched.entries) new.entries)

  -- the signals of an event that made this record of the one before
  abbrev pub signals_of_event : Record → Event → Record → List Signal
  signals_of_event r (event.Guest interrupt) new =
      signals_of_guest r.core (slot_of_event r (event.Guest interrupt)) new.core
  signals_of_event r (event.Do op) new =
      signals_of_others r.core (slot_of_event r (event.Do op)) new.core
  signals_of_event r event.Null new =
      signals_of_others r.core (slot_of_event r event.Null) new.core
  signals_of_event r (event.Write address count) new =
      signals_of_others r.core (slot_of_event r (event.Write address count)) new.core
  signals_of_event r (event.Poke address count) new =
      signals_of_others r.core (slot_of_event r (event.Poke address count)) new.core

  -- what an event emits that made this record of the one before, with this outcome
  abbrev pub emission_of_event : Record → Event → Record → Outcome → Emission
  emission_of_event r e new what =
      record { status = new.status; outcome = what; signals = signals_of_event r e new }
