-- A debugger at work on a machine.
use Rattle.std.specs.Prelude.{◌≡◌, ℕ, ◌+◌, ◌≤◌, true, false, List, [], ◌∷◌, ◌++◌, length, map, drop, Option, Some, IfSome}
use Rattle.circular_buffer.specs.Buffer.{buffer, keep_last}
use Rattle.xom_base.specs.declared.event.Event.{Event}
use Rattle.xom_base.specs.declared.schedule.Schedule.{Schedule}
use Rattle.xom_versions.specs.Versions.{Versions}
use Rattle.xom_model.specs.declared.outcome.Turn.{Turn}
use Rattle.xom_model.specs.Event.{fits, on}
use Rattle.xom_model.specs.Seen.{View, view_of}
use Rattle.xom_model.specs.State.{Record}
use Rattle.xom_machine.specs.Runs.{IsNext, IsRun, Made, guest_events_in, guests_in}
use Rattle.xom_machine.specs.Whole.{WholeMachine}
use Rattle.xom_debug.specs.declared.command.Command.{Command}
use Rattle.xom_debug.specs.declared.session.Session.{Session}
use Rattle.xom_debug.specs.DebugTexts.{debug_text, kept_events, last_events, place, place_after_command, text_from}
use Rattle.xom_debug.specs.Moments.{Moment, has_left, is_run_over, moments, moments_from}

-- ---- What a debugger did, whatever its kernel is

-- The last record comes from the first by events, each of which may come where it does, in its
-- turn. The text is that of the commands over the moments of these events, whatever might come
-- behind them; behind the end of the run nothing comes.
pub record IsDebugged (schedule : Schedule) (v : Versions) (budget : ℕ) (commands : List Command)
    (first last : Record) (text : List ℕ) : Type 0 where
  pub events : List Made
  pub made : IsRun schedule v 0 first events last
  pub few : length events ≤ budget
  pub says : (rest : List Moment) → (is_run_over budget last ≡ true → rest ≡ [])
      → text ≡ debug_text commands (view_of first) (moments v first events ++ rest)

-- ---- At work

-- the events, without their bytes
abbrev pub events_in : List Made → List Event
events_in made = map (λ m. m.0) made

-- the last of these events are kept
abbrev pub HasNoted : List Event → Session → Type 0
HasNoted past s = s.last ≡ buffer (last_events past) kept_events

-- none of these events is one at which a guest leaves
abbrev pub Stays : Versions → Record → List Made → Type 0
Stays v r [] = Unit {0}
Stays v r (first ∷ events) =
    let next : Record = (on v r first.0 first.1).0 in
    (has_left first.0 (view_of next) ≡ false) × Stays v next events

module _ {K : Type 0} (told : K → View → Option (Turn × (List ℕ × K))) (schedule : Schedule)
    (v : Versions) where
  -- one event was made
  pub record Makes (s : Session) (m : WholeMachine) (k : K) (e : Event) (s' : Session) (m' : WholeMachine)
      (k' : K) : Type 0 where
    pub chunk : List ℕ
    pub going : m.state.halted ≡ false
    pub fits : fits m.state e ≡ true
    pub next : IsNext told schedule s.guests m.state k e chunk k'
    pub state : m'.state ≡ (on v m.state e chunk).0
    pub counted : m'.state.events ≡ m.state.events + 1
    pub guests : s'.guests ≡ s.guests + guests_in e
    pub last : s'.last ≡ buffer
        (keep_last s.last.capacity (s.last.items ++ record { number = m'.state.events; event = e }
        ∷ [])) s.last.capacity

  -- the moments of a run are those of these events, and behind them those that come later
  abbrev pub GoesOn : Record → List Made → Option (List Moment) → List Moment → Type 0
  GoesOn r events later run =
      (rest : List Moment) × (later ≡ Some rest) × (run ≡ moments v r events ++ rest)

  -- these events were made
  pub record Goes (s : Session) (m : WholeMachine) (k : K) (events : List Made) (s' : Session) (m' : WholeMachine)
      (k' : K) : Type 0 where
    pub made : IsRun schedule v s.guests m.state events m'.state
    pub counted : m'.state.events ≡ m.state.events + length events
    pub guests : s'.guests ≡ s.guests + guest_events_in events
    pub few : s.guests ≤ m.state.events → s'.guests ≤ m'.state.events
    pub noted : (past : List Event) → length past ≡ m.state.events → HasNoted past s
        → HasNoted (past ++ events_in events) s'
    -- where the kernel tells its turns, they are the first of the run that these make
    pub turns : (n more : ℕ) → n ≡ length events + more
        → IfSome (moments_from v told schedule n s.guests m.state k)
        (GoesOn m.state events (moments_from v told schedule more s'.guests m'.state k'))

  -- so many events were made, at most up to the end of the run
  pub record Gone (budget : ℕ) (s : Session) (m : WholeMachine) (k : K) (count : ℕ) (s' : Session)
      (m' : WholeMachine) (k' : K) : Type 0 where
    pub events : List Made
    pub goes : Goes s m k events s' m' k'
    pub all : length events ≡ count
    pub few : s'.guests ≤ m'.state.events
    pub within : m.state.events ≤ budget → m'.state.events ≤ budget
    pub still : is_run_over budget m.state ≡ true → events ≡ []

  -- the same, and no guest left
  pub record Stayed (budget : ℕ) (s : Session) (m : WholeMachine) (k : K) (count : ℕ) (s' : Session)
      (m' : WholeMachine) (k' : K) : Type 0 where
    pub gone : Gone budget s m k count s' m' k'
    pub stays : Stays v m.state gone.events

  -- a command made its events, behind which the debugger stands where the command leaves it
  pub record Advances (budget : ℕ) (c : Command) (s : Session) (m : WholeMachine) (k : K) (s' : Session)
      (m' : WholeMachine) (k' : K) : Type 0 where
    pub events : List Made
    pub goes : Goes s m k events s' m' k'
    pub within : m.state.events ≤ budget → m'.state.events ≤ budget
    pub still : is_run_over budget m.state ≡ true → events ≡ []
    pub moved : (past : List Event) (rest : List Moment)
        → (is_run_over budget m'.state ≡ true → rest ≡ [])
        → place_after_command c (place past (view_of m.state) (moments v m.state events ++ rest)) ≡ place
        (past ++ events_in events) (view_of m'.state) rest

  -- So many of the commands were carried out, and this was printed: with what the others print it
  -- is the text of all of them.
  pub record CarriedOut (budget : ℕ) (commands : List Command) (s : Session) (m : WholeMachine) (k : K)
      (count : ℕ) (s' : Session) (m' : WholeMachine) (k' : K) (text : List ℕ) : Type 0 where
    pub events : List Made
    pub goes : Goes s m k events s' m' k'
    pub few : s'.guests ≤ m'.state.events
    pub within : m'.state.events ≤ budget
    pub says : (rest : List Moment) → (is_run_over budget m'.state ≡ true → rest ≡ [])
        → text ++ text_from (drop count commands) (place (events_in events) (view_of m'.state) rest)
        ≡ debug_text commands (view_of m.state) (moments v m.state events ++ rest)

  -- all of them
  pub record Debugs (budget : ℕ) (commands : List Command) (m : WholeMachine) (k : K) (m' : WholeMachine) (k' : K)
      (text : List ℕ) : Type 0 where
    pub first : Session
    pub last : Session
    pub start : first.guests ≡ 0
    pub done : CarriedOut budget commands first m k (length commands) last m' k' text
