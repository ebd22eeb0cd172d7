-- A machine's journal and the rules of its text: what holds at power-on, what each event keeps, and
-- what follows for whole runs.
use Rattle.std.specs.Prelude.{◌≡◌, ℕ, ◌^◌, ◌≤◌, List, [], All, Some, IfSome, length}
use Rattle.hex.specs.Hex.{IsBytes}
use Rattle.xom_base.specs.declared.event.Event.{Event}
use Rattle.xom_base.specs.declared.event.Event.TheVariants as event
use Rattle.xom_base.specs.declared.key.Key256.{Key256}
use Rattle.xom_base.specs.declared.schedule.Poke.{Poke}
use Rattle.xom_base.specs.declared.schedule.Schedule.{Schedule}
use Rattle.journal_text.specs.JournalTexts.{journal_text}
use Rattle.journal_text.specs.Readings.{IsJournal}
use Rattle.journal_round_trip.specs.KeepsRules.{KeepsJournalRules, KeepsPayload}
use Rattle.xom_versions.specs.Versions.{VersionLaw, Versions}
use Rattle.xom_model.specs.Versions.{StandsFor}
use Rattle.xom_model.specs.State.{Record, power_on}
use Rattle.xom_model.specs.Event.{on}
use Rattle.xom_model.specs.Honest.{IsBounded}
use Rattle.xom_model.specs.Seen.{View}
use Rattle.xom_model.specs.Run.{event_of, run_from}
use Rattle.xom_model.specs.Sequence.{Teller, after_all}
use Rattle.journal_laws.specs.RulesOfRecord.{StoresKeepRules, IsShortOp, RecordKeepsRules}

-- the numbers of an event's operation are short
abbrev pub IsShortEvent : Event → Type 0
IsShortEvent (event.Do op) = IsShortOp op
IsShortEvent (event.Guest interrupt) = Unit {0}
IsShortEvent event.Null = Unit {0}
IsShortEvent (event.Write address count) = Unit {0}
IsShortEvent (event.Poke address count) = Unit {0}

-- an event with its chunk, whose bytes are bytes
abbrev pub IsPlainEvent : Event × List ℕ → Type 0
IsPlainEvent each = IsShortEvent each.0 × IsBytes each.1

-- What a machine is begun with: a key of bytes, and RAM of bytes whose addresses have 32 bits.
pub record IsPlainStart (machine : Key256) (ram : List ℕ) : Type 0 where
  pub key : KeepsPayload 96 machine.0
  pub bytes : IsBytes ram
  pub size : length ram ≤ 2 ^ 32

-- the rules hold at power-on
abbrev pub StartKeepsRules : Versions → Type 0
StartKeepsRules v = StoresKeepRules v → (machine : Key256) (boot : ℕ) (ram : List ℕ) (pc : ℕ)
    → IsPlainStart machine ram → RecordKeepsRules (power_on v machine boot ram pc)

-- and each event keeps them, whether it fits or not, and whether the journal is honest or not
abbrev pub EventsKeepRules : Versions → StandsFor → Type 0
EventsKeepRules v Stands = VersionLaw v Stands → StoresKeepRules v
    → (r : Record) (e : Event) (bytes : List ℕ) → IsPlainEvent (e, bytes) → IsBounded r.core.entries
    → RecordKeepsRules r → RecordKeepsRules (on v r e bytes).0

-- the journal of a run keeps the rules of its text, whatever the events
abbrev pub JournalsKeepRules : Versions → StandsFor → Type 0
JournalsKeepRules v Stands = VersionLaw v Stands → StoresKeepRules v
    → (machine : Key256) (boot : ℕ) (ram : List ℕ) (pc : ℕ) → IsPlainStart machine ram
    → (events : List (Event × List ℕ)) → All IsPlainEvent events
    → IsBounded (after_all v (power_on v machine boot ram pc) events).core.entries
    → KeepsJournalRules (after_all v (power_on v machine boot ram pc) events).core.entries

-- and the text that is printed of it is a journal of the same entries
abbrev pub JournalsAreReadAgain : Versions → StandsFor → Type 0
JournalsAreReadAgain v Stands = VersionLaw v Stands → StoresKeepRules v
    → (machine : Key256) (boot : ℕ) (ram : List ℕ) (pc : ℕ) → IsPlainStart machine ram
    → (events : List (Event × List ℕ)) → All IsPlainEvent events
    → IsBounded (after_all v (power_on v machine boot ram pc) events).core.entries
    → IsJournal (journal_text (after_all v (power_on v machine boot ram pc) events).core.entries)
    (after_all v (power_on v machine boot ram pc) events).core.entries

-- ---- Runs under a kernel

-- each turn that the kernel tells has short numbers, and a chunk of bytes
abbrev pub TellsPlainly : Teller → Type 0
TellsPlainly told =
    (views : List View) (view : View)
    → IfSome (told views view) (λ answer. IsPlainEvent (event_of answer.0, answer.1.0))

-- a write of the bus has bytes
abbrev pub IsPlainPoke : Poke → Type 0
IsPlainPoke poke = IsBytes poke.bytes

-- what a run under such a kernel and such writes of the bus has recorded is read again from its
-- print
abbrev pub KernelsAreReadAgain : Versions → StandsFor → Type 0
KernelsAreReadAgain v Stands = VersionLaw v Stands → StoresKeepRules v
    → (machine : Key256) (boot : ℕ) (ram : List ℕ) (pc : ℕ) → IsPlainStart machine ram
    → (told : Teller) → TellsPlainly told → (schedule : Schedule) → All IsPlainPoke schedule.pokes
    → (n : ℕ) (last : Record)
    → run_from v told schedule n 0 (power_on v machine boot ram pc) [] ≡ Some last
    → IsBounded last.core.entries
    → IsJournal (journal_text last.core.entries) last.core.entries
