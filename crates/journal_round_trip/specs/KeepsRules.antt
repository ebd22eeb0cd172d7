-- What a journal's entries may say, and how installs are numbered. This project's own format.
use Rattle.std.specs.Prelude.{◌≡◌, ℕ, ◌+◌, ◌*◌, ◌^◌, ◌<◌, ◌≤◌, List, [], ◌∷◌, length}
use Rattle.hex.specs.Hex.{IsBytes}
use Rattle.sha2.specs.Sha256.{sha256}
use Rattle.xom_base.specs.declared.entry.Entry.{Entry}
use Rattle.xom_base.specs.declared.entry.Entry.TheVariants as entry
use Rattle.xom_base.specs.declared.event.Cause.{Cause}
use Rattle.xom_base.specs.declared.event.Cause.TheVariants as cause
use Rattle.xom_base.specs.declared.event.Rule.{Rule}
use Rattle.xom_base.specs.declared.event.Rule.TheVariants as rule
use Rattle.xom_base.specs.declared.step.Writes.{Writes}
use Rattle.xom_base.specs.declared.step.Writes.TheVariants as writes
use Rattle.xom_base.specs.declared.step.Stored.{Stored}
use Rattle.xom_base.specs.declared.step.Stored.TheVariants as stored
use Rattle.xom_base.specs.declared.step.Received.{Received}
use Rattle.xom_base.specs.declared.step.Received.TheVariants as received
use Rattle.xom_base.specs.declared.step.Released.{Released}
use Rattle.xom_base.specs.declared.step.Released.TheVariants as released
use Rattle.xom_base.specs.declared.step.StepEnd.{StepEnd}
use Rattle.xom_base.specs.declared.step.StepEnd.TheVariants as ended
use Rattle.xom_base.specs.declared.step.Step.{Step}
use Rattle.xom_base.specs.Sizes.{compartment_count, id_size, register_places}
use Rattle.journal_text.specs.JournalLines.{last_behind}

-- ---- steps

-- a number of 32 bits
abbrev pub Is32Bit : ℕ → Type 0
Is32Bit n = n < 2 ^ 32

-- a cell's number, 1 to 33, and its value
abbrev pub KeepsCell : ℕ → ℕ → Type 0
KeepsCell reg value = (1 ≤ reg) × (reg < register_places) × Is32Bit value

-- the cells that a step writes
abbrev pub KeepsWrites : Writes → Type 0
KeepsWrites writes.Nothing = Unit {0}
KeepsWrites (writes.One reg value) = KeepsCell reg value
KeepsWrites (writes.Pair hi lo) = Is32Bit hi × Is32Bit lo

-- the bytes that it stores: 1 to 4, and a value of no more than these
abbrev pub KeepsStored : Stored → Type 0
KeepsStored stored.Nothing = Unit {0}
KeepsStored (stored.Bytes address count value) =
    Is32Bit address × (1 ≤ count) × (count < 5) × (value < 2 ^ (8 * count))

-- what comes to the guest
abbrev pub KeepsReceived : Received → Type 0
KeepsReceived received.Nothing = Unit {0}
KeepsReceived (received.Cell value) = Is32Bit value
KeepsReceived (received.Null address value) = Is32Bit address × Is32Bit value
KeepsReceived (received.Signal n) = Is32Bit n

-- what it gives out
abbrev pub KeepsReleased : Released → Type 0
KeepsReleased released.Nothing = Unit {0}
KeepsReleased (released.Cell reg value) = KeepsCell reg value
KeepsReleased (released.Null address value) = Is32Bit address × Is32Bit value

-- how it ends
abbrev pub KeepsEnd : StepEnd → Type 0
KeepsEnd ended.Goes = Unit {0}
KeepsEnd (ended.Call code) = Is32Bit code
KeepsEnd ended.Exit = Unit {0}

-- all that a step says
abbrev pub KeepsStep : Step → Type 0
KeepsStep step =
    Is32Bit step.pc × Is32Bit step.npc × KeepsWrites step.writes × KeepsStored step.stored
    × KeepsReceived step.received × KeepsReleased step.released × KeepsEnd step.end

-- ---- entries

-- the line, level or register of a broken rule
abbrev pub KeepsRule : Rule → Type 0
KeepsRule (rule.LineTag n) = Is32Bit n
KeepsRule (rule.TreeNode n) = n < 2 ^ 8
KeepsRule (rule.RegisterTag n) = n < 2 ^ 8
KeepsRule (rule.RegisterMissing n) = n < 2 ^ 8

-- A trap is an interrupt, a call, a page that isn't mapped or a fault. An exit is the end of a
-- step, and a stop is an entry of its own.
abbrev pub KeepsCause : Cause → Type 0
KeepsCause cause.Nothing = ⊥
KeepsCause cause.Interrupt = Unit {0}
KeepsCause (cause.Call code) = Is32Bit code
KeepsCause (cause.Page page) = Is32Bit page
KeepsCause (cause.Fault kind) = Unit {0}
KeepsCause cause.Exit = ⊥
KeepsCause (cause.Stopped why) = ⊥

-- a key, a message or a preimage: at least one byte, and at most so many
abbrev pub KeepsPayload : ℕ → List ℕ → Type 0
KeepsPayload most bytes = IsBytes bytes × (1 ≤ length bytes) × (length bytes ≤ most)

-- the number of an install that came before: they count from 1, and the last is this
abbrev pub CameBefore : ℕ → ℕ → Type 0
CameBefore last n = (1 ≤ n) × (n ≤ last)

-- the entry may stand where the last install before it has this number, or 0 where there is none
abbrev pub KeepsEntry : ℕ → Entry → Type 0
KeepsEntry last (entry.Install n slot id place begin lines) =
    (n ≡ last + 1) × (n < 2 ^ 64) × (1 ≤ slot) × (slot < compartment_count)
    × IsBytes id.0 × (length id.0 ≡ id_size)
    × Is32Bit place × Is32Bit begin × Is32Bit lines
KeepsEntry last (entry.Step n step) = CameBefore last n × KeepsStep step
KeepsEntry last (entry.Trap n why) = CameBefore last n × KeepsCause why
KeepsEntry last (entry.Seal key message) = KeepsPayload 96 key × KeepsPayload 96 message
KeepsEntry last (entry.Accept key message place) =
    KeepsPayload 96 key × KeepsPayload 96 message × Is32Bit place
KeepsEntry last (entry.Hash preimage digest) =
    KeepsPayload 260 preimage × IsBytes digest × (length digest ≡ 32) × (digest ≡ sha256 preimage)
KeepsEntry last (entry.Stop n why) = CameBefore last n × KeepsRule why
KeepsEntry last (entry.Kill n) = CameBefore last n
KeepsEntry last (entry.Out byte) = byte < 256

-- ---- journals

-- each entry keeps the rules, where the last install before them has this number
abbrev pub KeepsRulesBehind : ℕ → List Entry → Type 0
KeepsRulesBehind last [] = Unit {0}
KeepsRulesBehind last (e ∷ entries) =
    KeepsEntry last e × KeepsRulesBehind (last_behind last e) entries

-- the entries of a whole journal keep the rules
abbrev pub KeepsJournalRules : List Entry → Type 0
KeepsJournalRules entries = KeepsRulesBehind 0 entries
