-- The commands of a debugger, a row each.
use Rattle.std.specs.Prelude.{◌≡◌, ℕ, ◌^◌, ◌≤◌, nat_le, if◌then◌else◌, List, [], ◌∷◌, codes, Option, Some, None, Result}
use Rattle.std.specs.Str.{bytes_eq}
use Rattle.text_lines.specs.Lines.{IsFirstBad, IsRows, LineStep, Rows, lines_of, rows_of, rows_step}
use Rattle.text_lines.specs.Numbers.{IsNumber, WritesBelow, number_below_of, number_of_word}
use Rattle.xom_base.specs.Options.{◌>>=◌}
use Rattle.xom_base.specs.Sizes.{compartment_count, register_places, slot_limit}
use Rattle.xom_debug.specs.declared.command.Command.{Command}
use Rattle.xom_debug.specs.declared.command.Command.TheVariants as command

-- the words write the command; a register is 1 to 33, a slot 1 to 16, and at most 64 bytes are
-- shown
abbrev pub IsCommand : List (List ℕ) → Command → Type 0
IsCommand words (command.Step count) =
    (n : List ℕ) × (words ≡ codes "step" ∷ n ∷ []) × IsNumber n count
IsCommand words command.UntilTrap = words ≡ codes "until" ∷ codes "trap" ∷ []
IsCommand words (command.Reg reg) =
    (r : List ℕ) × (words ≡ codes "reg" ∷ r ∷ []) × WritesBelow register_places r reg × (1 ≤ reg)
IsCommand words (command.Slot slot) =
    (s : List ℕ) × (words ≡ codes "slot" ∷ s ∷ [])
    × WritesBelow compartment_count s slot × (1 ≤ slot)
IsCommand words command.Last = words ≡ codes "last" ∷ []
IsCommand words (command.Ram address count) =
    (a n : List ℕ) × (words ≡ codes "ram" ∷ a ∷ n ∷ []) × WritesBelow (2 ^ 32) a address
    × WritesBelow 65 n count

-- the text is these commands: one a line, in their order, blank lines passed over
abbrev pub AreCommands : List ℕ → List Command → Type 0
AreCommands = IsRows IsCommand

-- the line of this number, counted from 1, is the first that is neither blank nor a command
abbrev pub IsBadCommandLine : List ℕ → ℕ → Type 0
IsBadCommandLine text bad = IsFirstBad (Rows IsCommand) tt 1 (lines_of text) bad

-- the ranges that a command keeps
abbrev pub CommandKeepsRules : Command → Type 0
CommandKeepsRules (command.Step count) = Unit {0}
CommandKeepsRules command.UntilTrap = Unit {0}
CommandKeepsRules (command.Reg reg) = (1 ≤ reg) × (reg ≤ 33)
CommandKeepsRules (command.Slot slot) = (1 ≤ slot) × (slot ≤ slot_limit)
CommandKeepsRules command.Last = Unit {0}
CommandKeepsRules (command.Ram address count) = count ≤ 64

-- ---- the same as a function, by the number of words

-- the command `step COUNT`
unfoldable pub step_command : List ℕ → Option Command
step_command count = do
  count ← number_of_word count
  Some (command.Step count)

-- the command `until trap`
unfoldable pub until_command : List ℕ → Option Command
until_command event = if bytes_eq event (codes "trap") then Some command.UntilTrap else None

-- the command `reg R`, of a register from 1 to 33
unfoldable pub reg_command : List ℕ → Option Command
reg_command reg = do
  reg ← number_below_of register_places reg
  if nat_le 1 reg then Some (command.Reg reg) else None

-- the command `slot S`, of a slot from 1 to 16
unfoldable pub slot_command : List ℕ → Option Command
slot_command slot = do
  slot ← number_below_of compartment_count slot
  if nat_le 1 slot then Some (command.Slot slot) else None

-- the command `ram ADDRESS COUNT`, of at most 64 bytes
unfoldable pub ram_command : List ℕ → List ℕ → Option Command
ram_command address count = do
  address ← number_below_of (2 ^ 32) address
  count ← number_below_of 65 count
  Some (command.Ram address count)

-- the command that has no word behind its name
unfoldable pub command_of_one : List ℕ → Option Command
command_of_one name = if bytes_eq name (codes "last") then Some command.Last else None

-- the commands with one word behind their name
unfoldable pub command_of_two : List ℕ → List ℕ → Option Command
command_of_two name a =
    if bytes_eq name (codes "step") then step_command a
    else (if bytes_eq name (codes "until") then until_command a
    else (if bytes_eq name (codes "reg") then reg_command a
    else (if bytes_eq name (codes "slot") then slot_command a else None)))

-- the command with two words behind its name
unfoldable pub command_of_three : List ℕ → List ℕ → List ℕ → Option Command
command_of_three name a b = if bytes_eq name (codes "ram") then ram_command a b else None

-- the command that words write, or none
unfoldable pub command_of : List (List ℕ) → Option Command
command_of (name ∷ []) = command_of_one name
command_of (name ∷ a ∷ []) = command_of_two name a
command_of (name ∷ a ∷ b ∷ []) = command_of_three name a b
command_of other = None

-- a line of a file of commands, as the loop over lines takes it
abbrev pub command_step : LineStep (Unit {0}) Command
command_step = rows_step command_of

-- the commands of a text, or the number of its first bad line
unfoldable pub commands_at : List ℕ → Result (List Command) ℕ
commands_at = rows_of command_of
