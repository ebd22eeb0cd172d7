-- The words after the program's name, as a row of the table of commands.
use Rattle.std.specs.Prelude.{ℕ, ◌+◌, ◌^◌, List, [], ◌∷◌, Option, Some, None, codes, option_map, if◌then◌else◌}
use Rattle.std.specs.Str.{bytes_eq}
use Rattle.text_lines.specs.Hex.{hex_of}
use Rattle.text_lines.specs.Numbers.{number_below_of}
use Rattle.xom_base.specs.declared.key.ImageId.{ImageId}
use Rattle.xom_base.specs.declared.key.Key256.{Key256}
use Rattle.xom_base.specs.Options.{◌>>=◌}
use Rattle.xom_base.specs.Sizes.{id_size, key_size}

-- a command with what its words say
pub data Row : Type 0 where
  -- assembles a source, and writes its plain image
  Asm : (source : List ℕ) → (image : List ℕ) → Row
  -- prints the words of a plain image
  Disasm : (image : List ℕ) → Row
  -- runs a plain image alone, for at most so many steps, with a received file where one is named
  Plain : (image : List ℕ) → (steps : ℕ) → (received : Option (List ℕ)) → Row
  -- seals a plain image under an owner's key and id for a machine, and writes it
  Seal : (image : List ℕ) → (key : Key256) → (id : ImageId) → (machine : Key256) → (sealed : List ℕ)
      → Row
  -- makes the run of a run file, and prints its console
  Run : (run : List ℕ) → Row
  -- makes the run of a run file, prints its console and the judgement of its journal, and writes
  -- the journal where a file is named
  Trace : (run : List ℕ) → (journal : Option (List ℕ)) → Row
  -- judges a journal by the owners of a run file, and prints the report
  Judge : (run : List ℕ) → (journal : List ℕ) → Row
  -- makes the run of a run file under the commands of a debugger, and prints what they print
  Debug : (run : List ℕ) → (commands : List ℕ) → Row

-- at most so many steps are asked for
abbrev pub most_steps : ℕ
most_steps = 2 ^ 20

-- the row of `plain`, where the word for the steps is such a number
abbrev pub plain_row : List ℕ → List ℕ → Option (List ℕ) → Option Row
plain_row image steps received =
    option_map (λ n. Plain image n received) (number_below_of (most_steps + 1) steps)

-- the row of `seal`, where the words for its keys and its id are their digits
unfoldable pub seal_row : List ℕ → List ℕ → List ℕ → List ℕ → List ℕ → Option Row
seal_row image key id machine sealed = do
  key ← hex_of key_size key
  id ← hex_of id_size id
  machine ← hex_of key_size machine
  Some (Seal image (record { 0 = key }) (record { 0 = id }) (record { 0 = machine }) sealed)

-- the row of a command with one word behind it
abbrev pub row_of_one : List ℕ → List ℕ → Option Row
row_of_one command a =
    if bytes_eq command (codes "disasm") then Some (Disasm a)
    else (if bytes_eq command (codes "run") then Some (Run a)
    else (if bytes_eq command (codes "trace") then Some (Trace a None) else None))

-- the row of a command with two words behind it
abbrev pub row_of_two : List ℕ → List ℕ → List ℕ → Option Row
row_of_two command a b =
    if bytes_eq command (codes "asm") then Some (Asm a b)
    else (if bytes_eq command (codes "plain") then plain_row a b None
    else (if bytes_eq command (codes "trace") then Some (Trace a (Some b))
    else (if bytes_eq command (codes "judge") then Some (Judge a b)
    else (if bytes_eq command (codes "debug") then Some (Debug a b) else None))))

-- the row of a command with three words behind it
abbrev pub row_of_three : List ℕ → List ℕ → List ℕ → List ℕ → Option Row
row_of_three command a b c =
    if bytes_eq command (codes "plain") then plain_row a b (Some c) else None

-- the row of a command with five words behind it
abbrev pub row_of_five : List ℕ → List ℕ → List ℕ → List ℕ → List ℕ → List ℕ → Option Row
row_of_five command a b c d e = if bytes_eq command (codes "seal") then seal_row a b c d e else None

-- the row that the words match, or none
abbrev pub row_of_words : List (List ℕ) → Option Row
row_of_words (command ∷ a ∷ []) = row_of_one command a
row_of_words (command ∷ a ∷ b ∷ []) = row_of_two command a b
row_of_words (command ∷ a ∷ b ∷ c ∷ []) = row_of_three command a b c
row_of_words (command ∷ a ∷ b ∷ c ∷ d ∷ e ∷ []) = row_of_five command a b c d e
row_of_words other = None

-- the file that a row's command writes, if it writes one
abbrev pub target_of : Row → Option (List ℕ)
target_of (Asm source image) = Some image
target_of (Disasm image) = None
target_of (Plain image steps received) = None
target_of (Seal image key id machine sealed) = Some sealed
target_of (Run run) = None
target_of (Trace run journal) = journal
target_of (Judge run journal) = None
target_of (Debug run commands) = None
