-- The fields of a recorded step as words of a line: what each word writes. Hexadecimal digits are
-- in either case, and numbers are those of all texts. This project's own format.
use Rattle.std.specs.Prelude.{◌≡◌, ℕ, ◌+◌, ◌-◌, ◌^◌, ◌==◌, ◌≤◌, nat_eq, if◌then◌else◌, List, [], ◌∷◌, ◌++◌, length, drop, replicate, codes, Option, Some, None, option_map}
use Rattle.std.specs.Int.{w32, from_be_bytes}
use Rattle.std.specs.List.{starts_with}
use Rattle.std.specs.Str.{bytes_eq}
use Rattle.text_lines.specs.Hex.{IsHex, hex_of}
use Rattle.text_lines.specs.Numbers.{WritesBelow as WritesNumber, count_below_of, number_below_of}
use Rattle.xom_base.specs.Options.{◌>>=◌}
use Rattle.text_lines.specs.Words.{cut_of}
use Rattle.xom_base.specs.Sizes.{register_places}
use Rattle.xom_base.specs.declared.event.OwnFault.{OwnFault}
use Rattle.xom_base.specs.declared.event.OwnFault.TheVariants as fault
use Rattle.xom_base.specs.declared.step.Writes.{Writes}
use Rattle.xom_base.specs.declared.step.Writes.TheVariants as writes
use Rattle.xom_base.specs.declared.step.Stored.{Stored}
use Rattle.xom_base.specs.declared.step.Stored.TheVariants as stored
use Rattle.xom_base.specs.declared.step.Received.{Received}
use Rattle.xom_base.specs.declared.step.Received.TheVariants as received
use Rattle.xom_base.specs.declared.step.Released.{Released}
use Rattle.xom_base.specs.declared.step.Released.TheVariants as released
use Rattle.xom_base.specs.declared.step.StepEnd.{StepEnd}
use Rattle.xom_base.specs.declared.step.StepEnd.TheVariants as ended
use Rattle.xom_base.specs.declared.step.Step.{Step}
use Rattle.step_text.specs.declared.reading.CellOrPair.{CellOrPair}
use Rattle.step_text.specs.declared.reading.CellOrPair.TheVariants as form
use Rattle.step_text.specs.StepTexts.{own_fault_text}

-- HEX8: eight hexadecimal digits, the high byte first
abbrev pub IsHex8 : List ℕ → ℕ → Type 0
IsHex8 word n = (bytes : List ℕ) × IsHex 4 word bytes × (n ≡ from_be_bytes w32 bytes)

-- a name and HEX8 behind it
abbrev pub IsNamedHex8 : List ℕ → List ℕ → ℕ → Type 0
IsNamedHex8 name word n = (v : List ℕ) × (word ≡ name ++ v) × IsHex8 v n

-- a name and a number of 32 bits behind it
abbrev pub IsNamedNumber : List ℕ → List ℕ → ℕ → Type 0
IsNamedNumber name word n = (v : List ℕ) × (word ≡ name ++ v) × WritesNumber (2 ^ 32) v n

-- a name and `HEX8:HEX8` behind it
abbrev pub IsNamedPair : List ℕ → List ℕ → ℕ → ℕ → Type 0
IsNamedPair name word first second =
    (a b : List ℕ) × (word ≡ name ++ (a ++ (codes ":" ++ b))) × IsHex8 a first × IsHex8 b second

-- `rN=HEX8`: a cell by its number, 1 to 33, and its value
abbrev pub IsCell : List ℕ → ℕ → ℕ → Type 0
IsCell word reg value =
    (n v : List ℕ) × (word ≡ codes "r" ++ (n ++ (codes "=" ++ v)))
    × WritesNumber register_places n reg × (1 ≤ reg) × IsHex8 v value

-- WRITES; HI and LO alone are cells 32 and 33
abbrev pub IsWrites : List ℕ → Writes → Type 0
IsWrites word writes.Nothing = word ≡ codes "-"
IsWrites word (writes.One reg value) = IsCell word reg value
IsWrites word (writes.Pair hi lo) = IsNamedPair (codes "hl=") word hi lo

-- four bytes at most as one number, the high one first
abbrev pub number_of_bytes : ℕ → List ℕ → ℕ
number_of_bytes count bytes = from_be_bytes w32 (replicate (4 - count) 0 ++ bytes)

-- STORED: `HEX8+COUNT=HEX` with 1 to 4 bytes
abbrev pub IsStored : List ℕ → Stored → Type 0
IsStored word stored.Nothing = word ≡ codes "-"
IsStored word (stored.Bytes address count value) =
    (a c h bytes : List ℕ) × (word ≡ a ++ (codes "+" ++ (c ++ (codes "=" ++ h))))
    × IsHex8 a address × WritesNumber 5 c count × (1 ≤ count) × IsHex count h bytes
    × (value ≡ number_of_bytes count bytes)

-- RECEIVED
abbrev pub IsReceivedWord : List ℕ → Received → Type 0
IsReceivedWord word received.Nothing = word ≡ codes "-"
IsReceivedWord word (received.Cell value) = IsNamedHex8 (codes "cell=") word value
IsReceivedWord word (received.Null address value) = IsNamedPair (codes "null=") word address value
IsReceivedWord word (received.Signal n) = IsNamedNumber (codes "signal=") word n

-- RELEASED
abbrev pub IsReleased : List ℕ → Released → Type 0
IsReleased word released.Nothing = word ≡ codes "-"
IsReleased word (released.Cell reg value) = IsCell word reg value
IsReleased word (released.Null address value) = IsNamedPair (codes "null=") word address value

-- END
abbrev pub IsEnd : List ℕ → StepEnd → Type 0
IsEnd word ended.Goes = word ≡ codes "goes"
IsEnd word (ended.Call code) = IsNamedNumber (codes "call=") word code
IsEnd word ended.Exit = word ≡ codes "exit"

-- the words PC NPC WRITES STORED RECEIVED RELEASED END of a step
abbrev pub IsStep : List (List ℕ) → Step → Type 0
IsStep words step =
    (pc npc w s g r e : List ℕ) × (words ≡ pc ∷ npc ∷ w ∷ s ∷ g ∷ r ∷ e ∷ [])
    × IsHex8 pc step.pc × IsHex8 npc step.npc × IsWrites w step.writes × IsStored s step.stored
    × IsReceivedWord g step.received × IsReleased r step.released × IsEnd e step.end

-- KIND of a guest's own fault
abbrev pub IsFault : List ℕ → OwnFault → Type 0
IsFault word kind = word ≡ own_fault_text kind

-- ---- the same as functions, of a word its value or none

-- the number of eight hexadecimal digits
unfoldable pub hex8_of : List ℕ → Option ℕ
hex8_of word = option_map (from_be_bytes w32) (hex_of 4 word)

-- what stands behind a name
unfoldable pub text_after_name : List ℕ → List ℕ → Option (List ℕ)
text_after_name name word = if starts_with nat_eq word name then Some (drop (length name) word) else None

-- the number of eight hexadecimal digits behind a name
unfoldable pub named_hex8_of : List ℕ → List ℕ → Option ℕ
named_hex8_of name word = text_after_name name word >>= hex8_of

-- the number of 32 bits behind a name
unfoldable pub named_number_of : List ℕ → List ℕ → Option ℕ
named_number_of name word = text_after_name name word >>= number_below_of (2 ^ 32)

-- two words of eight digits, with a byte between them
unfoldable pub pair_of : List ℕ → Option (ℕ × ℕ)
pair_of word = do
  parts ← cut_of 58 word
  first ← hex8_of parts.0
  second ← hex8_of parts.1
  Some (first, second)

-- two numbers of eight hexadecimal digits each behind a name
unfoldable pub named_pair_of : List ℕ → List ℕ → Option (ℕ × ℕ)
named_pair_of name word = text_after_name name word >>= pair_of

-- a register and its value: `rN=HEX8`
unfoldable pub cell_of : List ℕ → Option (ℕ × ℕ)
cell_of word = do
  rest ← text_after_name (codes "r") word
  parts ← cut_of 61 rest
  reg ← count_below_of register_places parts.0
  value ← hex8_of parts.1
  Some (reg, value)

-- the first of two values that is there
abbrev pub or_else : {A : Type 0} → Option A → Option A → Option A
or_else (Some x) other = Some x
or_else None other = other

-- the form of WRITES and of RELEASED: `-`, a cell, or two values behind a name
unfoldable pub cell_or_pair_of : List ℕ → List ℕ → Option CellOrPair
cell_or_pair_of name word =
    if bytes_eq word (codes "-") then Some form.Nothing
    else or_else
    (option_map (λ cell. form.Cell cell.0 cell.1) (cell_of word))
    (option_map (λ pair. form.Pair pair.0 pair.1) (named_pair_of name word))

-- what the form says as WRITES
abbrev pub writes_by : CellOrPair → Writes
writes_by form.Nothing = writes.Nothing
writes_by (form.Cell reg value) = writes.One reg value
writes_by (form.Pair first second) = writes.Pair first second

-- what the form says as RELEASED
abbrev pub released_by : CellOrPair → Released
released_by form.Nothing = released.Nothing
released_by (form.Cell reg value) = released.Cell reg value
released_by (form.Pair first second) = released.Null first second

-- what a step wrote: WRITES
unfoldable pub writes_of : List ℕ → Option Writes
writes_of word = option_map writes_by (cell_or_pair_of (codes "hl=") word)

-- the stored bytes, behind their address
unfoldable pub bytes_at_of : ℕ → List ℕ → Option Stored
bytes_at_of address word = do
  parts ← cut_of 61 word
  count ← count_below_of 5 parts.0
  bytes ← hex_of count parts.1
  Some (stored.Bytes address count (number_of_bytes count bytes))

-- bytes stored at an address: `HEX8+COUNT=HEX`
unfoldable pub stored_bytes_of : List ℕ → Option Stored
stored_bytes_of word = do
  parts ← cut_of 43 word
  address ← hex8_of parts.0
  bytes_at_of address parts.1

-- what a step stored: STORED
unfoldable pub stored_of : List ℕ → Option Stored
stored_of word = if bytes_eq word (codes "-") then Some stored.Nothing else stored_bytes_of word

-- what a step received: RECEIVED
unfoldable pub received_word : List ℕ → Option Received
received_word word =
    if bytes_eq word (codes "-") then Some received.Nothing
    else or_else
    (option_map received.Cell (named_hex8_of (codes "cell=") word))
    (or_else
    (option_map (λ pair. received.Null pair.0 pair.1) (named_pair_of (codes "null=") word))
    (option_map received.Signal (named_number_of (codes "signal=") word)))

-- what a step released: RELEASED
unfoldable pub released_of : List ℕ → Option Released
released_of word = option_map released_by (cell_or_pair_of (codes "null=") word)

-- how a step ended: END
unfoldable pub end_of_word : List ℕ → Option StepEnd
end_of_word word =
    if bytes_eq word (codes "goes") then Some ended.Goes
    else (if bytes_eq word (codes "exit") then Some ended.Exit
    else option_map ended.Call (named_number_of (codes "call=") word))

-- a step, of its words PC NPC WRITES STORED RECEIVED RELEASED END
unfoldable pub step_of_words : List (List ℕ) → Option Step
step_of_words (pc ∷ npc ∷ w ∷ s ∷ g ∷ r ∷ e ∷ []) = do
  pc ← hex8_of pc
  npc ← hex8_of npc
  writes ← writes_of w
  stored ← stored_of s
  received ← received_word g
  released ← released_of r
  end ← end_of_word e
  Some (record {
    pc = pc;
    npc = npc;
    writes = writes;
    stored = stored;
    received =
        received;
    released = released;
    end = end;
  })
step_of_words other = None

-- a guest's own fault, by its name
unfoldable pub fault_of : List ℕ → Option OwnFault
fault_of word =
    if bytes_eq word (codes "Reserved") then Some fault.Reserved
    else (if bytes_eq word (codes "Foreign") then Some fault.Foreign
    else (if bytes_eq word (codes "Overflow") then Some fault.Overflow
    else (if bytes_eq word (codes "Address") then Some fault.Address
    else (if bytes_eq word (codes "Break") then Some fault.Break else None))))
