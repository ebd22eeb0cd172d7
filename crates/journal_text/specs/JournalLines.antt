-- The lines of a journal's text: one entry a line, with a rule on the install numbers of the lines
-- before. This project's own format.
use Rattle.std.specs.Prelude.{◌≡◌, ℕ, ◌+◌, ◌^◌, ◌<◌, ◌≤◌, ◌==◌, ◌&&◌, nat_le, if◌then◌else◌, List, [], ◌∷◌, length, codes, Option, Some, None, option_map}
use Rattle.std.specs.Str.{bytes_eq}
use Rattle.sha2.specs.Sha256.{sha256}
use Rattle.step_text.specs.StepFields.{IsFault, IsStep, fault_of, step_of_words}
use Rattle.text_lines.specs.Hex.{IsHex, WritesHex, hex_of, hex_within}
use Rattle.text_lines.specs.Lines.{Format, LineStep, OfWords, step_by_words as line_step_of}
use Rattle.text_lines.specs.Numbers.{IsDecimal, WritesBelow, WritesDecimal, decimal_below_of, number_below_of, numeral_of, count_below_of}
use Rattle.xom_base.specs.Options.{◌>>=◌}
use Rattle.xom_base.specs.Sizes.{compartment_count, id_size}
use Rattle.xom_base.specs.declared.entry.Entry.{Entry}
use Rattle.xom_base.specs.declared.entry.Entry.TheVariants as entry
use Rattle.xom_base.specs.declared.event.Cause.{Cause}
use Rattle.xom_base.specs.declared.event.Cause.TheVariants as cause
use Rattle.xom_base.specs.declared.event.Rule.{Rule}
use Rattle.xom_base.specs.declared.event.Rule.TheVariants as rule

-- ---- the grammar

-- a key, a message or a preimage: at least one byte, and at most so many
abbrev pub IsPayload : ℕ → List ℕ → List ℕ → Type 0
IsPayload most word bytes = WritesHex most word bytes × (1 ≤ length bytes)

-- the number of an install that an earlier line installed: they count from 1, and the last is this
abbrev pub IsInstalledBefore : ℕ → List ℕ → ℕ → Type 0
IsInstalledBefore last word n = IsDecimal word n × (1 ≤ n) × (n ≤ last)

-- RULE and DETAIL
abbrev pub IsRule : List (List ℕ) → Rule → Type 0
IsRule words (rule.LineTag n) =
    (d : List ℕ) × (words ≡ codes "LineTag" ∷ d ∷ []) × WritesBelow (2 ^ 32) d n
IsRule words (rule.TreeNode n) =
    (d : List ℕ) × (words ≡ codes "TreeNode" ∷ d ∷ []) × WritesBelow (2 ^ 8) d n
IsRule words (rule.RegisterTag n) =
    (d : List ℕ) × (words ≡ codes "RegisterTag" ∷ d ∷ []) × WritesBelow (2 ^ 8) d n
IsRule words (rule.RegisterMissing n) =
    (d : List ℕ) × (words ≡ codes "RegisterMissing" ∷ d ∷ []) × WritesBelow (2 ^ 8) d n

-- the words behind `trap N`
abbrev pub IsCause : List (List ℕ) → Cause → Type 0
IsCause words cause.Interrupt = words ≡ codes "interrupt" ∷ []
IsCause words (cause.Call code) =
    (c : List ℕ) × (words ≡ codes "call" ∷ c ∷ []) × WritesBelow (2 ^ 32) c code
IsCause words (cause.Page page) =
    (p : List ℕ) × (words ≡ codes "page" ∷ p ∷ []) × WritesBelow (2 ^ 32) p page
IsCause words (cause.Fault kind) = (k : List ℕ) × (words ≡ codes "fault" ∷ k ∷ []) × IsFault k kind
IsCause words cause.Nothing = ⊥
IsCause words cause.Exit = ⊥
IsCause words (cause.Stopped why) = ⊥

-- The words of a line write this entry, where the last install before had this number; behind the
-- line
-- the last install has the next number.
abbrev pub IsRow : ℕ → List (List ℕ) → Entry → ℕ → Type 0
IsRow last words (entry.Install n slot id place begin lines) next =
    (a s i p b l : List ℕ) × (words ≡ codes "install" ∷ a ∷ s ∷ i ∷ p ∷ b ∷ l ∷ [])
    × IsDecimal a n × (n ≡ last + 1) × WritesBelow compartment_count s slot
    × (1 ≤ slot) × IsHex id_size i id.0
    × WritesDecimal (2 ^ 32) p place × WritesDecimal (2 ^ 32) b begin × WritesDecimal (2 ^ 32) l
    lines × (next ≡ n)
IsRow last words (entry.Step n step) next =
    (a : List ℕ) × (fields : List (List ℕ)) × (words ≡ codes "step" ∷ a ∷ fields)
    × IsInstalledBefore last a n × IsStep fields step × (next ≡ last)
IsRow last words (entry.Trap n why) next =
    (a : List ℕ) × (causes : List (List ℕ)) × (words ≡ codes "trap" ∷ a ∷ causes)
    × IsInstalledBefore last a n × IsCause causes why × (next ≡ last)
IsRow last words (entry.Seal key message) next =
    (k m : List ℕ) × (words ≡ codes "seal" ∷ k ∷ m ∷ []) × IsPayload 96 k key
    × IsPayload 96 m message × (next ≡ last)
IsRow last words (entry.Accept key message place) next =
    (k m p : List ℕ) × (words ≡ codes "accept" ∷ k ∷ m ∷ p ∷ [])
    × IsPayload 96 k key × IsPayload 96 m message × WritesDecimal (2 ^ 32) p place × (next ≡ last)
IsRow last words (entry.Hash preimage digest) next =
    (p d : List ℕ) × (words ≡ codes "hash" ∷ p ∷ d ∷ [])
    × IsPayload 260 p preimage × IsHex 32 d digest × (digest ≡ sha256 preimage) × (next ≡ last)
IsRow last words (entry.Stop n why) next =
    (a : List ℕ) × (rules : List (List ℕ)) × (words ≡ codes "stop" ∷ a ∷ rules)
    × IsInstalledBefore last a n × IsRule rules why × (next ≡ last)
IsRow last words (entry.Kill n) next =
    (a : List ℕ) × (words ≡ codes "kill" ∷ a ∷ []) × IsInstalledBefore last a n × (next ≡ last)
IsRow last words (entry.Out byte) next =
    (b : List ℕ) × (words ≡ codes "out" ∷ b ∷ []) × WritesBelow 256 b byte × (next ≡ last)

-- the format: a line without words is passed over
abbrev pub JournalLine : Format ℕ Entry
JournalLine = OfWords (λ last n words entry next. IsRow last words entry next)

-- ---- the same as functions

-- the bytes of a key, a message or a preimage: from one to so many
unfoldable pub payload_of : ℕ → List ℕ → Option (List ℕ)
payload_of most word = do
  bytes ← hex_within most word
  if nat_le 1 (length bytes) then Some bytes else None

-- the number of an install from the first to the last
unfoldable pub installed_of : ℕ → List ℕ → Option ℕ
installed_of last word = do
  n ← numeral_of 10 word
  if nat_le 1 n && nat_le n last then Some n else None

-- the number of the next install
unfoldable pub next_install_of : ℕ → List ℕ → Option ℕ
next_install_of last word = do
  n ← numeral_of 10 word
  if n == last + 1 then Some n else None

-- the words behind `install`
unfoldable pub install_entry_of : ℕ → List (List ℕ) → Option Entry
install_entry_of last (a ∷ s ∷ i ∷ p ∷ b ∷ l ∷ []) = do
  n ← next_install_of last a
  slot ← count_below_of compartment_count s
  id ← hex_of id_size i
  place ← decimal_below_of (2 ^ 32) p
  begin ← decimal_below_of (2 ^ 32) b
  lines ← decimal_below_of (2 ^ 32) l
  Some (entry.Install n slot (record { 0 = id }) place begin lines)
install_entry_of last other = None

-- the words behind `step`: the install, and the fields of the step
unfoldable pub step_entry_of : ℕ → List (List ℕ) → Option Entry
step_entry_of last (a ∷ fields) = do
  n ← installed_of last a
  step ← step_of_words fields
  Some (entry.Step n step)
step_entry_of last [] = None

-- a cause that has a detail, by its name
unfoldable pub named_cause_of : List ℕ → List ℕ → Option Cause
named_cause_of name detail =
    if bytes_eq name (codes "call") then option_map cause.Call (number_below_of (2 ^ 32) detail)
    else (if bytes_eq name (codes "page") then option_map cause.Page
    (number_below_of (2 ^ 32) detail)
    else (if bytes_eq name (codes "fault") then option_map cause.Fault (fault_of detail) else None))

-- the words of a cause, as a trap has it
unfoldable pub cause_of : List (List ℕ) → Option Cause
cause_of (name ∷ []) = if bytes_eq name (codes "interrupt") then Some cause.Interrupt else None
cause_of (name ∷ detail ∷ []) = named_cause_of name detail
cause_of other = None

-- the words behind `trap`: the install, and the cause
unfoldable pub trap_entry_of : ℕ → List (List ℕ) → Option Entry
trap_entry_of last (a ∷ causes) = do
  n ← installed_of last a
  why ← cause_of causes
  Some (entry.Trap n why)
trap_entry_of last [] = None

-- the words behind `seal`: the key of the tag, and the message
unfoldable pub seal_entry_of : List (List ℕ) → Option Entry
seal_entry_of (k ∷ m ∷ []) = do
  key ← payload_of 96 k
  message ← payload_of 96 m
  Some (entry.Seal key message)
seal_entry_of other = None

-- the words behind `accept`: the key of the tag, the message, and its address in RAM
unfoldable pub accept_entry_of : List (List ℕ) → Option Entry
accept_entry_of (k ∷ m ∷ p ∷ []) = do
  key ← payload_of 96 k
  message ← payload_of 96 m
  place ← decimal_below_of (2 ^ 32) p
  Some (entry.Accept key message place)
accept_entry_of other = None

-- the words behind `hash`: a text, and its digest, which has to be right
unfoldable pub hash_entry_of : List (List ℕ) → Option Entry
hash_entry_of (p ∷ d ∷ []) = do
  preimage ← payload_of 260 p
  digest ← hex_of 32 d
  if bytes_eq digest (sha256 preimage) then Some (entry.Hash preimage digest) else None
hash_entry_of other = None

-- a rule by its name
unfoldable pub named_rule_of : List ℕ → List ℕ → Option Rule
named_rule_of name detail =
    if bytes_eq name (codes "LineTag") then option_map rule.LineTag
    (number_below_of (2 ^ 32) detail)
    else (if bytes_eq name (codes "TreeNode") then option_map rule.TreeNode
    (number_below_of (2 ^ 8) detail)
    else (if bytes_eq name (codes "RegisterTag") then option_map rule.RegisterTag
    (number_below_of (2 ^ 8) detail)
    else (if bytes_eq name (codes "RegisterMissing") then option_map rule.RegisterMissing
    (number_below_of (2 ^ 8) detail) else None)))

-- the words of a rule: its name, and the line, level or register
unfoldable pub rule_of : List (List ℕ) → Option Rule
rule_of (name ∷ detail ∷ []) = named_rule_of name detail
rule_of other = None

-- the words behind `stop`: the install, and the rule
unfoldable pub stop_entry_of : ℕ → List (List ℕ) → Option Entry
stop_entry_of last (a ∷ rules) = do
  n ← installed_of last a
  why ← rule_of rules
  Some (entry.Stop n why)
stop_entry_of last [] = None

-- the word behind `kill`: the install
unfoldable pub kill_entry_of : ℕ → List (List ℕ) → Option Entry
kill_entry_of last (a ∷ []) = option_map entry.Kill (installed_of last a)
kill_entry_of last other = None

-- the word behind `out`: the byte
unfoldable pub out_entry_of : List (List ℕ) → Option Entry
out_entry_of (b ∷ []) = option_map entry.Out (number_below_of 256 b)
out_entry_of other = None

-- the entry of a line by its name and the words behind it
unfoldable pub named_entry_of : ℕ → List ℕ → List (List ℕ) → Option Entry
named_entry_of last name rest =
    if bytes_eq name (codes "install") then install_entry_of last rest
    else (if bytes_eq name (codes "step") then step_entry_of last rest
    else (if bytes_eq name (codes "trap") then trap_entry_of last rest
    else (if bytes_eq name (codes "seal") then seal_entry_of rest
    else (if bytes_eq name (codes "accept") then accept_entry_of rest
    else (if bytes_eq name (codes "hash") then hash_entry_of rest
    else (if bytes_eq name (codes "stop") then stop_entry_of last rest
    else (if bytes_eq name (codes "kill") then kill_entry_of last rest
    else (if bytes_eq name (codes "out") then out_entry_of rest else None))))))))

-- the number of the last install, behind an entry
abbrev pub last_behind : ℕ → Entry → ℕ
last_behind last (entry.Install n slot id place begin lines) = n
last_behind last (entry.Step n step) = last
last_behind last (entry.Trap n why) = last
last_behind last (entry.Seal key message) = last
last_behind last (entry.Accept key message place) = last
last_behind last (entry.Hash preimage digest) = last
last_behind last (entry.Stop n why) = last
last_behind last (entry.Kill n) = last
last_behind last (entry.Out byte) = last

-- an entry, with the number of the last install behind it
abbrev pub with_last : ℕ → Entry → Entry × ℕ
with_last last e = (e, last_behind last e)

-- the words of a line, as an entry and the number of the last install behind it
unfoldable pub row_of_entry : ℕ → List (List ℕ) → Option (Entry × ℕ)
row_of_entry last (name ∷ rest) = option_map (with_last last) (named_entry_of last name rest)
row_of_entry last [] = None

-- the same of a line, for the loop over lines
abbrev pub journal_step : LineStep ℕ Entry
journal_step = line_step_of (λ last n words. row_of_entry last words)
