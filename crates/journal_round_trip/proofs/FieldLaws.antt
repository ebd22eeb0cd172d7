-- Each printed field of a step is a word, and is in the grammar.
use Rattle.std.proofs.Common.{◌≡◌, ℕ, zero, suc, ◌-◌, ◌*◌, ◌^◌, ◌<◌, ◌≤◌, List, [], ◌∷◌, ◌++◌, length, drop, refl, arith}
use Rattle.std.specs.Prelude.{codes}
use Rattle.std.specs.Fmt.{decimal}
use Rattle.std.specs.Int.{w32, to_be_bytes}
use Rattle.hex.specs.Hex.{IsBytes}
use Rattle.text_pieces.specs.Pieces.{hex8}
use Rattle.xom_base.specs.declared.event.OwnFault.{OwnFault}
use Rattle.xom_base.specs.declared.event.OwnFault.TheVariants as fault
use Rattle.xom_base.specs.declared.step.Writes.{Writes}
use Rattle.xom_base.specs.declared.step.Writes.TheVariants as writes
use Rattle.xom_base.specs.declared.step.Stored.{Stored}
use Rattle.xom_base.specs.declared.step.Stored.TheVariants as stored
use Rattle.xom_base.specs.declared.step.Received.{Received}
use Rattle.xom_base.specs.declared.step.Received.TheVariants as received
use Rattle.xom_base.specs.declared.step.Released.{Released}
use Rattle.xom_base.specs.declared.step.Released.TheVariants as released
use Rattle.xom_base.specs.declared.step.StepEnd.{StepEnd}
use Rattle.xom_base.specs.declared.step.StepEnd.TheVariants as ended
use Rattle.xom_base.specs.declared.step.Step.{Step}
use Rattle.step_text.specs.StepFields.{IsCell, IsEnd, IsNamedNumber, IsNamedPair, IsReceivedWord, IsReleased, IsStep, IsStored, IsWrites, number_of_bytes}
use Rattle.step_text.specs.StepTexts.{low_hex, outer_fields, own_fault_text, own_fields, received_text, released_text, step_end_text, step_fields, stored_text, writes_text}
use Rattle.journal_round_trip.specs.KeepsRules.{KeepsCell, Is32Bit, KeepsEnd, KeepsReceived, KeepsReleased, KeepsStep, KeepsStored, KeepsWrites}
use Rattle.journal_round_trip.proofs.WordLaws.{IsLine, IsWord, line-append, word-append}
use Rattle.journal_round_trip.proofs.PieceLaws.{hex8-printed, hex-printed, number-bytes, number-printed, word-decimal, word-hex, word-hex8}

-- ---- pieces behind a name

word-hex8_behind : (name : List ℕ) (n : ℕ) → IsWord name → IsWord (name ++ hex8 n)
word-hex8_behind name n is = word-append name (hex8 n) is (word-hex8 n)

word-number_behind : (name : List ℕ) (n : ℕ) → n < 2 ^ 32 → IsWord name → IsWord (name ++ decimal n)
word-number_behind name n short is = word-append name (decimal n) is (word-decimal n (omega arith))

number_behind-printed : (name : List ℕ) (n : ℕ) → Is32Bit n
    → IsNamedNumber name (name ++ decimal n) n
number_behind-printed name n short =
    (decimal n, refl, number-printed (2 ^ 32) n short (omega arith))

word-pair : (name : List ℕ) (a b : ℕ) → IsWord name
    → IsWord (name ++ (hex8 a ++ (codes ":" ++ hex8 b)))
word-pair name a b is =
    word-append name (hex8 a ++ (codes ":" ++ hex8 b)) is
    (word-append (hex8 a) (codes ":" ++ hex8 b) (word-hex8 a)
    (word-hex8_behind (codes ":") b (omega arith, refl)))

pair-printed : (name : List ℕ) (a b : ℕ) → Is32Bit a → Is32Bit b
    → IsNamedPair name (name ++ (hex8 a ++ (codes ":" ++ hex8 b))) a b
pair-printed name a b p q = (hex8 a, hex8 b, refl, hex8-printed a p, hex8-printed b q)

-- ---- cells

abbrev cell_text : ℕ → ℕ → List ℕ
cell_text reg value = codes "r" ++ (decimal reg ++ (codes "=" ++ hex8 value))

word-cell : (reg value : ℕ) → KeepsCell reg value → IsWord (cell_text reg value)
word-cell reg value is =
    word-append (codes "r") (decimal reg ++ (codes "=" ++ hex8 value)) (omega arith, refl)
    (word-append (decimal reg) (codes "=" ++ hex8 value) (word-decimal reg (omega (arith, is.1)))
    (word-hex8_behind (codes "=") value (omega arith, refl)))

cell-printed : (reg value : ℕ) → KeepsCell reg value → IsCell (cell_text reg value) reg value
cell-printed reg value is =
    let number = number-printed 34 reg is.1 (omega (arith, is.1)) in
    (decimal reg, hex8 value, refl, number, is.0, hex8-printed value is.2)

-- ---- stored bytes

-- the low bytes of a number, so many of them
abbrev low : ℕ → ℕ → List ℕ
low count value = drop (4 - count) (to_be_bytes w32 value)

-- a count of 1 to 4, case by case
pub by_count : (P : ℕ → Type 0) → P 1 → P 2 → P 3 → P 4 → (count : ℕ) → 1 ≤ count → count < 5
    → P count
by_count P one two three four zero least most = absurd (omega arith)
by_count P one two three four (suc zero) least most = one
by_count P one two three four (suc (suc zero)) least most = two
by_count P one two three four (suc (suc (suc zero))) least most = three
by_count P one two three four (suc (suc (suc (suc zero)))) least most = four
by_count P one two three four (suc (suc (suc (suc (suc n))))) least most = absurd (omega arith)

length-low : (value count : ℕ) → 1 ≤ count → count < 5 → length (low count value) ≡ count
length-low value = by_count (λ count. length (low count value) ≡ count) refl refl refl refl

bytes-low : (value count : ℕ) → 1 ≤ count → count < 5 → IsBytes (low count value)
bytes-low value =
    by_count (λ count. IsBytes (low count value))
    (λ i. number-bytes value (suc (suc (suc i)))) (λ i. number-bytes value (suc (suc i)))
    (λ i. number-bytes value (suc i)) (number-bytes value)

low_bytes-low : (value count : ℕ) → 1 ≤ count → count < 5 → value < 2 ^ (8 * count)
    → value ≡ number_of_bytes count (low count value)
low_bytes-low value =
    by_count (λ count. value < 2 ^ (8 * count) → value ≡ number_of_bytes count (low count value))
    (λ small. omega arith) (λ small. omega arith) (λ small. omega arith) (λ small. omega arith)

-- ---- the fields

pub word-writes : (w : Writes) → KeepsWrites w → IsWord (writes_text w)
word-writes writes.Nothing keeps = (omega arith, refl)
word-writes (writes.One reg value) keeps = word-cell reg value keeps
word-writes (writes.Pair hi lo) keeps = word-pair (codes "hl=") hi lo (omega arith, refl)

pub writes-printed : (w : Writes) → KeepsWrites w → IsWrites (writes_text w) w
writes-printed writes.Nothing keeps = refl
writes-printed (writes.One reg value) keeps = cell-printed reg value keeps
writes-printed (writes.Pair hi lo) keeps = pair-printed (codes "hl=") hi lo keeps.0 keeps.1

pub word-stored : (s : Stored) → KeepsStored s → IsWord (stored_text s)
word-stored stored.Nothing keeps = (omega arith, refl)
word-stored (stored.Bytes address count value) (short, least, most, small) =
    let sized = length-low value count least most in
    let digits = word-hex count (low count value) sized least (bytes-low value count least most) in
    let behind = codes "=" ++ low_hex count value in
    word-append (hex8 address) (codes "+" ++ (decimal count ++ behind)) (word-hex8 address)
    (word-append (codes "+") (decimal count ++ behind) (omega arith, refl)
    (word-append (decimal count) behind (word-decimal count (omega arith))
    (word-append (codes "=") (low_hex count value) (omega arith, refl) digits)))

pub stored-printed : (s : Stored) → KeepsStored s → IsStored (stored_text s) s
stored-printed stored.Nothing keeps = refl
stored-printed (stored.Bytes address count value) (short, least, most, small) = (
  hex8 address,
  decimal count,
  low_hex count value,
  low count value,
  refl,
  hex8-printed address short,
  number-printed 5 count most (omega arith),
  least,
  hex-printed count (low count value) (length-low value count least most)
      (bytes-low value count least most),
  low_bytes-low value count least most small,
)

pub word-received : (g : Received) → KeepsReceived g → IsWord (received_text g)
word-received received.Nothing keeps = (omega arith, refl)
word-received (received.Cell value) keeps =
    word-hex8_behind (codes "cell=") value (omega arith, refl)
word-received (received.Null address value) keeps =
    word-pair (codes "null=") address value (omega arith, refl)
word-received (received.Signal n) keeps =
    word-number_behind (codes "signal=") n keeps (omega arith, refl)

pub received-printed : (g : Received) → KeepsReceived g → IsReceivedWord (received_text g) g
received-printed received.Nothing keeps = refl
received-printed (received.Cell value) keeps = (hex8 value, refl, hex8-printed value keeps)
received-printed (received.Null address value) keeps =
    pair-printed (codes "null=") address value keeps.0 keeps.1
received-printed (received.Signal n) keeps = number_behind-printed (codes "signal=") n keeps

pub word-released : (r : Released) → KeepsReleased r → IsWord (released_text r)
word-released released.Nothing keeps = (omega arith, refl)
word-released (released.Cell reg value) keeps = word-cell reg value keeps
word-released (released.Null address value) keeps =
    word-pair (codes "null=") address value (omega arith, refl)

pub released-printed : (r : Released) → KeepsReleased r → IsReleased (released_text r) r
released-printed released.Nothing keeps = refl
released-printed (released.Cell reg value) keeps = cell-printed reg value keeps
released-printed (released.Null address value) keeps =
    pair-printed (codes "null=") address value keeps.0 keeps.1

pub word-end : (e : StepEnd) → KeepsEnd e → IsWord (step_end_text e)
word-end ended.Goes keeps = (omega arith, refl)
word-end (ended.Call code) keeps = word-number_behind (codes "call=") code keeps (omega arith, refl)
word-end ended.Exit keeps = (omega arith, refl)

pub end-printed : (e : StepEnd) → KeepsEnd e → IsEnd (step_end_text e) e
end-printed ended.Goes keeps = refl
end-printed (ended.Call code) keeps = number_behind-printed (codes "call=") code keeps
end-printed ended.Exit keeps = refl

-- ---- steps

-- the words of a step's fields
abbrev pub step_words : Step → List (List ℕ)
step_words s =
    hex8 s.pc ∷ hex8 s.npc ∷ writes_text s.writes ∷ stored_text s.stored
    ∷ received_text s.received ∷ released_text s.released ∷ step_end_text s.end ∷ []

pub line-step : (s : Step) → KeepsStep s → IsLine (step_fields s) (step_words s)
unfolding step_fields
line-step s (pc, npc, w, st, g, r, e) =
    line-append (own_fields s) (outer_fields s)
    (hex8 s.pc ∷ hex8 s.npc ∷ writes_text s.writes ∷ stored_text s.stored ∷ [])
    (received_text s.received ∷ released_text s.released ∷ step_end_text s.end ∷ [])
    record {
      some = omega arith;
      joined = refl;
      each = (
        word-hex8 s.pc,
        (word-hex8 s.npc, (word-writes s.writes w, (word-stored s.stored st, tt))),
      );
    }
    record {
      some = omega arith;
      joined = refl;
      each = (word-received s.received g, (word-released s.released r, (word-end s.end e, tt)));
    }

pub step-printed : (s : Step) → KeepsStep s → IsStep (step_words s) s
step-printed s (pc, npc, w, st, g, r, e) = (
  hex8 s.pc,
  hex8 s.npc,
  writes_text s.writes,
  stored_text s.stored,
  received_text s.received,
  released_text s.released,
  step_end_text s.end,
  refl,
  hex8-printed s.pc pc,
  hex8-printed s.npc npc,
  writes-printed s.writes w,
  stored-printed s.stored st,
  received-printed s.received g,
  released-printed s.released r,
  end-printed s.end e,
)

-- ---- a guest's own faults

pub word-fault : (kind : OwnFault) → IsWord (own_fault_text kind)
word-fault fault.Reserved = (omega arith, refl)
word-fault fault.Foreign = (omega arith, refl)
word-fault fault.Overflow = (omega arith, refl)
word-fault fault.Address = (omega arith, refl)
word-fault fault.Break = (omega arith, refl)
