-- What files and sinks promise, by cases on what they answer. These promises are this project's
-- own.
use Rattle.std.specs.Prelude.{◌≡◌, ◌≢◌, ℕ, ◌-◌, ◌^◌, ◌<◌, ◌≤◌, ◌⊎◌, List, ◌++◌, length, take, Option, Some, None, Result, Ok, Err, IfSome, IsSomeAnd, option_map}
use Rattle.xom_io.specs.declared.files.FileFault.{FileFault}
use Rattle.xom_io.specs.declared.files.FileFault.TheVariants.{Failed, TooLong, NoMemory}
use Rattle.xom_io.specs.declared.sink.SinkFault.{SinkFault}
use Rattle.xom_io.specs.declared.sink.SinkFault.TheVariants.{Failed as SinkFailed, NoMemory as SinkNoMemory}

-- A count of faults rose. One that stands at its top, 2^64 - 1, can't show it, and counts as risen.
abbrev pub Rises : ℕ → ℕ → Type 0
Rises before after = (before < after) ⊎ (after ≡ 2 ^ 64 - 1)

-- What is told of files: what each name holds, by the bytes of the name, or nothing at all.
abbrev pub FilesTold : Type 0
FilesTold = Option (List ℕ → Option (List ℕ))

-- where it is told, the name holds these bytes
abbrev pub HoldsFile : FilesTold → List ℕ → List ℕ → Type 0
HoldsFile told name bytes = IfSome told (λ held. held name ≡ Some bytes)

-- where it is told, the name holds some bytes, and of so many
abbrev pub HoldsMany : FilesTold → List ℕ → (ℕ → Type 0) → Type 0
HoldsMany told name IsMany =
    IfSome told (λ held. IsSomeAnd (held name) (λ bytes. IsMany (length bytes)))

-- it is told that the name isn't held
abbrev pub Lacks : FilesTold → List ℕ → Type 0
Lacks told name = IsSomeAnd told (λ held. held name ≡ None)

-- What a get of a name answers. The count is that of reads, before the call and after it.
abbrev pub Gets : FilesTold → List ℕ → ℕ → ℕ → ℕ → Result (List ℕ) FileFault → Type 0
Gets told name limit before after (Ok bytes) =
    (after ≡ before) × (length bytes ≤ limit) × HoldsFile told name bytes
Gets told name limit before after (Err Failed) =
    (before ≤ after) × (Rises before after ⊎ Lacks told name) × (Lacks told name → after ≡ before)
Gets told name limit before after (Err TooLong) =
    (after ≡ before) × HoldsMany told name (λ many. limit < many)
Gets told name limit before after (Err NoMemory) =
    (after ≡ before) × HoldsMany told name (λ many. many ≤ limit)

-- Every name but this one holds what it held.
abbrev pub KeepsOthers : FilesTold → FilesTold → List ℕ → Type 0
KeepsOthers None None name = Unit {0}
KeepsOthers (Some old) (Some new) name = (other : List ℕ) → other ≢ name → new other ≡ old other
KeepsOthers _ _ name = ⊥

-- What a put of these bytes under a name answers. The count is that of writes.
abbrev pub Puts : FilesTold → FilesTold → List ℕ → List ℕ → ℕ → ℕ → Result (Unit {0}) FileFault → Type 0
Puts old new name bytes before after (Ok _) = (after ≡ before) × HoldsFile new name bytes
Puts old new name bytes before after (Err Failed) = (before ≤ after) × Rises before after
Puts old new name bytes before after (Err TooLong) = ⊥
Puts old new name bytes before after (Err NoMemory) = (after ≡ before) × (new ≡ old)

-- These bytes were appended to what was written, where that is told.
abbrev pub AppendsToSink : Option (List ℕ) → Option (List ℕ) → List ℕ → Type 0
AppendsToSink old new bytes = new ≡ option_map (λ written. written ++ bytes) old

-- What a sink answers to a put of a piece. The count is that of its faults.
abbrev pub SinkTakes : Option (List ℕ) → Option (List ℕ) → List ℕ → ℕ → ℕ → Result ℕ SinkFault → Type 0
SinkTakes old new piece before after (Ok n) =
    (after ≡ before) × (n ≤ length piece) × (0 < length piece → 0 < n)
    × AppendsToSink old new (take n piece)
SinkTakes old new piece before after (Err SinkFailed) =
    (0 < length piece) × (new ≡ old) × (before ≤ after) × Rises before after
SinkTakes old new piece before after (Err SinkNoMemory) =
    (0 < length piece) × (new ≡ old) × (after ≡ before)

-- Some first bytes of a text were appended, and not all of it.
abbrev pub AppendsPart : Option (List ℕ) → Option (List ℕ) → List ℕ → Type 0
AppendsPart old new text = (n : ℕ) × (n < length text) × AppendsToSink old new (take n text)

-- What comes of putting a whole text, piece by piece.
abbrev pub TakesAll : Option (List ℕ) → Option (List ℕ) → List ℕ → ℕ → ℕ
    → Result (Unit {0}) SinkFault → Type 0
TakesAll old new text before after (Ok _) = (after ≡ before) × AppendsToSink old new text
TakesAll old new text before after (Err SinkFailed) =
    AppendsPart old new text × (before ≤ after) × Rises before after
TakesAll old new text before after (Err SinkNoMemory) = AppendsPart old new text × (after ≡ before)
