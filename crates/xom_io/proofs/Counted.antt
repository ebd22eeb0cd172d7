-- Laws of the counts of faults: no answer lowers one, and a rise stays one.
use Rattle.std.proofs.Common.{ℕ, ◌≤◌, List, arith}
use Rattle.std.specs.Prelude.{Option, Result, Ok, Err}
use Rattle.xom_io.specs.declared.files.FileFault.{FileFault}
use Rattle.xom_io.specs.declared.files.FileFault.TheVariants.{Failed, TooLong, NoMemory}
use Rattle.xom_io.specs.declared.sink.SinkFault.{SinkFault}
use Rattle.xom_io.specs.declared.sink.SinkFault.TheVariants.{Failed as SinkFailed, NoMemory as SinkNoMemory}
use Rattle.xom_io.specs.Answers.{FilesTold, Gets, Puts, Rises, TakesAll}

-- a count that rose before the last calls, or in them, rose over all of them
pub Rises-early : (before middle after : ℕ) → Rises before middle → before ≤ middle → middle ≤ after
    → Rises before after
Rises-early before middle after rose first last = grind arith

pub Rises-late : (before middle after : ℕ) → before ≤ middle → Rises middle after
    → Rises before after
Rises-late before middle after first rose = grind arith

-- no get lowers the count of reads
pub Gets-grows : (told : FilesTold) (name : List ℕ) (limit before after : ℕ)
    (answer : Result (List ℕ) FileFault)
    → Gets told name limit before after answer → before ≤ after
Gets-grows told name limit before after (Ok bytes) gets = omega (arith, gets.0)
Gets-grows told name limit before after (Err Failed) gets = gets.0
Gets-grows told name limit before after (Err TooLong) gets = omega (arith, gets.0)
Gets-grows told name limit before after (Err NoMemory) gets = omega (arith, gets.0)

-- no put lowers the count of writes
pub Puts-grows : (old new : FilesTold) (name bytes : List ℕ) (before after : ℕ)
    (answer : Result (Unit {0}) FileFault)
    → Puts old new name bytes before after answer → before ≤ after
Puts-grows old new name bytes before after (Ok done) puts = omega (arith, puts.0)
Puts-grows old new name bytes before after (Err Failed) puts = puts.0
Puts-grows old new name bytes before after (Err TooLong) puts = absurd puts
Puts-grows old new name bytes before after (Err NoMemory) puts = omega (arith, puts.0)

-- no put of a whole text lowers the count of a sink's faults
pub TakesAll-grows : (old new : Option (List ℕ)) (text : List ℕ) (before after : ℕ)
    (answer : Result (Unit {0}) SinkFault)
    → TakesAll old new text before after answer → before ≤ after
TakesAll-grows old new text before after (Ok done) takes = omega (arith, takes.0)
TakesAll-grows old new text before after (Err SinkFailed) takes = takes.1
TakesAll-grows old new text before after (Err SinkNoMemory) takes = omega (arith, takes.1)
