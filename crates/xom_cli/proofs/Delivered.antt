-- What a call left in the files and in the sink.
use Rattle.std.proofs.Common.{◌≡◌, ◌≢◌, inl, inr, ℕ, ◌<◌, List, Option, Some, None, Result, Ok, Err, length, take, refl, sym, ap, subst, arith}
use Rattle.std.specs.Prelude.{MatchOption}
use Rattle.std.proofs.Math.Seq.{take-length}
use Rattle.xom_io.specs.declared.files.FileFault.{FileFault}
use Rattle.xom_io.specs.declared.files.FileFault.TheVariants as file_fault
use Rattle.xom_io.specs.declared.sink.SinkFault.{SinkFault}
use Rattle.xom_io.specs.declared.sink.SinkFault.TheVariants as sink_fault
use Rattle.xom_io.specs.Answers.{AppendsToSink, FilesTold, KeepsOthers, Rises, TakesAll}
use Rattle.cli_base.specs.declared.answer.Answer.{Answer}
use Rattle.cli_base.specs.declared.answer.OutputFile.{OutputFile}
use Rattle.cli_delivery.specs.Endings.{Disk, PutsFile}
use Rattle.cli_base.specs.Commands.{IsDone}
use Rattle.cli_base.specs.Inputs.{Held}
use Rattle.xom_cli.specs.Outcome.{IsOutcome}
use Rattle.xom_cli.specs.Promises.{WritesFile}
use Rattle.xom_cli.specs.Rows.{Row, target_of}
use Rattle.xom_cli.proofs.Targets.{target-written}

-- ---- statuses

pub not_done : (n : ℕ) → (n ≢ 0) → (n < 6) → ¬ IsDone n
not_done n some low is = elim is [
  | inl e ↦ some e
  | inr r ↦ elim r [
    | inl e ↦ omega arith
    | inr r ↦ elim r [
      | inl e ↦ omega arith
      | inr r ↦
          elim r [ inl e ↦ omega arith | inr e ↦ omega arith ]
    ]
  ]
]

pub done_not_1 : ¬ IsDone 1
done_not_1 = not_done 1 (λ e. omega arith) (omega arith)

pub done_not_2 : ¬ IsDone 2
done_not_2 = not_done 2 (λ e. omega arith) (omega arith)

pub done_not_3 : ¬ IsDone 3
done_not_3 = not_done 3 (λ e. omega arith) (omega arith)

pub done_not_4 : ¬ IsDone 4
done_not_4 = not_done 4 (λ e. omega arith) (omega arith)

pub done_not_5 : ¬ IsDone 5
done_not_5 = not_done 5 (λ e. omega arith) (omega arith)

-- ---- the sink

pub takes-prefix : (old new : Option (List ℕ)) (text : List ℕ) (before after : ℕ)
    (put : Result (Unit {0}) SinkFault)
    → TakesAll old new text before after put → (n : ℕ) × AppendsToSink old new (take n text)
takes-prefix old new text before after (Ok whole) takes =
    (length text, subst (AppendsToSink old new) (sym (take-length text)) takes.1)
takes-prefix old new text before after (Err sink_fault.Failed) takes = (takes.0.0, takes.0.2)
takes-prefix old new text before after (Err sink_fault.NoMemory) takes = (takes.0.0, takes.0.2)

-- ---- the files

keeps-self : (told : FilesTold) (name : List ℕ) → KeepsOthers told told name
keeps-self None name = tt
keeps-self (Some held) name = λ other differs. refl

-- files that are as they were
pub same-changes : (target : Option (List ℕ)) (before after : Disk) → after ≡ before
    → MatchOption target (after.held ≡ before.held) (KeepsOthers before.held after.held)
same-changes None before after same = ap (λ (d : Disk). d.held) same
same-changes (Some name) before after same =
    subst (λ (d : Disk). KeepsOthers before.held d.held name) (sym same)
    (keeps-self before.held name)

pub same-count : (before after : Disk) → after ≡ before → ¬ (before.writes < after.writes)
same-count before after same rises =
    let is : after.writes ≡ before.writes = ap (λ (d : Disk). d.writes) same in omega arith

-- what two files tell is the same
abbrev Same : FilesTold → FilesTold → Type 0
Same a b = a ≡ b

untold-changes : (target : Option (List ℕ))
    → MatchOption target (Same None None) (KeepsOthers None None)
untold-changes None = refl
untold-changes (Some name) = tt

-- the file that a command answers is the one that its words name
told-changes : (row : Row) (answer : Answer) (file : OutputFile) (old new : FilesTold)
    → ((held : Held) → old ≡ Some held → IsOutcome row held (Ok answer)) → answer.file ≡ Some file
    → KeepsOthers old new file.name
    → MatchOption (target_of row) (new ≡ old) (KeepsOthers old new)
told-changes row answer file None None wanted is keeps = untold-changes (target_of row)
told-changes row answer file None (Some later) wanted is keeps = absurd keeps
told-changes row answer file (Some held) None wanted is keeps = absurd keeps
told-changes row answer file (Some held) (Some later) wanted is keeps =
    subst (λ (o : Option (List ℕ)). MatchOption o (Same (Some later) (Some held))
    (KeepsOthers (Some held) (Some later)))
    (sym (target-written row held answer file (wanted held refl) is)) keeps

pub puts-changes : (row : Row) (answer : Answer) (before after : Disk)
    (put : Result (Unit {0}) FileFault)
    → ((held : Held) → before.held ≡ Some held → IsOutcome row held (Ok answer))
    → (o : Option OutputFile) → answer.file ≡ o → PutsFile before after o put
    → MatchOption (target_of row) (after.held ≡ before.held) (KeepsOthers before.held after.held)
puts-changes row answer before after put wanted None is puts =
    same-changes (target_of row) before after puts.0
puts-changes row answer before after put wanted (Some file) is puts =
    told-changes row answer file before.held after.held wanted is puts.1

-- where the words name no file to be written, the answer has none, and none was put
pub puts-nothing : (row : Row) (answer : Answer) (before after : Disk)
    (put : Result (Unit {0}) FileFault)
    → ((held : Held) → before.held ≡ Some held → IsOutcome row held (Ok answer))
    → (o : Option OutputFile) → answer.file ≡ o → PutsFile before after o put
    → (held : Held) → before.held ≡ Some held → target_of row ≡ None → after ≡ before
puts-nothing row answer before after put wanted None is puts held told none = puts.0
puts-nothing row answer before after put wanted (Some file) is puts held told none =
    let named : target_of row ≡ Some file.name = target-written row held answer file
    (wanted held told) is in absurd (cc)

module _ (before after : Disk) where
  pub puts-file : (file : Option OutputFile) (done : Unit {0})
      → PutsFile before after file (Ok done) → WritesFile before after file
  puts-file None done puts = ap (λ (d : Disk). d.held) puts.0
  puts-file (Some file) done puts = (puts.0.1, puts.1)

  pub puts-count : (file : Option OutputFile) (done : Unit {0})
      → PutsFile before after file (Ok done) → after.writes ≡ before.writes
  puts-count None done puts = ap (λ (d : Disk). d.writes) puts.0
  puts-count (Some file) done puts = puts.0.0

  pub fails-rising : (file : Option OutputFile) → PutsFile before after file (Err file_fault.Failed)
      → Rises before.writes after.writes
  fails-rising None puts = absurd (let is = puts.1 in cc)
  fails-rising (Some file) puts = puts.0.1

  pub never-long : (file : Option OutputFile)
      → ¬ PutsFile before after file (Err file_fault.TooLong)
  never-long None puts = absurd (let is = puts.1 in cc)
  never-long (Some file) puts = puts.0

  pub lacks-count : (file : Option OutputFile)
      → PutsFile before after file (Err file_fault.NoMemory) → after.writes ≡ before.writes
  lacks-count None puts = absurd (let is = puts.1 in cc)
  lacks-count (Some file) puts = puts.0.0

  pub lacks-held : (file : Option OutputFile) → PutsFile before after file (Err file_fault.NoMemory)
      → after.held ≡ before.held
  lacks-held None puts = absurd (let is = puts.1 in cc)
  lacks-held (Some file) puts = puts.0.1
