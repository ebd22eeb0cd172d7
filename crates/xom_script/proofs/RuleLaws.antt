-- Each run file that is read keeps the rules.
use Rattle.std.proofs.Common.{ℕ, ◌+◌, ◌^◌, ◌<◌, ◌≤◌, List, [], ◌∷◌, ◌++◌, ◌*◌, length, Option, Some, None, Result, Ok, Err, sym, subst, arith, length-append}
use Rattle.std.specs.Prelude.{◌≢◌, IfOk}
use Rattle.std.specs.List.{AllByRecursion}
use Rattle.text_lines.specs.Lines.{AnswersRead, lines_of}
use Rattle.text_lines.specs.declared.lines.TextFault.{TextFault}
use Rattle.xom_base.specs.declared.schedule.Interrupts.{Interrupts}
use Rattle.xom_base.specs.declared.schedule.Interrupts.TheVariants as interrupts
use Rattle.xom_base.specs.declared.schedule.Poke.{Poke}
use Rattle.text_lines.proofs.FrontLaws.{all-snoc}
use Rattle.text_lines.proofs.ReadsLaws.{reads_keep}
use Rattle.xom_script.specs.RunFiles.{IsRunFile, IsRunRow, run_file_at}
use Rattle.xom_script.specs.RunLines.{IsInterrupts, IsRunLine}
use Rattle.xom_script.specs.RunOrder.{Follows, HasRoom, IsNewId, draft_with_guest, with_owner}
use Rattle.xom_script.specs.RunRules.{HasOwnIds, KeepsDraft, KeepsInterrupts, KeepsRules}
use Rattle.xom_script.specs.declared.progress.Draft.{Draft}
use Rattle.xom_script.specs.declared.progress.Progress.{Progress}
use Rattle.xom_script.specs.declared.progress.Progress.TheVariants as progress
use Rattle.xom_script.specs.declared.run_file.GuestFile.{GuestFile}
use Rattle.xom_script.specs.declared.run_file.OwnerFile.{OwnerFile}
use Rattle.xom_script.specs.declared.run_file.RunFile.{RunFile}
use Rattle.xom_script.specs.declared.run_line.RunLine.{RunLine}
use Rattle.xom_script.specs.declared.run_line.RunLine.TheVariants as line
use Rattle.xom_script.proofs.RunLaws.{run_file_at-exact}

-- what the lines so far keep
abbrev Keeps : Progress → Type 0
Keeps progress.Start = Unit {0}
Keeps (progress.Keyed machine) = Unit {0}
Keeps (progress.Booted machine boot) = boot < 2 ^ 63
Keeps (progress.Framed machine boot frames) = (boot < 2 ^ 63) × (4 ≤ frames) × (frames ≤ 8192)
Keeps (progress.Files draft) = KeepsDraft draft
Keeps (progress.Kernel draft kernel number) =
    KeepsDraft draft × HasRoom kernel draft.frames (length draft.guests)
Keeps (progress.Whole file) = KeepsRules file

-- ---- one more of each

ids-snoc : (owners : List OwnerFile) (owner : OwnerFile) → HasOwnIds owners
    → IsNewId owner.id owners → HasOwnIds (owners ++ (owner ∷ []))
ids-snoc [] owner own new = (tt, tt)
ids-snoc (first ∷ owners) owner own new = (
  all-snoc (λ (other : OwnerFile). other.id.0 ≢ first.id.0) owners owner own.0
      (λ same. new.0 (sym same)),
  ids-snoc owners owner own.1 new.1,
)

one_more : {A : Type 0} (items : List A) (item : A) → length items < 16
    → length (items ++ (item ∷ [])) ≤ 16
one_more items item few = rw (length-append items (item ∷ [])) (omega arith)

owner-keeps : (draft : Draft) (owner : OwnerFile) → KeepsDraft draft → length draft.owners < 16
    → IsNewId owner.id draft.owners → KeepsDraft (with_owner draft owner)
owner-keeps draft owner keeps few new = record {
  numbers = keeps.numbers;
  owners = one_more draft.owners owner few;
  ids = ids-snoc draft.owners owner keeps.ids new;
  guests = keeps.guests;
}

guest-keeps : (draft : Draft) (guest : GuestFile) → KeepsDraft draft → length draft.guests < 16
    → KeepsDraft (draft_with_guest draft guest)
guest-keeps draft guest keeps few = record {
  numbers = keeps.numbers;
  owners = keeps.owners;
  ids = keeps.ids;
  guests = one_more draft.guests guest few;
}

interrupts-keep : (words : List (List ℕ)) (line : Interrupts) → IsInterrupts words line
    → KeepsInterrupts line
interrupts-keep words interrupts.Never is = tt
interrupts-keep words (interrupts.Every n) is = is.3
interrupts-keep words (interrupts.At times) is = (is.3, is.4)

-- ---- the lines, one after another

line-keeps : (before : Progress) (n : ℕ) (words : List (List ℕ)) (next : RunLine) (after : Progress)
    → Keeps before → IsRunLine words next → Follows before n next after → Keeps after
line-keeps before n words (line.Machine machine) after keeps is f = subst Keeps (sym f.1) tt
line-keeps before n words (line.Boot boot) after keeps is f = subst Keeps (sym f.2) is.2.1
line-keeps before n words (line.Frames frames) after keeps is f =
    let boot : f.1 < 2 ^ 63 = subst Keeps f.2 keeps in
    let small : frames < 8193 = is.2.1 in
    subst Keeps (sym f.3) (boot, is.3, omega arith)
line-keeps before n words (line.Budget budget) after keeps is f =
    let k = subst Keeps f.3 keeps in
    let small : budget < 1048577 = is.2.1 in
    subst Keeps (sym f.4) record {
      numbers = record { booted = k.0; frames_least = k.1; frames_most = k.2; few = omega arith };
      owners = omega arith;
      ids = tt;
      guests = omega arith;
    }
line-keeps before n words (line.Owner owner) after keeps is f =
    subst Keeps (sym f.5) (owner-keeps f.0 owner (subst Keeps f.1 keeps) f.3 f.4)
line-keeps before n words (line.Guest sealed input) after keeps is f =
    subst Keeps (sym f.3) (guest-keeps f.0 (record { line = n; sealed = sealed; input = input })
    (subst Keeps f.1 keeps) f.2)
line-keeps before n words (line.Kernel kernel) after keeps is f =
    let k : KeepsDraft f.0 = subst Keeps f.1 keeps in
    subst Keeps (sym f.3) (k, f.2)
line-keeps before n words (line.Interrupt interrupts) after keeps is f =
    let k = subst Keeps f.3 keeps in
    subst Keeps (sym f.4) record {
      draft = k.0;
      room = k.1;
      interrupts =
          interrupts-keep is.0 interrupts is.2;
      inside = tt;
    }
line-keeps before n words (line.Poke poke) after keeps is f =
    let k : KeepsRules f.0 = subst Keeps f.1 keeps in
    subst Keeps (sym f.4) record {
      draft = k.draft;
      room = k.room;
      interrupts = k.interrupts;
      inside = all-snoc (λ (poke : Poke). poke.address + length poke.bytes ≤ f.0.frames * 8192)
          f.0.schedule.pokes poke k.inside f.3;
    }

row-keeps : (before : Progress) (n : ℕ) (words : List (List ℕ)) (value : Unit {0}) (next : Progress)
    → Keeps before → IsRunRow before n words value next → Keeps next
row-keeps before n words value next keeps row = line-keeps before n words row.0 next keeps row.1 row.2

pub IsRunFile-keeps : (text : List ℕ) (file : RunFile) → IsRunFile text file → KeepsRules file
IsRunFile-keeps text file is =
    reads_keep IsRunRow Keeps row-keeps progress.Start 1 (lines_of text) is.0 (progress.Whole file) tt is.1

-- what is answered keeps the rules
pub rules_kept : (text : List ℕ) (r : Result RunFile TextFault) → AnswersRead (run_file_at text) r
    → IfOk r KeepsRules
rules_kept text (Ok file) h = IsRunFile-keeps text file ((run_file_at-exact text file).0 h)
rules_kept text (Err fault) h = tt
