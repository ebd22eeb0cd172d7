-- What the machine wants of a run file holds of each one that is read.
use Rattle.std.proofs.Common.{◌≡◌, ℕ, add-one, zero, suc, ◌+◌, ◌-◌, ◌*◌, ◌<◌, List, [], ◌∷◌, ◌++◌, length, get_or, map, Option, Some, None, Result, Ok, Err, refl, sym, ap, subst, ◌∙◌, arith}
use Rattle.std.specs.Prelude.{All, IfOk, slice_get}
use Rattle.std.specs.Option.{option_map_or}
use Rattle.std.specs.List.{AllByRecursion}
use Rattle.std.specs.List.Sorted.{IsStrictlyIncreasing}
use Rattle.text_lines.specs.Hex.{IsHex, pairs}
use Rattle.text_lines.specs.Lines.{AnswersText, lines_of}
use Rattle.text_lines.specs.declared.lines.TextFault.{TextFault}
use Rattle.xom_base.specs.declared.schedule.Poke.{Poke}
use Rattle.text_lines.proofs.FrontLaws.{all-snoc}
use Rattle.text_lines.proofs.ReadsLaws.{reads_keep}
use Rattle.text_lines.proofs.HexLaws.{length-IsHex}
use Rattle.xom_script.specs.RunFiles.{IsRunFile, IsRunRow}
use Rattle.xom_script.specs.RunLines.{Ascends, IsRunLine}
use Rattle.xom_script.specs.RunOrder.{Follows, last_event}
use Rattle.xom_script.specs.RunRules.{KeepsRules}
use Rattle.xom_script.specs.declared.progress.Progress.{Progress}
use Rattle.xom_script.specs.declared.progress.Progress.TheVariants as progress
use Rattle.xom_script.specs.declared.run_file.OwnerFile.{OwnerFile}
use Rattle.xom_script.specs.declared.run_file.RunFile.{RunFile}
use Rattle.xom_script.specs.declared.run_line.RunLine.{RunLine}
use Rattle.xom_script.specs.declared.run_line.RunLine.TheVariants as line
use Rattle.xom_script.proofs.AscendLaws.{increasing}
use Rattle.cli_runs.specs.RunFiles.{IsOwnerLine, IsRunnable}
use Rattle.cli_runs.specs.Schedules.{IsPokeOf}

-- ---- The writes of the bus

abbrev events : List Poke → List ℕ
events pokes = map (λ (poke : Poke). poke.event) pokes

-- the last one of two or more is the last one behind the first
last_more : (first second : Poke) (pokes : List Poke)
    → last_event (first ∷ second ∷ pokes) ≡ last_event (second ∷ pokes)
last_more first second pokes =
    let longer : length (first ∷ second ∷ pokes) - 1 ≡ suc (length pokes) = omega arith in
    let shorter : length (second ∷ pokes) - 1 ≡ length pokes = omega arith in
    ap (λ n. option_map_or (λ (poke : Poke). poke.event) (slice_get (first ∷ second ∷ pokes) n) 0)
    longer
    ∙ ap (λ n. option_map_or (λ (poke : Poke). poke.event) (slice_get (second ∷ pokes) n) 0)
    (sym shorter)

below_last : (low : ℕ) (first : Poke) (pokes : List Poke) → Ascends low (events (first ∷ pokes))
    → low < last_event (first ∷ pokes)
below_last low first [] ascends = ascends.0
below_last low first (second ∷ pokes) ascends =
    let one : low < first.event = ascends.0 in let more = below_last first.event second pokes
    ascends.1 in subst (λ n. low < n) (sym (last_more first second pokes))
    (omega (arith, one, more))

ascends-snoc : (low : ℕ) (pokes : List Poke) (poke : Poke) → Ascends low (events pokes)
    → low < poke.event → last_event pokes < poke.event → Ascends low (events (pokes ++ (poke ∷ [])))
ascends-snoc low [] poke ascends above-low above-last = (above-low, tt)
ascends-snoc low (first ∷ []) poke ascends above-low above-last = (ascends.0, (above-last, tt))
ascends-snoc low (first ∷ second ∷ pokes) poke ascends above-low above-last =
    let under : first.event < last_event (second ∷ pokes) = below_last first.event second pokes
    ascends.1 in
    let over : last_event (second ∷ pokes) < poke.event = subst (λ n. n < poke.event)
    (last_more first second pokes) above-last in
    (ascends.0, ascends-snoc first.event (second ∷ pokes) poke ascends.1 (omega arith) over)

-- ---- The lines, one after another

-- what the lines so far keep, beside the rules
pub record Keeps (frames : ℕ) (files : List OwnerFile) (writes : List Poke) : Type 0 where
  pub owners : AllByRecursion IsOwnerLine files
  pub pokes : AllByRecursion (IsPokeOf frames) writes
  pub ascends : Ascends 0 (events writes)

abbrev KeepsSoFar : Progress → Type 0
KeepsSoFar progress.Start = Unit {0}
KeepsSoFar (progress.Keyed machine) = Unit {0}
KeepsSoFar (progress.Booted machine boot) = Unit {0}
KeepsSoFar (progress.Framed machine boot frames) = Unit {0}
KeepsSoFar (progress.Files draft) = AllByRecursion IsOwnerLine draft.owners
KeepsSoFar (progress.Kernel draft kernel number) = AllByRecursion IsOwnerLine draft.owners
KeepsSoFar (progress.Whole file) = Keeps file.frames file.owners file.schedule.pokes

line-keeps : (before : Progress) (n : ℕ) (words : List (List ℕ)) (next : RunLine) (after : Progress)
    → KeepsSoFar before → IsRunLine words next → Follows before n next after → KeepsSoFar after
line-keeps before n words (line.Machine machine) after keeps is f = subst KeepsSoFar (sym f.1) tt
line-keeps before n words (line.Boot boot) after keeps is f = subst KeepsSoFar (sym f.2) tt
line-keeps before n words (line.Frames frames) after keeps is f = subst KeepsSoFar (sym f.3) tt
line-keeps before n words (line.Budget budget) after keeps is f = subst KeepsSoFar (sym f.4) tt
line-keeps before n words (line.Owner owner) after keeps is f =
    let k : AllByRecursion IsOwnerLine f.0.owners = subst KeepsSoFar f.1 keeps in
    subst KeepsSoFar (sym f.5) (all-snoc IsOwnerLine f.0.owners owner k record {
      key =
          length-IsHex 32 is.0 owner.key.0 is.4;
      id = length-IsHex 16 is.1 owner.id.0 is.5;
    })
line-keeps before n words (line.Guest sealed input) after keeps is f =
    let k : AllByRecursion IsOwnerLine f.0.owners = subst KeepsSoFar f.1 keeps in
    subst KeepsSoFar (sym f.3) k
line-keeps before n words (line.Kernel kernel) after keeps is f =
    let k : AllByRecursion IsOwnerLine f.0.owners = subst KeepsSoFar f.1 keeps in
    subst KeepsSoFar (sym f.3) k
line-keeps before n words (line.Interrupt interrupts) after keeps is f =
    let k : AllByRecursion IsOwnerLine f.0.owners = subst KeepsSoFar f.3 keeps in
    subst KeepsSoFar (sym f.4) record { owners = k; pokes = tt; ascends = tt }
line-keeps before n words (line.Poke poke) after keeps is f =
    let k : Keeps f.0.frames f.0.owners f.0.schedule.pokes = subst KeepsSoFar f.1 keeps in
    let later : last_event f.0.schedule.pokes < poke.event = f.2 in
    subst KeepsSoFar (sym f.4) record {
      owners = k.owners;
      pokes = all-snoc (IsPokeOf f.0.frames) f.0.schedule.pokes poke k.pokes record {
        event =
            omega arith;
        some = is.6.1;
        few = is.6.0.1;
        inside = f.3;
      };
      ascends = ascends-snoc 0 f.0.schedule.pokes poke k.ascends (omega arith) later;
    }

row-keeps : (before : Progress) (n : ℕ) (words : List (List ℕ)) (value : Unit {0}) (next : Progress)
    → KeepsSoFar before → IsRunRow before n words value next → KeepsSoFar next
row-keeps before n words value next keeps row = line-keeps before n words row.0 next keeps row.1 row.2

-- ---- Run files

all-places : {A : Type 0} (P : A → Type 0) (items : List A) → AllByRecursion P items → All P items
all-places P [] all k d within = absurd (omega arith)
all-places P (item ∷ items) all zero d within = all.0
all-places P (item ∷ items) all (suc k) d within = all-places P items all.1 k d (omega arith)

file-runnable : (file : RunFile) → KeepsRules file
    → Keeps file.frames file.owners file.schedule.pokes → IsRunnable file
file-runnable file rules keeps = record {
  boot = rules.draft.numbers.booted;
  frames_least = rules.draft.numbers.frames_least;
  frames_most = rules.draft.numbers.frames_most;
  budget = rules.draft.numbers.few;
  ids = rules.draft.ids;
  owners = keeps.owners;
  few_owners = rules.draft.owners;
  few_guests = rules.draft.guests;
  schedule = record {
    interrupts = rules.interrupts;
    pokes = all-places (IsPokeOf file.frames) file.schedule.pokes keeps.pokes;
    ascending = increasing (events file.schedule.pokes) keeps.ascends;
  };
}

-- what is read can be run
pub read-runnable : (text : List ℕ) (IsBad : ℕ → Type 0) (read : Result RunFile TextFault)
    → AnswersText (IsRunFile text) IsBad read → IfOk read KeepsRules → IfOk read IsRunnable
read-runnable text IsBad (Ok file) answers rules =
    let is = answers.found in file-runnable file rules (reads_keep IsRunRow KeepsSoFar row-keeps progress.Start 1 (lines_of text)
    is.0 (progress.Whole file) tt is.1)
read-runnable text IsBad (Err fault) answers rules = tt
