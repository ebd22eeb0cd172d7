-- What a run alone is: the steps of the plain machine, as far as they may go.
use Rattle.std.specs.Prelude.{◌≡◌, ℕ, ◌≤◌, ◌<◌, Bool, true, false, List, [], ◌∷◌, ◌++◌, length, Option, Some, None}
use Rattle.std.specs.List.{filter_map}
use Rattle.xom_base.specs.declared.image.PlainImage.{PlainImage}
use Rattle.xom_base.specs.declared.step.Received.{Received}
use Rattle.xom_base.specs.declared.step.Received.TheVariants as received
use Rattle.xom_base.specs.declared.step.StepEnd.TheVariants as ended
use Rattle.xom_base.specs.declared.step.Step.{Step}
use Rattle.mips_plain.specs.declared.given.Given.TheVariants as given
use Rattle.mips_plain.specs.declared.given.PlainStep.TheVariants.{Did, Fault}
use Rattle.mips_plain.specs.declared.verdict.Verdict.TheVariants.{Follows}
use Rattle.mips_plain.specs.Follows.{given_of, Reaches, verdict_from}
use Rattle.mips_plain.specs.Machine.{State, plain, start}
use Rattle.plain_run.specs.declared.ending.PlainEnd.{PlainEnd}
use Rattle.plain_run.specs.declared.ending.PlainEnd.TheVariants as ending
use Rattle.plain_run.specs.Runs.{Run, run_of_image}

-- the value that came from outside, if one did
abbrev pub value_from_outside : Received → Option ℕ
value_from_outside received.Nothing = None
value_from_outside (received.Cell value) = Some value
value_from_outside (received.Null address value) = Some value
value_from_outside (received.Signal n) = None

-- a signal came
abbrev pub is_signalled : Received → Bool
is_signalled received.Nothing = false
is_signalled (received.Cell value) = false
is_signalled (received.Null address value) = false
is_signalled (received.Signal n) = true

-- no signal came for any of the steps
abbrev pub NoSignals : List Step → Type 0
NoSignals [] = Unit {0}
NoSignals (step ∷ steps) = (is_signalled step.received ≡ false) × NoSignals steps

-- the values that steps received, in their order
abbrev pub values_in : List Step → List ℕ
values_in steps = filter_map (λ step. value_from_outside step.received) steps

-- the last step is that of `xexit`
abbrev pub EndsByExit : List Step → Type 0
EndsByExit steps =
    (before : List Step) × (last : Step) × (steps ≡ before ++ last ∷ []) × (last.end ≡ ended.Exit)

-- the next instruction receives: whatever value it is given, it does a step that was given that
-- value
abbrev pub Receives : State → Type 0
Receives p =
    (value : ℕ)
    → (step : Step) × ((plain p (given.Value value)).0 ≡ Did step)
    × (given_of step.received ≡ given.Value value)

-- Why a run of at most so many steps stopped, which made these steps to state p, with these values
-- left.
abbrev pub RunStops : PlainEnd → ℕ → List Step → State → List ℕ → Type 0
RunStops ending.Ended count steps p left = EndsByExit steps
RunStops ending.Steps count steps p left = (length steps ≡ count) × (p.over ≡ false)
RunStops (ending.Fault fault) count steps p left =
    (length steps < count) × ((plain p given.Nothing).0 ≡ Fault fault)
RunStops ending.Waiting count steps p left = (length steps < count) × (left ≡ []) × Receives p

-- A run is the image's program alone: its steps are those of the plain machine and so follow, all
-- of them; they are
-- at most so many; what they received are the given values from the first on, and no signal; and it
-- stopped for the
-- reason that it says.
pub record IsRunAlone (image : PlainImage) (count : ℕ) (values : List ℕ) (run : Run) : Type 0 where
  pub state : State
  pub left : List ℕ
  pub reaches : Reaches (start image) run.steps state
  pub follows : verdict_from (start image) run.steps 0 ≡ Follows (length run.steps)
  pub few : length run.steps ≤ count
  pub taken : values ≡ values_in run.steps ++ left
  pub unsignalled : NoSignals run.steps
  pub stops : RunStops run.end count run.steps state left

-- what is printed is the run of a program alone
abbrev pub RunsAlone : Type 0
RunsAlone =
    (image : PlainImage) (count : ℕ) (values : List ℕ)
    → IsRunAlone image count values (run_of_image image count values)

-- and there is no other
abbrev pub OneRun : Type 0
OneRun =
    (image : PlainImage) (count : ℕ) (values : List ℕ) (run : Run) → IsRunAlone image count values run
    → run ≡ run_of_image image count values
