-- When a list of steps is what an image's program does alone.
use Rattle.std.specs.Prelude.{ℕ, ◌≡◌, ◌≢◌, ◌+◌, Bool, false, List, [], ◌∷◌, ◌++◌, length, if◌then◌else◌}
use Rattle.xom_base.specs.Steps.{same_step}
use Rattle.xom_base.specs.declared.step.Received.{Received}
use Rattle.xom_base.specs.declared.step.Received.TheVariants as received
use Rattle.xom_base.specs.declared.step.Step.{Step}
use Rattle.mips_plain.specs.declared.given.Given.{Given}
use Rattle.mips_plain.specs.declared.given.Given.TheVariants as given
use Rattle.mips_plain.specs.declared.given.PlainStep.{PlainStep}
use Rattle.mips_plain.specs.declared.given.PlainStep.TheVariants.{Did}
use Rattle.mips_plain.specs.declared.verdict.Verdict.{Verdict}
use Rattle.mips_plain.specs.declared.verdict.Verdict.TheVariants.{Follows, Departs}
use Rattle.mips_plain.specs.Machine.{State, plain}

-- what a step was given: the value or signal that it received
abbrev pub given_of : Received → Given
given_of received.Nothing = given.Nothing
given_of (received.Cell value) = given.Value value
given_of (received.Null address value) = given.Value value
given_of (received.Signal n) = given.Signal n

-- from state p the plain machine does these steps, given what they received, and is then in state q
abbrev pub Reaches : State → List Step → State → Type 0
Reaches p [] q = q ≡ p
Reaches p (step ∷ steps) q =
    ((plain p (given_of step.received)).0 ≡ Did step) × Reaches (plain p (given_of step.received)).1
    steps q

-- the answer is this step
abbrev pub is_step : Step → PlainStep → Bool
is_step step (Did done) = same_step done step
is_step step other = false

-- all of the steps follow, or the first that doesn't is named; so many followed before
abbrev pub verdict_from : State → List Step → ℕ → Verdict
verdict_from p [] count = Follows count
verdict_from p (step ∷ steps) count =
    if is_step step (plain p (given_of step.received)).0
    then verdict_from (plain p (given_of step.received)).1 steps (count + 1)
    else Departs (count + 1)

-- a step that the plain machine doesn't do comes behind so many that it does
pub record DepartsAt (p : State) (steps : List Step) (place : ℕ) : Type 0 where
  pub before : List Step
  pub step : Step
  pub others : List Step
  pub state : State
  pub whole : steps ≡ before ++ step ∷ others
  pub place_is : place ≡ length before + 1
  pub reaches : Reaches p before state
  pub differs : (plain state (given_of step.received)).0 ≢ Did step

-- the steps of each run follow, all of them
abbrev pub RunsFollow : Type 0
RunsFollow =
    (p : State) (steps : List Step) (q : State) → Reaches p steps q
    → verdict_from p steps 0 ≡ Follows (length steps)

-- steps that follow are a run, and all are counted
abbrev pub FollowersRun : Type 0
FollowersRun =
    (p : State) (steps : List Step) (n : ℕ) → verdict_from p steps 0 ≡ Follows n
    → (n ≡ length steps) × ((q : State) × Reaches p steps q)

-- steps that depart do so at the first step that the plain machine doesn't do
abbrev pub OthersDepart : Type 0
OthersDepart =
    (p : State) (steps : List Step) (n : ℕ) → verdict_from p steps 0 ≡ Departs n
    → DepartsAt p steps n
