-- A program run alone: its steps, why it stopped, and the text of both.
use Rattle.std.specs.Prelude.{ℕ, zero, suc, List, [], ◌∷◌, ◌++◌, codes, if◌then◌else◌}
use Rattle.std.specs.List.{flat_map}
use Rattle.xom_base.specs.declared.image.PlainImage.{PlainImage}
use Rattle.xom_base.specs.declared.step.Step.{Step}
use Rattle.mips_plain.specs.declared.given.Given.TheVariants as given
use Rattle.mips_plain.specs.declared.given.PlainStep.{PlainStep}
use Rattle.mips_plain.specs.declared.given.PlainStep.TheVariants.{Did, Fault, Unfit, Over}
use Rattle.mips_plain.specs.Machine.{State, plain, start}
use Rattle.step_text.specs.StepTexts.{own_fault_text, step_fields}
use Rattle.plain_run.specs.declared.ending.PlainEnd.{PlainEnd}
use Rattle.plain_run.specs.declared.ending.PlainEnd.TheVariants as ending

-- the steps that were made, and why no further one was
pub record Run : Type 0 where
  pub steps : List Step
  pub end : PlainEnd

-- What the machine does next: its answer, its state behind it, and the values left then.
pub record NextOfRun : Type 0 where
  pub answer : PlainStep
  pub state : State
  pub values : List ℕ

-- given a value
abbrev pub with_value : State → ℕ → List ℕ → NextOfRun
with_value p value values = record {
  answer = (plain p (given.Value value)).0;
  state =
      (plain p (given.Value value)).1;
  values = values;
}

-- an instruction that needs something to be given gets the next value, where one is left
abbrev pub next_after : State → PlainStep × State → List ℕ → NextOfRun
next_after p (Unfit, q) (value ∷ values) = with_value p value values
next_after p (answer, q) values = record { answer = answer; state = q; values = values }

-- what is done next: nothing is given but to an instruction that receives
unfoldable pub next : State → List ℕ → NextOfRun
next p values = next_after p (plain p given.Nothing) values

-- no further step
abbrev pub stops : PlainEnd → Run
stops end = record { steps = []; end = end }

-- what an answer comes to, where this run would come behind a step
abbrev pub run_goes_on : PlainStep → Run → Run
run_goes_on (Did step) run = record { steps = step ∷ run.steps; end = run.end }
run_goes_on (Fault fault) run = stops (ending.Fault fault)
run_goes_on Unfit run = stops ending.Waiting
run_goes_on Over run = stops ending.Ended

-- the run of at most so many further steps from a state, with these values for what it receives
unfoldable pub run_alone_from : ℕ → State → List ℕ → Run
run_alone_from zero p values = stops (if p.over then ending.Ended else ending.Steps)
run_alone_from (suc count) p values =
    run_goes_on (next p values).answer (run_alone_from count (next p values).state (next p values).values)

-- the run of an image's program, of at most so many steps
abbrev pub run_of_image : PlainImage → ℕ → List ℕ → Run
run_of_image image count values = run_alone_from count (start image) values

-- a step has a line of its own
abbrev pub step_line : Step → List ℕ
step_line step = step_fields step ++ 10 ∷ []

-- why a run stopped, as its last line says it
abbrev pub plain_end_text : PlainEnd → List ℕ
plain_end_text ending.Ended = codes "ended"
plain_end_text ending.Steps = codes "steps"
plain_end_text (ending.Fault fault) = codes "fault " ++ own_fault_text fault
plain_end_text ending.Waiting = codes "waiting"

-- a text with the lines of a run's steps behind it, and why the run stopped
abbrev pub text_behind : List ℕ → Run → List ℕ × PlainEnd
text_behind text run = (text ++ flat_map step_line run.steps, run.end)

-- the lines of a run: its steps, and behind them why it stopped
abbrev pub lines_text : Run → List ℕ
lines_text run = flat_map step_line run.steps ++ (plain_end_text run.end ++ 10 ∷ [])

-- what is printed of an image's program
unfoldable pub run_text : PlainImage → ℕ → List ℕ → List ℕ
run_text image count values = lines_text (run_of_image image count values)
