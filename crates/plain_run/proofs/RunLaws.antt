-- Runs, one step after another.
use Rattle.std.proofs.Common.{◌≡◌, ℕ, zero, suc, if◌then◌else◌, ◌-◌, ◌<◌, ◌≤◌, ◌++◌, List, ◌∷◌, Bool, refl, sym, ap, ◌∙◌, append-nil, append_assoc, arith}
use Rattle.std.specs.List.{flat_map}
use Rattle.xom_base.specs.declared.step.Step.{Step}
use Rattle.mips_plain.specs.declared.given.PlainStep.TheVariants.{Did}
use Rattle.mips_plain.specs.Machine.{State}
use Rattle.plain_run.specs.Runs.{NextOfRun, Run, next, run_alone_from, run_goes_on, step_line, stops, text_behind}
use Rattle.plain_run.specs.declared.ending.PlainEnd.{PlainEnd}
use Rattle.plain_run.specs.declared.ending.PlainEnd.TheVariants as ending

-- a run that may go on does what is next
pub one_more : (count : ℕ) (p : State) (values : List ℕ) {m : NextOfRun} → 0 < count → m ≡ next p values
    → run_alone_from count p values ≡ run_goes_on m.answer (run_alone_from (count - 1) m.state m.values)
unfolding run_alone_from
one_more zero p values {m} some is = absurd (omega arith)
one_more (suc count) p values {m} some is =
    let before : suc count - 1 ≡ count = omega arith in
    rw (before, is) refl

-- a run of no further step
pub none_more : (count : ℕ) (p : State) (values : List ℕ) {over : Bool} → count ≤ 0 → p.over ≡ over
    → run_alone_from count p values ≡ stops (if over then ending.Ended else ending.Steps)
unfolding run_alone_from
none_more zero p values {over} none is =
    ap (λ (b : Bool). stops (if b then ending.Ended else ending.Steps)) is
none_more (suc count) p values {over} none is = absurd (omega arith)

-- nothing is added where no step is made
pub behind-stops : (text : List ℕ) (end : PlainEnd) → text_behind text (stops end) ≡ (text, end)
behind-stops text end = ap (λ (t : List ℕ). (t, end)) (append-nil text)

-- the line of a step and those of the run behind it
pub behind-step : (text : List ℕ) (step : Step) (run : Run)
    → text_behind (text ++ step_line step) run ≡ text_behind text
    (record { steps = step ∷ run.steps; end = run.end })
behind-step text step run =
    ap (λ (t : List ℕ). (t, run.end))
    (append_assoc text (step_line step) (flat_map step_line run.steps))

-- the whole, where no step is made
pub stopped : {total : List ℕ × PlainEnd} (text : List ℕ) {run : Run} {end : PlainEnd}
    → run ≡ stops end → text_behind text run ≡ total → (text, end) ≡ total
stopped text {run} {end} is whole =
    sym (behind-stops text end) ∙ (ap (text_behind text) (sym is) ∙ whole)

-- the whole, where what is next is no step
pub ended_next : {total : List ℕ × PlainEnd} (text : List ℕ) (count : ℕ) (p : State)
    (values : List ℕ) {m : NextOfRun} {end : PlainEnd}
    → 0 < count → m ≡ next p values → ((run : Run) → run_goes_on m.answer run ≡ stops end)
    → text_behind text (run_alone_from count p values) ≡ total
    → (text, end) ≡ total
ended_next text count p values {m} {end} some is ends whole =
    stopped text (one_more count p values some is ∙ ends (run_alone_from (count - 1) m.state m.values))
    whole

-- the whole, where one step is made
pub went_on : {total : List ℕ × PlainEnd} (text new : List ℕ) (step : Step) (rest : Run) {run : Run}
    → new ≡ text ++ step_line step → run ≡ run_goes_on (Did step) rest → text_behind text run ≡ total
    → text_behind new rest ≡ total
went_on text new step rest {run} added is whole =
    ap (λ (t : List ℕ). text_behind t rest) added
    ∙ (behind-step text step rest ∙ (ap (text_behind text) (sym is) ∙ whole))
