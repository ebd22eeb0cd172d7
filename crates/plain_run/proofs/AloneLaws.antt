-- A run is the program alone, and there is just one.
use Rattle.std.proofs.Common.{◌≡◌, ℕ, zero, suc, ◌≤◌, ◌<◌, ◌++◌, List, [], ◌∷◌, length, Option, Some, None, Bool, true, false, if◌then◌else◌, refl, sym, ap, subst, ◌∙◌, arith}
use Rattle.std.specs.List.{cons_option}
use Rattle.xom_base.specs.declared.image.PlainImage.{PlainImage}
use Rattle.xom_base.specs.declared.event.OwnFault.{OwnFault}
use Rattle.xom_base.specs.declared.step.Received.{Received}
use Rattle.xom_base.specs.declared.step.Received.TheVariants as received
use Rattle.xom_base.specs.declared.step.StepEnd.TheVariants as ended
use Rattle.xom_base.specs.declared.step.Step.{Step}
use Rattle.mips_plain.specs.declared.given.Given.{Given}
use Rattle.mips_plain.specs.declared.given.Given.TheVariants as given
use Rattle.mips_plain.specs.declared.given.PlainStep.{PlainStep}
use Rattle.mips_plain.specs.declared.given.PlainStep.TheVariants.{Did, Fault, Unfit, Over}
use Rattle.mips_plain.specs.Follows.{given_of, Reaches}
use Rattle.mips_plain.specs.Machine.{State, is_exit, plain, start}
use Rattle.mips_plain.proofs.Runs.{runs_follow}
use Rattle.plain_run.specs.declared.ending.PlainEnd.{PlainEnd}
use Rattle.plain_run.specs.declared.ending.PlainEnd.TheVariants as ending
use Rattle.plain_run.specs.Laws.{EndsByExit, NoSignals, OneRun, Receives, RunStops, RunsAlone, is_signalled, value_from_outside, values_in}
use Rattle.plain_run.specs.Runs.{Run, next, next_after, run_alone_from, run_goes_on, run_of_image, stops, with_value}
use Rattle.plain_run.proofs.RunLaws.{none_more}
use Rattle.plain_run.proofs.Steps.{exit_is, is_over, nothing_received, over_answers, over_of_exit, unfit_receives, value_needed}

-- ---- what is next

after_other : (p : State) (r : PlainStep × State) (values : List ℕ) (answer : PlainStep)
    → r.0 ≡ answer → (answer ≡ Unfit → ⊥) → next_after p r values ≡ record {
      answer = answer;
      state =
          r.1;
      values = values;
    }
after_other p (Did step, q) values answer is other = cc
after_other p (Fault fault, q) values answer is other = cc
after_other p (Unfit, q) values answer is other = absurd (other (sym is))
after_other p (Over, q) values answer is other = cc

after_value : (p : State) (r : PlainStep × State) (value : ℕ) (values : List ℕ) → r.0 ≡ Unfit
    → next_after p r (value ∷ values) ≡ with_value p value values
after_value p (Did step, q) value values unfit = cc
after_value p (Fault fault, q) value values unfit = cc
after_value p (Unfit, q) value values unfit = refl
after_value p (Over, q) value values unfit = cc

after_none : (p : State) (r : PlainStep × State) → r.0 ≡ Unfit → (next_after p r []).answer ≡ Unfit
after_none p (Did step, q) unfit = cc
after_none p (Fault fault, q) unfit = cc
after_none p (Unfit, q) unfit = refl
after_none p (Over, q) unfit = cc

-- a step to which nothing is given, in front of the run behind it
run_did : (count : ℕ) (p : State) (values : List ℕ) (step : Step)
    → (plain p given.Nothing).0 ≡ Did step
    → run_alone_from (suc count) p values ≡ run_goes_on (Did step) (run_alone_from count (plain p given.Nothing).1
    values)
unfolding run_alone_from next
run_did count p values step did =
    rw (after_other p (plain p given.Nothing) values (Did step) did (λ h. cc)) refl

-- a step to which a value is given
run_given : (count : ℕ) (p : State) (value : ℕ) (values : List ℕ) (step : Step)
    → (plain p (given.Value value)).0 ≡ Did step
    → run_alone_from (suc count) p (value ∷ values) ≡ run_goes_on (Did step)
    (run_alone_from count (plain p (given.Value value)).1 values)
unfolding run_alone_from next
run_given count p value values step did =
    rw (after_value p (plain p given.Nothing) value values (value_needed p value step did))
    (ap (λ (answer : PlainStep). run_goes_on answer (run_alone_from count (plain p (given.Value value)).1
    values)) did)

-- a fault is next
run_fault : (count : ℕ) (p : State) (values : List ℕ) (fault : OwnFault)
    → (plain p given.Nothing).0 ≡ Fault fault
    → run_alone_from (suc count) p values ≡ stops (ending.Fault fault)
unfolding run_alone_from next
run_fault count p values fault is =
    rw (after_other p (plain p given.Nothing) values (Fault fault) is (λ h. cc)) refl

-- nothing is next
run_over : (count : ℕ) (p : State) (values : List ℕ) → (plain p given.Nothing).0 ≡ Over
    → run_alone_from (suc count) p values ≡ stops ending.Ended
unfolding run_alone_from next
run_over count p values is =
    rw (after_other p (plain p given.Nothing) values Over is (λ h. cc)) refl

-- a value is needed, and none is left
run_waits : (count : ℕ) (p : State) → (plain p given.Nothing).0 ≡ Unfit
    → run_alone_from (suc count) p [] ≡ stops ending.Waiting
unfolding run_alone_from next
run_waits count p is =
    ap
    (λ (answer : PlainStep). run_goes_on answer
    (run_alone_from count (next_after p (plain p given.Nothing) []).state
    (next_after p (plain p given.Nothing) []).values))
    (after_none p (plain p given.Nothing) is)

-- ---- a run is the program alone

-- the same reasons, from any state: ended is told by the state
abbrev StopsAt : PlainEnd → ℕ → List Step → State → List ℕ → Type 0
StopsAt ending.Ended count steps p left = p.over ≡ true
StopsAt ending.Steps count steps p left = (length steps ≡ count) × (p.over ≡ false)
StopsAt (ending.Fault fault) count steps p left =
    (length steps < count) × ((plain p given.Nothing).0 ≡ Fault fault)
StopsAt ending.Waiting count steps p left = (length steps < count) × (left ≡ []) × Receives p

record From (p : State) (count : ℕ) (values : List ℕ) (run : Run) : Type 0 where
  state : State
  left : List ℕ
  reaches : Reaches p run.steps state
  few : length run.steps ≤ count
  taken : values ≡ values_in run.steps ++ left
  unsignalled : NoSignals run.steps
  stops_at : StopsAt run.end count run.steps state left

-- a reason behind one more step
stops_later : (end : PlainEnd) (count : ℕ) (step : Step) (steps : List Step) (p : State)
    (left : List ℕ)
    → StopsAt end count steps p left → StopsAt end (suc count) (step ∷ steps) p left
stops_later ending.Ended count step steps p left h = h
stops_later ending.Steps count step steps p left h = (omega (arith, h.0), h.1)
stops_later (ending.Fault fault) count step steps p left h = (omega (arith, h.0), h.1)
stops_later ending.Waiting count step steps p left h = (omega (arith, h.0), h.1, h.2)

-- no step
from_stops : (p : State) (count : ℕ) (values : List ℕ) (end : PlainEnd)
    → StopsAt end count [] p values → From p count values (stops end)
from_stops p count values end why = record {
  state = p;
  left = values;
  reaches = refl;
  few =
      omega arith;
  taken = refl;
  unsignalled = tt;
  stops_at = why;
}

-- a value in front of two lists
joined : (value : Option ℕ) (front behind : List ℕ)
    → cons_option value (front ++ behind) ≡ cons_option value front ++ behind
joined None front behind = refl
joined (Some value) front behind = refl

-- a step that was given a value received it, and no signal
given_value : (r : Received) (value : ℕ) → given_of r ≡ given.Value value
    → (value_from_outside r ≡ Some value) × (is_signalled r ≡ false)
given_value received.Nothing value is = absurd (cc)
given_value (received.Cell v) value is = (cc, refl)
given_value (received.Null address v) value is = (cc, refl)
given_value (received.Signal n) value is = absurd (cc)

-- one more step in front
from_step : (p : State) (count : ℕ) (values others : List ℕ) (step : Step) (run : Run)
    → (plain p (given_of step.received)).0 ≡ Did step
    → values ≡ cons_option (value_from_outside step.received) others → is_signalled step.received ≡ false
    → From (plain p (given_of step.received)).1 count others run
    → From p (suc count) values (run_goes_on (Did step) run)
from_step p count values others step run did is no_signal behind = record {
  state = behind.state;
  left = behind.left;
  reaches = (did, behind.reaches);
  few = omega (arith, behind.few);
  taken = is ∙ (ap (cons_option (value_from_outside step.received)) behind.taken
      ∙ joined (value_from_outside step.received) (values_in run.steps) behind.left);
  unsignalled = (no_signal, behind.unsignalled);
  stops_at = stops_later run.end count step run.steps behind.state behind.left behind.stops_at;
}

from_given : (p : State) (count : ℕ) (values others : List ℕ) (g : Given) (step : Step) (run : Run)
    → given_of step.received ≡ g → (plain p g).0 ≡ Did step
    → values ≡ cons_option (value_from_outside step.received) others → is_signalled step.received ≡ false
    → From (plain p g).1 count others run → From p (suc count) values (run_goes_on (Did step) run)
from_given p count values others g step run is did taken no_signal behind =
    from_step p count values others step run (ap (λ (g : Given). (plain p g).0) is ∙ did) taken
    no_signal
    (subst (λ (g : Given). From (plain p g).1 count others run) (sym is) behind)

-- no further step may be made
from_last : (p : State) (values : List ℕ) (over : Bool) → p.over ≡ over
    → From p 0 values (stops (if over then ending.Ended else ending.Steps))
from_last p values true is = from_stops p 0 values ending.Ended is
from_last p values false is = from_stops p 0 values ending.Steps (refl, is)

-- a further step may be made
from_next : (count : ℕ) (p : State) (values : List ℕ) (answer : PlainStep)
    → (plain p given.Nothing).0 ≡ answer
    → ((q : State) (others : List ℕ) → From q count others (run_alone_from count q others))
    → From p (suc count) values (run_alone_from (suc count) p values)
from_next count p values (Did step) is behind =
    let nothing = nothing_received p step is in
    rw (run_did count p values step is)
    (from_given p count values values given.Nothing step (run_alone_from count (plain p given.Nothing).1
    values) (ap given_of nothing) is
    (sym (ap (λ (r : Received). cons_option (value_from_outside r) values) nothing)) (ap is_signalled nothing)
    (behind (plain p given.Nothing).1 values))
from_next count p values (Fault fault) is behind =
    rw (run_fault count p values fault is) (from_stops p (suc count) values (ending.Fault fault)
    (omega arith, is))
from_next count p [] Unfit is behind =
    rw (run_waits count p is) (from_stops p (suc count) [] ending.Waiting
    (omega arith, refl, λ value. unfit_receives p value is))
from_next count p (value ∷ values) Unfit is behind =
    let taken = unfit_receives p value is in
    let came = given_value taken.0.received value taken.2 in
    rw (run_given count p value values taken.0 taken.1)
    (from_given p count (value ∷ values) values (given.Value value) taken.0
    (run_alone_from count (plain p (given.Value value)).1 values) taken.2 taken.1
    (sym (ap (λ (o : Option ℕ). cons_option o values) came.0)) came.1
    (behind (plain p (given.Value value)).1 values))
from_next count p values Over is behind =
    rw (run_over count p values is) (from_stops p (suc count) values ending.Ended (is_over p is))

from_run : (count : ℕ) (p : State) (values : List ℕ) → From p count values (run_alone_from count p values)
from_run zero p values =
    rw (none_more 0 p values (omega arith) refl) (from_last p values p.over refl)
from_run (suc count) p values =
    from_next count p values (plain p given.Nothing).0 refl (from_run count)

-- ---- the last step is an exit where the machine is over

-- a machine that is over does no step
over_stays : (p : State) (steps : List Step) (q : State) → p.over ≡ true → Reaches p steps q
    → steps ≡ []
over_stays p [] q over reaches = refl
over_stays p (step ∷ steps) q over reaches =
    let none = over_answers p (given_of step.received) over in cc

exit_first : (p : State) (step : Step) (steps : List Step) (q : State) (exits : Bool)
    → is_exit step.end ≡ exits → (plain p (given_of step.received)).0 ≡ Did step
    → Reaches (plain p (given_of step.received)).1 steps q
    → ((plain p (given_of step.received)).1.over ≡ false → EndsByExit steps)
    → EndsByExit (step ∷ steps)
exit_first p step steps q true exits did reaches behind =
    let none = over_stays (plain p (given_of step.received)).1 steps q
    (over_of_exit p (given_of step.received) step did ∙ exits) reaches in
    ([], step, ap (λ (steps : List Step). step ∷ steps) none, exit_is step.end exits)
exit_first p step steps q false exits did reaches behind =
    let last = behind (over_of_exit p (given_of step.received) step did ∙ exits) in
    (step ∷ last.0, last.1, ap (λ (steps : List Step). step ∷ steps) last.2, last.3)

exit_last : (p : State) (steps : List Step) (q : State) → p.over ≡ false → Reaches p steps q
    → q.over ≡ true → EndsByExit steps
exit_last p [] q over reaches is = let same = ap (λ (s : State). s.over) reaches in cc
exit_last p (step ∷ steps) q over reaches is =
    exit_first p step steps q (is_exit step.end) refl reaches.0 reaches.1
    (λ going. exit_last (plain p (given_of step.received)).1 steps q going reaches.1 is)

-- behind a last step that is an exit the machine is over
last_over : (p : State) (before : List Step) (last : Step) (q : State)
    → Reaches p (before ++ last ∷ []) q → last.end ≡ ended.Exit → q.over ≡ true
last_over p [] last q reaches exit =
    ap (λ (s : State). s.over) reaches.1 ∙ (over_of_exit p (given_of last.received) last reaches.0
    ∙ ap is_exit exit)
last_over p (step ∷ before) last q reaches exit =
    last_over (plain p (given_of step.received)).1 before last q reaches.1 exit

not_over : (image : PlainImage) → (start image).over ≡ false
unfolding start
not_over image = refl

-- the reason in the words of the law
stops_so : (image : PlainImage) (end : PlainEnd) (count : ℕ) (steps : List Step) (p : State)
    (left : List ℕ)
    → Reaches (start image) steps p → StopsAt end count steps p left → RunStops end count steps p left
stops_so image ending.Ended count steps p left reaches why =
    exit_last (start image) steps p (not_over image) reaches why
stops_so image ending.Steps count steps p left reaches why = why
stops_so image (ending.Fault fault) count steps p left reaches why = why
stops_so image ending.Waiting count steps p left reaches why = why

so_stops : (image : PlainImage) (end : PlainEnd) (count : ℕ) (steps : List Step) (p : State)
    (left : List ℕ)
    → Reaches (start image) steps p → RunStops end count steps p left → StopsAt end count steps p left
so_stops image ending.Ended count steps p left reaches why =
    last_over (start image) why.0 why.1 p
    (subst (λ (steps : List Step). Reaches (start image) steps p) why.2 reaches) why.3
so_stops image ending.Steps count steps p left reaches why = why
so_stops image (ending.Fault fault) count steps p left reaches why = why
so_stops image ending.Waiting count steps p left reaches why = why

pub runs_alone : RunsAlone
runs_alone image count values =
    let from = from_run count (start image) values in
    record {
      state = from.state;
      left = from.left;
      reaches = from.reaches;
      follows = runs_follow (start image) (run_of_image image count values).steps from.state from.reaches;
      few = from.few;
      taken = from.taken;
      unsignalled = from.unsignalled;
      stops = stops_so image (run_of_image image count values).end count (run_of_image image count values).steps
          from.state from.left from.reaches from.stops_at;
    }

-- ---- there is no other

-- a run of no step stops for that reason
one_stops : (p q : State) (count : ℕ) (values : List ℕ) (end : PlainEnd) → q ≡ p
    → StopsAt end count [] q values → stops end ≡ run_alone_from count p values
one_stops p q zero values ending.Ended same why =
    sym (none_more 0 p values (omega arith) (ap (λ (s : State). s.over) (sym same) ∙ why))
one_stops p q (suc count) values ending.Ended same why =
    sym
    (run_over count p values (over_answers p given.Nothing (ap (λ (s : State). s.over) (sym same)
    ∙ why)))
one_stops p q zero values ending.Steps same why =
    sym (none_more 0 p values (omega arith) (ap (λ (s : State). s.over) (sym same) ∙ why.1))
one_stops p q (suc count) values ending.Steps same why = absurd (omega (arith, why.0))
one_stops p q zero values (ending.Fault fault) same why = absurd (omega (arith, why.0))
one_stops p q (suc count) values (ending.Fault fault) same why =
    sym
    (run_fault count p values fault (ap (λ (s : State). (plain s given.Nothing).0) (sym same)
    ∙ why.1))
one_stops p q zero values ending.Waiting same why = absurd (omega (arith, why.0))
one_stops p q (suc count) values ending.Waiting same why =
    let taken = why.2 0 in
    let unfit : (plain p given.Nothing).0 ≡ Unfit = ap (λ (s : State). (plain s given.Nothing).0)
    (sym same) ∙ value_needed q 0 taken.0 taken.1 in
    sym (ap (run_alone_from (suc count) p) why.1 ∙ run_waits count p unfit)

-- a reason in front of one step fewer
stops_sooner : (end : PlainEnd) (count : ℕ) (step : Step) (steps : List Step) (p : State)
    (left : List ℕ)
    → StopsAt end (suc count) (step ∷ steps) p left → StopsAt end count steps p left
stops_sooner ending.Ended count step steps p left h = h
stops_sooner ending.Steps count step steps p left h = (omega (arith, h.0), h.1)
stops_sooner (ending.Fault fault) count step steps p left h = (omega (arith, h.0), h.1)
stops_sooner ending.Waiting count step steps p left h = (omega (arith, h.0), h.1, h.2)

-- one step of the run, by what it received
one_step : (count : ℕ) (p : State) (values others : List ℕ) (step : Step) (got : Received)
    → step.received ≡ got → is_signalled got ≡ false → (plain p (given_of got)).0 ≡ Did step
    → values ≡ cons_option (value_from_outside got) others
    → run_alone_from (suc count) p values ≡ run_goes_on (Did step) (run_alone_from count (plain p (given_of got)).1
    others)
one_step count p values others step received.Nothing is no_signal did taken =
    rw taken (run_did count p others step did)
one_step count p values others step (received.Cell value) is no_signal did taken =
    rw taken (run_given count p value others step did)
one_step count p values others step (received.Null address value) is no_signal did taken =
    rw taken (run_given count p value others step did)
one_step count p values others step (received.Signal n) is no_signal did taken = cc

one_from : (steps : List Step) (end : PlainEnd) (count : ℕ) (p q : State) (values left : List ℕ)
    → Reaches p steps q → length steps ≤ count → values ≡ values_in steps ++ left → NoSignals steps
    → StopsAt end count steps q left → record { steps = steps; end = end } ≡ run_alone_from count p values
one_from [] end count p q values left reaches few taken no_signals why =
    one_stops p q count values end reaches
    (subst (λ (values : List ℕ). StopsAt end count [] q values) (sym taken) why)
one_from (step ∷ steps) end zero p q values left reaches few taken no_signals why =
    absurd (omega arith)
one_from (step ∷ steps) end (suc count) p q values left reaches few taken no_signals why =
    let behind = one_from steps end count (plain p (given_of step.received)).1 q
    (values_in steps ++ left) left reaches.1 (omega arith) refl no_signals.1
    (stops_sooner end count step steps q left why) in
    sym (one_step count p values (values_in steps ++ left) step step.received refl no_signals.0
    reaches.0 (taken ∙ sym (joined (value_from_outside step.received) (values_in steps) left))
    ∙ ap (run_goes_on (Did step)) (sym behind))

pub one_run : OneRun
one_run image count values run alone =
    one_from run.steps run.end count (start image) alone.state values alone.left alone.reaches
    alone.few alone.taken alone.unsignalled
    (so_stops image run.end count run.steps alone.state alone.left alone.reaches alone.stops)
