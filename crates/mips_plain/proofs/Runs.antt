-- Runs of the plain machine: how they grow, and that a list of steps follows exactly where it is
-- one.
use Rattle.std.proofs.Common.{◌≡◌, ℕ, ◌+◌, Bool, true, false, if◌then◌else◌, List, [], ◌∷◌, ◌++◌, length, refl, sym, ◌∙◌, ap, subst, ◌⊎◌, inl, inr, arith}
use Rattle.xom_base.specs.declared.step.Step.{Step}
use Rattle.xom_base.proofs.StepLaws.{same_step-same}
use Rattle.mips_plain.specs.declared.given.PlainStep.{PlainStep}
use Rattle.mips_plain.specs.declared.given.PlainStep.TheVariants.{Did, Fault, Unfit, Over}
use Rattle.mips_plain.specs.declared.verdict.Verdict.{Verdict}
use Rattle.mips_plain.specs.declared.verdict.Verdict.TheVariants.{Follows, Departs}
use Rattle.mips_plain.specs.Machine.{State, plain}
use Rattle.mips_plain.specs.Follows.{given_of, Reaches, is_step, verdict_from, DepartsAt, RunsFollow, FollowersRun, OthersDepart}
use Rattle.mips_plain.proofs.SameSteps.{same_step-equal}

-- a run and one more step is a run
pub Reaches-more : (p : State) (steps : List Step) (q : State) (step : Step) → Reaches p steps q
    → (plain q (given_of step.received)).0 ≡ Did step
    → Reaches p (steps ++ step ∷ []) (plain q (given_of step.received)).1
Reaches-more p [] q step reaches did = (
  ap (λ s. (plain s (given_of step.received)).0) (sym reaches)
      ∙ did,
  ap (λ s. (plain s (given_of step.received)).1) reaches,
)
Reaches-more p (first ∷ steps) q step reaches did =
    (reaches.0, Reaches-more (plain p (given_of first.received)).1 steps q step reaches.1 did)

-- the answer is the step that was done
is_step-did : (step : Step) (answer : PlainStep) → answer ≡ Did step → is_step step answer ≡ true
is_step-did step answer did = ap (is_step step) did ∙ same_step-same step

-- an answer that is the step did it
did-is_step : (step : Step) (answer : PlainStep) → is_step step answer ≡ true → answer ≡ Did step
did-is_step step (Did done) same = ap Did (same_step-equal done step same)
did-is_step step (Fault fault) same = cc
did-is_step step Unfit same = cc
did-is_step step Over same = cc

-- a verdict goes on where the step is done
verdict-goes_on : (b : Bool) (rest : Verdict) (count : ℕ) → b ≡ true
    → (if b then rest else Departs (count + 1)) ≡ rest
verdict-goes_on true rest count done = refl
verdict-goes_on false rest count done = cc

-- a verdict that follows went on
went_on-verdict : (b : Bool) (rest : Verdict) (count n : ℕ)
    → (if b then rest else Departs (count + 1)) ≡ Follows n → (b ≡ true) × (rest ≡ Follows n)
went_on-verdict true rest count n follows = (refl, follows)
went_on-verdict false rest count n follows = cc

-- a run follows, whole
pub verdict-of_reaches : (p : State) (steps : List Step) (q : State) (count : ℕ) → Reaches p steps q
    → verdict_from p steps count ≡ Follows (count + length steps)
verdict-of_reaches p [] q count reaches = ap Follows (omega arith)
verdict-of_reaches p (step ∷ steps) q count reaches =
    verdict-goes_on _ _ count (is_step-did step _ reaches.0)
    ∙ verdict-of_reaches (plain p (given_of step.received)).1 steps q (count + 1) reaches.1
    ∙ ap Follows (omega arith)

-- what follows is a run
pub reaches-of_verdict : (p : State) (steps : List Step) (count n : ℕ)
    → verdict_from p steps count ≡ Follows n → (q : State) × Reaches p steps q
reaches-of_verdict p [] count n follows = (p, refl)
reaches-of_verdict p (step ∷ steps) count n follows =
    let here = went_on-verdict _ _ count n follows in
    let rest = reaches-of_verdict (plain p (given_of step.received)).1 steps (count + 1) n here.1 in
    (rest.0, (did-is_step step _ here.0, rest.1))

-- what follows counts all of its steps
count-of_verdict : (p : State) (steps : List Step) (count n : ℕ)
    → verdict_from p steps count ≡ Follows n → n ≡ count + length steps
count-of_verdict p steps count n follows =
    let run = reaches-of_verdict p steps count n follows in
    let counted : Follows n ≡ Follows (count + length steps) = sym follows ∙ verdict-of_reaches p
    steps run.0 count run.1 in
    cc

-- a verdict that departs did so here, or went on
departed-verdict : (b : Bool) (rest : Verdict) (count n : ℕ)
    → (if b then rest else Departs (count + 1)) ≡ Departs n
    → ((b ≡ false) × (n ≡ count + 1)) ⊎ ((b ≡ true) × (rest ≡ Departs n))
departed-verdict true rest count n departs = inr (refl, departs)
departed-verdict false rest count n departs = inl (refl, cc)

-- a departure behind one more step that is done
departs-behind : (p : State) (step : Step) (steps : List Step) (place : ℕ)
    → (plain p (given_of step.received)).0 ≡ Did step
    → DepartsAt (plain p (given_of step.received)).1 steps place
    → DepartsAt p (step ∷ steps) (place + 1)
departs-behind p step steps place done found = record {
  before = step ∷ found.before;
  step = found.step;
  others = found.others;
  state = found.state;
  whole = ap (λ rest. step ∷ rest) found.whole;
  place_is = omega (arith, found.place_is);
  reaches = (done, found.reaches);
  differs = found.differs;
}

-- a departure at once
departs-at_once : (p : State) (step : Step) (steps : List Step)
    → is_step step (plain p (given_of step.received)).0 ≡ false → DepartsAt p (step ∷ steps) 1
departs-at_once p step steps other = record {
  before = [];
  step = step;
  others = steps;
  state = p;
  whole = refl;
  place_is = refl;
  reaches = refl;
  differs = λ done. let same = is_step-did step (plain p (given_of step.received)).0 done in cc;
}

-- what departs does so behind a run
departs-of_verdict : (p : State) (steps : List Step) (count n : ℕ)
    → verdict_from p steps count ≡ Departs n
    → (place : ℕ) × (n ≡ count + place) × DepartsAt p steps place
departs-of_verdict p [] count n departs = cc
departs-of_verdict p (step ∷ steps) count n departs =
    elim (departed-verdict (is_step step (plain p (given_of step.received)).0)
    (verdict_from (plain p (given_of step.received)).1 steps (count + 1)) count n departs) [
      | inl here ↦ (1, here.1, departs-at_once p step steps here.0)
      | inr later ↦
          let found = departs-of_verdict (plain p (given_of step.received)).1 steps (count + 1) n
          later.1 in (
            found.0 + 1,
            omega (arith, found.1),
            departs-behind p step steps found.0
                (did-is_step step (plain p (given_of step.received)).0 later.0) found.2,
          )
    ]

-- the three laws together
pub runs_follow : RunsFollow
runs_follow p steps q reaches = verdict-of_reaches p steps q 0 reaches ∙ ap Follows (omega arith)

pub followers_run : FollowersRun
followers_run p steps n follows =
    (count-of_verdict p steps 0 n follows ∙ omega arith, reaches-of_verdict p steps 0 n follows)

pub others_depart : OthersDepart
others_depart p steps n departs =
    let found = departs-of_verdict p steps 0 n departs in
    subst (DepartsAt p steps) (sym (found.1 ∙ omega arith)) found.2
