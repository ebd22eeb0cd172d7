-- What the plain machine answers where nothing, or a value, is given.
use Rattle.std.proofs.Common.{◌≡◌, ℕ, Bool, true, false, ◌&&◌, if◌then◌else◌, Result, Ok, Err, refl, subst, sym, ap, ◌∙◌}
use Rattle.xom_base.specs.declared.event.OwnFault.{OwnFault}
use Rattle.xom_base.specs.declared.step.Writes.{Writes}
use Rattle.xom_base.specs.declared.step.Received.{Received}
use Rattle.xom_base.specs.declared.step.Received.TheVariants as received
use Rattle.xom_base.specs.declared.step.StepEnd.{StepEnd}
use Rattle.xom_base.specs.declared.step.StepEnd.TheVariants as ended
use Rattle.xom_base.specs.declared.step.Step.{Step}
use Rattle.mips_effect.specs.declared.effects.Effect.{Effect}
use Rattle.mips_effect.specs.declared.wish.Wish.{Wish}
use Rattle.mips_effect.specs.declared.wish.Wish.TheVariants as wish
use Rattle.mips_plain.specs.declared.given.Given.{Given}
use Rattle.mips_plain.specs.declared.given.Given.TheVariants as given
use Rattle.mips_plain.specs.declared.given.PlainStep.{PlainStep}
use Rattle.mips_plain.specs.declared.given.PlainStep.TheVariants.{Did, Unfit, Over}
use Rattle.mips_plain.specs.Instruction.{effect_at, instruction_in, is_signal, is_signal_ready, receives_value, signal_step, step_made, step_of_wish, word_for}
use Rattle.mips_plain.specs.Follows.{given_of}
use Rattle.mips_plain.specs.Machine.{State, answer_to, is_exit, plain, seen_of_cell, state_after_signal, step_done}

-- of two answers, where the one that is no step changes nothing
chosen_stays : (b : Bool) (s : State) (x y : PlainStep × State) → (x.0 ≡ Unfit → x.1 ≡ s)
    → (y.0 ≡ Unfit → y.1 ≡ s) → (if b then x else y).0 ≡ Unfit → (if b then x else y).1 ≡ s
chosen_stays true s x y f g unfit = f unfit
chosen_stays false s x y f g unfit = g unfit

did_stays : (s : State) (effect : Effect) (got : ℕ) → (step_done s effect got).0 ≡ Unfit
    → (step_done s effect got).1 ≡ s
did_stays s effect got unfit = cc

answered_stays : (s : State) (g : Given) (r : Result Effect OwnFault) → (answer_to s g r).0 ≡ Unfit
    → (answer_to s g r).1 ≡ s
answered_stays s (given.Signal n) r unfit =
    chosen_stays (is_signal n && is_signal_ready s.handler s.kept) s
    (Did (signal_step s.pc s.npc n), state_after_signal s n) (Unfit, s) (λ h. cc) (λ h. refl)
    unfit
answered_stays s given.Nothing (Err fault) unfit = refl
answered_stays s given.Nothing (Ok effect) unfit =
    chosen_stays (receives_value effect.wish) s (Unfit, s) (step_done s effect 0) (λ h. refl)
    (did_stays s effect 0) unfit
answered_stays s (given.Value value) (Err fault) unfit = refl
answered_stays s (given.Value value) (Ok effect) unfit =
    chosen_stays (receives_value effect.wish) s (step_done s effect value) (Unfit, s)
    (did_stays s effect value) (λ h. refl) unfit

-- where what is given doesn't fit, nothing changes
pub unfit_stays : (s : State) (g : Given) → (plain s g).0 ≡ Unfit → (plain s g).1 ≡ s
unfolding plain
unfit_stays s g unfit =
    chosen_stays s.over s (Over, s)
    (answer_to s g (effect_at (seen_of_cell s.cells) s.kept (instruction_in s.bytes s.pc) s.pc
    s.npc)) (λ h. refl)
    (answered_stays s g (effect_at (seen_of_cell s.cells) s.kept (instruction_in s.bytes s.pc) s.pc
    s.npc)) unfit

-- ---- what a step received

-- a step that receives was given this value, and any other received nothing
abbrev HasReceived : Bool → Received → ℕ → Type 0
HasReceived true got value = given_of got ≡ given.Value value
HasReceived false got value = got ≡ received.Nothing

made_received : (pc npc : ℕ) (written : Writes) (w : Wish) (word got : ℕ)
    → HasReceived (receives_value w) (step_of_wish pc npc written w word got).received got
made_received pc npc written wish.Nothing word got = refl
made_received pc npc written _ word got = refl

-- the step that an effect does, where a value was received
abbrev done : State → Effect → ℕ → Step
done s effect got = step_made s.pc s.npc effect (word_for s.bytes effect.wish) got

done_received : (s : State) (effect : Effect) (got : ℕ)
    → HasReceived (receives_value effect.wish) (done s effect got).received got
unfolding step_made
done_received s effect got =
    made_received s.pc s.npc effect.writes effect.wish (word_for s.bytes effect.wish) got

-- the step of an effect that doesn't receive
step_nothing : (s : State) (effect : Effect) (got : ℕ) → receives_value effect.wish ≡ false
    → (done s effect got).received ≡ received.Nothing
step_nothing s effect got h =
    subst (λ b. HasReceived b (done s effect got).received got) h (done_received s effect got)

-- the step of an effect that receives
step_given : (s : State) (effect : Effect) (got : ℕ) → receives_value effect.wish ≡ true
    → given_of (done s effect got).received ≡ given.Value got
step_given s effect got h =
    subst (λ b. HasReceived b (done s effect got).received got) h (done_received s effect got)

-- the step that an effect does is the one that is answered
same_did : (s : State) (effect : Effect) (got : ℕ) (step : Step)
    → (step_done s effect got).0 ≡ Did step → done s effect got ≡ step
same_did s effect got step h = cc

-- ---- answers by whether the effect receives

abbrev nothing_to : State → Effect → Bool → PlainStep × State
nothing_to s effect b = if b then (Unfit, s) else step_done s effect 0

abbrev value_to : State → Effect → ℕ → Bool → PlainStep × State
value_to s effect value b = if b then step_done s effect value else (Unfit, s)

nothing_to-did : (s : State) (effect : Effect) (step : Step) (b : Bool)
    → receives_value effect.wish ≡ b → (nothing_to s effect b).0 ≡ Did step
    → step.received ≡ received.Nothing
nothing_to-did s effect step true is h = cc
nothing_to-did s effect step false is h =
    ap (λ (step : Step). step.received) (sym (same_did s effect 0 step h))
    ∙ step_nothing s effect 0 is

value_to-did : (s : State) (effect : Effect) (value : ℕ) (step : Step) (b : Bool)
    → receives_value effect.wish ≡ b → (value_to s effect value b).0 ≡ Did step
    → given_of step.received ≡ given.Value value
value_to-did s effect value step true is h =
    ap (λ (step : Step). given_of step.received) (sym (same_did s effect value step h))
    ∙ step_given s effect value is
value_to-did s effect value step false is h = cc

nothing_to-unfit : (s : State) (effect : Effect) (value : ℕ) (b : Bool)
    → receives_value effect.wish ≡ b → (nothing_to s effect b).0 ≡ Unfit
    → (step : Step) × ((value_to s effect value b).0 ≡ Did step)
    × (given_of step.received ≡ given.Value value)
nothing_to-unfit s effect value true is h =
    (done s effect value, refl, step_given s effect value is)
nothing_to-unfit s effect value false is h = cc

value_to-needed : (s : State) (effect : Effect) (value : ℕ) (step : Step) (b : Bool)
    → (value_to s effect value b).0 ≡ Did step → (nothing_to s effect b).0 ≡ Unfit
value_to-needed s effect value step true h = refl
value_to-needed s effect value step false h = cc

-- ---- answers of a machine of which it is told whether it is over, and what its instruction comes
-- to

abbrev told : State → Bool → Result Effect OwnFault → Given → PlainStep × State
told s over r g = if over then (Over, s) else answer_to s g r

told-nothing : (s : State) (over : Bool) (r : Result Effect OwnFault) (step : Step)
    → (told s over r given.Nothing).0 ≡ Did step → step.received ≡ received.Nothing
told-nothing s true r step h = cc
told-nothing s false (Err fault) step h = cc
told-nothing s false (Ok effect) step h =
    nothing_to-did s effect step (receives_value effect.wish) refl h

told-value : (s : State) (over : Bool) (r : Result Effect OwnFault) (value : ℕ) (step : Step)
    → (told s over r (given.Value value)).0 ≡ Did step → given_of step.received ≡ given.Value value
told-value s true r value step h = cc
told-value s false (Err fault) value step h = cc
told-value s false (Ok effect) value step h =
    value_to-did s effect value step (receives_value effect.wish) refl h

told-receives : (s : State) (over : Bool) (r : Result Effect OwnFault) (value : ℕ)
    → (told s over r given.Nothing).0 ≡ Unfit
    → (step : Step) × ((told s over r (given.Value value)).0 ≡ Did step)
    × (given_of step.received ≡ given.Value value)
told-receives s true r value h = cc
told-receives s false (Err fault) value h = cc
told-receives s false (Ok effect) value h =
    nothing_to-unfit s effect value (receives_value effect.wish) refl h

told-needed : (s : State) (over : Bool) (r : Result Effect OwnFault) (value : ℕ) (step : Step)
    → (told s over r (given.Value value)).0 ≡ Did step → (told s over r given.Nothing).0 ≡ Unfit
told-needed s true r value step h = cc
told-needed s false (Err fault) value step h = cc
told-needed s false (Ok effect) value step h =
    value_to-needed s effect value step (receives_value effect.wish) h

-- the state behind a step is over where the step is an exit
over_behind : (s : State) (effect : Effect) (got : ℕ) (step : Step)
    → (step_done s effect got).0 ≡ Did step → (step_done s effect got).1.over ≡ is_exit step.end
over_behind s effect got step h =
    ap (λ (step : Step). is_exit step.end) (same_did s effect got step h)

nothing_to-over : (s : State) (effect : Effect) (step : Step) (b : Bool)
    → (nothing_to s effect b).0 ≡ Did step → (nothing_to s effect b).1.over ≡ is_exit step.end
nothing_to-over s effect step true h = cc
nothing_to-over s effect step false h = over_behind s effect 0 step h

value_to-over : (s : State) (effect : Effect) (value : ℕ) (step : Step) (b : Bool)
    → (value_to s effect value b).0 ≡ Did step
    → (value_to s effect value b).1.over ≡ is_exit step.end
value_to-over s effect value step true h = over_behind s effect value step h
value_to-over s effect value step false h = cc

-- a signal is no exit
abbrev signal_to : State → ℕ → Bool → PlainStep × State
signal_to s n ready =
    if ready then (Did (signal_step s.pc s.npc n), state_after_signal s n) else (Unfit, s)

signal-over : (s : State) (n : ℕ) (ready : Bool) (step : Step) → s.over ≡ false
    → (signal_to s n ready).0 ≡ Did step → (signal_to s n ready).1.over ≡ is_exit step.end
signal-over s n true step going h =
    let same : signal_step s.pc s.npc n ≡ step = cc in going
    ∙ ap (λ (step : Step). is_exit step.end) same
signal-over s n false step going h = cc

told-over : (s : State) (over : Bool) (r : Result Effect OwnFault) (g : Given) (step : Step)
    → s.over ≡ over → (told s over r g).0 ≡ Did step → (told s over r g).1.over ≡ is_exit step.end
told-over s true r g step is h = cc
told-over s false r (given.Signal n) step is h =
    signal-over s n (is_signal n && is_signal_ready s.handler s.kept) step is h
told-over s false (Err fault) given.Nothing step is h = cc
told-over s false (Ok effect) given.Nothing step is h =
    nothing_to-over s effect step (receives_value effect.wish) h
told-over s false (Err fault) (given.Value value) step is h = cc
told-over s false (Ok effect) (given.Value value) step is h =
    value_to-over s effect value step (receives_value effect.wish) h

nothing_to-not_over : (s : State) (effect : Effect) (b : Bool) → (nothing_to s effect b).0 ≡ Over
    → ⊥
nothing_to-not_over s effect true h = cc
nothing_to-not_over s effect false h = cc

told-is_over : (s : State) (over : Bool) (r : Result Effect OwnFault)
    → (told s over r given.Nothing).0 ≡ Over → over ≡ true
told-is_over s true r h = refl
told-is_over s false (Err fault) h = cc
told-is_over s false (Ok effect) h =
    absurd (nothing_to-not_over s effect (receives_value effect.wish) h)

over-told : (s : State) (over : Bool) (r : Result Effect OwnFault) (g : Given) → over ≡ true
    → (told s over r g).0 ≡ Over
over-told s true r g h = refl
over-told s false r g h = cc

-- ---- the same of the plain machine

-- what the instruction at the pair comes to
abbrev at_pair : State → Result Effect OwnFault
at_pair s = effect_at (seen_of_cell s.cells) s.kept (instruction_in s.bytes s.pc) s.pc s.npc

-- a step to which nothing was given received nothing
pub nothing_received : (s : State) (step : Step) → (plain s given.Nothing).0 ≡ Did step
    → step.received ≡ received.Nothing
unfolding plain
nothing_received s step h = told-nothing s s.over (at_pair s) step h

-- a step to which a value was given was given that one
pub value_received : (s : State) (value : ℕ) (step : Step)
    → (plain s (given.Value value)).0 ≡ Did step → given_of step.received ≡ given.Value value
unfolding plain
value_received s value step h = told-value s s.over (at_pair s) value step h

-- where nothing doesn't fit, each value does
pub unfit_receives : (s : State) (value : ℕ) → (plain s given.Nothing).0 ≡ Unfit
    → (step : Step) × ((plain s (given.Value value)).0 ≡ Did step)
    × (given_of step.received ≡ given.Value value)
unfolding plain
unfit_receives s value h = told-receives s s.over (at_pair s) value h

-- where a value fits, nothing doesn't
pub value_needed : (s : State) (value : ℕ) (step : Step)
    → (plain s (given.Value value)).0 ≡ Did step → (plain s given.Nothing).0 ≡ Unfit
unfolding plain
value_needed s value step h = told-needed s s.over (at_pair s) value step h

-- behind a step the machine is over where the step is an exit
pub over_of_exit : (s : State) (g : Given) (step : Step) → (plain s g).0 ≡ Did step
    → (plain s g).1.over ≡ is_exit step.end
unfolding plain
over_of_exit s g step h = told-over s s.over (at_pair s) g step refl h

-- a machine that says that it is over is
pub is_over : (s : State) → (plain s given.Nothing).0 ≡ Over → s.over ≡ true
unfolding plain
is_over s h = told-is_over s s.over (at_pair s) h

-- a machine that is over does nothing
pub over_answers : (s : State) (g : Given) → s.over ≡ true → (plain s g).0 ≡ Over
unfolding plain
over_answers s g h = over-told s s.over (at_pair s) g h

-- the end of `xexit` is just that
pub exit_is : (end : StepEnd) → is_exit end ≡ true → end ≡ ended.Exit
exit_is ended.Goes h = cc
exit_is (ended.Call code) h = cc
exit_is ended.Exit h = refl
