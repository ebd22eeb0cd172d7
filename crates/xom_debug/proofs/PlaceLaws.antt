-- Where commands leave a debugger, by the events that were made.
use Rattle.std.proofs.Common.{◌≡◌, ◌⊎◌, inl, inr, ℕ, zero, suc, ◌+◌, ◌≤◌, Bool, true, false, cond, List, [], ◌∷◌, ◌++◌, length, refl, sym, ap, subst, ◌∙◌, arith}
use Rattle.std.proofs.lemmas.Bool.{cond-false, cond-true}
use Rattle.std.proofs.lemmas.List.{append-nil, append_assoc}
use Rattle.xom_base.specs.declared.event.Event.{Event}
use Rattle.xom_base.specs.declared.schedule.Schedule.{Schedule}
use Rattle.xom_versions.specs.Versions.{Versions}
use Rattle.xom_model.specs.Event.{on}
use Rattle.xom_model.specs.Seen.{View, view_of}
use Rattle.xom_model.specs.State.{Record}
use Rattle.xom_machine.specs.Runs.{IsRun, Made, guests_in}
use Rattle.xom_debug.specs.DebugTexts.{Place, at_trap, place, place_after_steps}
use Rattle.xom_debug.specs.Moments.{Moment, has_left, moments}
use Rattle.xom_debug.specs.Sessions.{Stays, events_in}

module _ (schedule : Schedule) (v : Versions) where
  -- the place behind all of the events that were made
  abbrev Reaches : (List Event → View → List Moment → Place)
      → (List Event → View → List Moment → Place) → Record → List Made → Record → List Event
      → List Moment → Type 0
  Reaches walk then r events last past rest =
      walk past (view_of r) (moments v r events ++ rest)
      ≡ then (past ++ events_in events) (view_of last) rest

  none_made : (walk : List Event → View → List Moment → Place) (r last : Record) (past : List Event)
      (rest : List Moment)
      → last ≡ r → Reaches walk walk r [] last past rest
  none_made walk r last past rest is =
      ap (λ s. walk past (view_of s) rest) (sym is)
      ∙ ap (λ p. walk p (view_of last) rest) (sym (append-nil past))

  next_past : (past : List Event) (e : Event) (events : List Event)
      → (past ++ e ∷ []) ++ events ≡ past ++ e ∷ events
  next_past past e events = append_assoc past (e ∷ []) events

  -- so many steps, and more
  stepped-made : (g : ℕ) (r : Record) (events : List Made) (last : Record)
      → IsRun schedule v g r events last → (n left : ℕ) → n ≡ length events + left
      → (past : List Event) (rest : List Moment)
      → Reaches (place_after_steps n) (place_after_steps left) r events last past rest
  stepped-made g r [] last run n left is past rest =
      let same : n ≡ left = omega (arith, is) in
      subst (λ m. Reaches (place_after_steps m) (place_after_steps left) r [] last past rest) (sym same)
      (none_made (place_after_steps left) r last past rest run)
  stepped-made g r (first ∷ events) last run zero left is past rest = absurd (omega (arith, is))
  stepped-made g r (first ∷ events) last run (suc n) left is past rest =
      let next : Record = (on v r first.0 first.1).0 in
      stepped-made (g + guests_in first.0) next events last run.2 n left (omega (arith, is))
      (past ++ first.0 ∷ []) rest
      ∙ ap (λ p. place_after_steps left p (view_of last) rest) (next_past past first.0 (events_in events))

  stepped-none : (past : List Event) (view : View) (rest : List Moment)
      → place_after_steps zero past view rest ≡ place past view rest
  stepped-none past view [] = refl
  stepped-none past view (first ∷ rest) = refl

  stepped-end : (n : ℕ) (past : List Event) (view : View) (rest : List Moment) → rest ≡ []
      → place_after_steps n past view rest ≡ place past view rest
  stepped-end n past view rest is =
      subst (λ more. place_after_steps n past view more ≡ place past view more) (sym is) refl

  -- all the steps were made, or the run is at its end
  pub steps_made : (g : ℕ) (r : Record) (events : List Made) (last : Record)
      → IsRun schedule v g r events last → (past : List Event) (rest : List Moment)
      → place_after_steps (length events) past (view_of r) (moments v r events ++ rest) ≡ place
      (past ++ events_in events) (view_of last) rest
  steps_made g r events last run past rest =
      stepped-made g r events last run (length events) 0 (omega arith) past rest
      ∙ stepped-none (past ++ events_in events) (view_of last) rest

  pub steps_ended : (g : ℕ) (r : Record) (events : List Made) (last : Record)
      → IsRun schedule v g r events last → (n left : ℕ) → n ≡ length events + left
      → (past : List Event) (rest : List Moment) → rest ≡ []
      → place_after_steps n past (view_of r) (moments v r events ++ rest) ≡ place (past ++ events_in events)
      (view_of last) rest
  steps_ended g r events last run n left is past rest none =
      stepped-made g r events last run n left is past rest ∙ stepped-end left
      (past ++ events_in events) (view_of last) rest none

  -- no guest left
  trap-made : (g : ℕ) (r : Record) (events : List Made) (last : Record)
      → IsRun schedule v g r events last → Stays v r events
      → (past : List Event) (rest : List Moment)
      → Reaches at_trap at_trap r events last past rest
  trap-made g r [] last run stays past rest = none_made at_trap r last past rest run
  trap-made g r (first ∷ events) last run stays past rest =
      let next : Record = (on v r first.0 first.1).0 in
      let all = moments v next events ++ rest in
      cond-false (has_left first.0 (view_of next)) (place (past ++ first.0 ∷ []) (view_of next) all)
      (at_trap (past ++ first.0 ∷ []) (view_of next) all) stays.0
      ∙ trap-made (g + guests_in first.0) next events last run.2 stays.1 (past ++ first.0 ∷ []) rest
      ∙ ap (λ p. at_trap p (view_of last) rest) (next_past past first.0 (events_in events))

  pub trap_ended : (g : ℕ) (r : Record) (events : List Made) (last : Record)
      → IsRun schedule v g r events last → Stays v r events
      → (past : List Event) (rest : List Moment) → rest ≡ []
      → at_trap past (view_of r) (moments v r events ++ rest) ≡ place (past ++ events_in events)
      (view_of last) rest
  trap_ended g r events last run stays past rest none =
      trap-made g r events last run stays past rest
      ∙ subst (λ more. at_trap (past ++ events_in events) (view_of last) more ≡ place
      (past ++ events_in events) (view_of last) more) (sym none) refl

  -- a guest left at the last of the events
  pub trap_left : (g : ℕ) (r : Record) (events : List Made) (last : Record)
      → IsRun schedule v g r events last → Stays v r events → (e : Event) (new : View)
      → has_left e new ≡ true → (past : List Event) (rest : List Moment)
      → at_trap past (view_of r) (moments v r events ++ record { event = e; view = new } ∷ rest)
      ≡ place ((past ++ events_in events) ++ e ∷ []) new rest
  trap_left g r events last run stays e new left past rest =
      trap-made g r events last run stays past (record { event = e; view = new } ∷ rest)
      ∙ cond-true (has_left e new) (place ((past ++ events_in events) ++ e ∷ []) new rest)
      (at_trap ((past ++ events_in events) ++ e ∷ []) new rest) left

  Stays-append : (r : Record) (events : List Made) (last : Record) (g : ℕ)
      → IsRun schedule v g r events last → Stays v r events → (e : Event) (chunk : List ℕ)
      → has_left e (view_of (on v last e chunk).0) ≡ false → Stays v r (events ++ (e, chunk) ∷ [])
  Stays-append r [] last g run stays e chunk here =
      (subst (λ s. has_left e (view_of (on v s e chunk).0) ≡ false) run here, tt)
  Stays-append r (first ∷ events) last g run stays e chunk here = (
    stays.0,
    Stays-append (on v r first.0 first.1).0 events last (g + guests_in first.0) run.2
        stays.1 e chunk here,
  )

  pub stays_on : (r : Record) (events : List Made) (last : Record) (g : ℕ)
      → IsRun schedule v g r events last → Stays v r events
      → (e : Event) (chunk : List ℕ) (new : Record) → new ≡ (on v last e chunk).0
      → has_left e (view_of new) ≡ false → Stays v r (events ++ (e, chunk) ∷ [])
  stays_on r events last g run stays e chunk new is here =
      Stays-append r events last g run stays e chunk
      (subst (λ s. has_left e (view_of s) ≡ false) is here)
