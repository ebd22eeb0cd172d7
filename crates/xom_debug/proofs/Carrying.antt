-- Commands are carried out one after another.
use Rattle.std.proofs.Common.{◌≡◌, ◌⊎◌, inl, inr, ℕ, zero, suc, ◌+◌, ◌-◌, ◌<◌, ◌≤◌, Bool, true, false, List, [], ◌∷◌, ◌++◌, length, map, drop, Option, Some, None, refl, sym, ap, subst, ◌∙◌, arith, length-append}
use Rattle.std.specs.Prelude.{IfSome, nat_le, ◌||◌}
use Rattle.std.proofs.lemmas.Bool.{cases_Bool}
use Rattle.std.proofs.lemmas.Bool.Decides.{nat_tests}
use Rattle.std.proofs.lemmas.List.{length-map, append-nil, append_assoc, drop_all, map-append}
use Rattle.xom_base.specs.declared.event.Event.{Event}
use Rattle.xom_base.specs.declared.schedule.Schedule.{Schedule}
use Rattle.xom_versions.specs.Versions.{Versions}
use Rattle.xom_model.specs.declared.outcome.Turn.{Turn}
use Rattle.xom_model.specs.Seen.{View, view_of}
use Rattle.xom_model.specs.State.{Record}
use Rattle.xom_machine.specs.Runs.{IsRun, Made}
use Rattle.xom_machine.specs.Whole.{WholeMachine}
use Rattle.xom_debug.specs.declared.command.Command.{Command}
use Rattle.xom_debug.specs.declared.session.Session.{Session}
use Rattle.xom_debug.specs.DebugTexts.{Place, debug_text, last_events, place, place_after_command, said, text_from}
use Rattle.xom_debug.specs.Moments.{Moment, is_run_over, moments, moments_from}
use Rattle.xom_debug.specs.Sessions.{Advances, CarriedOut, Debugs, Goes, GoesOn, HasNoted, IsDebugged, events_in}
use Rattle.xom_debug.proofs.Going.{goes-none, goes-then}
use Rattle.xom_debug.proofs.MomentLaws.{IfSome-then, from-none, from-over, moments-append}

over-or : (a b : Bool) → (a || b) ≡ true → (a ≡ true) ⊎ (b ≡ true)
over-or true b is = inl refl
over-or false b is = inr is

module _ {K : Type 0} (told : K → View → Option (Turn × (List ℕ × K))) (schedule : Schedule)
    (v : Versions) (budget : ℕ) (commands : List Command) where
  -- before the first command
  pub carried-none : (s : Session) (m : WholeMachine) (k : K) → s.guests ≡ 0 → m.state.events ≡ 0
      → CarriedOut told schedule v budget commands s m k 0 s m k []
  carried-none s m k none first = record {
    events = [];
    goes = goes-none told schedule v s m k;
    few = omega (arith, none);
    within = omega (arith, first);
    says = λ rest ends. refl;
  }

  -- what is kept is what all events so far leave
  pub carried-noted : (s : Session) (m : WholeMachine) (k : K) (count : ℕ) (s' : Session) (m' : WholeMachine)
      (k' : K) (text : List ℕ)
      → m.state.events ≡ 0 → HasNoted [] s
      → (done : CarriedOut told schedule v budget commands s m k count s' m' k' text)
      → HasNoted (events_in done.events) s'
  carried-noted s m k count s' m' k' text first has done = done.goes.noted [] (sym first) has

  module _ (s : Session) (m : WholeMachine) (k : K) (count : ℕ) (s1 : Session) (m1 : WholeMachine) (k1 : K)
      (text : List ℕ) (first : m.state.events ≡ 0) (has : HasNoted [] s)
      (done : CarriedOut told schedule v budget commands s m k count s1 m1 k1 text)
      (c : Command) (more : List Command) (here : drop count commands ≡ c ∷ more)
      (s' : Session) (m' : WholeMachine) (k' : K) (went : Advances told schedule v budget c s1 m1 k1 s' m'
      k') where
    abbrev past : List Event
    past = events_in done.events

    behind : events_in (done.events ++ went.events) ≡ past ++ events_in went.events
    behind = map-append (λ made. made.0) done.events went.events

    long : length past ≡ m1.state.events
    long =
        let same = length-map done.events (λ made. made.0) in
        omega (arith, same, done.goes.counted, first)

    -- what is kept then
    noted : HasNoted (past ++ events_in went.events) s'
    noted = went.goes.noted past long (carried-noted s m k count s1 m1 k1 text first has done)

    -- a run that was over is over
    over-still : is_run_over budget m1.state ≡ true → is_run_over budget m'.state ≡ true
    over-still over =
        let same : m'.state ≡ m1.state = subst (λ events. IsRun schedule v s1.guests m1.state events
        m'.state) (went.still over) went.goes.made in
        subst (λ (r : Record). is_run_over budget r ≡ true) (sym same) over

    ends-then : (rest : List Moment) → (is_run_over budget m'.state ≡ true → rest ≡ [])
        → is_run_over budget m1.state ≡ true → moments v m1.state went.events ++ rest ≡ []
    ends-then rest ends over =
        ap (λ events. moments v m1.state events ++ rest) (went.still over) ∙ ends (over-still over)

    text-then : (rest : List Moment) → (is_run_over budget m'.state ≡ true → rest ≡ [])
        → (text ++ said c s'.last.items (view_of m'.state)) ++ text_from more
        (place (events_in (done.events ++ went.events)) (view_of m'.state) rest)
        ≡ debug_text commands (view_of m.state) (moments v m.state (done.events ++ went.events)
        ++ rest)
    text-then rest ends =
        let later = moments v m1.state went.events ++ rest in
        let after : Place = place (past ++ events_in went.events) (view_of m'.state) rest in
        let kept : s'.last.items ≡ last_events (past ++ events_in went.events) =
        ap (λ b. b.items) noted in
        append_assoc text (said c s'.last.items (view_of m'.state))
        (text_from more (place (events_in (done.events ++ went.events)) (view_of m'.state) rest))
        ∙ ap (λ p. text ++ (said c s'.last.items (view_of m'.state) ++ text_from more
        (place p (view_of m'.state) rest))) behind
        ∙ ap (λ items. text ++ (said c items (view_of m'.state) ++ text_from more after)) kept
        ∙ ap (λ (p : Place). text ++ (said c (last_events p.past) p.view ++ text_from more p))
        (sym (went.moved past rest ends))
        ∙ ap (λ cs. text ++ text_from cs (place past (view_of m1.state) later)) (sym here)
        ∙ done.says later (ends-then rest ends)
        ∙ ap (λ run. debug_text commands (view_of m.state) run)
        (sym (append_assoc (moments v m.state done.events) (moments v m1.state went.events) rest)
        ∙ ap (λ ms. ms ++ rest)
        (sym (moments-append schedule v s.guests m.state done.events m1.state went.events
        done.goes.made)))

    pub carried-more : drop (count + 1) commands ≡ more
        → CarriedOut told schedule v budget commands s m k (count + 1) s' m' k'
        (text ++ said c s'.last.items (view_of m'.state))
    carried-more next = record {
      events = done.events ++ went.events;
      goes = goes-then told schedule v s m k done.events s1 m1 k1 went.events s' m' k' done.goes
          went.goes;
      few = went.goes.few done.few;
      within = went.within done.within;
      says = λ rest ends. ap (λ cs. (text ++ said c s'.last.items (view_of m'.state))
          ++ text_from cs (place (events_in (done.events ++ went.events)) (view_of m'.state) rest))
          next ∙ text-then rest ends;
    }

  -- ---- all of them

  module _ (m : WholeMachine) (k : K) (m' : WholeMachine) (k' : K) (text : List ℕ) (first : m.state.events ≡ 0)
      (debugs : Debugs told schedule v budget commands m k m' k' text) where
    whole : (rest : List Moment) → (is_run_over budget m'.state ≡ true → rest ≡ [])
        → text ≡ debug_text commands (view_of m.state) (moments v m.state debugs.done.events
        ++ rest)
    whole rest ends =
        let p = place (events_in debugs.done.events) (view_of m'.state) rest in
        let none : drop (length commands) commands ≡ [] = drop_all (length commands) commands
        (omega arith) in
        sym (append-nil text) ∙ ap (λ cs. text ++ text_from cs p) (sym none) ∙ debugs.done.says rest
        ends

    pub is_debugged : IsDebugged schedule v budget commands m.state m'.state text
    is_debugged = record {
      events = debugs.done.events;
      made = subst (λ g. IsRun schedule v g m.state debugs.done.events m'.state) debugs.start
          debugs.done.goes.made;
      few = omega (arith, first, debugs.done.goes.counted, debugs.done.within);
      says = whole;
    }

    abbrev left : ℕ
    left = budget - length debugs.done.events

    -- a run that is over has nothing to come
    nothing-left : (rest : List Moment)
        → moments_from v told schedule left debugs.last.guests m'.state k' ≡ Some rest
        → is_run_over budget m'.state ≡ true → rest ≡ []
    nothing-left rest found over = elim (over-or m'.state.halted (nat_le budget m'.state.events)
        over) [
          | inl halted ↦ let none = from-over told schedule v left debugs.last.guests m'.state k'
              halted in cc
          | inr high ↦
              let above : budget ≤ m'.state.events = grind (arith, nat_tests) in
              let all : left ≡ 0 = omega (arith, first, above, debugs.done.goes.counted) in
              let none = from-none told schedule v debugs.last.guests m'.state k' in
              let here : moments_from v told schedule 0 debugs.last.guests m'.state k' ≡ Some rest =
              subst (λ n. moments_from v told schedule n debugs.last.guests m'.state k' ≡ Some rest)
              all found in
              cc
        ]

    pub debug_told : IfSome (moments_from v told schedule budget 0 m.state k)
        (λ run. text ≡ debug_text commands (view_of m.state) run)
    debug_told =
        let few : length debugs.done.events ≤ budget =
        omega (arith, first, debugs.done.goes.counted, debugs.done.within) in
        let all : budget ≡ length debugs.done.events + left = omega (arith, few) in
        subst (λ g. IfSome (moments_from v told schedule budget g m.state k)
        (λ run. text ≡ debug_text commands (view_of m.state) run)) debugs.start
        (IfSome-then (moments_from v told schedule budget debugs.first.guests m.state k)
        (GoesOn told schedule v m.state debugs.done.events (moments_from v told schedule left
        debugs.last.guests m'.state k')) (λ run. text ≡ debug_text commands (view_of m.state) run)
        (λ run goes. whole goes.0 (nothing-left goes.0 goes.1)
        ∙ ap (λ r. debug_text commands (view_of m.state) r) (sym goes.2))
        (debugs.done.goes.turns budget left all))
