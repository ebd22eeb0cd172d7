-- Events of a debugger, one after another.
use Rattle.std.proofs.Common.{◌≡◌, ℕ, suc, ◌+◌, ◌-◌, ◌<◌, ◌≤◌, Bool, true, false, List, [], ◌∷◌, ◌++◌, length, map, Option, Some, None, refl, sym, ap, subst, ◌∙◌, arith, length-append}
use Rattle.std.specs.Prelude.{IfSome, nat_le, ◌||◌}
use Rattle.std.proofs.lemmas.List.{length-map, append-nil, append_assoc, map-append}
use Rattle.circular_buffer.specs.Buffer.{buffer, keep_last}
use Rattle.xom_base.specs.declared.event.Event.{Event}
use Rattle.xom_base.specs.declared.event.Event.TheVariants as event
use Rattle.xom_base.specs.declared.schedule.Schedule.{Schedule}
use Rattle.xom_versions.specs.Versions.{Versions}
use Rattle.xom_model.specs.declared.outcome.Turn.{Turn}
use Rattle.xom_model.specs.Event.{on, running_slot}
use Rattle.xom_model.specs.Run.{poke_at}
use Rattle.xom_model.specs.Seen.{View, view_of}
use Rattle.xom_model.specs.State.{Record}
use Rattle.xom_machine.specs.Runs.{IsDueWhere, IsNextWhere, IsRun, Made, guest_events_in, guests_in}
use Rattle.xom_machine.specs.Whole.{WholeMachine}
use Rattle.xom_debug.specs.declared.command.Command.{Command}
use Rattle.xom_debug.specs.declared.command.Command.TheVariants as command
use Rattle.xom_debug.specs.declared.session.Session.{Session}
use Rattle.xom_debug.specs.declared.session.Noted.{Noted}
use Rattle.xom_debug.specs.DebugTexts.{kept_events, last_events, place, place_after_command}
use Rattle.xom_debug.specs.Moments.{Moment, has_left, is_run_over, moments, moments_from}
use Rattle.xom_debug.specs.Sessions.{Advances, Goes, GoesOn, Gone, HasNoted, Makes, Stayed, Stays, events_in}
use Rattle.xom_base.specs.declared.schedule.Poke.{Poke}
use Rattle.xom_debug.proofs.Kept.{last_of-push}
use Rattle.xom_debug.proofs.MomentLaws.{IfSome-at, IfSome-itself, IfSome-then, IsRun-append, guests_of-append, moments-append, one_told}
use Rattle.xom_debug.proofs.PlaceLaws.{stays_on, steps_ended, steps_made, trap_ended, trap_left}

at_most_one : (e : Event) → guests_in e ≤ 1
at_most_one (event.Guest interrupt) = omega arith
at_most_one (event.Do op) = omega arith
at_most_one event.Null = omega arith
at_most_one (event.Write address count) = omega arith
at_most_one (event.Poke address count) = omega arith

-- what is kept, with one event more
noted-push : (past : List Event) (s s' : Session) (e : Event) (number : ℕ) → HasNoted past s
    → number ≡ length past + 1
    → s'.last ≡ buffer (keep_last s.last.capacity (s.last.items ++ record {
      number = number;
      event =
          e;
    } ∷ [])) s.last.capacity
    → HasNoted (past ++ e ∷ []) s'
noted-push past s s' e number has is pushed =
    pushed
    ∙ ap (λ b. buffer (keep_last b.capacity (b.items ++ record { number = number; event = e } ∷ []))
    b.capacity) has
    ∙ ap (λ kept. buffer kept kept_events) (last_of-push past e number is)

-- an event with what is seen after it
abbrev moment_at : Event → View → Moment
moment_at e view = record { event = e; view = view }

module _ {K : Type 0} (told : K → View → Option (Turn × (List ℕ × K))) (schedule : Schedule)
    (v : Versions) where
  -- what comes next is due
  next-due : (g : ℕ) (r : Record) (k : K) (e : Event) (chunk : List ℕ) (k' : K) (poke : Option Poke)
      (at : Option ℕ)
      → IsNextWhere told schedule g r k e chunk k' poke at → IsDueWhere schedule g e chunk poke at
  next-due g r k e chunk k' (Some poke) at next = next.0
  next-due g r k e chunk k' None (Some slot) next = next.0
  next-due g r k e chunk k' None None next = next.0

  pub goes-none : (s : Session) (m : WholeMachine) (k : K) → Goes told schedule v s m k [] s m k
  goes-none s m k = record {
    made = refl;
    counted = omega arith;
    guests = omega arith;
    few = λ few. few;
    noted = λ past long has. subst (λ p. HasNoted p s) (sym (append-nil past)) has;
    turns = λ n more is.
        let same : more ≡ n = omega (arith, is) in
        subst (λ count. IfSome (moments_from v told schedule n s.guests m.state k)
        (GoesOn told schedule v m.state [] (moments_from v told schedule count s.guests m.state
        k))) (sym same)
        (IfSome-then (moments_from v told schedule n s.guests m.state k)
        (λ run. moments_from v told schedule n s.guests m.state k ≡ Some run)
        (GoesOn told schedule v m.state [] (moments_from v told schedule n s.guests m.state k))
        (λ run found. (run, found, refl))
        (IfSome-itself (moments_from v told schedule n s.guests m.state k)));
  }

  pub goes-one : (s : Session) (m : WholeMachine) (k : K) (e : Event) (s' : Session) (m' : WholeMachine) (k' : K)
      → (makes : Makes told schedule v s m k e s' m' k')
      → Goes told schedule v s m k ((e, makes.chunk) ∷ []) s' m' k'
  goes-one s m k e s' m' k' makes = record {
    made = (
      makes.fits,
      next-due s.guests m.state k e makes.chunk k'
          (poke_at schedule.pokes (m.state.events + 1)) (running_slot m.state) makes.next,
      makes.state,
    );
    counted = makes.counted;
    guests = omega (arith, makes.guests);
    few = λ few. let one = at_most_one e in omega (arith, one, few, makes.guests, makes.counted);
    noted = λ past long has. noted-push past s s' e m'.state.events has
        (omega (arith, long, makes.counted)) makes.last;
    turns = λ n more is.
        let one : n ≡ suc more = omega (arith, is) in
        subst (λ count. IfSome (moments_from v told schedule count s.guests m.state k)
        (GoesOn told schedule v m.state ((e, makes.chunk) ∷ []) (moments_from v told schedule more
        s'.guests m'.state k'))) (sym one)
        (subst (λ g. IfSome (moments_from v told schedule (suc more) s.guests m.state k)
        (GoesOn told schedule v m.state ((e, makes.chunk) ∷ []) (moments_from v told schedule more
        g m'.state k'))) (sym makes.guests)
        (subst (λ (r : Record). IfSome (moments_from v told schedule (suc more) s.guests m.state k)
        (GoesOn told schedule v m.state ((e, makes.chunk) ∷ []) (moments_from v told schedule more
        (s.guests + guests_in e) r k'))) (sym makes.state)
        (one_told told schedule v more s.guests m.state k e makes.chunk k' makes.going
        makes.next)));
  }

  pub goes-then : (s : Session) (m : WholeMachine) (k : K) (a : List Made) (s1 : Session) (m1 : WholeMachine)
      (k1 : K) (b : List Made) (s' : Session) (m' : WholeMachine) (k' : K)
      → Goes told schedule v s m k a s1 m1 k1 → Goes told schedule v s1 m1 k1 b s' m' k'
      → Goes told schedule v s m k (a ++ b) s' m' k'
  goes-then s m k a s1 m1 k1 b s' m' k' first then = record {
    made = IsRun-append schedule v s.guests m.state a m1.state b m'.state first.made
        (subst (λ g. IsRun schedule v g m1.state b m'.state) first.guests then.made);
    counted = let all = length-append a b in omega (arith, all, first.counted, then.counted);
    guests = let all = guests_of-append a b in omega (arith, all, first.guests, then.guests);
    few = λ few. then.few (first.few few);
    noted = λ past long has.
        let longer : length (past ++ events_in a) ≡ m1.state.events = let added =
        length-append past (events_in a) in let same = length-map a (λ made. made.0) in
        omega (arith, added, same, long, first.counted) in
        let joined : (past ++ events_in a) ++ events_in b ≡ past ++ events_in (a ++ b) =
        append_assoc past (events_in a) (events_in b) ∙ ap (λ es. past ++ es)
        (sym (map-append (λ made. made.0) a b)) in
        subst (λ p. HasNoted p s') joined (then.noted (past ++ events_in a) longer
        (first.noted past long has));
    turns = λ n more is.
        let all = length-append a b in
        let place : n ≡ length a + (length b + more) = omega (arith, is, all) in
        IfSome-then (moments_from v told schedule n s.guests m.state k)
        (GoesOn told schedule v m.state a (moments_from v told schedule (length b + more)
        s1.guests m1.state k1)) (GoesOn told schedule v m.state (a ++ b)
        (moments_from v told schedule more s'.guests m'.state k'))
        (λ run goes.
        let behind : GoesOn told schedule v m1.state b (moments_from v told schedule more s'.guests
        m'.state k') goes.0 =
        IfSome-at (moments_from v told schedule (length b + more) s1.guests m1.state k1)
        (GoesOn told schedule v m1.state b (moments_from v told schedule more s'.guests m'.state
        k')) goes.0 goes.1 (then.turns (length b + more) more refl) in (
          behind.0,
          behind.1,
          goes.2
              ∙ ap (λ rest. moments v m.state a ++ rest) behind.2
              ∙ sym (append_assoc (moments v m.state a) (moments v m1.state b) behind.0)
              ∙ ap (λ ms. ms ++ behind.0)
              (sym (moments-append schedule v s.guests m.state a m1.state b first.made)),
        ))
        (first.turns n (length b + more) place);
  }

  -- ---- Up to the end of a run

  module _ (budget : ℕ) where
    pub gone-none : (s : Session) (m : WholeMachine) (k : K) → s.guests ≤ m.state.events
        → Gone told schedule v budget s m k 0 s m k
    gone-none s m k few = record {
      events = [];
      goes = goes-none s m k;
      all = refl;
      few =
          few;
      within = λ within. within;
      still = λ over. refl;
    }

    -- a run at whose beginning it was over stays over
    over-still : (s : Session) (m : WholeMachine) (k : K) (count : ℕ) (s' : Session) (m' : WholeMachine) (k' : K)
        → (gone : Gone told schedule v budget s m k count s' m' k') → is_run_over budget m.state ≡ true
        → is_run_over budget m'.state ≡ true
    over-still s m k count s' m' k' gone over =
        let none = gone.still over in
        let same : m'.state ≡ m.state = subst (λ events. IsRun schedule v s.guests m.state events
        m'.state) none gone.goes.made in
        subst (λ (r : Record). is_run_over budget r ≡ true) (sym same) over

    pub gone-more : (s : Session) (m : WholeMachine) (k : K) (count : ℕ) (s1 : Session) (m1 : WholeMachine)
        (k1 : K) (e : Event) (s' : Session) (m' : WholeMachine) (k' : K)
        → Gone told schedule v budget s m k count s1 m1 k1 → is_run_over budget m1.state ≡ false
        → m1.state.events < budget → Makes told schedule v s1 m1 k1 e s' m' k'
        → Gone told schedule v budget s m k (count + 1) s' m' k'
    gone-more s m k count s1 m1 k1 e s' m' k' gone going low makes = record {
      events = gone.events ++ (e, makes.chunk) ∷ [];
      goes = goes-then s m k gone.events s1 m1 k1 ((e, makes.chunk) ∷ []) s' m' k' gone.goes
          (goes-one s1 m1 k1 e s' m' k' makes);
      all = let longer = length-append gone.events ((e, makes.chunk) ∷ []) in
          omega (arith, longer, gone.all);
      few = let one = at_most_one e in omega (arith, one, gone.few, makes.guests, makes.counted);
      within = λ within. omega (arith, low, makes.counted);
      still = λ over. absurd (let now = over-still s m k count s1 m1 k1 gone over in cc);
    }

    -- ---- `step`

    pub stepped_all : (s : Session) (m : WholeMachine) (k : K) (count : ℕ) (s' : Session) (m' : WholeMachine)
        (k' : K)
        → Gone told schedule v budget s m k count s' m' k'
        → Advances told schedule v budget (command.Step count) s m k s' m' k'
    stepped_all s m k count s' m' k' gone = record {
      events = gone.events;
      goes = gone.goes;
      within = gone.within;
      still = gone.still;
      moved = λ past rest ends.
          subst (λ n. place_after_command (command.Step n)
          (place past (view_of m.state) (moments v m.state gone.events ++ rest)) ≡ place
          (past ++ events_in gone.events) (view_of m'.state) rest) gone.all
          (steps_made schedule v s.guests m.state gone.events m'.state gone.goes.made past rest);
    }

    pub stepped_to_end : (s : Session) (m : WholeMachine) (k : K) (count n : ℕ) (s' : Session) (m' : WholeMachine)
        (k' : K)
        → Gone told schedule v budget s m k count s' m' k' → count ≤ n
        → is_run_over budget m'.state ≡ true
        → Advances told schedule v budget (command.Step n) s m k s' m' k'
    stepped_to_end s m k count n s' m' k' gone low over = record {
      events = gone.events;
      goes = gone.goes;
      within = gone.within;
      still = gone.still;
      moved = λ past rest ends. steps_ended schedule v s.guests m.state gone.events m'.state
          gone.goes.made n (n - count) (omega (arith, gone.all)) past rest (ends over);
    }

    -- ---- `until trap`

    pub stayed-none : (s : Session) (m : WholeMachine) (k : K) → s.guests ≤ m.state.events
        → Stayed told schedule v budget s m k 0 s m k
    unfolding gone-none
    stayed-none s m k few = record { gone = gone-none s m k few; stays = tt }

    pub stayed-more : (s : Session) (m : WholeMachine) (k : K) (count : ℕ) (s1 : Session) (m1 : WholeMachine)
        (k1 : K) (e : Event) (s' : Session) (m' : WholeMachine) (k' : K)
        → Stayed told schedule v budget s m k count s1 m1 k1 → is_run_over budget m1.state ≡ false
        → m1.state.events < budget → Makes told schedule v s1 m1 k1 e s' m' k'
        → has_left e (view_of m'.state) ≡ false
        → Stayed told schedule v budget s m k (count + 1) s' m' k'
    unfolding gone-more
    stayed-more s m k count s1 m1 k1 e s' m' k' stayed going low makes here = record {
      gone = gone-more s m k count s1 m1 k1 e s' m' k' stayed.gone going low makes;
      stays = stays_on schedule v m.state stayed.gone.events m1.state s.guests stayed.gone.goes.made
          stayed.stays e makes.chunk m'.state makes.state here;
    }

    pub trapped_at_end : (s : Session) (m : WholeMachine) (k : K) (count : ℕ) (s' : Session) (m' : WholeMachine)
        (k' : K)
        → Stayed told schedule v budget s m k count s' m' k' → is_run_over budget m'.state ≡ true
        → Advances told schedule v budget command.UntilTrap s m k s' m' k'
    trapped_at_end s m k count s' m' k' stayed over = record {
      events = stayed.gone.events;
      goes = stayed.gone.goes;
      within = stayed.gone.within;
      still = stayed.gone.still;
      moved = λ past rest ends. trap_ended schedule v s.guests m.state stayed.gone.events m'.state
          stayed.gone.goes.made stayed.stays past rest (ends over);
    }

    trap-moved : (s : Session) (m : WholeMachine) (k : K) (count : ℕ) (s1 : Session) (m1 : WholeMachine) (k1 : K)
        (e : Event) (s' : Session) (m' : WholeMachine) (k' : K)
        → (stayed : Stayed told schedule v budget s m k count s1 m1 k1)
        → (makes : Makes told schedule v s1 m1 k1 e s' m' k') → has_left e (view_of m'.state) ≡ true
        → (past : List Event) (rest : List Moment)
        → place_after_command command.UntilTrap
        (place past (view_of m.state) (moments v m.state (stayed.gone.events ++ (e, makes.chunk)
        ∷ []) ++ rest)) ≡ place (past ++ events_in (stayed.gone.events ++ (e, makes.chunk) ∷ []))
        (view_of m'.state) rest
    trap-moved s m k count s1 m1 k1 e s' m' k' stayed makes left past rest =
        let events = stayed.gone.events in
        let one : List Made = (e, makes.chunk) ∷ [] in
        let last : Moment = record { event = e; view = view_of m'.state } in
        let same : moments v m1.state one ≡ last ∷ [] = ap (λ r. moment_at e (view_of r) ∷ [])
        (sym makes.state) in
        let split : moments v m.state (events ++ one) ++ rest ≡ moments v m.state events ++ last
        ∷ rest =
        ap (λ ms. ms ++ rest) (moments-append schedule v s.guests m.state events m1.state one
        stayed.gone.goes.made)
        ∙ append_assoc (moments v m.state events) (moments v m1.state one) rest
        ∙ ap (λ ms. moments v m.state events ++ (ms ++ rest)) same in
        let joined : (past ++ events_in events) ++ e ∷ [] ≡ past ++ events_in (events ++ one) =
        append_assoc past (events_in events) (e ∷ []) ∙ ap (λ es. past ++ es)
        (sym (map-append (λ made. made.0) events one)) in
        ap (λ ms. place_after_command command.UntilTrap (place past (view_of m.state) ms)) split
        ∙ trap_left schedule v s.guests m.state events m1.state stayed.gone.goes.made stayed.stays e
        (view_of m'.state) left past rest
        ∙ ap (λ p. place p (view_of m'.state) rest) joined

    pub trapped : (s : Session) (m : WholeMachine) (k : K) (count : ℕ) (s1 : Session) (m1 : WholeMachine) (k1 : K)
        (e : Event) (s' : Session) (m' : WholeMachine) (k' : K)
        → Stayed told schedule v budget s m k count s1 m1 k1 → is_run_over budget m1.state ≡ false
        → m1.state.events < budget → Makes told schedule v s1 m1 k1 e s' m' k'
        → has_left e (view_of m'.state) ≡ true
        → Advances told schedule v budget command.UntilTrap s m k s' m' k'
    unfolding gone-more
    trapped s m k count s1 m1 k1 e s' m' k' stayed going low makes left =
        let gone = gone-more s m k count s1 m1 k1 e s' m' k' stayed.gone going low makes in
        record {
          events = stayed.gone.events ++ (e, makes.chunk) ∷ [];
          goes = gone.goes;
          within = gone.within;
          still = gone.still;
          moved = λ past rest ends. trap-moved s m k count s1 m1 k1 e s' m' k' stayed makes left
              past rest;
        }

    -- ---- a command that makes no event

    pub stays_there : (c : Command)
        → ((past : List Event) (view : View) (rest : List Moment)
        → place_after_command c (place past view rest) ≡ place past view rest)
        → (s : Session) (m : WholeMachine) (k : K) → Advances told schedule v budget c s m k s m k
    stays_there c same s m k = record {
      events = [];
      goes = goes-none s m k;
      within = λ within. within;
      still = λ over. refl;
      moved = λ past rest ends. same past (view_of m.state) rest
          ∙ ap (λ p. place p (view_of m.state) rest) (sym (append-nil past));
    }
