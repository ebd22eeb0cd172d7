-- That a guest runs is seen.
use Rattle.std.proofs.Common.{◌≡◌, ℕ, suc, ◌+◌, List, [], ◌∷◌, length, map, cond, Some, None, refl, ap, ◌∙◌}
use Rattle.std.proofs.lemmas.List.{length-map}
use Rattle.std.specs.Prelude.{is_some, nat_lt, not}
use Rattle.std.specs.List.{position, prefix_len}
use Rattle.session_table.specs.declared.session.Session.{Session}
use Rattle.session_table.specs.declared.session.SlotView.{SlotView}
use Rattle.session_table.specs.Sessions.{is_running, running_in}
use Rattle.xom_model.specs.Event.{running_slot}
use Rattle.xom_model.specs.Seen.{shown_slot, view_of}
use Rattle.xom_model.specs.State.{Record}
use Rattle.xom_debug.specs.Moments.{is_guest_running}

runs_at : (sessions : List Session)
    → prefix_len (λ (shown : SlotView). not (is_running shown.state)) (map shown_slot sessions)
    ≡ prefix_len (λ (s : Session). not (is_running s.state)) sessions
runs_at [] = refl
runs_at (s ∷ sessions) = ap (λ n. cond (not (is_running s.state)) (1 + n) 0) (runs_at sessions)

shown-running : (sessions : List Session)
    → position (λ (shown : SlotView). is_running shown.state) (map shown_slot sessions) ≡ running_in
    sessions
shown-running sessions = rw (runs_at sessions, length-map sessions shown_slot) refl

pub running-seen : (r : Record) → is_guest_running (view_of r) ≡ is_some (running_slot r)
unfolding view_of
running-seen r = ap is_some (shown-running r.core.sessions)
