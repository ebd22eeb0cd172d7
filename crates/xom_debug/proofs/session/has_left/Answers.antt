-- That no guest runs is seen.
use Rattle.std.proofs.Common.{sym, ◌∙◌, ap}
use Rattle.std.specs.Prelude.{◌&&◌, not}
use Rattle.xom_model.specs.Seen.{view_of}
use Rattle.xom_debug.specs.Moments.{is_guest_running}
use Rattle.xom_debug.proofs.Seen.{running-seen}
use Rattle.xom_debug.proofs.session.has_left.Goals as goal

pub returns-then-is_guest : goal.returns-then-is_guest
returns-then-is_guest g c =
    ap not (c.is_guest_running.ensures ∙ sym (running-seen c.args.machine.now.state))
    ∙ ap (λ b. b && not (is_guest_running (view_of c.args.machine.now.state)))
    (sym (sym c.is_guest.ensures ∙ c.if-is_guest.true))
