-- The lines are those of the list.
use Rattle.std.proofs.Common.{ap, ◌∙◌, map, []}
use Rattle.trace_judge.specs.GuestWatch.{line_after}
use Rattle.trace_judge.proofs.GuestLaws.{lines_now}
use Rattle.trace_judge.proofs.guests.Guests.lines.Goals as goal

pub returns : goal.returns
returns c owners es fed =
    c.in_ok-lines.ensures ∙ ap (map (λ g. line_after g [])) c.deref.ensures.value ∙ lines_now owners
    _ es fed
