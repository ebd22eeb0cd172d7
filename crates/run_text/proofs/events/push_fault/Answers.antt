use Rattle.text_pieces.specs.Pieces.{hex8}
use Rattle.std.specs.Prelude.{codes}
use Rattle.run_text.specs.EventsLine.{kind_text}
use Rattle.run_text.proofs.Joined.{three-joined}
use Rattle.run_text.proofs.events.push_fault.Goals as goal

pub returns : goal.returns
returns c =
    three-joined c.push_kind.result c.args.text.now.items (codes " kernel fault at ")
    (hex8 c.args.at) (kind_text c.args.why)
    c.push_text.new.text.items c.push_hex8.new.text.items c.push_kind.new.text.items
    c.in_ok-push_text.ensures.ok c.in_ok-push_hex8.ensures.ok c.push_kind.ensures
