-- Asking for a version changes no page.
use Rattle.std.proofs.Common.{◌∙◌, ap}
use Rattle.page_map.specs.Pages.{frame_of}
use Rattle.xom_model.specs.State.{page_of}
use Rattle.xom_private.proofs.parts.Core.bring.Goals as goal

pub place-requires-clause-mapped : goal.place-requires-clause-mapped
place-requires-clause-mapped g c = (
  c.args.frame,
  ap (λ k. frame_of k.pages c.args.slot (page_of c.args.line))
      c.version.ensures.core ∙ c.requires.frame,
)
