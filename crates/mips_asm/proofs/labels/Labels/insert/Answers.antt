-- What the map says of each name after the change.
use Rattle.std.proofs.lemmas.Map.Text.{hash_map_updates_str}
use Rattle.mips_asm.proofs.labels.Labels.insert.Goals as goal

pub returns-clause-places : goal.returns-clause-places
returns-clause-places c =
    λ other. hash_map_updates_str c.args.name.now c.args.self.now.places c.insert.new.self
    _ c.in_ok-old.ensures.updates other
