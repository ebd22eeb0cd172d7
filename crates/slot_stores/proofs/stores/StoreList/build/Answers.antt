-- The store that is built is the slot's.
use Rattle.std.proofs.Common.{◌≡◌, ◌-◌, suc, set, ◌∙◌, ap, arith}
use Rattle.slot_stores.proofs.Places.{store_set}
use Rattle.slot_stores.proofs.stores.StoreList.build.Goals as goal

pub returns-clause-stores : goal.returns-clause-stores
returns-clause-stores g c =
    let at = c.from.result - 1 in
    let is : c.args.slot ≡ suc at = let from = c.from.ensures in let some = c.requires.some in
    omega arith in
    store_set g.V.VersionStore.as_store g.V.VersionStore.versions.blank_store
    c.self.inside.slots.items c.args.slot at is c.build.new.self
    ∙ ap (λ s. set s c.args.slot (g.V.VersionStore.as_store c.build.new.self)) c.self.view_is
    ∙ ap (set c.args.self.now c.args.slot) c.build.ensures.store
