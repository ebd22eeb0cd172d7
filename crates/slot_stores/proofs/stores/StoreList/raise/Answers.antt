-- The store that is raised is the slot's.
use Rattle.std.proofs.Common.{◌≡◌, ◌-◌, ◌<◌, suc, length, set, ◌∙◌, ap, arith}
use Rattle.xom_versions.specs.Versions.{with_hashes}
use Rattle.xom_versions.specs.Store.{no_store}
use Rattle.slot_stores.specs.SlotStores.{store_at}
use Rattle.slot_stores.proofs.Places.{store_is, store_set}
use Rattle.slot_stores.proofs.stores.StoreList.raise.Goals as goal

pub returns-clause-ram : goal.returns-clause-ram
returns-clause-ram g c =
    let at = c.from.result - 1 in
    let is : c.args.slot ≡ suc at = let from = c.from.ensures in let some = c.requires.some in
    omega arith in
    let within : at < length c.self.inside.slots.items =
    let size : length c.self.inside.slots.items ≡ 16 = c.self.invariant in let known =
    c.requires.known in omega arith in
    let here : g.V.VersionStore.as_store c.index_mut.result.now ≡ store_at c.args.self.now
    c.args.slot =
    store_is g.V.VersionStore.as_store g.V.VersionStore.versions.blank_store
    c.self.inside.slots.items c.args.slot at is no_store c.index_mut.result.now within
    c.index_mut.ensures.value
    ∙ ap (λ s. store_at s c.args.slot) c.self.view_is in
    c.raise.ensures.ram ∙ ap (λ s. g.V.VersionStore.versions.ram_after_raise s c.args.line
    c.args.ram.now) here

pub returns-clause-entries : goal.returns-clause-entries
returns-clause-entries g c =
    let at = c.from.result - 1 in
    let is : c.args.slot ≡ suc at = let from = c.from.ensures in let some = c.requires.some in
    omega arith in
    let within : at < length c.self.inside.slots.items =
    let size : length c.self.inside.slots.items ≡ 16 = c.self.invariant in let known =
    c.requires.known in omega arith in
    let here : g.V.VersionStore.as_store c.index_mut.result.now ≡ store_at c.args.self.now
    c.args.slot =
    store_is g.V.VersionStore.as_store g.V.VersionStore.versions.blank_store
    c.self.inside.slots.items c.args.slot at is no_store c.index_mut.result.now within
    c.index_mut.ensures.value
    ∙ ap (λ s. store_at s c.args.slot) c.self.view_is in
    c.raise.ensures.entries
    ∙ ap (λ s. with_hashes c.args.journal.now.entries (g.V.VersionStore.versions.texts_of_raise s
    c.args.line c.args.ram.now)) here

pub returns-clause-stores : goal.returns-clause-stores
returns-clause-stores g c =
    let at = c.from.result - 1 in
    let is : c.args.slot ≡ suc at = let from = c.from.ensures in let some = c.requires.some in
    omega arith in
    let within : at < length c.self.inside.slots.items =
    let size : length c.self.inside.slots.items ≡ 16 = c.self.invariant in let known =
    c.requires.known in omega arith in
    let here : g.V.VersionStore.as_store c.index_mut.result.now ≡ store_at c.args.self.now
    c.args.slot =
    store_is g.V.VersionStore.as_store g.V.VersionStore.versions.blank_store
    c.self.inside.slots.items c.args.slot at is no_store c.index_mut.result.now within
    c.index_mut.ensures.value
    ∙ ap (λ s. store_at s c.args.slot) c.self.view_is in
    store_set g.V.VersionStore.as_store g.V.VersionStore.versions.blank_store
    c.self.inside.slots.items c.args.slot at is c.raise.new.self
    ∙ ap (λ s. set s c.args.slot (g.V.VersionStore.as_store c.raise.new.self)) c.self.view_is
    ∙ ap (set c.args.self.now c.args.slot) (c.raise.ensures.store
    ∙ ap (λ s. g.V.VersionStore.versions.store_after_raise s c.args.line c.args.ram.now) here)
