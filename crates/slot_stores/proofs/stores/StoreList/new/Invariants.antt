-- So many are blank.
use Rattle.std.proofs.Common.{◌≡◌, length, map, replicate}
use Rattle.slot_stores.proofs.stores.StoreList.new.Given as goal

abbrev pub invariant-loop-place : goal.invariant-loop-place
invariant-loop-place g l =
    (length l.slots.items ≡ l._place)
    × (map g.V.VersionStore.as_store l.slots.items ≡ replicate l._place
    g.V.VersionStore.versions.blank_store)
