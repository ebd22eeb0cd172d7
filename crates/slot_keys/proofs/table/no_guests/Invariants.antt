-- So many have the keys of no guest.
use Rattle.std.proofs.Common.{◌≡◌, replicate}
use Rattle.slot_keys.specs.GuestKeys.{no_keys}
use Rattle.slot_keys.proofs.table.no_guests.Given as goal

abbrev pub invariant-loop-place : goal.invariant-loop-place
invariant-loop-place l = l.places.items ≡ replicate l._place no_keys
