-- What is still to be put leads to what all the guests lead to.
use Rattle.std.proofs.Common.{◌≡◌, drop, length}
use Rattle.cli_runs.specs.Places.{FitsAll, first_frame}
use Rattle.power_on.specs.Start.{ram_of_whole, whole_with_ram, with_guests}
use Rattle.power_on.proofs.guests.put_guests.Given as goal

abbrev pub invariant-loop-image : goal.invariant-loop-image
invariant-loop-image g l = record {
  machine : l.machine ≡ whole_with_ram l.fn.machine (ram_of_whole l.machine);
  size : length (ram_of_whole l.machine) ≡ length (ram_of_whole l.fn.machine);
  fit : FitsAll l.frames l.frame (drop l.image-index l.images);
  bytes : with_guests (ram_of_whole l.machine) l.frame (drop l.image-index l.images) ≡ with_guests
      (ram_of_whole l.fn.machine) first_frame l.images;
}
