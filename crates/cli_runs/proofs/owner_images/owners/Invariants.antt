-- Files are as they were, and the owners so far stand in front of those of the lines that are left.
use Rattle.std.proofs.Common.{◌≡◌, drop, take}
use Rattle.cli_runs.specs.OwnerImages.{AreOwnersOf}
use Rattle.cli_runs.proofs.Each.{Carries}
use Rattle.cli_runs.proofs.Unheld.{all_owners}
use Rattle.cli_runs.proofs.owner_images.owners.Given as goal

abbrev pub invariant-loop-line : goal.invariant-loop-line
invariant-loop-line g l = record {
  names : g.F.Files.held l.files ≡ g.F.Files.held l.initial.files;
  writes : g.F.Files.writes l.files ≡ g.F.Files.writes l.initial.files;
  reads : g.F.Files.reads l.files ≡ g.F.Files.reads l.initial.files;
  named : AreOwnersOf (take l.line-index l.lines) l.owners;
  carries : Carries all_owners (g.F.Files.held l.initial.files) tt l.lines tt
      (drop l.line-index l.lines) l.owners;
}
