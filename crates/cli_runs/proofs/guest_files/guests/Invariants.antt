-- Files are as they were, the guests so far lie in RAM up to the next one's frame, and stand in
-- front of those of the lines that
-- are left.
use Rattle.std.proofs.Common.{◌≡◌, drop}
use Rattle.cli_runs.specs.Places.{FitsAll, first_frame, frame_behind}
use Rattle.cli_runs.proofs.Each.{Carries}
use Rattle.cli_runs.proofs.Unheld.{all_guests}
use Rattle.std.specs.Prelude.{string_bytes}
use Rattle.cli_runs.proofs.guest_files.guests.Given as goal

abbrev pub invariant-loop-line : goal.invariant-loop-line
invariant-loop-line g l = record {
  names : g.F.Files.held l.files ≡ g.F.Files.held l.initial.files;
  writes : g.F.Files.writes l.files ≡ g.F.Files.writes l.initial.files;
  reads : g.F.Files.reads l.files ≡ g.F.Files.reads l.initial.files;
  fit : FitsAll l.frames first_frame l.images;
  behind : l.frame ≡ frame_behind first_frame l.images;
  carries : Carries (all_guests (string_bytes l.run) l.frames) (g.F.Files.held l.initial.files)
      first_frame l.lines l.frame (drop l.line-index l.lines) l.images;
}
