-- Each guest is read behind those before it, and stands behind them.
use Rattle.std.proofs.Common.{◌≡◌, ◌+◌, ◌≤◌, List, ◌∷◌, drop, sym, ap, subst, ◌∙◌}
use Rattle.std.specs.Prelude.{string_bytes}
use Rattle.std.proofs.lemmas.List.{drop_more}
use Rattle.xom_script.specs.declared.run_file.GuestFile.{GuestFile}
use Rattle.cli_runs.specs.Places.{first_frame, frames_of_guest}
use Rattle.cli_runs.proofs.Each.{Carries, carries_next}
use Rattle.cli_runs.proofs.Rows.{fits-snoc, frame_behind-snoc}
use Rattle.cli_runs.proofs.Unheld.{all_guests, guests-each, one_guest}
use Rattle.cli_runs.proofs.guest_files.guests.Goals as goal

pub loop-line-preserved : goal.loop-line-preserved
loop-line-preserved g c =
    let run = string_bytes c.args.run.now in
    let frames = c.args.frames in
    let lines = c.args.lines.now in
    let xs = c.as_slice-line-items.result.now in
    let i = c.loop-line.line-index in
    let frame = c.loop-line.frame in
    let now = c.loop-line.images in
    let told = g.F.Files.held c.args.files.now in
    let line = c.line-item.result in
    let image = c.in_ok-image.image in
    let all = all_guests run frames in
    let same : xs ≡ lines = c.as_slice-line-items.ensures in
    let more : drop i xs ≡ line ∷ drop (i + 1) xs = drop_more xs i line c.loop-line-test.true
    ∙ ap (λ x. x ∷ drop (i + 1) xs) (sym c.line-item.is) in
    let here : Carries all told first_frame lines frame (line ∷ drop (i + 1) xs) now =
    subst (λ (rest : List GuestFile). Carries all told first_frame lines frame rest now)
    (ap (drop i) (sym same) ∙ more) c.loop-line.invariant.carries in
    let left : Carries all told first_frame lines frame (line ∷ drop (i + 1) lines) now =
    subst (λ (ys : List GuestFile). Carries all told first_frame lines frame
    (line ∷ drop (i + 1) ys) now) same here in
    record {
      names = c.in_ok-image.ensures.names ∙ c.loop-line.invariant.names;
      writes = c.in_ok-image.ensures.writes ∙ c.loop-line.invariant.writes;
      reads = c.in_ok-image.ensures.gives.0 ∙ c.loop-line.invariant.reads;
      fit = rw c.in_ok-push.ensures.ok (fits-snoc frames first_frame now image
          c.loop-line.invariant.fit (subst (λ n. n + frames_of_guest image ≤ frames)
          c.loop-line.invariant.behind c.in_ok-image.ensures.fits));
      behind = rw (c.in_ok-push.ensures.ok, c.frames_of.ensures.value)
          (ap (λ n. n + frames_of_guest image) c.loop-line.invariant.behind
          ∙ sym (frame_behind-snoc first_frame now image));
      carries =
          rw (c.in_ok-push.ensures.ok, c.frames_of.ensures.value)
          (carries_next all (one_guest run frames) (λ frame image. frame + frames_of_guest image)
          (guests-each run frames) told first_frame lines frame line (drop (i + 1) lines) now left
          _ _ image
          (rw c.loop-line.invariant.names at c.in_ok-image.ensures.gives));
    }
