-- Each image is read behind those before it.
use Rattle.std.proofs.Common.{◌≡◌, ◌+◌, ◌++◌, List, [], ◌∷◌, drop, take, refl, sym, ap, subst, ◌∙◌}
use Rattle.std.proofs.lemmas.List.{drop_more, take_more}
use Rattle.xom_script.specs.declared.run_file.OwnerFile.{OwnerFile}
use Rattle.cli_base.specs.Inputs.{image_of}
use Rattle.cli_runs.specs.OwnerImages.{owner_with_image}
use Rattle.cli_runs.proofs.Each.{Carries, carries_next}
use Rattle.cli_runs.proofs.Rows.{owners-snoc}
use Rattle.cli_runs.proofs.Steps.{made-ok}
use Rattle.cli_runs.proofs.Unheld.{all_owners, one_owner, owners-each, same_state}
use Rattle.cli_runs.proofs.owner_images.owners.Goals as goal

pub loop-line-preserved : goal.loop-line-preserved
loop-line-preserved g c =
    let lines = c.args.lines.now in
    let xs = c.as_slice-line-items.result.now in
    let i = c.loop-line.line-index in
    let now = c.loop-line.owners in
    let told = g.F.Files.held c.args.files.now in
    let line = c.line-item.result in
    let owner = owner_with_image line c.in_ok-plain.plain in
    let same : xs ≡ lines = c.as_slice-line-items.ensures in
    let more : drop i xs ≡ line ∷ drop (i + 1) xs = drop_more xs i line c.loop-line-test.true
    ∙ ap (λ x. x ∷ drop (i + 1) xs) (sym c.line-item.is) in
    let here : Carries all_owners told tt lines tt (line ∷ drop (i + 1) xs) now =
    subst (λ (rest : List OwnerFile). Carries all_owners told tt lines tt rest now)
    (ap (drop i) (sym same) ∙ more) c.loop-line.invariant.carries in
    let left : Carries all_owners told tt lines tt (line ∷ drop (i + 1) lines) now =
    subst (λ (ys : List OwnerFile). Carries all_owners told tt lines tt (line ∷ drop (i + 1) ys)
    now) same here in
    let taken : take (i + 1) lines ≡ take i lines ++ (line ∷ []) =
    ap (take (i + 1)) (sym same) ∙ take_more xs i line c.loop-line-test.true
    ∙ ap (λ x. take i xs ++ (x ∷ [])) (sym c.line-item.is) ∙ ap (λ ys. take i ys ++ (line ∷ []))
    same in
    record {
      names = c.in_ok-plain.ensures.names ∙ c.loop-line.invariant.names;
      writes = c.in_ok-plain.ensures.writes ∙ c.loop-line.invariant.writes;
      reads = c.in_ok-plain.ensures.gives.0 ∙ c.loop-line.invariant.reads;
      named = rw (c.in_ok-push.ensures.ok, taken) (owners-snoc (take i lines) now line owner
          c.loop-line.invariant.named refl refl);
      carries =
          rw c.in_ok-push.ensures.ok
          (carries_next all_owners one_owner same_state owners-each told tt lines tt line
          (drop (i + 1) lines) now left _ _ owner
          (made-ok told (λ held. image_of held line.plain) (owner_with_image line) _ _ c.in_ok-plain.plain
          (rw (c.loop-line.invariant.names, c.as_string.ensures) at
          c.in_ok-plain.ensures.gives)));
    }
