-- The answers of the passes.
use Rattle.std.proofs.Common.{◌≡◌, false, sym, ap, ◌∙◌, option_map}
use Rattle.std.specs.Result.{IsErrAnd, is_ok}
use Rattle.std.proofs.lemmas.Bool.{true≢false}
use Rattle.mips_asm.specs.LabelMaps.{place_in}
use Rattle.mips_asm.specs.Passes.{Labels}
use Rattle.mips_asm.specs.Sources.{IsPlacedFault, IsPlacedImage, OrNoMemory, bad_entry, bad_entry_of, last_entry}
use Rattle.mips_asm.proofs.AssemblyLaws.{bad_is, entry_is_ok, err_is, range_here}
use Rattle.mips_asm.proofs.assembly.image_of.Goals as goal

pub returns-in_err-bytes : goal.returns-in_err-bytes
returns-in_err-bytes c =
    let same : IsErrAnd c.from_residual-in_err-bytes.result (λ e. e ≡ c.in_err-bytes.field-0.0) =
    c.from_residual-in_err-bytes.ensures.1 in
    let placed = c.args.placed.now in
    let labels = place_in c.in_ok-labels.labels in
    let last : bad_entry labels (option_map (λ placed. placed.now) c.last_entry.result)
    ≡ bad_entry_of placed =
    ap (bad_entry labels) c.last_entry.ensures
    ∙ ap (λ (l : Labels). bad_entry l (last_entry placed)) c.in_ok-labels.ensures in
    let told = bad_is c.entry-entry.result c.err.result
    (bad_entry labels (option_map (λ placed. placed.now) c.last_entry.result))
    c.entry-entry.ensures.bad c.err.ensures.value in
    err_is c.from_residual-in_err-bytes.result c.in_err-bytes.field-0.0 same (IsPlacedImage placed)
    (OrNoMemory (IsPlacedFault placed))
    (range_here placed c.in_err-bytes.field-0.0 labels c.err.result c.in_ok-labels.ensures
    (told ∙ last) c.in_ok-no_overlap.ensures c.in_ok-no_unknown.ensures
    c.in_err-bytes.ensures.fault)

pub returns-in_err-entry : goal.returns-in_err-entry
returns-in_err-entry c =
    let placed = c.args.placed.now in
    let labels = place_in c.in_ok-labels.labels in
    let bad = rw c.last_entry.ensures at c.entry-entry.ensures.bad in
    let ok = entry_is_ok labels placed c.entry-entry.result c.err.result bad c.err.ensures.value
    c.in_ok-bytes.ensures.entry in
    let not : false ≡ is_ok c.entry-entry.result = c.in_err-entry.ensures.variant in
    absurd (true≢false (sym (not ∙ ok)))
