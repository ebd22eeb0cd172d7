-- One more byte behind those before.
use Rattle.std.proofs.Common.{◌++◌, [], ◌∷◌, ap, refl, sym, ◌+◌, ◌∙◌}
use Rattle.std.proofs.lemmas.List.FromFn.{map-range_with_len_more}
use Rattle.xom_debug.specs.DebugTexts.{byte_at as byte_at_of, bytes_from as bytes_from_of}
use Rattle.xom_debug.proofs.printing.bytes_from.Goals as goal

pub loop-i-preserved : goal.loop-i-preserved
loop-i-preserved c =
    let view = c.args.view.now in
    let address = c.args.address in
    let i = c.loop-i.i in
    c.in_ok-push.ensures.items
    ∙ ap (λ bytes. bytes ++ c.byte_at.result ∷ []) c.loop-i.invariant
    ∙ ap (λ byte. bytes_from_of view address i ++ byte ∷ [])
    (rw (c.from.ensures, c.from-in-loop-i.ensures) at c.byte_at.ensures)
    ∙ sym (map-range_with_len_more (byte_at_of view) address i (address + i) refl)
