-- The 16 bytes behind the first 16 are all that is left of 32.
use Rattle.std.proofs.Common.{◌∙◌, ◌-◌, ap, drop, sym, take}
use Rattle.std.proofs.lemmas.List.{take_rest}
use Rattle.xom_seal.proofs.keys.last_half.Goals as goal

pub returns : goal.returns
returns c =
    let bytes = c.args.bytes.now in
    c.part.ensures ∙ ap (λ n. take (n - 16) (drop 16 bytes)) (sym c.told-bytes) ∙ take_rest bytes 16
