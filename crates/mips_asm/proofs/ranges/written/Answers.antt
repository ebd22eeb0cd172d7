-- What all statements wrote are the bytes.
use Rattle.std.proofs.Common.{◌≡◌, ◌∙◌, ℕ, List, length, sym, subst, rules}
use Rattle.mips_asm.specs.LabelMaps.{place_in}
use Rattle.mips_asm.specs.Layout.{last_end}
use Rattle.mips_asm.specs.Sources.{StandsOver}
use Rattle.mips_asm.proofs.WrittenLaws.{has_bytes, written_back}
use Rattle.mips_asm.proofs.ranges.written.Goals as goal

pub returns-clause-found : goal.returns-clause-found
returns-clause-found c =
    let full : length c.write_all.new.image ≡ c.in_ok-image.image.len = search rules in
    let same : c.from_vec.result ≡ c.write_all.new.image = c.from_vec.ensures
    ∙ written_back _ c.write_all.new.image _ full in
    let stands = subst (λ (bytes : List ℕ). StandsOver (place_in c.args.labels.now)
    c.args.placed.now bytes) (sym same) c.in_ok-write_all.ensures.found in
    let whole : length c.from_vec.result ≡ last_end c.args.placed.now = search rules in
    has_bytes (place_in c.args.labels.now) c.args.placed.now c.from_vec.result c.requires.sized
    whole stands
