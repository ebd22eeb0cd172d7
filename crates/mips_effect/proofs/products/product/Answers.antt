-- The signed product is whole in 64 bits.
use Rattle.std.proofs.Common.{◌≡◌, ◌*ℤ◌, refl, ◌∙◌, FitsSigned}
use Rattle.std.proofs.lemmas.Int.{to_z-of_z}
use Rattle.std.specs.Int.{w32}
use Rattle.mips_instruction.specs.Numbers.{reduced_64, signed_number}
use Rattle.mips_effect.proofs.Signed.{signed-is, product-is}
use Rattle.mips_effect.proofs.products.product.Goals as goal

pub returns : goal.returns
returns c =
    let s_fits : FitsSigned w32 c.cast_signed.result = record { sfits = c.cast_signed.type_inv } in
    let t_fits : FitsSigned w32 c.cast_signed-2.result =
    record { sfits = c.cast_signed-2.type_inv } in
    let s_wide : c.from.result ≡ c.cast_signed.result = c.from.ensures ∙ to_z-of_z w32 _ s_fits in
    let t_wide : c.from-2.result ≡ c.cast_signed-2.result = c.from-2.ensures
    ∙ to_z-of_z w32 _ t_fits in
    let s_is : c.cast_signed.result ≡ signed_number c.args.s = c.cast_signed.ensures ∙ signed-is c.args.s
    c.ranges.s.fits in
    let t_is : c.cast_signed-2.result ≡ signed_number c.args.t = c.cast_signed-2.ensures
    ∙ signed-is c.args.t c.ranges.t.fits in
    let whole : c.cast_unsigned.result ≡ reduced_64
    (c.cast_signed.result *ℤ c.cast_signed-2.result) =
    c.cast_unsigned.ensures ∙ simp (s_wide, t_wide)
    (product-is c.cast_signed.result c.cast_signed-2.result s_fits t_fits) in
    whole ∙ rw (s_is, t_is) refl
