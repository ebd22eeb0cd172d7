-- The image of a valid entry and bytes is the one that has them.
use Rattle.std.proofs.Common.{◌≡◌, ◌%◌, ◌^◌, ◌<◌, ◌≤◌, Bool, true, false, Some, length, refl, ap}
use Rattle.std.specs.Prelude.{◌==◌}
use Rattle.std.proofs.Math.Decide.{dec_le, dec_lt}
use Rattle.std.proofs.lemmas.Bool.{eq-eqb}
use Rattle.xom_base.specs.declared.image.PlainImage.{PlainImage}
use Rattle.xom_base.proofs.Images.{PlainImage-equal}
use Rattle.cli_base.specs.Inputs.{image_if_aligned, image_if_fitting, image_if_private, valid_image}

module _ (image : PlainImage) where
  aligned_image : (fits : length image.bytes ≤ 2 ^ 20) (private : image.entry < 2 ^ 20) (b : Bool)
      (is : (image.entry % 4 == 0) ≡ b)
      → image_if_aligned image.entry image.bytes fits private b is ≡ Some image
  aligned_image fits private false is = absurd (cc (eq-eqb (image.entry % 4) 0 image.aligned, is))
  aligned_image fits private true is = ap Some (PlainImage-equal _ image refl refl)

  private_image : (fits : length image.bytes ≤ 2 ^ 20) (d : Dec (image.entry < 2 ^ 20))
      → image_if_private image.entry image.bytes fits d ≡ Some image
  private_image fits (yes private) = aligned_image fits private (image.entry % 4 == 0) refl
  private_image fits (no high) = absurd (high image.private)

  fitting_image : (d : Dec (length image.bytes ≤ 2 ^ 20))
      → image_if_fitting image.entry image.bytes d ≡ Some image
  fitting_image (yes fits) = private_image fits (dec_lt image.entry (2 ^ 20))
  fitting_image (no long) = absurd (long image.fits)

pub valid_image-of : (image : PlainImage) → valid_image image.entry image.bytes ≡ Some image
valid_image-of image = fitting_image image (dec_le (length image.bytes) (2 ^ 20))
