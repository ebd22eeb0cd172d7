-- A plain image is its entry and its bytes.
use Rattle.std.proofs.Common.{◌≡◌, ◌≤◌, ◌<◌, ◌%◌, ◌^◌, length}
use Rattle.std.proofs.Math.Bridge.{le_prop}
use Rattle.std.proofs.Math.Nat.{ℕ_set}
use mathlib.Core.HLevel.{is_prop→PathP}
use Rattle.xom_base.specs.declared.image.PlainImage.{PlainImage}

-- two images of one entry and the same bytes are the same image: the facts beside them have one
-- proof each
pub PlainImage-equal : (a b : PlainImage) → a.entry ≡ b.entry → a.bytes ≡ b.bytes → a ≡ b
PlainImage-equal a b entry bytes = λ i. record {
  entry = entry i;
  bytes = bytes i;
  fits = is_prop→PathP (λ j. length (bytes j) ≤ 2 ^ 20) (λ j. le_prop) a.fits b.fits i;
  aligned = is_prop→PathP (λ j. entry j % 4 ≡ 0) (λ j. ℕ_set (entry j % 4) 0) a.aligned b.aligned i;
  private = is_prop→PathP (λ j. entry j < 2 ^ 20) (λ j. le_prop) a.private b.private i;
}
