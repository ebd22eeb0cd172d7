-- A sealed image is its envelope and its lines.
use Rattle.std.proofs.Common.{◌≡◌, ◌≤◌, ◌<◌, ◌%◌, ◌^◌, List, length}
use Rattle.std.proofs.Math.Bridge.{le_prop}
use Rattle.std.proofs.Math.Nat.{ℕ_set}
use mathlib.Core.HLevel.{is_prop→PathP}
use Rattle.xom_seal.specs.declared.line.SealedLine.{SealedLine}
use Rattle.xom_seal.specs.Envelopes.{entry_of_envelope, lines_in}
use Rattle.xom_seal.specs.declared.sealed_image.SealedImage.{SealedImage}
use Rattle.xom_seal.proofs.WholeLines.{AreWhole}

AreWhole-prop : (lines : List SealedLine) → IsProp (AreWhole lines)
AreWhole-prop lines = hlevel (ℕ_set)

-- two sealed images of one envelope and the same lines are the same image
pub SealedImage-equal : (a b : SealedImage) → a.envelope ≡ b.envelope → a.lines ≡ b.lines → a ≡ b
SealedImage-equal a b envelope lines = λ i. record {
  envelope = envelope i;
  lines = lines i;
  sized = is_prop→PathP (λ j. length (envelope j) ≡ 88) (λ j. ℕ_set (length (envelope j)) 88)
      a.sized b.sized i;
  aligned = is_prop→PathP (λ j. entry_of_envelope (envelope j) % 4 ≡ 0)
      (λ j. ℕ_set (entry_of_envelope (envelope j) % 4) 0) a.aligned b.aligned i;
  private = is_prop→PathP (λ j. entry_of_envelope (envelope j) < 2 ^ 20) (λ j. le_prop) a.private b.private
      i;
  counted = is_prop→PathP (λ j. lines_in (envelope j) ≡ length (lines j))
      (λ j. ℕ_set (lines_in (envelope j)) (length (lines j))) a.counted b.counted i;
  fits = is_prop→PathP (λ j. length (lines j) ≤ 2 ^ 15) (λ j. le_prop) a.fits b.fits i;
  whole = is_prop→PathP (λ j. AreWhole (lines j)) (λ j. AreWhole-prop (lines j)) a.whole b.whole i;
}
