-- What statements write straight into an image.
use Rattle.std.proofs.Common.{◌≡◌, ℕ, ◌+◌, ◌-◌, ◌<◌, cond, List, [], ◌∷◌, ◌++◌, length, get_or, take, None, Some, refl, sym, ap, subst, ◌∙◌}
use Rattle.std.proofs.Math.Seq.{take-append_seam}
use Rattle.std.specs.List.{All}
use Rattle.xom_base.specs.declared.image.PlainImage.{PlainImage}
use Rattle.mips_asm.specs.Places.{Placed}
use Rattle.mips_asm.specs.Encoding.{StatementGives}
use Rattle.mips_asm.specs.Images.{IsOver, piece_covers}
use Rattle.mips_asm.specs.Layout.{IsSized, last_end}
use Rattle.mips_asm.specs.Passes.{Labels, overlap_line, unknown_line}
use Rattle.mips_asm.specs.Sources.{HasBytes, IsPlacedImage, StandsOver, entry_by, labels_of, last_entry}
use Rattle.mips_asm.proofs.BytesLaws.{ends-same}
use Rattle.mips_asm.proofs.ImageLaws.{byte_over-push, byte_over_nil, chunk_at}
use Rattle.mips_asm.proofs.RangeLaws.{Writes_here}

-- no statement writes over zeros
pub stands_none : (labels : Labels) (bytes : List ℕ) → ((k : ℕ) → get_or bytes k 0 ≡ 0)
    → StandsOver labels [] bytes
stands_none labels bytes clear = ([], refl, λ k. clear k ∙ sym (byte_over_nil 0 k))

-- the next statement writes over what stands there
pub stands_more : (labels : Labels) (xs : List Placed) (i : ℕ) (x : Placed) (old new : List ℕ)
    → i < length xs → x ≡ get_or xs i x → StandsOver labels (take i xs) old
    → (own : List ℕ) × StatementGives labels x.place x.part.content own × IsOver x.place own old new
    → StandsOver labels (take (i + 1) xs) new
stands_more labels xs i x old new within is stands written = (
  stands.0 ++ chunk_at x.place written.0 ∷ [],
  Writes_here labels xs i x stands.0 written.0 within is stands.1 written.1,
  λ k. written.2 k
      ∙ ap (cond (piece_covers (chunk_at x.place written.0) k) (get_or written.0 (k - x.place) 0))
      (stands.2 k)
      ∙ sym (byte_over-push 0 stands.0 (chunk_at x.place written.0) k),
)

-- what all statements write are the bytes
pub has_bytes : (labels : Labels) (placed : List Placed) (bytes : List ℕ) → All IsSized placed
    → length bytes ≡ last_end placed → StandsOver labels placed bytes → HasBytes labels placed bytes
has_bytes labels placed bytes sized whole stands = (
  stands.0,
  stands.1,
  record {
    whole = whole ∙ sym (ends-same labels placed stands.0 sized stands.1);
    each =
        λ k below. stands.2 k;
  },
)

-- the image of statements with these bytes
pub placed_image : (placed : List Placed) (image : PlainImage) (labels : Labels)
    → labels ≡ labels_of placed → overlap_line placed ≡ None → unknown_line labels placed ≡ None
    → entry_by labels (last_entry placed) ≡ Some image.entry → HasBytes labels placed image.bytes
    → IsPlacedImage placed image
placed_image placed image labels named apart known entry has =
    let own : HasBytes (labels_of placed) placed image.bytes =
    subst (λ (l : Labels). HasBytes l placed image.bytes) named has in record {
      no_overlap = apart;
      no_unknown = subst (λ (l : Labels). unknown_line l placed ≡ None) named known;
      entry = subst (λ (l : Labels). entry_by l (last_entry placed) ≡ Some image.entry) named entry;
      chunks = own.0;
      writes = own.1;
      bytes = own.2;
    }

-- what was written over all of a list is the list
pub written_back : (n : ℕ) (new rest : List ℕ) → length new ≡ n → take n (new ++ rest) ≡ new
written_back n new rest whole =
    subst (λ (k : ℕ). take k (new ++ rest) ≡ new) whole (take-append_seam new rest)
