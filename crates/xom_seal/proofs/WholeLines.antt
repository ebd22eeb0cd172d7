-- Lists of whole lines, and of what is made place by place.
use Rattle.std.proofs.Common.{◌≡◌, ℕ, ◌<◌, List, Some, length, map, sym, ◌∙◌, arith}
use Rattle.std.specs.Prelude.{slice_get}
use Rattle.std.specs.List.{range_with_len}
use Rattle.std.proofs.lemmas.List.FromFn.{get_or-map-range_with_len, length-map-range_with_len}
use Rattle.std.proofs.lemmas.Option.{slice_get_within, get_or_from_slice_get}
use Rattle.xom_seal.specs.declared.line.SealedLine.{SealedLine}

-- each line has its 32 bytes of ciphertext and of tag
abbrev pub AreWhole : List SealedLine → Type 0
AreWhole lines =
    (i : ℕ) (line : SealedLine) → slice_get lines i ≡ Some line
    → (length line.ct ≡ 32) × (length line.tag ≡ 32)

-- a value at a place of a list that is made place by place
pub get-made : {X : Type 0} (f : ℕ → X) (n i : ℕ) (x : X)
    → slice_get (map f (range_with_len 0 n)) i ≡ Some x → (i < n) × (x ≡ f i)
get-made f n i x is =
    let inside : i < length (map f (range_with_len 0 n)) =
    slice_get_within (map f (range_with_len 0 n)) i x is in
    let below : i < n = omega (arith, length-map-range_with_len f 0 n) in (
      below,
      sym (get_or_from_slice_get (map f (range_with_len 0 n)) i x x is)
          ∙ get_or-map-range_with_len f 0 n i i x below (omega arith),
    )
