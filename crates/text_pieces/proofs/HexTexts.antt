-- Digits of bytes that stand one after another, and texts that begin with a text.
use Rattle.std.proofs.Common.{◌≡◌, ℕ, ◌+◌, ◌<◌, List, [], ◌∷◌, ◌++◌, length, get_or, take, refl, sym, ap, ◌∙◌, append_assoc, append-nil}
use Rattle.std.proofs.lemmas.List.{take_more}
use Rattle.hex.specs.Hex.{encode_lower, encode_with}
use Rattle.text_pieces.specs.Pieces.{Begins}

pub encode_with-append : (digits front more : List ℕ)
    → encode_with digits (front ++ more) ≡ encode_with digits front ++ encode_with digits more
unfolding encode_with
encode_with-append digits [] more = refl
encode_with-append digits (byte ∷ front) more = rw (encode_with-append digits front more) refl

-- the digits of one more byte
pub hex_more : (text bytes : List ℕ) (i byte : ℕ) → i < length bytes → byte ≡ get_or bytes i 0
    → (text ++ encode_lower (take i bytes)) ++ encode_lower (byte ∷ []) ≡ text
    ++ encode_lower (take (i + 1) bytes)
hex_more text bytes i byte within is =
    append_assoc text (encode_lower (take i bytes)) (encode_lower (byte ∷ []))
    ∙ ap (λ more. text ++ more) (
    sym (encode_with-append _ (take i bytes) (byte ∷ []))
    ∙ ap encode_lower (ap (λ b. take i bytes ++ b ∷ []) is ∙ sym (take_more bytes i 0 within)))

-- what begins with a text and more begins with the text
pub begins_behind : (front part text : List ℕ) → Begins (front ++ part) text → Begins front text
begins_behind front part text begins =
    (part ++ begins.0, begins.1 ∙ append_assoc front part begins.0)
