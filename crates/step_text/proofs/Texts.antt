-- Digits of bytes that stand behind others.
use Rattle.std.proofs.Common.{◌≡◌, ℕ, zero, suc, ◌*◌, drop, ◌∷◌, arith, List, [], refl}
use Rattle.hex.specs.Hex.{encode_with}

-- the digits behind those of the first bytes are the digits of the other bytes
pub digits_behind : (digits : List ℕ) (n : ℕ) (bytes : List ℕ)
    → drop (2 * n) (encode_with digits bytes) ≡ encode_with digits (drop n bytes)
unfolding encode_with
digits_behind digits zero bytes = refl
digits_behind digits (suc n) [] =
    let two : 2 * suc n ≡ suc (suc (2 * n)) = omega arith in
    rw two refl
digits_behind digits (suc n) (byte ∷ bytes) =
    let two : 2 * suc n ≡ suc (suc (2 * n)) = omega arith in
    rw two (digits_behind digits n bytes)
