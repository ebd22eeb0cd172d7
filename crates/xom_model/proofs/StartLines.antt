-- The lines of a program's memory at its start: those of its image, then zeros.
use Rattle.std.proofs.Common.{◌≡◌, inl, inr, ℕ, zero, suc, ◌+◌, ◌-◌, ◌*◌, ◌<◌, ◌≤◌, ◌^◌, List, ◌∷◌, ◌++◌, length, take, drop, replicate, refl, sym, ◌∙◌, ap, arith, append-nil}
use Rattle.std.proofs.lemmas.List.{drop-append-le, drop-replicate, length-append, length-drop, length-replicate, length-take-le, take-append-le, take_all}
use Rattle.std.proofs.Math.Seq.{drop-append-add, take-append-add}
use Rattle.xom_base.specs.Padded.{padded_block}
use Rattle.image_sealer.specs.Sealing.{line_count, line_of_image}
use Rattle.mips_plain.specs.Memory.{private_size}
use Rattle.mips_plain.proofs.Sizes.{private_size_is}
use Rattle.xom_model.specs.Holds.{line_of_bytes}
use Rattle.xom_model.proofs.Gone.{less}

abbrev zeros : ℕ → List ℕ
zeros n = replicate n 0

len : (n : ℕ) → length (zeros n) ≡ n
len n = length-replicate n 0

take_zeros : (n m : ℕ) → n ≤ m → take n (zeros m) ≡ zeros n
take_zeros zero m few = refl
take_zeros (suc n) zero few = absurd (omega arith)
take_zeros (suc n) (suc m) few = ap (λ l. 0 ∷ l) (take_zeros n m (omega arith))

module _ (bytes : List ℕ) (small : length bytes ≤ 2 ^ 20) (line : ℕ) (low : line < 2 ^ 15) where
  abbrev m : ℕ
  m = 32 * line

  abbrev pad : List ℕ
  pad = zeros (2 ^ 20 - length bytes)

  whole : line_of_bytes (padded_block private_size bytes) line ≡ take 32 (drop m (bytes ++ pad))
  whole = ap (λ n. take 32 (drop m (bytes ++ zeros (n - length bytes)))) private_size_is

  pub start_size : length (line_of_bytes (padded_block private_size bytes) line) ≡ 32
  start_size =
      ap length whole
      ∙ length-take-le 32 (drop m (bytes ++ pad)) (let a = length-drop m (bytes ++ pad) in let b =
      length-append bytes pad in let c = len (2 ^ 20 - length bytes) in omega arith)

  -- behind the image
  pub start_zeros : line_count bytes ≤ line → line_of_bytes (padded_block private_size bytes) line ≡ zeros 32
  start_zeros past =
      let split : m ≡ length bytes + (m - length bytes) = omega arith in
      whole
      ∙ ap (take 32) (ap (λ n. drop n (bytes ++ pad)) split ∙ drop-append-add bytes pad
      (m - length bytes) ∙ drop-replicate (m - length bytes) (2 ^ 20 - length bytes) 0)
      ∙ take_zeros 32 (2 ^ 20 - length bytes - (m - length bytes)) (omega arith)

  -- in the image
  pub start_image : line < line_count bytes
      → line_of_bytes (padded_block private_size bytes) line ≡ line_of_image bytes line
  start_image inside =
      let within : m ≤ length bytes = omega arith in
      let rest = drop m bytes in
      let size : length rest ≡ length bytes - m = length-drop m bytes in
      whole ∙ ap (take 32) (drop-append-le m bytes pad within) ∙ elim (less (length rest) 32) [
        | inl short ↦
            let split : 32 ≡ length rest + (32 - length rest) = omega arith in
            let all : take 32 rest ≡ rest = take_all 32 rest (omega arith) in
            ap (λ n. take n (rest ++ pad)) split
            ∙ take-append-add rest pad (32 - length rest)
            ∙ ap (λ l. rest ++ l) (take_zeros (32 - length rest) (2 ^ 20 - length bytes)
            (omega arith))
            ∙ ap (λ (t : List ℕ). t ++ zeros (32 - length t)) (sym all)
        | inr long ↦
            let size_32 : length (take 32 rest) ≡ 32 = length-take-le 32 rest long in
            take-append-le 32 rest pad long
            ∙ sym (append-nil (take 32 rest))
            ∙ ap (λ n. take 32 rest ++ zeros (32 - n)) (sym size_32)
      ]
