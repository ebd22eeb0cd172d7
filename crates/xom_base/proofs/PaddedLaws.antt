-- Bytes with zeros behind them.
use Rattle.std.proofs.Common.{◌≡◌, ℕ, ◌+◌, ◌-◌, ◌≤◌, List, ◌++◌, length, take, drop, replicate, refl, sym, ◌∙◌, ap, arith, length-append}
use Rattle.std.proofs.lemmas.List.{append_assoc, drop-append-le, length-drop, length-replicate, length-take, replicate-append-replicate, take-append-le}
use Rattle.xom_base.specs.Padded.{padded_block, same_at_both}

-- zeros behind the bytes are there already
pub padded-more : (size count : ℕ) (bytes : List ℕ) → count ≤ size
    → padded_block size (bytes ++ replicate (count - length bytes) 0) ≡ padded_block size bytes
padded-more size count bytes fits =
    append_assoc bytes (replicate (count - length bytes) 0)
    (replicate (size - length (bytes ++ replicate (count - length bytes) 0)) 0)
    ∙ ap (λ zeros. bytes ++ zeros) (replicate-append-replicate (count - length bytes)
    (size - length (bytes ++ replicate (count - length bytes) 0)) 0
    ∙ ap (λ n. replicate n 0) (let l : length (bytes ++ replicate (count - length bytes) 0) ≡ length
    bytes + (count - length bytes) = simp (length-append, length-replicate) refl in omega arith))

-- the bytes with a part written over them from an address on
abbrev with_part : List ℕ → ℕ → List ℕ → List ℕ
with_part bytes address part = take address bytes ++ (part ++ drop (address + length part) bytes)

-- a part that is written over the bytes is written over the block
pub padded-written : (size address : ℕ) (bytes part : List ℕ) → address + length part ≤ length bytes
    → padded_block size (with_part bytes address part)
    ≡ with_part (padded_block size bytes) address part
padded-written size address bytes part within =
    let zeros : List ℕ = replicate (size - length bytes) 0 in
    let long : length (with_part bytes address part) ≡ length bytes =
    simp (length-append, length-take, length-drop) (omega arith) in
    ap (λ n. with_part bytes address part ++ replicate (size - n) 0) long
    ∙ append_assoc (take address bytes) (part ++ drop (address + length part) bytes) zeros
    ∙ same_at_both (λ front back. front ++ back)
    (sym (take-append-le address bytes zeros (omega arith)))
    (append_assoc part (drop (address + length part) bytes) zeros ∙ ap (λ rest. part ++ rest)
    (sym (drop-append-le (address + length part) bytes zeros within)))
