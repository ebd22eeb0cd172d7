-- What stands first in a chunk once bytes were put there.
use Rattle.std.proofs.Common.{◌≡◌, ◌≤◌, ℕ, ◌+◌, List, [], ◌∷◌, ◌++◌, length, take, drop, min, sym, ◌∙◌, ap, arith}
use Rattle.std.proofs.Math.Nat.{min-eq_left, min-le_left, min-le_right}
use Rattle.std.proofs.lemmas.List.{append_assoc, length-take-le, length_push, take-take, take_at}
use Rattle.line_ram.specs.Bytes.{ram_with_bytes}
use Rattle.xom_model.specs.Event.{chunk_size}

-- one more byte behind those that stand first
pub put_more : (old seen : List ℕ) (i b : ℕ) → take i old ≡ seen → length seen ≡ i
    → take (i + 1) (ram_with_bytes old i (b ∷ [])) ≡ seen ++ b ∷ []
put_more old seen i b is long =
    ap (λ l. take (i + 1) (l ++ (b ∷ drop (i + 1) old))) is
    ∙ ap (take (i + 1)) (sym (append_assoc seen (b ∷ []) (drop (i + 1) old)))
    ∙ take_at (seen ++ b ∷ []) (drop (i + 1) old) (i + 1) (length_push seen b ∙ ap (λ n. n + 1)
    long)

-- the first bytes of a list, as many as a chunk has at most
pub put_front : (old bytes : List ℕ)
    → take (min (min (length bytes) chunk_size) chunk_size)
    (ram_with_bytes old 0 (take (min (length bytes) chunk_size) bytes))
    ≡ take (min (min (length bytes) chunk_size) chunk_size) (take chunk_size bytes)
put_front old bytes =
    let m = min (length bytes) chunk_size in
    let within : m ≤ length bytes = min-le_left (length bytes) chunk_size in
    let few : m ≤ chunk_size = min-le_right (length bytes) chunk_size in
    ap (λ k. take k (ram_with_bytes old 0 (take m bytes))) (min-eq_left few)
    ∙ take_at (take m bytes) (drop (0 + length (take m bytes)) old) m
    (length-take-le m bytes within)
    ∙ sym (take-take m chunk_size bytes few)
    ∙ ap (λ k. take k (take chunk_size bytes)) (sym (min-eq_left few))

-- the bytes that were copied there, as many as a chunk has at most
pub copied : (new seen : List ℕ) (count : ℕ) → take (min count chunk_size) new ≡ seen
    → take (min (min count chunk_size) chunk_size) new ≡ take
    (min (min count chunk_size) chunk_size) seen
copied new seen count is =
    let m = min count chunk_size in
    let few : m ≤ chunk_size = min-le_right count chunk_size in
    ap (λ k. take k new) (min-eq_left few)
    ∙ is
    ∙ sym (ap (take m) (sym is) ∙ take-take m m new (omega arith) ∙ is)
    ∙ ap (λ k. take k seen) (sym (min-eq_left few))
