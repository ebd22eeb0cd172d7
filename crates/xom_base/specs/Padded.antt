-- A text of bytes that fills a block of fixed size from its front, with zeros behind it.
use Rattle.std.specs.Prelude.{◌≡◌, ℕ, ◌-◌, ◌≤◌, List, ◌++◌, length, take, drop, replicate}
use Rattle.std.proofs.Common.{sym, ◌∙◌, ap, arith}
use Rattle.std.proofs.lemmas.List.{take-append-drop, length-take-le, length-append, length-drop, length-replicate, drop-replicate}
use Rattle.std.proofs.Math.Seq.{drop-append_seam}

-- the block of this size
abbrev pub padded_block : ℕ → List ℕ → List ℕ
padded_block size text = text ++ replicate (size - length text) 0

-- the block holds a text of this length
pub record IsPadded (size len : ℕ) (block : List ℕ) : Type 0 where
  pub whole : length block ≡ size
  pub within : len ≤ size
  pub zeros : drop len block ≡ replicate (size - len) 0

-- the text has the length that was told
pub length-text : (size len : ℕ) (block : List ℕ) → IsPadded size len block
    → length (take len block) ≡ len
length-text size len block padded =
    length-take-le len block (let w : length block ≡ size = padded.whole in let h : len ≤ size =
    padded.within in omega arith)

-- the block is its text, filled up again
pub filled-text : (size len : ℕ) (block : List ℕ) → IsPadded size len block
    → padded_block size (take len block) ≡ block
filled-text size len block padded =
    ap (λ n. take len block ++ replicate (size - n) 0) (length-text size len block padded)
    ∙ ap (λ zeros. take len block ++ zeros) (sym padded.zeros)
    ∙ take-append-drop len block

-- two equal arguments give equal values
pub same_at_both : {A B C : Type 0} (f : A → B → C) {a a' : A} {b b' : B} → a ≡ a' → b ≡ b'
    → f a b ≡ f a' b'
same_at_both f {a} {a'} {b} {b'} first second = ap (λ x. f x b) first ∙ ap (λ y. f a' y) second

-- a text written over the front of a block of zeros
pub IsPadded-written : (size : ℕ) (text : List ℕ) → length text ≤ size
    → IsPadded size (length text) (text ++ drop (length text) (replicate size 0))
IsPadded-written size text fits = record {
  whole = simp (length-append, length-drop, length-replicate) (omega arith);
  within = fits;
  zeros = drop-append_seam text (drop (length text) (replicate size 0))
      ∙ drop-replicate (length text) size 0;
}
