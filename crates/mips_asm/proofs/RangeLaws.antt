-- What statements write, one after another.
use Rattle.std.proofs.Common.{◌≡◌, ℕ, ◌+◌, ◌<◌, inl, inr, List, [], ◌∷◌, ◌++◌, length, get_or, take, drop, eq-eqb, eqb, true, false, Option, Some, None, refl, sym, ap, subst, ◌∙◌}
use Rattle.std.specs.List.{All}
use Rattle.std.specs.Option.{option_eq}
use Rattle.std.proofs.lemmas.Bool.{eqb-true, true≢false}
use Rattle.std.proofs.lemmas.List.{take_more, take-append-drop, drop_more}
use Rattle.std.proofs.lemmas.List.Elements.{All-cons, All-head, All-nil, All-tail}
use Rattle.mips_asm.specs.Places.{Placed}
use Rattle.mips_asm.specs.Encoding.{StatementGives}
use Rattle.mips_asm.specs.Images.{PlacedBytes}
use Rattle.mips_asm.specs.Passes.{Labels, statement_line}
use Rattle.mips_asm.proofs.ImageLaws.{chunk_at}
use Rattle.mips_asm.specs.Sources.{IsFirst, IsOutOfRange, StatementsWrite}

-- one more statement
pub Writes-push : (labels : Labels) (xs : List Placed) (x : Placed) (chunks : List PlacedBytes)
    (bytes : List ℕ)
    → StatementsWrite labels xs chunks → StatementGives labels x.place x.part.content bytes
    → StatementsWrite labels (xs ++ x ∷ []) (chunks ++ chunk_at x.place bytes ∷ [])
Writes-push labels [] x chunks bytes writes gives = (
  bytes,
  [],
  gives,
  ap (λ (front : List PlacedBytes). front ++ chunk_at x.place bytes ∷ [])
      writes,
  refl,
)
Writes-push labels (y ∷ xs) x chunks bytes writes gives = (
  writes.0,
  writes.1 ++ chunk_at x.place bytes ∷ [],
  writes.2,
  ap (λ (front : List PlacedBytes). front ++ chunk_at x.place bytes ∷ []) writes.3,
  Writes-push labels xs x writes.1 bytes writes.4 gives,
)

-- the next statement, in a loop
pub Writes_more : (labels : Labels) (xs : List Placed) (i : ℕ) (d : Placed)
    (chunks : List PlacedBytes) (bytes : List ℕ)
    → i < length xs → StatementsWrite labels (take i xs) chunks
    → StatementGives labels (get_or xs i d).place (get_or xs i d).part.content bytes
    → StatementsWrite labels (take (i + 1) xs) (chunks ++ chunk_at (get_or xs i d).place bytes ∷ [])
Writes_more labels xs i d chunks bytes within writes gives =
    rw (take_more xs i d within) (Writes-push labels (take i xs) (get_or xs i d) chunks bytes writes
    gives)

-- no statement that was written is out of its range
pub good_so_far : (labels : Labels) (bad : Option ℕ) (xs : List Placed) (chunks : List PlacedBytes)
    → StatementsWrite labels xs chunks → All (λ (p : Placed). ¬ (bad ≡ Some (statement_line p))) xs
    → All (λ (p : Placed). ¬ (IsOutOfRange labels bad p)) xs
good_so_far labels bad [] chunks writes entry =
    All-nil (λ (p : Placed). ¬ (IsOutOfRange labels bad p))
good_so_far labels bad (x ∷ xs) chunks writes entry =
    All-cons (λ (p : Placed). ¬ (IsOutOfRange labels bad p)) x xs
    (λ out. elim out [
      | inl nothing ↦ nothing writes.0 writes.2
      | inr here ↦ All-head (λ (p : Placed). ¬ (bad ≡ Some (statement_line p))) x xs entry here
    ])
    (good_so_far labels bad xs writes.1 writes.4
    (All-tail (λ (p : Placed). ¬ (bad ≡ Some (statement_line p))) x xs entry))

-- the next statement is the first that is out of its range
pub first_bad : (labels : Labels) (bad : Option ℕ) (xs : List Placed) (i : ℕ) (d : Placed)
    (chunks : List PlacedBytes)
    → i < length xs → StatementsWrite labels (take i xs) chunks
    → All (λ (p : Placed). ¬ (bad ≡ Some (statement_line p))) (take i xs)
    → IsOutOfRange labels bad (get_or xs i d)
    → IsFirst statement_line (IsOutOfRange labels bad) xs (statement_line (get_or xs i d))
first_bad labels bad xs i d chunks within writes entry out = record {
  before = take i xs;
  first = get_or xs i d;
  after = drop (i + 1) xs;
  whole = sym (take-append-drop i xs) ∙ ap (λ (rest : List Placed). take i xs ++ rest)
      (drop_more xs i d within);
  bad = out;
  number = refl;
  good = good_so_far labels bad (take i xs) chunks writes entry;
}

-- the same at an element that is known to be that of the place
pub first_here : (labels : Labels) (bad : Option ℕ) (xs : List Placed) (i : ℕ) (x : Placed)
    (chunks : List PlacedBytes)
    → i < length xs → x ≡ get_or xs i x → StatementsWrite labels (take i xs) chunks
    → All (λ (p : Placed). ¬ (bad ≡ Some (statement_line p))) (take i xs) → IsOutOfRange labels bad x
    → IsFirst statement_line (IsOutOfRange labels bad) xs (statement_line x)
first_here labels bad xs i x chunks within is writes entry out =
    subst (λ (p : Placed). IsFirst statement_line (IsOutOfRange labels bad) xs (statement_line p)) (sym is)
    (first_bad labels bad xs i x chunks within writes entry (subst (IsOutOfRange labels bad) is
    out))

pub Writes_here : (labels : Labels) (xs : List Placed) (i : ℕ) (x : Placed)
    (chunks : List PlacedBytes) (bytes : List ℕ)
    → i < length xs → x ≡ get_or xs i x → StatementsWrite labels (take i xs) chunks
    → StatementGives labels x.place x.part.content bytes
    → StatementsWrite labels (take (i + 1) xs) (chunks ++ chunk_at x.place bytes ∷ [])
Writes_here labels xs i x chunks bytes within is writes gives =
    subst (λ (p : Placed). StatementsWrite labels (take (i + 1) xs) (chunks ++ chunk_at p.place bytes ∷ []))
    (sym is)
    (Writes_more labels xs i x chunks bytes within writes
    (subst (λ (p : Placed). StatementGives labels p.place p.part.content bytes) is gives))

-- a line that is told to be another is it
pub same_line : (bad : Option ℕ) (line : ℕ) → option_eq eqb bad (Some line) ≡ true → bad ≡ Some line
same_line None line h = absurd (true≢false (sym h))
same_line (Some n) line h = ap (λ (n : ℕ). Some n) (eqb-true n line h)

-- a line that is told to be none is another
pub other_line : (bad : Option ℕ) (line : ℕ) → option_eq eqb bad (Some line) ≡ false
    → bad ≡ Some line → ⊥
other_line bad line told is =
    true≢false
    (sym (eq-eqb line line refl) ∙ subst (λ (o : Option ℕ). option_eq eqb o (Some line) ≡ false)
    is told)
