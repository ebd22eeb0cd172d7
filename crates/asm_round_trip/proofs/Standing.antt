-- Statements of four bytes each, one behind the other: nothing is wrong with them, and their bytes
-- are those of a list.
use Rattle.std.proofs.Common.{◌≡◌, ℕ, ◌+◌, ◌-◌, ◌<◌, ◌≤◌, ◌^◌, true, false, List, [], ◌∷◌, ◌++◌, length, get_or, inl, inr, None, refl, sym, ap, subst, ◌∙◌, arith}
use Rattle.std.specs.Prelude.{find}
use Rattle.std.specs.List.{list_any}
use Rattle.std.proofs.lemmas.Bool.{cases_lt}
use Rattle.std.proofs.lemmas.Bool.Decides.{nat_tests}
use Rattle.mips_asm.specs.Places.{Placed}
use Rattle.mips_asm.specs.Images.{PlacedBytes, byte_over, chunk_end, chunks_end, piece_covers}
use Rattle.mips_asm.specs.Layout.{covers, is_too_long}
use Rattle.mips_asm.specs.Passes.{Labels, first_fault, is_unknown, overlap_line, overlaps, statement_line}
use Rattle.mips_asm.specs.Sources.{StatementsWrite, last_entry}
use Rattle.mips_asm.proofs.ImageLaws.{byte_over-push, chunk_at, chunks_end-push, chunks_end_none}
use Rattle.mips_asm.proofs.OverlapLaws.{overlaps_false}
use Rattle.mips_asm.proofs.RangeLaws.{Writes-push}
use Rattle.mips_asm.specs.Sources.{is_entry_statement}
use Rattle.asm_round_trip.proofs.Growing.{any-more, fault-more, find-more, find_last-more}
use Rattle.asm_round_trip.proofs.NoNames.{IsFixed}

-- Statements up to a place: each is within the limit, none writes where another does, none uses a
-- name, and
-- none is an `.entry`. Their bytes are those of the list.
pub record Stand (bytes : List ℕ) (end : ℕ) (placed : List Placed)
    (chunks : List PlacedBytes) : Type 0 where
  pub short : find is_too_long placed ≡ None
  pub apart : overlap_line placed ≡ None
  pub free : (k : ℕ) → end ≤ k → list_any (λ (p : Placed). covers p k) placed ≡ false
  pub known : (labels : Labels) → find (is_unknown labels) placed ≡ None
  pub no_entry : last_entry placed ≡ None
  pub writes : (labels : Labels) → StatementsWrite labels placed chunks
  pub ends : chunks_end chunks ≡ end
  pub each : (k : ℕ) → k < end → byte_over 0 chunks k ≡ get_or bytes k 0

-- no statement writes where another does
nothing_apart : overlap_line [] ≡ None
unfolding first_fault
nothing_apart = refl

-- where there is none, nothing is wrong
pub stand-none : (bytes : List ℕ) → Stand bytes 0 [] []
stand-none bytes = record {
  short = refl;
  apart = nothing_apart;
  free = λ k past. refl;
  known = λ labels. refl;
  no_entry = refl;
  writes = λ labels. refl;
  ends = chunks_end_none;
  each = λ k below. absurd (omega arith);
}

-- ---- one more statement of four bytes

-- it is within the limit
fits : (p : Placed) → p.size ≡ 4 → p.place + 4 ≤ 2 ^ 20 → is_too_long p ≡ false
fits p size below = grind (arith, nat_tests)

-- it writes nothing behind its end
covers-not : (p : Placed) (k : ℕ) → p.size ≡ 4 → p.place + 4 ≤ k → covers p k ≡ false
covers-not p k size past = grind (arith, nat_tests)

-- its bytes end there
own_end : (place : ℕ) (own : List ℕ) → length own ≡ 4 → chunk_end (chunk_at place own) ≡ place + 4
own_end place own size = grind (arith, nat_tests)

-- they hold no place before
holds-not : (place k : ℕ) (own : List ℕ) → k < place → piece_covers (chunk_at place own) k ≡ false
holds-not place k own before = grind (arith, nat_tests)

-- and each of its places
holds-own : (place k : ℕ) (own : List ℕ) → length own ≡ 4 → place ≤ k → k < place + 4
    → piece_covers (chunk_at place own) k ≡ true
holds-own place k own size from below = grind (arith, nat_tests)

-- what stands at a place before, or at one of its own
each-more : (bytes : List ℕ) (end : ℕ) (chunks : List PlacedBytes) (own : List ℕ) → length own ≡ 4
    → ((k : ℕ) → k < 4 → get_or own k 0 ≡ get_or bytes (end + k) 0)
    → ((k : ℕ) → k < end → byte_over 0 chunks k ≡ get_or bytes k 0)
    → (k : ℕ) → k < end + 4 → byte_over 0 (chunks ++ chunk_at end own ∷ []) k ≡ get_or bytes k 0
each-more bytes end chunks own size same each k below =
    elim (cases_lt k end) [
      | inl before ↦ byte_over-push 0 chunks (chunk_at end own) k ∙ rw (holds-not end k own before)
          (each k before)
      | inr from ↦
          let back : end + (k - end) ≡ k = omega arith in
          byte_over-push 0 chunks (chunk_at end own) k
          ∙ rw (holds-own end k own size from below) (same (k - end) (omega arith))
          ∙ ap (λ (n : ℕ). get_or bytes n 0) back
    ]

-- one more statement, which writes the next four bytes
pub stand-more : (bytes : List ℕ) (end : ℕ) (placed : List Placed) (chunks : List PlacedBytes)
    (p : Placed) (own : List ℕ)
    → Stand bytes end placed chunks
    → p.place ≡ end → p.size ≡ 4 → length own ≡ 4 → end + 4 ≤ 2 ^ 20
    → IsFixed p.place p.part.content own
    → ((k : ℕ) → k < 4 → get_or own k 0 ≡ get_or bytes (end + k) 0)
    → Stand bytes (end + 4) (placed ++ p ∷ []) (chunks ++ chunk_at p.place own ∷ [])
stand-more bytes end placed chunks p own so at size long below is same = record {
  short = find-more is_too_long placed p so.short (fits p size (omega arith));
  apart = fault-more statement_line overlaps [] placed p so.apart
      (overlaps_false placed p (λ k from before. so.free k (omega arith)));
  free = λ k past. any-more (λ (q : Placed). covers q k) placed p (so.free k (omega arith))
      (covers-not p k size (omega arith));
  known = λ labels. find-more (is_unknown labels) placed p (so.known labels) (is.known labels);
  no_entry = find_last-more is_entry_statement placed p so.no_entry is.no_entry;
  writes = λ labels. Writes-push labels placed p chunks own (so.writes labels) (is.gives labels);
  ends =
      let own_ends = own_end p.place own long in
      chunks_end-push chunks (chunk_at p.place own) ∙ rw (so.ends, own_ends, at) (omega arith);
  each = subst (λ (n : ℕ). (k : ℕ) → k < end + 4 → byte_over 0 (chunks ++ chunk_at n own ∷ [])
      k ≡ get_or bytes k 0) (sym at) (each-more bytes end chunks own long same so.each);
}
