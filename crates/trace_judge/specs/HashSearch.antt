-- What a search for collisions knows after the entries that it was fed.
use Rattle.std.specs.Prelude.{ℕ, ◌≡◌, ◌+◌, List, Option, Some, None, if◌then◌else◌}
use Rattle.std.specs.List.{position}
use Rattle.std.specs.Str.{bytes_eq}
use Rattle.std.specs.Option.{option_or, option_map}
use Rattle.xom_base.specs.declared.entry.Entry.{Entry}
use Rattle.xom_base.specs.declared.entry.Entry.TheVariants as entry
use Rattle.journal_findings.specs.Findings.{collides, first_collision}
use Rattle.trace_judge.specs.declared.collisions.Collisions.{Collisions}
use Rattle.trace_judge.specs.declared.hashes.First.{First}
use Rattle.trace_judge.specs.Maps.{first_in}

-- the number of the first Hash of another text, by the first Hash of the same digest
abbrev pub other_text : Option First → List ℕ → Option ℕ
other_text None preimage = None
other_text (Some first) preimage =
    if bytes_eq preimage first.preimage then None else Some first.number

-- the number of an entry, by its place
abbrev pub entry_number_at : Option ℕ → Option ℕ
entry_number_at place = option_map {U = ℕ} (λ (i : ℕ). i + 1) place

-- The map tells of each text and digest where the first Hash of another text stands. (That each
-- digest has one text is never
-- needed.)
abbrev pub TellsOtherTexts : (List ℕ → Option First) → List Entry → Type 0
TellsOtherTexts first es =
    (preimage digest : List ℕ)
    → other_text (first digest) preimage ≡ entry_number_at (position (collides preimage digest) es)

-- the answer so far is that of the list, and where there is none, the map tells all
pub record FindsCollisions (found : Option (ℕ × ℕ)) (first : List ℕ → Option First)
    (es : List Entry) : Type 0 where
  pub answer : found ≡ first_collision es
  pub tells : found ≡ None → TellsOtherTexts first es

-- the answer after one more entry, of this number
abbrev pub next_found : ℕ → Option (ℕ × ℕ) → (List ℕ → Option First) → Entry → Option (ℕ × ℕ)
next_found number found first (entry.Hash preimage digest) =
    option_or found (option_map {U = ℕ × ℕ} (λ (n : ℕ). (n, number))
    (other_text (first digest) preimage))
next_found number found first other = found

-- the first Hash of a digest, where no collision was found before, after one more
abbrev pub with_hash : ℕ → (List ℕ → Option First) → List ℕ → List ℕ → List ℕ → Option First
with_hash number first preimage digest d =
    if bytes_eq digest d then option_or (first digest)
    (Some (record { number = number; preimage = preimage })) else first d

-- the first Hash of a digest after one more entry
abbrev pub next_first : ℕ → Option (ℕ × ℕ) → (List ℕ → Option First) → Entry → List ℕ → Option First
next_first number None first (entry.Hash preimage digest) d =
    with_hash number first preimage digest d
next_first number found first other d = first d

-- the search was fed these entries
abbrev pub HasSearchedHashes : Collisions → List Entry → Type 0
HasSearchedHashes c es = FindsCollisions c.found (first_in c.hashes) es

-- the entry is a Hash
abbrev pub IsHash : Entry → Type 0
IsHash (entry.Hash preimage digest) = Unit {0}
IsHash other = ⊥
