-- What a search for forgeries knows after the entries that it was fed.
use Rattle.std.specs.Prelude.{ℕ, ◌≡◌, Bool, true, ◌||◌, List, ◌∷◌, ◌++◌, length, Option, Some, None, if◌then◌else◌}
use Rattle.std.specs.List.{filter_map, flat_map}
use Rattle.std.specs.Str.{bytes_eq}
use Rattle.xom_base.specs.declared.entry.Entry.{Entry}
use Rattle.xom_base.specs.declared.entry.Entry.TheVariants as entry
use Rattle.image_sealer.specs.Membership.{is_sealed}
use Rattle.image_sealer.specs.Sealing.{sealing_of}
use Rattle.journal_findings.specs.Findings.{first_forgery, seal_in}
use Rattle.trace_judge.specs.declared.forgeries.Forgeries.{Forgeries}
use Rattle.trace_judge.specs.declared.sealings.Sealings.{Sealings}
use Rattle.trace_judge.specs.Maps.{has_name}

-- what the owners of these sealings sealed
abbrev pub all_sealings : Sealings → List (List ℕ × List ℕ)
all_sealings sealings = flat_map (λ own. sealing_of own.machine own.owner) sealings.items.items

-- a key and a message as one name
abbrev pub name : List ℕ → List ℕ → List ℕ
name key message = length key ∷ (key ++ message)

-- the set has the names of all Seals
abbrev pub HasSeals : (List ℕ → Bool) → List Entry → Type 0
HasSeals has es =
    (key message : List ℕ) → has (name key message) ≡ is_sealed key message (filter_map seal_in es)

-- the answer so far is that of the list, and where there is none, the set has all Seals
pub record FindsForgeries (sealed : List (List ℕ × List ℕ)) (found : Option ℕ) (has : List ℕ → Bool)
    (es : List Entry) : Type 0 where
  pub answer : found ≡ first_forgery sealed es
  pub seals : found ≡ None → HasSeals has es

-- the answer at an Accept of this number
abbrev pub answer_at_accept : ℕ → Bool → Option ℕ
answer_at_accept number known = if known then None else Some number

-- the answer after one more entry, of this number
abbrev pub next_forged : List (List ℕ × List ℕ) → ℕ → Option ℕ → (List ℕ → Bool) → Entry → Option ℕ
next_forged sealed number None has (entry.Accept key message place) =
    answer_at_accept number (is_sealed key message sealed || has (name key message))
next_forged sealed number found has other = found

-- the set after one more entry
abbrev pub next_has : Option ℕ → (List ℕ → Bool) → Entry → List ℕ → Bool
next_has None has (entry.Seal key message) n = if bytes_eq (name key message) n then true else has n
next_has found has other n = has n

-- the search was fed these entries
abbrev pub HasSearchedSeals : List (List ℕ × List ℕ) → Forgeries → List Entry → Type 0
HasSearchedSeals sealed f es = FindsForgeries sealed f.found (has_name f.names) es

-- the entry is a Seal
abbrev pub IsSeal : Entry → Type 0
IsSeal (entry.Seal key message) = Unit {0}
IsSeal other = ⊥
