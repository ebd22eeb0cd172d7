-- A journal that accepts nothing forged, and in which no two hashed texts have one digest.
use Rattle.std.specs.Prelude.{ℕ, ◌≡◌, ◌<◌, ◌^◌, true, List, ◌∷◌, ◌++◌, length}
use Rattle.std.specs.List.{filter_map}
use Rattle.xom_base.specs.declared.entry.Entry.{Entry}
use Rattle.xom_base.specs.declared.entry.Entry.TheVariants as entry
use Rattle.image_sealer.specs.Membership.{is_sealed}
use Rattle.journal_findings.specs.Findings.{seal_in}
use Rattle.xom_versions.specs.Store.{NoCollision}

-- a key and the message that is sealed under it
abbrev pub Sealing : Type 0
Sealing = List ℕ × List ℕ

-- what the machine sealed
abbrev pub seals_of : List Entry → List Sealing
seals_of entries = filter_map seal_in entries

-- each Accept is of what an owner sealed or an earlier entry
abbrev pub NoForgery : List Sealing → List Entry → Type 0
NoForgery sealed entries =
    (before behind : List Entry) (key message : List ℕ) (place : ℕ) → entries ≡ before
    ++ (entry.Accept key message place ∷ behind)
    → is_sealed key message (sealed ++ seals_of before) ≡ true

-- The journal is honest so far. What a journal is, each one is of which it is the longer.
pub record IsHonest (sealed : List Sealing) (entries : List Entry) : Type 0 where
  pub forgery : NoForgery sealed entries
  pub collision : NoCollision entries

-- it has fewer than 2^63 entries, as each value of the journal's type has
abbrev pub IsBounded : List Entry → Type 0
IsBounded entries = length entries < 2 ^ 63
