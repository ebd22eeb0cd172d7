-- The judge after the entries that it was fed.
use Rattle.std.specs.Prelude.{◌≡◌, ℕ, List, length}
use Rattle.xom_base.specs.declared.entry.Entry.{Entry}
use Rattle.xom_base.specs.declared.entry.Entry.TheVariants as entry
use Rattle.xom_base.specs.declared.key.Key256.{Key256}
use Rattle.xom_owners.specs.declared.owner.Owner.{Owner}
use Rattle.journal_findings.specs.Findings.{sealed_by}
use Rattle.trace_judge.specs.declared.stream.Judge.{Judge}
use Rattle.trace_judge.specs.declared.searches.Searches.{Searches}
use Rattle.trace_judge.specs.GuestWatch.{IsFed}
use Rattle.trace_judge.specs.HashSearch.{HasSearchedHashes}
use Rattle.trace_judge.specs.SealSearch.{HasSearchedSeals, all_sealings}

-- both searches were fed these entries, where owners sealed these
pub record HasSearched (sealed : List (List ℕ × List ℕ)) (s : Searches) (es : List Entry) : Type
    0 where
  pub sealings : all_sealings s.sealings ≡ sealed
  pub counted : s.count ≡ length es
  pub forgeries : HasSearchedSeals sealed s.forgeries es
  pub collisions : HasSearchedHashes s.collisions es

-- the judge was made for this machine key and these owners, and fed these entries
pub record HasJudged (machine : Key256) (owners : List Owner) (j : Judge) (es : List Entry) : Type
    0 where
  pub owners_are : j.owners.now ≡ owners
  pub searches : HasSearched (sealed_by machine owners) j.searches es
  pub guests : IsFed owners j.guests.items.items es

-- an entry for which a search may want memory
abbrev pub JudgeKeeps : Entry → Type 0
JudgeKeeps (entry.Seal key message) = Unit {0}
JudgeKeeps (entry.Hash preimage digest) = Unit {0}
JudgeKeeps other = ⊥

-- an entry that may want memory
abbrev pub WantsMemory : Entry → Type 0
WantsMemory (entry.Install n slot id place at lines) = Unit {0}
WantsMemory (entry.Seal key message) = Unit {0}
WantsMemory (entry.Hash preimage digest) = Unit {0}
WantsMemory other = ⊥
