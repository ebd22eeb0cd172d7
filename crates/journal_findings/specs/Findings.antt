-- Where a journal names a forgery or a collision. Entries count from 1.
-- Both searches run over any list of entries, also one that no machine made.
use Rattle.std.specs.Prelude.{ℕ, ◌+◌, ◌&&◌, not, Bool, false, List, [], ◌∷◌, ◌++◌, length, Option, Some, None, if◌then◌else◌}
use Rattle.std.specs.List.{filter_map, flat_map, position}
use Rattle.std.specs.Option.{option_map, option_or}
use Rattle.std.specs.Str.{bytes_eq}
use Rattle.xom_base.specs.declared.entry.Entry.{Entry}
use Rattle.xom_base.specs.declared.entry.Entry.TheVariants as entry
use Rattle.xom_base.specs.declared.key.Key256.{Key256}
use Rattle.xom_owners.specs.declared.owner.Owner.{Owner}
use Rattle.image_sealer.specs.Sealing.{sealing_of}
use Rattle.image_sealer.specs.Membership.{is_sealed}

-- ---- What is sealed

-- what all owners sealed for the machine of this key
abbrev pub sealed_by : Key256 → List Owner → List (List ℕ × List ℕ)
sealed_by machine owners = flat_map (sealing_of machine) owners

-- what the machine sealed by this entry, if it is a Seal
abbrev pub seal_in : Entry → Option (List ℕ × List ℕ)
seal_in (entry.Seal key message) = Some (key, message)
seal_in other = None

-- ---- Forgeries

-- the number of the entry behind these, if it accepts what is neither sealed by an owner nor by an
-- earlier entry
abbrev pub forgery_at : List (List ℕ × List ℕ) → List Entry → Entry → Option ℕ
forgery_at sealed before (entry.Accept key message place) =
    if is_sealed key message (sealed ++ filter_map seal_in before) then None
    else Some (length before + 1)
forgery_at sealed before other = None

-- ---- Collisions

-- the entry has the same digest for another text
abbrev pub collides : List ℕ → List ℕ → Entry → Bool
collides preimage digest (entry.Hash other same) =
    bytes_eq digest same && not (bytes_eq preimage other)
collides preimage digest other = false

-- the numbers of the first entry that collides with the one behind these, and of that one, if any
-- does
abbrev pub collision_at : List Entry → Entry → Option (ℕ × ℕ)
collision_at before (entry.Hash preimage digest) =
    option_map (λ i. (i + 1, length before + 1)) (position (collides preimage digest) before)
collision_at before other = None

-- ---- The searches

-- what is found first, going through the entries, where each is looked at with those before it
abbrev pub first_found : {A : Type 0} → (List Entry → Entry → Option A) → List Entry → List Entry
    → Option A
first_found find before [] = None
first_found find before (entry ∷ entries) =
    option_or (find before entry) (first_found find (before ++ entry ∷ []) entries)

-- the number of the first forged Accept, where owners sealed these
abbrev pub first_forgery : List (List ℕ × List ℕ) → List Entry → Option ℕ
first_forgery sealed entries = first_found (forgery_at sealed) [] entries

-- the numbers of the first Hash that collides with an earlier one and of the least such earlier
-- one, that one first
abbrev pub first_collision : List Entry → Option (ℕ × ℕ)
first_collision entries = first_found collision_at [] entries
