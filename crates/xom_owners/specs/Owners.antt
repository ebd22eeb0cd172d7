-- The owners of a run, and which of them an image's id names.
use Rattle.std.specs.Prelude.{ℕ, Bool, List, [], ◌∷◌, Option, Some, None, ◌≡◌, if◌then◌else◌, slice_get}
use Rattle.std.specs.Str.{bytes_eq}
use Rattle.xom_base.specs.declared.key.ImageId.{ImageId}
use Rattle.xom_owners.specs.declared.owner.Owner.{Owner}

-- two ids are the same sixteen bytes
abbrev pub same_id : ImageId → ImageId → Bool
same_id a b = bytes_eq a.0 b.0

-- the first owner of this id
abbrev pub owner_of : List Owner → ImageId → Option Owner
owner_of [] id = None
owner_of (owner ∷ owners) id = if same_id owner.id id then Some owner else owner_of owners id

-- no two owners have one id: each is the first of its id
abbrev pub AreDistinct : List Owner → Type 0
AreDistinct owners =
    (owner : Owner) → (i : ℕ) → slice_get owners i ≡ Some owner
    → owner_of owners owner.id ≡ Some owner
