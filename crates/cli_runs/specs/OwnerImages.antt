-- The owners of a run.
use Rattle.std.specs.Prelude.{◌≡◌, ℕ, List, [], ◌∷◌, Some, Result, Ok, length, slice_get}
use Rattle.xom_base.specs.declared.image.PlainImage.{PlainImage}
use Rattle.xom_base.specs.Sizes.{id_size, key_size}
use Rattle.xom_owners.specs.Owners.{AreDistinct}
use Rattle.xom_owners.specs.declared.owner.Owner.{Owner}
use Rattle.xom_script.specs.declared.run_file.OwnerFile.{OwnerFile}
use Rattle.cli_base.specs.declared.refusal.Refusal.{Refusal}
use Rattle.cli_base.specs.Inputs.{◌>>=◌, Held, image_of}

-- the owner of a line, with the image that the named file holds
abbrev pub owner_with_image : OwnerFile → PlainImage → Owner
owner_with_image line image = record { plain = image; key = line.key; id = line.id }

-- the owners of these lines in their order, whose images are read one after the other
abbrev pub owners_of : Held → List OwnerFile → Result (List Owner) Refusal
owners_of held [] = Ok []
owners_of held (line ∷ lines) = do
  image ← image_of held line.plain
  owners ← owners_of held lines
  Ok (owner_with_image line image ∷ owners)

-- the owners have the keys and the ids of these lines, one after the other
abbrev pub AreOwnersOf : List OwnerFile → List Owner → Type 0
AreOwnersOf [] [] = Unit {0}
AreOwnersOf (line ∷ lines) (owner ∷ owners) =
    (owner.key ≡ line.key) × (owner.id ≡ line.id) × AreOwnersOf lines owners
AreOwnersOf [] (owner ∷ owners) = ⊥
AreOwnersOf (line ∷ lines) [] = ⊥

-- what the machine wants of owners: their ids are distinct, and ids and keys have their lengths
pub record AreWhole (owners : List Owner) : Type 0 where
  pub distinct : AreDistinct owners
  pub keys : (i : ℕ) (owner : Owner) → slice_get owners i ≡ Some owner
      → length owner.key.0 ≡ key_size
  pub ids : (i : ℕ) (owner : Owner) → slice_get owners i ≡ Some owner → length owner.id.0 ≡ id_size
