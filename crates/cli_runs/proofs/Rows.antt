-- One more owner, and one more guest.
use Rattle.std.proofs.Common.{◌≡◌, ℕ, ◌+◌, ◌≤◌, List, [], ◌∷◌, ◌++◌, refl}
use Rattle.xom_owners.specs.declared.owner.Owner.{Owner}
use Rattle.xom_script.specs.declared.run_file.OwnerFile.{OwnerFile}
use Rattle.cli_runs.specs.OwnerImages.{AreOwnersOf}
use Rattle.cli_runs.specs.Places.{FitsAll, frame_behind, frames_of_guest}
use Rattle.cli_runs.specs.declared.guest_image.GuestImage.{GuestImage}

pub owners-snoc : (lines : List OwnerFile) (owners : List Owner) (line : OwnerFile) (owner : Owner)
    → AreOwnersOf lines owners → owner.key ≡ line.key → owner.id ≡ line.id
    → AreOwnersOf (lines ++ (line ∷ [])) (owners ++ (owner ∷ []))
owners-snoc [] [] line owner are key id = (key, id, tt)
owners-snoc [] (one ∷ owners) line owner are key id = elim are [ ]
owners-snoc (first ∷ lines) [] line owner are key id = elim are [ ]
owners-snoc (first ∷ lines) (one ∷ owners) line owner are key id =
    (are.0, are.1, owners-snoc lines owners line owner are.2 key id)

pub fits-snoc : (frames frame : ℕ) (images : List GuestImage) (image : GuestImage)
    → FitsAll frames frame images → frame_behind frame images + frames_of_guest image ≤ frames
    → FitsAll frames frame (images ++ (image ∷ []))
fits-snoc frames frame [] image fit more = (more, tt)
fits-snoc frames frame (first ∷ images) image fit more =
    (fit.0, fits-snoc frames (frame + frames_of_guest first) images image fit.1 more)

pub frame_behind-snoc : (frame : ℕ) (images : List GuestImage) (image : GuestImage)
    → frame_behind frame (images ++ (image ∷ [])) ≡ frame_behind frame images + frames_of_guest image
frame_behind-snoc frame [] image = refl
frame_behind-snoc frame (first ∷ images) image =
    frame_behind-snoc (frame + frames_of_guest first) images image
