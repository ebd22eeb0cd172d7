-- Owners whose keys and ids are those of the lines of a run file are what the machine wants.
use Rattle.std.proofs.Common.{◌≡◌, ℕ, zero, suc, Bool, true, false, List, [], ◌∷◌, length, Some, refl, sym, ap, subst, ◌∙◌}
use Rattle.std.specs.Prelude.{◌≢◌, slice_get, cond}
use Rattle.std.specs.List.{AllByRecursion}
use Rattle.std.specs.Str.{bytes_eq}
use Rattle.std.proofs.lemmas.Option.{none-some, same_Some}
use Rattle.std.proofs.lemmas.Slice.Eq.{bytes_eq-Decides}
use Rattle.xom_base.specs.declared.key.ImageId.{ImageId}
use Rattle.text_lines.proofs.ByteLaws.{bytes_eq-differ, bytes_eq-same}
use Rattle.xom_owners.specs.Owners.{AreDistinct, owner_of, same_id}
use Rattle.xom_owners.specs.declared.owner.Owner.{Owner}
use Rattle.xom_script.specs.RunOrder.{IsNewId}
use Rattle.xom_script.specs.RunRules.{HasOwnIds}
use Rattle.xom_script.specs.declared.run_file.OwnerFile.{OwnerFile}
use Rattle.cli_runs.specs.OwnerImages.{AreOwnersOf, AreWhole}
use Rattle.cli_runs.specs.RunFiles.{IsOwnerLine}

-- ---- Ids

-- no owner of these lines has this id
others_differ : (id : ImageId) (lines : List OwnerFile) (owners : List Owner)
    → AreOwnersOf lines owners → IsNewId id lines → (owner : Owner) (i : ℕ)
    → slice_get owners i ≡ Some owner → owner.id.0 ≢ id.0
others_differ id [] [] are new owner i is = absurd (none-some owner is)
others_differ id [] (first ∷ owners) are new owner i is = elim are [ ]
others_differ id (line ∷ lines) [] are new owner i is = elim are [ ]
others_differ id (line ∷ lines) (first ∷ owners) are new owner zero is =
    λ same. new.0 (ap (λ (d : ImageId). d.0) (sym are.1) ∙ ap (λ (o : Owner). o.id.0)
    (same_Some first owner is) ∙ same)
others_differ id (line ∷ lines) (first ∷ owners) are new owner (suc i) is =
    others_differ id lines owners are.2 new.1 owner i is

distinct : (lines : List OwnerFile) (owners : List Owner) → AreOwnersOf lines owners
    → HasOwnIds lines → AreDistinct owners
distinct [] [] are own owner i is = absurd (none-some owner is)
distinct [] (first ∷ owners) are own owner i is = elim are [ ]
distinct (line ∷ lines) [] are own owner i is = elim are [ ]
distinct (line ∷ lines) (first ∷ owners) are own owner zero is =
    let same : first ≡ owner = same_Some first owner is in
    let found : same_id first.id owner.id ≡ true = bytes_eq-same first.id.0 owner.id.0
    (ap (λ (o : Owner). o.id.0) same) in
    ap (λ b. cond b (Some first) (owner_of owners owner.id)) found ∙ is
distinct (line ∷ lines) (first ∷ owners) are own owner (suc i) is =
    let new : IsNewId first.id lines = subst (λ d. IsNewId d lines) (sym are.1) own.0 in
    let other : same_id first.id owner.id ≡ false = bytes_eq-differ first.id.0 owner.id.0
    (λ same. others_differ first.id lines owners are.2 new owner i is (sym same)) in
    ap (λ b. cond b (Some first) (owner_of owners owner.id)) other ∙ distinct lines owners are.2
    own.1 owner i is

-- ---- Lengths

keys_sized : (lines : List OwnerFile) (owners : List Owner) → AreOwnersOf lines owners
    → AllByRecursion IsOwnerLine lines → (i : ℕ) (owner : Owner) → slice_get owners i ≡ Some owner
    → length owner.key.0 ≡ 32
keys_sized [] [] are all i owner is = absurd (none-some owner is)
keys_sized [] (first ∷ owners) are all i owner is = elim are [ ]
keys_sized (line ∷ lines) [] are all i owner is = elim are [ ]
keys_sized (line ∷ lines) (first ∷ owners) are all zero owner is =
    subst (λ (o : Owner). length o.key.0 ≡ 32) (same_Some first owner is) (rw are.0 all.0.key)
keys_sized (line ∷ lines) (first ∷ owners) are all (suc i) owner is =
    keys_sized lines owners are.2 all.1 i owner is

ids_sized : (lines : List OwnerFile) (owners : List Owner) → AreOwnersOf lines owners
    → AllByRecursion IsOwnerLine lines → (i : ℕ) (owner : Owner) → slice_get owners i ≡ Some owner
    → length owner.id.0 ≡ 16
ids_sized [] [] are all i owner is = absurd (none-some owner is)
ids_sized [] (first ∷ owners) are all i owner is = elim are [ ]
ids_sized (line ∷ lines) [] are all i owner is = elim are [ ]
ids_sized (line ∷ lines) (first ∷ owners) are all zero owner is =
    subst (λ (o : Owner). length o.id.0 ≡ 16) (same_Some first owner is) (rw are.1 all.0.id)
ids_sized (line ∷ lines) (first ∷ owners) are all (suc i) owner is =
    ids_sized lines owners are.2 all.1 i owner is

pub owners_whole : (lines : List OwnerFile) (owners : List Owner) → AreOwnersOf lines owners
    → HasOwnIds lines → AllByRecursion IsOwnerLine lines → AreWhole owners
owners_whole lines owners are own all = record {
  distinct = distinct lines owners are own;
  keys = keys_sized lines owners are all;
  ids = ids_sized lines owners are all;
}
