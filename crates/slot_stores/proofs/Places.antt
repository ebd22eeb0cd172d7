-- Reading and changing the store of a slot, which stands behind the place of the null compartment.
use Rattle.std.proofs.Common.{◌≡◌, ℕ, suc, ◌<◌, List, ◌∷◌, get_or, length, map, set, refl, sym, ◌∙◌, ap}
use Rattle.std.proofs.lemmas.List.{get_or-map, map-set}

module _ {S X : Type 0} (f : S → X) (blank : X) (items : List S) (slot at : ℕ)
    (is : slot ≡ suc at) where
  -- what is seen of the slot's store is what the list has in its place
  pub store_is : (none : X) (value : S) → at < length items → value ≡ get_or items at value
      → f value ≡ get_or (blank ∷ map f items) slot none
  store_is none value within held =
      ap f held ∙ sym (get_or-map f items at value none within) ∙ sym (rw is refl)

  -- and changes with it
  pub store_set : (value : S)
      → blank ∷ map f (set items at value) ≡ set (blank ∷ map f items) slot (f value)
  store_set value = ap (λ xs. blank ∷ xs) (map-set f items at value) ∙ sym (rw is refl)
