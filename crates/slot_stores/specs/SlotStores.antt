-- The version stores of the slots, as a list: at place 0 the null compartment's, which is always blank.
use Rattle.std.specs.Prelude.{ℕ, List, replicate, slice_index_or}
use Rattle.xom_base.specs.Sizes.{compartment_count}
use Rattle.xom_versions.specs.Store.{Store, no_store}
use Rattle.xom_versions.specs.Versions.{Versions}

-- a blank store in each place
abbrev pub blank_stores : Versions → List Store
blank_stores v = replicate compartment_count v.blank_store

-- the store of a slot
abbrev pub store_at : List Store → ℕ → Store
store_at stores slot = slice_index_or stores slot no_store
