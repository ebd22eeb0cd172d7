-- The step of a guest's load or store whose access is open.
use Rattle.std.proofs.Common.{◌≡◌, ℕ, ◌+◌, ◌-◌, ◌*◌, ◌/◌, ◌%◌, ◌^◌, ◌<◌, ◌==◌, nat_lt, true, List, ap, ◌∙◌, arith}
use Rattle.std.proofs.lemmas.Bool.{cond-true, and_from, eq-eqb, lt-ltb}
use Rattle.xom_base.specs.declared.step.Stored.TheVariants as stored
use Rattle.xom_base.specs.declared.step.Writes.TheVariants as writes
use Rattle.mips_effect.specs.declared.seen.Mode.TheVariants.{Guest}
use Rattle.mips_effect.specs.declared.wish.LoadKind.{LoadKind}
use Rattle.mips_effect.specs.Effects.{alignment_of, is_open, loads, merge_of, private_bytes, stores, stores_left, stores_right, write_of_register}
use Rattle.mips_plain.specs.Memory.{private_size, word_at_address}
use Rattle.mips_plain.specs.Instruction.{step_made}
use Rattle.mips_plain.proofs.Sizes.{private_size_is}
use Rattle.mips_laws.specs.Accesses.{goes_on_with, step_of_effect}

-- an access that begins in private memory, at a multiple of its size
pub opened : (size address : ℕ) → address % size ≡ 0 → address < private_size
    → is_open Guest size address ≡ true
opened size address aligned inside =
    and_from (address % size == 0) (nat_lt address private_bytes)
    (eq-eqb (address % size) 0 aligned)
    (lt-ltb address private_bytes (omega (arith, inside, private_size_is)))

-- an access of bytes
pub open_byte : (address : ℕ) → address < private_size → is_open Guest 1 address ≡ true
open_byte address inside = opened 1 address (omega arith) inside

-- a load sets its register to what it makes of the word around its address
pub load_step : (bytes : List ℕ) (how : LoadKind) (reg named address old value : ℕ)
    → named ≡ address → is_open Guest (alignment_of how) address ≡ true
    → merge_of how old address (word_at_address bytes (address - address % 4)) ≡ value
    → (pc following : ℕ)
    → step_of_effect bytes pc following (loads Guest how reg named old following) ≡ goes_on_with pc
    following (write_of_register reg value) stored.Nothing
unfolding step_made
load_step bytes how reg named address old value names opens is pc following =
    ap (λ place. step_of_effect bytes pc following (loads Guest how reg place old following)) names
    ∙ ap (step_of_effect bytes pc following) (cond-true (is_open Guest (alignment_of how) address) _ _ opens)
    ∙ ap (λ v. goes_on_with pc following (write_of_register reg v) stored.Nothing) is

-- a store stores
pub store_step : (bytes : List ℕ) (count address value : ℕ) → is_open Guest count address ≡ true
    → (pc following : ℕ)
    → step_of_effect bytes pc following (stores Guest count address value following) ≡ goes_on_with pc
    following writes.Nothing (stored.Bytes address count value)
unfolding step_made
store_step bytes count address value opens pc following =
    ap (step_of_effect bytes pc following) (cond-true (is_open Guest count address) _ _ opens)

-- and so do the stores of a word's parts
pub left_step : (bytes : List ℕ) (named address value : ℕ) → named ≡ address
    → is_open Guest 1 address ≡ true
    → (pc following : ℕ) → step_of_effect bytes pc following (stores_left Guest named value following)
    ≡ goes_on_with pc following writes.Nothing (stored.Bytes address (4 - address % 4)
    (value / 2 ^ (8 * (address % 4))))
unfolding step_made
left_step bytes named address value names opens pc following =
    ap (λ place. step_of_effect bytes pc following (stores_left Guest place value following)) names
    ∙ ap (step_of_effect bytes pc following) (cond-true (is_open Guest 1 address) _ _ opens)

pub right_step : (bytes : List ℕ) (named address value : ℕ) → named ≡ address
    → is_open Guest 1 address ≡ true
    → (pc following : ℕ) → step_of_effect bytes pc following (stores_right Guest named value following)
    ≡ goes_on_with pc following writes.Nothing (stored.Bytes (address - address % 4)
    (address % 4 + 1) (value % 2 ^ (8 * (address % 4 + 1))))
unfolding step_made
right_step bytes named address value names opens pc following =
    ap (λ place. step_of_effect bytes pc following (stores_right Guest place value following)) names
    ∙ ap (step_of_effect bytes pc following) (cond-true (is_open Guest 1 address) _ _ opens)
