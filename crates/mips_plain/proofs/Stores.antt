-- A store in range leaves private memory as long as it was.
use Rattle.std.proofs.Common.{◌≡◌, ℕ, ◌+◌, ◌≤◌, List, length, ◌∙◌, arith, length-append, length-take, length-drop}
use Rattle.xom_base.specs.declared.step.Stored.{Stored}
use Rattle.xom_base.specs.declared.step.Stored.TheVariants as stored
use Rattle.mips_plain.specs.Memory.{private_size, low_bytes, written_at, stored_in}
use Rattle.mips_plain.specs.Inside.{IsPrivate}

-- the low bytes are so many as were asked for
pub length-low_bytes : (count value : ℕ) → count ≤ 4 → length (low_bytes count value) ≡ count
length-low_bytes count value few = simp length-drop (omega arith)

-- bytes written within a memory
pub length-written_at : (bytes : List ℕ) (address : ℕ) (part : List ℕ)
    → address + length part ≤ length bytes → length (written_at bytes address part) ≡ length bytes
length-written_at bytes address part fits =
    simp (length-append, length-take, length-drop) (omega arith)

-- a store in range
pub length-stored_in : (bytes : List ℕ) (kept : Stored) → IsPrivate kept
    → length bytes ≡ private_size → length (stored_in bytes kept) ≡ private_size
length-stored_in bytes stored.Nothing private whole = whole
length-stored_in bytes (stored.Bytes address count value) private whole =
    let size = length-low_bytes count value private.1 in
    length-written_at bytes address (low_bytes count value) (omega (arith, private.2)) ∙ whole
