-- A guest's private memory: a list of bytes from address 0 on. Words are big-endian.
use Rattle.std.specs.Prelude.{ℕ, ◌+◌, ◌-◌, List, ◌++◌, length, take, drop, replicate}
use Rattle.std.specs.Int.{w32, from_be_bytes, to_be_bytes}
use Rattle.xom_base.specs.declared.step.Stored.{Stored}
use Rattle.xom_base.specs.declared.step.Stored.TheVariants as stored
use Rattle.xom_base.specs.Sizes.{window_size}

-- how many bytes a guest has
unfoldable pub private_size : ℕ
private_size = window_size

-- memory before anything was stored
abbrev pub blank_memory : List ℕ
blank_memory = replicate private_size 0

-- the word whose first byte is at the address
abbrev pub word_at_address : List ℕ → ℕ → ℕ
word_at_address bytes address = from_be_bytes w32 (take 4 (drop address bytes))

-- memory with these bytes at the address
abbrev pub written_at : List ℕ → ℕ → List ℕ → List ℕ
written_at bytes address part = take address bytes ++ (part ++ drop (address + length part) bytes)

-- the low bytes of a word, so many of them
abbrev pub low_bytes : ℕ → ℕ → List ℕ
low_bytes count value = drop (4 - count) (to_be_bytes w32 value)

-- memory after what a step stored
abbrev pub stored_in : List ℕ → Stored → List ℕ
stored_in bytes stored.Nothing = bytes
stored_in bytes (stored.Bytes address count value) =
    written_at bytes address (low_bytes count value)
