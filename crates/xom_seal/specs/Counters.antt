-- Counter blocks: what AES enciphers to give the bytes that a plain text is masked with. The layout
-- is this project's own.
use Rattle.std.specs.Prelude.{ℕ, List, ◌∷◌, ◌++◌}
use Rattle.std.specs.Int.{w32, w64, to_be_bytes}
use Rattle.xom_seal.specs.declared.names.LineName.{LineName}
use Rattle.xom_seal.specs.declared.names.LineName.TheVariants.{Image, Run}
use Rattle.xom_seal.specs.declared.names.RegName.{RegName}

-- domain (1 byte), block (1), two zero bytes, line or register (4), version or epoch (8)
unfoldable pub counter_block : ℕ → ℕ → ℕ → ℕ → List ℕ
counter_block domain block place version = domain ∷ block ∷ 0 ∷ 0
    ∷ (to_be_bytes w32 place ++ to_be_bytes w64 version)

-- domain 1 for image lines, whose version is 1, and 2 for run lines
abbrev pub line_counter : LineName → ℕ → List ℕ
line_counter (Image id line) block = counter_block 1 block line 1
line_counter (Run boot install line version) block = counter_block 2 block line version

-- domain 3 for registers, which take block 0 alone
abbrev pub register_counter : RegName → List ℕ
register_counter name = counter_block 3 0 name.reg name.epoch

-- domain 4 for envelopes, with 0 in the last two fields
abbrev pub envelope_counter : ℕ → List ℕ
envelope_counter block = counter_block 4 block 0 0
