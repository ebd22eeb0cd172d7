-- Sealed lines and registers: the ciphertext is the plain bytes xor what AES-128 makes of the
-- counter blocks, the tag is HMAC of the message. The formats are this project's own.
use Rattle.std.specs.Prelude.{ℕ, List, [], ◌∷◌, ◌++◌, Option, Some, None, bit_xor, if◌then◌else◌, take}
use Rattle.std.specs.Int.{w32, from_be_bytes, to_be_bytes}
use Rattle.std.specs.Str.{bytes_eq}
use Rattle.aes_block.specs.Cipher.{aes128}
use Rattle.keyed_mac.specs.Hmac.{hmac_sha256}
use Rattle.xom_seal.specs.declared.keys.LineKeys.{LineKeys}
use Rattle.xom_seal.specs.declared.keys.RegisterKeys.{RegisterKeys}
use Rattle.xom_seal.specs.declared.names.LineName.{LineName}
use Rattle.xom_seal.specs.declared.names.RegName.{RegName}
use Rattle.xom_seal.specs.declared.line.LineOpening.{LineOpening}
use Rattle.xom_seal.specs.declared.line.SealedLine.{SealedLine}
use Rattle.xom_seal.specs.declared.register.RegisterOpening.{RegisterOpening}
use Rattle.xom_seal.specs.declared.register.SealedReg.{SealedReg}
use Rattle.xom_seal.specs.Counters.{line_counter, register_counter}
use Rattle.xom_seal.specs.Messages.{line_message, register_message}

-- byte for byte, as far as both texts go
abbrev pub xor_of_bytes : List ℕ → List ℕ → List ℕ
xor_of_bytes (x ∷ xs) (y ∷ ys) = bit_xor x y ∷ xor_of_bytes xs ys
xor_of_bytes xs ys = []

-- ---- Lines

-- the 32 bytes that a line is masked with: the results of blocks 0 and 1
unfoldable pub line_pad : LineName → LineKeys → List ℕ
line_pad name keys =
    aes128 keys.aes.0 (line_counter name 0) ++ aes128 keys.aes.0 (line_counter name 1)

-- a line's bytes masked, which takes plain bytes to the ciphertext and the ciphertext to plain
-- bytes
unfoldable pub line_masked : LineName → LineKeys → List ℕ → List ℕ
line_masked name keys bytes = xor_of_bytes bytes (line_pad name keys)

-- the tag of a line with this ciphertext
unfoldable pub line_tag : LineName → LineKeys → List ℕ → List ℕ
line_tag name keys ct = hmac_sha256 keys.tag.0 (line_message name ct)

-- the sealing of a line's plain bytes
abbrev pub sealed_line : LineName → LineKeys → List ℕ → SealedLine
sealed_line name keys plain = record {
  ct = line_masked name keys plain;
  tag = line_tag name keys (line_masked name keys plain);
}

-- the plain bytes of a line whose tag is that of its ciphertext
abbrev pub unsealed_line : LineName → LineKeys → SealedLine → Option (List ℕ)
unsealed_line name keys sealed =
    if bytes_eq sealed.tag (line_tag name keys sealed.ct)
    then Some (line_masked name keys sealed.ct) else None

-- what a line with this ciphertext gives where it opens: its plain bytes and its message
abbrev pub line_opening : LineName → LineKeys → List ℕ → LineOpening
line_opening name keys ct = record {
  plain = line_masked name keys ct;
  message =
      line_message name ct;
}

-- ---- Registers

-- the 4 bytes that a register is masked with: the first of the result of block 0
unfoldable pub register_pad : RegName → RegisterKeys → List ℕ
register_pad name keys = take 4 (aes128 keys.aes.0 (register_counter name))

-- a register's bytes masked, both ways
unfoldable pub register_masked : RegName → RegisterKeys → List ℕ → List ℕ
register_masked name keys bytes = xor_of_bytes bytes (register_pad name keys)

-- the tag of a register with this ciphertext
unfoldable pub register_tag : RegName → RegisterKeys → List ℕ → List ℕ
register_tag name keys ct = hmac_sha256 keys.tag.0 (register_message name ct)

-- the sealing of a register's value, whose plain bytes are the value with the highest byte first
abbrev pub sealed_register : RegName → RegisterKeys → ℕ → SealedReg
sealed_register name keys value = record {
  ct = register_masked name keys (to_be_bytes w32 value);
  tag = register_tag name keys (register_masked name keys (to_be_bytes w32 value));
}

-- the value of a register whose tag is that of its ciphertext
abbrev pub unsealed_register : RegName → RegisterKeys → SealedReg → Option ℕ
unsealed_register name keys sealed =
    if bytes_eq sealed.tag (register_tag name keys sealed.ct)
    then Some (from_be_bytes w32 (register_masked name keys sealed.ct)) else None

-- what a register with this ciphertext gives where it opens: its value and its message
abbrev pub register_opening : RegName → RegisterKeys → List ℕ → RegisterOpening
register_opening name keys ct = record {
  value = from_be_bytes w32 (register_masked name keys ct);
  message = register_message name ct;
}
