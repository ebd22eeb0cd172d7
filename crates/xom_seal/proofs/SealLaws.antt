-- What was sealed opens.
use Rattle.std.proofs.Common.{◌≡◌, ℕ, List, Some, None, inl, inr, length, refl, ap, sym, ◌∙◌, arith, if◌then◌else◌}
use Rattle.std.specs.Int.{w32, from_be_bytes, to_be_bytes}
use Rattle.std.specs.Str.{bytes_eq}
use Rattle.std.proofs.lemmas.Bool.{cases_Bool}
use Rattle.std.proofs.lemmas.Nat.{from_be_bytes-to_be_bytes_4}
use Rattle.std.proofs.lemmas.Slice.Eq.{bytes_eq-Decides}
use Rattle.std.proofs.lemmas.List.{length-append, length-take-le}
use Rattle.aes_block.specs.Cipher.{aes128}
use Rattle.aes_block.proofs.Sizes.{length-aes128}
use Rattle.keyed_mac.proofs.Lengths.{tags_have_their_length}
use Rattle.xom_seal.specs.declared.keys.LineKeys.{LineKeys}
use Rattle.xom_seal.specs.declared.keys.RegisterKeys.{RegisterKeys}
use Rattle.xom_seal.specs.declared.names.LineName.{LineName}
use Rattle.xom_seal.specs.declared.names.RegName.{RegName}
use Rattle.xom_seal.specs.Counters.{register_counter}
use Rattle.xom_seal.specs.Laws.{LinesAreSealings, LinesOpen, RegistersOpen, SealedLinesHaveTheirLength}
use Rattle.xom_seal.specs.Messages.{line_message}
use Rattle.xom_seal.specs.Sealing.{line_masked, line_pad, line_tag, register_masked, register_pad, register_tag}
use Rattle.xom_seal.proofs.Masks.{length-xored, xored_twice}

-- ---- Tests of tags

-- what a test of a text against itself lets through
pub lets_through : {X : Type 0} (tag : List ℕ) (value : X)
    → (if bytes_eq tag tag then Some value else None) ≡ Some value
lets_through tag value =
    ap (λ same. if same then Some value else None) ((bytes_eq-Decides tag tag).1 refl)

-- what is let through has the tag, and is that value
pub let_through : {X : Type 0} (tag other : List ℕ) (value found : X)
    → (if bytes_eq tag other then Some value else None) ≡ Some found
    → (tag ≡ other) × (value ≡ found)
let_through tag other value found through =
    elim (cases_Bool (bytes_eq tag other)) [
      | inl same ↦ (
        (bytes_eq-Decides tag other).0 same,
        cc (sym (ap (λ b. if b then Some value else None) same) ∙ through),
      )
      | inr differs ↦ absurd (cc (sym (ap (λ b. if b then Some value else None) differs) ∙ through))
    ]

-- ---- Pads

-- a line's pad has 32
length-line_pad : (name : LineName) (keys : LineKeys) → length (line_pad name keys) ≡ 32
unfolding line_pad
length-line_pad name keys = simp (length-append, length-aes128)

-- a line that is masked twice is what it was
line_masked-twice : (name : LineName) (keys : LineKeys) (bytes : List ℕ) → length bytes ≡ 32
    → line_masked name keys (line_masked name keys bytes) ≡ bytes
unfolding line_masked
line_masked-twice name keys bytes sized =
    let room : length (line_pad name keys) ≡ 32 = length-line_pad name keys in
    xored_twice bytes (line_pad name keys) (omega arith)

-- a register's pad has 4
length-register_pad : (name : RegName) (keys : RegisterKeys) → length (register_pad name keys) ≡ 4
unfolding register_pad
length-register_pad name keys =
    let block : length (aes128 keys.aes.0 (register_counter name)) ≡ 16 = length-aes128 keys.aes.0
    (register_counter name) in
    length-take-le 4 (aes128 keys.aes.0 (register_counter name)) (omega arith)

-- a register that is masked twice is what it was
pub register_masked-twice : (name : RegName) (keys : RegisterKeys) (bytes : List ℕ)
    → length bytes ≡ 4 → register_masked name keys (register_masked name keys bytes) ≡ bytes
unfolding register_masked
register_masked-twice name keys bytes sized =
    let room : length (register_pad name keys) ≡ 4 = length-register_pad name keys in
    xored_twice bytes (register_pad name keys) (omega arith)

pub length-register_masked : (name : RegName) (keys : RegisterKeys) (bytes : List ℕ)
    → length bytes ≡ 4 → length (register_masked name keys bytes) ≡ 4
unfolding register_masked
length-register_masked name keys bytes sized =
    let room : length (register_pad name keys) ≡ 4 = length-register_pad name keys in
    length-xored bytes (register_pad name keys) (omega arith) ∙ sized

-- ---- Lines and registers

pub lines_open : LinesOpen
lines_open name keys plain sized =
    lets_through (line_tag name keys (line_masked name keys plain))
    (line_masked name keys (line_masked name keys plain))
    ∙ ap Some (line_masked-twice name keys plain sized)

pub lines_are_sealings : LinesAreSealings
lines_are_sealings name keys sealed plain sized opened =
    let found = let_through sealed.tag (line_tag name keys sealed.ct)
    (line_masked name keys sealed.ct) plain opened in
    let ct : sealed.ct ≡ line_masked name keys plain =
    sym (line_masked-twice name keys sealed.ct sized) ∙ ap (λ bytes. line_masked name keys bytes)
    found.1 in
    ap (λ tag. record { ct = sealed.ct; tag = tag }) found.0
    ∙ ap (λ bytes. record { ct = bytes; tag = line_tag name keys bytes }) ct

pub registers_open : RegistersOpen
registers_open name keys value below =
    let plain : List ℕ = to_be_bytes w32 value in
    lets_through (register_tag name keys (register_masked name keys plain))
    (from_be_bytes w32 (register_masked name keys (register_masked name keys plain)))
    ∙ ap (λ bytes. Some (from_be_bytes w32 bytes)) (register_masked-twice name keys plain refl)
    ∙ ap Some (from_be_bytes-to_be_bytes_4 value below)

-- ---- Lengths

length-line_masked : (name : LineName) (keys : LineKeys) (bytes : List ℕ) → length bytes ≡ 32
    → length (line_masked name keys bytes) ≡ 32
unfolding line_masked
length-line_masked name keys bytes sized =
    let room : length (line_pad name keys) ≡ 32 = length-line_pad name keys in
    length-xored bytes (line_pad name keys) (omega arith) ∙ sized

length-line_tag : (name : LineName) (keys : LineKeys) (ct : List ℕ)
    → length (line_tag name keys ct) ≡ 32
unfolding line_tag
length-line_tag name keys ct = tags_have_their_length keys.tag.0 (line_message name ct)

pub sealed_lines_have_their_length : SealedLinesHaveTheirLength
sealed_lines_have_their_length name keys plain sized = (
  length-line_masked name keys plain sized,
  length-line_tag name keys
      (line_masked name keys plain),
)
