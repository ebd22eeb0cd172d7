-- Lists of bytes: their parts, digests and masks, and the texts that the machine seals.
use Rattle.std.proofs.Common.{◌≡◌, ℕ, zero, suc, ◌+◌, ◌-◌, ◌≤◌, ◌<◌, List, [], ◌∷◌, ◌++◌, length, take, drop, replicate, lit<, arith, refl}
use Rattle.std.specs.Prelude.{slice_index}
use Rattle.std.specs.Int.{w32, w64, from_be_bytes, to_be_bytes}
use Rattle.std.proofs.lemmas.List.{length-append, length-drop, length-take-le}
use Rattle.std.proofs.lemmas.Nat.{xor_of_8}
use Rattle.hex.specs.Hex.{IsBytes}
use Rattle.sha2.specs.Sha256.{digest_bytes, final_hash, initial_hash_256, sha256}
use Rattle.aes_block.specs.Cipher.{aes128}
use Rattle.aes_block.proofs.Bytes.{blocks_are_bytes}
use Rattle.aes_block.proofs.Sizes.{length-aes128}
use Rattle.keyed_mac.specs.Hmac.{block_key, block_with_pad, hmac_sha256, ipad, opad}
use Rattle.keyed_mac.proofs.Lengths.{tags_have_their_length}
use Rattle.xom_base.specs.declared.key.Key256.{Key256}
use Rattle.xom_seal.specs.declared.keys.LineKeys.{LineKeys}
use Rattle.xom_seal.specs.declared.keys.RegisterKeys.{RegisterKeys}
use Rattle.xom_seal.specs.declared.names.LineName.{LineName}
use Rattle.xom_seal.specs.declared.names.LineName.TheVariants.{Image, Run}
use Rattle.xom_seal.specs.declared.names.RegName.{RegName}
use Rattle.xom_seal.specs.Counters.{envelope_counter, line_counter, register_counter}
use Rattle.xom_seal.specs.Envelopes.{envelope_pad, key_masked}
use Rattle.xom_seal.specs.Keys.{envelope_aes_key, image_aes_key, register_key_bytes, register_keys, run_aes_key, run_keys, run_tag_key}
use Rattle.xom_seal.specs.Messages.{envelope_message, line_message, register_message}
use Rattle.xom_seal.specs.Sealing.{line_masked, line_pad, line_tag, register_masked, register_pad, register_tag, xor_of_bytes}
use Rattle.journal_round_trip.specs.KeepsRules.{Is32Bit, KeepsPayload}
use Rattle.journal_round_trip.proofs.PieceLaws.{number-bytes}

-- ---- Parts and sums

pub bytes-none : IsBytes []
bytes-none i = lit< tt

pub bytes-take : (n : ℕ) (xs : List ℕ) → IsBytes xs → IsBytes (take n xs)
bytes-take zero xs bytes i = lit< tt
bytes-take (suc n) [] bytes i = lit< tt
bytes-take (suc n) (x ∷ xs) bytes zero = bytes zero
bytes-take (suc n) (x ∷ xs) bytes (suc i) = bytes-take n xs (λ j. bytes (suc j)) i

pub bytes-drop : (n : ℕ) (xs : List ℕ) → IsBytes xs → IsBytes (drop n xs)
bytes-drop zero xs bytes i = bytes i
bytes-drop (suc n) [] bytes i = lit< tt
bytes-drop (suc n) (x ∷ xs) bytes i = bytes-drop n xs (λ j. bytes (suc j)) i

pub bytes-cons : (x : ℕ) (xs : List ℕ) → x < 256 → IsBytes xs → IsBytes (x ∷ xs)
bytes-cons x xs low bytes zero = low
bytes-cons x xs low bytes (suc i) = bytes i

pub bytes-append : (xs ys : List ℕ) → IsBytes xs → IsBytes ys → IsBytes (xs ++ ys)
bytes-append [] ys bytes more i = more i
bytes-append (x ∷ xs) ys bytes more zero = bytes zero
bytes-append (x ∷ xs) ys bytes more (suc i) = bytes-append xs ys (λ j. bytes (suc j)) more i

pub bytes-zeros : (n : ℕ) → IsBytes (replicate n 0)
bytes-zeros zero i = lit< tt
bytes-zeros (suc n) zero = lit< tt
bytes-zeros (suc n) (suc i) = bytes-zeros n i

-- bytes with others written over them from a place on
pub bytes-written : (xs : List ℕ) (place : ℕ) (part : List ℕ) → IsBytes xs → IsBytes part
    → IsBytes (take place xs ++ (part ++ drop (place + length part) xs))
bytes-written xs place part bytes more =
    bytes-append (take place xs) (part ++ drop (place + length part) xs) (bytes-take place xs bytes)
    (bytes-append part (drop (place + length part) xs) more (bytes-drop (place + length part) xs
    bytes))

-- ---- Numbers

pub bytes-number : (n : ℕ) → IsBytes (to_be_bytes w32 n)
bytes-number n = number-bytes n

pub bytes-long_number : (n : ℕ) → IsBytes (to_be_bytes w64 n)
bytes-long_number n zero = omega arith
bytes-long_number n (suc zero) = omega arith
bytes-long_number n (suc (suc zero)) = omega arith
bytes-long_number n (suc (suc (suc zero))) = omega arith
bytes-long_number n (suc (suc (suc (suc zero)))) = omega arith
bytes-long_number n (suc (suc (suc (suc (suc zero))))) = omega arith
bytes-long_number n (suc (suc (suc (suc (suc (suc zero)))))) = omega arith
bytes-long_number n (suc (suc (suc (suc (suc (suc (suc zero))))))) = omega arith
bytes-long_number n (suc (suc (suc (suc (suc (suc (suc (suc i)))))))) = lit< tt

pub bytes-low : (count value : ℕ) → IsBytes (drop (4 - count) (to_be_bytes w32 value))
bytes-low count value = bytes-drop (4 - count) (to_be_bytes w32 value) (bytes-number value)

pub from_be_bytes-short : (bytes : List ℕ) → IsBytes bytes → Is32Bit (from_be_bytes w32 bytes)
from_be_bytes-short bytes each = omega (arith, each 0, each 1, each 2, each 3)

-- ---- Digests and masks

bytes-digest : (h : List ℕ) (n : ℕ) → IsBytes (digest_bytes h n)
unfolding digest_bytes
bytes-digest h zero = bytes-none
bytes-digest h (suc n) =
    bytes-append (digest_bytes h n) (to_be_bytes w32 (slice_index h n)) (bytes-digest h n)
    (bytes-number (slice_index h n))

pub bytes-sha256 : (text : List ℕ) → IsBytes (sha256 text)
unfolding sha256
bytes-sha256 text = bytes-digest (final_hash initial_hash_256 text) 8

pub bytes-hmac : (key text : List ℕ) → IsBytes (hmac_sha256 key text)
unfolding hmac_sha256
bytes-hmac key text =
    bytes-sha256 (block_with_pad opad (block_key key) ++ sha256 (block_with_pad ipad (block_key key) ++ text))

bytes-xored : (xs ys : List ℕ) → IsBytes xs → IsBytes ys → IsBytes (xor_of_bytes xs ys)
bytes-xored [] ys bytes other i = lit< tt
bytes-xored (x ∷ xs) [] bytes other i = lit< tt
bytes-xored (x ∷ xs) (y ∷ ys) bytes other zero = xor_of_8 x y (bytes zero) (other zero)
bytes-xored (x ∷ xs) (y ∷ ys) bytes other (suc i) =
    bytes-xored xs ys (λ j. bytes (suc j)) (λ j. other (suc j)) i

-- no longer than the mask
xored-short : (xs ys : List ℕ) → length (xor_of_bytes xs ys) ≤ length ys
xored-short [] ys = omega arith
xored-short (x ∷ xs) [] = omega arith
xored-short (x ∷ xs) (y ∷ ys) = let low = xored-short xs ys in omega arith

-- and as long as the text where the mask is long enough
xored-long : (xs ys : List ℕ) → length xs ≤ length ys → length (xor_of_bytes xs ys) ≡ length xs
xored-long [] ys within = refl
xored-long (x ∷ xs) [] within = absurd (omega arith)
xored-long (x ∷ xs) (y ∷ ys) within =
    let same : length (xor_of_bytes xs ys) ≡ length xs = xored-long xs ys (omega arith) in omega arith

-- a key of so many bytes that a journal may name it
pub hmac-payload : (key text : List ℕ) → KeepsPayload 96 (hmac_sha256 key text)
hmac-payload key text =
    let size = tags_have_their_length key text in (bytes-hmac key text, omega arith, omega arith)

-- ---- Lines

-- the AES key of a line has bytes
pub run_aes-bytes : (key : Key256) (boot install : ℕ) → IsBytes (run_keys key boot install).aes.0
unfolding run_aes_key
run_aes-bytes key boot install = bytes-take 16 (hmac_sha256 key.0 _) (bytes-hmac key.0 _)

pub run_tag-payload : (key : Key256) (boot install : ℕ)
    → KeepsPayload 96 (run_keys key boot install).tag.0
unfolding run_tag_key
run_tag-payload key boot install = hmac-payload key.0 _

pub image_aes-bytes : (key id : List ℕ) → IsBytes (image_aes_key key id)
unfolding image_aes_key
image_aes-bytes key id = bytes-take 16 (hmac_sha256 key _) (bytes-hmac key _)

-- the ciphertext of a line, and the bytes of one that opens
pub line_masked-bytes : (name : LineName) (keys : LineKeys) (bytes : List ℕ) → IsBytes keys.aes.0
    → IsBytes bytes → IsBytes (line_masked name keys bytes)
unfolding line_masked line_pad
line_masked-bytes name keys bytes keyed each =
    bytes-xored bytes (aes128 keys.aes.0 (line_counter name 0) ++ aes128 keys.aes.0
    (line_counter name 1)) each
    (bytes-append (aes128 keys.aes.0 (line_counter name 0))
    (aes128 keys.aes.0 (line_counter name 1))
    (blocks_are_bytes keys.aes.0 (line_counter name 0) keyed)
    (blocks_are_bytes keys.aes.0 (line_counter name 1) keyed))

pub line_masked-short : (name : LineName) (keys : LineKeys) (bytes : List ℕ)
    → length (line_masked name keys bytes) ≤ 32
unfolding line_masked line_pad
line_masked-short name keys bytes =
    let pad = aes128 keys.aes.0 (line_counter name 0) ++ aes128 keys.aes.0 (line_counter name 1) in
    let long : length pad ≡ 32 = simp (length-append, length-aes128) in
    let low = xored-short bytes pad in omega arith

pub line_tag-size : (name : LineName) (keys : LineKeys) (ct : List ℕ)
    → length (line_tag name keys ct) ≡ 32
unfolding line_tag
line_tag-size name keys ct = tags_have_their_length keys.tag.0 (line_message name ct)

pub line_tag-bytes : (name : LineName) (keys : LineKeys) (ct : List ℕ)
    → IsBytes (line_tag name keys ct)
unfolding line_tag
line_tag-bytes name keys ct = bytes-hmac keys.tag.0 (line_message name ct)

-- the id of an image line's name has bytes, at most 16
abbrev pub IsPlainName : LineName → Type 0
IsPlainName (Image id line) = IsBytes id.0 × (length id.0 ≤ 16)
IsPlainName (Run boot install line version) = Unit {0}

pub line_message-payload : (name : LineName) (ct : List ℕ) → IsPlainName name → IsBytes ct
    → length ct ≤ 32 → KeepsPayload 96 (line_message name ct)
unfolding line_message
line_message-payload (Image id line) ct plain bytes few =
    let rest = to_be_bytes w32 line ++ ct in
    let all = length-append id.0 rest in
    let short : length id.0 ≤ 16 = plain.1 in (
      bytes-cons 1 (id.0 ++ rest) (lit< tt)
          (bytes-append id.0 rest plain.0 (bytes-append (to_be_bytes w32 line) ct (bytes-number line)
          bytes)),
      omega arith,
      omega arith,
    )
line_message-payload (Run boot install line version) ct plain bytes few =
    let last = to_be_bytes w64 version ++ ct in
    let place = to_be_bytes w32 line ++ last in
    let made = to_be_bytes w64 install ++ place in (
      bytes-cons 2 (to_be_bytes w64 boot ++ made) (lit< tt)
          (bytes-append (to_be_bytes w64 boot) made (bytes-long_number boot)
          (bytes-append (to_be_bytes w64 install) place (bytes-long_number install)
          (bytes-append (to_be_bytes w32 line) last (bytes-number line)
          (bytes-append (to_be_bytes w64 version) ct (bytes-long_number version) bytes)))),
      omega arith,
      omega arith,
    )

-- ---- Registers

register_key-bytes : (key : List ℕ) (boot install epoch : ℕ)
    → IsBytes (register_key_bytes key boot install epoch)
unfolding register_key_bytes
register_key-bytes key boot install epoch = bytes-hmac key _

register_key-size : (key : List ℕ) (boot install epoch : ℕ)
    → length (register_key_bytes key boot install epoch) ≡ 32
unfolding register_key_bytes
register_key-size key boot install epoch = tags_have_their_length key _

pub register_aes-bytes : (key : Key256) (boot install epoch : ℕ)
    → IsBytes (register_keys key boot install epoch).aes.0
register_aes-bytes key boot install epoch =
    bytes-take 16 (register_key_bytes key.0 boot install epoch)
    (register_key-bytes key.0 boot install epoch)

pub register_tag-payload : (key : Key256) (boot install epoch : ℕ)
    → KeepsPayload 96 (register_keys key boot install epoch).tag.0
register_tag-payload key boot install epoch =
    let whole = register_key-size key.0 boot install epoch in
    let rest = length-drop 16 (register_key_bytes key.0 boot install epoch) in (
      bytes-drop 16 (register_key_bytes key.0 boot install epoch)
          (register_key-bytes key.0 boot install epoch),
      omega arith,
      omega arith,
    )

pub register_masked-bytes : (name : RegName) (keys : RegisterKeys) (bytes : List ℕ)
    → IsBytes keys.aes.0 → IsBytes bytes → IsBytes (register_masked name keys bytes)
unfolding register_masked register_pad
register_masked-bytes name keys bytes keyed each =
    bytes-xored bytes (take 4 (aes128 keys.aes.0 (register_counter name))) each
    (bytes-take 4 (aes128 keys.aes.0 (register_counter name))
    (blocks_are_bytes keys.aes.0 (register_counter name) keyed))

pub register_masked-short : (name : RegName) (keys : RegisterKeys) (bytes : List ℕ)
    → length (register_masked name keys bytes) ≤ 4
unfolding register_masked register_pad
register_masked-short name keys bytes =
    let whole = length-aes128 keys.aes.0 (register_counter name) in
    let pad = take 4 (aes128 keys.aes.0 (register_counter name)) in
    let long : length pad ≡ 4 = length-take-le 4 (aes128 keys.aes.0 (register_counter name))
    (omega arith) in
    let low = xored-short bytes pad in omega arith

pub register_tag-size : (name : RegName) (keys : RegisterKeys) (ct : List ℕ)
    → length (register_tag name keys ct) ≡ 32
unfolding register_tag
register_tag-size name keys ct = tags_have_their_length keys.tag.0 (register_message name ct)

pub register_tag-bytes : (name : RegName) (keys : RegisterKeys) (ct : List ℕ)
    → IsBytes (register_tag name keys ct)
unfolding register_tag
register_tag-bytes name keys ct = bytes-hmac keys.tag.0 (register_message name ct)

pub register_message-payload : (name : RegName) (ct : List ℕ) → name.reg < 256 → IsBytes ct
    → length ct ≤ 32 → KeepsPayload 96 (register_message name ct)
unfolding register_message
register_message-payload name ct low bytes few =
    let last = to_be_bytes w64 name.epoch ++ (name.reg ∷ ct) in
    let made = to_be_bytes w64 name.install ++ last in (
      bytes-cons 3 (to_be_bytes w64 name.boot ++ made) (lit< tt)
          (bytes-append (to_be_bytes w64 name.boot) made (bytes-long_number name.boot)
          (bytes-append (to_be_bytes w64 name.install) last (bytes-long_number name.install)
          (bytes-append (to_be_bytes w64 name.epoch) (name.reg ∷ ct) (bytes-long_number name.epoch)
          (bytes-cons name.reg ct low bytes)))),
      omega arith,
      omega arith,
    )

-- ---- Envelopes

pub envelope_message-payload : (envelope : List ℕ) → IsBytes envelope
    → KeepsPayload 96 (envelope_message envelope)
unfolding envelope_message
envelope_message-payload envelope bytes = (
  bytes-cons 4 (take 56 envelope) (lit< tt) (bytes-take 56 envelope bytes),
  omega arith,
  let few : length (take 56 envelope) ≤ 56 = take-short 56 envelope in omega arith,
)
  where
    take-short : (n : ℕ) (xs : List ℕ) → length (take n xs) ≤ n
    take-short zero xs = omega arith
    take-short (suc n) [] = omega arith
    take-short (suc n) (x ∷ xs) = let low = take-short n xs in omega arith

-- the key that an envelope says
pub key_masked-payload : (machine : Key256) (id key : List ℕ) → IsBytes key → length key ≡ 32
    → KeepsPayload 96 (key_masked machine id key)
unfolding key_masked envelope_pad envelope_aes_key
key_masked-payload machine id key bytes size =
    let aes = take 16 (hmac_sha256 machine.0 (0x13 ∷ id)) in
    let keyed : IsBytes aes = bytes-take 16 (hmac_sha256 machine.0 (0x13 ∷ id))
    (bytes-hmac machine.0 (0x13 ∷ id)) in
    let pad = aes128 aes (envelope_counter 0) ++ aes128 aes (envelope_counter 1) in
    let long : length pad ≡ 32 = simp (length-append, length-aes128) in
    let whole : length (xor_of_bytes key pad) ≡ length key = xored-long key pad (omega arith) in (
      bytes-xored key pad bytes (bytes-append (aes128 aes (envelope_counter 0))
          (aes128 aes (envelope_counter 1)) (blocks_are_bytes aes (envelope_counter 0) keyed)
          (blocks_are_bytes aes (envelope_counter 1) keyed)),
      omega arith,
      omega arith,
    )
