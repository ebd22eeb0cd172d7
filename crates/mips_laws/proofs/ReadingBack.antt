-- What is stored is loaded again.
use Rattle.std.proofs.Common.{◌≡◌, ℕ, ◌+◌, ◌-◌, ◌*◌, ◌/◌, ◌%◌, ◌^◌, ◌<◌, ◌≤◌, ℤ, List, [], ◌∷◌, length, slice_index, refl, ap, subst, ◌∙◌, ⊎_elim, arith}
use Rattle.std.proofs.lemmas.List.Elements.{All-nil, All-cons}
use Rattle.xom_base.specs.declared.step.Stored.TheVariants as stored
use Rattle.mips_instruction.specs.declared.instruction.Ins.{Ins}
use Rattle.mips_instruction.specs.declared.instruction.Ins.TheVariants.{Lb, Lbu, Lh, Lhu, Lwl, Lwr, Sb, Sh}
use Rattle.mips_instruction.specs.Numbers.{number_modulo_word, plus_signed, sign_extended, signed_16, signed_8, signed_number}
use Rattle.mips_effect.specs.declared.wish.LoadKind.TheVariants as kind
use Rattle.mips_effect.specs.Arithmetic.{byte_in_word, half_of}
use Rattle.mips_effect.specs.Effects.{act, merge_of}
use Rattle.mips_plain.specs.Memory.{low_bytes, private_size, word_at_address, written_at}
use Rattle.mips_laws.specs.Accesses.{IsMemory, LoadsOnly, StoresOnly}
use Rattle.mips_laws.specs.ReadBack.{ReadsBack, ReadsBackSigned, WordsAreReadBack, HalvesAreReadBack, BytesAreReadBack, UnalignedWordsAreReadBack}
use Rattle.mips_laws.specs.Unaligned.{LoadsByTwo, WrittenWordsAreAlone}
use Rattle.mips_laws.proofs.Bytes.{AreBytes, by_four, word_at-is, word_at-of, byte-below, written-before, written-inside, written-behind, written-AreBytes}
use Rattle.mips_laws.proofs.Steps.{opened, load_step, store_step}
use Rattle.mips_laws.proofs.Storing.{halves_store_the_word, sw_stores_the_word}
use Rattle.mips_laws.proofs.Halves.{halves_load_the_word}
use Rattle.mips_plain.proofs.Stores.{length-written_at}
use Rattle.mips_laws.proofs.Whole.{reduced-below, signed-byte, signed-extended}

-- ---- Parts of a word of memory

byte_of-is : (w a b c d : ℕ) → a < 256 → b < 256 → c < 256 → d < 256
    → w ≡ a * 2 ^ 24 + b * 2 ^ 16 + c * 2 ^ 8 + d
    → (byte_in_word w 0 ≡ a) × (byte_in_word w 1 ≡ b) × (byte_in_word w 2 ≡ c) × (byte_in_word w 3 ≡ d)
byte_of-is w a b c d a_small b_small c_small d_small is =
    (omega arith, omega arith, omega arith, omega arith)

half_of-is : (w a b c d : ℕ) → a < 256 → b < 256 → c < 256 → d < 256
    → w ≡ a * 2 ^ 24 + b * 2 ^ 16 + c * 2 ^ 8 + d
    → (half_of w 0 ≡ a * 2 ^ 8 + b) × (half_of w 2 ≡ c * 2 ^ 8 + d)
half_of-is w a b c d a_small b_small c_small d_small is = (omega arith, omega arith)

-- the byte at an address, of the word around it
byte_loaded : (bytes : List ℕ) (address : ℕ) → AreBytes bytes
    → byte_in_word (word_at_address bytes (address - address % 4)) (address % 4) ≡ slice_index bytes address
byte_loaded bytes address small =
    let base : ℕ = address - address % 4 in
    let word : ℕ = word_at_address bytes base in
    let parts = byte_of-is word (slice_index bytes base) (slice_index bytes (base + 1))
    (slice_index bytes (base + 2)) (slice_index bytes (base + 3))
    (byte-below bytes base small) (byte-below bytes (base + 1) small)
    (byte-below bytes (base + 2) small) (byte-below bytes (base + 3) small)
    (word_at-is bytes base) in
    by_four (address % 4) (omega arith)
    (λ place. let at : base ≡ address = omega (arith, place) in ap (byte_in_word word) place ∙ parts.0
    ∙ ap (slice_index bytes) at)
    (λ place. let at : base + 1 ≡ address = omega (arith, place) in ap (byte_in_word word) place
    ∙ parts.1 ∙ ap (slice_index bytes) at)
    (λ place. let at : base + 2 ≡ address = omega (arith, place) in ap (byte_in_word word) place
    ∙ parts.2 ∙ ap (slice_index bytes) at)
    (λ place. let at : base + 3 ≡ address = omega (arith, place) in ap (byte_in_word word) place
    ∙ parts.3 ∙ ap (slice_index bytes) at)

-- the two bytes at an even address
half_loaded : (bytes : List ℕ) (address next p q : ℕ) → AreBytes bytes → address % 2 ≡ 0
    → address + 1 ≡ next → slice_index bytes address ≡ p → slice_index bytes next ≡ q
    → half_of (word_at_address bytes (address - address % 4)) (address % 4) ≡ p * 2 ^ 8 + q
half_loaded bytes address next p q small even follows p_is q_is =
    let base : ℕ = address - address % 4 in
    let word : ℕ = word_at_address bytes base in
    let parts = half_of-is word (slice_index bytes base) (slice_index bytes (base + 1))
    (slice_index bytes (base + 2)) (slice_index bytes (base + 3))
    (byte-below bytes base small) (byte-below bytes (base + 1) small)
    (byte-below bytes (base + 2) small) (byte-below bytes (base + 3) small)
    (word_at-is bytes base) in
    by_four (address % 4) (omega arith)
    (λ place.
    let first : slice_index bytes base ≡ p = let at : base ≡ address = omega (arith, place) in
    ap (slice_index bytes) at ∙ p_is in
    let second : slice_index bytes (base + 1) ≡ q = let at : base + 1 ≡ next =
    omega (arith, place) in ap (slice_index bytes) at ∙ q_is in
    let whole : half_of word 0 ≡ slice_index bytes base * 2 ^ 8 + slice_index bytes (base + 1) =
    parts.0 in
    ap (half_of word) place ∙ whole ∙ omega (arith, first, second))
    (λ place. absurd (omega (arith, place, even)))
    (λ place.
    let first : slice_index bytes (base + 2) ≡ p = let at : base + 2 ≡ address =
    omega (arith, place) in ap (slice_index bytes) at ∙ p_is in
    let second : slice_index bytes (base + 3) ≡ q = let at : base + 3 ≡ next =
    omega (arith, place) in ap (slice_index bytes) at ∙ q_is in
    let whole : half_of word 2 ≡ slice_index bytes (base + 2) * 2 ^ 8 + slice_index bytes
    (base + 3) = parts.1 in
    ap (half_of word) place ∙ whole ∙ omega (arith, first, second))
    (λ place. absurd (omega (arith, place, even)))

-- ---- Memory after a store

byte-All : (n : ℕ) (bytes : List ℕ) → AreBytes bytes → AreBytes (n % 256 ∷ bytes)
byte-All n bytes small = All-cons (λ b. b < 2 ^ 8) (n % 256) bytes (omega arith) small

word_written : (bytes : List ℕ) (address t : ℕ) → address ≤ length bytes → t < 2 ^ 32
    → word_at_address (written_at bytes address (low_bytes 4 t)) address ≡ t
word_written bytes address t room below =
    let new : List ℕ = written_at bytes address (low_bytes 4 t) in
    let first : slice_index new address ≡ t / 2 ^ 24 % 256 = written-inside bytes (low_bytes 4 t)
    address address 0 0 room (omega arith) (omega arith) in
    let second : slice_index new (address + 1) ≡ t / 2 ^ 16 % 256 =
    written-inside bytes (low_bytes 4 t) address (address + 1) 1 0 room refl (omega arith) in
    let third : slice_index new (address + 2) ≡ t / 2 ^ 8 % 256 =
    written-inside bytes (low_bytes 4 t) address (address + 2) 2 0 room refl (omega arith) in
    let fourth : slice_index new (address + 3) ≡ t % 256 = written-inside bytes (low_bytes 4 t)
    address (address + 3) 3 0 room refl (omega arith) in
    word_at-of new address (address + 1) (address + 2) (address + 3) _ _ _ _ refl refl refl first
    second third fourth ∙ omega arith

half_written : (bytes : List ℕ) (address v : ℕ) → address ≤ length bytes → AreBytes bytes
    → address % 2 ≡ 0 → v < 2 ^ 16
    → half_of (word_at_address (written_at bytes address (low_bytes 2 v)) (address - address % 4))
    (address % 4) ≡ v
half_written bytes address v room small even below =
    let part : List ℕ = low_bytes 2 v in
    let new : List ℕ = written_at bytes address part in
    let first : slice_index new address ≡ v / 2 ^ 8 % 256 = written-inside bytes part address
    address 0 0 room (omega arith) (omega arith) in
    let second : slice_index new (address + 1) ≡ v % 256 = written-inside bytes part address
    (address + 1) 1 0 room refl (omega arith) in
    half_loaded new address (address + 1) _ _ (written-AreBytes bytes part address small
    (byte-All (v / 2 ^ 8) (low_bytes 1 v) (byte-All v [] (All-nil (λ b. b < 2 ^ 8))))) even refl
    first second ∙ omega arith

byte_written : (bytes : List ℕ) (address v : ℕ) → address ≤ length bytes → AreBytes bytes
    → v < 2 ^ 8
    → byte_in_word (word_at_address (written_at bytes address (low_bytes 1 v)) (address - address % 4))
    (address % 4) ≡ v
byte_written bytes address v room small below =
    let part : List ℕ = low_bytes 1 v in
    let new : List ℕ = written_at bytes address part in
    let first : slice_index new address ≡ v % 256 = written-inside bytes part address address 0 0
    room (omega arith) (omega arith) in
    byte_loaded new address (written-AreBytes bytes part address small
    (byte-All v [] (All-nil (λ b. b < 2 ^ 8)))) ∙ first ∙ omega arith

-- ---- The instructions

pub words_are_read_back : WordsAreReadBack
unfolding act merge_of
words_are_read_back bytes rt rs imm s t reg from offset base old memory below place =
    let address : ℕ = plus_signed s imm in
    let inside = place.inside in
    let aligned = place.aligned in
    let whole = memory.whole in
    let new : List ℕ = written_at bytes address (low_bytes 4 t) in
    let at : address - address % 4 ≡ address = omega (arith, aligned) in
    let value : word_at_address new (address - address % 4) ≡ t = ap (word_at_address new) at ∙ word_written bytes
    address t (omega (arith, inside, whole)) below in
    record {
      new = new;
      stores = sw_stores_the_word bytes rt rs imm s t inside aligned;
      loads = λ pc d following. load_step new kind.Word reg (plus_signed base offset) address old t
          place.same (opened 4 address aligned (omega (arith, inside))) value pc following;
    }

-- a store, and two loads of what it stored: as a number, and as one with its sign
read_both_ways : (bytes new : List ℕ) (store load load_signed : Ins)
    (s t base old reg v number : ℕ) (value : ℤ)
    → StoresOnly bytes store s t new → LoadsOnly new load base old reg v
    → LoadsOnly new load_signed base old reg number
    → number < 2 ^ 32 → signed_number number ≡ value
    → ReadsBack bytes store load s t base old reg v
    × ReadsBackSigned bytes store load_signed s t base old reg value
read_both_ways bytes new store load load_signed s t base old reg v number value stores loads
    loads_signed bits is = (
      record { new = new; stores = stores; loads = loads },
      record {
        number = number;
        number_bits = bits;
        reads_back = record { new = new; stores = stores; loads = loads_signed };
        number_is = is;
      },
    )

pub halves_are_read_back : HalvesAreReadBack
unfolding act merge_of
halves_are_read_back bytes rt rs imm s t reg from offset base old memory place =
    let address : ℕ = plus_signed s imm in
    let v : ℕ = t % 2 ^ 16 in
    let below : v < 2 ^ 16 = omega arith in
    let new : List ℕ = written_at bytes address (low_bytes 2 v) in
    let opens = opened 2 address place.aligned (omega (arith, place.inside)) in
    let value : half_of (word_at_address new (address - address % 4)) (address % 4) ≡ v =
    half_written bytes address v (omega (arith, place.inside, memory.whole)) memory.are_bytes
    place.aligned below in
    read_both_ways bytes new (Sh rt imm rs) (Lhu reg offset from) (Lh reg offset from) s t base old
    reg v (sign_extended v) (signed_16 v)
    (record {
      stored = stored.Bytes address 2 v;
      step = λ pc d following. store_step bytes 2 address v opens pc following;
      memory = refl;
    })
    (λ pc d following. load_step new kind.HalfU reg (plus_signed base offset) address old v
    place.same opens value pc following)
    (λ pc d following. load_step new kind.Half reg (plus_signed base offset) address old
    (sign_extended v) place.same opens (ap sign_extended value) pc following)
    (reduced-below (signed_16 v)) (signed-extended v below)

pub bytes_are_read_back : BytesAreReadBack
unfolding act merge_of
bytes_are_read_back bytes rt rs imm s t reg from offset base old memory place =
    let address : ℕ = plus_signed s imm in
    let v : ℕ = t % 2 ^ 8 in
    let below : v < 2 ^ 8 = omega arith in
    let new : List ℕ = written_at bytes address (low_bytes 1 v) in
    let opens = opened 1 address place.aligned (omega (arith, place.inside)) in
    let value : byte_in_word (word_at_address new (address - address % 4)) (address % 4) ≡ v =
    byte_written bytes address v (omega (arith, place.inside, memory.whole)) memory.are_bytes
    below in
    read_both_ways bytes new (Sb rt imm rs) (Lbu reg offset from) (Lb reg offset from) s t base old
    reg v (number_modulo_word (signed_8 v)) (signed_8 v)
    (record {
      stored = stored.Bytes address 1 v;
      step = λ pc d following. store_step bytes 1 address v opens pc following;
      memory = refl;
    })
    (λ pc d following. load_step new kind.ByteU reg (plus_signed base offset) address old v
    place.same opens value pc following)
    (λ pc d following. load_step new kind.Byte reg (plus_signed base offset) address old
    (number_modulo_word (signed_8 v)) place.same opens
    (ap (λ b. number_modulo_word (signed_8 b)) value) pc following)
    (reduced-below (signed_8 v)) (signed-byte v below)

-- ---- Unaligned words

-- memory is whole after a store of a word
memory_after : (bytes : List ℕ) (address t : ℕ) → IsMemory bytes → address + 4 ≤ private_size
    → IsMemory (written_at bytes address (low_bytes 4 t))
memory_after bytes address t memory inside =
    let whole = memory.whole in
    let part : AreBytes (low_bytes 4 t) = byte-All (t / 2 ^ 24) (low_bytes 3 t)
    (byte-All (t / 2 ^ 16) (low_bytes 2 t) (byte-All (t / 2 ^ 8) (low_bytes 1 t)
    (byte-All t [] (All-nil (λ b. b < 2 ^ 8))))) in
    record {
      whole = length-written_at bytes address (low_bytes 4 t) (omega (arith, inside, whole))
          ∙ whole;
      are_bytes = written-AreBytes bytes (low_bytes 4 t) address memory.are_bytes part;
    }

pub unaligned_words_are_read_back : UnalignedWordsAreReadBack
unaligned_words_are_read_back bytes rt rs first last s t reg from base_first base_last base old
    address memory below stored_word loaded_word =
    let inside = stored_word.inside in
    let whole = memory.whole in
    let new : List ℕ = written_at bytes address (low_bytes 4 t) in
    let value : word_at_address new address ≡ t = word_written bytes address t
    (omega (arith, inside, whole)) below in
    record {
      new = new;
      stores = (halves_store_the_word bytes rt rs first last s t address memory below
          stored_word).0;
      loads = subst (LoadsByTwo new (Lwl reg base_first from) (Lwr reg base_last from) base old reg)
          value
          (halves_load_the_word new reg from base_first base_last base old address
          (memory_after bytes address t memory inside) loaded_word).0;
    }

pub written_words_are_alone : WrittenWordsAreAlone
written_words_are_alone bytes address t room below =
    record {
      size = length-written_at bytes address (low_bytes 4 t) room;
      word = word_written bytes address t (omega (arith, room)) below;
      others = λ place elsewhere. ⊎_elim
          (λ (before : place < address). written-before bytes (low_bytes 4 t) address place 0
          (omega (arith, room)) before)
          (λ (behind : address + 4 ≤ place). written-behind bytes (low_bytes 4 t) address place 0
          (omega (arith, room)) behind)
          elsewhere;
    }
