-- SWL and SWR store the unaligned word.
use Rattle.std.proofs.Common.{◌≡◌, ℕ, ◌+◌, ◌-◌, ◌*◌, ◌/◌, ◌%◌, ◌^◌, ◌<◌, ◌≤◌, List, [], ◌∷◌, ◌++◌, length, refl, ap, subst, ◌∙◌, arith}
use Rattle.xom_base.specs.declared.step.Stored.TheVariants as stored
use Rattle.mips_instruction.specs.declared.instruction.Ins.TheVariants.{Swl, Swr}
use Rattle.mips_instruction.specs.Numbers.{plus_signed}
use Rattle.mips_effect.specs.Effects.{act}
use Rattle.mips_plain.specs.Memory.{private_size, low_bytes, written_at}
use Rattle.mips_laws.specs.Accesses.{StoresOnly}
use Rattle.mips_laws.specs.Unaligned.{HalvesStoreTheWord, SwStoresTheWord}
use Rattle.mips_laws.proofs.Bytes.{by_four, written-both, written-both_back, written-again}
use Rattle.mips_laws.proofs.Steps.{opened, open_byte, store_step, left_step, right_step}

-- ---- The bytes of the two halves

-- four bytes that are equal
four : (a b c d e f g h : ℕ) → a ≡ e → b ≡ f → c ≡ g → d ≡ h
    → a ∷ b ∷ c ∷ d ∷ [] ≡ e ∷ f ∷ g ∷ h ∷ []
four a b c d e f g h one two three last = cc

-- the high and the low bytes of a word are its bytes
whole-bytes : (t : ℕ) → t < 2 ^ 32 → low_bytes 4 (t % 2 ^ 32) ≡ low_bytes 4 t
whole-bytes t below = let same : t % 2 ^ 32 ≡ t = omega arith in ap (low_bytes 4) same

bytes-1 : (t : ℕ) → low_bytes 3 (t / 2 ^ 8) ++ low_bytes 1 (t % 2 ^ 8) ≡ low_bytes 4 t
bytes-1 t = four _ _ _ _ _ _ _ _ (omega arith) (omega arith) (omega arith) (omega arith)

bytes-2 : (t : ℕ) → low_bytes 2 (t / 2 ^ 16) ++ low_bytes 2 (t % 2 ^ 16) ≡ low_bytes 4 t
bytes-2 t = four _ _ _ _ _ _ _ _ (omega arith) (omega arith) (omega arith) (omega arith)

bytes-3 : (t : ℕ) → low_bytes 1 (t / 2 ^ 24) ++ low_bytes 3 (t % 2 ^ 24) ≡ low_bytes 4 t
bytes-3 t = four _ _ _ _ _ _ _ _ (omega arith) (omega arith) (omega arith) (omega arith)

-- memory after SWL at an address, and after SWR at the word's last byte
abbrev by_left : List ℕ → (address t : ℕ) → List ℕ
by_left bytes address t =
    written_at bytes address (low_bytes (4 - address % 4) (t / 2 ^ (8 * (address % 4))))

abbrev by_right : List ℕ → (last t : ℕ) → List ℕ
by_right bytes last t =
    written_at bytes (last - last % 4) (low_bytes (last % 4 + 1) (t % 2 ^ (8 * (last % 4 + 1))))

abbrev Both : List ℕ → (address t : ℕ) → Type 0
Both bytes address t =
    (by_right (by_left bytes address t) (address + 3) t ≡ written_at bytes address (low_bytes 4 t))
    × (by_left (by_right bytes (address + 3) t) address t ≡ written_at bytes address
    (low_bytes 4 t))

-- two parts of a word, the second at its place
both-parts : (bytes : List ℕ) (address last place last_place n m high low t : ℕ)
    → address % 4 ≡ place → (address + 3) % 4 ≡ last_place
    → 4 - place ≡ n → last_place + 1 ≡ m → t / 2 ^ (8 * place) ≡ high → t % 2 ^ (8 * m) ≡ low
    → address + 3 - last_place ≡ last
    → (written_at (written_at bytes address (low_bytes n high)) last (low_bytes m low) ≡ written_at
    bytes address (low_bytes 4 t))
    × (written_at (written_at bytes last (low_bytes m low)) address (low_bytes n high) ≡ written_at
    bytes address (low_bytes 4 t))
    → Both bytes address t
both-parts bytes address last place last_place n m high low t place_is last_place_is n_is m_is
    high_is low_is last_is both =
    rw (place_is, last_place_is, last_is, n_is, m_is, high_is, low_is) both

-- a word in two parts, one behind the other, stored in either order
in_two : (bytes x y : List ℕ) (a b t : ℕ) → a + length x ≡ b → b + length y ≤ length bytes
    → x ++ y ≡ low_bytes 4 t
    → (written_at (written_at bytes a x) b y ≡ written_at bytes a (low_bytes 4 t))
    × (written_at (written_at bytes b y) a x ≡ written_at bytes a (low_bytes 4 t))
in_two bytes x y a b t next room parts =
    let is = ap (written_at bytes a) parts in
    (written-both bytes x y a b next room ∙ is, written-both_back bytes x y a b next room ∙ is)

-- the four places
both : (bytes : List ℕ) (address t : ℕ) → address + 4 ≤ length bytes → t < 2 ^ 32
    → Both bytes address t
both bytes address t room below =
    by_four (address % 4) (omega arith)
    (λ place.
    let all : low_bytes 4 (t / 2 ^ 0) ≡ low_bytes 4 t = let same : t / 2 ^ 0 ≡ t = omega arith in
    ap (low_bytes 4) same in
    let again = written-again bytes (low_bytes 4 t) address room in
    both-parts bytes address address 0 3 4 4 t t t place (omega (arith, place)) refl refl
    (omega arith) (omega arith) (omega arith) (again, again))
    (λ place. both-parts bytes address (address + 3) 1 0 3 1 (t / 2 ^ 8) (t % 2 ^ 8) t place
    (omega (arith, place)) refl refl refl refl (omega arith)
    (in_two bytes (low_bytes 3 (t / 2 ^ 8)) (low_bytes 1 (t % 2 ^ 8)) address (address + 3) t refl
    (omega arith) (bytes-1 t)))
    (λ place. both-parts bytes address (address + 2) 2 1 2 2 (t / 2 ^ 16) (t % 2 ^ 16) t place
    (omega (arith, place)) refl refl refl refl (omega arith)
    (in_two bytes (low_bytes 2 (t / 2 ^ 16)) (low_bytes 2 (t % 2 ^ 16)) address (address + 2) t refl
    (omega arith) (bytes-2 t)))
    (λ place. both-parts bytes address (address + 1) 3 2 1 3 (t / 2 ^ 24) (t % 2 ^ 24) t place
    (omega (arith, place)) refl refl refl refl (omega arith)
    (in_two bytes (low_bytes 1 (t / 2 ^ 24)) (low_bytes 3 (t % 2 ^ 24)) address (address + 1) t refl
    (omega arith) (bytes-3 t)))

-- ---- The instructions

left_stores : (bytes : List ℕ) (rt rs imm s t address : ℕ) → plus_signed s imm ≡ address
    → address < private_size → StoresOnly bytes (Swl rt imm rs) s t (by_left bytes address t)
unfolding act
left_stores bytes rt rs imm s t address names inside =
    record {
      stored = stored.Bytes address (4 - address % 4) (t / 2 ^ (8 * (address % 4)));
      step =
          λ pc d following. left_step bytes (plus_signed s imm) address t names
          (open_byte address inside) pc following;
      memory = refl;
    }

right_stores : (bytes : List ℕ) (rt rs imm s t address : ℕ) → plus_signed s imm ≡ address
    → address < private_size → StoresOnly bytes (Swr rt imm rs) s t (by_right bytes address t)
unfolding act
right_stores bytes rt rs imm s t address names inside =
    record {
      stored = stored.Bytes (address - address % 4) (address % 4 + 1)
          (t % 2 ^ (8 * (address % 4 + 1)));
      step = λ pc d following. right_step bytes
          (plus_signed s imm) address t names (open_byte address inside) pc following;
      memory = refl;
    }

pub halves_store_the_word : HalvesStoreTheWord
halves_store_the_word bytes rt rs first last s t address memory below word =
    let inside = word.inside in
    let whole = memory.whole in
    let first_inside : address < private_size = omega (arith, inside) in
    let last_inside : address + 3 < private_size = omega (arith, inside) in
    let together = both bytes address t (omega (arith, inside, whole)) below in (
      record {
        between = by_left bytes address t;
        one_stores = left_stores bytes rt rs first s t address word.first_byte first_inside;
        two_stores = subst (StoresOnly (by_left bytes address t) (Swr rt last rs) s t) together.0
            (right_stores (by_left bytes address t) rt rs last s t (address + 3) word.last_byte
            last_inside);
      },
      record {
        between = by_right bytes (address + 3) t;
        one_stores = right_stores bytes rt rs last s t (address + 3) word.last_byte last_inside;
        two_stores = subst (StoresOnly (by_right bytes (address + 3) t) (Swl rt first rs) s t)
            together.1 (left_stores (by_right bytes (address + 3) t) rt rs first s t address
            word.first_byte first_inside);
      },
    )

pub sw_stores_the_word : SwStoresTheWord
unfolding act
sw_stores_the_word bytes rt rs imm s t inside aligned =
    let address : ℕ = plus_signed s imm in
    record {
      stored = stored.Bytes address 4 t;
      step = λ pc d following. store_step bytes 4 address
          t (opened 4 address aligned (omega (arith, inside))) pc following;
      memory = refl;
    }
