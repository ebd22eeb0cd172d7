-- Lists of Seals with one more, and what stands before the ciphertext in a message.
use Rattle.std.proofs.Common.{◌≡◌, ◌≢◌, ◌⊎◌, inl, inr, ◌&&◌, ◌||◌, cond, ℕ, Bool, List, [], ◌∷◌, ◌++◌, take, drop, refl, sym, ◌∙◌, ap, true, false, get_or, arith}
use Rattle.std.specs.Str.{bytes_eq}
use Rattle.std.proofs.lemmas.List.{take-append-drop}
use Rattle.std.proofs.lemmas.List.Folds.{list_any-append}
use Rattle.std.proofs.lemmas.Slice.Eq.{bytes_eq-Decides}
use Rattle.xom_seal.specs.declared.names.LineName.TheVariants.{Run}
use Rattle.xom_seal.specs.declared.names.RegName.{RegName}
use Rattle.xom_seal.specs.Messages.{line_message, register_message}
use Rattle.image_sealer.specs.Membership.{is_sealed, is_sealing}
use Rattle.xom_model.specs.Honest.{Sealing}
use Rattle.xom_model.specs.Saves.{IsOnce, before_ct}

both : (a b : Bool) → (a && b) ≡ true → (a ≡ true) × (b ≡ true)
both true b is = (refl, is)
both false b is = absurd (cc)

either : (a b : Bool) → (a || b) ≡ true → (a ≡ true) ⊎ (b ≡ true)
either true b is = inl refl
either false b is = inr is

-- a test that is decided to be false
pub bytes_differ : (xs ys : List ℕ) → xs ≢ ys → bytes_eq xs ys ≡ false
bytes_differ xs ys differ = elim (bytes_eq xs ys) as (λ b. bytes_eq xs ys ≡ b → b ≡ false) [
  | true ↦ λ is. absurd (differ ((bytes_eq-Decides xs ys).0 is))
  | false ↦ λ _. refl
] refl

-- ---- One more Seal

-- what a sealing is asked for
pub is_sealing_told : (key message : List ℕ) (s : Sealing) → is_sealing key message s ≡ true
    → (key ≡ s.0) × (message ≡ s.1)
is_sealing_told key message s is =
    let parts = both (bytes_eq key s.0) (bytes_eq message s.1) is in
    ((bytes_eq-Decides key s.0).0 parts.0, (bytes_eq-Decides message s.1).0 parts.1)

or_false : (a b : Bool) → (a || (b || false)) ≡ true → (a ≡ true) ⊎ (b ≡ true)
or_false true b is = inl refl
or_false false true is = inr refl
or_false false false is = absurd (cc)

pub sealed_more : (key message : List ℕ) (seals : List Sealing) (s : Sealing)
    → is_sealed key message (seals ++ s ∷ []) ≡ true
    → (is_sealed key message seals ≡ true) ⊎ ((key ≡ s.0) × (message ≡ s.1))
sealed_more key message seals s is =
    elim (or_false (is_sealed key message seals) (is_sealing key message s)
    (sym (list_any-append (is_sealing key message) seals (s ∷ [])) ∙ is)) [
      | inl before ↦ inl before
      | inr here ↦ inr (is_sealing_told key message s here)
    ]

-- a message that the new one isn't
last_false : (a k : Bool) → (a || ((k && false) || false)) ≡ a
last_false true k = refl
last_false false true = refl
last_false false false = refl

pub sealed_same : (key message : List ℕ) (seals : List Sealing) (s : Sealing) → message ≢ s.1
    → is_sealed key message (seals ++ s ∷ []) ≡ is_sealed key message seals
sealed_same key message seals s differs =
    list_any-append (is_sealing key message) seals (s ∷ [])
    ∙ rw (bytes_differ message s.1 differs) (last_false (is_sealed key message seals)
    (bytes_eq key s.0))

-- where the new one is the only one of its name, no name is used twice
pub once_more : (seals : List Sealing) (s : Sealing) → IsOnce seals
    → ((key message : List ℕ) → is_sealed key message seals ≡ true → before_ct message ≡ before_ct
    s.1 → (key ≡ s.0) × (message ≡ s.1))
    → IsOnce (seals ++ s ∷ [])
once_more seals s once alone key message other_key other one two same =
    elim (sealed_more key message seals s one) [
      | inl before ↦ elim (sealed_more other_key other seals s two) [
        | inl also ↦ once key message other_key other before also same
        | inr new ↦ let its = alone key message before (same ∙ ap before_ct new.1) in
            (its.0 ∙ sym new.0, its.1 ∙ sym new.1)
      ]
      | inr new ↦ elim (sealed_more other_key other seals s two) [
        | inl before ↦ let its = alone other_key other before (sym same ∙ ap before_ct new.1) in
            (new.0 ∙ sym its.0, new.1 ∙ sym its.1)
        | inr also ↦ (new.0 ∙ sym also.0, new.1 ∙ sym also.1)
      ]
    ]

-- ---- Names in messages

pub run_before : (boot install line version : ℕ) (ct : List ℕ)
    → before_ct (line_message (Run boot install line version) ct) ≡ line_message
    (Run boot install line version) []
unfolding line_message
run_before boot install line version ct = refl

pub register_before : (name : RegName) (ct : List ℕ)
    → before_ct (register_message name ct) ≡ register_message name []
unfolding register_message
register_before name ct = refl

run_front : (boot install line version : ℕ) (ct : List ℕ)
    → line_message (Run boot install line version) [] ++ ct ≡ line_message
    (Run boot install line version) ct
unfolding line_message
run_front boot install line version ct = refl

register_front : (name : RegName) (ct : List ℕ)
    → register_message name [] ++ ct ≡ register_message name ct
unfolding register_message
register_front name ct = refl

-- the first byte of a text
abbrev head : List ℕ → ℕ
head text = get_or text 0 0

run_head : (boot install line version : ℕ)
    → head (line_message (Run boot install line version) []) ≡ 2
unfolding line_message
run_head boot install line version = refl

register_head : (name : RegName) → head (register_message name []) ≡ 3
unfolding register_message
register_head name = refl

-- the kind of a message is its first byte
kind_of : (first : ℕ) (rest : List ℕ) → bytes_eq (take 1 (first ∷ rest)) (3 ∷ []) ≡ true → first ≡ 3
kind_of first rest is = ap head ((bytes_eq-Decides (take 1 (first ∷ rest)) (3 ∷ [])).0 is)

-- a message with what stands before the ciphertext of a run line is one of that line
pub run_of_before : (boot install line version : ℕ) (message : List ℕ)
    → before_ct message ≡ line_message (Run boot install line version) []
    → message ≡ line_message (Run boot install line version) (drop 29 message)
run_of_before boot install line version [] same =
    absurd (let h = ap head same ∙ run_head boot install line version in cc)
run_of_before boot install line version (first ∷ rest) same =
    elim (bytes_eq (take 1 (first ∷ rest)) (3 ∷ [])) as (λ b. bytes_eq (take 1 (first ∷ rest))
    (3 ∷ []) ≡ b
    → cond b (take 26 (first ∷ rest)) (take 29 (first ∷ rest)) ≡ line_message
    (Run boot install line version) []
    → (first ∷ rest) ≡ line_message (Run boot install line version) (drop 29 (first ∷ rest))) [
      | true ↦ λ is here. absurd (let h : first ≡ 2 = ap head here ∙ run_head boot install line
          version in let k = kind_of first rest is in omega arith)
      | false ↦ λ _ here. sym (take-append-drop 29 (first ∷ rest))
          ∙ ap (λ front. front ++ drop 29 (first ∷ rest)) here ∙ run_front boot install line version
          (drop 29 (first ∷ rest))
    ] refl same

-- and one with that of a register is one of that register
pub register_of_before : (name : RegName) (message : List ℕ)
    → before_ct message ≡ register_message name []
    → message ≡ register_message name (drop 26 message)
register_of_before name [] same = absurd (let h = ap head same ∙ register_head name in cc)
register_of_before name (first ∷ rest) same =
    elim (bytes_eq (take 1 (first ∷ rest)) (3 ∷ [])) as (λ b. bytes_eq (take 1 (first ∷ rest))
    (3 ∷ []) ≡ b
    → cond b (take 26 (first ∷ rest)) (take 29 (first ∷ rest)) ≡ register_message name []
    → (first ∷ rest) ≡ register_message name (drop 26 (first ∷ rest))) [
      | true ↦ λ _ here. sym (take-append-drop 26 (first ∷ rest))
          ∙ ap (λ front. front ++ drop 26 (first ∷ rest)) here ∙ register_front name
          (drop 26 (first ∷ rest))
      | false ↦ λ is here. absurd (let h : first ≡ 3 = ap head here ∙ register_head name in
          let k : bytes_eq (take 1 (first ∷ rest)) (3 ∷ []) ≡ true =
          (bytes_eq-Decides (take 1 (first ∷ rest)) (3 ∷ [])).1 (ap (λ x. x ∷ []) h) in cc)
    ] refl same
