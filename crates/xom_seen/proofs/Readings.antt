-- What is read off entries: of one part behind another, of a line's Seal, and of a Stop.
use Rattle.std.proofs.Common.{◌≡◌, inl, inr, ℕ, ◌<◌, ◌^◌, ◌==◌, ◌&&◌, Bool, true, false, List, [], ◌∷◌, ◌++◌, length, map, drop, take, Some, refl, sym, ◌∙◌, ap, subst, arith}
use Rattle.std.specs.Prelude.{cond, position}
use Rattle.std.specs.Int.{w32, from_be_bytes, to_be_bytes}
use Rattle.std.proofs.Math.Seq.{drop-append_seam}
use Rattle.std.proofs.lemmas.List.Elements.{filter_map-append}
use Rattle.std.proofs.lemmas.Bool.{eq-eqb}
use Rattle.std.proofs.lemmas.Bool.Decides.{eqb_tells}
use Rattle.std.proofs.lemmas.Nat.{from_be_bytes-to_be_bytes_4}
use Rattle.xom_base.specs.declared.entry.Entry.{Entry}
use Rattle.xom_base.specs.declared.entry.Entry.TheVariants as entry
use Rattle.xom_base.specs.declared.key.ImageId.{ImageId}
use Rattle.keyed_mac.specs.Hmac.{hmac_sha256}
use Rattle.xom_seal.specs.Messages.{line_message}
use Rattle.xom_seal.specs.Readers.{kind_of_text, register_kind}
use Rattle.xom_seal.specs.declared.names.LineName.{LineName}
use Rattle.xom_seal.specs.declared.names.LineName.TheVariants.{Image, Run}
use Rattle.line_cache.proofs.Search.{position_at}
use Rattle.session_table.specs.declared.session.Session.{Session}
use Rattle.session_table.specs.Sessions.{IsLiveIn, free, is_live, session_at}
use Rattle.xom_versions.specs.Store.{hash_entry}
use Rattle.xom_model.specs.Touched.{slot_or_none}
use Rattle.xom_seen.specs.Emission.{LineSealed, Signal, SlotLine, ct_of_line_message, line_named, message_from_line, signal_of_entry, signal_of_line, signal_of_register, signals_of_entries, slot_of_install}
use Rattle.xom_seen.specs.SealOwners.{IsLineOf}

-- ---- The messages of lines

from_line-image : (s : Session) (id : ImageId) (line : ℕ) (ct : List ℕ) → id ≡ s.id
    → message_from_line s (line_message (Image id line) ct) ≡ to_be_bytes w32 line ++ ct
unfolding line_message
from_line-image s id line ct same =
    subst (λ (other : ImageId). drop (length other.0) (id.0 ++ (to_be_bytes w32 line ++ ct))
    ≡ to_be_bytes w32 line ++ ct) same (drop-append_seam id.0 (to_be_bytes w32 line ++ ct))

-- behind the number stands the ciphertext
pub ct-told : (s : Session) (line : ℕ) (name : LineName) (ct : List ℕ) → IsLineOf s line name
    → ct_of_line_message s (line_message name ct) ≡ ct
unfolding line_message
ct-told s line (Image id at) ct is = ap (λ text. drop 4 text) (from_line-image s id at ct is.0)
ct-told s line (Run boot install at version) ct is = refl

-- and the number is that of the line
pub number-told : (s : Session) (line : ℕ) (name : LineName) (ct : List ℕ) → IsLineOf s line name
    → line < 2 ^ 32
    → from_be_bytes w32 (take 4 (message_from_line s (line_message name ct))) ≡ line
unfolding line_message
number-told s line (Image id at) ct is below =
    ap (λ text. from_be_bytes w32 (take 4 text)) (from_line-image s id at ct is.0)
    ∙ ap (λ n. from_be_bytes w32 (to_be_bytes w32 n)) is.1
    ∙ from_be_bytes-to_be_bytes_4 line below
number-told s line (Run boot install at version) ct is below =
    ap (λ n. from_be_bytes w32 (to_be_bytes w32 n)) is.1 ∙ from_be_bytes-to_be_bytes_4 line below

kind-line : (name : LineName) (ct : List ℕ)
    → (kind_of_text (line_message name ct) == register_kind) ≡ false
unfolding line_message
kind-line (Image id line) ct = refl
kind-line (Run boot install line version) ct = refl

-- ---- Parts, one behind the other

module _ (sessions : List Session) (slot : ℕ) (ready : Bool) (sealed : List ℕ → SlotLine) where
  -- the entries are read as these signals
  abbrev pub Reads : List Entry → List Signal → Type 0
  Reads entries told = signals_of_entries sessions slot ready sealed entries ≡ told

  pub read-append : (xs ys : List Entry) (one two : List Signal) → Reads xs one → Reads ys two
      → Reads (xs ++ ys) (one ++ two)
  read-append xs ys one two first second =
      filter_map-append (signal_of_entry sessions slot ready sealed) xs ys
      ∙ ap (λ told. told ++ signals_of_entries sessions slot ready sealed ys) first
      ∙ ap (λ told. one ++ told) second

  pub read-hashes : (texts : List (List ℕ)) → Reads (map hash_entry texts) []
  read-hashes [] = refl
  read-hashes (text ∷ texts) = read-hashes texts

  -- what came behind entries is read off the rest
  pub read-behind : (before after added : List Entry) (told : List Signal)
      → after ≡ before ++ added → Reads added told → Reads (drop (length before) after) told
  read-behind before after added told is reads =
      ap (λ es. signals_of_entries sessions slot ready sealed (drop (length before) es)) is
      ∙ ap (λ es. signals_of_entries sessions slot ready sealed es) (drop-append_seam before added)
      ∙ reads

  -- a Seal of the line that is known to be sealed
  pub read-line : (key : List ℕ) (name : LineName) (ct : List ℕ) (at : SlotLine)
      → sealed (line_message name ct) ≡ at → IsLineOf (session_at sessions at.slot) at.line name
      → Reads (entry.Seal key (line_message name ct) ∷ [])
      (LineSealed at.slot at.line ct (hmac_sha256 key (line_message name ct)) ∷ [])
  read-line key name ct at its is =
      let message = line_message name ct in
      ap (λ (b : Bool). let told : Signal = cond b (signal_of_register sessions slot ready sealed key
      message) (signal_of_line sessions slot ready sealed key message (sealed message)) in told ∷ [])
      (kind-line name ct)
      ∙ ap (λ other. let told : Signal = signal_of_line sessions slot ready sealed key message
      other in told ∷ []) its
      ∙ ap (λ text. LineSealed at.slot at.line text (hmac_sha256 key message) ∷ [])
      (ct-told (session_at sessions at.slot) at.line name ct is)

-- an operation on a slot reads its lines off their messages
pub named-told : (sessions : List Session) (slot line : ℕ) (name : LineName) (ct : List ℕ)
    → IsLineOf (session_at sessions slot) line name → line < 2 ^ 32
    → line_named sessions slot (line_message name ct) ≡ record { slot = slot; line = line }
named-told sessions slot line name ct is below =
    ap (λ n. let its : SlotLine = record { slot = slot; line = n } in its)
    (number-told (session_at sessions slot) line name ct is below)

-- ---- The slot of an install

-- live slots have different install numbers
abbrev pub AreApart : List Session → Type 0
AreApart sessions = (slot other : ℕ) → IsLiveIn sessions slot → IsLiveIn sessions other
    → (session_at sessions slot).install ≡ (session_at sessions other).install → slot ≡ other

module _ (sessions : List Session) (k install : ℕ) (apart : AreApart sessions)
    (within : k < length sessions) (live : IsLiveIn sessions k)
    (is : (session_at sessions k).install ≡ install) where
  abbrev has_install : Session → Bool
  has_install s = is_live s.state && (s.install == install)

  both-true : (a b : Bool) → (a && b) ≡ true → (a ≡ true) × (b ≡ true)
  both-true true true is_true = (refl, refl)
  both-true true false is_true = absurd (cc)
  both-true false b is_true = absurd (cc)

  passes : has_install (session_at sessions k) ≡ true
  passes = rw live (eq-eqb (session_at sessions k).install install is)

  fails : (j : ℕ) → j < k → has_install (session_at sessions j) ≡ false
  fails j below = each (has_install (session_at sessions j)) refl
    where
      each : (b : Bool) → has_install (session_at sessions j) ≡ b
          → has_install (session_at sessions j) ≡ false
      each false its = its
      each true its =
          let both = both-true (is_live (session_at sessions j).state)
          ((session_at sessions j).install == install) its in
          elim (eqb_tells (session_at sessions j).install install) [
            | inl same ↦ absurd (let one : j ≡ k = apart j k both.0 live (same.1 ∙ sym is) in
                omega arith)
            | inr other ↦ absurd (let differs = other.0 in let equal = both.1 in cc)
          ]

  found : position has_install sessions ≡ Some k
  found = position_at has_install sessions k free within passes fails

  -- it is found by its number
  pub slot_of_install-is : slot_of_install sessions install ≡ k
  slot_of_install-is = ap slot_or_none found
