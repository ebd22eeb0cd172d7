-- Which install a message names, and what entries behind a journal's add to it.
use Rattle.std.proofs.Common.{◌≡◌, ◌⊎◌, inl, inr, ℕ, ◌<◌, ◌^◌, ◌==◌, true, false, List, [], ◌∷◌, ◌++◌, map, refl, sym, ◌∙◌}
use Rattle.std.proofs.lemmas.Bool.{cond_both, eqb-true}
use Rattle.xom_base.specs.declared.entry.Entry.{Entry}
use Rattle.xom_base.specs.declared.key.ImageId.{ImageId}
use Rattle.xom_seal.specs.declared.names.LineName.{LineName}
use Rattle.xom_seal.specs.declared.names.LineName.TheVariants.{Image, Run}
use Rattle.xom_seal.specs.declared.names.RegName.{RegName}
use Rattle.xom_seal.specs.Messages.{envelope_message, line_message, register_message}
use Rattle.xom_seal.proofs.Fields.{same_test_8}
use Rattle.xom_versions.specs.Store.{hash_entry}
use Rattle.xom_model.specs.Lines.{Who, is_image_at, message_as, run_name}
use Rattle.xom_model.specs.Named.{HasOne, UsesIt, names_install}
use Rattle.xom_model.specs.Stops.{InstallsAreTold, StopsAreLast, StopsIt}

line_told : (n boot install line version : ℕ) (ct : List ℕ) → n < 2 ^ 64 → install < 2 ^ 64
    → names_install n (line_message (Run boot install line version) ct) ≡ (install == n)
unfolding names_install line_message
line_told n boot install line version ct low few = same_test_8 install n few low

register_told : (n : ℕ) (name : RegName) (ct : List ℕ) → n < 2 ^ 64 → name.install < 2 ^ 64
    → names_install n (register_message name ct) ≡ (name.install == n)
unfolding names_install register_message
register_told n name ct low few = same_test_8 name.install n few low

image_told : (n line : ℕ) (id : ImageId) (ct : List ℕ)
    → names_install n (line_message (Image id line) ct) ≡ false
unfolding names_install line_message
image_told n line id ct = refl

envelope_told : (n : ℕ) (envelope : List ℕ) → names_install n (envelope_message envelope) ≡ false
unfolding names_install envelope_message
envelope_told n envelope = refl

pub installs_are_told : InstallsAreTold
installs_are_told = record {
  line = line_told;
  register = register_told;
  image =
      image_told;
  envelope = envelope_told;
}

-- what names the install, among the messages of a guest's lines, is its own
pub names-line : (n : ℕ) (who : Who) (line version : ℕ) (ct : List ℕ) → n < 2 ^ 64
    → who.install < 2 ^ 64 → names_install n (message_as who line version ct) ≡ true
    → who.install ≡ n
names-line n who line version ct low few =
    cond_both (is_image_at who line version) (Image who.id line) (run_name who line version)
    (λ (name : LineName). names_install n (line_message name ct) ≡ true → who.install ≡ n)
    (λ _ names. absurd (let none = image_told n line who.id ct in cc))
    (λ _ names. eqb-true who.install n
    (sym (line_told n who.boot who.install line version ct low few) ∙ names))

pub names-register : (n : ℕ) (name : RegName) (ct : List ℕ) → n < 2 ^ 64 → name.install < 2 ^ 64
    → names_install n (register_message name ct) ≡ true → name.install ≡ n
names-register n name ct low few names =
    eqb-true name.install n (sym (register_told n name ct low few) ∙ names)

-- ---- One of the entries

pub HasOne-either : (Is : Entry → Type 0) (entries more : List Entry) → HasOne Is (entries ++ more)
    → HasOne Is entries ⊎ HasOne Is more
HasOne-either Is [] more has = inr has
HasOne-either Is (first ∷ entries) more has = elim has [
  | inl here ↦ inl (inl here)
  | inr later ↦ elim (HasOne-either Is entries more later) [
    | inl before ↦
        inl (inr before)
    | inr behind ↦ inr behind
  ]
]

pub HasOne-before : (Is : Entry → Type 0) (entries more : List Entry) → HasOne Is entries
    → HasOne Is (entries ++ more)
HasOne-before Is [] more has = absurd has
HasOne-before Is (first ∷ entries) more has = elim has [
  | inl here ↦ inl here
  | inr later ↦
      inr (HasOne-before Is entries more later)
]

pub HasOne-behind : (Is : Entry → Type 0) (entries more : List Entry) → HasOne Is more
    → HasOne Is (entries ++ more)
HasOne-behind Is [] more has = has
HasOne-behind Is (first ∷ entries) more has = inr (HasOne-behind Is entries more has)

-- the only entry
pub HasOne-only : (Is : Entry → Type 0) (e : Entry) → HasOne Is (e ∷ []) → Is e
HasOne-only Is e has = elim has [ inl here ↦ here | inr nowhere ↦ absurd nowhere ]

-- no Hash is such
pub HasOne-hashes : (Is : Entry → Type 0) → ((text : List ℕ) → ¬ Is (hash_entry text))
    → (texts : List (List ℕ)) → ¬ HasOne Is (map hash_entry texts)
HasOne-hashes Is never [] has = has
HasOne-hashes Is never (text ∷ texts) has = elim has [
  | inl here ↦ never text here
  | inr later ↦
      HasOne-hashes Is never texts later
]

-- ---- Stops that are last

-- entries that use no install that was stopped before
pub last_more : (entries more : List Entry) → StopsAreLast entries → StopsAreLast more
    → ((n : ℕ) → HasOne (StopsIt n) entries → ¬ HasOne (UsesIt n) more)
    → StopsAreLast (entries ++ more)
last_more [] more last then free_to = then
last_more (first ∷ entries) more last then free_to = (
  λ n stops used. elim (HasOne-either (UsesIt n) entries more used) [
    | inl before ↦
        last.0 n stops before
    | inr behind ↦ free_to n (inl stops) behind
  ],
  last_more entries more last.1 then (λ n was. free_to n (inr was)),
)

pub last_one : (e : Entry) → StopsAreLast (e ∷ [])
last_one e = (λ n stops nowhere. nowhere, tt)

pub last_hashes : (texts : List (List ℕ)) → StopsAreLast (map hash_entry texts)
last_hashes [] = tt
last_hashes (text ∷ texts) = (λ n no_stop used. no_stop, last_hashes texts)
