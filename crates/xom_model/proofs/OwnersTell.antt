-- What the owners sealed tells whose line a message is.
use Rattle.std.proofs.Common.{◌≡◌, ◌⊎◌, inl, inr, ◌&&◌, ◌||◌, cond, ℕ, zero, suc, ◌+◌, ◌<◌, ◌≤◌, ◌^◌, Bool, List, [], ◌∷◌, ◌-◌, Some, None, length, take, drop, map, refl, sym, ◌∙◌, ap, arith, true, false}
use Rattle.std.specs.Prelude.{slice_get}
use Rattle.std.specs.List.{list_any, range_with_len}
use Rattle.std.specs.Str.{bytes_eq}
use Rattle.std.proofs.lemmas.List.Folds.{list_any-append}
use Rattle.std.proofs.lemmas.Slice.Eq.{bytes_eq-Decides}
use Rattle.xom_base.specs.declared.key.ImageId.{ImageId}
use Rattle.xom_base.specs.declared.key.Key256.{Key256}
use Rattle.xom_seal.specs.declared.names.LineName.{LineName}
use Rattle.xom_seal.specs.declared.names.LineName.TheVariants.{Image, Run}
use Rattle.xom_seal.specs.Keys.{image_keys}
use Rattle.xom_seal.specs.declared.names.RegName.{RegName}
use Rattle.xom_seal.specs.Messages.{envelope_message, line_message, register_message}
use Rattle.xom_seal.specs.Sealing.{line_masked}
use Rattle.xom_seal.proofs.MessageLaws.{envelope_messages_tell, kinds_differ, line_messages_tell}
use Rattle.xom_seal.specs.declared.envelope.Unwrapped.{Unwrapped}
use Rattle.xom_seal.specs.Envelopes.{contents_of, envelope_contents, envelope_tag, key_masked, tag_in, wrapped_key_of}
use Rattle.xom_seal.specs.Laws.{IsUnwrapped}
use Rattle.xom_seal.proofs.EnvelopeLaws.{envelopes_open}
use Rattle.std.specs.Int.{w32, from_be_bytes}
use Rattle.std.proofs.lemmas.List.{drop-take, take-take}
use Rattle.xom_owners.specs.declared.owner.Owner.{Owner}
use Rattle.xom_owners.specs.Owners.{owner_of}
use Rattle.image_sealer.specs.Sealing.{contents_for_owner as its_contents, envelope_of, line_count, line_of_image, line_sealing_of, sealed_line_of, sealing_of}
use Rattle.image_sealer.specs.Membership.{is_sealed, is_sealing}
use Rattle.journal_findings.specs.Findings.{sealed_by}
use Rattle.xom_model.specs.Honest.{Sealing}
use Rattle.xom_model.specs.Laws.{AreOwners}
use Rattle.xom_model.proofs.Opening.{OwnersTell}
use Rattle.xom_model.proofs.SealKept.{bytes_differ}

both : (a b : Bool) → (a && b) ≡ true → (a ≡ true) × (b ≡ true)
both true b is = (refl, is)
both false b is = absurd (cc)

-- the first of two that passes
pub either : (a b : Bool) → (a || b) ≡ true → (a ≡ true) ⊎ (b ≡ true)
either true b is = inl refl
either false b is = inr is

no_second : (a b : Bool) → b ≡ false → (a && b) ≡ false
no_second true b none = none
no_second false b none = refl

neither : (a b : Bool) → a ≡ false → b ≡ false → (a || b) ≡ false
neither a b first second = rw first second

module _ (machine : Key256) where
  -- one owner's sealing has a sealing that passes a test: its envelope's, or a line's
  pub which : (p : Sealing → Bool) (owner : Owner) → list_any p (sealing_of machine owner) ≡ true
      → (p (machine.0, envelope_message (envelope_of machine owner)) ≡ true)
      ⊎ (list_any p (map (line_sealing_of owner)
      (range_with_len 0 (line_count owner.plain.bytes))) ≡ true)
  unfolding sealing_of
  which p owner is = either _ _ is

  none_passes : (p : Sealing → Bool) (owner : Owner)
      → p (machine.0, envelope_message (envelope_of machine owner)) ≡ false
      → ((i : ℕ) → p (line_sealing_of owner i) ≡ false)
      → list_any p (sealing_of machine owner) ≡ false
  unfolding sealing_of
  none_passes p owner first lines =
      neither _ _ first (none_of_lines (range_with_len 0 (line_count owner.plain.bytes)))
    where
      none_of_lines : (numbers : List ℕ) → list_any p (map (line_sealing_of owner) numbers) ≡ false
      none_of_lines [] = refl
      none_of_lines (i ∷ numbers) = neither _ _ (lines i) (none_of_lines numbers)

-- a line of so many lines
some_line : (p : Sealing → Bool) (owner : Owner) (first count : ℕ)
    → list_any p (map (line_sealing_of owner) (range_with_len first count)) ≡ true
    → (i : ℕ) × (i < first + count) × (p (line_sealing_of owner i) ≡ true)
some_line p owner first zero is = absurd (cc)
some_line p owner first (suc count) is = elim (either _ _ is) [
  | inl here ↦ (first, omega arith, here)
  | inr later ↦ let rest = some_line p owner (first + 1) count later in
      (rest.0, (let low : rest.0 < first + 1 + count = rest.1 in omega arith), rest.2)
]

-- an owner of a list
pub some_owner : (p : Sealing → Bool) (machine : Key256) (owners : List Owner)
    → list_any p (sealed_by machine owners) ≡ true
    → (i : ℕ) × (owner : Owner) × (slice_get owners i ≡ Some owner)
    × (list_any p (sealing_of machine owner) ≡ true)
some_owner p machine [] is = absurd (cc)
some_owner p machine (owner ∷ owners) is =
    elim (either _ _ (sym (list_any-append p (sealing_of machine owner) (sealed_by machine owners))
    ∙ is)) [
      | inl here ↦ (0, owner, refl, here)
      | inr later ↦ let rest = some_owner p machine owners later in (suc rest.0, rest.1, rest.2, rest.3)
    ]

none_sealed : (p : Sealing → Bool) (machine : Key256) (owners : List Owner)
    → ((owner : Owner) → list_any p (sealing_of machine owner) ≡ false)
    → list_any p (sealed_by machine owners) ≡ false
none_sealed p machine [] none = refl
none_sealed p machine (owner ∷ owners) none =
    list_any-append p (sealing_of machine owner) (sealed_by machine owners)
    ∙ neither _ _ (none owner) (none_sealed p machine owners none)

abbrev image_id : LineName → ImageId
image_id (Image id line) = id
image_id (Run boot install line version) = record { 0 = [] }

abbrev image_number : LineName → ℕ
image_number (Image id line) = line
image_number (Run boot install line version) = 0

-- ---- What an envelope says stands in its first 56 bytes

part_56 : (a : List ℕ) (n k : ℕ) → n + k ≤ 56 → take k (drop n a) ≡ take k (drop n (take 56 a))
part_56 a n k fits =
    let split : 56 ≡ n + (56 - n) = omega arith in
    sym (ap (λ m. take k (drop n (take m a))) split ∙ ap (take k) (drop-take n (56 - n) a)
    ∙ take-take k (56 - n) (drop n a) (omega arith))

contents_56 : (machine : Key256) (a : List ℕ)
    → contents_of machine a ≡ contents_of machine (take 56 a)
unfolding contents_of
contents_56 machine a =
    let head = sym (take-take 16 56 a (omega arith)) in
    let make : List ℕ → List ℕ → List ℕ → List ℕ → Unwrapped = λ id entry lines key. record {
      id = record { 0 = id };
      entry = from_be_bytes w32 entry;
      lines = from_be_bytes w32 lines;
      key = record { 0 = key_masked machine id key };
    } in
    ap (λ id. make id (take 4 (drop 16 a)) (take 4 (drop 20 a)) (take 32 (drop 24 a))) head
    ∙ ap (λ e. make (take 16 (take 56 a)) e (take 4 (drop 20 a)) (take 32 (drop 24 a)))
    (part_56 a 16 4 (omega arith))
    ∙ ap (λ l. make (take 16 (take 56 a)) (take 4 (drop 16 (take 56 a))) l (take 32 (drop 24 a)))
    (part_56 a 20 4 (omega arith))
    ∙ ap (λ k. make (take 16 (take 56 a)) (take 4 (drop 16 (take 56 a)))
    (take 4 (drop 20 (take 56 a))) k) (part_56 a 24 32 (omega arith))

contents_same : (machine : Key256) (a b : List ℕ) → take 56 a ≡ take 56 b
    → contents_of machine a ≡ contents_of machine b
contents_same machine a b same =
    contents_56 machine a ∙ ap (contents_of machine) same ∙ sym (contents_56 machine b)

unwrapped_is : (b : Bool) (found plain : Unwrapped) → cond b (Some found) None ≡ Some plain
    → found ≡ plain
unwrapped_is true found plain is = cc
unwrapped_is false found plain is = absurd (cc)

pub unwrapped_contents : (machine : Key256) (envelope : List ℕ) (plain : Unwrapped)
    → envelope_contents machine envelope ≡ Some plain → contents_of machine envelope ≡ plain
unwrapped_contents machine envelope plain is =
    unwrapped_is (bytes_eq (tag_in envelope) (envelope_tag machine envelope))
    (contents_of machine envelope) plain is

wrapped_contents : (machine : Key256) (plain : Unwrapped) → IsUnwrapped plain
    → contents_of machine (wrapped_key_of machine plain) ≡ plain
wrapped_contents machine plain whole =
    unwrapped_contents machine (wrapped_key_of machine plain) plain (envelopes_open machine plain whole)

-- no owner seals a register
pub no_register : (machine : Key256) (owners : List Owner) (key : List ℕ) (name : RegName)
    (ct : List ℕ)
    → is_sealed key (register_message name ct) (sealed_by machine owners) ≡ false
unfolding sealed_line_of
no_register machine owners key name ct =
    none_sealed _ machine owners (λ owner. none_passes machine _ owner
    (no_second _ _ (bytes_differ _ _ (kinds_differ.register_envelope name ct
    (envelope_of machine owner))))
    (λ i. no_second _ _ (bytes_differ _ _ (λ same. kinds_differ.line_register (Image owner.id i)
    name _ ct (sym same)))))

module _ (machine : Key256) (owners : List Owner) (are : AreOwners owners) where
  run_none : (key : List ℕ) (boot install line version : ℕ) (ct : List ℕ)
      → is_sealed key (line_message (Run boot install line version) ct) (sealed_by machine owners)
      ≡ false
  unfolding sealed_line_of
  run_none key boot install line version ct =
      none_sealed _ machine owners (λ owner. none_passes machine _ owner
      (no_second _ _ (bytes_differ _ _ (kinds_differ.line_envelope (Run boot install line version)
      ct (envelope_of machine owner))))
      (λ i. no_second _ _ (bytes_differ _ _ (λ same. kinds_differ.image_run owner.id i boot install
      line version _ ct (sym same)))))

  image_one : (key : List ℕ) (id : ImageId) (line : ℕ) (ct : List ℕ) → length id.0 ≡ 16
      → line < 2 ^ 15
      → is_sealed key (line_message (Image id line) ct) (sealed_by machine owners) ≡ true
      → (owner : Owner) × (owner_of owners id ≡ Some owner) × (owner.id ≡ id) × (key ≡ owner.key.0)
      × (ct ≡ line_masked (Image owner.id line) (image_keys owner.key owner.id)
      (line_of_image owner.plain.bytes line))
  unfolding sealed_line_of
  image_one key id line ct size low is =
      let p = is_sealing key (line_message (Image id line) ct) in
      let whose = some_owner p machine owners is in
      let owner = whose.1 in
      elim (which machine p owner whose.3) [
        | inl envelope ↦
            let text = envelope_message (envelope_of machine owner) in
            absurd (kinds_differ.line_envelope (Image id line) ct (envelope_of machine owner)
            ((bytes_eq-Decides (line_message (Image id line) ct) text).0
            (both (bytes_eq key machine.0) (bytes_eq (line_message (Image id line) ct) text)
            envelope).1))
        | inr lines ↦
            let one = some_line p owner 0 (line_count owner.plain.bytes) lines in
            let passed = both (bytes_eq key owner.key.0) (bytes_eq (line_message (Image id line) ct)
            (line_sealing_of owner one.0).1) one.2 in
            let key_is : key ≡ owner.key.0 = (bytes_eq-Decides key owner.key.0).0 passed.0 in
            let message_is = (bytes_eq-Decides (line_message (Image id line) ct)
            (line_sealing_of owner one.0).1).0 passed.1 in
            let small : length owner.plain.bytes ≤ 2 ^ 20 = owner.plain.fits in
            let count : one.0 < 0 + line_count owner.plain.bytes = one.1 in
            let told = line_messages_tell (Image id line) (Image owner.id one.0) ct
            ((sealed_line_of owner one.0).ct) (size, omega arith)
            ((are.whole whose.0 owner whose.2).id, omega arith) message_is in
            let id_is : id ≡ owner.id = ap image_id told.0 in
            let line_is : line ≡ one.0 = ap image_number told.0 in (
              owner,
              ap (owner_of owners) id_is ∙ are.distinct owner whose.0 whose.2,
              sym id_is,
              key_is,
              told.1 ∙ ap (λ n. line_masked (Image owner.id n) (image_keys owner.key owner.id)
                  (line_of_image owner.plain.bytes n)) (sym line_is),
            )
      ]

  -- ---- Envelopes

  envelope_one : (envelope : List ℕ)
      → is_sealed machine.0 (envelope_message envelope) (sealed_by machine owners) ≡ true
      → (owner : Owner) × (owner_of owners owner.id ≡ Some owner)
      × (contents_of machine envelope ≡ its_contents owner) × (length owner.id.0 ≡ 16)
  unfolding sealed_line_of envelope_of
  envelope_one envelope is =
      let p = is_sealing machine.0 (envelope_message envelope) in
      let whose = some_owner p machine owners is in
      let owner = whose.1 in
      let its = are.whole whose.0 owner whose.2 in
      let small : length owner.plain.bytes ≤ 2 ^ 20 = owner.plain.fits in
      let low : owner.plain.entry < 2 ^ 20 = owner.plain.private in
      elim (which machine p owner whose.3) [
        | inl same ↦
            let text = envelope_message (envelope_of machine owner) in
            let messages = (bytes_eq-Decides (envelope_message envelope) text).0
            (both (bytes_eq machine.0 machine.0) (bytes_eq (envelope_message envelope) text)
            same).1 in (
              owner,
              are.distinct owner whose.0 whose.2,
              contents_same machine envelope (envelope_of machine owner)
                  (envelope_messages_tell envelope (envelope_of machine owner) messages)
                  ∙ wrapped_contents machine (its_contents owner)
                  (record {
                    id = its.id;
                    entry = omega arith;
                    lines = omega arith;
                    key =
                        its.key;
                  }),
              its.id,
            )
        | inr lines ↦
            let one = some_line p owner 0 (line_count owner.plain.bytes) lines in
            let text = (line_sealing_of owner one.0).1 in
            absurd (kinds_differ.line_envelope (Image owner.id one.0) _ envelope
            (sym ((bytes_eq-Decides (envelope_message envelope) text).0
            (both (bytes_eq machine.0 owner.key.0) (bytes_eq (envelope_message envelope) text)
            one.2).1)))
      ]

pub owners_tell : (owners : List Owner) → AreOwners owners → (machine : Key256)
    → OwnersTell machine owners
owners_tell owners are machine = record {
  image = image_one machine owners are;
  envelope =
      envelope_one machine owners are;
  run = run_none machine owners are;
}
