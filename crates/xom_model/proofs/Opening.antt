-- A line whose tag was right has the bytes that its owner or the machine sealed: those of its
-- guest's program.
use Rattle.std.proofs.Common.{◌≡◌, ◌≢◌, ◌==◌, ◌&&◌, ◌||◌, cond, ℕ, ◌<◌, ◌^◌, Bool, List, [], ◌∷◌, ◌++◌, Some, None, length, refl, sym, ◌∙◌, ap, subst, arith, true, false}
use Rattle.std.specs.List.{filter, list_any}
use Rattle.std.specs.Str.{bytes_eq}
use Rattle.std.proofs.lemmas.List.Folds.{list_any-append}
use Rattle.std.proofs.lemmas.Bool.{eq-eqb}
use Rattle.std.proofs.lemmas.Slice.Eq.{bytes_eq-Decides}
use Rattle.xom_base.specs.declared.key.ImageId.{ImageId}
use Rattle.xom_base.specs.declared.key.Key256.{Key256}
use Rattle.xom_seal.specs.declared.keys.LineKeys.{LineKeys}
use Rattle.xom_seal.specs.declared.line.SealedLine.{SealedLine}
use Rattle.xom_seal.specs.declared.names.LineName.{LineName}
use Rattle.xom_seal.specs.declared.names.LineName.TheVariants.{Image, Run}
use Rattle.xom_seal.specs.Keys.{image_keys, run_keys}
use Rattle.xom_seal.specs.Messages.{envelope_message, line_message, names_run_line, version_of_message}
use Rattle.xom_seal.specs.Sealing.{line_masked, line_tag, unsealed_line}
use Rattle.xom_seal.proofs.MessageLaws.{line_messages_tell}
use Rattle.xom_seal.proofs.NamingLaws.{run_lines_are_told}
use Rattle.xom_seal.proofs.SealLaws.{lets_through, lines_open}
use Rattle.xom_owners.specs.declared.owner.Owner.{Owner}
use Rattle.xom_owners.specs.Owners.{owner_of}
use Rattle.xom_seal.specs.Envelopes.{contents_of}
use Rattle.image_sealer.specs.Sealing.{contents_for_owner as its_contents, line_of_image}
use Rattle.image_sealer.specs.Membership.{is_sealed, is_sealing}
use Rattle.journal_findings.specs.Findings.{sealed_by}
use Rattle.xom_model.specs.Honest.{Sealing}
use Rattle.xom_model.specs.Lines.{Who, is_image_at, keys_of, line_name_of, names_version, run_name, run_pair}
use Rattle.xom_model.specs.Holds.{Behind}

-- What the owners sealed: no run line, the envelope of an owner, and an image line with the
-- ciphertext of the owner of its id.
pub record OwnersTell (machine : Key256) (owners : List Owner) : Type 0 where
  pub image : (key : List ℕ) (id : ImageId) (line : ℕ) (ct : List ℕ) → length id.0 ≡ 16
      → line < 2 ^ 15
      → is_sealed key (line_message (Image id line) ct) (sealed_by machine owners) ≡ true
      → (owner : Owner) × (owner_of owners id ≡ Some owner) × (owner.id ≡ id) × (key ≡ owner.key.0)
      × (ct ≡ line_masked (Image owner.id line) (image_keys owner.key owner.id)
      (line_of_image owner.plain.bytes line))
  pub envelope : (envelope : List ℕ)
      → is_sealed machine.0 (envelope_message envelope) (sealed_by machine owners) ≡ true
      → (owner : Owner) × (owner_of owners owner.id ≡ Some owner)
      × (contents_of machine envelope ≡ its_contents owner) × (length owner.id.0 ≡ 16)
  pub run : (key : List ℕ) (boot install line version : ℕ) (ct : List ℕ)
      → is_sealed key (line_message (Run boot install line version) ct) (sealed_by machine owners)
      ≡ false

-- ---- Masks

some_same : (a b : List ℕ) → Some a ≡ Some b → a ≡ b
some_same a b is = cc

-- a mask taken twice gives the bytes back
pub masked_twice : (name : LineName) (keys : LineKeys) (plain : List ℕ) → length plain ≡ 32
    → line_masked name keys (line_masked name keys plain) ≡ plain
masked_twice name keys plain size =
    let ct = line_masked name keys plain in
    some_same (line_masked name keys ct) plain
    (sym (lets_through (line_tag name keys ct) (line_masked name keys ct)) ∙ lines_open name keys
    plain size)

-- what opens is the ciphertext, masked
pub unsealed_is : (name : LineName) (keys : LineKeys) (sealed : SealedLine) (bytes : List ℕ)
    → unsealed_line name keys sealed ≡ Some bytes → bytes ≡ line_masked name keys sealed.ct
unsealed_is name keys sealed bytes = by (bytes_eq sealed.tag (line_tag name keys sealed.ct))
    (line_masked name keys sealed.ct) bytes
  where
    by : (b : Bool) (masked bytes : List ℕ) → cond b (Some masked) None ≡ Some bytes
        → bytes ≡ masked
    by true masked bytes is = sym (some_same masked bytes is)
    by false masked bytes is = absurd (cc)

-- ---- Lists of sealings

both_true : (a b : Bool) → (a && b) ≡ true → (a ≡ true) × (b ≡ true)
both_true true b is = (refl, is)
both_true false b is = absurd (cc)

either_true : (a b : Bool) → a ≡ false → (a || b) ≡ true → b ≡ true
either_true a b none is = rw none at is

left_true : (a b : Bool) → b ≡ false → (a || b) ≡ true → a ≡ true
left_true true b none is = refl
left_true false b none is = absurd (cc)

-- what passes a test is among those that pass a weaker one
any_filtered_by : (p q : Sealing → Bool) (s : Sealing) (seals : List Sealing) (a b : Bool)
    → (p s ≡ true → q s ≡ true) → p s ≡ a → q s ≡ b
    → (list_any p seals ≡ true → list_any p (filter q seals) ≡ true) → list_any p (s ∷ seals) ≡ true
    → list_any p (cond b (s ∷ filter q seals) (filter q seals)) ≡ true
any_filtered_by p q s seals true true weaker pa qb rest is = rw pa refl
any_filtered_by p q s seals true false weaker pa qb rest is = absurd (cc (weaker pa, qb))
any_filtered_by p q s seals false true weaker pa qb rest is =
    rw pa (rest (either_true (p s) (list_any p seals) pa is))
any_filtered_by p q s seals false false weaker pa qb rest is =
    rest (either_true (p s) (list_any p seals) pa is)

pub any_filtered : (p q : Sealing → Bool) → ((s : Sealing) → p s ≡ true → q s ≡ true)
    → (seals : List Sealing) → list_any p seals ≡ true → list_any p (filter q seals) ≡ true
any_filtered p q weaker [] none = none
any_filtered p q weaker (s ∷ seals) is =
    any_filtered_by p q s seals (p s) (q s) (weaker s) refl refl (any_filtered p q weaker seals) is

one_only : (p : Sealing → Bool) (s : Sealing) → list_any p (s ∷ []) ≡ true → p s ≡ true
one_only p s is = left_true (p s) false refl is

key_same : (a b : Key256) → a.0 ≡ b.0 → a ≡ b
key_same a b is = ap (λ (k : List ℕ). let key : Key256 = record { 0 = k } in key) is

module _ (machine : Key256) (owners : List Owner) (tell : OwnersTell machine owners) (owner : Owner)
    (who : Who) (line version : ℕ) (seals : List Sealing) (plain ct : List ℕ)
    (whose : owner_of owners who.id ≡ Some owner) (ids : length who.id.0 ≡ 16)
    (boot_low : who.boot < 2 ^ 64) (install_low : who.install < 2 ^ 64) (low : line < 2 ^ 15)
    (version_low : version < 2 ^ 64)
    (some : version ≢ 0) (size : length plain ≡ 32) (behind : Behind owner who line version seals
    plain)
    (no_image : (key : List ℕ) (id : ImageId) (at : ℕ) (other : List ℕ)
    → is_sealed key (line_message (Image id at) other) seals ≡ false) where
  -- an image line
  module _ (was : is_sealed who.key.0 (line_message (Image who.id line) ct)
      (sealed_by machine owners ++ seals) ≡ true) (image : is_image_at who line version ≡ true) where
    by_owner : is_sealed who.key.0 (line_message (Image who.id line) ct) (sealed_by machine owners)
        ≡ true
    by_owner =
        left_true _ _ (no_image who.key.0 who.id line ct)
        (sym (list_any-append (is_sealing who.key.0 (line_message (Image who.id line) ct))
        (sealed_by machine owners) seals) ∙ was)

    told : (its : Owner) × (owner_of owners who.id ≡ Some its) × (its.id ≡ who.id)
        × (who.key.0 ≡ its.key.0) × (ct ≡ line_masked (Image its.id line) (image_keys its.key its.id)
        (line_of_image its.plain.bytes line))
    told = tell.image who.key.0 who.id line ct ids low by_owner

    its_owner : told.0 ≡ owner
    its_owner = cc (told.1, whose)

    its_ct : ct ≡ line_masked (Image who.id line) (image_keys who.key who.id) plain
    its_ct =
        told.4
        ∙ ap (λ id. line_masked (Image id line) (image_keys told.0.key id)
        (line_of_image told.0.plain.bytes line)) told.2
        ∙ ap (λ key. line_masked (Image who.id line) (image_keys key who.id)
        (line_of_image told.0.plain.bytes line)) (sym (key_same who.key told.0.key told.3))
        ∙ ap (λ (o : Owner). line_masked (Image who.id line) (image_keys who.key who.id)
        (line_of_image o.plain.bytes line)) its_owner
        ∙ ap (line_masked (Image who.id line) (image_keys who.key who.id))
        (sym (behind.owners image))

    pub image_plain : line_masked (Image who.id line) (image_keys who.key who.id) ct ≡ plain
    image_plain =
        ap (line_masked (Image who.id line) (image_keys who.key who.id)) its_ct
        ∙ masked_twice (Image who.id line) (image_keys who.key who.id) plain size

  -- a run line
  abbrev name : LineName
  name = run_name who line version

  abbrev keys : LineKeys
  keys = run_keys who.key who.boot who.install

  module _ (was : is_sealed keys.tag.0 (line_message name ct) (sealed_by machine owners ++ seals)
      ≡ true) (no_first : is_image_at who line version ≡ false) where
    by_machine : is_sealed keys.tag.0 (line_message name ct) seals ≡ true
    by_machine =
        either_true _ _ (tell.run keys.tag.0 who.boot who.install line version ct)
        (sym (list_any-append (is_sealing keys.tag.0 (line_message name ct))
        (sealed_by machine owners) seals) ∙ was)

    names_it : names_version who.install line version (keys.tag.0, line_message name ct) ≡ true
    names_it =
        rw (
          run_lines_are_told.run who.install line who.boot who.install line version ct install_low
              (omega arith) install_low (omega arith),
          eq-eqb who.install who.install refl,
          eq-eqb line line refl,
        )
        (eq-eqb (version_of_message (line_message name ct)) version (run_lines_are_told.version who.boot
        who.install line version ct version_low))

    weaker : (s : Sealing) → is_sealing keys.tag.0 (line_message name ct) s ≡ true
        → names_version who.install line version s ≡ true
    weaker s is =
        let same : line_message name ct ≡ s.1 = (bytes_eq-Decides (line_message name ct) s.1).0
        (both_true _ _ is).1 in
        subst (λ m. (names_run_line who.install line m && (version_of_message m == version)) ≡ true) same
        names_it

    among : list_any (is_sealing keys.tag.0 (line_message name ct)) (run_pair who line version plain
        ∷ []) ≡ true
    among =
        subst (λ l. list_any (is_sealing keys.tag.0 (line_message name ct)) l ≡ true)
        (behind.one some no_first) (any_filtered _ _ weaker seals by_machine)

    its_message : line_message name ct ≡ line_message name (line_masked name keys plain)
    its_message =
        (bytes_eq-Decides _ _).0
        (both_true _ _ (one_only (is_sealing keys.tag.0 (line_message name ct))
        (run_pair who line version plain) among)).1

    run_plain : line_masked name keys ct ≡ plain
    run_plain =
        ap (line_masked name keys) (line_messages_tell name name ct (line_masked name keys plain)
        (boot_low, install_low, omega arith, version_low) (
          boot_low,
          install_low,
          omega arith,
          version_low,
        ) its_message).1
        ∙ masked_twice name keys plain size

  -- either way
  pub opens_plain : is_sealed (keys_of who line version).tag.0
      (line_message (line_name_of who line version) ct) (sealed_by machine owners ++ seals) ≡ true
      → line_masked (line_name_of who line version) (keys_of who line version) ct ≡ plain
  opens_plain = elim (is_image_at who line version) as (λ b. is_image_at who line version ≡ b
      → is_sealed (cond b (image_keys who.key who.id) keys).tag.0
      (line_message (cond b (Image who.id line) name) ct) (sealed_by machine owners ++ seals)
      ≡ true
      → line_masked (cond b (Image who.id line) name) (cond b (image_keys who.key who.id) keys)
      ct ≡ plain) [
        | true ↦ λ image was. image_plain was image
        | false ↦ λ no_first was. run_plain was no_first
      ] refl
