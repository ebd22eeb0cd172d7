-- A journal that grows by what is no step, no install and no Seal.
use Rattle.std.proofs.Common.{◌≡◌, ◌^◌, inl, inr, ℕ, ◌<◌, ◌≤◌, List, [], ◌∷◌, ◌++◌, None, Some, length, map, refl, sym, ◌∙◌, ap, arith, append-nil}
use Rattle.std.proofs.lemmas.List.{append_assoc, length-append}
use Rattle.std.proofs.lemmas.List.Elements.{Contains-append_left, filter_map-append}
use Rattle.xom_base.specs.Entries.{step_in, steps_of}
use Rattle.xom_base.specs.declared.entry.Entry.{Entry}
use Rattle.xom_base.specs.declared.entry.Entry.TheVariants as entry
use Rattle.xom_base.specs.declared.key.ImageId.{ImageId}
use Rattle.xom_model.specs.Holds.{Installs, IsInstalled}
use Rattle.xom_versions.specs.Store.{NoCollision, hash_entry}
use Rattle.journal_findings.specs.Findings.{seal_in}
use Rattle.xom_model.specs.Honest.{IsBounded, IsHonest, NoForgery, Sealing, seals_of}
use Rattle.xom_model.proofs.Places.{IsInstalled-more}

-- a longer journal of the same steps and installs
pub record Goes (entries new : List Entry) : Type 0 where
  pub more : (added : List Entry) × (new ≡ entries ++ added)
  pub steps : (install : ℕ) → steps_of install new ≡ steps_of install entries
  pub installed : (install : ℕ) (id : ImageId) → IsInstalled new install id
      → IsInstalled entries install id

pub goes_none : (entries : List Entry) → Goes entries entries
goes_none entries = record {
  more = ([], sym (append-nil entries));
  steps = λ n. refl;
  installed =
      λ n id is. is;
}

pub goes_on : (a b c : List Entry) → Goes a b → Goes b c → Goes a c
goes_on a b c first then = record {
  more = (
    first.more.0 ++ then.more.0,
    then.more.1 ∙ ap (λ l. l ++ then.more.0) first.more.1
        ∙ append_assoc a first.more.0 then.more.0,
  );
  steps = λ n. then.steps n ∙ first.steps n;
  installed = λ n id is. first.installed n id (then.installed n id is);
}

-- an entry that is no step and installs nothing
pub record IsQuiet (e : Entry) : Type 0 where
  pub step : (n : ℕ) → step_in n e ≡ None
  pub install : (n : ℕ) (id : ImageId) → ¬ Installs e n id

pub goes_entry : (entries : List Entry) (e : Entry) → IsQuiet e → Goes entries (entries ++ e ∷ [])
goes_entry entries e quiet = record {
  more = (e ∷ [], refl);
  steps = λ n. filter_map-append (step_in n) entries (e ∷ []) ∙ rw (quiet.step n)
      (append-nil (steps_of n entries));
  installed = λ n id is. elim (IsInstalled-more entries e n id is) [
    | inl before ↦
        before
    | inr here ↦ absurd (quiet.install n id here)
  ];
}

pub quiet_hash : (text : List ℕ) → IsQuiet (hash_entry text)
quiet_hash text = record { step = λ n. refl; install = λ n id no. no }

-- hashes are quiet
pub goes_hashes : (entries : List Entry) (texts : List (List ℕ))
    → Goes entries (entries ++ map hash_entry texts)
goes_hashes entries [] =
    goes_on entries entries _ (goes_none entries)
    (record {
      more = ([], refl);
      steps = λ n. ap (steps_of n) (append-nil entries);
      installed =
          λ n id is. rw (append-nil entries) at is;
    })
goes_hashes entries (text ∷ texts) =
    let first = goes_entry entries (hash_entry text) (quiet_hash text) in
    let rest = goes_hashes (entries ++ hash_entry text ∷ []) texts in
    rw (append_assoc entries (hash_entry text ∷ []) (map hash_entry texts)) at
    (goes_on entries (entries ++ hash_entry text ∷ []) _ first rest)

-- ---- Seals

pub seals_none : (entries : List Entry) (e : Entry) → seal_in e ≡ None
    → seals_of (entries ++ e ∷ []) ≡ seals_of entries
seals_none entries e none =
    filter_map-append seal_in entries (e ∷ []) ∙ rw none (append-nil (seals_of entries))

pub seals_more : (entries : List Entry) (e : Entry) (s : Sealing) → seal_in e ≡ Some s
    → seals_of (entries ++ e ∷ []) ≡ seals_of entries ++ s ∷ []
seals_more entries e s is = filter_map-append seal_in entries (e ∷ []) ∙ rw is refl

no_seal : (texts : List (List ℕ)) → seals_of (map hash_entry texts) ≡ []
no_seal [] = refl
no_seal (text ∷ texts) = no_seal texts

pub seals_hashes : (entries : List Entry) (texts : List (List ℕ))
    → seals_of (entries ++ map hash_entry texts) ≡ seals_of entries
seals_hashes entries texts =
    filter_map-append seal_in entries (map hash_entry texts)
    ∙ ap (λ l. seals_of entries ++ l) (no_seal texts) ∙ append-nil (seals_of entries)

-- no more Seals than entries
pub few_seals : (entries : List Entry) → length (seals_of entries) ≤ length entries
few_seals [] = omega arith
few_seals (entry.Install a b c d e f ∷ entries) = omega (arith, few_seals entries)
few_seals (entry.Step a b ∷ entries) = omega (arith, few_seals entries)
few_seals (entry.Trap a b ∷ entries) = omega (arith, few_seals entries)
few_seals (entry.Seal a b ∷ entries) = omega (arith, few_seals entries)
few_seals (entry.Accept a b c ∷ entries) = omega (arith, few_seals entries)
few_seals (entry.Hash a b ∷ entries) = omega (arith, few_seals entries)
few_seals (entry.Stop a b ∷ entries) = omega (arith, few_seals entries)
few_seals (entry.Kill a ∷ entries) = omega (arith, few_seals entries)
few_seals (entry.Out a ∷ entries) = omega (arith, few_seals entries)

-- ---- What is honest is so up to each of its entries

-- The journal is honest, and as short as journals are.
pub record IsTrusted (sealed : List Sealing) (entries : List Entry) : Type 0 where
  pub honest : IsHonest sealed entries
  pub room : IsBounded entries

module _ (entries more : List Entry) where
  longer : (before : List Entry) (e : Entry) (behind : List Entry)
      → entries ≡ before ++ (e ∷ behind) → entries ++ more ≡ before ++ (e ∷ (behind ++ more))
  longer before e behind is = ap (λ l. l ++ more) is ∙ append_assoc before (e ∷ behind) more

  pub no_collision_before : NoCollision (entries ++ more) → NoCollision entries
  no_collision_before none text other digest has same =
      none text other digest (Contains-append_left entries more (entry.Hash text digest) has)
      (Contains-append_left entries more (entry.Hash other digest) same)

  pub no_forgery_before : (sealed : List Sealing) → NoForgery sealed (entries ++ more)
      → NoForgery sealed entries
  no_forgery_before sealed none before behind key message place is =
      none before (behind ++ more) key message place
      (longer before (entry.Accept key message place) behind is)

  pub honest_before : (sealed : List Sealing) → IsTrusted sealed (entries ++ more)
      → IsTrusted sealed entries
  honest_before sealed trusted = record {
    honest = record {
      forgery = no_forgery_before sealed trusted.honest.forgery;
      collision = no_collision_before trusted.honest.collision;
    };
    room = let room : length (entries ++ more) < 2 ^ 63 = trusted.room in let all =
        length-append entries more in omega arith;
  }
