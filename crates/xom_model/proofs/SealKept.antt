-- A line that is sealed under its next version: the one Seal of that name, behind the line from
-- then on.
use Rattle.std.proofs.Common.{◌≡◌, ◌≢◌, inl, inr, ◌==◌, ◌&&◌, ◌||◌, cond, ℕ, ◌+◌, ◌%◌, ◌<◌, ◌≤◌, ◌^◌, Bool, List, [], ◌∷◌, ◌++◌, Some, Ok, length, map, set, refl, sym, ◌∙◌, ap, subst, arith, true, false, length-set}
use Rattle.std.specs.Prelude.{nat_lt}
use Rattle.std.specs.Str.{bytes_eq}
use Rattle.std.proofs.lemmas.List.{get_or-set_same, get_or-set_other, length-append}
use Rattle.std.proofs.lemmas.List.Folds.{list_any-append}
use Rattle.std.proofs.lemmas.Bool.Decides.{eqb_tells}
use Rattle.xom_base.specs.declared.entry.Entry.{Entry}
use Rattle.xom_base.specs.declared.key.ImageId.{ImageId}
use Rattle.xom_seal.specs.declared.names.LineName.TheVariants.{Image}
use Rattle.xom_seal.specs.Messages.{envelope_message, line_message, register_message}
use Rattle.xom_seal.proofs.MessageLaws.{kinds_differ}
use Rattle.xom_owners.specs.declared.owner.Owner.{Owner}
use Rattle.xom_versions.specs.Store.{NoCollision, Store, hash_entry, no_store}
use Rattle.image_sealer.specs.Membership.{is_sealed, is_sealing}
use Rattle.journal_findings.specs.Findings.{seal_in}
use Rattle.xom_model.specs.Honest.{Sealing, seals_of}
use Rattle.xom_versions.specs.Versions.{VersionLaw, Versions, start_version, with_version}
use Rattle.xom_model.specs.Versions.{StandsFor}
use Rattle.line_cache.specs.declared.way.Way.{Way}
use Rattle.line_cache.specs.Ways.{way_at}
use Rattle.xom_model.specs.State.{CoreState, session_of, store_of}
use Rattle.xom_model.specs.Lines.{Who, is_image_at, line_seals, run_name, run_pair, seal_entry, version_of_line, version_seals, who_of}
use Rattle.xom_model.specs.Holds.{Behind, RamFits, IsLive, IsOf, LineHolds, Private, Shape}
use Rattle.xom_model.specs.Kept.{Kept}
use Rattle.xom_model.proofs.Growth.{Goes, few_seals, goes_entry, goes_hashes, goes_on, seals_hashes, seals_more}
use Rattle.xom_model.proofs.SealCounts.{few_pass, later_version, other_seals, other_version, own_count, own_version}
use Rattle.xom_model.proofs.PutKept.{IsDone}
use Rattle.xom_model.proofs.RamSize.{frames_stay, areas_stay}
pub use Rattle.xom_model.proofs.SealLists.{bytes_differ}
use Rattle.xom_model.proofs.SealsKept.{length-more, registers_run, seals_run}

-- an image line's version is 1 at the least
pub few_first : (lines line : ℕ) → start_version lines line ≤ 1
few_first lines line = elim (nat_lt line lines) as (λ b. cond b 1 0 ≤ 1) [
  | true ↦
      omega arith
  | false ↦ omega arith
]

-- so a raised version is no image version
raised_no_image : (lines line number count : ℕ) → number ≡ start_version lines line + count + 1
    → (nat_lt line lines && (number == 1)) ≡ false
raised_no_image lines line number count = elim (nat_lt line lines) as
    (λ b. number ≡ cond b 1 0 + count + 1 → (b && (number == 1)) ≡ false) [
      | true ↦ λ is. elim (eqb_tells number 1) [
        | inl one ↦ absurd (let e : number ≡ 1 = one.1 in
            omega arith)
        | inr other ↦ other.0
      ]
      | false ↦ λ is. refl
    ]

none_of : (b : Bool) → (false || ((b && false) || false)) ≡ false
none_of true = refl
none_of false = refl

-- what holds of a line still does where none of its own Seals came
pub line_more : (owner : Owner) (who : Who) (slot line : ℕ) (ways : List Way)
    (seals more : List Sealing) (bytes : List ℕ)
    → line_seals who.install line more ≡ line_seals who.install line seals
    → ((version : ℕ) → version_seals who.install line version more ≡ version_seals who.install line
    version seals)
    → LineHolds owner who slot line ways seals bytes → LineHolds owner who slot line ways more bytes
line_more owner who slot line ways seals more bytes lines versions holds =
    let same : version_of_line who more line ≡ version_of_line who seals line =
    ap (λ l. start_version who.lines line + length l) lines in
    record {
      cached = holds.cached;
      behind = λ clean. let b = holds.behind clean in
          subst (λ n. Behind owner who line n more bytes) (sym same)
          (record {
            zeros = b.zeros;
            owners = b.owners;
            one = λ some no_image. versions _
                ∙ b.one some no_image;
          });
      above = λ version later top. versions version ∙ holds.above version
          (subst (λ n. n < version) same later) top;
      size = holds.size;
    }

module _ (Stands : StandsFor) (owners : List Owner) (v : Versions) (law : VersionLaw v Stands)
    (core : CoreState) (shape : Shape core) (room : length core.entries < 2 ^ 63)
    (slot line place : ℕ) (some : slot ≢ 0) (known : slot ≤ 16) (live : IsLive core slot)
    (low : line < 2 ^ 15)
    (is : IsOf (way_at core.ways place) slot line) (dirty : (way_at core.ways place).dirty ≡ true)
    (owner : Owner) (memory : ℕ → List ℕ) (holds : Private Stands core slot owner memory)
    (number : ℕ) (raised : v.answer_of_raise (store_of core slot) line core.ram ≡ Ok number)
    (texts : List (List ℕ)) (texts_are : v.texts_of_raise (store_of core slot) line
    core.ram ≡ texts)
    (honest : NoCollision (core.entries ++ map hash_entry texts)) (ram : List ℕ)
    (size : RamFits core → length ram ≡ length core.ram) where
  abbrev who : Who
  who = who_of core slot

  abbrev bytes : List ℕ
  bytes = (way_at core.ways place).bytes

  abbrev seals : List Sealing
  seals = seals_of core.entries

  abbrev pair : Sealing
  pair = run_pair who line number bytes

  abbrev first : List Entry
  first = core.entries ++ map hash_entry texts

  abbrev seal : Entry
  seal = seal_entry who line number bytes

  abbrev store : Store
  store = v.store_after_raise (store_of core slot) line core.ram

  abbrev pub out : CoreState
  out = record core { stores = set core.stores slot store; ram = ram; entries = first ++ seal ∷ [] }

  -- ---- The version

  what : (number ≡ (version_of_line who seals line + 1) % 2 ^ 64) × Stands store first
      (with_version (version_of_line who seals) line number)
  what = subst (λ t. (number ≡ (version_of_line who seals line + 1) % 2 ^ 64)
      × Stands store (core.entries ++ map hash_entry t) (with_version (version_of_line who seals) line
      number)) texts_are
      (law.raises core.entries (store_of core slot) (version_of_line who seals) line number core.ram
      holds.stands low (subst (λ t. NoCollision (core.entries ++ map hash_entry t))
      (sym texts_are) honest) raised)

  ver_low : version_of_line who seals line ≤ length core.entries + 1
  ver_low =
      let a = few_first who.lines line in
      let b : length (line_seals who.install line seals) ≤ length seals = few_pass _ seals in
      let c : length seals ≤ length core.entries = few_seals core.entries in
      omega arith

  number_is : number ≡ version_of_line who seals line + 1
  number_is = what.0 ∙ (let a = ver_low in omega arith)

  number_low : number < 2 ^ 64
  number_low = let a = ver_low in let b = number_is in omega arith

  no_image : is_image_at who line number ≡ false
  no_image =
      raised_no_image who.lines line number (length (line_seals who.install line seals)) number_is

  -- ---- The journal

  seal_is : seal_in seal ≡ Some pair
  seal_is = rw no_image refl

  seals_out : seals_of out.entries ≡ seals ++ pair ∷ []
  seals_out =
      seals_more first seal pair seal_is
      ∙ ap (λ l. l ++ pair ∷ []) (seals_hashes core.entries texts)

  goes_out : Goes core.entries out.entries
  goes_out =
      goes_on core.entries first out.entries (goes_hashes core.entries texts)
      (goes_entry first seal (record { step = λ n. refl; install = λ n id none. none }))

  install_low : (k : ℕ) → (session_of core k).install < 2 ^ 64
  install_low k =
      let a : (session_of core k).install ≤ core.installs = shape.numbers k in
      let b : core.installs ≤ length core.entries = shape.count in omega arith

  -- ---- Lines with no Seal of their own

  others : (k at : ℕ) → at < 2 ^ 15 → (who.install ≡ (session_of core k).install → line ≢ at)
      → (its : Owner) (memory' : ℕ → List ℕ)
      → LineHolds its (who_of core k) k at core.ways seals (memory' at)
      → LineHolds its (who_of core k) k at core.ways (seals ++ pair ∷ []) (memory' at)
  others k at few differ its memory' old =
      line_more its (who_of core k) k at core.ways seals (seals ++ pair ∷ []) (memory' at)
      (other_seals who line number bytes (install_low slot) low number_low seals
      (session_of core k).install at (install_low k) few differ)
      (other_version who line number bytes (install_low slot) low number_low seals
      (session_of core k).install at (install_low k) few differ)
      old

  -- ---- The line itself

  ver_is : version_of_line who (seals ++ pair ∷ []) line ≡ number
  ver_is =
      ap (λ n. start_version who.lines line + n) (own_count who line number bytes (install_low slot)
      low number_low seals)
      ∙ (let a = number_is in omega arith)

  one_seal : version_seals who.install line number (seals ++ pair ∷ []) ≡ pair ∷ []
  one_seal =
      own_version who line number bytes (install_low slot) low number_low seals
      ∙ ap (λ l. l ++ pair ∷ []) ((holds.lines line low).above number (let a = number_is in
      omega arith) number_low)

  behind_it : (its : Owner) (plain : List ℕ) → bytes ≡ plain
      → Behind its who line (version_of_line who (seals ++ pair ∷ []) line) (seals ++ pair ∷ [])
      plain
  behind_it its plain same = subst (λ n. Behind its who line n (seals ++ pair ∷ []) plain)
      (sym ver_is) (record {
        zeros = λ none. absurd (let a = number_is in omega arith);
        owners = λ image. absurd (cc (no_image, image));
        one = λ _ _. one_seal ∙ ap (λ b. run_pair who line number b ∷ []) same;
      })

  own_line : (its : Owner) (memory' : ℕ → List ℕ)
      → LineHolds its who slot line core.ways seals (memory' line)
      → LineHolds its who slot line core.ways (seals ++ pair ∷ []) (memory' line)
  own_line its memory' old = record {
    cached = old.cached;
    behind = λ clean. behind_it its (memory' line) (old.cached place is);
    above = λ version later top.
        let past : number < version = subst (λ n. n < version) ver_is later in
        later_version who line number bytes (install_low slot) low number_low seals version
        (omega arith)
        ∙ old.above version (let a = number_is in omega arith) top;
    size = old.size;
  }

  -- ---- What each slot keeps

  lines_out : (k : ℕ) → IsLive core k → (its : Owner) (memory' : ℕ → List ℕ)
      → Private Stands core k its memory' → (at : ℕ) → at < 2 ^ 15
      → LineHolds its (who_of core k) k at core.ways (seals ++ pair ∷ []) (memory' at)
  lines_out k lives its memory' old at few = elim (eqb_tells k slot) [
    | inl own ↦ elim (eqb_tells at line) [
      | inl here ↦
          subst (λ j. LineHolds its (who_of core j) j at core.ways (seals ++ pair ∷ [])
          (memory' at)) (sym own.1)
          (subst (λ l. LineHolds its who slot l core.ways (seals ++ pair ∷ []) (memory' l))
          (sym here.1)
          (own_line its memory'
          (subst (λ j. LineHolds its (who_of core j) j line core.ways seals (memory' line)) own.1
          (old.lines line low))))
      | inr there ↦ others k at few (λ _ same. there.1 (sym same)) its memory' (old.lines at few)
    ]
    | inr other ↦ others k at few (λ same _. other.1 (sym (shape.apart slot k live lives same))) its
        memory' (old.lines at few)
  ]

  store_here : store_of out slot ≡ store
  store_here =
      get_or-set_same core.stores slot store no_store
      (let places : length core.stores ≡ 17 = shape.store_places in omega arith)

  store_there : (k : ℕ) → k ≢ slot → store_of out k ≡ store_of core k
  store_there k differs = get_or-set_other core.stores slot k store no_store differs

  longer : (es more : List Entry) (s : Store) (numbers : ℕ → ℕ) (whole : List Entry)
      → whole ≡ es ++ more → Stands s es numbers → Stands s whole numbers
  longer es more s numbers whole same old =
      subst (λ l. Stands s l numbers) (sym same) (law.longer es more s numbers old)

  number_out : (at : ℕ) → at < 2 ^ 15
      → with_version (version_of_line who seals) line number at ≡ version_of_line who
      (seals ++ pair ∷ []) at
  number_out at few = elim (eqb_tells at line) [
    | inl here ↦ rw here.0 (sym ver_is ∙ ap (version_of_line who (seals ++ pair ∷ [])) (sym here.1))
    | inr there ↦ rw there.0 (ap (λ l. start_version who.lines at + length l)
        (sym (other_seals who line number bytes (install_low slot) low number_low seals
        who.install at (install_low slot) few (λ _ same. there.1 (sym same)))))
  ]

  stands_own : Stands store out.entries (version_of_line who (seals ++ pair ∷ []))
  stands_own = law.alike out.entries store (with_version (version_of_line who seals) line number)
      (version_of_line who (seals ++ pair ∷ [])) number_out
      (longer first (seal ∷ []) store (with_version (version_of_line who seals) line number)
      out.entries refl what.1)

  stands_other : (k : ℕ) → IsLive core k → k ≢ slot
      → Stands (store_of core k) core.entries (version_of_line (who_of core k) seals)
      → Stands (store_of core k) out.entries (version_of_line (who_of core k) (seals ++ pair ∷ []))
  stands_other k lives differs old =
      law.alike out.entries (store_of core k) (version_of_line (who_of core k) seals)
      (version_of_line (who_of core k) (seals ++ pair ∷ []))
      (λ at few. ap (λ l. start_version (who_of core k).lines at + length l)
      (sym (other_seals who line number bytes (install_low slot) low number_low seals
      (session_of core k).install at (install_low k) few
      (λ same _. differs (sym (shape.apart slot k live lives same))))))
      (longer core.entries goes_out.more.0 (store_of core k) (version_of_line (who_of core k) seals)
      out.entries goes_out.more.1 old)

  stands_out : (k : ℕ) → IsLive core k
      → Stands (store_of core k) core.entries (version_of_line (who_of core k) seals)
      → Stands (store_of out k) out.entries (version_of_line (who_of core k) (seals ++ pair ∷ []))
  stands_out k lives old = elim (eqb_tells k slot) [
    | inl own ↦ subst (λ j. Stands (store_of out j) out.entries
        (version_of_line (who_of core j) (seals ++ pair ∷ []))) (sym own.1)
        (subst (λ s. Stands s out.entries (version_of_line who (seals ++ pair ∷ [])))
        (sym store_here) stands_own)
    | inr other ↦ subst (λ s. Stands s out.entries
        (version_of_line (who_of core k) (seals ++ pair ∷ []))) (sym (store_there k other.1))
        (stands_other k lives other.1 old)
  ]

  private_out : (k : ℕ) → IsLive core k → (its : Owner) (memory' : ℕ → List ℕ)
      → Private Stands core k its memory' → Private Stands out k its memory'
  private_out k lives its memory' old = record {
    lines = λ at few. subst (λ s. LineHolds its (who_of core k) k at core.ways s (memory' at))
        (sym seals_out) (lines_out k lives its memory' old at few);
    stands = subst (λ s. Stands (store_of out k) out.entries (version_of_line (who_of core k) s))
        (sym seals_out) (stands_out k lives old.stands);
  }

  no_image_out : (key : List ℕ) (id : ImageId) (at : ℕ) (ct : List ℕ)
      → is_sealed key (line_message (Image id at) ct) (seals ++ pair ∷ []) ≡ false
  no_image_out key id at ct =
      list_any-append (is_sealing key (line_message (Image id at) ct)) seals (pair ∷ [])
      ∙ rw (
        shape.no_image key id at ct,
        bytes_differ (line_message (Image id at) ct) pair.1
            (kinds_differ.image_run id at who.boot who.install line number ct _),
      )
      (none_of (bytes_eq key pair.0))

  no_envelope_out : (key envelope : List ℕ)
      → is_sealed key (envelope_message envelope) (seals ++ pair ∷ []) ≡ false
  no_envelope_out key envelope =
      list_any-append (is_sealing key (envelope_message envelope)) seals (pair ∷ [])
      ∙ rw (
        shape.no_envelope key envelope,
        bytes_differ (envelope_message envelope) pair.1
            (λ same. kinds_differ.line_envelope (run_name who line number) _ envelope (sym same)),
      )
      (none_of (bytes_eq key pair.0))

  shape_out : Shape out
  shape_out = record {
    live = shape.live;
    inside = shape.inside;
    mapped = shape.mapped;
    one = shape.one;
    clean = shape.clean;
    owned = shape.owned;
    no_image = subst (λ s. (key : List ℕ) (id : ImageId) (at : ℕ) (ct : List ℕ)
        → is_sealed key (line_message (Image id at) ct) s ≡ false) (sym seals_out) no_image_out;
    no_envelope = subst (λ s. (key envelope : List ℕ) → is_sealed key (envelope_message envelope)
        s ≡ false) (sym seals_out) no_envelope_out;
    to_come = λ install at above top few.
        ap (line_seals install at) seals_out
        ∙ other_seals who line number bytes (install_low slot) low number_low seals install at top
        few (λ same _. absurd (let a : (session_of core slot).install ≤ core.installs =
        shape.numbers slot in omega (arith, same)))
        ∙ shape.to_come install at above top few;
    apart = shape.apart;
    null = shape.null;
    numbers = shape.numbers;
    boot = shape.boot;
    count = let count : core.installs ≤ length core.entries = shape.count in let whole =
        ap length goes_out.more.1 ∙ length-append core.entries goes_out.more.0 in omega arith;
    ids = shape.ids;
    way_places = shape.way_places;
    page_places = shape.page_places;
    store_places = length-set core.stores slot store ∙ shape.store_places;
  }

  area_there : (k : ℕ) → (store_of out k).area ≡ (store_of core k).area
  area_there k = elim (eqb_tells k slot) [
    | inl own ↦ subst (λ j. (store_of out j).area ≡ (store_of core j).area) (sym own.1)
        (ap (λ s. s.area) store_here ∙ law.area_after_raise (store_of core slot) line core.ram)
    | inr other ↦ ap (λ s. s.area) (store_there k other.1)
  ]

  seal_kept : Kept Stands owners core out
  seal_kept = record {
    shape = λ _. shape_out;
    boot = refl;
    machine = refl;
    last = refl;
    more = goes_out.more;
    steps = goes_out.steps;
    installed = goes_out.installed;
    registers = λ key name ct. ap (is_sealed key (register_message name ct)) seals_out
        ∙ registers_run who line number bytes (install_low slot) low number_low seals key name ct;
    seals = seals_run who line number bytes (install_low slot) low number_low seals core.sessions
        core.installs core.entries out.entries refl seals_out (length-more core.entries out.entries
        goes_out.more)
        ((holds.lines line low).above number (let a = number_is in omega arith) number_low);
    same = λ k lives. refl;
    lent = λ reg from to none. refl;
    cells = λ reg from to tagged. refl;
    tags = λ reg from to lives tagged. lives;
    stay = λ reg from to lives. refl;
    cell_places = refl;
    session_places = refl;
    ram = λ fit. (
      size fit,
      record {
        frames = frames_stay core.pages core.ram ram (size fit)
            fit.frames;
        areas = areas_stay core out (size fit) (λ k alive. (alive, area_there k))
            fit.areas;
      },
    );
    private = λ k filled lives its memory' whose old. private_out k lives its memory' old;
  }

  plain_of : {its : Owner} {memory' : ℕ → List ℕ} → Private Stands out slot its memory'
      → bytes ≡ memory' line
  plain_of now = (now.lines line low).cached place is

  -- and what stands in the place is behind its line
  seal_done : IsDone Stands owners out place
  seal_done k at filled lives its_of its_dirty its memory' whose now =
      let own : slot ≡ k = sym is.0 ∙ its_of.0 in
      let here : line ≡ at = sym is.1 ∙ its_of.1 in
      let plain : bytes ≡ memory' line =
      plain_of (subst (λ j. Private Stands out j its memory') (sym own) now) in
      subst (λ j. Behind its (who_of core j) at
      (version_of_line (who_of core j) (seals_of out.entries) at) (seals_of out.entries)
      (memory' at)) own
      (subst (λ l. Behind its who l (version_of_line who (seals_of out.entries) l)
      (seals_of out.entries) (memory' l)) here
      (subst (λ s. Behind its who line (version_of_line who s line) s (memory' line))
      (sym seals_out) (behind_it its (memory' line) plain)))

  -- so both hold of a sealed line
  pub seal_keeps : Kept Stands owners core out × IsDone Stands owners out place
  seal_keeps = (seal_kept, seal_done)
