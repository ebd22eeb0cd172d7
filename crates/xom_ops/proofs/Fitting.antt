-- What the core's type keeps still holds after each change that an operation makes.
use Rattle.std.proofs.Common.{◌≡◌, ◌≢◌, ◌⊎◌, inl, inr, ℕ, ◌+◌, ◌≤◌, List, IfSome, Option, Some, None, length, set, refl, sym, ◌∙◌, ap, subst, arith, length-set}
use Rattle.std.proofs.lemmas.List.{get_or-set_same, get_or-set_other, get_or_past, set_past}
use Rattle.std.proofs.lemmas.Bool.Decides.{eqb_tells}
use Rattle.xom_base.specs.declared.entry.Entry.{Entry}
use Rattle.xom_base.specs.declared.key.ImageId.{ImageId}
use Rattle.xom_base.specs.declared.key.Key256.{Key256}
use Rattle.line_cache.specs.declared.way.Way.{Way}
use Rattle.line_ram.specs.Bytes.{HoldsFrame, HoldsRange}
use Rattle.page_map.specs.Pages.{ChangesPage, Pages, frame_of}
use Rattle.session_table.specs.declared.session.Session.{Session}
use Rattle.session_table.specs.declared.session.SlotState.TheVariants as state
use Rattle.session_table.specs.Sessions.{IsLiveIn, free, fresh_session, is_live, session_at}
use Rattle.slot_keys.specs.GuestKeys.{AreKeysOf, GuestKeys, OthersKeep, keys_at}
use Rattle.xom_versions.specs.Store.{HoldsArea, Store, area_size, no_store}
use Rattle.xom_versions.specs.Versions.{VersionLaw, Versions}
use Rattle.xom_model.proofs.Gone.{less}
use Rattle.xom_model.proofs.RamSize.{area_stays, frames_stay}
use Rattle.slot_stores.specs.SlotStores.{store_at}
use Rattle.xom_private.specs.Cores.{IsMapped, PartsFit, Serves}

-- what the type asks of a session is asked of the other as well
abbrev pub AreAlike : Session → Session → Type 0
AreAlike a b =
    (is_live a.state ≡ is_live b.state) × (a.key ≡ b.key) × (a.id ≡ b.id) × (a.install ≡ b.install)
    × (a.epoch ≡ b.epoch)

alike_each : (sessions : List Session) (slot : ℕ) (s : Session)
    → AreAlike s (session_at sessions slot) → (k : ℕ)
    → AreAlike (session_at (set sessions slot s) k) (session_at sessions k)
alike_each sessions slot s alike k = elim (eqb_tells k slot) [
  | inl is ↦ elim (less slot (length sessions)) [
    | inl within ↦ subst (λ j. AreAlike (session_at (set sessions slot s) j)
        (session_at sessions j)) (sym is.1) (subst (λ t. AreAlike t (session_at sessions slot))
        (sym (get_or-set_same sessions slot s free within)) alike)
    | inr past ↦ subst (λ list. AreAlike (session_at list k) (session_at sessions k))
        (sym (set_past sessions slot s past)) (refl, refl, refl, refl, refl)
  ]
  | inr differs ↦ subst (λ t. AreAlike t (session_at sessions k))
      (sym (get_or-set_other sessions slot k s free differs.1)) (refl, refl, refl, refl, refl)
]

-- a session moves on, and its guest stays who it was
pub fits_moved : (sessions : List Session) (pages : Pages) (ways : List Way) (ram : List ℕ)
    (stores : List Store) (keys : List GuestKeys) (boot slot : ℕ) (s : Session)
    → AreAlike s (session_at sessions slot)
    → PartsFit sessions pages ways ram stores keys boot
    → PartsFit (set sessions slot s) pages ways ram stores keys boot
fits_moved sessions pages ways ram stores keys boot slot s alike fits =
    let each = alike_each sessions slot s alike in
    record {
      frames = fits.frames;
      owned = λ k page frame is. (each k).0 ∙ fits.owned k page frame is;
      mapped = fits.mapped;
      clean = fits.clean;
      places = fits.places;
      areas = λ k live. fits.areas k (sym (each k).0 ∙ live);
      ready = λ k live.
          let was = fits.ready k (sym (each k).0 ∙ live) in
          record {
            image = rw ((each k).1, (each k).2) was.image;
            run = rw ((each k).1, (each k).3)
                was.run;
            registers = rw ((each k).1, (each k).3, (each k).4) was.registers;
          };
    }

-- RAM is written, and keeps its size
pub fits_resized : (sessions : List Session) (pages : Pages) (ways : List Way) (ram new : List ℕ)
    (stores : List Store) (keys : List GuestKeys) (boot : ℕ)
    → length new ≡ length ram → PartsFit sessions pages ways ram stores keys boot
    → PartsFit sessions pages ways new stores keys boot
fits_resized sessions pages ways ram new stores keys boot size fits = record {
  frames = frames_stay pages ram new size fits.frames;
  owned = fits.owned;
  mapped = fits.mapped;
  clean = fits.clean;
  places = fits.places;
  areas = λ k live. area_stays (store_at stores k).area ram new size (fits.areas k live);
  ready = fits.ready;
}

-- ---- A page is mapped

pub is_page : (slot page k at : ℕ) → ((k ≡ slot) × (at ≡ page)) ⊎ (k ≡ slot → at ≢ page)
is_page slot page k at = elim (eqb_tells k slot) [
  | inl own ↦ elim (eqb_tells at page) [
    | inl same ↦ inl (own.1, same.1)
    | inr other ↦ inr (λ _. other.1)
  ]
  | inr other ↦ inr (λ own. absurd (other.1 own))
]

some_frame : (a b : ℕ) → Some a ≡ Some b → a ≡ b
some_frame a b is = cc

module _ (sessions : List Session) (pages new : Pages) (ways : List Way) (ram : List ℕ)
    (stores : List Store) (keys : List GuestKeys) (boot slot page frame : ℕ)
    (changes : ChangesPage pages new slot page (Some frame)) (inside : HoldsFrame ram frame)
    (live : IsLiveIn sessions slot) (none : frame_of pages slot page ≡ None)
    (fits : PartsFit sessions pages ways ram stores keys boot) where
  frames_hold : (k at f : ℕ) → frame_of new k at ≡ Some f → HoldsFrame ram f
  frames_hold k at f is = elim (is_page slot page k at) [
    | inl this ↦ subst (HoldsFrame ram)
        (some_frame frame f (sym changes.this_page ∙ subst (λ j. frame_of new j page ≡ Some f)
        this.0 (subst (λ p. frame_of new k p ≡ Some f) this.1 is))) inside
    | inr other ↦ fits.frames k at f (sym (changes.other_pages k at other) ∙ is)
  ]

  live_owned : (k at f : ℕ) → frame_of new k at ≡ Some f → IsLiveIn sessions k
  live_owned k at f is = elim (is_page slot page k at) [
    | inl this ↦ subst (IsLiveIn sessions) (sym this.0) live
    | inr other ↦ fits.owned k at f (sym (changes.other_pages k at other) ∙ is)
  ]

  still_mapped : (k at : ℕ) → IsMapped pages k at → IsMapped new k at
  still_mapped k at was = elim (is_page slot page k at) [
    | inl this ↦ absurd (let held : frame_of pages slot page ≡ Some was.0 =
        subst (λ j. frame_of pages j page ≡ Some was.0) this.0
        (subst (λ p. frame_of pages k p ≡ Some was.0) this.1 was.1) in cc)
    | inr other ↦ (was.0, changes.other_pages k at other ∙ was.1)
  ]

  pub fits_paged : PartsFit sessions new ways ram stores keys boot
  fits_paged = record {
    frames = frames_hold;
    owned = live_owned;
    mapped = λ place filled. still_mapped _ _ (fits.mapped place filled);
    clean = fits.clean;
    places = fits.places;
    areas = fits.areas;
    ready = fits.ready;
  }

-- ---- A guest is installed

module _ {Stands : Store → List Entry → (ℕ → ℕ) → Type 0} (v : Versions) (law : VersionLaw v Stands)
    (sessions : List Session) (pages : Pages) (ways : List Way) (ram : List ℕ) (stores : List Store)
    (keys new_keys : List GuestKeys) (boot slot area : ℕ)
    (install : ℕ) (id : ImageId) (key : Key256) (begin lines : ℕ)
    (empty : (session_at sessions slot).state ≡ state.Free) (inside : HoldsRange ram area area_size)
    (ready : AreKeysOf new_keys slot key id boot install 0) (others : OthersKeep keys new_keys slot)
    (fits : PartsFit sessions pages ways ram stores keys boot) where
  abbrev new_ram : List ℕ
  new_ram = v.ram_after_build area lines ram

  abbrev new_store : Store
  new_store = v.store_after_build area lines ram

  abbrev guest : Session
  guest = fresh_session install id key begin lines

  size : length new_ram ≡ length ram
  size = law.size_after_build area lines ram inside

  was_dead : IsLiveIn sessions slot → ⊥
  was_dead live = let dead = ap is_live empty in cc

  -- an area that the new store keeps is the given one
  new_area : (kept : Option ℕ) → new_store.area ≡ kept
      → IfSome kept (λ at. HoldsRange new_ram at area_size)
  new_area None is = tt
  new_area (Some at) is =
      let same : at ≡ area = law.area_after_build area lines at ram is in
      let within : area + 411904 ≤ length ram = inside in
      let sized : length new_ram ≡ length ram = size in
      omega arith

  holds_area : (k : ℕ) → (k ≢ slot → HoldsArea new_ram (store_at stores k))
      → HoldsArea new_ram (store_at (set stores slot new_store) k)
  unfolding no_store
  holds_area k other = elim (eqb_tells k slot) [
    | inl is ↦ subst (λ j. HoldsArea new_ram (store_at (set stores slot new_store) j)) (sym is.1)
        (elim (less slot (length stores)) [
          | inl within ↦ subst (HoldsArea new_ram)
              (sym (get_or-set_same stores slot new_store no_store within))
              (new_area new_store.area refl)
          | inr past ↦ subst (HoldsArea new_ram)
              (sym (get_or_past (set stores slot new_store) slot no_store
              (let same : length (set stores slot new_store) ≡ length stores = length-set stores slot
              new_store in omega arith))) tt
        ])
    | inr differs ↦ subst (HoldsArea new_ram)
        (sym (get_or-set_other stores slot k new_store no_store differs.1)) (other differs.1)
  ]

  there : (k : ℕ) → k ≢ slot → session_at (set sessions slot guest) k ≡ session_at sessions k
  there k differs = get_or-set_other sessions slot k guest free differs

  still_live : (k : ℕ) → IsLiveIn sessions k → IsLiveIn (set sessions slot guest) k
  still_live k live = elim (eqb_tells k slot) [
    | inl is ↦ absurd (was_dead (subst (IsLiveIn sessions) is.1 live))
    | inr differs ↦ ap (λ s. is_live s.state) (there k differs.1) ∙ live
  ]

  was_live : (k : ℕ) → k ≢ slot → IsLiveIn (set sessions slot guest) k → IsLiveIn sessions k
  was_live k differs live = sym (ap (λ s. is_live s.state) (there k differs)) ∙ live

  its_keys : IsLiveIn (set sessions slot guest) slot
      → Serves (keys_at new_keys slot) boot (session_at (set sessions slot guest) slot)
  its_keys live = elim (less slot (length sessions)) [
    | inl within ↦ subst (Serves (keys_at new_keys slot) boot)
        (sym (get_or-set_same sessions slot guest free within))
        (record {
          image = ap (λ k. k.image) ready;
          run = ap (λ k. k.run) ready;
          registers =
              ap (λ k. k.registers) ready;
        })
    | inr past ↦ absurd (was_dead (subst (λ list. IsLiveIn list slot)
        (set_past sessions slot guest past) live))
  ]

  serves : (k : ℕ) → IsLiveIn (set sessions slot guest) k
      → Serves (keys_at new_keys k) boot (session_at (set sessions slot guest) k)
  serves k live = elim (eqb_tells k slot) [
    | inl is ↦ subst (λ j. Serves (keys_at new_keys j) boot (session_at (set sessions slot guest)
        j)) (sym is.1) (its_keys (subst (IsLiveIn (set sessions slot guest)) is.1 live))
    | inr differs ↦
        subst (Serves (keys_at new_keys k) boot) (sym (there k differs.1))
        (subst (λ ks. Serves ks boot (session_at sessions k)) (sym (others k differs.1))
        (fits.ready k (was_live k differs.1 live)))
  ]

  pub fits_installed : PartsFit (set sessions slot guest) pages ways new_ram (set stores slot new_store)
      new_keys boot
  fits_installed = record {
    frames = frames_stay pages ram new_ram size fits.frames;
    owned = λ k page frame is. still_live k (fits.owned k page frame is);
    mapped = fits.mapped;
    clean = fits.clean;
    places = fits.places;
    areas = λ k live. holds_area k (λ differs. area_stays (store_at stores k).area ram new_ram size
        (fits.areas k (was_live k differs live)));
    ready = serves;
  }

-- the same of what the code has made
pub fits_built : {Stands : Store → List Entry → (ℕ → ℕ) → Type 0} (v : Versions)
    (law : VersionLaw v Stands)
    (sessions new_sessions : List Session) (pages : Pages) (ways : List Way) (ram new_ram : List ℕ)
    (stores new_stores : List Store) (keys new_keys : List GuestKeys)
    (boot slot area number install : ℕ) (id : ImageId) (key : Key256) (begin lines : ℕ)
    → new_sessions ≡ set sessions slot (fresh_session install id key begin lines) → number ≡ install
    → new_ram ≡ v.ram_after_build area lines ram
    → new_stores ≡ set stores slot (v.store_after_build area lines ram)
    → (session_at sessions slot).state ≡ state.Free → HoldsRange ram area area_size
    → AreKeysOf new_keys slot key id boot number 0 → OthersKeep keys new_keys slot
    → PartsFit sessions pages ways ram stores keys boot
    → PartsFit new_sessions pages ways new_ram new_stores new_keys boot
fits_built v law sessions new_sessions pages ways ram new_ram stores new_stores keys new_keys boot
    slot area number install id key begin lines sessions_are number_is ram_is stores_are empty inside
    ready others fits =
    rw (sessions_are, ram_is, stores_are)
    (fits_installed v law sessions pages ways ram stores keys new_keys boot slot area install id key
    begin lines empty inside
    (subst (λ n. AreKeysOf new_keys slot key id boot n 0) number_is ready) others fits)
