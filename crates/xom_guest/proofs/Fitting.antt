-- What the core's type keeps, after a step and after a trap of the guest that runs.
use Rattle.std.proofs.Common.{◌≡◌, ◌≢◌, inl, inr, ℕ, ◌+◌, ◌<◌, ◌≤◌, ◌%◌, List, Option, Some, None, length, set, refl, sym, ◌∙◌, ap, subst, arith, true, false, length-set}
use Rattle.std.proofs.lemmas.List.{get_or-set_same, get_or-set_other, get_or_past}
use Rattle.std.proofs.lemmas.Bool.Decides.{eqb_tells}
use Rattle.xom_base.specs.declared.step.Step.{Step}
use Rattle.xom_base.specs.declared.step.Stored.{Stored}
use Rattle.xom_base.specs.declared.step.Stored.TheVariants as stored
use Rattle.xom_base.specs.declared.step.Writes.{Writes}
use Rattle.mips_effect.specs.declared.effects.Effect.{Effect}
use Rattle.mips_effect.specs.declared.wish.Wish.{Wish}
use Rattle.mips_effect.specs.declared.wish.Wish.TheVariants as wish
use Rattle.mips_effect.specs.Effects.{IsInRange, Ranged}
use Rattle.mips_plain.specs.Instruction.{step_made, step_of_wish}
use Rattle.mips_plain.specs.Memory.{low_bytes}
use Rattle.line_cache.specs.declared.way.Way.{Way}
use Rattle.line_cache.specs.Ways.{way_at}
use Rattle.page_map.specs.Pages.{Pages}
use Rattle.session_table.specs.declared.session.Session.{Session}
use Rattle.session_table.specs.declared.session.SlotState.TheVariants as state
use Rattle.session_table.specs.Sessions.{IsLiveIn, free, is_live, session_after_pause, session_at}
use Rattle.slot_keys.specs.GuestKeys.{GuestKeys, OthersKeep, keys_at, with_registers}
use Rattle.xom_seal.specs.Keys.{register_keys}
use Rattle.xom_versions.specs.Store.{Store}
use Rattle.xom_model.specs.Guest.{address_in, session_after_step, stored_at, stored_way}
use Rattle.xom_model.specs.State.{page_of}
use Rattle.xom_model.proofs.Gone.{less}
use Rattle.xom_model.proofs.RamSize.{area_stays, frames_stay}
use Rattle.xom_model.proofs.WayPuts.{each_put}
use Rattle.slot_stores.specs.SlotStores.{store_at}
use Rattle.xom_private.specs.Cores.{IsMapped, PartsFit, Serves}
use Rattle.xom_guest.specs.Places.{CanStore, IsPlaceFor, IsPlaceOf, StoresIn}

-- ---- What a step stores

-- it lies in the line of its address
made_stores : (ways : List Way) (slot place pc npc : ℕ) (written : Writes) (wished : Wish)
    (word got : ℕ)
    → IsInRange wished → IsPlaceFor ways slot place (address_in wished)
    → StoresIn ways slot place (step_of_wish pc npc written wished word got).stored
made_stores ways slot place pc npc written (wish.Store at count value) word got range its =
    (its, range.some, range.few, let one : at % 4 + count ≤ 4 = range.one_word in omega arith)
made_stores ways slot place pc npc written (wish.Load reg at how old) word got range its = tt
made_stores ways slot place pc npc written wish.Nothing word got range its = tt
made_stores ways slot place pc npc written (wish.NullLoad reg at) word got range its = tt
made_stores ways slot place pc npc written (wish.NullStore at value) word got range its = tt
made_stores ways slot place pc npc written (wish.Hand at) word got range its = tt
made_stores ways slot place pc npc written wish.SigRet word got range its = tt
made_stores ways slot place pc npc written (wish.Release reg value) word got range its = tt
made_stores ways slot place pc npc written (wish.Receive reg from) word got range its = tt
made_stores ways slot place pc npc written wish.Exit word got range its = tt
made_stores ways slot place pc npc written (wish.Call code) word got range its = tt
made_stores ways slot place pc npc written (wish.Do operation) word got range its = tt
made_stores ways slot place pc npc written (wish.Ask reg what) word got range its = tt

pub step_stores : (ways : List Way) (slot place pc npc : ℕ) (effect : Effect) (word got : ℕ)
    (step : Step)
    → step ≡ step_made pc npc effect word got → Ranged effect
    → IsPlaceFor ways slot place (address_in effect.wish) → StoresIn ways slot place step.stored
unfolding step_made
step_stores ways slot place pc npc effect word got step step_is range its =
    rw step_is (made_stores ways slot place pc npc effect.writes effect.wish word got range.wish
    its)

-- a place of a slot is filled
pub is_filled : (ways : List Way) (slot place : ℕ) → 1 ≤ slot → length ways ≡ 128
    → IsPlaceOf ways slot place → (way_at ways place).slot ≢ 0
is_filled ways slot place some places its none =
    let own : (way_at ways place).slot ≡ slot = its.own (let low = its.low in omega arith) in
    absurd (omega arith)

pub can_store : (ways : List Way) (slot place : ℕ) (kept : Stored) → 1 ≤ slot → length ways ≡ 128
    → StoresIn ways slot place kept → CanStore ways place kept
can_store ways slot place stored.Nothing some places its = tt
can_store ways slot place (stored.Bytes address count value) some places its =
    (is_filled ways slot place some places its.0, its.1, its.2, its.3)

-- ---- Another session in a live slot

module _ (sessions : List Session) (pages : Pages) (ways : List Way) (ram : List ℕ)
    (stores : List Store) (keys new_keys : List GuestKeys) (boot slot : ℕ) (s : Session)
    (live : IsLiveIn sessions slot) (lives : is_live s.state ≡ true)
    (serves : Serves (keys_at new_keys slot) boot s) (others : OthersKeep keys new_keys slot)
    (fits : PartsFit sessions pages ways ram stores keys boot) where
  within : slot < length sessions
  within = elim (less slot (length sessions)) [
    | inl low ↦ low
    | inr past ↦ absurd (let its = ap (λ t. is_live t.state)
        (get_or_past sessions slot free past) in cc)
  ]

  here : session_at (set sessions slot s) slot ≡ s
  here = get_or-set_same sessions slot s free within

  there : (other : ℕ) → other ≢ slot
      → session_at (set sessions slot s) other ≡ session_at sessions other
  there other differs = get_or-set_other sessions slot other s free differs

  was : (k : ℕ) → IsLiveIn (set sessions slot s) k → IsLiveIn sessions k
  was k alive = elim (eqb_tells k slot) [
    | inl is ↦ subst (IsLiveIn sessions) (sym is.1) live
    | inr differs ↦ sym (ap (λ t. is_live t.state) (there k differs.1)) ∙ alive
  ]

  still : (k : ℕ) → IsLiveIn sessions k → IsLiveIn (set sessions slot s) k
  still k alive = elim (eqb_tells k slot) [
    | inl is ↦ subst (IsLiveIn (set sessions slot s)) (sym is.1) (ap (λ t. is_live t.state) here
        ∙ lives)
    | inr differs ↦ ap (λ t. is_live t.state) (there k differs.1) ∙ alive
  ]

  ready : (k : ℕ) → IsLiveIn (set sessions slot s) k
      → Serves (keys_at new_keys k) boot (session_at (set sessions slot s) k)
  ready k alive = elim (eqb_tells k slot) [
    | inl is ↦ subst (λ j. Serves (keys_at new_keys j) boot (session_at (set sessions slot s) j))
        (sym is.1) (subst (λ t. Serves (keys_at new_keys slot) boot t) (sym here) serves)
    | inr differs ↦
        subst (λ t. Serves (keys_at new_keys k) boot t) (sym (there k differs.1))
        (subst (λ g. Serves g boot (session_at sessions k)) (sym (others k differs.1))
        (fits.ready k (was k alive)))
  ]

  fits_session : PartsFit (set sessions slot s) pages ways ram stores new_keys boot
  fits_session = record {
    frames = fits.frames;
    owned = λ k page frame is. still k (fits.owned k page frame is);
    mapped = fits.mapped;
    clean = fits.clean;
    places = fits.places;
    areas = λ k alive. fits.areas k (was k alive);
    ready = ready;
  }

-- ---- A step

module _ (sessions : List Session) (pages : Pages) (ways : List Way) (ram new_ram : List ℕ)
    (stores : List Store) (keys : List GuestKeys) (boot slot place : ℕ) (some : 1 ≤ slot) where
  -- what is stored leaves each way's line
  fits_stored : (kept : Stored) → StoresIn ways slot place kept
      → PartsFit sessions pages ways ram stores keys boot
      → PartsFit sessions pages (stored_at ways place kept) ram stores keys boot
  fits_stored stored.Nothing its fits = fits
  fits_stored (stored.Bytes address count value) its fits =
      let new = stored_way (way_at ways place) address (low_bytes count value) in
      let filled : (way_at ways place).slot ≢ 0 = is_filled ways slot place some fits.places
      its.0 in
      record {
        frames = fits.frames;
        owned = fits.owned;
        mapped = each_put (λ at way. way.slot ≢ 0 → IsMapped pages way.slot (page_of way.line)) ways
            place new (λ _ filled_is. fits.mapped place filled_is) fits.mapped;
        clean = each_put (λ at way. way.slot ≡ 0 → way.dirty ≡ false) ways place new
            (λ _ none. absurd (filled none)) fits.clean;
        places = length-set ways place new ∙ fits.places;
        areas = fits.areas;
        ready = fits.ready;
      }

  -- RAM of the same size serves as well
  fits_ram : length new_ram ≡ length ram → PartsFit sessions pages ways ram stores keys boot
      → PartsFit sessions pages ways new_ram stores keys boot
  fits_ram size fits = record {
    frames = frames_stay pages ram new_ram size fits.frames;
    owned = fits.owned;
    mapped = fits.mapped;
    clean = fits.clean;
    places = fits.places;
    areas = λ k alive. area_stays (store_at stores k).area ram new_ram size (fits.areas k alive);
    ready = fits.ready;
  }

pub fits_retired : (sessions : List Session) (pages : Pages) (ways new_ways : List Way)
    (ram new_ram : List ℕ) (stores : List Store) (keys : List GuestKeys) (boot slot place : ℕ)
    (s : Session) (effect : Effect) (step : Step)
    → 1 ≤ slot → (session_at sessions slot).state ≡ state.Running
    → s ≡ session_after_step (session_at sessions slot) effect step
    → StoresIn ways slot place step.stored → new_ways ≡ stored_at ways place step.stored
    → length new_ram ≡ length ram
    → PartsFit sessions pages ways ram stores keys boot
    → PartsFit (set sessions slot s) pages new_ways new_ram stores keys boot
fits_retired sessions pages ways new_ways ram new_ram stores keys boot slot place s effect step some
    runs s_is its ways_are size fits =
    let live : IsLiveIn sessions slot = ap is_live runs in
    let serves = fits.ready slot live in
    rw (s_is, ways_are)
    (fits_session sessions pages (stored_at ways place step.stored) new_ram stores keys keys boot
    slot (session_after_step (session_at sessions slot) effect step)
    live (ap is_live runs) (record {
      image = serves.image;
      run = serves.run;
      registers =
          serves.registers;
    }) (λ _ _. refl)
    (fits_ram sessions pages (stored_at ways place step.stored) ram new_ram stores keys boot slot
    place some size
    (fits_stored sessions pages ways ram new_ram stores keys boot slot place some step.stored its
    fits)))

-- ---- A trap

pub fits_paused : (sessions : List Session) (pages : Pages) (ways : List Way) (ram : List ℕ)
    (stores : List Store) (keys new_keys : List GuestKeys) (boot slot : ℕ) (s : Session)
    → (session_at sessions slot).state ≡ state.Running → s ≡ session_after_pause (session_at sessions slot)
    → keys_at new_keys slot ≡ with_registers (keys_at keys slot) (register_keys s.key boot s.install
    s.epoch)
    → OthersKeep keys new_keys slot
    → PartsFit sessions pages ways ram stores keys boot
    → PartsFit (set sessions slot s) pages ways ram stores new_keys boot
fits_paused sessions pages ways ram stores keys new_keys boot slot s runs s_is keys_are others
    fits =
    let live : IsLiveIn sessions slot = ap is_live runs in
    let serves = fits.ready slot live in
    let its : Serves (keys_at new_keys slot) boot s =
    subst (λ g. Serves g boot s) (sym keys_are)
    (rw s_is (record { image = serves.image; run = serves.run; registers = refl })) in
    fits_session sessions pages ways ram stores keys new_keys boot slot s live (rw s_is refl) its
    others fits
