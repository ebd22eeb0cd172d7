-- RAM and stores fit after a version was raised: RAM keeps its size, and the store its area.
use Rattle.std.proofs.Common.{◌≡◌, inl, inr, ℕ, ◌<◌, List, IfSome, length, set, sym, ◌∙◌, ap, subst}
use Rattle.std.proofs.lemmas.List.{get_or-set_same, get_or-set_other, set_past}
use Rattle.std.proofs.lemmas.Bool.Decides.{eqb_tells}
use Rattle.xom_base.specs.declared.entry.Entry.{Entry}
use Rattle.session_table.specs.Sessions.{IsLiveIn}
use Rattle.line_cache.specs.declared.way.Way.{Way}
use Rattle.line_ram.specs.Bytes.{HoldsRange}
use Rattle.page_map.specs.Pages.{Pages}
use Rattle.session_table.specs.declared.session.Session.{Session}
use Rattle.slot_keys.specs.GuestKeys.{GuestKeys}
use Rattle.xom_versions.specs.Store.{Store, area_size, line_limit, no_store}
use Rattle.xom_versions.specs.Versions.{VersionLaw, Versions}
use Rattle.xom_model.proofs.Gone.{less}
use Rattle.xom_model.proofs.RamSize.{area_stays, frames_stay}
use Rattle.slot_stores.specs.SlotStores.{store_at}
use Rattle.xom_private.specs.Cores.{PartsFit}

-- a store that is put in the place of one with its area leaves all areas
same_area : (stores : List Store) (slot k : ℕ) (new : Store)
    → new.area ≡ (store_at stores slot).area
    → (store_at (set stores slot new) k).area ≡ (store_at stores k).area
same_area stores slot k new same = elim (eqb_tells k slot) [
  | inl is ↦ elim (less slot (length stores)) [
    | inl within ↦ ap (λ j. (store_at (set stores slot new) j).area) is.1 ∙ ap (λ s. s.area)
        (get_or-set_same stores slot new no_store within) ∙ same
        ∙ sym (ap (λ j. (store_at stores j).area) is.1)
    | inr past ↦ ap (λ list. (store_at list k).area) (set_past stores slot new past)
  ]
  | inr differs ↦ ap (λ s. s.area) (get_or-set_other stores slot k new no_store differs.1)
]

pub fits_raised : {Stands : Store → List Entry → (ℕ → ℕ) → Type 0} (v : Versions)
    (law : VersionLaw v Stands)
    (sessions : List Session) (pages : Pages) (ways : List Way) (ram new_ram : List ℕ)
    (stores new_stores : List Store) (keys : List GuestKeys) (boot slot line : ℕ)
    → IsLiveIn sessions slot → line < line_limit
    → new_ram ≡ v.ram_after_raise (store_at stores slot) line ram
    → new_stores ≡ set stores slot (v.store_after_raise (store_at stores slot) line ram)
    → PartsFit sessions pages ways ram stores keys boot
    → PartsFit sessions pages ways new_ram new_stores keys boot
fits_raised v law sessions pages ways ram new_ram stores new_stores keys boot slot line live low
    ram_is stores_are fits =
    let size : length new_ram ≡ length ram = ap length ram_is ∙ law.size_after_raise
    (store_at stores slot) line ram (fits.areas slot live) low in
    record {
      frames = frames_stay pages ram new_ram size fits.frames;
      owned = fits.owned;
      mapped = fits.mapped;
      clean = fits.clean;
      places = fits.places;
      areas = λ k alive.
          let area : (store_at new_stores k).area ≡ (store_at stores k).area =
          ap (λ list. (store_at list k).area) stores_are ∙ same_area stores slot k
          _ (law.area_after_raise (store_at stores slot) line ram) in
          subst (λ a. IfSome a (λ at. HoldsRange new_ram at area_size)) (sym area)
          (area_stays (store_at stores k).area ram new_ram size (fits.areas k alive));
      ready = fits.ready;
    }
