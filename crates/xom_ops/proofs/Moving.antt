-- What the core's type keeps still holds where a guest is started, goes on, or gets a signal.
use Rattle.std.proofs.Common.{◌≡◌, ℕ, List, set, refl, sym, ap, subst}
use Rattle.line_cache.specs.declared.way.Way.{Way}
use Rattle.line_cache.specs.Ways.{without_slot}
use Rattle.page_map.specs.Pages.{Pages, without_pages}
use Rattle.session_table.specs.declared.session.Session.{Session}
use Rattle.session_table.specs.declared.session.SlotState.TheVariants as state
use Rattle.session_table.specs.Sessions.{IsLiveIn, free, is_live, session_after_enter, session_after_resume, session_at}
use Rattle.slot_keys.specs.GuestKeys.{GuestKeys}
use Rattle.xom_versions.specs.Store.{Store}
use Rattle.xom_private.specs.Cores.{PartsFit}
use Rattle.xom_private.proofs.Leaving.{fits_gone}
use Rattle.xom_ops.specs.Signals.{at_handler}
use Rattle.xom_ops.proofs.Fitting.{AreAlike, fits_moved}

module _ (sessions : List Session) (pages : Pages) (ways : List Way) (ram : List ℕ)
    (stores : List Store) (keys : List GuestKeys) (boot slot : ℕ) (s : Session)
    (fits : PartsFit sessions pages ways ram stores keys boot) where
  abbrev old : Session
  old = session_at sessions slot

  moved : (new : Session) → s ≡ new → AreAlike new old
      → PartsFit (set sessions slot s) pages ways ram stores keys boot
  moved new is alike =
      fits_moved sessions pages ways ram stores keys boot slot s
      (subst (λ t. AreAlike t old) (sym is) alike) fits

  pub fits_entered : s ≡ session_after_enter old → old.state ≡ state.Fresh
      → PartsFit (set sessions slot s) pages ways ram stores keys boot
  fits_entered is fresh = moved (session_after_enter old) is (sym (ap is_live fresh), refl, refl, refl, refl)

  pub fits_resumed : s ≡ session_after_resume old → IsLiveIn sessions slot
      → PartsFit (set sessions slot s) pages ways ram stores keys boot
  fits_resumed is live = moved (session_after_resume old) is (sym live, refl, refl, refl, refl)

  pub fits_signalled : s ≡ at_handler old
      → PartsFit (set sessions slot s) pages ways ram stores keys boot
  fits_signalled is = moved (at_handler old) is (refl, refl, refl, refl, refl)

-- a slot is freed
pub fits_killed : (sessions new_sessions : List Session) (pages new_pages : Pages)
    (ways new_ways : List Way) (ram : List ℕ) (stores : List Store) (keys : List GuestKeys)
    (boot slot : ℕ)
    → new_sessions ≡ set sessions slot free → new_pages ≡ without_pages pages slot
    → new_ways ≡ without_slot slot ways
    → PartsFit sessions pages ways ram stores keys boot
    → PartsFit new_sessions new_pages new_ways ram stores keys boot
fits_killed sessions new_sessions pages new_pages ways new_ways ram stores keys boot slot
    sessions_are pages_are ways_are fits =
    rw sessions_are (fits_gone sessions pages new_pages ways new_ways ram stores keys boot slot free
    pages_are ways_are refl fits)
