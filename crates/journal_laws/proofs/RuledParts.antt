-- The rules stay where one part of the core changes, or the journal gets an entry.
use Rattle.std.proofs.Common.{◌≡◌, inl, inr, ℕ, ◌+◌, ◌^◌, ◌<◌, ◌≤◌, ◌++◌, List, [], ◌∷◌, All, Option, Some, true, false, length, get_or, set, map, lit<, lit≤, refl, sym, ◌∙◌, ap, subst, arith, length-set, append-nil, ◌==◌}
use Rattle.std.proofs.lemmas.Bool.{cond_both}
use Rattle.std.proofs.lemmas.Bool.Decides.{eqb_tells}
use Rattle.std.proofs.lemmas.List.{append_assoc, get_or_past, get_or-set_other, get_or-set_same}
use Rattle.std.proofs.lemmas.List.Elements.{All-head, All-map, All-set, All-tail}
use Rattle.hex.specs.Hex.{IsBytes}
use Rattle.sha2.proofs.Facts256.{length-sha256}
use Rattle.xom_base.specs.declared.entry.Entry.{Entry}
use Rattle.xom_base.specs.declared.entry.Entry.TheVariants as entry
use Rattle.journal_text.specs.JournalLines.{last_behind}
use Rattle.journal_round_trip.specs.KeepsRules.{CameBefore, Is32Bit, KeepsEntry, KeepsPayload, KeepsRulesBehind}
use Rattle.line_cache.specs.declared.way.Way.{Way}
use Rattle.line_cache.specs.Ways.{free_if, free_way, way_at, without_slot}
use Rattle.page_map.specs.Pages.{frame_of, without_pages}
use Rattle.tag_regs.specs.declared.cell.Cell.{Cell}
use Rattle.tag_regs.specs.TaggedCells.{cell_at, empty_cell, scrubbed_cell}
use Rattle.session_table.specs.declared.session.Session.{Session}
use Rattle.session_table.specs.declared.session.SlotState.{SlotState}
use Rattle.session_table.specs.declared.session.SlotState.TheVariants as state
use Rattle.session_table.specs.Sessions.{free, is_live, session_at}
use Rattle.xom_versions.specs.Store.{HoldsArea, Store, hash_entry, no_store}
use Rattle.xom_model.specs.State.{CoreState, core_with_hashes, core_with_session, core_with_way, session_of, store_of, with_cells, with_entry}
use Rattle.xom_model.specs.Access.{without_guest}
use Rattle.xom_model.specs.Operation.{is_free_state}
use Rattle.xom_model.specs.Holds.{FramesFit, IsLive}
use Rattle.xom_model.proofs.Gone.{free_if-other, less, pages-gone, pages-other, way-without}
use Rattle.xom_model.proofs.RamSize.{area_stays, frames_stay}
use Rattle.journal_laws.specs.RulesOfRecord.{IsShortCell, IsSoundSession, IsSoundWay, RulesHold, last_install_behind}
use Rattle.journal_laws.proofs.PlainBytes.{bytes-sha256, bytes-zeros}

-- ---- Lists

-- what is read of a list, or outside it, is as each element is
pub All-at : {X : Type 0} (P : X → Type 0) (xs : List X) (i : ℕ) (d : X) → P d → All P xs
    → P (get_or xs i d)
All-at P xs i d outside all = elim (less i (length xs)) [
  | inl within ↦ all i d within
  | inr past ↦ subst P (sym (get_or_past xs i d past)) outside
]

-- what holds wherever a list is read does so after one of its places got what it holds of too
pub set-each : {X : Type 0} (P : X → Type 0) (xs : List X) (place : ℕ) (x d : X)
    → (place < length xs → P x) → ((i : ℕ) → P (get_or xs i d)) → (i : ℕ)
    → P (get_or (set xs place x) i d)
set-each P xs place x d new each i = elim (eqb_tells i place) [
  | inl same ↦ elim (less place (length xs)) [
    | inl within ↦ subst P (sym (ap (λ j. get_or (set xs place x) j d) same.1 ∙ get_or-set_same xs
        place x d within)) (new within)
    | inr past ↦
        let beyond : get_or (set xs place x) i d ≡ get_or xs i d =
        get_or_past (set xs place x) i d (let long = length-set xs place x in let at : i ≡ place =
        same.1 in omega arith)
        ∙ sym (get_or_past xs i d (let at : i ≡ place = same.1 in omega arith)) in
        subst P (sym beyond) (each i)
  ]
  | inr other ↦ subst P (sym (get_or-set_other xs place i x d other.1)) (each i)
]

-- ---- Journals

KeepsRulesBehind-append : (last : ℕ) (entries : List Entry) (e : Entry)
    → KeepsRulesBehind last entries → KeepsEntry (last_install_behind last entries) e
    → KeepsRulesBehind last (entries ++ e ∷ [])
KeepsRulesBehind-append last [] e keeps next = (next, tt)
KeepsRulesBehind-append last (first ∷ entries) e keeps next =
    (keeps.0, KeepsRulesBehind-append (last_behind last first) entries e keeps.1 next)

last_install-append : (last : ℕ) (entries : List Entry) (e : Entry)
    → last_install_behind last (entries ++ e ∷ []) ≡ last_behind (last_install_behind last entries)
    e
last_install-append last [] e = refl
last_install-append last (first ∷ entries) e =
    last_install-append (last_behind last first) entries e

-- no more installs than entries
pub last_install-few : (last : ℕ) (entries : List Entry) → KeepsRulesBehind last entries
    → last_install_behind last entries ≤ last + length entries
last_install-few last [] keeps = omega arith
last_install-few last (entry.Install n slot id place at lines ∷ entries) keeps =
    let next : n ≡ last + 1 = keeps.0.0 in let low = last_install-few n entries keeps.1 in
    omega arith
last_install-few last (entry.Step n step ∷ entries) keeps =
    let low = last_install-few last entries keeps.1 in omega arith
last_install-few last (entry.Trap n why ∷ entries) keeps =
    let low = last_install-few last entries keeps.1 in omega arith
last_install-few last (entry.Seal key message ∷ entries) keeps =
    let low = last_install-few last entries keeps.1 in omega arith
last_install-few last (entry.Accept key message place ∷ entries) keeps =
    let low = last_install-few last entries keeps.1 in omega arith
last_install-few last (entry.Hash preimage digest ∷ entries) keeps =
    let low = last_install-few last entries keeps.1 in omega arith
last_install-few last (entry.Stop n why ∷ entries) keeps =
    let low = last_install-few last entries keeps.1 in omega arith
last_install-few last (entry.Kill n ∷ entries) keeps =
    let low = last_install-few last entries keeps.1 in omega arith
last_install-few last (entry.Out byte ∷ entries) keeps =
    let low = last_install-few last entries keeps.1 in omega arith

-- a free slot's session is sound, whatever the last install
pub free-IsSoundSession : (last : ℕ) → IsSoundSession last free
free-IsSoundSession last = record {
  entry = lit< tt;
  pc = lit< tt;
  npc = lit< tt;
  handler = lit< tt;
  saved = tt;
  id = bytes-zeros 16;
  id_length = lit≤ tt;
  key = (bytes-zeros 32, lit≤ tt, lit≤ tt);
  install = λ taken. absurd (cc);
}

pub free_way-sound : (sessions : List Session) → IsSoundWay sessions free_way
free_way-sound sessions = record {
  bytes = bytes-zeros 32;
  line = lit< tt;
  live =
      λ dirty. absurd (cc);
}

-- ---- Sessions

-- a slot that is live is one of the table's
pub live-within : (sessions : List Session) (slot : ℕ)
    → is_live (session_at sessions slot).state ≡ true → slot < length sessions
live-within sessions slot live = elim (less slot (length sessions)) [
  | inl within ↦ within
  | inr past ↦ absurd (let its = ap (λ (s : Session). is_live s.state)
      (get_or_past sessions slot free past) in cc)
]

-- a slot that is live isn't free
live-taken : (s : SlotState) → is_live s ≡ true → is_free_state s ≡ false
live-taken state.Fresh live = refl
live-taken state.Running live = refl
live-taken state.Paused live = refl
live-taken state.Ended live = refl
live-taken (state.Stopped why) live = refl
live-taken state.Free live = absurd (cc)

-- what was live still is, where the new session is live if the old one was
live-set : (sessions : List Session) (slot : ℕ) (s : Session) (k : ℕ)
    → (is_live (session_at sessions slot).state ≡ true → is_live s.state ≡ true)
    → is_live (session_at sessions k).state ≡ true
    → is_live (session_at (set sessions slot s) k).state ≡ true
live-set sessions slot s k stays live = elim (eqb_tells k slot) [
  | inl same ↦
      let here : is_live (session_at sessions slot).state ≡ true =
      subst (λ j. is_live (session_at sessions j).state ≡ true) same.1 live in
      subst (λ j. is_live (session_at (set sessions slot s) j).state ≡ true) (sym same.1)
      (ap (λ (t : Session). is_live t.state) (get_or-set_same sessions slot s free
      (live-within sessions slot here)) ∙ stays here)
  | inr other ↦ ap (λ (t : Session). is_live t.state) (get_or-set_other sessions slot k s free
      other.1) ∙ live
]

way-set : (sessions : List Session) (slot : ℕ) (s : Session) (way : Way)
    → (is_live (session_at sessions slot).state ≡ true → is_live s.state ≡ true)
    → IsSoundWay sessions way → IsSoundWay (set sessions slot s) way
way-set sessions slot s way stays sound = record {
  bytes = sound.bytes;
  line = sound.line;
  live =
      λ dirty. live-set sessions slot s way.slot stays (sound.live dirty);
}

-- the sessions are sound under a higher last install
pub IsSoundSession-more : (last : ℕ) (s : Session) → IsSoundSession last s
    → IsSoundSession (last + 1) s
IsSoundSession-more last s each = record {
  entry = each.entry;
  pc = each.pc;
  npc = each.npc;
  handler = each.handler;
  saved = each.saved;
  id = each.id;
  id_length = each.id_length;
  key = each.key;
  install = λ taken. let made = each.install taken in (
    made.0,
    let low : s.install ≤ last =
        made.1 in omega arith,
  );
}

-- ---- One part changes

module _ (core : CoreState) (holds : RulesHold core) where
  pub session-sound : (slot : ℕ) → IsSoundSession core.installs (session_of core slot)
  session-sound slot =
      All-at (IsSoundSession core.installs) core.sessions slot free
      (free-IsSoundSession core.installs) holds.sessions

  -- the install of a live slot was made
  pub live-came : (slot : ℕ) → IsLive core slot
      → CameBefore core.installs (session_of core slot).install
  live-came slot live = (session-sound slot).install (live-taken (session_of core slot).state live)

  -- it is sound whatever its state and its epoch
  pub session-on : (slot : ℕ) → IsLive core slot → (now : SlotState) (epoch : ℕ)
      → IsSoundSession core.installs (record (session_of core slot) { state = now; epoch = epoch })
  session-on slot live now epoch =
      let sound = session-sound slot in
      record {
        entry = sound.entry;
        pc = sound.pc;
        npc = sound.npc;
        handler = sound.handler;
        saved = sound.saved;
        id = sound.id;
        id_length = sound.id_length;
        key = sound.key;
        install = λ _. live-came slot live;
      }

  pub cell-short : (reg : ℕ) → Is32Bit (cell_at core.cells reg).value
  cell-short reg = All-at IsShortCell core.cells reg empty_cell (lit< tt) holds.cells

  pub noted-holds : (e : Entry) → KeepsEntry core.installs e
      → last_behind core.installs e ≡ core.installs → RulesHold (with_entry core e)
  noted-holds e keeps same = record {
    journal = KeepsRulesBehind-append 0 core.entries e holds.journal
        (subst (λ last. KeepsEntry last e) (sym holds.last) keeps);
    last = last_install-append 0 core.entries e ∙ ap (λ last. last_behind last e) holds.last ∙ same;
    machine = holds.machine;
    sessions = holds.sessions;
    places = holds.places;
    cells = holds.cells;
    ways = holds.ways;
    ram = holds.ram;
    size = holds.size;
    frames = holds.frames;
    areas = holds.areas;
  }

  pub with_session-holds : (slot : ℕ) (s : Session) → IsSoundSession core.installs s
      → (is_live (session_of core slot).state ≡ true → is_live s.state ≡ true)
      → RulesHold (core_with_session core slot s)
  with_session-holds slot s sound stays = record {
    journal = holds.journal;
    last = holds.last;
    machine = holds.machine;
    sessions = All-set (IsSoundSession core.installs) core.sessions slot s sound holds.sessions;
    places = let same = length-set core.sessions slot s in let few : length core.sessions ≤ 17 =
        holds.places in omega arith;
    cells = holds.cells;
    ways = λ place. way-set core.sessions slot s (way_at core.ways place) stays (holds.ways place);
    ram = holds.ram;
    size = holds.size;
    frames = holds.frames;
    areas = holds.areas;
  }

  pub with_cells-holds : (cells : List Cell) → All IsShortCell cells
      → RulesHold (with_cells core cells)
  with_cells-holds cells short = record {
    journal = holds.journal;
    last = holds.last;
    machine = holds.machine;
    sessions = holds.sessions;
    places = holds.places;
    cells = short;
    ways = holds.ways;
    ram = holds.ram;
    size = holds.size;
    frames = holds.frames;
    areas = holds.areas;
  }

  pub ways-hold : (ways : List Way) (pointers : List ℕ)
      → ((place : ℕ) → IsSoundWay core.sessions (way_at ways place))
      → RulesHold (record core { ways = ways; pointers = pointers })
  ways-hold ways pointers each = record {
    journal = holds.journal;
    last = holds.last;
    machine = holds.machine;
    sessions = holds.sessions;
    places = holds.places;
    cells = holds.cells;
    ways = each;
    ram = holds.ram;
    size = holds.size;
    frames = holds.frames;
    areas = holds.areas;
  }

  pub with_way-holds : (place : ℕ) (way : Way)
      → (place < length core.ways → IsSoundWay core.sessions way)
      → RulesHold (core_with_way core place way)
  with_way-holds place way sound =
      ways-hold (set core.ways place way) core.pointers
      (set-each (IsSoundWay core.sessions) core.ways place way free_way sound holds.ways)

  pub with_ram-holds : (ram : List ℕ) → IsBytes ram → length ram ≡ length core.ram
      → RulesHold (record core { ram = ram })
  with_ram-holds ram bytes same = record {
    journal = holds.journal;
    last = holds.last;
    machine = holds.machine;
    sessions = holds.sessions;
    places = holds.places;
    cells = holds.cells;
    ways = holds.ways;
    ram = bytes;
    size = let small : length core.ram ≤ 2 ^ 32 = holds.size in omega arith;
    frames = frames_stay core.pages core.ram ram same holds.frames;
    areas = λ slot. area_stays (store_of core slot).area core.ram ram same (holds.areas slot);
  }

  pub with_pages-holds : (pages : List (List (Option ℕ))) → FramesFit pages core.ram
      → RulesHold (record core { pages = pages })
  with_pages-holds pages fit = record {
    journal = holds.journal;
    last = holds.last;
    machine = holds.machine;
    sessions = holds.sessions;
    places = holds.places;
    cells = holds.cells;
    ways = holds.ways;
    ram = holds.ram;
    size = holds.size;
    frames = fit;
    areas = holds.areas;
  }

  -- another store in a slot, whose area lies in RAM
  pub with_store-holds : (slot : ℕ) (store : Store) → HoldsArea core.ram store
      → RulesHold (record core { stores = set core.stores slot store })
  with_store-holds slot store fit = record {
    journal = holds.journal;
    last = holds.last;
    machine = holds.machine;
    sessions = holds.sessions;
    places = holds.places;
    cells = holds.cells;
    ways = holds.ways;
    ram = holds.ram;
    size = holds.size;
    frames = holds.frames;
    areas = set-each (HoldsArea core.ram) core.stores slot store no_store (λ within. fit)
        holds.areas;
  }

  -- a guest is installed under the next number
  pub install-holds : (slot : ℕ) (s : Session) (e : Entry) → KeepsEntry core.installs e
      → last_behind core.installs e ≡ core.installs + 1 → IsSoundSession (core.installs + 1) s
      → is_live s.state ≡ true
      → RulesHold (record core {
        sessions = set core.sessions slot s;
        installs =
            core.installs + 1;
        entries = core.entries ++ e ∷ [];
      })
  install-holds slot s e keeps next sound alive = record {
    journal = KeepsRulesBehind-append 0 core.entries e holds.journal
        (subst (λ last. KeepsEntry last e) (sym holds.last) keeps);
    last = last_install-append 0 core.entries e ∙ ap (λ last. last_behind last e) holds.last ∙ next;
    machine = holds.machine;
    sessions = All-set (IsSoundSession (core.installs + 1)) core.sessions slot s sound
        (λ k d within. IsSoundSession-more core.installs (get_or core.sessions k d)
        (holds.sessions k d within));
    places = let same = length-set core.sessions slot s in let few : length core.sessions ≤ 17 =
        holds.places in omega arith;
    cells = holds.cells;
    ways = λ place. way-set core.sessions slot s (way_at core.ways place) (λ _. alive)
        (holds.ways place);
    ram = holds.ram;
    size = holds.size;
    frames = holds.frames;
    areas = holds.areas;
  }

  -- the slot is given up, with a session that is sound
  way-out : (slot : ℕ) (s : Session) (place : ℕ)
      → IsSoundWay (set core.sessions slot s) (way_at (without_slot slot core.ways) place)
  way-out slot s place = subst (IsSoundWay (set core.sessions slot s))
      (sym (way-without slot core.ways place)) (elim (eqb_tells (way_at core.ways place).slot slot) [
        | inl its ↦ subst (IsSoundWay (set core.sessions slot s)) (sym (free_if-own its.0))
            (free_way-sound (set core.sessions slot s))
        | inr other ↦
            let sound = holds.ways place in
            subst (IsSoundWay (set core.sessions slot s))
            (sym (free_if-other slot (way_at core.ways place) other.1))
            (record {
              bytes = sound.bytes;
              line = sound.line;
              live =
                  λ dirty. ap (λ (t : Session). is_live t.state) (get_or-set_other core.sessions slot
                  (way_at core.ways place).slot s free other.1) ∙ sound.live dirty;
            })
      ])
    where
      free_if-own : ((way_at core.ways place).slot == slot) ≡ true
          → free_if slot (way_at core.ways place) ≡ free_way
      free_if-own is = rw is refl

  frames-out : (slot : ℕ) → FramesFit (without_pages core.pages slot) core.ram
  frames-out slot k page frame is = elim (eqb_tells k slot) [
    | inl its ↦ absurd (let none = pages-gone core.pages slot page in
        let one : frame_of (without_pages core.pages slot) slot page ≡ Some frame =
        subst (λ j. frame_of (without_pages core.pages slot) j page ≡ Some frame) its.1 is in cc)
    | inr differs ↦ holds.frames k page frame (sym (pages-other core.pages slot k page differs.1)
        ∙ is)
  ]

  pub out-holds : (slot : ℕ) (s : Session) → IsSoundSession core.installs s
      → RulesHold (core_with_session (without_guest core slot) slot s)
  unfolding without_guest
  out-holds slot s sound = record {
    journal = holds.journal;
    last = holds.last;
    machine = holds.machine;
    sessions = All-set (IsSoundSession core.installs) core.sessions slot s sound holds.sessions;
    places = let same = length-set core.sessions slot s in let few : length core.sessions ≤ 17 =
        holds.places in omega arith;
    cells = All-map IsShortCell (scrubbed_cell slot) core.cells
        (λ k d within. cond_both ((get_or core.cells k d).tag == slot) empty_cell (get_or core.cells k d)
        IsShortCell (λ _. lit< tt) (λ _. holds.cells k d within));
    ways = way-out slot s;
    ram = holds.ram;
    size = holds.size;
    frames = frames-out slot;
    areas = holds.areas;
  }

-- the texts that were hashed
pub hashed-holds : (core : CoreState) (texts : List (List ℕ)) → All (KeepsPayload 260) texts
    → RulesHold core → RulesHold (core_with_hashes core texts)
hashed-holds core [] all holds =
    subst (λ es. RulesHold (record core { entries = es })) (sym (append-nil core.entries)) holds
hashed-holds core (text ∷ texts) all holds =
    let e = hash_entry text in
    let first = noted-holds core holds e (
      All-head (KeepsPayload 260) text texts all,
      bytes-sha256
          text,
      length-sha256 text,
      refl,
    ) refl in
    subst (λ es. RulesHold (record core { entries = es })) (append_assoc core.entries (e ∷ [])
    (map hash_entry texts))
    (hashed-holds (with_entry core e) texts (All-tail (KeepsPayload 260) text texts all) first)
