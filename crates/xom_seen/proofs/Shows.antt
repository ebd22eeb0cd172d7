-- A part of an event shows what it changed by its entries alone: a relation between cores that is
-- reflexive and transitive.
use Rattle.std.proofs.Common.{◌≡◌, ◌≢◌, inl, inr, ℕ, zero, suc, ◌+◌, ◌<◌, ◌≤◌, ◌^◌, ◌==◌, Bool, true, false, if◌then◌else◌, List, [], ◌∷◌, ◌++◌, length, map, refl, sym, ◌∙◌, ap, subst, arith, slice_set, slice_index_or, replicate, Option, Some, None, Result, Ok, Err, ◌⊎◌}
use Rattle.std.proofs.lemmas.List.{map-set, get_or-set_same, get_or-set_other, get_or_past, length-set, append_assoc, append-nil}
use Rattle.std.proofs.lemmas.Bool.{cond_both}
use Rattle.std.proofs.lemmas.Bool.Decides.{eqb_tells}
use Rattle.xom_base.specs.declared.entry.Entry.{Entry}
use Rattle.xom_base.specs.declared.entry.Entry.TheVariants as entry
use Rattle.xom_base.specs.declared.event.Rule.{Rule}
use Rattle.xom_base.specs.declared.event.Rule.TheVariants as rule
use Rattle.xom_base.specs.declared.step.Step.{Step}
use Rattle.xom_seal.specs.declared.names.LineName.{LineName}
use Rattle.xom_seal.specs.declared.names.LineName.TheVariants.{Image}
use Rattle.xom_seal.specs.Messages.{line_message}
use Rattle.xom_seal.specs.Sealing.{line_tag, unsealed_line}
use Rattle.xom_seal.specs.declared.line.SealedLine.{SealedLine}
use Rattle.page_map.specs.Pages.{frame_of, without_pages}
use Rattle.line_cache.specs.declared.way.Way.{Way}
use Rattle.line_cache.specs.Ways.{free_if, free_way, new_way, place_for, place_of_line, pointers_after, way_at}
use Rattle.tag_regs.specs.declared.cell.Cell.{Cell}
use Rattle.tag_regs.specs.TaggedCells.{cells_after_scrub}
use Rattle.session_table.specs.declared.session.Session.{Session}
use Rattle.session_table.specs.declared.session.SlotState.{SlotState}
use Rattle.session_table.specs.declared.session.SlotState.TheVariants as state
use Rattle.session_table.specs.declared.session.SlotView.{SlotView}
use Rattle.session_table.specs.Sessions.{free, is_live, session_after_leaving}
use Rattle.xom_versions.specs.declared.store.Torn.{Torn}
use Rattle.xom_model.specs.declared.reach.Reach.{Reach}
use Rattle.xom_model.specs.declared.reach.Reach.TheVariants as reach
use Rattle.xom_versions.specs.Store.{hash_entry}
use Rattle.xom_versions.specs.Versions.{Raised, RaisesInTheOpen, Versions}
use Rattle.xom_model.specs.State.{CoreState, core_with_hashes, core_with_session, core_with_way, page_of, session_of, store_of, with_entry}
use Rattle.xom_model.specs.Lines.{Who, accept_entry, ct_place, is_image_at, keys_of, line_name_of, run_name, seal_entry, sealed_as, sealed_at, who_of, with_sealed}
use Rattle.xom_model.specs.Access.{access, after_eviction, after_flush, after_leaving, after_opening, after_raise, after_seal, after_stop, after_victim, and_then, brought, cleared_at, or_stopped, reach_after_placing, reach_after_victim, reach_by_cache, reach_by_frame, reach_in_frame, sealed_by_raise, taken_out, with_pointers, without_guest}
use Rattle.xom_model.specs.Guest.{cells_after_step, core_after_step, given_out, mask_after, mask_released, with_release, with_writes}
use Rattle.xom_model.specs.Holds.{IsLive, IsOf}
use Rattle.xom_model.specs.Seen.{shown_cell, shown_slot}
use Rattle.xom_model.proofs.AccessKept.{found-IsOf}
use Rattle.xom_model.proofs.Gone.{less, way-without}
use Rattle.xom_model.proofs.Walk.{raised_for, torn_off, written_back}
use Rattle.xom_seen.specs.Emission.{Broke, LineSealed, Made, Signal, SlotLine, line_named, line_pushed_out, names_of}
use Rattle.xom_seen.specs.SealOwners.{GiveAll, Gives, IsLineOf}
use Rattle.xom_seen.specs.SeenNext.{Sight, after_signal, after_signals, cells_named_for_slot, dropped_seen, mask_named, sight_slot}
use Rattle.xom_seen.proofs.Sights.{after_signals-append, area-stored, area_at-is, areas-gone, areas-same, areas-session, areas_of, live_within, mask_named-is, shown_scrubbed, shown_tagged, shown_untagged, sight_of, slot_at-is}
use Rattle.xom_seen.proofs.Readings.{AreApart, Reads, named-told, read-append, read-hashes, read-line, slot_of_install-is}

-- ---- What entries give away

module _ (sessions : List Session) (ready : Bool) where
  -- of two parts, one behind the other
  pub give-append : (xs ys : List Entry) (one two : List Signal) → GiveAll sessions ready xs one
      → GiveAll sessions ready ys two → GiveAll sessions ready (xs ++ ys) (one ++ two)
  give-append [] ys one two none more =
      subst (λ told. GiveAll sessions ready ys (told ++ two)) (sym none) more
  give-append (e ∷ xs) ys one two gives more = (
    gives.0,
    gives.1 ++ two,
    gives.2,
    give-append xs ys gives.1 two gives.3 more,
    ap (λ told. told ++ two) gives.4 ∙ append_assoc gives.0 gives.1 two,
  )

  -- of one entry
  pub give-one : (e : Entry) (told : List Signal) → Gives sessions ready e told
      → GiveAll sessions ready (e ∷ []) told
  give-one e told gives = (told, [], gives, refl, sym (append-nil told))

  -- hashes give nothing away
  pub give-hashes : (texts : List (List ℕ)) → GiveAll sessions ready (map hash_entry texts) []
  give-hashes [] = refl
  give-hashes (text ∷ texts) = ([], [], refl, give-hashes texts, refl)

module _ (before : CoreState) where
  -- a live slot was live before the event, with the same guest
  abbrev pub WasLive : ℕ → Session → Type 0
  WasLive k s =
      IsLive before k × (s.install ≡ (session_of before k).install)
      × (s.id ≡ (session_of before k).id)

  -- slots that are live were so before the event, with installs of their own, and what has still to
  -- be sealed is of a live slot
  pub record Knows (core : CoreState) : Type 0 where
    pub live : (k : ℕ) → IsLive core k → WasLive k (session_of core k)
    pub dirty : (place : ℕ) → (way_at core.ways place).dirty ≡ true
        → IsLive core (way_at core.ways place).slot
    pub places : length core.sessions ≡ 17
    pub apart : AreApart before.sessions
    pub places_before : length before.sessions ≡ 17

  pub knows_as : (core new : CoreState) → new.sessions ≡ core.sessions → new.ways ≡ core.ways
      → Knows core → Knows new
  knows_as core new sessions ways knows = record {
    live = subst (λ list. (k : ℕ) → is_live (slice_index_or list k free).state ≡ true
        → WasLive k (slice_index_or list k free)) (sym sessions) knows.live;
    dirty = subst (λ list. (place : ℕ) → (way_at new.ways place).dirty ≡ true
        → is_live (slice_index_or list (way_at new.ways place).slot free).state ≡ true) (sym sessions)
        (subst (λ ways. (place : ℕ) → (way_at ways place).dirty ≡ true
        → IsLive core (way_at ways place).slot) (sym ways) knows.dirty);
    places = ap (λ list. length list) sessions ∙ knows.places;
    apart = knows.apart;
    places_before = knows.places_before;
  }

-- The core before the whole event is the one whose slots the emission names. A message is one of
-- this line.
module _ (v : Versions) (raised : Raised) (law : RaisesInTheOpen v raised) (before : CoreState)
    (ready : Bool) (slot address : ℕ) (whose : List ℕ → SlotLine) where
  -- what is seen after these signals
  abbrev pub shown_by : Sight → List Signal → Sight
  shown_by s signals = after_signals v raised slot address s signals

  -- what is known of a core within the event
  abbrev pub Known : CoreState → Type 0
  Known core = Knows before core

  -- the entries are read so
  abbrev pub ReadAs : List Entry → List Signal → Type 0
  ReadAs entries told = Reads before.sessions slot ready whose entries told

  -- the new core looks as the entries that were added tell
  pub record Tells (base new : CoreState) : Type 0 where
    pub added : List Entry
    pub signals : List Signal
    pub entries : new.entries ≡ base.entries ++ added
    pub gives : Known base → GiveAll before.sessions ready added signals
    pub reads : Known base → ReadAs added signals
    pub sight : Known base → sight_of new ≡ shown_by (sight_of base) signals

  -- and a further part may follow
  pub record Shows (base new : CoreState) : Type 0 where
    pub tells : Tells base new
    pub knows : Known base → Known new

  pub tells_then : (base mid new : CoreState) → Shows base mid → Tells mid new → Tells base new
  tells_then base mid new first second =
      let one = first.tells in
      record {
        added = one.added ++ second.added;
        signals = one.signals ++ second.signals;
        entries = second.entries ∙ ap (λ es. es ++ second.added) one.entries
            ∙ append_assoc base.entries one.added second.added;
        gives = λ knows. give-append before.sessions ready one.added second.added one.signals
            second.signals (one.gives knows) (second.gives (first.knows knows));
        reads = λ knows. read-append before.sessions slot ready whose one.added second.added
            one.signals second.signals (one.reads knows) (second.reads (first.knows knows));
        sight = λ knows.
            second.sight (first.knows knows)
            ∙ ap (λ s. shown_by s second.signals) (one.sight knows)
            ∙ sym (after_signals-append v raised slot address (sight_of base) one.signals
            second.signals);
      }

  pub shows_then : (base mid new : CoreState) → Shows base mid → Shows mid new → Shows base new
  shows_then base mid new first second =
      record {
        tells = tells_then base mid new first second.tells;
        knows =
            λ knows. second.knows (first.knows knows);
      }

  -- nothing was done
  pub shows_same : (core : CoreState) → Shows core core
  shows_same core = record {
    tells = record {
      added = [];
      signals = [];
      entries =
          sym (append-nil core.entries);
      gives = λ knows. refl;
      reads = λ knows. refl;
      sight = λ knows. refl;
    };
    knows =
        λ knows. knows;
  }

  -- ---- Entries that show nothing

  -- nothing that is seen was changed
  pub shows_quiet : (base new : CoreState) (added : List Entry)
      → new.entries ≡ base.entries ++ added → GiveAll before.sessions ready added []
      → ReadAs added [] → sight_of new ≡ sight_of base → (Known base → Known new) → Shows base new
  shows_quiet base new added entries quiet silent sight knows =
      record {
        tells = record {
          added = added;
          signals = [];
          entries = entries;
          gives =
              λ _. quiet;
          reads = λ _. silent;
          sight = λ _. sight;
        };
        knows = knows;
      }

  pub shows_hashed : (core : CoreState) (texts : List (List ℕ))
      → Shows core (core_with_hashes core texts)
  unfolding sight_of
  shows_hashed core texts =
      shows_quiet core (core_with_hashes core texts) (map hash_entry texts) refl
      (give-hashes before.sessions ready texts)
      (read-hashes before.sessions slot ready whose texts) refl
      (knows_as before core (core_with_hashes core texts) refl refl)

  pub shows_accepted : (core : CoreState) (key message : List ℕ) (place : ℕ)
      → Shows core (with_entry core (entry.Accept key message place))
  unfolding sight_of
  shows_accepted core key message place =
      let new = with_entry core (entry.Accept key message place) in
      shows_quiet core new (entry.Accept key message place ∷ []) refl
      (give-one before.sessions ready (entry.Accept key message place) [] refl) refl refl
      (knows_as before core new refl refl)

  -- the pointers of the cache aren't seen
  pub shows_pointed : (core : CoreState) (pointers : List ℕ)
      → Shows core (record core { pointers = pointers })
  unfolding sight_of
  shows_pointed core pointers =
      let new = record core { pointers = pointers } in
      shows_quiet core new [] (sym (append-nil core.entries)) refl refl refl
      (knows_as before core new refl refl)

  -- nor are its lines, where no line becomes dirty
  pub shows_put : (core : CoreState) (place : ℕ) (way : Way) → way.dirty ≡ false
      → Shows core (record core { ways = slice_set core.ways place way })
  unfolding sight_of
  shows_put core place way clean =
      let new = record core { ways = slice_set core.ways place way } in
      shows_quiet core new [] (sym (append-nil core.entries)) refl refl refl (λ knows. record {
        live = knows.live;
        dirty = λ at dirty. elim (eqb_tells at place) [
          | inl is ↦ absurd (let none = clean-there at is.1 dirty in cc)
          | inr other ↦
              let same : way_at new.ways at ≡ way_at core.ways at = get_or-set_other core.ways
              place at way _ other.1 in
              subst (λ w. IsLive core w.slot) (sym same)
              (knows.dirty at (sym (ap (λ w. w.dirty) same) ∙ dirty))
        ];
        places = knows.places;
        apart = knows.apart;
        places_before = knows.places_before;
      })
    where
      clean-there : (at : ℕ) → at ≡ place → (way_at (slice_set core.ways place way) at).dirty ≡ true
          → true ≡ false
      clean-there at is dirty = each (less at (length core.ways))
        where
          each : (at < length core.ways) ⊎ (length core.ways ≤ at) → true ≡ false
          each (inl within) =
              sym dirty ∙ ap (λ j. (way_at (slice_set core.ways place way) j).dirty) is
              ∙ ap (λ w. w.dirty) (get_or-set_same core.ways place way free_way
              (subst (λ j. j < length core.ways) is within)) ∙ clean
          each (inr past) =
              sym dirty
              ∙ ap (λ w. w.dirty) (get_or_past (slice_set core.ways place way) at free_way
              (let sized = length-set core.ways place way in omega arith))

  -- ---- A slot leaves for good

  -- how that looks
  pub removed-is : (core : CoreState) (k : ℕ) (session : Session) → k < length core.sessions
      → k < 17 → is_live session.state ≡ false
      → sight_of (core_with_session (without_guest core k) k session) ≡ dropped_seen (sight_of core) k
      (shown_slot session)
  unfolding sight_of without_guest
  removed-is core k session within low dead =
      let new = core_with_session (without_guest core k) k session in
      let sight : List Cell → List SlotView → List (Option ℕ) → Sight =
      λ cs ss areas. record (sight_of core) {
        cells = cs;
        slots = ss;
        pages = without_pages core.pages k;
        areas = areas;
      } in
      ap (λ cs. sight cs (map shown_slot (slice_set core.sessions k session)) (areas_of new))
      (shown_scrubbed k core.cells)
      ∙ ap (λ ss. sight (cells_after_scrub k (map shown_cell core.cells)) ss (areas_of new))
      (map-set shown_slot core.sessions k session)
      ∙ ap (λ areas. sight (cells_after_scrub k (map shown_cell core.cells))
      (slice_set (map shown_slot core.sessions) k (shown_slot session)) areas)
      (areas-gone core new k session refl refl within low dead)

  pub dropped-is : (core : CoreState) (k : ℕ) (final : SlotState) → k < length core.sessions
      → k < 17 → is_live final ≡ false
      → sight_of (after_leaving core k final) ≡ dropped_seen (sight_of core) k
      (record (sight_slot (sight_of core) k) { state = final })
  dropped-is core k final within low dead =
      removed-is core k (session_after_leaving (session_of core k) final) within low dead
      ∙ ap (λ (s : SlotView). dropped_seen (sight_of core) k (record s { state = final }))
      (sym (slot_at-is core k))

  stopped-is : (core : CoreState) (k : ℕ) (why : Rule) → k < length core.sessions → k < 17
      → sight_of (after_stop core k why) ≡ dropped_seen (sight_of core) k
      (record (sight_slot (sight_of core) k) { state = state.Stopped why })
  unfolding sight_of without_guest
  stopped-is core k why within low = dropped-is core k (state.Stopped why) within low refl

  -- what is known stays so, of the slots that are left
  knows_stopped : (core : CoreState) (k : ℕ) (why : Rule) → k < length core.sessions → Known core
      → Known (after_stop core k why)
  unfolding without_guest
  knows_stopped core k why within knows = record {
    live = λ other live. elim (eqb_tells other k) [
      | inl is ↦ absurd (let dead : is_live (session_of new k).state ≡ false =
          ap (λ (s : Session). is_live s.state) here in let alive =
          subst (λ j. is_live (session_of new j).state ≡ true) is.1 live in cc)
      | inr differs ↦
          let same = there other differs.1 in
          subst (WasLive before other) (sym same)
          (knows.live other (sym (ap (λ (s : Session). is_live s.state) same) ∙ live))
    ];
    dirty = λ place dirty.
        let is : way_at new.ways place ≡ free_if k (way_at core.ways place) =
        way-without k core.ways place in
        let its = stays (way_at core.ways place) (sym (ap (λ w. w.dirty) is) ∙ dirty) in
        let was = knows.dirty place (sym (ap (λ w. w.dirty) its.0) ∙ sym (ap (λ w. w.dirty) is)
        ∙ dirty) in
        subst (λ w. IsLive new w.slot) (sym (is ∙ its.0)) (ap (λ (s : Session). is_live s.state)
        (there (way_at core.ways place).slot its.1) ∙ was);
    places = length-set core.sessions k session ∙ knows.places;
    apart = knows.apart;
    places_before = knows.places_before;
  }
    where
      session : Session
      session = session_after_leaving (session_of core k) (state.Stopped why)

      new : CoreState
      new = after_stop core k why

      here : session_of new k ≡ session
      here = get_or-set_same core.sessions k session free within

      there : (other : ℕ) → other ≢ k → session_of new other ≡ session_of core other
      there other differs = get_or-set_other core.sessions k other session free differs

      stays : (w : Way) → (free_if k w).dirty ≡ true → (free_if k w ≡ w) × (w.slot ≢ k)
      stays w dirty = elim (eqb_tells w.slot k) [
        | inl is ↦
            absurd (let none : (free_if k w).dirty ≡ false = rw is.0 refl in cc)
        | inr other ↦
            (rw other.0 refl, other.1)
      ]

  -- a stop shows the slot and the rule
  pub shows_stop : (core : CoreState) (k : ℕ) (why : Rule) → (Known core → IsLive core k)
      → Shows core (after_stop core k why)
  unfolding without_guest
  shows_stop core k why live = record {
    tells = record {
      added = entry.Stop (session_of core k).install why ∷ [];
      signals = Broke k why ∷ [];
      entries = refl;
      gives = λ knows.
          let was = knows.live k (live knows) in
          give-one before.sessions ready (entry.Stop (session_of core k).install why)
          (Broke k why ∷ []) (record { slot = k; live = was.0; named = sym was.1; given = refl });
      reads = λ knows.
          let was = knows.live k (live knows) in
          ap (λ j. Broke j why ∷ [])
          (slot_of_install-is before.sessions k (session_of core k).install knows.apart
          (live_within before k was.0) was.0 (sym was.1));
      sight = λ knows. stopped-is core k why (live_within core k (live knows)) (let within =
          live_within core k (live knows) in let places = knows.places in omega arith);
    };
    knows = λ knows. knows_stopped core k why (live_within core k (live knows)) knows;
  }

  -- ---- A write-back

  -- each area stays
  raising-areas : (core : CoreState) (k line : ℕ)
      → areas_of (after_raise v core k line) ≡ areas_of core
  unfolding after_raise
  raising-areas core k line = areas-same core (after_raise v core k line) (λ other.
      ap (λ area. if is_live (session_of core other).state then area else None)
      (area-stored core.stores k (v.store_after_raise (store_of core k) line core.ram) other
      (law.area (store_of core k) line core.ram)))

  -- a torn raise shows nothing
  pub shows_torn : (core : CoreState) (k line : ℕ) (torn : Torn)
      → v.answer_of_raise (store_of core k) line core.ram ≡ Err torn
      → Shows core (after_raise v core k line)
  unfolding after_raise sight_of
  shows_torn core k line torn is =
      let new = after_raise v core k line in
      let texts = v.texts_of_raise (store_of core k) line core.ram in
      shows_quiet core new (map hash_entry texts) refl (give-hashes before.sessions ready texts)
      (read-hashes before.sessions slot ready whose texts)
      (ap (λ ram. let s : Sight = record {
        cells = map shown_cell core.cells;
        slots =
            map shown_slot core.sessions;
        pages = core.pages;
        areas = areas_of new;
        ram =
            ram;
        installs = core.installs;
      } in s) (law.torn (store_of core k) line core.ram torn is)
      ∙ ap (λ areas. let s : Sight = record {
        cells = map shown_cell core.cells;
        slots =
            map shown_slot core.sessions;
        pages = core.pages;
        areas = areas;
        ram = core.ram;
        installs =
            core.installs;
      } in s) (raising-areas core k line))
      (knows_as before core new refl refl)

  -- the name under which a line is sealed is one of the line
  named-line : (who : Who) (s : Session) (line version : ℕ) → who.install ≡ s.install
      → who.id ≡ s.id → IsLineOf s line (line_name_of who line version)
  named-line who s line version install id =
      cond_both (is_image_at who line version) (Image who.id line) (run_name who line version)
      (λ name. IsLineOf s line name) (λ _. (id, refl)) (λ _. (install, refl))

  -- a line that is written back shows its ciphertext and tag, which then lie in its frame
  module _ (core : CoreState) (k line version : ℕ) (bytes : List ℕ)
      (is : v.answer_of_raise (store_of core k) line core.ram ≡ Ok version) where
    abbrev after : CoreState
    after = after_seal v (after_raise v core k line) k line bytes version

    abbrev sealed : SealedLine
    sealed = sealed_as (who_of core k) line version bytes

    abbrev hashes : List Entry
    hashes = map hash_entry (v.texts_of_raise (store_of core k) line core.ram)

    abbrev seal : Entry
    seal = seal_entry (who_of core k) line version bytes

    sealed-sight : IsLive core k → k < 17
        → sight_of after ≡ after_signal v raised slot address (sight_of core)
        (LineSealed k line sealed.ct sealed.tag)
    unfolding after_raise after_seal sight_of
    sealed-sight live low =
        let sight : List (Option ℕ) → List ℕ → Sight =
        λ areas ram. record (sight_of core) { areas = areas; ram = ram } in
        let frame = frame_of core.pages k (page_of line) in
        ap (λ areas. sight areas after.ram) (raising-areas core k line)
        ∙ ap (λ ram. sight (areas_of core) (with_sealed ram frame line sealed))
        (law.done (store_of core k) line version core.ram is)
        ∙ ap (λ area. sight (areas_of core) (with_sealed (raised area line core.ram) frame line
        sealed)) (sym (area_at-is core k low live))

    abbrev seal_signal : Signal
    seal_signal = LineSealed k line sealed.ct sealed.tag

    abbrev pub its_name : LineName
    its_name = line_name_of (who_of core k) line version

    its-name : WasLive before k (session_of core k) → IsLineOf (session_of before k) line its_name
    its-name was = named-line (who_of core k) (session_of before k) line version was.1 was.2

    -- its message is one of this line
    abbrev IsOfLine : CoreState → Type 0
    IsOfLine base = Known base
        → whose (line_message its_name sealed.ct) ≡ record { slot = k; line = line }

    seal-gives : WasLive before k (session_of core k)
        → Gives before.sessions ready seal (seal_signal ∷ [])
    unfolding line_tag
    seal-gives was = inl (record {
      slot = k;
      line = line;
      ct = sealed.ct;
      name = line_name_of (who_of core k) line version;
      live = was.0;
      named = named-line (who_of core k) (session_of before k) line version was.1 was.2;
      text = refl;
      given = refl;
    })

    seal-reads : WasLive before k (session_of core k)
        → whose (line_message its_name sealed.ct) ≡ record { slot = k; line = line }
        → ReadAs (seal ∷ []) (seal_signal ∷ [])
    unfolding line_tag
    seal-reads was is_its =
        read-line before.sessions slot ready whose (keys_of (who_of core k) line version).tag.0
        its_name sealed.ct (record { slot = k; line = line }) is_its (its-name was)

    pub shows_sealed : (Known core → IsLive core k) → IsOfLine core → Shows core after
    unfolding after_raise after_seal
    shows_sealed holds its = record {
      tells = record {
        added = hashes ++ seal ∷ [];
        signals = seal_signal ∷ [];
        entries = append_assoc core.entries hashes (seal ∷ []);
        gives = λ knows.
            give-append before.sessions ready hashes (seal ∷ []) [] (seal_signal ∷ [])
            (give-hashes before.sessions ready (v.texts_of_raise (store_of core k) line core.ram))
            (give-one before.sessions ready seal (seal_signal ∷ [])
            (seal-gives (knows.live k (holds knows))));
        reads = λ knows.
            read-append before.sessions slot ready whose hashes (seal ∷ []) [] (seal_signal ∷ [])
            (read-hashes before.sessions slot ready whose
            (v.texts_of_raise (store_of core k) line core.ram))
            (seal-reads (knows.live k (holds knows)) (its knows));
        sight = λ knows.
            let live = holds knows in
            sealed-sight live (let within = live_within core k live in let places = knows.places in
            omega arith);
      };
      knows = knows_as before core after refl refl;
    }

  -- ---- A private access of the slot: where it doesn't stop the slot, the slot is live still

  abbrev pub IfGoing : CoreState × Reach → Type 0
  IfGoing (core, reach.Ready place) = IsLive core slot
  IfGoing (core, reach.PageFault page) = IsLive core slot
  IfGoing (core, reach.Stopped why) = Unit {0}

  -- an access shows what it changed
  pub record Reaches (base : CoreState) (after : CoreState × Reach) : Type 0 where
    pub shows : Shows base after.0
    pub live : IfGoing after

  reaches_then : (base mid : CoreState) (after : CoreState × Reach) → Shows base mid
      → Reaches mid after → Reaches base after
  reaches_then base mid after first rest =
      record { shows = shows_then base mid after.0 first rest.shows; live = rest.live }

  -- a torn tree shows its slot and level
  shows_tear : (core : CoreState) (place : ℕ) (torn : Torn) → (way_at core.ways place).dirty ≡ true
      → raised_for v core (way_at core.ways place) ≡ Err torn
      → Shows core (torn_off v core (way_at core.ways place) torn)
  unfolding after_raise
  shows_tear core place torn dirty is =
      let way = way_at core.ways place in
      shows_then core (after_raise v core way.slot way.line) _ (shows_torn core way.slot way.line
      torn is)
      (shows_stop (after_raise v core way.slot way.line) way.slot (rule.TreeNode torn.level)
      (λ knows. knows.dirty place dirty))

  -- a line is put in its place, after what stood dirty there was written back
  -- a line that leaves the cache for this one is the one whose message is made
  abbrev pub IsPushedOut : CoreState → ℕ → Type 0
  IsPushedOut core line = (message : List ℕ) → whose message ≡ line_pushed_out core line

  module _ (core : CoreState) (line : ℕ) (bytes : List ℕ) (live : IsLive core slot)
      (out : IsPushedOut core line) where
    abbrev pointed : CoreState
    pointed = with_pointers core line

    abbrev place : ℕ
    place = place_for core.ways core.pointers line

    abbrev victim : Way
    victim = way_at core.ways place

    abbrev fresh_way : Way
    fresh_way = new_way slot line bytes

    filled : (mid : CoreState) → IsLive mid slot → Shows pointed mid
        → Reaches core (core_with_way mid place fresh_way, reach.Ready place)
    filled mid alive shows = record {
      shows = shows_then core pointed
          _ (shows_pointed core (pointers_after core.ways core.pointers line))
          (shows_then pointed mid _ shows (shows_put mid place fresh_way refl));
      live = alive;
    }

    by_answer : victim.dirty ≡ true → (answer : Result ℕ Torn)
        → raised_for v pointed victim ≡ answer
        → Reaches core (reach_after_victim v victim.slot place slot line bytes
        (or_stopped v victim.slot
        (sealed_by_raise v (after_raise v pointed victim.slot victim.line) victim.slot victim.line
        victim.bytes answer)))
    unfolding without_guest after_raise after_seal
    by_answer dirty (Ok version) is =
        filled (written_back v pointed victim version) live
        (shows_sealed pointed victim.slot victim.line version victim.bytes is
        (λ knows. knows.dirty place dirty) (λ _. out _))
    by_answer dirty (Err torn) is =
        let off = torn_off v pointed victim torn in
        let shows : Shows pointed off = shows_tear pointed place torn dirty is in
        elim (eqb_tells victim.slot slot) [
          | inl own ↦ rw own.0 (record {
            shows = shows_then core pointed off
                (shows_pointed core (pointers_after core.ways core.pointers line)) shows;
            live = tt;
          })
          | inr other ↦
              let same : session_of off slot ≡ session_of core slot = get_or-set_other core.sessions
              victim.slot slot (session_after_leaving (session_of core victim.slot)
              (state.Stopped (rule.TreeNode torn.level))) free (λ is_own. other.1 (sym is_own)) in
              rw other.0 (filled off (ap (λ (s : Session). is_live s.state) same ∙ live) shows)
        ]

    by_dirty : (dirty : Bool) → victim.dirty ≡ dirty
        → Reaches core (reach_after_victim v victim.slot place slot line bytes
        (after_victim v pointed victim dirty))
    by_dirty false clean = filled pointed live (shows_same pointed)
    by_dirty true dirty = by_answer dirty (raised_for v pointed victim) refl

    reaches_placed : Reaches core (reach_after_placing v core slot line bytes)
    unfolding reach_after_placing cleared_at
    reaches_placed = by_dirty victim.dirty refl

  reaches_stopped : (core : CoreState) (why : Rule) → IsLive core slot
      → Reaches core (after_stop core slot why, reach.Stopped why)
  reaches_stopped core why live = record { shows = shows_stop core slot why (λ _. live); live = tt }

  reaches_opened : (core : CoreState) (line version place : ℕ) (ct : List ℕ)
      (bytes : Option (List ℕ))
      → IsLive core slot → IsPushedOut core line → Reaches core (after_opening v core slot line version place ct bytes)
  reaches_opened core line version from ct None live out = reaches_stopped core (rule.LineTag line) live
  reaches_opened core line version from ct (Some bytes) live out =
      let accepted = with_entry core (accept_entry (who_of core slot) line version ct from) in
      reaches_then core accepted _ (shows_accepted core _ _ from)
      (reaches_placed accepted line bytes live out)

  reaches_brought : (core : CoreState) (line frame : ℕ) (answer : Result ℕ Torn) → IsLive core slot
      → IsPushedOut core line → Reaches core (brought v core slot line frame answer)
  reaches_brought core line frame (Err torn) live out =
      reaches_stopped core (rule.TreeNode torn.level) live
  reaches_brought core line frame (Ok version) live out =
      cond_both (version == 0) (reach_after_placing v core slot line (replicate 32 0))
      (reach_by_frame v core slot line frame version) (λ result. Reaches core result)
      (λ _. reaches_placed core line (replicate 32 0) live out)
      (λ _. reaches_opened core line version (ct_place frame line)
      (sealed_at core.ram frame line).ct
      (unsealed_line (line_name_of (who_of core slot) line version)
      (keys_of (who_of core slot) line version) (sealed_at core.ram frame line)) live out)

  reaches_looked : (core : CoreState) (line frame : ℕ) (at : Option ℕ) → IsLive core slot
      → IsPushedOut core line → Reaches core (reach_by_cache v core slot line frame at)
  reaches_looked core line frame (Some at) live out = record { shows = shows_same core; live = live }
  reaches_looked core line frame None live out =
      let asked = core_with_hashes core (v.texts_of_version (store_of core slot) line core.ram) in
      reaches_then core asked
      _ (shows_hashed core (v.texts_of_version (store_of core slot) line core.ram))
      (reaches_brought asked line frame (v.answer_of_version (store_of core slot) line core.ram)
      live out)

  reaches_mapped : (core : CoreState) (line : ℕ) (frame : Option ℕ) → IsLive core slot
      → IsPushedOut core line → Reaches core (reach_in_frame v core slot line frame)
  reaches_mapped core line None live out = record { shows = shows_same core; live = live }
  reaches_mapped core line (Some frame) live out =
      reaches_looked core line frame (place_of_line core.ways slot line) live out

  pub reaches_access : (core : CoreState) (line : ℕ) → IsLive core slot
      → IsPushedOut core line → Reaches core (access v core slot line)
  unfolding access
  reaches_access core line live out =
      reaches_mapped core line (frame_of core.pages slot (page_of line)) live out

  -- ---- A flush

  -- the lines of the slot are read off their messages
  abbrev pub IsNamed : Type 0
  IsNamed = (message : List ℕ) → whose message ≡ line_named before.sessions slot message

  module _ (core : CoreState) (place line : ℕ) (below : line < 2 ^ 32)
      (its : IsOf (way_at core.ways place) slot line) (named : IsNamed) where
    abbrev its_way : Way
    its_way = way_at core.ways place

    -- the line is the one that its message names
    of_way : (name : LineName) (ct : List ℕ)
        → IsLineOf (session_of before its_way.slot) its_way.line name
        → whose (line_message name ct) ≡ record { slot = its_way.slot; line = its_way.line }
    of_way name ct is =
        named (line_message name ct)
        ∙ ap (λ k. line_named before.sessions k (line_message name ct)) (sym its.0)
        ∙ named-told before.sessions its_way.slot its_way.line name ct is
        (subst (λ n. n < 2 ^ 32) (sym its.1) below)

    taken_answer : its_way.dirty ≡ true → (answer : Result ℕ Torn)
        → raised_for v core its_way ≡ answer
        → Shows core (after_eviction place
        (or_stopped v its_way.slot
        (sealed_by_raise v (after_raise v core its_way.slot its_way.line) its_way.slot
        its_way.line its_way.bytes answer))).0
    taken_answer dirty (Ok version) is =
        let mid = written_back v core its_way version in
        shows_then core mid _ (shows_sealed core its_way.slot its_way.line version its_way.bytes is
        (λ knows. knows.dirty place dirty)
        (λ knows. of_way _ _ (its-name core its_way.slot its_way.line version its_way.bytes is
        (knows.live its_way.slot (knows.dirty place dirty)))))
        (shows_put mid place free_way refl)
    taken_answer dirty (Err torn) is = shows_tear core place torn dirty is

    taken_dirty : (dirty : Bool) → its_way.dirty ≡ dirty
        → Shows core (after_eviction place (after_victim v core its_way dirty)).0
    taken_dirty false clean = shows_put core place free_way refl
    taken_dirty true dirty = taken_answer dirty (raised_for v core its_way) refl

    shows_taken_at : Shows core (after_eviction place (cleared_at v core place)).0
    unfolding cleared_at
    shows_taken_at = taken_dirty its_way.dirty refl

  shows_taken : (core : CoreState) (line : ℕ) (at : Option ℕ) → line < 2 ^ 32 → IsNamed
      → place_of_line core.ways slot line ≡ at → Shows core (taken_out v core at).0
  shows_taken core line None below named is = shows_same core
  shows_taken core line (Some at) below named is =
      shows_taken_at core at line below (found-IsOf core.ways slot line at is) named

  then_shows : (core : CoreState) (first : CoreState × Option Rule) (rest : CoreState → CoreState
      × Option Rule)
      → Shows core first.0 → ((mid : CoreState) → Shows mid (rest mid).0)
      → Shows core (and_then first rest).0
  then_shows core (mid, None) rest shows more = shows_then core mid (rest mid).0 shows (more mid)
  then_shows core (mid, Some why) rest shows more = shows

  pub shows_flushed : (count line : ℕ) (core : CoreState) → line + count ≤ 2 ^ 32 → IsNamed
      → Shows core (after_flush v slot count line core).0
  unfolding after_flush
  shows_flushed zero line core below named = shows_same core
  shows_flushed (suc count) line core below named =
      then_shows core (taken_out v core (place_of_line core.ways slot line))
      (after_flush v slot count (line + 1))
      (shows_taken core line (place_of_line core.ways slot line) (omega arith) named refl)
      (λ mid. shows_flushed count (line + 1) mid (omega arith) named)

  -- ---- A step

  -- a step shows the names of what it wrote, what it released and its end
  module _ (core : CoreState) (place : ℕ) (session : Session) (step : Step)
      (some : (slot == 0) ≡ false) (live : IsLive core slot) (same : is_live session.state ≡ is_live
      (session_of core slot).state)
      (is : shown_slot session ≡ record (shown_slot (session_of core slot)) {
        mask =
            mask_after (session_of core slot).mask step;
        signal_ready = ready;
      }) where
    abbrev signal : Signal
    signal = Made (names_of step.writes) step.released step.end ready

    stepped_cells : map shown_cell (cells_after_step slot core.cells step) ≡ with_release
        (cells_named_for_slot slot (map shown_cell core.cells) (names_of step.writes)) step.released
    stepped_cells =
        shown_untagged (with_writes slot core.cells step.writes) step.released
        ∙ ap (λ cs. with_release cs step.released) (shown_tagged slot core.cells step.writes some)

    abbrev stepped_view : SlotView
    stepped_view = record (sight_slot (sight_of core) slot) {
      mask =
          mask_released (mask_named (sight_slot (sight_of core) slot).mask (names_of step.writes))
          step.released;
      signal_ready = ready;
    }

    stepped_slot : shown_slot session ≡ stepped_view
    stepped_slot =
        is
        ∙ ap (λ m. record (shown_slot (session_of core slot)) {
          mask =
              mask_released m step.released;
          signal_ready = ready;
        })
        (sym (mask_named-is (session_of core slot).mask step.writes))
        ∙ ap (λ (s : SlotView). record s {
          mask =
              mask_released (mask_named s.mask (names_of step.writes)) step.released;
          signal_ready =
              ready;
        }) (sym (slot_at-is core slot))

    pub stepped-is : sight_of (core_after_step core slot place session step) ≡ after_signal v raised
        slot address (sight_of core) signal
    unfolding sight_of
    stepped-is =
        let new = core_after_step core slot place session step in
        let sight : List Cell → List SlotView → List (Option ℕ) → Sight =
        λ cs ss areas. record (sight_of core) {
          cells = cs;
          slots = ss;
          areas = areas;
          ram = given_out core.ram step.released;
        } in
        let cells = with_release (cells_named_for_slot slot (map shown_cell core.cells) (names_of step.writes))
        step.released in
        ap (λ cs. sight cs (map shown_slot (slice_set core.sessions slot session)) (areas_of new))
        stepped_cells
        ∙ ap (λ ss. sight cells ss (areas_of new)) (map-set shown_slot core.sessions slot session
        ∙ ap (λ s. slice_set (map shown_slot core.sessions) slot s) stepped_slot)
        ∙ ap (λ areas. sight cells (slice_set (map shown_slot core.sessions) slot stepped_view)
        areas) (areas-session core new slot session refl refl (live_within core slot live) same)

    pub tells_stepped : Tells core (core_after_step core slot place session step)
    tells_stepped =
        let made = entry.Step (session_of core slot).install step in
        record {
          added = made ∷ [];
          signals = signal ∷ [];
          entries = refl;
          gives =
              λ _. give-one before.sessions ready made (signal ∷ []) refl;
          reads = λ _. refl;
          sight = λ _. stepped-is;
        }
