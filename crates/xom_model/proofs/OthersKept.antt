-- A slot that an event neither runs nor names, and none of whose lines it writes back, is left
-- alone.
use Rattle.std.proofs.Common.{◌≡◌, ◌≢◌, inl, inr, cond, ℕ, ◌+◌, ◌<◌, ◌^◌, Bool, true, false, List, [], ◌∷◌, ◌++◌, Option, None, length, map, get_or, set, refl, sym, ◌∙◌, ap, subst, arith, append-nil}
use Rattle.std.proofs.lemmas.List.{get_or-set_same, get_or-set_other, get_or_past}
use Rattle.std.proofs.lemmas.List.Elements.{filter-append, filter_map-append}
use Rattle.std.proofs.lemmas.Bool.Decides.{eqb_tells}
use Rattle.xom_base.specs.declared.entry.Entry.{Entry}
use Rattle.xom_base.specs.declared.entry.Entry.TheVariants as entry
use Rattle.xom_base.specs.declared.event.Cause.{Cause}
use Rattle.xom_base.specs.declared.event.Rule.{Rule}
use Rattle.xom_base.specs.declared.event.Rule.TheVariants as rule
use Rattle.xom_base.specs.declared.step.Step.{Step}
use Rattle.xom_base.specs.declared.step.Stored.{Stored}
use Rattle.xom_base.specs.declared.step.Stored.TheVariants as stored
use Rattle.xom_seal.specs.declared.envelope.Unwrapped.{Unwrapped}
use Rattle.xom_seal.specs.declared.names.RegName.{RegName}
use Rattle.xom_seal.specs.Messages.{envelope_message, register_message}
use Rattle.session_table.specs.declared.session.Session.{Session}
use Rattle.session_table.specs.Sessions.{free, session_after_enter, session_after_resume}
use Rattle.journal_findings.specs.Findings.{seal_in}
use Rattle.xom_versions.specs.declared.store.Torn.{Torn}
use Rattle.xom_model.specs.Honest.{Sealing, seals_of}
use Rattle.xom_versions.specs.Versions.{Versions}
use Rattle.xom_versions.specs.Store.{hash_entry, no_store}
use Rattle.line_cache.specs.declared.way.Way.{Way}
use Rattle.page_map.specs.Pages.{frame_of, no_pages, with_page}
use Rattle.line_cache.specs.Ways.{free_if, free_way, way_at, without_slot}
use Rattle.xom_model.specs.State.{CoreState, core_with_session, core_with_way, session_of, store_of, with_entry}
use Rattle.xom_model.specs.Lines.{keys_of, message_as, seal_entry, sealed_as, who_of}
use Rattle.xom_model.specs.Access.{after_raise, after_seal, after_stop, without_guest}
use Rattle.xom_model.specs.Guest.{after_exit, after_trap, core_after_step, stored_at}
use Rattle.xom_model.specs.Operation.{after_install, after_kill, envelope_in_ram, is_free_state}
use Rattle.xom_model.specs.Holds.{IsLive}
use Rattle.xom_model.specs.Named.{install_seals, is_its, names_install}
use Rattle.xom_model.specs.Stops.{IsTaken, StopsHold}
use Rattle.xom_model.specs.Touched.{slot_of_event}
use Rattle.xom_model.specs.Others.{EventsLeaveOthers, IsLeftAlone, NoneWrittenBack, StaysAside}
use Rattle.xom_model.proofs.Growth.{seals_hashes, seals_more, seals_none}
use Rattle.xom_model.proofs.Gone.{free_if-left, less, pages-other, way-without}
use Rattle.xom_model.proofs.Naming.{names-line, names-register}
use Rattle.xom_model.proofs.Walk.{Ends, MayCome, Parts, StoresIn, torn_off, written_back}
use Rattle.xom_model.proofs.WalkEvents.{Deeds, walk_event}
use Rattle.xom_model.proofs.StopsKept.{KeepsStops, live-taken, stops_deeds, stops_ends, stops_parts}
use Rattle.xom_model.proofs.WayPuts.{each_put}
use Rattle.xom_model.proofs.CountsKept.{numbers_low}

-- ---- Where nothing is done, and one part after another

aside_none : (core : CoreState) (k : ℕ) → StaysAside core core k
aside_none core k = record {
  lines = λ place is. refl;
  alone =
      λ none. record { session = refl; store = refl; pages = λ page. refl; seals = λ taken. refl };
}

alone_on : (a b c : CoreState) (k : ℕ) → IsLeftAlone a b k → IsLeftAlone b c k → IsLeftAlone a c k
alone_on a b c k first then = record {
  session = then.session ∙ first.session;
  store = then.store ∙ first.store;
  pages = λ page. then.pages page ∙ first.pages page;
  seals = λ taken.
      let same = ap (λ s. s.install) first.session in
      let now : IsTaken b k = ap (λ s. is_free_state s.state) first.session ∙ taken in
      subst (λ n. install_seals n (seals_of c.entries) ≡ install_seals n (seals_of b.entries)) same
      (then.seals now) ∙ first.seals taken;
}

aside_on : (a b c : CoreState) (k : ℕ) → StaysAside a b k → StaysAside b c k → StaysAside a c k
aside_on a b c k first then = record {
  lines = λ place is.
      let last = then.lines place is in
      last ∙ first.lines place (ap (λ w. w.slot) (sym last) ∙ is);
  alone = λ none.
      let none_first : NoneWrittenBack a b k = λ place its dirty.
      let same = none place its dirty in
      sym (then.lines place (ap (λ w. w.slot) same ∙ its)) ∙ same in
      let none_then : NoneWrittenBack b c k = λ place its dirty.
      let same = first.lines place its in
      none place (ap (λ w. w.slot) (sym same) ∙ its) (ap (λ w. w.dirty) (sym same) ∙ dirty)
      ∙ sym same in
      alone_on a b c k (first.alone none_first) (then.alone none_then);
}

-- ---- Seals

-- a Seal that doesn't name the install
sealed_apart : (n : ℕ) (seals : List Sealing) (s : Sealing) → is_its n s ≡ false
    → install_seals n (seals ++ s ∷ []) ≡ install_seals n seals
sealed_apart n seals s is =
    filter-append (is_its n) seals (s ∷ [])
    ∙ ap (λ b. install_seals n seals ++ cond b (s ∷ []) []) is
    ∙ append-nil (install_seals n seals)

not_true : (b : Bool) → (b ≡ true → ⊥) → b ≡ false
not_true true never = absurd (never refl)
not_true false never = refl

-- what stands dirty stands in the cache
dirty-within : (ways : List Way) (place : ℕ) → (way_at ways place).dirty ≡ true
    → place < length ways
dirty-within ways place dirty = elim (less place (length ways)) [
  | inl within ↦ within
  | inr past ↦ absurd (let its = ap (λ w. w.dirty) (get_or_past ways place free_way past) in cc)
]

module _ (v : Versions) (slot k : ℕ) (some : k ≢ 0) (apart : k ≢ slot) where
  -- a live slot's install isn't that of another slot that is taken
  other_install : (core : CoreState) → StopsHold core → (other : ℕ) → other ≢ k → IsLive core other
      → IsTaken core k → (session_of core other).install ≢ (session_of core k).install
  other_install core holds other differs live taken same =
      differs (holds.apart other k (live-taken (session_of core other).state live) taken same)

  install_low : (core : CoreState) → core.installs < 2 ^ 64 → StopsHold core → (other : ℕ)
      → (session_of core other).install < 2 ^ 64
  install_low core low holds other = let few = holds.numbers other in omega arith

  -- a part in which no line of the slot, nor anything else of it, changes
  left_so : (core new : CoreState)
      → ((place : ℕ) → (way_at new.ways place).slot ≡ k → way_at new.ways place ≡ way_at core.ways
      place)
      → session_of new k ≡ session_of core k → store_of new k ≡ store_of core k
      → ((page : ℕ) → frame_of new.pages k page ≡ frame_of core.pages k page)
      → (IsTaken core k → install_seals (session_of core k).install (seals_of new.entries)
      ≡ install_seals (session_of core k).install (seals_of core.entries))
      → StaysAside core new k
  left_so core new lines session store pages seals =
      record {
        lines = lines;
        alone = λ none. record {
          session = session;
          store = store;
          pages =
              pages;
          seals = seals;
        };
      }

  -- the same where the Seals are the same
  left_quietly : (core new : CoreState)
      → ((place : ℕ) → (way_at new.ways place).slot ≡ k → way_at new.ways place ≡ way_at core.ways
      place)
      → session_of new k ≡ session_of core k → store_of new k ≡ store_of core k
      → ((page : ℕ) → frame_of new.pages k page ≡ frame_of core.pages k page)
      → seals_of new.entries ≡ seals_of core.entries → StaysAside core new k
  left_quietly core new lines session store pages seals =
      left_so core new lines session store pages
      (λ taken. ap (install_seals (session_of core k).install) seals)

  -- a way that comes is none of the slot's
  come_apart : (core : CoreState) (way : Way) → MayCome slot core way → way.slot ≢ k
  come_apart core way may is = elim may [
    | inl none ↦ some (sym is ∙ ap (λ w. w.slot) none)
    | inr its ↦ apart (sym is ∙ its.1.0)
  ]

  put_lines : (core : CoreState) (place : ℕ) (way : Way) → way.slot ≢ k → (at : ℕ)
      → (way_at (set core.ways place way) at).slot ≡ k
      → way_at (set core.ways place way) at ≡ way_at core.ways at
  put_lines core place way differs at =
      each_put (λ j w. w.slot ≡ k → w ≡ way_at core.ways j) core.ways place way
      (λ _ is. absurd (differs is)) (λ j is. refl) at

  -- the lines that are left where a slot's leave
  without_lines : (core : CoreState) (other at : ℕ)
      → (way_at (without_slot other core.ways) at).slot ≡ k
      → way_at (without_slot other core.ways) at ≡ way_at core.ways at
  without_lines core other at is =
      let same = way-without other core.ways at in
      same ∙ (free_if-left other (way_at core.ways at)
      (λ none. some (sym is ∙ ap (λ w. w.slot) same ∙ none))).0

  session_other : (core : CoreState) (other : ℕ) (s : Session) → k ≢ other
      → get_or (set core.sessions other s) k free ≡ session_of core k
  session_other core other s differs = get_or-set_other core.sessions other k s free differs

  -- ---- A write-back

  module _ (core : CoreState) (low : core.installs < 2 ^ 64) (holds : StopsHold core) (place : ℕ)
      (dirty : (way_at core.ways place).dirty ≡ true) where
    abbrev victim : Way
    victim = way_at core.ways place

    abbrev texts : List (List ℕ)
    texts = v.texts_of_raise (store_of core victim.slot) victim.line core.ram

    victim_live : IsLive core victim.slot
    victim_live = holds.cached place (λ none. let clean = holds.clean place none in absurd (cc))

    store_other : victim.slot ≢ k
        → store_of (after_raise v core victim.slot victim.line) k ≡ store_of core k
    unfolding after_raise
    store_other differs =
        get_or-set_other core.stores victim.slot k _ no_store (λ is. differs (sym is))

    module _ (version : ℕ) (way : Way) (may : MayCome slot core way) where
      abbrev sealed_core : CoreState
      sealed_core = core_with_way (written_back v core victim version) place way

      sealed_ways : sealed_core.ways ≡ set core.ways place way
      unfolding after_seal after_raise
      sealed_ways = refl

      sealed_aside : victim.slot ≢ k → IsLeftAlone core sealed_core k
      unfolding after_seal after_raise
      sealed_aside differs = record {
        session = refl;
        store = store_other differs;
        pages = λ page. refl;
        seals = λ taken.
            let n = (session_of core k).install in
            let who = who_of core victim.slot in
            let ct = (sealed_as who victim.line version victim.bytes).ct in
            let s : Sealing = (
              (keys_of who victim.line version).tag.0,
              message_as who victim.line
                  version ct,
            ) in
            let names = not_true (names_install n (message_as who victim.line version ct)) (λ is.
            other_install core holds victim.slot differs victim_live taken
            (names-line n who victim.line version ct (install_low core low holds k)
            (install_low core low holds victim.slot) is)) in
            ap (install_seals n) (seals_more (core.entries ++ map hash_entry texts)
            (seal_entry who victim.line version victim.bytes) s refl ∙ ap (λ l. l ++ s ∷ [])
            (seals_hashes core.entries texts))
            ∙ sealed_apart n (seals_of core.entries) s names;
      }

      seal_aside : StaysAside core sealed_core k
      seal_aside = record {
        lines = λ at. subst (λ ways. (way_at ways at).slot ≡ k → way_at ways at ≡ way_at core.ways
            at) (sym sealed_ways) (put_lines core place way (come_apart core way may) at);
        alone = λ none. elim (eqb_tells victim.slot k) [
          | inl own ↦ absurd (
              let stays = none place own.1 dirty in
              let here = ap (λ ways. way_at ways place) sealed_ways ∙ get_or-set_same core.ways
              place way free_way (dirty-within core.ways place dirty) in
              come_apart core way may (ap (λ w. w.slot) (sym here ∙ stays) ∙ own.1))
          | inr other ↦ sealed_aside other.1
        ];
      }

    module _ (torn : Torn) where
      abbrev torn_core : CoreState
      torn_core = torn_off v core victim torn

      torn_ways : torn_core.ways ≡ without_slot victim.slot core.ways
      unfolding without_guest after_raise
      torn_ways = refl

      torn_aside : victim.slot ≢ k → IsLeftAlone core torn_core k
      unfolding without_guest after_raise
      torn_aside differs = record {
        session = session_other core victim.slot _ (λ is. differs (sym is));
        store = store_other differs;
        pages = λ page. pages-other core.pages victim.slot k page (λ is. differs (sym is));
        seals = λ taken. ap (install_seals (session_of core k).install)
            (seals_none (core.entries ++ map hash_entry texts)
            (entry.Stop (session_of core victim.slot).install (rule.TreeNode torn.level)) refl
            ∙ seals_hashes core.entries texts);
      }

      tear_aside : StaysAside core torn_core k
      tear_aside = record {
        lines = λ at. subst (λ ways. (way_at ways at).slot ≡ k → way_at ways at ≡ way_at core.ways
            at) (sym torn_ways) (without_lines core victim.slot at);
        alone = λ none. elim (eqb_tells victim.slot k) [
          | inl own ↦ absurd (
              let stays = none place own.1 dirty in
              let here : way_at torn_core.ways place ≡ free_way = ap (λ ways. way_at ways place)
              torn_ways ∙ way-without victim.slot core.ways place ∙ gone_way in
              some (sym own.1 ∙ ap (λ w. w.slot) (sym stays ∙ here)))
          | inr other ↦ torn_aside other.1
        ];
      }
        where
          gone_way : free_if victim.slot victim ≡ free_way
          gone_way = elim (eqb_tells victim.slot victim.slot) [
            | inl is ↦ rw is.0 refl
            | inr other ↦
                absurd (other.1 refl)
          ]

  -- ---- The slot that the event is about

  stop_aside : (core : CoreState) (why : Rule) → StaysAside core (after_stop core slot why) k
  unfolding without_guest
  stop_aside core why =
      left_quietly core (after_stop core slot why) (without_lines core slot)
      (session_other core slot _ apart) refl (λ page. pages-other core.pages slot k page apart)
      (seals_none core.entries (entry.Stop (session_of core slot).install why) refl)

  exit_aside : (core : CoreState) → StaysAside core (after_exit core slot).0 k
  unfolding without_guest
  exit_aside core =
      left_quietly core (after_exit core slot).0 (without_lines core slot)
      (session_other core slot _ apart) refl (λ page. pages-other core.pages slot k page apart)
      refl

  kill_aside : (core : CoreState) → StaysAside core (after_kill v core slot) k
  unfolding without_guest
  kill_aside core =
      left_quietly core (after_kill v core slot) (without_lines core slot)
      (session_other core slot _ apart) refl (λ page. pages-other core.pages slot k page apart)
      (seals_none core.entries (entry.Kill (session_of core slot).install) refl)

  stored_lines : (core : CoreState) (place : ℕ) (kept : Stored) → StoresIn core slot place kept
      → (at : ℕ) → (way_at (stored_at core.ways place kept) at).slot ≡ k
      → way_at (stored_at core.ways place kept) at ≡ way_at core.ways at
  stored_lines core place stored.Nothing own at is = refl
  stored_lines core place (stored.Bytes address count value) own at is =
      each_put (λ j w. w.slot ≡ k → w ≡ way_at core.ways j) core.ways place
      _ (λ within here. elim own [
        | inl its ↦ absurd (apart (sym here ∙ its))
        | inr past ↦ absurd (omega arith)
      ]) (λ j here. refl) at is

  step_aside : (core : CoreState) (place : ℕ) (session : Session) (step : Step)
      → StoresIn core slot place step.stored
      → StaysAside core (core_after_step core slot place session step) k
  step_aside core place session step stores =
      left_quietly core (core_after_step core slot place session step)
      (stored_lines core place step.stored stores) (session_other core slot session apart) refl
      (λ page. refl)
      (seals_none core.entries (entry.Step (session_of core slot).install step) refl)

  turn_aside : (core : CoreState) (s : Session) → StaysAside core (core_with_session core slot s) k
  turn_aside core s =
      left_quietly core (core_with_session core slot s) (λ place is. refl)
      (session_other core slot s apart) refl (λ page. refl) refl

  trap_aside : (core : CoreState) (why : Cause) → StaysAside core (after_trap core slot why).0 k
  trap_aside core why =
      left_quietly core (after_trap core slot why).0 (λ place is. refl)
      (session_other core slot _ apart) refl (λ page. refl)
      (seals_none core.entries (entry.Trap (session_of core slot).install why) refl)

  page_aside : (core : CoreState) (page : ℕ) (frame : Option ℕ)
      → StaysAside core (record core { pages = with_page core.pages slot page frame }) k
  page_aside core page frame =
      left_quietly core (record core { pages = with_page core.pages slot page frame })
      (λ place is. refl) refl refl (λ p. ap (λ pages. get_or pages p None)
      (get_or-set_other core.pages slot k _ no_pages apart)) refl

  install_aside : (core : CoreState) (place area : ℕ) (plain : Unwrapped)
      → StaysAside core (after_install v core slot place area plain) k
  unfolding after_install
  install_aside core place area plain =
      let two = entry.Accept core.machine.0 (envelope_message (envelope_in_ram core place)) place
      ∷ entry.Install (core.installs + 1) slot plain.id place plain.entry plain.lines ∷ [] in
      left_quietly core (after_install v core slot place area plain) (λ at is. refl)
      (session_other core slot _ apart) (get_or-set_other core.stores slot k _ no_store apart)
      (λ page. refl)
      (seals_hashes (core.entries ++ two) (v.texts_of_build area plain.lines core.ram)
      ∙ filter_map-append seal_in core.entries two ∙ append-nil (seals_of core.entries))

  -- one entry that is no Seal
  note_aside : (core : CoreState) (e : Entry) → seal_in e ≡ None
      → StaysAside core (with_entry core e) k
  note_aside core e none =
      left_quietly core (with_entry core e) (λ place is. refl) refl refl (λ page. refl)
      (seals_none core.entries e none)

  saved_aside : (core : CoreState) → core.installs < 2 ^ 64 → StopsHold core
      → (key ct : List ℕ) (name : RegName) → IsLive core slot
      → name.install ≡ (session_of core slot).install
      → StaysAside core (with_entry core (entry.Seal key (register_message name ct))) k
  saved_aside core low holds key ct name live same =
      let s : Sealing = (key, register_message name ct) in
      left_so core (with_entry core (entry.Seal key (register_message name ct))) (λ place is. refl)
      refl refl (λ page. refl) (λ taken.
      let n = (session_of core k).install in
      let names = not_true (names_install n (register_message name ct)) (λ is.
      other_install core holds slot (λ own. apart (sym own)) live taken
      (sym same ∙ names-register n name ct (install_low core low holds k)
      (let top = install_low core low holds slot in omega (arith, same)) is)) in
      ap (install_seals n) (seals_more core.entries (entry.Seal key (register_message name ct)) s
      refl) ∙ sealed_apart n (seals_of core.entries) s names)

  -- ---- The relation

  -- what is kept of stops, and the slot is left alone where none of its lines was written back
  pub record LeavesAside (core new : CoreState) : Type 0 where
    pub stops : KeepsStops core new
    pub aside : new.installs < 2 ^ 64 → StopsHold core → StaysAside core new k

  leaves_on : (a b c : CoreState) → LeavesAside a b → LeavesAside b c → LeavesAside a c
  leaves_on a b c first then =
      let stops = (stops_parts v slot).on a b c first.stops then.stops in
      record {
        stops = stops;
        aside = λ low holds.
            let low_mid : b.installs < 2 ^ 64 = (let up = then.stops.grows in omega arith) in
            aside_on a b c k (first.aside low_mid holds)
            (then.aside low (first.stops.keeps low_mid holds));
      }

  leaves : (core new : CoreState) → KeepsStops core new → StaysAside core new k
      → LeavesAside core new
  leaves core new stops aside = record { stops = stops; aside = λ low holds. aside }

  leaves_if : (core new : CoreState) → KeepsStops core new
      → (core.installs < 2 ^ 64 → StopsHold core → StaysAside core new k) → LeavesAside core new
  leaves_if core new stops aside =
      record { stops = stops; aside = λ low holds. aside (let up = stops.grows in omega arith) holds }

  leaves_parts : Parts v slot LeavesAside
  leaves_parts =
      let p = stops_parts v slot in
      record {
        none = λ core. leaves core core (p.none core) (aside_none core k);
        on = leaves_on;
        hash = λ core texts. leaves core _ (p.hash core texts)
            (left_quietly core _ (λ place is. refl) refl refl (λ page. refl)
            (seals_hashes core.entries texts));
        accept = λ core line version place ct runs. leaves core _ (p.accept core line version place
            ct runs) (note_aside core _ refl);
        point = λ core line. leaves core _ (p.point core line)
            (left_quietly core _ (λ place is. refl) refl refl (λ page. refl) refl);
        bring = λ core place way clean may. leaves core _ (p.bring core place way clean may)
            (left_quietly core _ (put_lines core place way (come_apart core way may)) refl refl
            (λ page. refl) refl);
        seal = λ core place version way dirty raised may. leaves_if core
            _ (p.seal core place version way dirty raised may) (λ low holds. seal_aside core low holds
            place dirty version way may);
        tear = λ core place torn dirty raised. leaves_if core
            _ (p.tear core place torn dirty raised) (λ low holds. tear_aside core low holds place
            dirty torn);
        stop = λ core why live. leaves core _ (p.stop core why live) (stop_aside core why);
        step = λ core place session step runs goes stores. leaves core
            _ (p.step core place session step runs goes stores) (step_aside core place session step
            stores);
      }

  leaves_ends : Ends slot LeavesAside LeavesAside
  leaves_ends =
      let e = stops_ends slot in
      record {
        went = λ core. leaves core core (e.went core) (aside_none core k);
        after = leaves_on;
        trap = λ core why runs. leaves core _ (e.trap core why runs) (trap_aside core why);
        exit = λ core runs exited. leaves core _ (e.exit core runs exited) (exit_aside core);
      }

  leaves_deeds : Deeds v slot LeavesAside LeavesAside
  leaves_deeds =
      let d = stops_deeds v slot in
      record {
        sets_register = λ core reg value. leaves core _ (d.sets_register core reg value)
            (left_quietly core _ (λ place is. refl) refl refl (λ page. refl) refl);
        sets_ram = λ core ram. leaves core _ (d.sets_ram core ram)
            (left_quietly core _ (λ place is. refl) refl refl (λ page. refl) refl);
        enters = λ core is. leaves core _ (d.enters core is)
            (turn_aside core (session_after_enter (session_of core slot)));
        resumes = λ core is. leaves core _ (d.resumes core is)
            (turn_aside core (session_after_resume (session_of core slot)));
        maps = λ core page frame may. leaves core _ (d.maps core page frame may)
            (page_aside core page frame);
        kills = λ core from to taken. leaves core _ (d.kills core from to taken) (kill_aside core);
        outs = λ core byte. leaves core _ (d.outs core byte)
            (note_aside core (entry.Out byte) refl);
        installs = λ core place area plain from to is_free opens fits. leaves core
            _ (d.installs core place area plain from to is_free opens fits)
            (install_aside core place area plain);
        saves = λ core key ct name live same. leaves_if core _ (d.saves core key ct name live same)
            (λ low holds. saved_aside core low holds key ct name live same);
        restores = λ core key ct name place live same. leaves core
            _ (d.restores core key ct name place live same) (note_aside core _ refl);
        takes_back = λ core reg value live. leaves core _ (d.takes_back core reg value live)
            (left_quietly core _ (λ place is. refl) refl refl (λ page. refl) refl);
      }

pub events_leave_others : EventsLeaveOthers
events_leave_others v r e bytes few counted holds k some apart =
    (walk_event v (LeavesAside v (slot_of_event r e) k some apart)
    (LeavesAside v (slot_of_event r e) k some apart) r e bytes
    (leaves_parts v (slot_of_event r e) k some apart) (leaves_ends v (slot_of_event r e) k some
    apart) (leaves_deeds v (slot_of_event r e) k some apart)).aside
    (numbers_low v r e bytes few counted) holds
