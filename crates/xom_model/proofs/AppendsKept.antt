-- Each part of an event appends to the journal.
use Rattle.std.proofs.Common.{◌≡◌, inl, inr, ℕ, ◌+◌, List, [], ◌∷◌, ◌++◌, map, refl, sym, ◌∙◌, ap, arith, append-nil}
use Rattle.std.proofs.lemmas.List.{append_assoc}
use Rattle.xom_base.specs.declared.entry.Entry.{Entry}
use Rattle.xom_base.specs.declared.entry.Entry.TheVariants as entry
use Rattle.xom_base.specs.declared.event.Rule.{Rule}
use Rattle.xom_base.specs.declared.event.Rule.TheVariants as rule
use Rattle.xom_seal.specs.declared.envelope.Unwrapped.{Unwrapped}
use Rattle.xom_seal.specs.Messages.{envelope_message, register_message}
use Rattle.xom_model.specs.Appends.{Appends, EventsAppend, GivesIt}
use Rattle.xom_versions.specs.Versions.{Versions}
use Rattle.xom_versions.specs.Store.{hash_entry}
use Rattle.line_cache.specs.declared.way.Way.{Way}
use Rattle.line_cache.specs.Ways.{way_at}
use Rattle.xom_model.specs.State.{CoreState, core_with_hashes, core_with_way, session_of, store_of}
use Rattle.xom_model.specs.Lines.{accept_entry, seal_entry, who_of}
use Rattle.xom_model.specs.Access.{after_raise, after_seal, after_stop, without_guest}
use Rattle.xom_model.specs.Guest.{after_exit, after_trap}
use Rattle.xom_model.specs.Operation.{after_install, after_kill, envelope_in_ram}
use Rattle.xom_model.specs.Touched.{slot_of_event}
use Rattle.xom_model.proofs.Naming.{HasOne-either, HasOne-hashes, HasOne-only}
use Rattle.xom_model.proofs.Walk.{Ends, Parts, torn_off, written_back}
use Rattle.xom_model.proofs.WalkEvents.{Deeds, walk_event}

appends_on : (a b c : CoreState) → Appends a b → Appends b c → Appends a c
appends_on a b c first then = record {
  added = first.added ++ then.added;
  entries = then.entries ∙ ap (λ es. es ++ then.added) first.entries ∙ append_assoc a.entries
      first.added then.added;
  last = let up = first.last in let on = then.last in omega arith;
  given = λ n has. elim (HasOne-either (GivesIt n) first.added then.added has) [
    | inl before ↦ let its = first.given n before in let on = then.last in
        (its.0, let low = its.1 in omega arith)
    | inr behind ↦ let its = then.given n behind in let up = first.last in
        (let high = its.0 in omega arith, its.1)
  ];
}

-- nothing, an entry or hashes, where no number is given
appends_none : (core new : CoreState) → new.entries ≡ core.entries → new.installs ≡ core.installs
    → Appends core new
appends_none core new entries same = record {
  added = [];
  entries = entries ∙ sym (append-nil core.entries);
  last = omega (arith, same);
  given = λ n nothing. absurd nothing;
}

appends_one : (core new : CoreState) (e : Entry) → new.entries ≡ core.entries ++ e ∷ []
    → new.installs ≡ core.installs → ((n : ℕ) → ¬ GivesIt n e) → Appends core new
appends_one core new e entries same none = record {
  added = e ∷ [];
  entries = entries;
  last = omega (arith, same);
  given = λ n has. absurd (none n (HasOne-only (GivesIt n) e has));
}

appends_hashes : (core new : CoreState) (texts : List (List ℕ))
    → new.entries ≡ core.entries ++ map hash_entry texts → new.installs ≡ core.installs
    → Appends core new
appends_hashes core new texts entries same = record {
  added = map hash_entry texts;
  entries = entries;
  last = omega (arith, same);
  given = λ n has. absurd (HasOne-hashes (GivesIt n) (λ text nothing. nothing) texts has);
}

raise_appends : (v : Versions) (core : CoreState) (slot line : ℕ)
    → Appends core (after_raise v core slot line)
unfolding after_raise
raise_appends v core slot line =
    appends_hashes core (after_raise v core slot line)
    (v.texts_of_raise (store_of core slot) line core.ram) refl refl

written_appends : (v : Versions) (core : CoreState) (way : Way) (version : ℕ)
    → Appends core (written_back v core way version)
unfolding after_seal
written_appends v core way version =
    let mid = after_raise v core way.slot way.line in
    appends_on core mid (written_back v core way version) (raise_appends v core way.slot way.line)
    (appends_one mid (written_back v core way version) (seal_entry (who_of mid way.slot) way.line
    version way.bytes) refl refl (λ n nothing. nothing))

stop_appends : (core : CoreState) (slot : ℕ) (why : Rule) → Appends core (after_stop core slot why)
unfolding without_guest
stop_appends core slot why =
    appends_one core (after_stop core slot why) (entry.Stop (session_of core slot).install why) refl
    refl (λ n nothing. nothing)

exit_appends : (core : CoreState) (slot : ℕ) → Appends core (after_exit core slot).0
unfolding without_guest
exit_appends core slot = appends_none core (after_exit core slot).0 refl refl

kill_appends : (v : Versions) (core : CoreState) (slot : ℕ) → Appends core (after_kill v core slot)
unfolding without_guest
kill_appends v core slot =
    appends_one core (after_kill v core slot) (entry.Kill (session_of core slot).install) refl refl
    (λ n nothing. nothing)

install_appends : (v : Versions) (core : CoreState) (slot place area : ℕ) (plain : Unwrapped)
    → Appends core (after_install v core slot place area plain)
unfolding after_install
install_appends v core slot place area plain =
    let texts = v.texts_of_build area plain.lines core.ram in
    let accept = entry.Accept core.machine.0 (envelope_message (envelope_in_ram core place)) place in
    let install = entry.Install (core.installs + 1) slot plain.id place plain.entry plain.lines in
    record {
      added = accept ∷ install ∷ map hash_entry texts;
      entries = append_assoc core.entries (accept ∷ install ∷ []) (map hash_entry texts);
      last = omega arith;
      given = λ n has. elim has [
        | inl nothing ↦ absurd nothing
        | inr rest ↦ elim rest [
          | inl is ↦ let number : core.installs + 1 ≡ n = is in (omega arith, omega arith)
          | inr hashes ↦ absurd (HasOne-hashes (GivesIt n) (λ text nothing. nothing) texts hashes)
        ]
      ];
    }

appends_parts : (v : Versions) (slot : ℕ) → Parts v slot Appends
appends_parts v slot = record {
  none = λ core. appends_none core core refl refl;
  on = appends_on;
  hash = λ core texts. appends_hashes core (core_with_hashes core texts) texts refl refl;
  accept = λ core line version place ct runs. appends_one core _ (accept_entry (who_of core slot)
      line version ct place) refl refl (λ n nothing. nothing);
  point = λ core line. appends_none core _ refl refl;
  bring = λ core place way clean may. appends_none core _ refl refl;
  seal = λ core place version way dirty raised may.
      let mid = written_back v core (way_at core.ways place) version in
      appends_on core mid (core_with_way mid place way) (written_appends v core (way_at core.ways place)
      version) (appends_none mid (core_with_way mid place way) refl refl);
  tear = λ core place torn dirty raised.
      let its = way_at core.ways place in
      appends_on core (after_raise v core its.slot its.line) (torn_off v core its torn)
      (raise_appends v core its.slot its.line)
      (stop_appends (after_raise v core its.slot its.line) its.slot (rule.TreeNode torn.level));
  stop = λ core why live. stop_appends core slot why;
  step = λ core place session step runs goes stores. appends_one core
      _ (entry.Step (session_of core slot).install step) refl refl (λ n nothing. nothing);
}

appends_ends : (slot : ℕ) → Ends slot Appends Appends
appends_ends slot = record {
  went = λ core. appends_none core core refl refl;
  after = appends_on;
  trap = λ core why runs. appends_one core (after_trap core slot why).0
      (entry.Trap (session_of core slot).install why) refl refl (λ n nothing. nothing);
  exit = λ core runs exited. exit_appends core slot;
}

appends_deeds : (v : Versions) (slot : ℕ) → Deeds v slot Appends Appends
appends_deeds v slot = record {
  sets_register = λ core reg value. appends_none core _ refl refl;
  sets_ram = λ core ram. appends_none core _ refl refl;
  enters = λ core is. appends_none core _ refl refl;
  resumes = λ core is. appends_none core _ refl refl;
  maps = λ core page frame may. appends_none core _ refl refl;
  kills = λ core some known taken. kill_appends v core slot;
  outs = λ core byte. appends_one core _ (entry.Out byte) refl refl (λ n nothing. nothing);
  installs = λ core place area plain some known is_free opens fits. install_appends v core slot
      place area plain;
  saves = λ core key ct name live same. appends_one core
      _ (entry.Seal key (register_message name ct)) refl refl (λ n nothing. nothing);
  restores = λ core key ct name place live same. appends_one core
      _ (entry.Accept key (register_message name ct) place) refl refl (λ n nothing. nothing);
  takes_back = λ core reg value live. appends_none core _ refl refl;
}

-- each event only appends
pub events_append : EventsAppend
events_append v r e bytes =
    walk_event v Appends Appends r e bytes (appends_parts v (slot_of_event r e))
    (appends_ends (slot_of_event r e)) (appends_deeds v (slot_of_event r e))
