-- The rules hold at power-on, and each event keeps them.
use Rattle.std.proofs.Common.{◌≡◌, ℕ, ◌+◌, ◌^◌, ◌<◌, ◌≤◌, inl, inr, Bool, List, Option, Some, None, Result, Ok, Err, length, get_or, take, replicate, lit<, lit≤, refl, sym, subst, arith}
use Rattle.std.proofs.lemmas.Bool.{cond_both}
use Rattle.std.proofs.lemmas.List.{get_or-replicate, get_or_past, length-replicate}
use Rattle.std.proofs.lemmas.List.Elements.{All-nil, All-replicate}
use Rattle.hex.specs.Hex.{IsBytes}
use Rattle.xom_base.specs.declared.event.Cause.{Cause}
use Rattle.xom_base.specs.declared.event.Event.{Event}
use Rattle.xom_base.specs.declared.event.Event.TheVariants as event
use Rattle.xom_base.specs.declared.event.Op.{Op}
use Rattle.xom_base.specs.declared.key.Key256.{Key256}
use Rattle.journal_round_trip.specs.KeepsRules.{Is32Bit, KeepsPayload}
use Rattle.line_cache.specs.Ways.{free_way, no_ways, way_at}
use Rattle.tag_regs.specs.TaggedCells.{all_empty, empty_cell}
use Rattle.session_table.specs.Sessions.{free, none_held}
use Rattle.xom_versions.specs.Chip.{chip}
use Rattle.xom_versions.specs.Store.{HoldsArea, Store, no_store}
use Rattle.xom_versions.specs.Versions.{VersionLaw, Versions}
use Rattle.xom_model.specs.declared.outcome.NullFault.{NullFault}
use Rattle.xom_model.specs.Versions.{StandsFor}
use Rattle.xom_model.specs.State.{CoreState, Record, core_at_start, ram_holds_range, with_cells}
use Rattle.xom_model.specs.Guest.{guest}
use Rattle.xom_model.specs.Operation.{operation}
use Rattle.xom_model.specs.Null.{Answer, null_step, ram_after_write}
use Rattle.xom_model.specs.Event.{after_kernel_write, after_operation, guest_turn, null_asked, null_turn, on, open_in, ran_on, running_slot, told_in, with_open, with_ram}
use Rattle.xom_model.specs.Honest.{IsBounded}
use Rattle.xom_model.proofs.Gone.{less}
use Rattle.xom_model.proofs.StartKept.{none_mapped}
use Rattle.xom_model.proofs.RamSize.{length-null, length-poked}
use Rattle.xom_model.proofs.Turns.{running-runs}
use Rattle.journal_laws.specs.RulesOfRecord.{StoresKeepRules, IsShortCell, IsSoundSession, IsSoundWay, RecordKeepsRules, RulesHold}
use Rattle.journal_laws.specs.RulesKept.{EventsKeepRules, IsPlainEvent, IsPlainStart, StartKeepsRules}
use Rattle.journal_laws.proofs.PlainBytes.{bytes-take, bytes-written}
use Rattle.journal_laws.proofs.RuledGuest.{GoesWell, guest-well}
use Rattle.journal_laws.proofs.RuledNull.{GoesOpen, IsShortAsk, null-open}
use Rattle.journal_laws.proofs.RuledOperations.{DoesWell, operation-well}
use Rattle.journal_laws.proofs.RuledParts.{free-IsSoundSession, free_way-sound, last_install-few, live-within, with_cells-holds, with_ram-holds}

-- ---- Versions on chip

pub chip_rules : StoresKeepRules chip
chip_rules = record {
  texts_of_build = λ area lines ram bytes. All-nil (KeepsPayload 260);
  texts_of_version = λ store line ram bytes. All-nil (KeepsPayload 260);
  texts_of_raise = λ store line ram bytes. All-nil (KeepsPayload 260);
  ram_after_build = λ area lines ram bytes. bytes;
  ram_after_raise = λ store line ram bytes. bytes;
  level_of_version = λ store line ram torn is. absurd (cc);
  level_of_raise = λ store line ram torn is. absurd (cc);
  no_area = λ ram. tt;
}

-- ---- Power-on

no_ways-sound : (place : ℕ) → IsSoundWay none_held (way_at no_ways place)
unfolding no_ways
no_ways-sound place = elim (less place 128) [
  | inl within ↦ subst (IsSoundWay none_held)
      (sym (get_or-replicate 128 place free_way free_way within)) (free_way-sound none_held)
  | inr past ↦ subst (IsSoundWay none_held)
      (sym (get_or_past (replicate 128 free_way) place free_way
      (omega (arith, length-replicate 128 free_way)))) (free_way-sound none_held)
]

no_store-fits : (ram : List ℕ) → HoldsArea ram no_store
unfolding no_store
no_store-fits ram = tt

stores-fit : (ram : List ℕ) (blank : Store) (slot : ℕ) → HoldsArea ram blank
    → HoldsArea ram (get_or (replicate 17 blank) slot no_store)
stores-fit ram blank slot fits = elim (less slot 17) [
  | inl within ↦ subst (HoldsArea ram) (sym (get_or-replicate 17 slot blank no_store within)) fits
  | inr past ↦ subst (HoldsArea ram)
      (sym (get_or_past (replicate 17 blank) slot no_store
      (omega (arith, length-replicate 17 blank)))) (no_store-fits ram)
]

core-at-start : (v : Versions) → StoresKeepRules v → (machine : Key256) (boot : ℕ) (ram : List ℕ)
    → IsPlainStart machine ram → RulesHold (core_at_start v machine boot ram)
unfolding none_held all_empty
core-at-start v hashes machine boot ram start = record {
  journal = tt;
  last = refl;
  machine = start.key;
  sessions = All-replicate (IsSoundSession 0) 17 free (free-IsSoundSession 0);
  places = lit≤ tt;
  cells = All-replicate IsShortCell 34 empty_cell (lit< tt);
  ways = no_ways-sound;
  ram = start.bytes;
  size = start.size;
  frames = λ slot page frame is. absurd (let none = none_mapped slot page in cc);
  areas = λ slot. stores-fit ram v.blank_store slot (hashes.no_area ram);
}

pub start_keeps_rules : (v : Versions) → StartKeepsRules v
start_keeps_rules v hashes machine boot ram pc start =
    record {
      core = core-at-start v hashes machine boot ram start;
      npc = omega arith;
      status =
          lit< tt;
      cause = lit< tt;
      who = lit< tt;
    }

-- ---- Events

-- the next install's number has 64 bits
few-installs : (core : CoreState) → IsBounded core.entries → RulesHold core
    → core.installs + 1 < 2 ^ 64
few-installs core room rules =
    let low = last_install-few 0 core.entries rules.journal in
    let same = rules.last in
    let small : length core.entries < 2 ^ 63 = room in
    omega arith

poked-bytes : (ram : List ℕ) (address : ℕ) (bytes : List ℕ) → IsBytes ram → IsBytes bytes
    → IsBytes (ram_after_write ram address bytes)
unfolding ram_after_write
poked-bytes ram address bytes each more =
    cond_both (ram_holds_range ram address (length bytes)) _ ram IsBytes
    (λ _. bytes-written ram address bytes each more) (λ _. each)

operated-keeps : (r : Record) (op : Op) (after : CoreState × ℕ) → DoesWell after
    → RecordKeepsRules r → RecordKeepsRules (after_operation r op after).0
operated-keeps r op after well rules = record {
  core = well.0;
  npc = rules.npc;
  status =
      well.1;
  cause = rules.cause;
  who = rules.who;
}

ran_on-keeps : (r : Record) (slot : ℕ) (result : CoreState × Option Cause) → GoesWell result
    → Is32Bit slot → RecordKeepsRules r → RecordKeepsRules (ran_on r slot result).0
ran_on-keeps r slot (core, None) well short rules =
    record {
      core = well.0;
      npc = rules.npc;
      status = rules.status;
      cause = rules.cause;
      who =
          rules.who;
    }
ran_on-keeps r slot (core, Some why) well short rules =
    record { core = well.0; npc = rules.npc; status = rules.status; cause = well.1; who = short }

with_ram-keeps : (r : Record) (address : ℕ) (bytes : List ℕ) → IsBytes bytes → RecordKeepsRules r
    → RecordKeepsRules (with_ram r (ram_after_write r.core.ram address bytes))
with_ram-keeps r address bytes each rules = record {
  core = with_ram-holds r.core rules.core (ram_after_write r.core.ram address bytes)
      (poked-bytes r.core.ram address bytes rules.core.ram each)
      (length-poked r.core.ram address bytes);
  npc = rules.npc;
  status = rules.status;
  cause = rules.cause;
  who = rules.who;
}

wrote-keeps : (r : Record) (address : ℕ) (bytes : List ℕ) → IsBytes bytes → RecordKeepsRules r
    → RecordKeepsRules (after_kernel_write r address bytes).0
wrote-keeps r address bytes each rules =
    let next = with_ram-keeps r address bytes each rules in
    record {
      core = next.core;
      npc = next.npc;
      status = cond_both (ram_holds_range r.core.ram address (length bytes)) 0 4 Is32Bit (λ _. lit< tt)
          (λ _. lit< tt);
      cause = next.cause;
      who = next.who;
    }

module _ (v : Versions) (Stands : StandsFor) (law : VersionLaw v Stands)
    (hashes : StoresKeepRules v) where
  turn-keeps : (r : Record) (interrupt : Bool) (at : Option ℕ) → running_slot r ≡ at
      → RecordKeepsRules r → RecordKeepsRules (guest_turn v r interrupt at).0
  turn-keeps r interrupt None is rules = rules
  turn-keeps r interrupt (Some slot) is rules =
      let runs = running-runs r.core slot is in
      let within : slot < length r.core.sessions = live-within r.core.sessions slot
      (rw runs refl) in
      let places : length r.core.sessions ≤ 17 = rules.core.places in
      ran_on-keeps r slot (guest v r.core slot interrupt) (guest-well v Stands law hashes slot
      interrupt r.core runs rules.core) (omega arith) rules

  asked-keeps : (r : Record) (at : ℕ) (answer : Result (Option Op) NullFault) → IsShortAsk answer
      → IsBounded r.core.entries → RecordKeepsRules r
      → RecordKeepsRules (null_asked v r at answer).0
  asked-keeps r at (Err why) short room rules =
      record {
        core = rules.core;
        npc = rules.npc;
        status = rules.status;
        cause = rules.cause;
        who =
            rules.who;
      }
  asked-keeps r at (Ok None) short room rules =
      record {
        core = rules.core;
        npc = rules.npc;
        status = rules.status;
        cause = rules.cause;
        who =
            rules.who;
      }
  asked-keeps r at (Ok (Some op)) short room rules =
      operated-keeps r op (operation v r.core op) (operation-well v Stands law hashes r.core op
      short (few-installs r.core room rules.core) rules.core) rules

  null-keeps : (r : Record) (answer : Answer) → GoesOpen answer
      → length answer.0.ram ≡ length r.core.ram → IsBounded r.core.entries → RecordKeepsRules r
      → RecordKeepsRules (null_turn v r answer).0
  null-keeps r answer goes same room rules =
      let s = answer.0 in
      let first = with_cells-holds r.core rules.core s.cells goes.0.cells in
      let second = with_ram-holds (with_cells r.core s.cells) first s.ram goes.0.ram same in
      asked-keeps (with_open r s) r.pc answer.1 goes.1 room
      (record {
        core = second;
        npc = goes.0.npc;
        status = rules.status;
        cause = rules.cause;
        who =
            rules.who;
      })

  pub events_keep_rules_of : (r : Record) (e : Event) (bytes : List ℕ) → IsPlainEvent (e, bytes)
      → IsBounded r.core.entries → RecordKeepsRules r → RecordKeepsRules (on v r e bytes).0
  unfolding on
  events_keep_rules_of r (event.Do op) bytes plain room rules =
      operated-keeps r op (operation v r.core op) (operation-well v Stands law hashes r.core op
      plain.0 (few-installs r.core room rules.core) rules.core) rules
  events_keep_rules_of r (event.Guest interrupt) bytes plain room rules =
      turn-keeps r interrupt (running_slot r) refl rules
  events_keep_rules_of r event.Null bytes plain room rules =
      null-keeps r (null_step (told_in r) (open_in r))
      (null-open (told_in r) (open_in r) (record {
        status = rules.status;
        cause = rules.cause;
        who =
            rules.who;
      }) (record { cells = rules.core.cells; ram = rules.core.ram; npc = rules.npc }))
      (length-null (told_in r) (open_in r)) room rules
  events_keep_rules_of r (event.Write address count) bytes plain room rules =
      wrote-keeps r address (take count bytes) (bytes-take count bytes plain.1) rules
  events_keep_rules_of r (event.Poke address count) bytes plain room rules =
      with_ram-keeps r address (take count bytes) (bytes-take count bytes plain.1) rules

pub events_keep_rules : (v : Versions) (Stands : StandsFor) → EventsKeepRules v Stands
events_keep_rules v Stands law hashes r e bytes plain room rules =
    events_keep_rules_of v Stands law hashes r e bytes plain room rules
