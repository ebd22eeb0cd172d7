-- The rules hold through whole runs.
use Rattle.std.proofs.Common.{◌≡◌, ℕ, ◌≤◌, ◌<◌, ◌^◌, List, [], ◌∷◌, ◌++◌, All, length, arith}
use Rattle.std.proofs.lemmas.List.{length-append}
use Rattle.std.proofs.lemmas.List.Elements.{All-head, All-tail}
use Rattle.xom_base.specs.declared.event.Event.{Event}
use Rattle.journal_round_trip.proofs.TextLaws.{printed_is_read}
use Rattle.xom_versions.specs.Versions.{VersionLaw, Versions}
use Rattle.xom_model.specs.Versions.{StandsFor}
use Rattle.xom_model.specs.State.{CoreState, Record, power_on}
use Rattle.xom_model.specs.Event.{on}
use Rattle.xom_model.specs.Honest.{IsBounded}
use Rattle.xom_model.specs.Sequence.{after_all}
use Rattle.xom_model.proofs.Onward.{Onward, onward_event}
use Rattle.journal_laws.specs.RulesOfRecord.{StoresKeepRules, RecordKeepsRules}
use Rattle.journal_laws.specs.RulesKept.{IsPlainEvent, JournalsAreReadAgain, JournalsKeepRules}
use Rattle.journal_laws.proofs.RuledEvents.{events_keep_rules, start_keeps_rules}

-- a journal gets no shorter
onward-grows : (core new : CoreState) → Onward core new → length core.entries ≤ length new.entries
onward-grows core new onward =
    let longer = length-append core.entries onward.more.0 in
    let same : new.entries ≡ core.entries ++ onward.more.0 = onward.more.1 in
    rw same (omega arith)

all-grow : (v : Versions) (r : Record) (events : List (Event × List ℕ))
    → length r.core.entries ≤ length (after_all v r events).core.entries
all-grow v r [] = omega arith
all-grow v r (first ∷ events) =
    let next = (on v r first.0 first.1).0 in
    let one = onward-grows r.core next.core (onward_event v r first.0 first.1) in
    let others = all-grow v next events in
    omega arith

module _ (v : Versions) (Stands : StandsFor) (law : VersionLaw v Stands)
    (hashes : StoresKeepRules v) where
  pub all-keep : (r : Record) (events : List (Event × List ℕ)) → All IsPlainEvent events
      → IsBounded (after_all v r events).core.entries → RecordKeepsRules r
      → RecordKeepsRules (after_all v r events)
  all-keep r [] plain room rules = rules
  all-keep r (first ∷ events) plain room rules =
      let next = (on v r first.0 first.1).0 in
      let few : length (after_all v next events).core.entries < 2 ^ 63 = room in
      let long = all-grow v r (first ∷ events) in
      all-keep next events (All-tail IsPlainEvent first events plain) room
      (events_keep_rules v Stands law hashes r first.0 first.1 (All-head IsPlainEvent first events
      plain) (omega arith) rules)

pub journals_keep_rules : (v : Versions) (Stands : StandsFor) → JournalsKeepRules v Stands
journals_keep_rules v Stands law hashes machine boot ram pc start events plain room =
    (all-keep v Stands law hashes (power_on v machine boot ram pc) events plain room
    (start_keeps_rules v hashes machine boot ram pc start)).core.journal

pub journals_are_read_again : (v : Versions) (Stands : StandsFor) → JournalsAreReadAgain v Stands
journals_are_read_again v Stands law hashes machine boot ram pc start events plain room =
    printed_is_read (after_all v (power_on v machine boot ram pc) events).core.entries
    (journals_keep_rules v Stands law hashes machine boot ram pc start events plain room)
