-- A run under a kernel whose turns have short numbers is events that have, so what it recorded is
-- read again.
use Rattle.std.proofs.Common.{◌≡◌, ℕ, zero, suc, ◌+◌, cond, true, false, List, [], ◌∷◌, Option, Some, None, IfSome, All, length, refl, sym, ap, subst}
use Rattle.std.proofs.lemmas.List.Elements.{All-cons, All-nil}
use Rattle.xom_base.specs.declared.event.Event.{Event}
use Rattle.xom_base.specs.declared.event.Event.TheVariants as event
use Rattle.xom_base.specs.declared.key.Key256.{Key256}
use Rattle.xom_base.specs.declared.schedule.Poke.{Poke}
use Rattle.xom_base.specs.declared.schedule.Schedule.{Schedule}
use Rattle.journal_text.specs.JournalTexts.{journal_text}
use Rattle.journal_text.specs.Readings.{IsJournal}
use Rattle.xom_versions.specs.Versions.{VersionLaw, Versions}
use Rattle.xom_model.specs.declared.outcome.Turn.{Turn}
use Rattle.xom_model.specs.Versions.{StandsFor}
use Rattle.xom_model.specs.State.{Record, power_on}
use Rattle.xom_model.specs.Event.{on, running_slot}
use Rattle.xom_model.specs.Honest.{IsBounded}
use Rattle.xom_model.specs.Run.{after_turn, event_of, is_flagged, one_event, own_event, poke_at, run_from}
use Rattle.xom_model.specs.Seen.{View, view_of}
use Rattle.xom_model.specs.Sequence.{after_all}
use Rattle.xom_model.proofs.RunEvents.{found-keeps, one_record}
use Rattle.journal_laws.specs.RulesOfRecord.{StoresKeepRules}
use Rattle.journal_laws.specs.RulesKept.{IsPlainEvent, IsPlainPoke, IsPlainStart, KernelsAreReadAgain}
use Rattle.journal_laws.proofs.PlainBytes.{bytes-none}
use Rattle.journal_laws.proofs.RuledRuns.{journals_are_read_again}

-- the last record comes from the first by events whose numbers are short
record IsPlainRun (v : Versions) (r last : Record) : Type 0 where
  events : List (Event × List ℕ)
  plain : All IsPlainEvent events
  made : last ≡ after_all v r events

module _ (v : Versions) {K : Type 0} (told : K → View → Option (Turn × (List ℕ × K)))
    (schedule : Schedule)
    (tells : (k : K) (view : View) → IfSome (told k view)
    (λ answer. IsPlainEvent (event_of answer.0, answer.1.0)))
    (pokes : All IsPlainPoke schedule.pokes) where
  -- one event comes first
  first : (r last : Record) (e : Event) (chunk : List ℕ) → IsPlainEvent (e, chunk)
      → IsPlainRun v (on v r e chunk).0 last → IsPlainRun v r last
  first r last e chunk plain rest = record {
    events = (e, chunk) ∷ rest.events;
    plain = All-cons IsPlainEvent (e, chunk) rest.events plain rest.plain;
    made = rest.made;
  }

  module _ (n : ℕ) (next : (guests : ℕ) (r : Record) (k : K) (last : Record) → run_from v told
      schedule n guests r k ≡ Some last → IsPlainRun v r last) (guests : ℕ) (r last : Record)
      (k : K) where
    by_told : (answer : Option (Turn × (List ℕ × K)))
        → IfSome answer (λ a. IsPlainEvent (event_of a.0, a.1.0))
        → after_turn v told schedule (run_from v told schedule n) guests r answer ≡ Some last
        → IsPlainRun v r last
    by_told None plain is = absurd (cc)
    by_told (Some (t, (chunk, k'))) plain is =
        first r last (event_of t) chunk plain (next guests _ k' last is)

    by_running : (at : Option ℕ)
        → own_event v told schedule (run_from v told schedule n) guests r k at ≡ Some last
        → IsPlainRun v r last
    by_running (Some slot) is =
        first r last (event.Guest (is_flagged schedule.interrupts (guests + 1))) [] (tt, bytes-none)
        (next (guests + 1) _ k last is)
    by_running None is = by_told (told k (view_of r)) (tells k (view_of r)) is

    by_poke : (poke : Option Poke) → poke_at schedule.pokes (r.events + 1) ≡ poke
        → one_event v told schedule (run_from v told schedule n) guests r k poke ≡ Some last
        → IsPlainRun v r last
    by_poke (Some poke) listed is =
        first r last (event.Poke poke.address (length poke.bytes)) poke.bytes
        (tt, found-keeps IsPlainPoke _ schedule.pokes poke pokes listed) (next guests _ k last is)
    by_poke None none is = by_running (running_slot r) is

  run-IsPlainRun : (n guests : ℕ) (r : Record) (k : K) (last : Record)
      → run_from v told schedule n guests r k ≡ Some last → IsPlainRun v r last
  unfolding run_from
  run-IsPlainRun zero guests r k last is =
      record { events = []; plain = All-nil IsPlainEvent; made = one_record r last is }
  run-IsPlainRun (suc n) guests r k last is =
      elim r.halted as (λ b. cond b (Some r) (one_event v told schedule (run_from v told schedule n)
      guests r k (poke_at schedule.pokes (r.events + 1))) ≡ Some last → IsPlainRun v r last) [
        | true ↦ λ done. record {
          events = [];
          plain = All-nil IsPlainEvent;
          made =
              one_record r last done;
        }
        | false ↦ λ more. by_poke n (run-IsPlainRun n) guests r last k
            (poke_at schedule.pokes (r.events + 1)) refl more
      ] is

  -- whatever the kernel's state is
  pub kernel-read_again : (Stands : StandsFor) → VersionLaw v Stands → StoresKeepRules v
      → (machine : Key256) (boot : ℕ) (ram : List ℕ) (pc : ℕ) → IsPlainStart machine ram
      → (n : ℕ) (k : K) (last : Record)
      → run_from v told schedule n 0 (power_on v machine boot ram pc) k ≡ Some last
      → IsBounded last.core.entries
      → IsJournal (journal_text last.core.entries) last.core.entries
  kernel-read_again Stands law stores machine boot ram pc start n k last is room =
      let run = run-IsPlainRun n 0 (power_on v machine boot ram pc) k last is in
      let all = after_all v (power_on v machine boot ram pc) run.events in
      let same = ap (λ (r : Record). r.core.entries) run.made in
      subst (λ es. IsJournal (journal_text es) es) (sym same)
      (journals_are_read_again v Stands law stores machine boot ram pc start run.events run.plain
      (subst IsBounded same room))

pub kernels_are_read_again : (v : Versions) (Stands : StandsFor) → KernelsAreReadAgain v Stands
kernels_are_read_again v Stands law stores machine boot ram pc start told tells schedule pokes n
    last is room =
    kernel-read_again v told schedule tells pokes Stands law stores machine boot ram pc start n []
    last is room
