-- What is kept of a schedule that was read is what the machine wants of it.
use Rattle.std.proofs.Common.{◌≡◌, ℕ, add-one, zero, suc, ◌+◌, ◌<◌, ◌≤◌, List, [], ◌∷◌, length, get_or, Some, arith}
use Rattle.std.specs.Prelude.{All, slice_get}
use Rattle.std.specs.List.Sorted.{IsStrictlyIncreasing}
use Rattle.std.proofs.lemmas.List.{get_or_default}
use Rattle.xom_base.specs.declared.schedule.Interrupts.{Interrupts}
use Rattle.xom_base.specs.declared.schedule.Interrupts.TheVariants.{Never, Every, At}
use Rattle.xom_base.specs.declared.schedule.Poke.{Poke}
use Rattle.xom_base.specs.declared.schedule.Schedule.{Schedule}
use Rattle.xom_model.specs.Run.{AreInterrupts, IsPoke, IsSchedule}
use Rattle.xom_script.specs.RunLines.{Ascends}
use Rattle.xom_script.specs.RunRules.{KeepsInterrupts}
use Rattle.cli_runs.specs.Schedules.{IsPokeOf, KeepsSchedule}

-- numbers that ascend from a number are above it
above : (last : ℕ) (ns : List ℕ) → Ascends last ns → (k : ℕ) → k < length ns → last < get_or ns k 0
above last [] ascends k within = absurd (omega arith)
above last (n ∷ ns) ascends zero within = ascends.0
above last (n ∷ ns) ascends (suc k) within =
    let low : last < n = ascends.0 in let high = above n ns ascends.1 k (omega arith) in omega arith

-- and each is below the next
strict : (last : ℕ) (ns : List ℕ) → Ascends last ns → (k : ℕ) → suc k < length ns
    → get_or ns k 0 < get_or ns (suc k) 0
strict last [] ascends k within = absurd (omega arith)
strict last (n ∷ ns) ascends zero within = above n ns ascends.1 0 (omega arith)
strict last (n ∷ ns) ascends (suc k) within = strict n ns ascends.1 k (omega arith)

increasing : (ns : List ℕ) → Ascends 0 ns → IsStrictlyIncreasing ns
increasing ns ascends k within = rw add-one (strict 0 ns ascends k (rw add-one at within))

positive : (ns : List ℕ) → Ascends 0 ns → All (λ n. 1 ≤ n) ns
positive ns ascends k d within =
    let high = above 0 ns ascends k within in let same = get_or_default ns k d 0 within in
    omega arith

are_interrupts : (line : Interrupts) → KeepsInterrupts line → AreInterrupts line
are_interrupts Never keeps = tt
are_interrupts (Every n) keeps = keeps
are_interrupts (At times) keeps = (positive times keeps.1, increasing times keeps.1)

-- the interrupts and the pokes of a schedule that was read are those that a machine takes
pub is_schedule : (frames : ℕ) (schedule : Schedule) → KeepsSchedule frames schedule
    → IsSchedule schedule
is_schedule frames schedule keeps = record {
  interrupts = are_interrupts schedule.interrupts keeps.interrupts;
  pokes = λ k d within. let poke = keeps.pokes k d within in record {
    event = poke.event;
    some =
        poke.some;
    few = poke.few;
  };
  ascending = keeps.ascending;
}
