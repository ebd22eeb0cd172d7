-- Null code changes nothing of what is kept but that cells get tag 0; RAM and the null pair are no
-- part of it.
use Rattle.std.proofs.Common.{◌≡◌, ℕ, ◌-◌, ◌%◌, List, length, set, refl, sym, subst, Result, Ok, Err}
use Rattle.std.proofs.lemmas.Bool.{cond_both}
use Rattle.xom_model.specs.declared.outcome.NullFault.TheVariants as null
use Rattle.xom_base.specs.declared.event.OwnFault.{OwnFault}
use Rattle.xom_base.specs.declared.step.Writes.{Writes}
use Rattle.xom_base.specs.declared.step.Writes.TheVariants as writes
use Rattle.xom_owners.specs.declared.owner.Owner.{Owner}
use Rattle.mips_effect.specs.declared.effects.Effect.{Effect}
use Rattle.mips_effect.specs.declared.wish.Wish.{Wish}
use Rattle.mips_effect.specs.declared.wish.Wish.TheVariants as wish
use Rattle.mips_effect.specs.Effects.{write_of_register as set_register}
use Rattle.mips_plain.specs.Memory.{low_bytes}
use Rattle.tag_regs.specs.declared.cell.Cell.{Cell}
use Rattle.xom_model.specs.State.{CoreState, ram_holds_range}
use Rattle.xom_model.specs.Null.{Answer, Open, Told, done_answer, fetched_open, loaded_open, null_answer, null_step, open_after, ran_open, seen_open, stopped_by, stored_open, tried_open, wish_answer, with_null_writes}
use Rattle.xom_versions.specs.Versions.{VersionLaw, Versions}
use Rattle.xom_model.specs.Versions.{StandsFor}
use Rattle.xom_model.specs.Holds.{Holds, IsRunning}
use Rattle.xom_model.proofs.KeptLaws.{kept_holds, kept_ram}
use Rattle.xom_model.proofs.OperationKept.{cleared_holds}

-- cells are opened by writes of the null compartment
abbrev pub Opens : List Cell → List Cell → Type 0
Opens old new = (written : Writes) × (new ≡ with_null_writes old written)

opens_none : (cells : List Cell) → Opens cells cells
opens_none cells = (writes.Nothing, refl)

opens_granted : (told : Told) (s : Open) (effect : Effect) (wished : Wish)
    → Opens s.cells (wish_answer told s effect wished).0.cells
opens_granted told s effect wish.Nothing = (effect.writes, refl)
opens_granted told s effect (wish.Load reg address how old) =
    cond_both (ram_holds_range s.ram (address - address % 4) 4)
    (done_answer (open_after s effect (set_register reg (loaded_open s.ram how old address))))
    (stopped_by s null.Address) (λ (a : Answer). Opens s.cells a.0.cells)
    (λ _. (set_register reg (loaded_open s.ram how old address), refl)) (λ _. opens_none s.cells)
opens_granted told s effect (wish.Store address count value) =
    cond_both (ram_holds_range s.ram address count)
    (done_answer (stored_open (open_after s effect effect.writes) address
    (low_bytes count value))) (stopped_by s null.Address)
    (λ (a : Answer). Opens s.cells a.0.cells)
    (λ _. (effect.writes, refl)) (λ _. opens_none s.cells)
opens_granted told s effect (wish.Call code) = opens_none s.cells
opens_granted told s effect (wish.Do operation) = (effect.writes, refl)
opens_granted told s effect (wish.Ask reg what) = (set_register reg (null_answer told what), refl)
opens_granted told s effect _ = opens_none s.cells

opens_ran : (told : Told) (s : Open) (found : Result Effect OwnFault)
    → Opens s.cells (ran_open told s found).0.cells
opens_ran told s (Err why) = opens_none s.cells
opens_ran told s (Ok effect) = opens_granted told s effect effect.wish

-- an instruction of null code only opens cells
pub opens_null : (told : Told) (s : Open) → Opens s.cells (null_step told s).0.cells
unfolding null_step
opens_null told s =
    opens_ran told s (tried_open (seen_open s.cells) (fetched_open s.ram s.pc) s.pc s.npc)

-- ---- What is kept

opens_holds : (Stands : StandsFor) (owners : List Owner) (v : Versions) → VersionLaw v Stands
    → (core : CoreState) (written : Writes) → ((slot : ℕ) → ¬ IsRunning core slot)
    → Holds Stands owners core
    → Holds Stands owners (record core { cells = with_null_writes core.cells written })
opens_holds Stands owners v law core writes.Nothing none kept = kept
opens_holds Stands owners v law core (writes.One reg value) none kept =
    cleared_holds Stands owners v law core reg value none kept
opens_holds Stands owners v law core (writes.Pair hi lo) none kept =
    let first = record core { cells = set core.cells 32 (record { value = hi; tag = 0 }) } in
    cleared_holds Stands owners v law first 33 lo none (cleared_holds Stands owners v law core 32 hi
    none kept)

pub opened_holds : (Stands : StandsFor) (owners : List Owner) (v : Versions) → VersionLaw v Stands
    → (core : CoreState) (cells : List Cell) (ram : List ℕ) → length ram ≡ length core.ram
    → ((slot : ℕ) → ¬ IsRunning core slot) → Opens core.cells cells → Holds Stands owners core
    → Holds Stands owners (record core { cells = cells; ram = ram })
opened_holds Stands owners v law core cells ram size none opens kept =
    let P : List Cell → Type 0 = λ cs. Holds Stands owners
    (record core { cells = cs; ram = ram }) in
    subst P (sym opens.1)
    (kept_holds Stands owners (record core { cells = with_null_writes core.cells opens.0 })
    _ (kept_ram Stands owners v law (record core { cells = with_null_writes core.cells opens.0 })
    ram size) (opens_holds Stands owners v law core opens.0 none kept))
