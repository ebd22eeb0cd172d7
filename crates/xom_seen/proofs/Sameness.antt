-- Null code runs over what is seen as over what is there.
use Rattle.std.proofs.Common.{◌≡◌, ℕ, ◌%◌, ◌==◌, ◌-◌, Bool, true, false, cond, if◌then◌else◌, List, map, refl, sym, ◌∙◌, ap, slice_set, Some, Result, Ok, Err}
use Rattle.std.proofs.lemmas.List.{map-set}
use Rattle.std.proofs.lemmas.Bool.{cond_both}
use Rattle.xom_base.specs.declared.event.OwnFault.{OwnFault}
use Rattle.xom_base.specs.declared.step.Writes.{Writes}
use Rattle.xom_base.specs.declared.step.Writes.TheVariants as writes
use Rattle.mips_instruction.specs.declared.instruction.Ins.{Ins}
use Rattle.mips_effect.specs.declared.effects.Effect.{Effect}
use Rattle.mips_effect.specs.declared.seen.Mode.TheVariants.{Null}
use Rattle.mips_effect.specs.declared.seen.Seen.TheVariants.{Value}
use Rattle.mips_effect.specs.declared.wish.Wish.{Wish}
use Rattle.mips_effect.specs.declared.wish.Wish.TheVariants as wish
use Rattle.mips_effect.specs.Effects.{effect_of, sources_of, write_of_register}
use Rattle.mips_plain.specs.Memory.{low_bytes}
use Rattle.tag_regs.specs.declared.cell.Cell.{Cell}
use Rattle.tag_regs.specs.TaggedCells.{cell_at, empty_cell}
use Rattle.xom_model.specs.declared.outcome.NullFault.TheVariants as null
use Rattle.xom_model.specs.State.{ram_holds_range}
use Rattle.xom_model.specs.Null.{Answer, Open, Told, done_answer, fetched_open, loaded_open, null_answer, null_step, open_after, open_cell, ran_open, seen_open, stopped_by, stored_open, tried_open, wish_answer, with_null_writes}
use Rattle.xom_model.specs.Seen.{shown_cell}
use Rattle.xom_seen.proofs.Sights.{at_map}

-- what null code reaches, as the kernel sees it
abbrev pub shown_open : Open → Open
shown_open s = record s { cells = map shown_cell s.cells }

abbrev pub shown_answer : Answer → Answer
shown_answer answer = (shown_open answer.0, answer.1)

-- null code sees the same
cell_same : (cell : Cell) → open_cell (shown_cell cell) ≡ open_cell cell
cell_same cell = cases (cell.tag == 0) refl
  where
    cases : (b : Bool) → (cell.tag == 0) ≡ b → open_cell (shown_cell cell) ≡ open_cell cell
    cases true is = rw is (rw is refl)
    cases false is = rw is (rw is refl)

sees_same : (cells : List Cell) (reg : ℕ)
    → seen_open (map shown_cell cells) reg ≡ seen_open cells reg
sees_same cells reg =
    ap (λ c. if reg == 0 then Value 0 else c)
    (ap open_cell (at_map shown_cell cells reg empty_cell) ∙ cell_same (cell_at cells reg))

tried_same : (cells : List Cell) (found : Result Ins OwnFault) (pc npc : ℕ)
    → tried_open (seen_open (map shown_cell cells)) found pc npc ≡ tried_open (seen_open cells)
    found pc npc
tried_same cells (Err why) pc npc = refl
tried_same cells (Ok ins) pc npc =
    ap (λ a. effect_of ins Null a (seen_open (map shown_cell cells) (sources_of ins).1)
    (seen_open (map shown_cell cells) (sources_of ins).2) pc npc)
    (sees_same cells (sources_of ins).0)
    ∙ ap (λ b. effect_of ins Null (seen_open cells (sources_of ins).0) b
    (seen_open (map shown_cell cells) (sources_of ins).2) pc npc)
    (sees_same cells (sources_of ins).1)
    ∙ ap (λ c. effect_of ins Null (seen_open cells (sources_of ins).0)
    (seen_open cells (sources_of ins).1) c pc npc) (sees_same cells (sources_of ins).2)

-- what it writes is open
opened_same : (cells : List Cell) (written : Writes)
    → with_null_writes (map shown_cell cells) written ≡ map shown_cell
    (with_null_writes cells written)
opened_same cells writes.Nothing = refl
opened_same cells (writes.One reg value) = sym (map-set shown_cell cells reg _)
opened_same cells (writes.Pair hi lo) =
    ap (λ (cs : List Cell). slice_set cs 33 (record { value = lo; tag = 0 }))
    (sym (map-set shown_cell cells 32 _))
    ∙ sym (map-set shown_cell (slice_set cells 32 (record { value = hi; tag = 0 })) 33 _)

passed_same : (s : Open) (effect : Effect) (written : Writes)
    → open_after (shown_open s) effect written ≡ shown_open (open_after s effect written)
passed_same s effect written =
    ap
    (λ cs. let o : Open = record { cells = cs; ram = s.ram; pc = effect.pc; npc = effect.npc } in
    o)
    (opened_same s.cells written)

granted_same : (told : Told) (s : Open) (effect : Effect) (wished : Wish)
    → wish_answer told (shown_open s) effect wished ≡ shown_answer
    (wish_answer told s effect wished)
granted_same told s effect wish.Nothing = ap done_answer (passed_same s effect effect.writes)
granted_same told s effect (wish.Load reg address how old) =
    let written = write_of_register reg (loaded_open s.ram how old address) in
    cond_both (ram_holds_range s.ram (address - address % 4) 4) (done_answer (open_after s effect written))
    (stopped_by s null.Address)
    (λ a. cond (ram_holds_range s.ram (address - address % 4) 4)
    (done_answer (open_after (shown_open s) effect written))
    (stopped_by (shown_open s) null.Address) ≡ shown_answer a)
    (λ is. rw is (ap done_answer (passed_same s effect written)))
    (λ is. rw is refl)
granted_same told s effect (wish.Store address count value) =
    cond_both (ram_holds_range s.ram address count)
    (done_answer (stored_open (open_after s effect effect.writes) address
    (low_bytes count value))) (stopped_by s null.Address)
    (λ a. cond (ram_holds_range s.ram address count)
    (done_answer (stored_open (open_after (shown_open s) effect effect.writes) address
    (low_bytes count value))) (stopped_by (shown_open s) null.Address) ≡ shown_answer a)
    (λ is. rw is (ap (λ o. done_answer (stored_open o address (low_bytes count value)))
    (passed_same s effect effect.writes)))
    (λ is. rw is refl)
granted_same told s effect (wish.Call code) = refl
granted_same told s effect (wish.Do operation) =
    ap (λ o. let a : Answer = (o, Ok (Some operation)) in a) (passed_same s effect effect.writes)
granted_same told s effect (wish.Ask reg what) =
    ap done_answer (passed_same s effect (write_of_register reg (null_answer told what)))
granted_same told s effect _ = refl

ran_same : (told : Told) (s : Open) (found : Result Effect OwnFault)
    → ran_open told (shown_open s) found ≡ shown_answer (ran_open told s found)
ran_same told s (Err why) = refl
ran_same told s (Ok effect) = granted_same told s effect effect.wish

-- one instruction of null code over what is seen leaves what is seen afterwards
pub null_step_same : (told : Told) (s : Open)
    → null_step told (shown_open s) ≡ shown_answer (null_step told s)
unfolding null_step
null_step_same told s =
    ap (ran_open told (shown_open s)) (tried_same s.cells (fetched_open s.ram s.pc) s.pc s.npc)
    ∙ ran_same told s (tried_open (seen_open s.cells) (fetched_open s.ram s.pc) s.pc s.npc)
