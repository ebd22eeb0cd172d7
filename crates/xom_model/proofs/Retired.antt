-- An instruction that retires is the step of the program alone, which receives the same value.
use Rattle.std.proofs.Common.{◌≡◌, ◌≢◌, inl, inr, ◌&&◌, cond, true, ℕ, ◌<◌, List, Ok, refl, ◌∙◌, ap, arith, false}
use Rattle.std.proofs.lemmas.Bool.Decides.{eqb_tells}
use Rattle.xom_base.specs.declared.step.Writes.{Writes}
use Rattle.mips_effect.specs.declared.effects.Effect.{Effect}
use Rattle.mips_effect.specs.declared.wish.Wish.{Wish}
use Rattle.mips_effect.specs.declared.wish.Wish.TheVariants as wish
use Rattle.mips_effect.specs.Effects.{AreCells, IsInRange, Ranged, write_of_register as set_register}
use Rattle.mips_plain.specs.declared.given.Given.{Given}
use Rattle.mips_plain.specs.declared.given.PlainStep.TheVariants.{Did, Over, Unfit}
use Rattle.mips_plain.specs.declared.given.Given.TheVariants as given
use Rattle.mips_plain.specs.Instruction.{effect_at, instruction_in, is_signal, is_signal_ready, signal_step, step_made, step_of_wish, word_for}
use Rattle.mips_plain.specs.Machine.{State, answer_to, plain, seen_of_cell, signal_answered, state_after_signal, state_after_step, step_done}
use Rattle.mips_plain.specs.Follows.{given_of}
use Rattle.tag_regs.specs.declared.cell.Cell.{Cell}
use Rattle.xom_model.specs.Guest.{received_by}
use Rattle.xom_model.proofs.Tied.{IsKnown}

-- a register that an instruction sets is a cell, or none
set-AreCells : (reg value : ℕ) → reg < 32 → AreCells (set_register reg value)
set-AreCells reg value known = elim (eqb_tells reg 0) [
  | inl none ↦ rw none.0 tt
  | inr some ↦ rw some.0 (let differs : reg ≢ 0 = some.1 in (omega arith, omega arith))
]

-- the cells that a step writes are known
made-AreCells : (pc npc : ℕ) (written : Writes) (wished : Wish) (word : ℕ) (got : ℕ)
    → AreCells written → IsInRange wished
    → AreCells (step_of_wish pc npc written wished word got).writes
made-AreCells pc npc written wish.Nothing word got cells range = cells
made-AreCells pc npc written (wish.Load reg address how old) word got cells range =
    set-AreCells reg _ range.register
made-AreCells pc npc written (wish.Store address count value) word got cells range = cells
made-AreCells pc npc written (wish.Release reg value) word got cells range = cells
made-AreCells pc npc written (wish.Receive reg from) word got cells range =
    set-AreCells reg got range.0.1
made-AreCells pc npc written (wish.NullLoad reg address) word got cells range =
    set-AreCells reg got range
made-AreCells pc npc written _ word got cells range = cells

pub step_made-AreCells : (pc npc : ℕ) (effect : Effect) (word : ℕ) (got : ℕ) → Ranged effect
    → AreCells (step_made pc npc effect word got).writes
unfolding step_made
step_made-AreCells pc npc effect word got ranged =
    made-AreCells pc npc effect.writes effect.wish word got ranged.writes ranged.wish

-- and so is the one that it releases
made-IsKnown : (pc npc : ℕ) (written : Writes) (wished : Wish) (word : ℕ) (got : ℕ)
    → IsInRange wished → IsKnown (step_of_wish pc npc written wished word got).released
made-IsKnown pc npc written wish.Nothing word got range = tt
made-IsKnown pc npc written (wish.Load reg address how old) word got range = tt
made-IsKnown pc npc written (wish.Store address count value) word got range = tt
made-IsKnown pc npc written (wish.Release reg value) word got range =
    (range.0, let low : reg < 32 = range.1 in omega arith)
made-IsKnown pc npc written _ word got range = tt

pub step_made-IsKnown : (pc npc : ℕ) (effect : Effect) (word : ℕ) (got : ℕ) → Ranged effect
    → IsKnown (step_made pc npc effect word got).released
unfolding step_made
step_made-IsKnown pc npc effect word got ranged =
    made-IsKnown pc npc effect.writes effect.wish word got ranged.wish

-- given what a step received, the plain machine does it
answered-made : (p : State) (cells : List Cell) (ram : List ℕ) (pc npc next after : ℕ)
    (written : Writes) (wished : Wish) (word : ℕ)
    → answer_to p (given_of (step_of_wish pc npc written wished word
    (received_by cells ram wished)).received)
    (Ok (record { writes = written; wish = wished; pc = next; npc = after }))
    ≡ step_done p (record { writes = written; wish = wished; pc = next; npc = after })
    (received_by cells ram wished)
answered-made p cells ram pc npc next after written wish.Nothing word = refl
answered-made p cells ram pc npc next after written _ word = refl

answered-step : (p : State) (cells : List Cell) (ram : List ℕ) (pc npc : ℕ) (effect : Effect)
    (word : ℕ)
    → answer_to p (given_of
    (step_made pc npc effect word (received_by cells ram effect.wish)).received)
    (Ok effect) ≡ step_done p effect (received_by cells ram effect.wish)
unfolding step_made
answered-step p cells ram pc npc effect word =
    answered-made p cells ram pc npc effect.pc effect.npc effect.writes effect.wish word

-- the plain machine over a state that isn't over, where its instruction comes to a result
pub plain-answered : (p : State) (given : Given) → p.over ≡ false
    → plain p given ≡ answer_to p given (effect_at (seen_of_cell p.cells) p.kept
    (instruction_in p.bytes p.pc) p.pc p.npc)
unfolding plain
plain-answered p given over = rw over refl

-- the step of an effect that comes to a running guest is that of its program
pub plain-does : (p : State) (cells : List Cell) (ram : List ℕ) (effect : Effect) → p.over ≡ false
    → effect_at (seen_of_cell p.cells) p.kept (instruction_in p.bytes p.pc) p.pc p.npc ≡ Ok effect
    → plain p (given_of (step_made p.pc p.npc effect (word_for p.bytes effect.wish)
    (received_by cells ram effect.wish)).received)
    ≡ (
      Did (step_made p.pc p.npc effect (word_for p.bytes effect.wish)
          (received_by cells ram effect.wish)),
      state_after_step p effect
          (step_made p.pc p.npc effect (word_for p.bytes effect.wish)
          (received_by cells ram effect.wish)),
    )
plain-does p cells ram effect over comes =
    plain-answered p _ over
    ∙ ap (answer_to p (given_of (step_made p.pc p.npc effect (word_for p.bytes effect.wish)
    (received_by cells ram effect.wish)).received)) comes
    ∙ answered-step p cells ram p.pc p.npc effect (word_for p.bytes effect.wish)

-- a signal that the program takes
pub plain-signals : (p : State) (n : ℕ) → p.over ≡ false
    → (is_signal n && is_signal_ready p.handler p.kept) ≡ true
    → plain p (given.Signal n) ≡ (Did (signal_step p.pc p.npc n), state_after_signal p n)
unfolding plain
plain-signals p n over ready =
    ap (λ b. cond b (Over, p) (signal_answered p n)) over
    ∙ ap (λ b. cond b (Did (signal_step p.pc p.npc n), state_after_signal p n) (Unfit, p)) ready
