-- An effect on cells that have values is `act` of these.
use Rattle.std.proofs.Common.{◌≡◌, ℕ, ◌==◌, Bool, true, false, refl, ap, ◌∙◌, if◌then◌else◌}
use Rattle.std.proofs.lemmas.Bool.{cond-false}
use Rattle.mips_instruction.specs.declared.instruction.Ins.{Ins}
use Rattle.mips_instruction.specs.declared.instruction.Ins.TheVariants.{Xmvfn}
use Rattle.mips_effect.specs.declared.seen.Mode.{Mode}
use Rattle.mips_effect.specs.declared.seen.Mode.TheVariants.{Guest, Null}
use Rattle.mips_effect.specs.declared.seen.Seen.TheVariants.{Value}
use Rattle.mips_effect.specs.Effects.{act, effect_of, effect_or_fault, is_barred, is_guest_form, is_reserved, seen_at, sources_of}
use Rattle.mips_laws.specs.Owned.{IsMips1, OwnedCellsAreActedOn, value_in_cell}

-- a value by either way of a test
value_either : (test : Bool) (value : ℕ)
    → (if test then Value 0 else Value value) ≡ Value (if test then 0 else value)
value_either true value = refl
value_either false value = refl

-- what is seen of a cell that has a value
seen_at-value : (cell value : ℕ) → seen_at cell (Value value) ≡ Value (value_in_cell cell value)
seen_at-value cell value = value_either (cell == 0) value

-- a guest and null code have it
not-reserved : (i : Ins) (mode : Mode) → IsMips1 i → is_reserved mode i ≡ false
not-reserved i Guest is = is.no_kernel_form
not-reserved i Null is = is.no_guest_form

-- and may read cells that have values by it
guest-reads : (i : Ins) (s t d : ℕ) → is_guest_form i ≡ false
    → is_barred Guest i (Value s) (Value t) (Value d) ≡ false
guest-reads (Xmvfn rd rs) s t d own = cc
guest-reads i s t d own = refl

not-barred : (i : Ins) (mode : Mode) (s t d : ℕ) → IsMips1 i
    → is_barred mode i (Value s) (Value t) (Value d) ≡ false
not-barred i Guest s t d is = guest-reads i s t d is.no_guest_form
not-barred i Null s t d is = refl

-- so it is neither Reserved nor Foreign
judged-act : (i : Ins) (mode : Mode) (s t d following : ℕ) → IsMips1 i
    → effect_or_fault i mode (Value s) (Value t) (Value d) following ≡ act i mode s t d following
judged-act i mode s t d following is =
    cond-false (is_reserved mode i) _ _ (not-reserved i mode is)
    ∙ cond-false (is_barred mode i (Value s) (Value t) (Value d)) _ _ (not-barred i mode s t d is)

pub owned_cells_are_acted_on : OwnedCellsAreActedOn
unfolding effect_of
owned_cells_are_acted_on i mode s t d pc npc is =
    let a : ℕ = (sources_of i).0 in
    let b : ℕ = (sources_of i).1 in
    let c : ℕ = (sources_of i).2 in
    ap (λ x. effect_or_fault i mode x (seen_at b (Value t)) (seen_at c (Value d)) npc) (seen_at-value a s)
    ∙ ap (λ y. effect_or_fault i mode (Value (value_in_cell a s)) y (seen_at c (Value d)) npc) (seen_at-value b t)
    ∙ ap (λ z. effect_or_fault i mode (Value (value_in_cell a s)) (Value (value_in_cell b t)) z npc)
    (seen_at-value c d)
    ∙ judged-act i mode (value_in_cell a s) (value_in_cell b t) (value_in_cell c d) npc is
