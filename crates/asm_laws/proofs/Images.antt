-- The image of a source has each of its statements at its place.
use Rattle.std.proofs.Common.{◌≡◌, ℕ, ◌+◌, ◌<◌, ◌≤◌, false, List, [], ◌∷◌, length, get_or, None, refl, sym, subst, ◌∙◌, arith}
use Rattle.std.specs.List.{All}
use Rattle.std.proofs.lemmas.Bool.{false_from_ne_true}
use Rattle.std.proofs.lemmas.Bool.Decides.{nat_tests}
use Rattle.std.proofs.lemmas.List.Elements.{All-cons, All-nil}
use Rattle.std.proofs.lemmas.Option.{none-some}
use Rattle.asm_source.specs.declared.content.Part.{Part}
use Rattle.asm_syntax.specs.Lines.{source_of}
use Rattle.mips_asm.specs.Places.{Placed}
use Rattle.mips_asm.specs.Layout.{IsSized, is_too_long, layout, limit, place_after}
use Rattle.mips_asm.specs.Passes.{statement_line, too_long_line}
use Rattle.mips_asm.proofs.BytesLaws.{bytes_of_statements}
use Rattle.mips_asm.proofs.LayoutLaws.{placed_at}
use Rattle.mips_asm.proofs.OneOutcome.{same_Ok}
use Rattle.mips_asm.proofs.SizeLaws.{Gives-size}
use Rattle.asm_laws.specs.ShortForms.{ImagesHaveTheirStatements}

-- each statement of a layout has its size
layout-sized : (place : ℕ) (parts : List Part) → All IsSized (layout place parts)
unfolding layout
layout-sized place [] = All-nil IsSized
layout-sized place (part ∷ parts) =
    All-cons IsSized (placed_at place part) (layout (place_after place part.content) parts) refl
    (layout-sized (place_after place part.content) parts)

abbrev IsShort : Placed → Type 0
IsShort p = is_too_long p ≡ false

-- where no line is too long, no statement is
first_short : (p : Placed) (placed : List Placed) → too_long_line (p ∷ placed) ≡ None → IsShort p
first_short p placed none =
    false_from_ne_true (is_too_long p) (λ long. none-some (statement_line p) (sym (rw long at none)))

all_short : (placed : List Placed) → too_long_line placed ≡ None → All IsShort placed
all_short [] none = All-nil IsShort
all_short (p ∷ placed) none =
    let short : IsShort p = first_short p placed none in
    All-cons IsShort p placed short (all_short placed (rw short at none))

within_limit : (p : Placed) → IsShort p → 0 < p.size → p.place + p.size ≤ limit
within_limit p short some = grind (arith, nat_tests)

pub images_have_statements : ImagesHaveTheirStatements
images_have_statements text parts image read is i d within name operands statement some =
    let placed : List Placed = layout 0 parts in
    let p : Placed = get_or placed i d in
    let stands = (bytes_of_statements text parts image read is).written i d within in
    let short : All IsShort placed =
    all_short placed (subst (λ (ps : List Part). too_long_line (layout 0 ps) ≡ None)
    (same_Ok (source_of text) is.parts parts is.read read) is.not_too_long) in
    let size : length stands.0 ≡ p.size = Gives-size _ p.place p.part.content stands.0 stands.1
    ∙ sym (layout-sized 0 parts i d within) in (
      stands.0,
      record {
        content = p.part.content;
        statement = statement;
        gives = stands.1;
        there = stands.2;
        inside = subst (λ (n : ℕ). p.place + n ≤ limit) (sym size)
            (within_limit p (short i d within) some);
      },
    )
