-- Each part stands behind those before it.
use Rattle.std.proofs.Common.{◌≡◌, ◌+◌, inr, refl, sym, ap, subst, ◌∙◌}
use Rattle.std.proofs.lemmas.List.{take_all}
use Rattle.std.specs.List.{All}
use Rattle.std.proofs.lemmas.List.Elements.{All-nil, All-push}
use Rattle.mips_asm.specs.Places.{Placed}
use Rattle.mips_asm.specs.Layout.{IsInsideImage, IsSized, layout, statement_size}
use Rattle.mips_asm.specs.Passes.{too_long_line}
use Rattle.mips_asm.proofs.LayoutLaws.{layout-none, layout_step, past_long, place_step, short_inside, short_size, too_long_none, too_long_step}
use Rattle.mips_asm.proofs.layout.layout.Goals as goal

pub loop-part-init : goal.loop-part-init
loop-part-init c = record {
  placed = c.in_ok-placed.ensures.items ∙ sym (layout-none 0);
  place = refl;
  inside = subst (All IsInsideImage) (sym c.in_ok-placed.ensures.items) (All-nil IsInsideImage);
  sized = subst (All IsSized) (sym c.in_ok-placed.ensures.items) (All-nil IsSized);
}

pub returns-then-is_past-clause-fault : goal.returns-then-is_past-clause-fault
returns-then-is_past-clause-fault c =
    let part = c.part-item.result in
    let long = past_long c.loop-part.place (statement_size c.loop-part.place part.content)
    c.size-size.result c.size-size.ensures (sym c.is_past.ensures ∙ c.if-is_past.true) in
    inr (
      part.line,
      too_long_step c.args.parts.now c.loop-part.part-index part c.loop-part.place
          c.loop-part-test.true c.part-item.is c.loop-part.invariant.place
          (subst (All IsInsideImage) c.loop-part.invariant.placed c.loop-part.invariant.inside)
          long,
      refl,
    )

pub loop-part-preserved : goal.loop-part-preserved
loop-part-preserved c =
    let part = c.part-item.result in
    let n = c.loop-part.part-index in
    let short = sym c.is_past.ensures ∙ c.if-is_past.false in
    let size = short_size c.loop-part.place (statement_size c.loop-part.place part.content)
    c.size-size.result c.size-size.ensures short in
    let item : Placed = record {
      place = c.loop-part.place;
      size = c.size-size.result;
      part = part;
    } in
    let pushed = rw c.new.ensures at c.in_ok-push.ensures.items in
    record {
      placed = pushed
          ∙ layout_step c.args.parts.now n (n + 1) part c.loop-part.placed.items c.loop-part.place
          c.size-size.result refl c.loop-part-test.true c.part-item.is
          c.loop-part.invariant.placed c.loop-part.invariant.place size;
      place = c.after-next.ensures
          ∙ place_step c.args.parts.now n (n + 1) part c.loop-part.place refl
          c.loop-part-test.true c.part-item.is c.loop-part.invariant.place;
      inside = subst (All IsInsideImage) (sym pushed)
          (All-push IsInsideImage c.loop-part.placed.items item c.loop-part.invariant.inside
          (short_inside c.loop-part.place c.size-size.result short));
      sized = subst (All IsSized) (sym pushed)
          (All-push IsSized c.loop-part.placed.items item c.loop-part.invariant.sized size);
    }

pub returns-clause-placed : goal.returns-clause-placed
returns-clause-placed c =
    c.loop-part.invariant.placed ∙ ap (layout 0) (take_all c.loop-part.part-index c.args.parts.now
    c.loop-part-test.false)

pub returns-clause-fault : goal.returns-clause-fault
returns-clause-fault c =
    let placed : c.loop-part.placed.items ≡ layout 0 c.args.parts.now =
    c.loop-part.invariant.placed ∙ ap (layout 0) (take_all c.loop-part.part-index c.args.parts.now
    c.loop-part-test.false) in
    ap too_long_line (sym placed) ∙ too_long_none c.loop-part.placed.items
    c.loop-part.invariant.inside
