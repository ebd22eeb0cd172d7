-- Each label is added.
use Rattle.std.proofs.Common.{List, Some, cond, sym, ap, ◌∙◌}
use Rattle.std.specs.Str.{bytes_eq}
use Rattle.std.proofs.lemmas.List.{take_all}
use Rattle.mips_asm.specs.Places.{Placed}
use Rattle.mips_asm.specs.LabelMaps.{place_in}
use Rattle.mips_asm.specs.Passes.{label_said, place_of}
use Rattle.mips_asm.proofs.LabelLaws.{place_label, place_none, place_of_nil}
use Rattle.mips_asm.proofs.naming.all_labels.Goals as goal
use Rattle.mips_asm.proofs.naming.all_labels.Goals.{in-Some+in_ok-_known, in_default}

pub loop-placed-init : goal.loop-placed-init
loop-placed-init c = λ name. c.new-labels.ensures name ∙ sym (place_of_nil name)

pub loop-placed-preserved : goal.loop-placed-preserved
loop-placed-preserved c =
    let placed = c.args.placed.now in
    let i = c.loop-placed.placed-index in
    let item = c.placed-item.result in
    let here = ap (λ (p : Placed). label_said p.part.content) (sym c.placed-item.is) in
    elim c.match-label_of.branch [
      | in-Some+in_ok-_known w ↦
          let labelled = rw c.content.ensures at (sym (rw w.in-Some.is at c.label_of.ensures)) in
          λ q. rw w.labels-is (place_label placed i item q w.in-Some.name.now
          (place_in c.loop-placed.labels q) (place_in w.insert.new.self q) c.loop-placed-test.true
          (here ∙ labelled)
          (rw w.place.ensures at (w.in_ok-_known.ensures.places q)
          ∙ ap (λ (p : Placed). cond (bytes_eq w.in-Some.name.now q) (Some p.place)
          (place_in c.loop-placed.labels q)) c.placed-item.is)
          (c.loop-placed.invariant q))
      | in_default w ↦
          let none = rw c.content.ensures at (sym (rw w.in_default.is at c.label_of.ensures)) in
          λ q. rw w.labels-is (c.loop-placed.invariant q ∙ place_none placed i item q
          c.loop-placed-test.true (here ∙ none))
    ]

pub returns : goal.returns
returns c =
    λ j name. (c.loop-placed.invariant name ∙ ap (λ (xs : List Placed). place_of xs name)
    (take_all c.loop-placed.placed-index c.args.placed.now c.loop-placed-test.false)) j
