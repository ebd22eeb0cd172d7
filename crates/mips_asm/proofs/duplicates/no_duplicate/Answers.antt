-- A label repeats one before it where its name is known.
use Rattle.std.proofs.Common.{Some, inr, refl, sym, ap, ◌∙◌, take}
use Rattle.asm_source.specs.declared.content.Part.{Part}
use Rattle.mips_asm.specs.LabelMaps.{place_in}
use Rattle.mips_asm.specs.Passes.{label_said, repeats}
use Rattle.mips_asm.proofs.FaultLaws.{found_at, next_at, none_at}
use Rattle.mips_asm.proofs.LabelLaws.{known_label, known_none, repeats_label, repeats_none}
use Rattle.mips_asm.proofs.duplicates.no_duplicate.Goals as goal
use Rattle.mips_asm.proofs.duplicates.no_duplicate.Goals.{in-Some+in_ok-insert+else-branch, in_default}

pub returns-then-branch : goal.returns-then-branch
returns-then-branch c =
    let parts = c.args.parts.now in
    let i = c.loop-part.part-index in
    let item = c.part-item.result in
    let labelled = sym (rw c.in-Some.is at c.label_of.ensures) in
    let bad = repeats_label (take i parts) c.in-Some.name.now item labelled
    ∙ (sym (c.loop-part.invariant.known c.in-Some.name.now) ∙ (sym c.in_ok-insert.ensures.known
    ∙ c.if-branch.true)) in
    inr (
      item.line,
      c.loop-part.invariant.rest
          ∙ (found_at (λ (p : Part). p.line) repeats parts i item c.loop-part-test.true
          (ap (repeats (take i parts)) (sym c.part-item.is) ∙ bad)
          ∙ ap (λ (p : Part). Some p.line) (sym c.part-item.is)),
      refl,
    )

pub loop-part-preserved : goal.loop-part-preserved
loop-part-preserved c =
    let parts = c.args.parts.now in
    let i = c.loop-part.part-index in
    let item = c.part-item.result in
    let here = ap (λ (p : Part). label_said p.content) (sym c.part-item.is) in
    elim c.match-label_of.branch [
      | in-Some+in_ok-insert+else-branch w ↦
          let labelled = sym (rw w.in-Some.is at c.label_of.ensures) in
          let good = repeats_label (take i parts) w.in-Some.name.now item labelled
          ∙ (sym (c.loop-part.invariant.known w.in-Some.name.now)
          ∙ (sym w.in_ok-insert.ensures.known ∙ w.if-branch.false)) in
          record {
            known = λ q. rw w.known-is (known_label parts i item q w.in-Some.name.now item.line
                (place_in c.loop-part.known q) (place_in w.insert.new.self q)
                c.loop-part-test.true (here ∙ labelled) (w.in_ok-insert.ensures.places q)
                (c.loop-part.invariant.known q));
            rest = c.loop-part.invariant.rest ∙ next_at (λ (p : Part). p.line) repeats parts i item
                c.loop-part-test.true (ap (repeats (take i parts)) (sym c.part-item.is) ∙ good);
          }
      | in_default w ↦
          let none = sym (rw w.in_default.is at c.label_of.ensures) in
          record {
            known = λ q. rw w.known-is (c.loop-part.invariant.known q ∙ known_none parts i item q
                c.loop-part-test.true (here ∙ none));
            rest = c.loop-part.invariant.rest ∙ next_at (λ (p : Part). p.line) repeats parts i item
                c.loop-part-test.true (ap (repeats (take i parts)) (sym c.part-item.is)
                ∙ repeats_none (take i parts) item none);
          }
    ]

pub returns : goal.returns
returns c =
    c.loop-part.invariant.rest
    ∙ none_at (λ (p : Part). p.line) repeats c.args.parts.now c.loop-part.part-index
    c.loop-part-test.false
