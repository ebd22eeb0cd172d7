-- Each line is a step of the model's flush, which ends where no line is left or where the slot is
-- stopped.
use Rattle.std.proofs.Common.{◌≡◌, Option, ◌∙◌, ap, arith, refl}
use Rattle.xom_base.specs.declared.event.Rule.{Rule}
use Rattle.xom_model.specs.State.{CoreState}
use Rattle.xom_private.proofs.Flushing.{none_there, pages_left, reached_end, reached_gone, reached_next, reached_none, reached_stop, rule_told}
use Rattle.xom_private.proofs.parts.Core.flush_page.Goals as goal

pub returns-in_default-clause-core : goal.returns-in_default-clause-core
returns-in_default-clause-core g c =
    ap (λ (r : CoreState × Option Rule). r.0)
    (reached_none g.V.VersionStore.versions c.args.slot c.args.page c.loop-line._line
    c.args.self.now.core c.loop-line.self.core c.loop-line.invariant.0 c.take_out.new.self.core
    c.in_default.ensures.same (c.in_default.ensures.none.0 refl))

pub returns-in_default-clause-rule : goal.returns-in_default-clause-rule
returns-in_default-clause-rule g c =
    ap (λ (r : CoreState × Option Rule). r.1)
    (reached_none g.V.VersionStore.versions c.args.slot c.args.page c.loop-line._line
    c.args.self.now.core c.loop-line.self.core c.loop-line.invariant.0 c.take_out.new.self.core
    c.in_default.ensures.same (c.in_default.ensures.none.0 refl))

pub returns-in_err-settle_out-clause-core : goal.returns-in_err-settle_out-clause-core
returns-in_err-settle_out-clause-core g c =
    (reached_stop g.V.VersionStore.versions c.args.slot c.args.page c.requires.some
    c.loop-line.self.core c.take_out.new.self.core c.in-Some.victim c.in-Some.ensures.takes
    c.args.self.now.core c.settle_out.new.self.core c.loop-line._line c.in_err-settle_out.field-0.0
    c.in_err-settle_out.ensures.core c.in_err-settle_out.ensures.rule c.loop-line.invariant.0).0

pub returns-in_err-settle_out-clause-rule : goal.returns-in_err-settle_out-clause-rule
returns-in_err-settle_out-clause-rule g c =
    rule_told c.from_residual.result c.in_err-settle_out.field-0.0 c.from_residual.ensures.1
    ∙ (reached_stop g.V.VersionStore.versions c.args.slot c.args.page c.requires.some
    c.loop-line.self.core c.take_out.new.self.core c.in-Some.victim c.in-Some.ensures.takes
    c.args.self.now.core c.settle_out.new.self.core c.loop-line._line c.in_err-settle_out.field-0.0
    c.in_err-settle_out.ensures.core c.in_err-settle_out.ensures.rule c.loop-line.invariant.0).1

pub loop-line-preserved : goal.loop-line-preserved
loop-line-preserved g c =
    let before = c.loop-line.invariant.1 in
    let taken = c.in-Some.ensures.room in
    let written = c.in_ok-settle_out.ensures.written in (
      reached_next g.V.VersionStore.versions c.args.slot c.args.page c.requires.some
          c.loop-line.self.core c.take_out.new.self.core c.in-Some.victim c.in-Some.ensures.takes
          c.args.self.now.core c.settle_out.new.self.core c.loop-line._line
          c.in_ok-settle_out.ensures.core c.in_ok-settle_out.ensures.rule c.loop-line.invariant.0,
      omega (arith, before, taken, written),
    )

pub returns-clause-core : goal.returns-clause-core
returns-clause-core g c =
    let all : c.loop-line._line ≡ 128 =
    omega (arith, c.loop-line-test.false, c.loop-line.auto._line-end) in
    ap (λ (r : CoreState × Option Rule). r.0) (reached_end g.V.VersionStore.versions c.args.slot
    c.args.page c.loop-line._line c.args.self.now.core c.loop-line.self.core
    c.loop-line.invariant.0 all)

pub returns-clause-rule : goal.returns-clause-rule
returns-clause-rule g c =
    let all : c.loop-line._line ≡ 128 =
    omega (arith, c.loop-line-test.false, c.loop-line.auto._line-end) in
    ap (λ (r : CoreState × Option Rule). r.1) (reached_end g.V.VersionStore.versions c.args.slot
    c.args.page c.loop-line._line c.args.self.now.core c.loop-line.self.core
    c.loop-line.invariant.0 all)

-- ---- Pages and lines afterwards

pub returns-in_default-clause-pages : goal.returns-in_default-clause-pages
returns-in_default-clause-pages g c =
    pages_left g.V.VersionStore.versions c.args.slot c.args.page c.args.self.now.core
    c.take_out.new.self.core
    (reached_none g.V.VersionStore.versions c.args.slot c.args.page c.loop-line._line
    c.args.self.now.core c.loop-line.self.core c.loop-line.invariant.0 c.take_out.new.self.core
    c.in_default.ensures.same (c.in_default.ensures.none.0 refl))

pub returns-in_default-clause-gone : goal.returns-in_default-clause-gone
returns-in_default-clause-gone g c =
    none_there c.args.slot c.args.page c.loop-line.self.core c.take_out.new.self.core
    c.in_default.ensures.same (c.in_default.ensures.none.0 refl)

pub returns-clause-pages : goal.returns-clause-pages
returns-clause-pages g c =
    let all : c.loop-line._line ≡ 128 =
    omega (arith, c.loop-line-test.false, c.loop-line.auto._line-end) in
    pages_left g.V.VersionStore.versions c.args.slot c.args.page c.args.self.now.core
    c.loop-line.self.core
    (reached_end g.V.VersionStore.versions c.args.slot c.args.page c.loop-line._line
    c.args.self.now.core c.loop-line.self.core c.loop-line.invariant.0 all)

pub returns-clause-gone : goal.returns-clause-gone
returns-clause-gone g c =
    let all : c.loop-line._line ≡ 128 =
    omega (arith, c.loop-line-test.false, c.loop-line.auto._line-end) in
    reached_gone g.V.VersionStore.versions c.args.slot c.args.page c.loop-line._line
    c.args.self.now.core c.loop-line.self.core c.loop-line.invariant.0 all
