-- Bytes are put into RAM, or nothing where it doesn't hold their range.
use Rattle.std.proofs.Common.{sym, ◌∙◌, subst}
use Rattle.xom_model.specs.Holds.{Holds}
use Rattle.xom_machine.specs.Whole.{WholeMachine}
use Rattle.xom_machine.proofs.Events.{loaded-Holds, loaded-refused}
use Rattle.xom_machine.proofs.machine.Machine.load.Goals as goal

pub returns-clause-refused : goal.returns-clause-refused
returns-clause-refused g c refused =
    c.put.ensures.state
    ∙ loaded-refused c.args.self.now c.args.address c.args.bytes.now (sym c.put.ensures.answer
    ∙ refused)

pub returns-clause-holds : goal.returns-clause-holds
returns-clause-holds g c owners holds =
    subst (λ (w : WholeMachine). Holds g.V.VersionStore.Stands owners w.state.core)
    (sym c.put.ensures.state)
    (loaded-Holds g.V.VersionStore.versions g.V.VersionStore.Stands g.met.V.VersionStore.law owners
    c.args.self.now.state.core c.args.address c.args.bytes.now holds)
