-- The commands that print make no event.
use Rattle.std.proofs.Common.{refl, subst, sym}
use Rattle.xom_debug.specs.Sessions.{Advances}
use Rattle.xom_debug.specs.declared.command.Command.TheVariants as command_kinds
use Rattle.xom_debug.proofs.Going.{stays_there}
use Rattle.xom_debug.proofs.session.Session.advance.Goals as goal

pub returns-in-Reg : goal.returns-in-Reg
returns-in-Reg g c =
    subst (λ command. Advances g.K.Kernel.told c.args.schedule.now g.V.VersionStore.versions
    c.args.budget command c.args.self.now c.args.machine.now c.args.kernel.now c.args.self.now
    c.args.machine.now c.args.kernel.now) (sym c.in-Reg.is)
    (stays_there g.K.Kernel.told c.args.schedule.now g.V.VersionStore.versions c.args.budget
    (command_kinds.Reg c.in-Reg.field-0) (λ past view rest. refl) c.args.self.now
    c.args.machine.now c.args.kernel.now)

pub returns-in-Slot : goal.returns-in-Slot
returns-in-Slot g c =
    subst (λ command. Advances g.K.Kernel.told c.args.schedule.now g.V.VersionStore.versions
    c.args.budget command c.args.self.now c.args.machine.now c.args.kernel.now c.args.self.now
    c.args.machine.now c.args.kernel.now) (sym c.in-Slot.is)
    (stays_there g.K.Kernel.told c.args.schedule.now g.V.VersionStore.versions c.args.budget
    (command_kinds.Slot c.in-Slot.field-0) (λ past view rest. refl) c.args.self.now
    c.args.machine.now c.args.kernel.now)

pub returns-in-Last : goal.returns-in-Last
returns-in-Last g c =
    subst (λ command. Advances g.K.Kernel.told c.args.schedule.now g.V.VersionStore.versions
    c.args.budget command c.args.self.now c.args.machine.now c.args.kernel.now c.args.self.now
    c.args.machine.now c.args.kernel.now) (sym c.in-Last.is)
    (stays_there g.K.Kernel.told c.args.schedule.now g.V.VersionStore.versions c.args.budget
    (command_kinds.Last) (λ past view rest. refl) c.args.self.now c.args.machine.now
    c.args.kernel.now)

pub returns-in-Ram : goal.returns-in-Ram
returns-in-Ram g c =
    subst (λ command. Advances g.K.Kernel.told c.args.schedule.now g.V.VersionStore.versions
    c.args.budget command c.args.self.now c.args.machine.now c.args.kernel.now c.args.self.now
    c.args.machine.now c.args.kernel.now) (sym c.in-Ram.is)
    (stays_there g.K.Kernel.told c.args.schedule.now g.V.VersionStore.versions c.args.budget
    (command_kinds.Ram c.in-Ram.address c.in-Ram.count) (λ past view rest. refl) c.args.self.now
    c.args.machine.now c.args.kernel.now)
