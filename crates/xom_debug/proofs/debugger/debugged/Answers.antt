-- One more command was carried out.
use Rattle.std.proofs.Common.{◌≡◌, ◌+◌, ◌++◌, List, ◌∷◌, drop, get_or, subst, sym, ap, refl, ◌∙◌}
use Rattle.std.proofs.lemmas.List.{drop_more}
use Rattle.xom_debug.specs.DebugTexts.{said}
use Rattle.xom_debug.specs.Sessions.{CarriedOut}
use Rattle.xom_debug.specs.declared.command.Command.{Command}
use Rattle.xom_debug.specs.declared.command.Command.TheVariants as command_kinds
use Rattle.xom_debug.proofs.Carrying.{carried-more, carried-none}
use Rattle.xom_debug.proofs.debugger.debugged.Goals as goal

pub loop-command-init : goal.loop-command-init
loop-command-init g c =
    subst (λ text. CarriedOut g.K.Kernel.told c.args.schedule.now g.V.VersionStore.versions
    c.args.budget c.args.commands.now c.in_ok-session.session c.args.machine.now c.args.kernel.now
    0 c.in_ok-session.session c.args.machine.now c.args.kernel.now text)
    (sym c.new-text.ensures.items)
    (carried-none g.K.Kernel.told c.args.schedule.now g.V.VersionStore.versions c.args.budget
    c.args.commands.now c.in_ok-session.session c.args.machine.now c.args.kernel.now
    c.in_ok-session.ensures.guests c.requires.first)

pub loop-command-preserved : goal.loop-command-preserved
loop-command-preserved g c =
    let commands = c.args.commands.now in
    let i = c.loop-command.command-index in
    let items = c.as_slice-command-items.result.now in
    let command : Command = get_or items i (command_kinds.Step 0) in
    let same : items ≡ commands = c.as_slice-command-items.ensures in
    let here : drop i commands ≡ command ∷ drop (i + 1) commands =
    subst (λ (xs : List Command). drop i xs ≡ command ∷ drop (i + 1) xs) same
    (drop_more items i (command_kinds.Step 0) c.loop-command-test.true) in
    subst (λ text. CarriedOut g.K.Kernel.told c.args.schedule.now g.V.VersionStore.versions
    c.args.budget c.args.commands.now c.in_ok-session.session c.args.machine.now c.args.kernel.now
    (i + 1) c.advance.new.self c.advance.new.machine c.advance.new.kernel text)
    (sym (c.in_ok-show.ensures ∙ ap (λ view. c.loop-command.text.items
    ++ said command c.advance.new.self.last.items view) c.view.ensures))
    (carried-more g.K.Kernel.told c.args.schedule.now g.V.VersionStore.versions c.args.budget
    c.args.commands.now
    c.in_ok-session.session c.args.machine.now c.args.kernel.now i c.loop-command.session
    c.loop-command.machine c.loop-command.kernel c.loop-command.text.items
    c.requires.first c.in_ok-session.ensures.noted c.loop-command.invariant
    command (drop (i + 1) commands) here
    c.advance.new.self c.advance.new.machine c.advance.new.kernel c.in_ok-advance.ensures refl)
