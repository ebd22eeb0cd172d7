use Rattle.std.proofs.Common.{subst, sym, map}
use Rattle.std.specs.Prelude.{string_bytes}
use Rattle.cli_delivery.specs.Endings.{Outside, disk, output, outside}
use Rattle.xom_cli.specs.Endings.{Ends}
use Rattle.xom_cli.specs.Promises.{Promises}
use Rattle.xom_cli.proofs.Kept.{promises_kept}
use Rattle.xom_cli.proofs.top.xom_main.Goals as goal

pub returns : goal.returns
returns g c =
    let words = map string_bytes c.args.words.now.items in
    let before : Outside =
    outside (disk (g.F.Files.held c.args.files.now) (g.F.Files.writes c.args.files.now))
    (g.F.Files.reads c.args.files.now) (output (g.O.Sink.written c.args.out.now)
    (g.O.Sink.faults c.args.out.now)) in
    let after : Outside =
    outside (disk (g.F.Files.held c.call.new.files) (g.F.Files.writes c.call.new.files))
    (g.F.Files.reads c.call.new.files) (output (g.O.Sink.written c.call.new.out)
    (g.O.Sink.faults c.call.new.out)) in
    record {
      promises = subst (λ status. Promises words before after status) (sym c.status.ensures)
          (promises_kept words before after c.call.result
          (subst (λ list. Ends (map string_bytes list) before after c.call.result)
          c.as_slice.ensures.value c.call.ensures));
    }
