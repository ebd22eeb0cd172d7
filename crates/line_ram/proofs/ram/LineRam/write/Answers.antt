-- The used bytes with zeros behind them are written as RAM is.
use Rattle.std.proofs.Common.{◌≡◌, length, sym, ap, ◌∙◌, arith}
use Rattle.line_ram.specs.Bytes.{ram_with_bytes}
use Rattle.line_ram.proofs.Touched.{filled-written, length-filled}
use Rattle.line_ram.proofs.ram.LineRam.write.Goals as goal

pub returns-clause-bytes : goal.returns-clause-bytes
returns-clause-bytes c =
    let ram = c.self.inside in
    let long : length c.args.self.now ≡ ram.size = ap length (sym c.self.view_is)
    ∙ length-filled ram.size ram.bytes.items
    (omega (arith, ram.bytes.ok.0, c.self.invariant.0)) in
    filled-written ram.size c.args.address c.reach.new.bytes.len ram.bytes.items
    c.reach.new.bytes.items c.copy_from_slice.new.self c.args.bytes.now
    c.copy_from_slice.ensures.after c.reach.new.bytes.ok.0 c.reach.ensures.items
    (omega (arith, long, c.requires)) (omega (arith, c.reach.ensures.len))
    ∙ ap (λ all. ram_with_bytes all c.args.address c.args.bytes.now) c.self.view_is
