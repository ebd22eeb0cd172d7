-- What was sealed keeps the rules of a sealed image.
use Rattle.std.proofs.Common.{◌≡◌, ◌∙◌, ap, length, sym}
use Rattle.xom_seal.specs.Envelopes.{entry_of_envelope, lines_in}
use Rattle.xom_seal.specs.Laws.{Shows}
use Rattle.xom_seal.proofs.EnvelopeLaws.{envelopes_show}
use Rattle.image_sealer.specs.Sealing.{line_count, sealed_lines_of}
use Rattle.image_sealer.proofs.Opening.{length-sealed_lines, line_count-fits, sealed_lines-whole}
use Rattle.image_sealer.proofs.sealing.seal.Goals as goal

pub invariant_of-result : goal.invariant_of-result
invariant_of-result c =
    let owner = c.args.owner.now in
    let shown : Shows c.wrap.result c.contents.result =
    rw c.wrap.ensures (envelopes_show c.args.machine.now c.contents.result
    c.contents.ensures.ranges) in
    let entry : entry_of_envelope c.wrap.result ≡ owner.plain.entry = shown.entry ∙ ap (λ said. said.entry)
    c.contents.ensures.value in
    let told : lines_in c.wrap.result ≡ line_count owner.plain.bytes = shown.lines
    ∙ ap (λ said. said.lines) c.contents.ensures.value in
    let lines : c.in_ok-lines.lines ≡ sealed_lines_of owner = c.in_ok-lines.ensures in
    let count : length c.in_ok-lines.lines ≡ line_count owner.plain.bytes = ap length lines
    ∙ length-sealed_lines owner in
    record {
      sized = shown.size;
      aligned = rw entry owner.plain.aligned;
      private = rw entry owner.plain.private;
      counted = told ∙ sym count;
      fits = rw count (line_count-fits owner);
      whole = rw lines (sealed_lines-whole owner);
    }
