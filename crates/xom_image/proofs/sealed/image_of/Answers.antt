-- What is read is in the grammar, and keeps the rules of an image.
use Rattle.std.proofs.Common.{◌≡◌, ◌∙◌, Ok, ap, arith, sym}
use Rattle.std.proofs.lemmas.Grind.{common_steps}
use Rattle.xom_image.specs.Fields.{fields_at}
use Rattle.xom_image.specs.SealedFiles.{envelope_of_file, lines_at, sealed_file, sealed_format}
use Rattle.xom_image.proofs.SealedReading.{told-aligned, told-counted, told-file, told-fits, told-private, told-room, told-sized, told-whole}
use Rattle.xom_image.proofs.sealed.image_of.Goals as goal

pub lines_at-requires : goal.lines_at-requires
lines_at-requires c =
    let read : fields_at sealed_format c.args.file.now ≡ Ok (
      c.in_ok-_entry._entry,
      c.in_ok-_entry.count,
    ) = grind (arith, common_steps) in
    told-room c.args.file.now _ _ read

pub returns-clause-found : goal.returns-clause-found
returns-clause-found c =
    let read : fields_at sealed_format c.args.file.now ≡ Ok (
      c.in_ok-_entry._entry,
      c.in_ok-_entry.count,
    ) = grind (arith, common_steps) in
    let envelope : c.part.result ≡ envelope_of_file c.args.file.now = c.part.ensures in
    let lines : c.from_vec.result ≡ lines_at c.args.file.now c.in_ok-_entry.count =
    c.from_vec.ensures ∙ c.in_ok-lines.ensures in
    told-file c.args.file.now _ _ read
    ∙ ap (λ bytes. sealed_file bytes (lines_at c.args.file.now c.in_ok-_entry.count)) (sym envelope)
    ∙ ap (sealed_file c.part.result) (sym lines)

pub invariant_of-result : goal.invariant_of-result
invariant_of-result c =
    let read : fields_at sealed_format c.args.file.now ≡ Ok (
      c.in_ok-_entry._entry,
      c.in_ok-_entry.count,
    ) = grind (arith, common_steps) in
    let envelope : c.part.result ≡ envelope_of_file c.args.file.now = c.part.ensures in
    let lines : c.from_vec.result ≡ lines_at c.args.file.now c.in_ok-_entry.count =
    c.from_vec.ensures ∙ c.in_ok-lines.ensures in
    record {
      sized = rw envelope (told-sized c.args.file.now _ _ read);
      aligned = rw envelope (told-aligned c.args.file.now _ _ read);
      private = rw envelope (told-private c.args.file.now _ _ read);
      counted = rw (envelope, lines) (told-counted c.args.file.now _ _ read);
      fits = rw lines (told-fits c.args.file.now _ _ read);
      whole = rw lines (told-whole c.args.file.now _ _ read);
    }
