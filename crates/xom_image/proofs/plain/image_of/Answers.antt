-- What is read is in the grammar, and keeps the rules of an image.
use Rattle.std.proofs.Common.{◌≡◌, ◌∙◌, Ok, ap, arith, drop, sym}
use Rattle.std.proofs.lemmas.Grind.{common_steps}
use Rattle.std.proofs.lemmas.List.{take_rest}
use Rattle.xom_image.specs.Fields.{fields_at}
use Rattle.xom_image.specs.PlainFiles.{plain_file, plain_format}
use Rattle.xom_image.proofs.PlainReading.{told-aligned, told-file, told-fits, told-private}
use Rattle.xom_image.proofs.plain.image_of.Goals as goal

pub returns-clause-found : goal.returns-clause-found
returns-clause-found c =
    let read : fields_at plain_format c.args.file.now ≡ Ok (
      c.in_ok-entry.entry,
      c.in_ok-entry._length,
    ) = grind (arith, common_steps) in
    let bytes : c.from_vec.result ≡ drop 16 c.args.file.now = c.from_vec.ensures
    ∙ c.in_ok-bytes.ensures.items ∙ take_rest c.args.file.now 16 in
    told-file c.args.file.now _ _ read (λ i. omega (arith, c.type_inv.file i))
    ∙ ap (plain_file c.in_ok-entry.entry) (sym bytes)

pub invariant_of-result : goal.invariant_of-result
invariant_of-result c =
    let read : fields_at plain_format c.args.file.now ≡ Ok (
      c.in_ok-entry.entry,
      c.in_ok-entry._length,
    ) = grind (arith, common_steps) in
    let bytes : c.from_vec.result ≡ drop 16 c.args.file.now = c.from_vec.ensures
    ∙ c.in_ok-bytes.ensures.items ∙ take_rest c.args.file.now 16 in
    record {
      fits = rw bytes (told-fits c.args.file.now _ _ read);
      aligned = told-aligned c.args.file.now _ _ read;
      private = told-private c.args.file.now _ _ read;
    }
