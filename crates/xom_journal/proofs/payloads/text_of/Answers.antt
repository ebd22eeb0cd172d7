-- The text of the record that was looked at stands where that record says.
use Rattle.std.proofs.Common.{rules, ap, refl, length, Some, ◌∙◌}
use Rattle.std.proofs.lemmas.Option.{slice_get_read}
use Rattle.xom_journal.proofs.RecordLaws.{text_found}
use Rattle.xom_journal.proofs.payloads.text_of.Goals as goal

pub returns-in-Some-Hash : goal.returns-in-Some-Hash
returns-in-Some-Hash c =
    let records = c.args.records.now in
    let found = c.in-Some-Hash.ensures.lookup in
    text_found c.args.bytes.now c.args.text.now records c.args.number c.in-Some-Hash.at
    c.in-Some-Hash.preimage c.in-Some-Hash._digest c.requires
    (slice_get_read records (length records) c.args.number c.in-Some-Hash.field-0.now refl
    found.3.0 found.1 ∙ ap Some c.in-Some-Hash.field-0-is)
    (search rules)
