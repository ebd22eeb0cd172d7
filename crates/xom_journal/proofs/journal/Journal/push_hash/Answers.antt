-- One more Hash; what is spare still has places, and its text stands within the block.
use Rattle.std.proofs.Common.{rules, arith, ap, ◌∙◌}
use Rattle.xom_base.specs.declared.entry.Entry.TheVariants as entry
use Rattle.xom_journal.proofs.RecordLaws.{hash_of_text, hash_within, log_pushed, within_pushed_as}
use Rattle.xom_journal.proofs.journal.Journal.push_hash.Goals as goal
use Rattle.xom_journal.specs.Log.{log_with_entry}

pub returns : goal.returns
returns c =
    let old = c.self.inside in
    let text = c.args.text.now in
    let digest = c.args.digest.now in
    let bytes = c.text_in-at.new.bytes.items in
    log_pushed old.bytes.items bytes old.records.items _ _ (entry.Hash text digest) old.spare _
    c.self.invariant.2 c.text_in-at.ensures.items c.add_record.ensures.items
    (hash_of_text bytes text digest c.text_in-at.result c.text_in-at.ensures.stands) (omega arith)
    ∙ ap (λ log. log_with_entry log (entry.Hash text digest)) c.self.view_is

pub invariant_of-self : goal.invariant_of-self
invariant_of-self c =
    let old = c.self.inside in
    let bytes = c.text_in-at.new.bytes.items in (
      search rules,
      search rules,
      within_pushed_as old.bytes.items bytes old.records.items _ _ c.self.invariant.2
          c.text_in-at.ensures.items c.add_record.ensures.items
          (hash_within bytes c.args.text.now c.args.digest.now c.text_in-at.result
          c.text_in-at.ensures.stands c.requires.size),
    )
