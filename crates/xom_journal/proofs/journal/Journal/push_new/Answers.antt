-- One more entry; what is spare still has places, and the new payload stands within the block.
use Rattle.std.proofs.Common.{rules, ap, ◌∙◌}
use Rattle.xom_journal.proofs.RecordLaws.{cost_covers, log_pushed, value_added, within_added, within_pushed_as}
use Rattle.xom_journal.proofs.journal.Journal.push_new.Goals as goal
use Rattle.xom_journal.specs.Log.{log_with_entry}
use Rattle.xom_journal.specs.Records.{payload}

pub returns : goal.returns
returns c =
    let old = c.self.inside in
    let bytes = c.add_payload.new.bytes.items in
    log_pushed old.bytes.items bytes old.records.items _ _ c.args.entry.now old.spare _
    c.self.invariant.2 (record { more = payload c.args.entry.now; items = c.add_payload.ensures.items })
    c.add_record.ensures.items (value_added old.bytes.items bytes c.args.entry.now c.len-at.result
    c.record_of.result c.add_payload.ensures.items (search rules) c.record_of.ensures.value)
    c.cost.ensures
    ∙ ap (λ log. log_with_entry log c.args.entry.now) c.self.view_is

pub invariant_of-self : goal.invariant_of-self
invariant_of-self c =
    let old = c.self.inside in
    let bytes = c.add_payload.new.bytes.items in
    let covers = cost_covers c.args.entry.now in (
      search (rules, covers),
      search (rules, covers),
      within_pushed_as old.bytes.items bytes old.records.items _ _ c.self.invariant.2
          (record { more = payload c.args.entry.now; items = c.add_payload.ensures.items })
          c.add_record.ensures.items (within_added old.bytes.items bytes c.args.entry.now c.len-at.result
          c.record_of.result c.add_payload.ensures.items (search rules) c.record_of.ensures.within),
    )
