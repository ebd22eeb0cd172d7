-- The table has what was put, and else what it had.
use Rattle.text_table.proofs.Puts.{value_in-others}
use Rattle.text_table.proofs.table.TextTable.insert_other.Goals as goal

pub returns-clause-ok : goal.returns-clause-ok
returns-clause-ok g c =
    value_in-others c.args.self.now c.insert.new.self c.in_ok-text.text c.args.value c.args.text.now
    c.in_ok-text.ensures.items c.in_ok-_old.ensures.updates c.requires
