-- The table has what was put, and else what it had.
use Rattle.text_table.proofs.Puts.{value_in-firsts}
use Rattle.text_table.proofs.table.TextTable.insert_first.Goals as goal

pub returns-clause-ok : goal.returns-clause-ok
returns-clause-ok g c =
    value_in-firsts c.args.self.now c.insert.new.self c.args.fingerprint _ c.args.text.now
    c.in_ok-text.ensures.items c.requires.fingerprint c.in_ok-_old.ensures.updates c.requires.free
