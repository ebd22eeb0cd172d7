-- The search finds the write that is listed for the number.
use Rattle.std.proofs.Common.{Some, ◌∙◌, ap, rules}
use Rattle.std.proofs.lemmas.List.Sorted.{answers_always}
use Rattle.xom_base.specs.declared.schedule.Poke.{Poke}
use Rattle.xom_machine.proofs.Pokes.{searched_poke}
use Rattle.xom_machine.proofs.next.poke_for.Goals as goal

pub returns-in-Ok-clause-value : goal.returns-in-Ok-clause-value
returns-in-Ok-clause-value c =
    let facts = c.binary_search_by_key.ensures in
    let by_key = facts.position (λ (poke : Poke). poke.event)
    (answers_always _ _ _ (λ f a r g called. search rules)) in
    let found = rw c.in-Ok.is at (searched_poke c.args.pokes.now c.requires.ascending c.args.number
    c.binary_search_by_key.result facts.bound by_key) in
    ap Some c.index-pokes-i.is ∙ found c.index-pokes-i.result

pub returns-in-Err-clause-value : goal.returns-in-Err-clause-value
returns-in-Err-clause-value c =
    let facts = c.binary_search_by_key.ensures in
    let by_key = facts.position (λ (poke : Poke). poke.event)
    (answers_always _ _ _ (λ f a r g called. search rules)) in
    rw c.in-Err.is at (searched_poke c.args.pokes.now c.requires.ascending c.args.number
    c.binary_search_by_key.result facts.bound by_key)
