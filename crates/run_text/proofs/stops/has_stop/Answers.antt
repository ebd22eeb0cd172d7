-- The entry at the place is the first of those that are left.
use Rattle.std.proofs.Common.{◌≡◌, ℕ, zero, suc, add-one, ◌+◌, Bool, true, false, ◌||◌, List, [], ◌∷◌, drop, refl, sym, ap, ◌∙◌}
use Rattle.std.specs.List.{list_any}
use Rattle.std.specs.Option.{is_some}
use Rattle.std.specs.Prelude.{option_and_then, slice_get}
use Rattle.trace_judge.specs.Suspicion.{is_stop}
use Rattle.xom_base.specs.declared.entry.Entry.{Entry}
use Rattle.xom_base.specs.declared.entry.Entry.TheVariants as entry
use Rattle.xom_journal.specs.EntryParts.{stop_rule_in}
use Rattle.run_text.proofs.stops.has_stop.Goals as goal

-- an entry is a Stop where it has a rule
is_stop-by_rule : (e : Entry) → is_some (stop_rule_in e) ≡ is_stop e
is_stop-by_rule (entry.Install n slot id place at lines) = refl
is_stop-by_rule (entry.Step n step) = refl
is_stop-by_rule (entry.Trap n why) = refl
is_stop-by_rule (entry.Seal key message) = refl
is_stop-by_rule (entry.Accept key message place) = refl
is_stop-by_rule (entry.Hash preimage digest) = refl
is_stop-by_rule (entry.Stop n rule) = refl
is_stop-by_rule (entry.Kill n) = refl
is_stop-by_rule (entry.Out byte) = refl

-- whether the entries from a place on have a Stop, by the one that stands there
stops-from : (es : List Entry) (i : ℕ) → list_any is_stop (drop i es)
    ≡ (is_some (option_and_then stop_rule_in (slice_get es i)) || list_any is_stop (drop (suc i) es))
stops-from [] zero = refl
stops-from [] (suc i) = refl
stops-from (e ∷ es) zero = ap (λ b. b || list_any is_stop es) (sym (is_stop-by_rule e))
stops-from (e ∷ es) (suc i) = stops-from es i

any_true : (b c : Bool) → b ≡ true → (b || c) ≡ true
any_true b c is = rw is refl

any_false : (b c : Bool) → b ≡ false → (b || c) ≡ c
any_false b c is = rw is refl

stops-next : (es : List Entry) (i : ℕ) → list_any is_stop (drop i es)
    ≡ (is_some (option_and_then stop_rule_in (slice_get es i)) || list_any is_stop (drop (i + 1) es))
stops-next es i = rw (add-one i) (stops-from es i)

pub returns-then-is_some : goal.returns-then-is_some
returns-then-is_some c =
    let es = c.args.journal.now.entries in
    let has = sym (c.is_some.ensures ∙ ap is_some c.stop_rule_at.ensures) ∙ c.if-is_some.true in
    sym (sym c.loop-i.invariant ∙ stops-next es c.loop-i.i
    ∙ any_true _ (list_any is_stop (drop (c.loop-i.i + 1) es)) has)

pub loop-i-preserved : goal.loop-i-preserved
loop-i-preserved c =
    let es = c.args.journal.now.entries in
    let lacks = sym (c.is_some.ensures ∙ ap is_some c.stop_rule_at.ensures) ∙ c.if-is_some.false in
    sym (stops-next es c.loop-i.i
    ∙ any_false _ (list_any is_stop (drop (c.loop-i.i + 1) es)) lacks) ∙ c.loop-i.invariant
