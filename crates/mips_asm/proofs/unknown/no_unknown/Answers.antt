-- What is found is the first statement with a name that no label has.
use Rattle.std.proofs.Common.{option_map, inr, refl, sym, ap, ◌∙◌, rules}
use borrow.Author.Tests.{tests}
use Rattle.std.proofs.lemmas.Iterator.Search.{find_from_yields_List}
use Rattle.std.proofs.lemmas.Iterator.{YieldsList-from_slice}
use Rattle.mips_asm.specs.LabelMaps.{place_in}
use Rattle.mips_asm.specs.Passes.{is_unknown, statement_line}
use Rattle.mips_asm.proofs.unknown.no_unknown.Goals as goal

pub returns-in-Some : goal.returns-in-Some
returns-in-Some c =
    let found = find_from_yields_List (is_unknown (place_in c.args.labels.now))
    _ _ _ c.find-unknown.ensures.ran (YieldsList-from_slice c.args.placed.now cc)
    (λ x b q k. search (rules, tests)) in
    rw c.line.ensures
    (inr (_, ap (option_map statement_line) (sym found ∙ ap (option_map (λ p. p.now)) c.in-Some.is), refl))

pub returns-in-None : goal.returns-in-None
returns-in-None c =
    let found = find_from_yields_List (is_unknown (place_in c.args.labels.now))
    _ _ _ c.find-unknown.ensures.ran (YieldsList-from_slice c.args.placed.now cc)
    (λ x b q k. search (rules, tests)) in
    ap (option_map statement_line) (sym found ∙ ap (option_map (λ p. p.now)) c.in-None.is)
