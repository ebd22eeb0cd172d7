-- The place that was found holds the least line of the page.
use Rattle.std.proofs.Common.{◌∙◌, ap, refl, subst, sym, Option, IsNone}
use Rattle.std.proofs.lemmas.List.{get_or_read}
use Rattle.line_cache.specs.declared.way.Victim.{Victim}
use Rattle.line_cache.specs.Ways.{Cache, free_way, victim_of}
use Rattle.line_cache.proofs.Taking.{no_line, place_within, some_line, taken_out}
use Rattle.line_cache.proofs.cache.LineCache.take_page.Goals as goal

pub returns-in_err-place-clause-none : goal.returns-in_err-place-clause-none
returns-in_err-place-clause-none c =
    let opened : Cache = record {
      ways = c.self.inside.ways.items;
      pointers = c.self.inside.pointers;
    } in
    let is_none = λ (r : Option Victim). IsNone r in (
      λ _. no_line opened c.args.self.now c.self.view_is c.self.invariant c.args.slot c.args.page
          c.requires c.deref.result.now c.deref.ensures.value c.least_of_page.result
          c.least_of_page.ensures c.in_err-place.was,
      λ _. subst is_none (sym c.from_residual.ensures)
          refl,
    )

pub returns-clause-none : goal.returns-clause-none
returns-clause-none c =
    let opened : Cache = record {
      ways = c.self.inside.ways.items;
      pointers = c.self.inside.pointers;
    } in (
      λ no. absurd (cc),
      λ none. absurd (some_line opened c.args.self.now c.self.view_is
          c.self.invariant c.args.slot c.args.page c.requires c.deref.result.now c.deref.ensures.value
          c.least_of_page.result c.least_of_page.ensures c.in_ok-place.place c.in_ok-place.was none),
    )

pub returns-clause-least : goal.returns-clause-least
returns-clause-least c =
    let opened : Cache = record {
      ways = c.self.inside.ways.items;
      pointers = c.self.inside.pointers;
    } in
    let within = place_within opened c.args.self.now c.self.view_is c.self.invariant c.args.slot
    c.args.page c.requires c.deref.result.now c.deref.ensures.value c.least_of_page.result
    c.least_of_page.ensures c.in_ok-place.place c.in_ok-place.was in
    let old = ap victim_of (get_or_read opened.ways c.in_ok-place.place c.index.result.now within
    c.index.ensures free_way) in
    taken_out opened c.args.self.now c.self.view_is c.self.invariant c.args.slot c.args.page
    c.requires c.deref.result.now c.deref.ensures.value c.least_of_page.result
    c.least_of_page.ensures c.in_ok-place.place c.in_ok-place.was c.victim-victim.result
    c.free.result (c.victim-victim.ensures ∙ old) c.free.ensures
