-- Both ways owe what the definition's cache has.
use Rattle.std.proofs.Common.{◌∙◌, ◌<◌, ◌+◌, ap, arith, length}
use Rattle.std.proofs.lemmas.List.{get_or_read}
use Rattle.line_cache.specs.Ways.{Cache, free_way, victim_of}
use Rattle.line_cache.proofs.Placing.{placed_free, placed_full}
use Rattle.line_cache.proofs.cache.LineCache.place.Goals as goal

pub invariant_of-self : goal.invariant_of-self
invariant_of-self c =
    let opened : Cache = record {
      ways = c.self.inside.ways.items;
      pointers = c.self.inside.pointers;
    } in
    (placed_free opened c.args.self.now c.self.view_is c.self.invariant c.args.slot c.args.line
    c.args.bytes.now c.requires.some c.requires.known c.requires.inside c.requires.absent
    c.first_place-first.result c.new-way.result c.first_place-first.ensures c.new-way.ensures
    c.in-Some.free c.in-Some.ensures.value).is_cache

pub returns-in-Some-clause-full : goal.returns-in-Some-clause-full
returns-in-Some-clause-full c =
    let opened : Cache = record {
      ways = c.self.inside.ways.items;
      pointers = c.self.inside.pointers;
    } in
    (placed_free opened c.args.self.now c.self.view_is c.self.invariant c.args.slot c.args.line
    c.args.bytes.now c.requires.some c.requires.known c.requires.inside c.requires.absent
    c.first_place-first.result c.new-way.result c.first_place-first.ensures c.new-way.ensures
    c.in-Some.free c.in-Some.ensures.value).full

pub returns-in-Some-clause-place : goal.returns-in-Some-clause-place
returns-in-Some-clause-place c =
    let opened : Cache = record {
      ways = c.self.inside.ways.items;
      pointers = c.self.inside.pointers;
    } in
    (placed_free opened c.args.self.now c.self.view_is c.self.invariant c.args.slot c.args.line
    c.args.bytes.now c.requires.some c.requires.known c.requires.inside c.requires.absent
    c.first_place-first.result c.new-way.result c.first_place-first.ensures c.new-way.ensures
    c.in-Some.free c.in-Some.ensures.value).found_there

pub returns-in-Some-clause-lines : goal.returns-in-Some-clause-lines
returns-in-Some-clause-lines c =
    let opened : Cache = record {
      ways = c.self.inside.ways.items;
      pointers = c.self.inside.pointers;
    } in
    (placed_free opened c.args.self.now c.self.view_is c.self.invariant c.args.slot c.args.line
    c.args.bytes.now c.requires.some c.requires.known c.requires.inside c.requires.absent
    c.first_place-first.result c.new-way.result c.first_place-first.ensures c.new-way.ensures
    c.in-Some.free c.in-Some.ensures.value).lines

pub invariant_of-self-in-None : goal.invariant_of-self-in-None
invariant_of-self-in-None c =
    let opened : Cache = record {
      ways = c.self.inside.ways.items;
      pointers = c.self.inside.pointers;
    } in
    let places = c.self.invariant.places in
    let at : c.first_place-first.result + c.from.result < length opened.ways =
    omega (arith, c.first_place-first.ensures, c.from.ensures) in
    let old = ap victim_of (get_or_read opened.ways (c.first_place-first.result + c.from.result)
    c.index.result.now at c.index.ensures free_way) in
    (placed_full opened c.args.self.now c.self.view_is c.self.invariant c.args.slot c.args.line
    c.args.bytes.now c.requires.some c.requires.known c.requires.inside c.requires.absent
    c.first_place-first.result c.new-way.result c.first_place-first.ensures c.new-way.ensures
    c.victim-victim.result c.from.result c.in-None.ensures.value c.from.ensures
    (c.victim-victim.ensures ∙ old)).is_cache

pub returns-in-None-clause-full : goal.returns-in-None-clause-full
returns-in-None-clause-full c =
    let opened : Cache = record {
      ways = c.self.inside.ways.items;
      pointers = c.self.inside.pointers;
    } in
    let places = c.self.invariant.places in
    let at : c.first_place-first.result + c.from.result < length opened.ways =
    omega (arith, c.first_place-first.ensures, c.from.ensures) in
    let old = ap victim_of (get_or_read opened.ways (c.first_place-first.result + c.from.result)
    c.index.result.now at c.index.ensures free_way) in
    (placed_full opened c.args.self.now c.self.view_is c.self.invariant c.args.slot c.args.line
    c.args.bytes.now c.requires.some c.requires.known c.requires.inside c.requires.absent
    c.first_place-first.result c.new-way.result c.first_place-first.ensures c.new-way.ensures
    c.victim-victim.result c.from.result c.in-None.ensures.value c.from.ensures
    (c.victim-victim.ensures ∙ old)).full

pub returns-in-None-clause-place : goal.returns-in-None-clause-place
returns-in-None-clause-place c =
    let opened : Cache = record {
      ways = c.self.inside.ways.items;
      pointers = c.self.inside.pointers;
    } in
    let places = c.self.invariant.places in
    let at : c.first_place-first.result + c.from.result < length opened.ways =
    omega (arith, c.first_place-first.ensures, c.from.ensures) in
    let old = ap victim_of (get_or_read opened.ways (c.first_place-first.result + c.from.result)
    c.index.result.now at c.index.ensures free_way) in
    (placed_full opened c.args.self.now c.self.view_is c.self.invariant c.args.slot c.args.line
    c.args.bytes.now c.requires.some c.requires.known c.requires.inside c.requires.absent
    c.first_place-first.result c.new-way.result c.first_place-first.ensures c.new-way.ensures
    c.victim-victim.result c.from.result c.in-None.ensures.value c.from.ensures
    (c.victim-victim.ensures ∙ old)).found_there

pub returns-in-None-clause-lines : goal.returns-in-None-clause-lines
returns-in-None-clause-lines c =
    let opened : Cache = record {
      ways = c.self.inside.ways.items;
      pointers = c.self.inside.pointers;
    } in
    let places = c.self.invariant.places in
    let at : c.first_place-first.result + c.from.result < length opened.ways =
    omega (arith, c.first_place-first.ensures, c.from.ensures) in
    let old = ap victim_of (get_or_read opened.ways (c.first_place-first.result + c.from.result)
    c.index.result.now at c.index.ensures free_way) in
    (placed_full opened c.args.self.now c.self.view_is c.self.invariant c.args.slot c.args.line
    c.args.bytes.now c.requires.some c.requires.known c.requires.inside c.requires.absent
    c.first_place-first.result c.new-way.result c.first_place-first.ensures c.new-way.ensures
    c.victim-victim.result c.from.result c.in-None.ensures.value c.from.ensures
    (c.victim-victim.ensures ∙ old)).lines

pub returns-in-Some-clause-range : goal.returns-in-Some-clause-range
returns-in-Some-clause-range c =
    let opened : Cache = record {
      ways = c.self.inside.ways.items;
      pointers = c.self.inside.pointers;
    } in
    (placed_free opened c.args.self.now c.self.view_is c.self.invariant c.args.slot c.args.line
    c.args.bytes.now c.requires.some c.requires.known c.requires.inside c.requires.absent
    c.first_place-first.result c.new-way.result c.first_place-first.ensures c.new-way.ensures
    c.in-Some.free c.in-Some.ensures.value).range

pub returns-in-None-clause-range : goal.returns-in-None-clause-range
returns-in-None-clause-range c =
    let opened : Cache = record {
      ways = c.self.inside.ways.items;
      pointers = c.self.inside.pointers;
    } in
    let places = c.self.invariant.places in
    let at : c.first_place-first.result + c.from.result < length opened.ways =
    omega (arith, c.first_place-first.ensures, c.from.ensures) in
    let old = ap victim_of (get_or_read opened.ways (c.first_place-first.result + c.from.result)
    c.index.result.now at c.index.ensures free_way) in
    (placed_full opened c.args.self.now c.self.view_is c.self.invariant c.args.slot c.args.line
    c.args.bytes.now c.requires.some c.requires.known c.requires.inside c.requires.absent
    c.first_place-first.result c.new-way.result c.first_place-first.ensures c.new-way.ensures
    c.victim-victim.result c.from.result c.in-None.ensures.value c.from.ensures
    (c.victim-victim.ensures ∙ old)).range
