-- One more entry of the journal, a Hash or another, or none behind the last.
use Rattle.std.proofs.Common.{refl, sym, take, ◌∙◌}
use Rattle.std.specs.Prelude.{slice_get}
use Rattle.xom_base.specs.declared.entry.Entry.TheVariants.{Hash as AHash}
use Rattle.trace_judge.proofs.JudgeLaws.{hash_got, judged_next, judged_none}
use Rattle.trace_judge.proofs.judging.feed_at.Goals as goal

pub returns-in-Some : goal.returns-in-Some
returns-in-Some c is machine owners judged =
    let entries = c.args.journal.now.entries in
    let text = c.in-Some.hash.text.now in
    let digest = c.in-Some.hash.digest.now in
    judged_next machine owners c.args.judge.now c.feed_hash.new.self entries c.args.i
    (AHash text digest) (hash_got (slice_get entries c.args.i) text digest
    (sym c.in-Some.ensures.value)) c.requires refl
    (λ m os es small may was. c.in_ok-feed_hash.ensures m os es small was) judged

pub returns-in_default-get : goal.returns-in_default-get
returns-in_default-get c is machine owners judged =
    judged_none machine owners c.args.judge.now c.args.journal.now.entries c.args.i
    (sym c.in_default-get.ensures) judged

pub returns : goal.returns
returns c is machine owners judged =
    let entries = c.args.journal.now.entries in
    let may = c.may_feed.ensures machine owners (take c.args.i entries) judged in
    judged_next machine owners c.args.judge.now c.feed.new.self entries c.args.i
    c.in-Some-get.entry (sym c.in-Some-get.ensures) c.requires
    (sym may ∙ c.if-not-may_feed.false) c.in_ok-feed.ensures.ok judged
