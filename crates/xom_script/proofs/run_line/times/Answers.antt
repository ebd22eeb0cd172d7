-- One word after another.
use Rattle.std.proofs.Common.{sym, ◌∙◌, ◌+◌, ℕ, List, [], map, drop, get_or, Bor}
use Rattle.std.proofs.lemmas.List.{drop_more, drop_all}
use Rattle.xom_script.proofs.RunLineLaws.{times_none, times_low, times_next, times_done}
use Rattle.xom_script.proofs.run_line.times.Goals as goal

-- what is read past the end of the words
abbrev no_word : Bor (List ℕ)
no_word = record { ref_ptr = (0, 0); now = [] }

pub returns-in_default : goal.returns-in_default
returns-in_default c =
    let words = c.args.words.now in
    let i = c.loop-word.word-index in
    let before = rw (drop_more words i no_word c.loop-word-test.true) at c.loop-word.invariant in
    sym (sym before
    ∙ times_none c.loop-word.times c.loop-word.last (get_or words i no_word).now
    (map (λ word. word.now) (drop (i + 1) words))
    (sym c.number.ensures.value ∙ c.in_default.is))

pub returns-then-time-last : goal.returns-then-time-last
returns-then-time-last c =
    let words = c.args.words.now in
    let i = c.loop-word.word-index in
    let before = rw (drop_more words i no_word c.loop-word-test.true) at c.loop-word.invariant in
    sym (sym before
    ∙ times_low c.loop-word.times c.loop-word.last c.in-Some.time (get_or words i no_word).now
    (map (λ word. word.now) (drop (i + 1) words))
    (sym c.number.ensures.value ∙ c.in-Some.is) c.if-time-last.true)

pub loop-word-preserved : goal.loop-word-preserved
loop-word-preserved c =
    let words = c.args.words.now in
    let i = c.loop-word.word-index in
    let before = rw (drop_more words i no_word c.loop-word-test.true) at c.loop-word.invariant in
    rw c.in_ok-push.ensures.ok
    (sym (times_next c.loop-word.times c.loop-word.last c.in-Some.time (get_or words i no_word).now
    (map (λ word. word.now) (drop (i + 1) words))
    (sym c.number.ensures.value ∙ c.in-Some.is) c.if-time-last.false)
    ∙ before)

pub returns : goal.returns
returns c =
    let before = rw (drop_all c.loop-word.word-index c.args.words.now c.loop-word-test.false) at
    c.loop-word.invariant in
    sym (sym before ∙ times_done c.loop-word.times c.loop-word.last)
