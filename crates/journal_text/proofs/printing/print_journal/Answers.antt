-- The line of each entry stands behind those before it.
use Rattle.std.proofs.Common.{◌≡◌, ℕ, ◌+◌, ◌<◌, ◌≤◌, List, [], ◌∷◌, ◌++◌, length, drop, Some, None, refl, sym, ap, ◌∙◌, append_assoc, append-nil, arith}
use Rattle.std.specs.Prelude.{slice_get}
use Rattle.xom_base.specs.declared.entry.Entry.{Entry}
use Rattle.xom_journal.proofs.PlaceLaws.{behind_some, past_end}
use Rattle.journal_text.specs.JournalTexts.{journal_line_text, journal_text}
use Rattle.journal_text.proofs.printing.print_journal.Goals as goal
use Rattle.journal_text.proofs.printing.print_journal.Goals.{in-Some+in_ok-push_line, in_default}

line_more : (text new : List ℕ) (es : List Entry) (i : ℕ) (e : Entry) → slice_get es i ≡ Some e
    → new ≡ text ++ journal_line_text e
    → new ++ journal_text (drop (i + 1) es) ≡ text ++ journal_text (drop i es)
line_more text new es i e some is =
    ap (λ (t : List ℕ). t ++ journal_text (drop (i + 1) es)) is
    ∙ append_assoc text (journal_line_text e) (journal_text (drop (i + 1) es))
    ∙ ap (λ (es : List Entry). text ++ journal_text es) (sym (behind_some es i e some))

none_past : (es : List Entry) (i n : ℕ) → slice_get es i ≡ None → i < n → n ≡ length es → ⊥
none_past es i n none within is = let past : length es ≤ i = past_end es i none in omega arith

pub loop-i-preserved : goal.loop-i-preserved
loop-i-preserved c =
    elim c.match-get.branch [
      | in-Some+in_ok-push_line w ↦
          let more = line_more c.loop-i.text.items w.push_line.new.text.items
          c.args.journal.now.entries c.loop-i.i w.in-Some.entry (sym c.get.ensures ∙ w.in-Some.is)
          w.in_ok-push_line.ensures in
          rw w.text-is (more ∙ c.loop-i.invariant)
      | in_default w ↦ absurd (none_past c.args.journal.now.entries c.loop-i.i c.len-i-end.result
          (sym c.get.ensures ∙ w.in_default.is) c.loop-i-test.true c.len-i-end.ensures)
    ]
