use Rattle.std.proofs.Common.{ap, List, ℕ, ◌∙◌, ◌++◌}
use Rattle.trace_picture.specs.Pages.{journal_page, picture_text, summary_text, table_text}
use Rattle.trace_picture.proofs.Steps.{behind_piece, same_piece}
use Rattle.trace_picture.proofs.page.print_page.Goals as goal

pub returns-clause-page : goal.returns-clause-page
returns-clause-page c =
    let es = c.args.journal.now.entries in
    c.from_vec.ensures
    ∙ behind_piece c.new-text.result.items c.push_head.new.text.items c.push_table.new.text.items _ _ c.in_ok-push_head.ensures
    (behind_piece c.push_head.new.text.items c.push_summary.new.text.items c.push_table.new.text.items _ _ (same_piece c.push_head.new.text.items c.push_summary.new.text.items _ _ c.in_ok-push_summary.ensures
    (ap summary_text c.len.ensures))
    (behind_piece c.push_summary.new.text.items c.push_text.new.text.items c.push_table.new.text.items _ _ (same_piece c.push_summary.new.text.items c.push_text.new.text.items _ _ c.in_ok-push_text.ensures.ok
    c.key.ensures)
    (behind_piece c.push_text.new.text.items c.push_text-2.new.text.items c.push_table.new.text.items _ _ (same_piece c.push_text.new.text.items c.push_text-2.new.text.items _ _ c.in_ok-push_text-2.ensures.ok
    c.fit.ensures)
    (behind_piece c.push_text-2.new.text.items c.push_picture.new.text.items c.push_table.new.text.items _ _ (same_piece c.push_text-2.new.text.items c.push_picture.new.text.items _ _ c.in_ok-push_picture.ensures
    (ap (picture_text es) (c.as_slice.ensures.value ∙ c.in_ok-rows.ensures)))
    ((same_piece c.push_picture.new.text.items c.push_table.new.text.items _ _ c.in_ok-push_table.ensures
    (ap table_text (c.as_slice-2.ensures.value ∙ c.in_ok-rows.ensures))))))))
    ∙ ap (λ (t : List ℕ). t ++ journal_page es) c.new-text.ensures.items
