-- `picture JOURNAL PAGE`: the page that shows a journal, or why there is none.
use Rattle.std.specs.Prelude.{◌≡◌, ℕ, List, [], Result, Ok, Err}
use Rattle.text_lines.specs.Lines.{lines_of}
use Rattle.xom_base.specs.declared.entry.Entry.{Entry}
use Rattle.journal_text.specs.Readings.{IsBadJournalLine, IsJournal}
use Rattle.trace_picture.specs.Pages.{journal_page}
use Rattle.cli_base.specs.Commands.{writes}
use Rattle.cli_base.specs.Inputs.{Held, file_or_refusal}
use Rattle.cli_base.specs.declared.answer.Answer.{Answer}
use Rattle.cli_base.specs.declared.refusal.InputFault.TheVariants.{BadLine}
use Rattle.cli_base.specs.declared.refusal.Refusal.{Refusal}
use Rattle.cli_base.specs.declared.refusal.Refusal.TheVariants.{Bad}
use Rattle.cli_base.specs.declared.refusal.Stop.{Stop}
use Rattle.cli_base.specs.declared.refusal.Stop.TheVariants as stop

-- at most so many bytes are in a journal that is drawn
abbrev pub drawn_limit : ℕ
drawn_limit = 268435456

-- the page of a journal as a file of this name, and nothing printed
abbrev pub page_answer : List Entry → List ℕ → Answer
page_answer entries page = writes [] page (journal_page entries)

-- what the text of a journal of this name comes to: its page, or its first bad line
abbrev pub DrawsText : List ℕ → List ℕ → List ℕ → Result Answer Refusal → Type 0
DrawsText journal text page (Ok answer) =
    (entries : List Entry) × IsJournal text entries × (answer ≡ page_answer entries page)
DrawsText journal text page (Err refusal) =
    (n : ℕ) × IsBadJournalLine (lines_of text) n × (refusal ≡ Bad journal (BadLine n))

-- the same of what reading the journal gave
abbrev pub DrawsRead : List ℕ → List ℕ → Result (List ℕ) Refusal → Result Answer Refusal → Type 0
DrawsRead journal page (Ok text) result = DrawsText journal text page result
DrawsRead journal page (Err refusal) result = result ≡ Err refusal

-- what a journal and a page of these names come to
abbrev pub Draws : List ℕ → List ℕ → Held → Result Answer Refusal → Type 0
Draws journal page held result =
    DrawsRead journal page (file_or_refusal held journal drawn_limit) result

-- what was answered of the text of a journal; want of memory comes freely
abbrev pub IsDrawn : List ℕ → List ℕ → List ℕ → Result Answer Stop → Type 0
IsDrawn journal text page (Ok answer) = DrawsText journal text page (Ok answer)
IsDrawn journal text page (Err (stop.Refused refusal)) = DrawsText journal text page (Err refusal)
IsDrawn journal text page (Err stop.NoMemory) = Unit {0}
