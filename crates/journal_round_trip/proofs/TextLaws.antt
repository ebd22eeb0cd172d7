-- The lines of a printed text, one after another.
use Rattle.std.proofs.Common.{◌≡◌, ℕ, ◌+◌, ◌^◌, ◌<◌, List, [], ◌∷◌, ◌++◌, Some, refl, sym, ap, subst, ◌∙◌, append_assoc, arith}
use Rattle.text_lines.specs.Lines.{Reads, lines_of}
use Rattle.text_lines.specs.Words.{words_of}
use Rattle.xom_base.specs.declared.entry.Entry.{Entry}
use Rattle.xom_base.specs.declared.entry.Entry.TheVariants as entry
use Rattle.text_lines.proofs.CutLaws.{cut_of-at, lines_of-cut}
use Rattle.journal_text.specs.JournalLines.{IsRow, JournalLine, last_behind}
use Rattle.journal_text.specs.JournalTexts.{entry_text, journal_line_text, journal_text}
use Rattle.journal_text.specs.Readings.{IsJournal}
use Rattle.journal_round_trip.specs.KeepsRules.{KeepsEntry, KeepsJournalRules, KeepsRulesBehind}
use Rattle.journal_round_trip.proofs.WordLaws.{one_line, words_of-line}
use Rattle.journal_round_trip.proofs.EntryLaws.{entry_words, entry-printed, line-entry}

-- the line of an entry, and what stands behind it
lines_of-entry : (last : ℕ) (e : Entry) (rest : List ℕ) → last < 2 ^ 64 → KeepsEntry last e
    → lines_of (journal_line_text e ++ rest) ≡ entry_text e ∷ lines_of rest
unfolding journal_line_text
lines_of-entry last e rest small keeps =
    let one = one_line (entry_text e) (entry_words e) (line-entry last e small keeps) in
    ap lines_of (append_assoc (entry_text e) (10 ∷ []) rest)
    ∙ lines_of-cut (entry_text e ++ (10 ∷ rest)) (entry_text e) rest
    (cut_of-at 10 (entry_text e) rest one)

-- its words write it
row-entry : (last : ℕ) (e : Entry) → last < 2 ^ 64 → KeepsEntry last e
    → IsRow last (words_of (entry_text e)) e (last_behind last e)
row-entry last e small keeps =
    subst (λ (words : List (List ℕ)). IsRow last words e (last_behind last e))
    (sym (words_of-line (entry_text e) (entry_words e) (line-entry last e small keeps)))
    (entry-printed last e small keeps)

-- numbers of installs have 64 bits
last-small : (last : ℕ) (e : Entry) → last < 2 ^ 64 → KeepsEntry last e
    → last_behind last e < 2 ^ 64
last-small last (entry.Install n slot id place begin lines) small keeps = keeps.1
last-small last (entry.Step n step) small keeps = small
last-small last (entry.Trap n why) small keeps = small
last-small last (entry.Seal key message) small keeps = small
last-small last (entry.Accept key message place) small keeps = small
last-small last (entry.Hash preimage digest) small keeps = small
last-small last (entry.Stop n why) small keeps = small
last-small last (entry.Kill n) small keeps = small
last-small last (entry.Out byte) small keeps = small

-- the number of the last install behind all entries
abbrev last_of : ℕ → List Entry → ℕ
last_of last [] = last
last_of last (e ∷ entries) = last_of (last_behind last e) entries

reads-printed : (last number : ℕ) (entries : List Entry) → last < 2 ^ 64
    → KeepsRulesBehind last entries
    → Reads JournalLine last number (lines_of (journal_text entries)) entries (last_of last entries)
reads-printed last number [] small keeps = (refl, refl)
reads-printed last number (e ∷ entries) small (first, others) =
    let next = last_behind last e in
    let behind = reads-printed next (number + 1) entries (last-small last e small first) others in
    let end = last_of next entries in
    subst (λ (lines : List (List ℕ)). Reads JournalLine last number lines (e ∷ entries) end)
    (sym (lines_of-entry last e (journal_text entries) small first))
    (Some e, next, entries, row-entry last e small first, refl, behind)

pub printed_is_read : (entries : List Entry) → KeepsJournalRules entries
    → IsJournal (journal_text entries) entries
printed_is_read entries keeps =
    (entries, last_of 0 entries, reads-printed 0 1 entries (omega arith) keeps, refl)
