-- What may be said of every call of `picture`: how it ends, and what it wrote.
use Rattle.std.specs.Prelude.{◌≡◌, ◌⊎◌, ℕ, List, [], ◌∷◌, Option, Some, None, Result, MatchOption}
use Rattle.xom_io.specs.Answers.{AppendsToSink, HoldsFile, KeepsOthers}
use Rattle.xom_base.specs.declared.entry.Entry.{Entry}
use Rattle.journal_text.specs.Readings.{IsJournal}
use Rattle.trace_picture.specs.Marks.{ShowEachOnce, marks_of}
use Rattle.trace_picture.specs.Pages.{journal_page}
use Rattle.cli_base.specs.Inputs.{Held}
use Rattle.cli_base.specs.Readings.{Meets}
use Rattle.cli_base.specs.Refusals.{words_line}
use Rattle.cli_base.specs.declared.answer.Answer.{Answer}
use Rattle.cli_base.specs.declared.refusal.Stop.{Stop}
use Rattle.cli_delivery.specs.Endings.{Finishes, Outside, Prints, status_of}
use Rattle.cli_delivery.specs.declared.ending.Ending.{Ending}
use Rattle.cli_delivery.specs.declared.ending.Ending.TheVariants as ending
use Rattle.cli_picture.specs.Picture.{Draws}

-- the names of the journal and of the page
pub record PictureNames : Type 0 where
  pub journal : List ℕ
  pub page : List ℕ

-- the words after the program's name: a journal and a page, or else none
abbrev pub names_in : List (List ℕ) → Option PictureNames
names_in (journal ∷ page ∷ []) = Some (record { journal = journal; page = page })
names_in other = None

-- the journal was drawn or refused, and what was answered is delivered
abbrev pub EndsPicture : Outside → Outside → PictureNames → Ending → Type 0
EndsPicture before after names result =
    (answered : Result Answer Stop)
    × Meets before.disk.held (Draws names.journal names.page) before.reads after.reads answered
    × Finishes before.disk after.disk before.output after.output answered result

-- the words name no journal and page, and that is printed
abbrev pub EndsOtherwise : Outside → Outside → Ending → Type 0
EndsOtherwise before after result =
    (after.disk ≡ before.disk) × (after.reads ≡ before.reads)
    × Prints before.output after.output words_line ending.NoRow ending.NoRow result

-- a whole call
abbrev pub EndsCall : List (List ℕ) → Outside → Outside → Ending → Type 0
EndsCall words before after result =
    MatchOption (names_in words) (EndsOtherwise before after result)
    (λ names. EndsPicture before after names result)

-- The status is that of a call that ended so: 0 where the page was written, 1 where the words name no
-- journal and page, 2 where the journal can't be read, 3 where the page can't be written, 4 where the
-- journal is too long or has a bad line, 5 where memory ran out. What each of them leaves in the files
-- and in the sink is said there.
abbrev pub HasStatus : List (List ℕ) → Outside → Outside → ℕ → Type 0
HasStatus words before after status =
    (result : Ending) × EndsCall words before after result × (status ≡ status_of result)

-- The page of a journal was written: PAGE holds the page of the entries that JOURNAL writes, in which
-- each entry has one mark, in its lane. No other file changed, and nothing was printed.
abbrev pub ShowsJournal : Held → Outside → Outside → PictureNames → Type 0
ShowsJournal held before after names =
    (text : List ℕ) × (entries : List Entry) × (held names.journal ≡ Some text)
    × IsJournal text entries × HoldsFile after.disk.held names.page (journal_page entries)
    × ShowEachOnce entries (marks_of entries)
    × KeepsOthers before.disk.held after.disk.held names.page
    × AppendsToSink before.output.written after.output.written []

-- so it is where the status is 0
abbrev pub DrawsJournal : List (List ℕ) → Outside → Outside → ℕ → Type 0
DrawsJournal words before after status = (held : Held) → before.disk.held ≡ Some held
    → status ≡ 0 → (names : PictureNames) × (names_in words ≡ Some names)
    × ShowsJournal held before after names

-- no file changes where the words, the journal's file or its text is refused
abbrev pub KeepsAll : Outside → Outside → ℕ → Type 0
KeepsAll before after status =
    (status ≡ 1) ⊎ (status ≡ 2) ⊎ (status ≡ 4) → after.disk ≡ before.disk

-- all of this, of a call with these words
pub record PicturePromises (words : List (List ℕ)) (before after : Outside) (status : ℕ) : Type 0 where
  pub ends : HasStatus words before after status
  pub draws : DrawsJournal words before after status
  pub keeps : KeepsAll before after status
