-- What is known of the lines read so far, and of one more.
use Rattle.std.proofs.Common.{◌≡◌, ℕ, suc, ◌+◌, Bool, true, false, List, [], ◌∷◌, ◌++◌, length, Option, Some, None, Result, Ok, Err, refl, sym, ap, subst, ◌∙◌, append_assoc, append-nil, arith}
use Rattle.std.specs.Prelude.{◌↔◌, IfOk, IsNone, option_map}
use Rattle.std.specs.Option.{option_to_list}
use Rattle.std.proofs.lemmas.Bool.{true≢false}
use Rattle.std.proofs.lemmas.List.{length-append}
use Rattle.std.proofs.lemmas.Option.{none-some, same_Some, some_pair_parts}
use Rattle.text_lines.specs.Lines.{IsFirstBad, Reads, with_words}
use Rattle.text_lines.specs.Words.{words_of}
use Rattle.text_lines.proofs.CutLaws.{option_map_some}
use Rattle.xom_base.specs.declared.entry.Entry.{Entry}
use Rattle.journal_text.specs.declared.line_reader.BadLine.{BadLine}
use Rattle.journal_text.specs.JournalLines.{JournalLine, journal_step, row_of_entry}
use Rattle.journal_text.specs.Readings.{AnswersNext, AnswersStep, HasRead, IsBadJournalLine, ReadOrBad, Reading}
use Rattle.journal_text.proofs.RowLaws.{tells}

-- ---- the number of a line says nothing of it

line_anywhere : (last m n : ℕ) (line : List ℕ) (value : Option Entry) (next : ℕ)
    → JournalLine last m line value next → JournalLine last n line value next
line_anywhere last m n line None next h = h
line_anywhere last m n line (Some e) next h = h

words_anywhere : (last m n : ℕ) (words : List (List ℕ))
    → with_words (λ last n words. row_of_entry last words) last m words ≡ with_words
    (λ last n words. row_of_entry last words) last n words
words_anywhere last m n [] = refl
words_anywhere last m n (word ∷ words) = refl

pub step_anywhere : (last m n : ℕ) (line : List ℕ)
    → journal_step last m line ≡ journal_step last n line
step_anywhere last m n line = words_anywhere last m n (words_of line)

-- ---- one more line

pub reads_more : (s n : ℕ) (lines : List (List ℕ)) (entries : List Entry) (last : ℕ) (line : List ℕ)
    (value : Option Entry) (next : ℕ)
    → Reads JournalLine s n lines entries last → JournalLine last 0 line value next
    → Reads JournalLine s n (lines ++ line ∷ []) (entries ++ option_to_list value) next
reads_more s n [] entries last line value next read one = (
  value,
  next,
  [],
  line_anywhere s 0 n line value next (subst (λ (k : ℕ). JournalLine k 0 line value next) read.1
      one),
  ap (λ (es : List Entry). es ++ option_to_list value) read.0
      ∙ sym (append-nil (option_to_list value)),
  (refl, refl),
)
reads_more s n (first ∷ lines) entries last line value next (v, t, more, row, is, read) one = (
  v,
  t,
  more ++ option_to_list value,
  row,
  ap (λ (es : List Entry). es ++ option_to_list value) is ∙ append_assoc (option_to_list v) more
      (option_to_list value),
  reads_more t (n + 1) lines more last line value next read one,
)

-- a bad line stays the first one
bad_more : (lines : List (List ℕ)) (line : List ℕ) (n : ℕ) → IsBadJournalLine lines n
    → IsBadJournalLine (lines ++ line ∷ []) n
bad_more lines line n first = record {
  before = first.before;
  line = first.line;
  after = first.after ++ line ∷ [];
  values = first.values;
  state = first.state;
  whole = ap (λ (ls : List (List ℕ)). ls ++ line ∷ []) first.whole ∙ append_assoc first.before
      (first.line ∷ first.after) (line ∷ []);
  number = first.number;
  reads = first.reads;
  has_none = first.has_none;
}

-- a line that isn't read is bad
bad_now : (lines : List (List ℕ)) (entries : List Entry) (last : ℕ) (line : List ℕ) (n : ℕ)
    → n ≡ 1 + length lines
    → Reads JournalLine 0 1 lines entries last → journal_step last 0 line ≡ None
    → IsBadJournalLine (lines ++ line ∷ []) n
bad_now lines entries last line n number read none = record {
  before = lines;
  line = line;
  after = [];
  values = entries;
  state = last;
  whole = refl;
  number = number;
  reads = read;
  has_none = λ value next fits. none-some (value, next) (sym (step_anywhere last n 0 line ∙ none)
      ∙ tells.only last n line value next fits);
}

-- ---- answers

step_answers : (step : Option (Option Entry × ℕ)) (old : Reading) (line : List ℕ)
    (result : Result (Option Entry) BadLine) (new : Reading) (lines : List (List ℕ))
    (entries : List Entry)
    → journal_step old.last 0 line ≡ step → AnswersStep step old result new
    → Reads JournalLine 0 1 lines entries old.last → old.lines ≡ length lines
    → AnswersNext (lines ++ line ∷ []) entries result new
step_answers None old line result new lines entries is answer read number =
    let now = bad_now lines entries old.last line (old.lines + 1) (omega arith) read is in
    let given : AnswersNext (lines ++ line ∷ []) entries (Err record { 0 = old.lines + 1 })
    record { last = old.last; lines = old.lines + 1; bad = true } = (refl, now, refl) in
    subst (λ (r : Result (Option Entry) BadLine). AnswersNext (lines ++ line ∷ []) entries r new)
    (sym answer.0)
    (subst (AnswersNext (lines ++ line ∷ []) entries (Err record { 0 = old.lines + 1 }))
    (sym answer.1) given)
step_answers (Some found) old line result new lines entries is answer read number =
    let more = reads_more 0 1 lines entries old.last line found.0 found.1 read
    (tells.reads old.last 0 line found.0 found.1 is) in
    let longer : length (lines ++ line ∷ []) ≡ length lines + 1 = length-append lines (line ∷ []) in
    let given : AnswersNext (lines ++ line ∷ []) entries (Ok found.0) record {
      last =
          found.1;
      lines = old.lines + 1;
      bad = false;
    } = (refl, (more, omega arith)) in
    subst (λ (r : Result (Option Entry) BadLine). AnswersNext (lines ++ line ∷ []) entries r new)
    (sym answer.0)
    (subst (AnswersNext (lines ++ line ∷ []) entries (Ok found.0)) (sym answer.1) given)

module _ (old new : Reading) (line : List ℕ) (result : Result (Option Entry) BadLine)
    (stays : old.bad ≡ true → (result ≡ Err record { 0 = old.lines }) × (new ≡ old))
    (value : old.bad ≡ false → AnswersStep (journal_step old.last 0 line) old result new) where
  answers_at : (bad : Bool) → old.bad ≡ bad → (lines : List (List ℕ)) (entries : List Entry)
      → ReadOrBad bad old lines entries → AnswersNext (lines ++ line ∷ []) entries result new
  answers_at true is lines entries first =
      let s = stays is in
      let given : AnswersNext (lines ++ line ∷ []) entries (Err record { 0 = old.lines }) old =
      (is, bad_more lines line old.lines first, refl) in
      subst (λ (r : Result (Option Entry) BadLine). AnswersNext (lines ++ line ∷ []) entries r new)
      (sym s.0)
      (subst (AnswersNext (lines ++ line ∷ []) entries (Err record { 0 = old.lines })) (sym s.1)
      given)
  answers_at false is lines entries read =
      step_answers (journal_step old.last 0 line) old line result new lines entries refl (value is)
      read.0 read.1

  pub next_answers : (lines : List (List ℕ)) (entries : List Entry) → HasRead old lines entries
      → AnswersNext (lines ++ line ∷ []) entries result new
  next_answers = answers_at old.bad refl

  -- ---- lines without words

  blank_words : (words : List (List ℕ)) (found : Option Entry) (next : ℕ)
      → with_words (λ last n words. row_of_entry last words) old.last 0 words ≡ Some (found, next)
      → IsNone found ↔ (words ≡ [])
  blank_words [] found next h =
      let e : None ≡ found = (some_pair_parts None found old.last next h).0 in
      (λ _. refl, λ _. subst IsNone e refl)
  blank_words (word ∷ words) found next h =
      let m = option_map_some (λ (read : Entry × ℕ). (Some read.0, read.1))
      (row_of_entry old.last (word ∷ words)) (found, next) h in
      let e : Some m.0.0 ≡ found = (some_pair_parts (Some m.0.0) found m.0.1 next m.2).0 in
      (λ none. absurd (true≢false (subst IsNone (sym e) none)), λ empty. absurd cc)

  blank_step : (step : Option (Option Entry × ℕ)) → journal_step old.last 0 line ≡ step
      → AnswersStep step old result new → IfOk result (λ found. IsNone found ↔ (words_of line ≡ []))
  blank_step None is answer =
      subst (λ (r : Result (Option Entry) BadLine). IfOk r
      (λ found. IsNone found ↔ (words_of line ≡ []))) (sym answer.0) tt
  blank_step (Some found) is answer =
      subst (λ (r : Result (Option Entry) BadLine). IfOk r
      (λ found. IsNone found ↔ (words_of line ≡ []))) (sym answer.0)
      (blank_words (words_of line) found.0 found.1 is)

  blank_at : (bad : Bool) → old.bad ≡ bad
      → IfOk result (λ found. IsNone found ↔ (words_of line ≡ []))
  blank_at true is =
      subst (λ (r : Result (Option Entry) BadLine). IfOk r
      (λ found. IsNone found ↔ (words_of line ≡ []))) (sym (stays is).0) tt
  blank_at false is = blank_step (journal_step old.last 0 line) refl (value is)

  pub next_blank : IfOk result (λ found. IsNone found ↔ (words_of line ≡ []))
  next_blank = blank_at old.bad refl

-- ---- the parts of an answer

pub step_of_ok : (step : Option (Option Entry × ℕ)) (old new : Reading) (found : Option Entry)
    → AnswersStep step old (Ok found) new
    → (step ≡ Some (found, new.last)) × (new.lines ≡ old.lines + 1) × (new.bad ≡ false)
step_of_ok None old new found answer = absurd cc
step_of_ok (Some read) old new found answer =
    let same : found ≡ read.0 = cc in (
      rw (answer.1, same) refl,
      ap (λ (r : Reading). r.lines) answer.1,
      ap (λ (r : Reading). r.bad) answer.1,
    )

pub step_of_err : (step : Option (Option Entry × ℕ)) (old new : Reading) (bad : BadLine)
    → AnswersStep step old (Err bad) new → (step ≡ None) × (bad.0 ≡ old.lines + 1)
step_of_err None old new bad answer =
    let same : bad ≡ record { 0 = old.lines + 1 } = cc in
    (refl, ap (λ (b : BadLine). b.0) same)
step_of_err (Some read) old new bad answer = absurd cc
