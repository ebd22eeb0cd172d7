-- Every call keeps its promises, however it ends.
use Rattle.std.proofs.Common.{◌≡◌, ◌⊎◌, inl, inr, ℕ, ◌<◌, ◌≤◌, List, [], Option, Some, None, Result, Ok, Err, Bool, true, false, cond, length, refl, sym, ap, subst, ◌∙◌, arith}
use Rattle.std.specs.Prelude.{MatchOption, nat_le}
use Rattle.xom_io.specs.declared.files.FileFault.{FileFault}
use Rattle.xom_io.specs.declared.files.FileFault.TheVariants as file_fault
use Rattle.xom_io.specs.declared.sink.SinkFault.{SinkFault}
use Rattle.xom_io.specs.declared.sink.SinkFault.TheVariants as sink_fault
use Rattle.xom_io.specs.Answers.{AppendsToSink, TakesAll}
use Rattle.trace_picture.proofs.MarkLaws.{show_each_once}
use Rattle.cli_base.specs.Commands.{IsDone}
use Rattle.cli_base.specs.Inputs.{Held, fetched_bytes, file_or_refusal}
use Rattle.cli_base.specs.Readings.{Meets}
use Rattle.cli_base.specs.declared.answer.Answer.{Answer}
use Rattle.cli_base.specs.declared.answer.OutputFile.{OutputFile}
use Rattle.cli_base.specs.declared.refusal.InputFault.TheVariants.{TooLong}
use Rattle.cli_base.specs.declared.refusal.Refusal.{Refusal}
use Rattle.cli_base.specs.declared.refusal.Refusal.TheVariants.{Unread, Bad}
use Rattle.cli_base.specs.declared.refusal.Stop.{Stop}
use Rattle.cli_base.specs.declared.refusal.Stop.TheVariants as stop
use Rattle.cli_delivery.specs.Endings.{Delivers, Disk, Finishes, Output, Outside, Prints, PrintsBehind, PrintsRefusal, PutsFile, ending_after, ending_of_refusal, status_of}
use Rattle.cli_delivery.specs.declared.ending.Ending.{Ending}
use Rattle.cli_delivery.specs.declared.ending.Ending.TheVariants as ending
use Rattle.cli_picture.specs.Calls.{DrawsJournal, EndsCall, EndsOtherwise, EndsPicture, KeepsAll, PictureNames, PicturePromises, ShowsJournal, names_in}
use Rattle.cli_picture.specs.Picture.{Draws, DrawsRead, drawn_limit, page_answer}

-- ---- Statuses

-- a refusal's status: of the words, of a file that can't be read, or of bad input
abbrev IsRefused : ℕ → Type 0
IsRefused n = (n ≡ 1) ⊎ (n ≡ 2) ⊎ (n ≡ 4)

refused_range : (n : ℕ) → IsRefused n → (1 ≤ n) × (n ≤ 4) × (n ≡ 3 → ⊥)
refused_range n (inl is) = (omega (arith, is), omega (arith, is), λ e. omega (arith, is, e))
refused_range n (inr (inl is)) = (omega (arith, is), omega (arith, is), λ e. omega (arith, is, e))
refused_range n (inr (inr is)) = (omega (arith, is), omega (arith, is), λ e. omega (arith, is, e))

done_range : (n : ℕ) → IsDone n → (n ≡ 0) ⊎ (6 ≤ n)
done_range n (inl is) = inl is
done_range n (inr (inl is)) = inr (omega (arith, is))
done_range n (inr (inr (inl is))) = inr (omega (arith, is))
done_range n (inr (inr (inr (inl is)))) = inr (omega (arith, is))
done_range n (inr (inr (inr (inr is)))) = inr (omega (arith, is))

done_unrefused : (n : ℕ) → IsDone n → IsRefused n → ⊥
done_unrefused n done refused =
    let range = refused_range n refused in
    elim (done_range n done) [
      | inl is ↦ omega (arith, range.0, is)
      | inr is ↦ omega (arith, range.1, is)
    ]

three_unrefused : IsRefused 3 → ⊥
three_unrefused refused = (refused_range 3 refused).2 refl

five_unrefused : IsRefused 5 → ⊥
five_unrefused refused = let range = refused_range 5 refused in omega (arith, range.1)

-- ---- Texts

-- what was put whole
whole_taken : (old new : Option (List ℕ)) (text : List ℕ) (n m : ℕ) (u : Unit {0})
    → TakesAll old new text n m (Ok u) → AppendsToSink old new text
whole_taken old new text n m u takes = takes.1

-- the bytes of a file that isn't too long
bytes_text : (name text : List ℕ) (limit : ℕ) (o : Option (List ℕ))
    → fetched_bytes name limit o ≡ Ok text → o ≡ Some text
bytes_text name text limit None is = absurd (cc)
bytes_text name text limit (Some bytes) is =
    elim (nat_le (length bytes) limit) as (λ b. cond b (Ok bytes) (Err (Bad name TooLong)) ≡ Ok text
    → Some bytes ≡ Some text) [ true ↦ λ ok. cc | false ↦ λ long. absurd (cc) ] is

fetched_text : (held : Held) (name text : List ℕ) (limit : ℕ) → file_or_refusal held name limit ≡ Ok text
    → held name ≡ Some text
unfolding file_or_refusal
fetched_text held name text limit is = bytes_text name text limit (held name) is

module _ (before after : Outside) where
  -- ---- Nothing changes where the call is refused

  -- an answer that is delivered has no refusal's status
  printed_unrefused : (answer : Answer) (result : Ending) (put : Result (Unit {0}) SinkFault)
      → IsDone answer.status
      → result ≡ ending_after (ending.Done answer.status) ending.WriteFault put
      → IsRefused (status_of result) → ⊥
  printed_unrefused answer result (Ok u) done is refused =
      done_unrefused answer.status done (subst (λ (e : Ending). IsRefused (status_of e)) is refused)
  printed_unrefused answer result (Err sink_fault.Failed) done is refused =
      three_unrefused (subst (λ (e : Ending). IsRefused (status_of e)) is refused)
  printed_unrefused answer result (Err sink_fault.NoMemory) done is refused =
      five_unrefused (subst (λ (e : Ending). IsRefused (status_of e)) is refused)

  put_unrefused : (answer : Answer) (result : Ending) (put : Result (Unit {0}) FileFault)
      → IsDone answer.status → PrintsBehind before.output after.output answer put result
      → IsRefused (status_of result) → ⊥
  put_unrefused answer result (Ok u) done prints refused =
      printed_unrefused answer result prints.0 done prints.2 refused
  put_unrefused answer result (Err file_fault.Failed) done prints refused =
      three_unrefused (subst (λ (e : Ending). IsRefused (status_of e)) prints.0 refused)
  put_unrefused answer result (Err file_fault.TooLong) done prints refused =
      three_unrefused (subst (λ (e : Ending). IsRefused (status_of e)) prints.0 refused)
  put_unrefused answer result (Err file_fault.NoMemory) done prints refused =
      five_unrefused (subst (λ (e : Ending). IsRefused (status_of e)) prints.0 refused)

  finished_kept : (answered : Result Answer Stop) (result : Ending)
      → Finishes before.disk after.disk before.output after.output answered result
      → IsRefused (status_of result) → after.disk ≡ before.disk
  finished_kept (Ok answer) result finishes refused =
      absurd (put_unrefused answer result finishes.1.0 finishes.0 finishes.1.2 refused)
  finished_kept (Err (stop.Refused refusal)) result finishes refused = finishes.0
  finished_kept (Err stop.NoMemory) result finishes refused = finishes.0

  call_kept : (o : Option PictureNames) (result : Ending)
      → MatchOption o (EndsOtherwise before after result)
      (λ names. EndsPicture before after names result)
      → IsRefused (status_of result) → after.disk ≡ before.disk
  call_kept None result ends refused = ends.0
  call_kept (Some names) result ends refused = finished_kept ends.0 result ends.2 refused

  -- ---- The page was written where the status is 0

  -- of the answer of a journal's text, whose file was put and whose text was printed
  text_shown : (held : Held) (names : PictureNames) (answer : Answer) (u : Unit {0})
      (read : Result (List ℕ) Refusal)
      → file_or_refusal held names.journal drawn_limit ≡ read
      → DrawsRead names.journal names.page read (Ok answer)
      → PutsFile before.disk after.disk answer.file (Ok u)
      → AppendsToSink before.output.written after.output.written answer.text
      → ShowsJournal held before after names
  text_shown held names answer u (Err refusal) is draws puts prints = absurd (cc)
  text_shown held names answer u (Ok text) is draws puts prints =
      let put : PutsFile before.disk after.disk (page_answer draws.0 names.page).file (Ok u) =
      subst (λ (a : Answer). PutsFile before.disk after.disk a.file (Ok u)) draws.2 puts in (
        text,
        draws.0,
        fetched_text held names.journal text drawn_limit is,
        draws.1,
        put.0.1,
        show_each_once draws.0,
        put.1,
        subst (λ (a : Answer). AppendsToSink before.output.written after.output.written a.text) draws.2
            prints,
      )

  -- of any answer of a call that ended with status 0
  printed_shown : (held : Held) (names : PictureNames) (answer : Answer) (u : Unit {0})
      (result : Ending) (put : Result (Unit {0}) SinkFault)
      → Draws names.journal names.page held (Ok answer)
      → PutsFile before.disk after.disk answer.file (Ok u)
      → TakesAll before.output.written after.output.written answer.text before.output.faults
      after.output.faults put
      → result ≡ ending_after (ending.Done answer.status) ending.WriteFault put
      → status_of result ≡ 0 → ShowsJournal held before after names
  printed_shown held names answer u result (Ok v) draws puts takes is zero =
      text_shown held names answer u (file_or_refusal held names.journal drawn_limit) refl draws puts
      takes.1
  printed_shown held names answer u result (Err sink_fault.Failed) draws puts takes is zero =
      let three : status_of result ≡ 3 = ap status_of is in absurd (omega (arith, three, zero))
  printed_shown held names answer u result (Err sink_fault.NoMemory) draws puts takes is zero =
      let five : status_of result ≡ 5 = ap status_of is in absurd (omega (arith, five, zero))

  put_shown : (held : Held) (names : PictureNames) (answer : Answer) (result : Ending)
      (put : Result (Unit {0}) FileFault)
      → Draws names.journal names.page held (Ok answer)
      → PutsFile before.disk after.disk answer.file put
      → PrintsBehind before.output after.output answer put result
      → status_of result ≡ 0 → ShowsJournal held before after names
  put_shown held names answer result (Ok u) draws puts prints zero =
      printed_shown held names answer u result prints.0 draws puts prints.1 prints.2 zero
  put_shown held names answer result (Err file_fault.Failed) draws puts prints zero =
      let three : status_of result ≡ 3 = ap status_of prints.0 in absurd (omega (arith, three, zero))
  put_shown held names answer result (Err file_fault.TooLong) draws puts prints zero =
      let three : status_of result ≡ 3 = ap status_of prints.0 in absurd (omega (arith, three, zero))
  put_shown held names answer result (Err file_fault.NoMemory) draws puts prints zero =
      let five : status_of result ≡ 5 = ap status_of prints.0 in absurd (omega (arith, five, zero))

  -- a refusal has another status
  refusal_positive : (refusal : Refusal) → status_of (ending_of_refusal refusal) ≡ 0 → ⊥
  refusal_positive (Unread name) zero = omega (arith, zero)
  refusal_positive (Bad name fault) zero = omega (arith, zero)

  -- and so has a text that ended this way or for want of memory
  line_positive : (whole : Ending) (result : Ending) (put : Result (Unit {0}) SinkFault)
      → (status_of whole ≡ 0 → ⊥) → result ≡ ending_after whole whole put
      → status_of result ≡ 0 → ⊥
  line_positive whole result (Ok u) some is zero = some (sym (ap status_of is) ∙ zero)
  line_positive whole result (Err sink_fault.Failed) some is zero = some (sym (ap status_of is) ∙ zero)
  line_positive whole result (Err sink_fault.NoMemory) some is zero =
      let five : status_of result ≡ 5 = ap status_of is in omega (arith, five, zero)

  refused_positive : (refusal : Refusal) (result : Ending)
      → PrintsRefusal before.output after.output refusal result → status_of result ≡ 0 → ⊥
  refused_positive refusal result (inl silent) zero =
      let five : status_of result ≡ 5 = ap status_of silent.0 in omega (arith, five, zero)
  refused_positive refusal result (inr prints) zero =
      line_positive (ending_of_refusal refusal) result prints.0 (refusal_positive refusal) prints.2
      zero

  finished_shown : (held : Held) (names : PictureNames) (answered : Result Answer Stop)
      (result : Ending)
      → before.disk.held ≡ Some held
      → Meets before.disk.held (Draws names.journal names.page) before.reads after.reads answered
      → Finishes before.disk after.disk before.output after.output answered result
      → status_of result ≡ 0 → ShowsJournal held before after names
  finished_shown held names (Ok answer) result told meets finishes zero =
      put_shown held names answer result finishes.1.0 (meets.1 held told) finishes.1.1 finishes.1.2
      zero
  finished_shown held names (Err (stop.Refused refusal)) result told meets finishes zero =
      absurd (refused_positive refusal result finishes.1 zero)
  finished_shown held names (Err stop.NoMemory) result told meets finishes zero =
      let five : status_of result ≡ 5 = ap status_of finishes.1.0 in absurd (omega (arith, five, zero))

  call_shown : (words : List (List ℕ)) (o : Option PictureNames) (result : Ending)
      → names_in words ≡ o
      → MatchOption o (EndsOtherwise before after result)
      (λ names. EndsPicture before after names result)
      → (held : Held) → before.disk.held ≡ Some held → status_of result ≡ 0
      → (names : PictureNames) × (names_in words ≡ Some names) × ShowsJournal held before after names
  call_shown words None result is ends held told zero =
      absurd (line_positive ending.NoRow result ends.2.0 (λ one. omega (arith, one)) ends.2.2 zero)
  call_shown words (Some names) result is ends held told zero =
      (names, is, finished_shown held names ends.0 result told ends.1 ends.2 zero)

pub promises_kept : (words : List (List ℕ)) (before after : Outside) (result : Ending)
    → EndsCall words before after result
    → PicturePromises words before after (status_of result)
promises_kept words before after result ends = record {
  ends = (result, ends, refl);
  draws = λ held told zero. call_shown before after words (names_in words) result refl ends held
      told zero;
  keeps = λ refused. call_kept before after (names_in words) result ends refused;
}
