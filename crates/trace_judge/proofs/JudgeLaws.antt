-- Reports of equal parts are equal, and a judge that is fed a journal.
use Rattle.std.proofs.Common.{◌≡◌, ℕ, ◌+◌, ◌%◌, ◌^◌, ◌<◌, List, [], ◌∷◌, ◌++◌, Option, Some, None, true, length, min, take, suc, get_or, ap, subst, sym, ◌∙◌, arith, length-take, take-suc}
use Rattle.std.specs.Prelude.{IfOk, Result, Ok, Err, option_and_then, slice_get}
use Rattle.xom_base.specs.declared.entry.Entry.{Entry}
use Rattle.xom_base.specs.declared.entry.Entry.TheVariants as entry
use Rattle.xom_journal.specs.EntryParts.{hash_in}
use Rattle.xom_base.specs.declared.key.Key256.{Key256}
use Rattle.xom_base.specs.declared.list.NoMemory.{NoMemory}
use Rattle.xom_owners.specs.declared.owner.Owner.{Owner}
use Rattle.trace_judge.specs.declared.report.GuestLine.{GuestLine}
use Rattle.trace_judge.specs.declared.report.Report.{Report}
use Rattle.trace_judge.specs.declared.searches.Searches.{Searches}
use Rattle.trace_judge.specs.declared.stream.Judge.{Judge}
use Rattle.trace_judge.specs.Judgement.{judgement}
use Rattle.trace_judge.specs.Judging.{HasJudged, HasSearched}
use Rattle.trace_judge.specs.Numbers.{install_count, may_stand}
use Rattle.trace_judge.proofs.GuestLaws.{longer, next-count}
use Rattle.trace_judge.proofs.Takes.{take_got, take_none}

abbrev report_of : List GuestLine → Option ℕ → Option (ℕ × ℕ) → Report
report_of guests forged collision = record {
  guests = guests;
  forged = forged;
  collision =
      collision;
}

pub same_report : {gs hs : List GuestLine} {f g : Option ℕ} {p q : Option (ℕ × ℕ)} → gs ≡ hs → f ≡ g
    → p ≡ q → (let r : Report = record { guests = gs; forged = f; collision = p } in
    r) ≡ record { guests = hs; forged = g; collision = q }
same_report {gs} {hs} {f} {g} {p} {q} lines first pair =
    ap (λ x. report_of x f p) lines ∙ ap (λ x. report_of hs x p) first ∙ ap (λ x. report_of hs g x)
    pair

-- ---- A journal, entry by entry

-- the number of the next entry
pub next_number : (count : ℕ) (es : List Entry) → count ≡ length es → length es + 1 < 2 ^ 64
    → (count + 1) % 2 ^ 64 ≡ length es + 1
next_number count es counted small =
    next-count (length es) count small (omega arith) ∙ ap (λ n. n + 1) counted

-- which is how many there are with it
pub next_counted : (count : ℕ) (es : List Entry) (e : Entry) → count ≡ length es
    → length es + 1 < 2 ^ 64 → (count + 1) % 2 ^ 64 ≡ length (es ++ e ∷ [])
next_counted count es e counted small = next_number count es counted small ∙ sym (longer es e)

-- a place with this text and digest has the Hash of them
pub hash_got : (found : Option Entry) (text digest : List ℕ)
    → option_and_then hash_in found ≡ Some (text, digest) → found ≡ Some (entry.Hash text digest)
hash_got None text digest is = absurd (cc)
hash_got (Some (entry.Install n slot id place begin lines)) text digest is = absurd (cc)
hash_got (Some (entry.Step n step)) text digest is = absurd (cc)
hash_got (Some (entry.Trap n cause)) text digest is = absurd (cc)
hash_got (Some (entry.Seal key message)) text digest is = absurd (cc)
hash_got (Some (entry.Accept key message place)) text digest is = absurd (cc)
hash_got (Some (entry.Hash preimage other)) text digest is =
    let same : (preimage, other) ≡ (text, digest) = cc in
    ap (λ (pair : List ℕ × List ℕ). Some (entry.Hash pair.0 pair.1)) same
hash_got (Some (entry.Stop n rule)) text digest is = absurd (cc)
hash_got (Some (entry.Kill n)) text digest is = absurd (cc)
hash_got (Some (entry.Out byte)) text digest is = absurd (cc)

-- one more entry of a journal
pub judged_next : (machine : Key256) (owners : List Owner) (old new : Judge) (entries : List Entry)
    (i : ℕ) (e : Entry)
    → slice_get entries i ≡ Some e → i + 1 < 2 ^ 64
    → may_stand (install_count (take i entries)) e ≡ true
    → ((m : Key256) (os : List Owner) (es : List Entry) → length es + 1 < 2 ^ 64
    → may_stand (install_count es) e ≡ true → HasJudged m os old es → HasJudged m os new
    (es ++ e ∷ []))
    → HasJudged machine owners old (take i entries)
    → HasJudged machine owners new (take (i + 1) entries)
judged_next machine owners old new entries i e got small may feeds judged =
    let short : length (take i entries) ≡ min i (length entries) = length-take i entries in
    subst (HasJudged machine owners new) (sym (take_got entries i e got))
    (feeds machine owners (take i entries) (omega arith) may judged)

-- nothing more behind the last
pub judged_none : (machine : Key256) (owners : List Owner) (judge : Judge) (entries : List Entry)
    (i : ℕ)
    → slice_get entries i ≡ None → HasJudged machine owners judge (take i entries)
    → HasJudged machine owners judge (take (i + 1) entries)
judged_none machine owners judge entries i none judged =
    subst (HasJudged machine owners judge) (sym (take_none entries i none)) judged

-- the report of a judge that was fed all
pub judgement-of_report : (machine : Key256) (owners : List Owner) (judge : Judge)
    (entries : List Entry) (result : Result Report NoMemory)
    → IfOk result (λ report. (m : Key256) (os : List Owner) (es : List Entry) → HasJudged m os judge
    es → report ≡ judgement m os es)
    → HasJudged machine owners judge entries
    → IfOk result (λ report. report ≡ judgement machine owners entries)
judgement-of_report machine owners judge entries (Ok report) tells judged =
    tells machine owners entries judged
judgement-of_report machine owners judge entries (Err e) tells judged = tt

-- ---- The entries of a list, one by one

-- one more entry of a list
pub searched_next : (sealed : List (List ℕ × List ℕ)) (old new : Searches) (entries : List Entry)
    (i : ℕ) (e : Entry)
    → i < length entries → i + 1 < 2 ^ 64 → e ≡ get_or entries i e
    → ((s : List (List ℕ × List ℕ)) (es : List Entry) → length es + 1 < 2 ^ 64 → HasSearched s old
    es → HasSearched s new (es ++ e ∷ []))
    → HasSearched sealed old (take i entries) → HasSearched sealed new (take (i + 1) entries)
searched_next sealed old new entries i e inside small item feeds searched =
    let next : suc i ≡ i + 1 = omega arith in
    let more : take (i + 1) entries ≡ take i entries ++ e ∷ [] =
    subst (λ m. take m entries ≡ take i entries ++ e ∷ []) next (take-suc entries i e inside
    ∙ ap (λ x. take i entries ++ x ∷ []) (sym item)) in
    let short : length (take i entries) ≡ min i (length entries) = length-take i entries in
    subst (HasSearched sealed new) (sym more) (feeds sealed (take i entries) (omega arith) searched)
