-- The status of a run is one of five, and 9 comes only by what the journal names.
use Rattle.std.proofs.Common.{◌≡◌, ◌⊎◌, ℕ, suc, inl, inr, Bool, true, false, cond, ◌||◌, List, [], ◌∷◌, Option, Some, None, refl, ap, arith}
use Rattle.std.specs.Prelude.{All, is_some}
use Rattle.std.specs.List.{list_any}
use Rattle.mips_plain.specs.declared.verdict.Verdict.TheVariants.{Follows}
use Rattle.trace_judge.specs.declared.report.GuestLine.{GuestLine}
use Rattle.trace_judge.specs.declared.report.Report.{Report}
use Rattle.trace_judge.specs.Suspicion.{is_doubted, is_stop, is_suspect}
use Rattle.xom_model.specs.declared.outcome.NullFault.{NullFault}
use Rattle.xom_model.specs.State.{Record}
use Rattle.headline_law.specs.Headline.{AllFollow, NamesNothing}
use Rattle.cli_runs.specs.declared.parts.Parts.{Parts}
use Rattle.cli_base.specs.Commands.{IsDone}
use Rattle.cli_trace.specs.Run.{console_run}
use Rattle.cli_trace.specs.Trace.{GuestsFollow, NamesFinding, ending_status, last_record, report_of, trace_answer, trace_status}

ended : (halted : Bool) (fault : Option (ℕ × NullFault)) → IsDone (ending_status halted fault)
ended true None = inl refl
ended true (Some fault) = inr (inr (inl refl))
ended false fault = inr (inl refl)

chosen : (suspect stop : Bool) (n : ℕ) → IsDone n → IsDone (cond suspect 9 (cond stop 8 n))
chosen true stop n done = inr (inr (inr (inr refl)))
chosen false true n done = inr (inr (inr (inl refl)))
chosen false false n done = done

trace_status-done : (report : Report) (r : Record) → IsDone (trace_status report r)
trace_status-done report r =
    chosen (is_suspect report) (list_any is_stop r.core.entries) (ending_status r.halted r.fault)
    (ended r.halted r.fault)

pub traced-done : (journal : Option (List ℕ)) (parts : Parts) → IsDone (trace_answer journal parts).status
unfolding trace_answer
traced-done journal parts = trace_status-done (report_of parts) (last_record parts)

pub console_run-done : (parts : Parts) → IsDone (console_run parts).status
unfolding console_run
console_run-done parts = trace_status-done (report_of parts) (last_record parts)

-- no guest that follows is doubted
none_doubted : (lines : List GuestLine)
    → All (λ (line : GuestLine). (steps : ℕ) × (line.verdict ≡ Follows steps)) lines
    → list_any (λ (line : GuestLine). is_doubted line.verdict) lines ≡ false
none_doubted [] follows = refl
none_doubted (line ∷ lines) follows =
    let first : (steps : ℕ) × (line.verdict ≡ Follows steps) = follows 0 line (omega arith) in
    let calm : is_doubted line.verdict ≡ false = ap is_doubted first.1 in
    rw calm (none_doubted lines (λ k d within. follows (suc k) d (omega arith)))

-- 9 is the status of a suspect report alone
not_nine : (halted : Bool) (fault : Option (ℕ × NullFault)) → ending_status halted fault ≡ 9 → ⊥
not_nine true None is = omega arith
not_nine true (Some fault) is = omega arith
not_nine false fault is = omega arith

nine-suspect : (suspect stop halted : Bool) (fault : Option (ℕ × NullFault))
    → cond suspect 9 (cond stop 8 (ending_status halted fault)) ≡ 9 → suspect ≡ true
nine-suspect true stop halted fault nine = refl
nine-suspect false true halted fault nine = absurd (omega arith)
nine-suspect false false halted fault nine = absurd (not_nine halted fault nine)

-- a suspect report names a finding, where none of its guests is doubted that names none
suspect-names : (report : Report) (forged : Option ℕ) (collision : Option (ℕ × ℕ))
    → report.forged ≡ forged → report.collision ≡ collision
    → (NamesNothing report → AllFollow report) → is_suspect report ≡ true → NamesFinding report
suspect-names report (Some e) collision is also follows suspect = inl (ap is_some is)
suspect-names report None (Some pair) is also follows suspect = inr (ap is_some also)
suspect-names report None None is also follows suspect =
    let calm = none_doubted report.guests (follows record { forged = is; collision = also }) in
    let said : (is_some report.forged || (is_some report.collision || list_any
    (λ (line : GuestLine). is_doubted line.verdict) report.guests)) ≡ true = suspect in
    absurd (let none : false ≡ true = rw (is, also, calm) at said in cc)

-- of a run
pub nine-names : (parts : Parts) → GuestsFollow parts
    → trace_status (report_of parts) (last_record parts) ≡ 9 → NamesFinding (report_of parts)
nine-names parts follows nine =
    suspect-names (report_of parts) (report_of parts).forged (report_of parts).collision refl refl
    follows
    (nine-suspect (is_suspect (report_of parts)) (list_any is_stop (last_record parts).core.entries)
    (last_record parts).halted (last_record parts).fault nine)
