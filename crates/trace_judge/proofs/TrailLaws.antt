-- What entries tell of an install, with one more entry.
use Rattle.std.proofs.Common.{◌≡◌, ℕ, suc, ◌+◌, ◌<◌, List, [], ◌∷◌, ◌++◌, Option, Some, None, length, take, get_or, refl, sym, ap, subst, ◌∙◌, arith}
use Rattle.std.proofs.Math.Seq.{take-suc}
use Rattle.std.specs.Option.{unwrap_or}
use Rattle.std.proofs.lemmas.List.Elements.{filter_map-append}
use Rattle.xom_base.specs.Entries.{step_in}
use Rattle.xom_base.specs.Padded.{same_at_both}
use Rattle.xom_base.specs.declared.entry.Entry.{Entry}
use Rattle.xom_base.specs.declared.step.Step.{Step}
use Rattle.trace_judge.specs.declared.report.GuestEnd.{GuestEnd}
use Rattle.trace_judge.specs.declared.report.GuestEnd.TheVariants.{Ended, Stopped, Killed, Running}
use Rattle.trace_judge.specs.GuestWatch.{end_after_entry}
use Rattle.trace_judge.specs.Judgement.{end_in, guest_end_of}
use Rattle.trace_judge.specs.Trails.{ToldOfInstall, install_told, told_after}
use Rattle.trace_judge.proofs.GuestLaws.{never_running}

abbrev told_with : List Step → GuestEnd → ToldOfInstall
told_with steps end = record { steps = steps; end = end }

end_behind : (found : Option GuestEnd) (n : ℕ) (rest : GuestEnd) (e : Entry)
    → (found ≡ Some Running → ⊥)
    → unwrap_or found (end_after_entry rest n e) ≡ end_after_entry (unwrap_or found rest) n e
end_behind None n rest e never = refl
end_behind (Some Ended) n rest e never = refl
end_behind (Some (Stopped rule)) n rest e never = refl
end_behind (Some Killed) n rest e never = refl
end_behind (Some Running) n rest e never = absurd (never refl)

end_of-more : (n : ℕ) (es : List Entry) (e : Entry)
    → guest_end_of n (es ++ e ∷ []) ≡ end_after_entry (guest_end_of n es) n e
end_of-more n [] e = refl
end_of-more n (first ∷ es) e =
    ap (unwrap_or (end_in n first)) (end_of-more n es e)
    ∙ end_behind (end_in n first) n (guest_end_of n es) e (never_running n first)

told_of-more : (es : List Entry) (e : Entry) (n : ℕ)
    → install_told (es ++ e ∷ []) n ≡ told_after (install_told es n) n e
told_of-more es e n =
    same_at_both told_with (filter_map-append (step_in n) es (e ∷ [])) (end_of-more n es e)

-- one more entry of a list
pub told_of-take : (es : List Entry) (i : ℕ) (e : Entry) → i < length es → e ≡ get_or es i e
    → (n : ℕ) → install_told (take (i + 1) es) n ≡ told_after (install_told (take i es) n) n e
told_of-take es i e inside item n =
    let next : suc i ≡ i + 1 = omega arith in
    let more : take (i + 1) es ≡ take i es ++ e ∷ [] = subst (λ m. take m es ≡ take i es ++ e ∷ [])
    next (take-suc es i e inside ∙ ap (λ x. take i es ++ x ∷ []) (sym item)) in
    ap (λ xs. install_told xs n) more ∙ told_of-more (take i es) e n
