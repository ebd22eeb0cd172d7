-- Verdicts that were found before.
use Rattle.std.specs.Prelude.{ℕ, ◌≡◌, List, Option, IfSome}
use Rattle.std.specs.BTreeMap.{get}
use Rattle.std.specs.Cmp.Lexicographic.{slice_cmp}
use Rattle.std.specs.Ordering.{nat_cmp, ordering_then}
use Rattle.std.specs.declared.cmp.Ordering.{Ordering}
use Rattle.xom_base.specs.declared.key.ImageId.{ImageId}
use Rattle.xom_owners.specs.declared.owner.Owner.{Owner}
use Rattle.xom_owners.specs.Owners.{owner_of}
use Rattle.mips_plain.specs.declared.verdict.Verdict.{Verdict}
use Rattle.trace_judge.specs.declared.verdicts.Verdicts.{Verdicts}
use Rattle.trace_judge.specs.Judgement.{verdict_by}
use Rattle.trace_judge.specs.Trails.{ToldOfInstall}

-- the order of pairs of an install number and an id
abbrev pub pair_cmp : ℕ × List ℕ → ℕ × List ℕ → Ordering
pair_cmp x y = ordering_then (nat_cmp x.0 y.0) (slice_cmp nat_cmp x.1 y.1)

-- the verdict that was found on the steps of an install by the program of this id
abbrev pub found_before : Verdicts → ℕ → List ℕ → Option Verdict
found_before verdicts n id = get pair_cmp verdicts.found (n, id)

-- each is the verdict on what is told of its install
abbrev pub AreVerdicts : List Owner → (ℕ → ToldOfInstall) → Verdicts → Type 0
AreVerdicts owners known verdicts =
    (n : ℕ) (id : ImageId) → IfSome (found_before verdicts n id.0)
    (λ v. v ≡ verdict_by (owner_of owners id) (known n).steps)
