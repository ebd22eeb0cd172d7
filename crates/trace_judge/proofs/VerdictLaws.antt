-- Verdicts that were found before, and one more.
use Rattle.std.proofs.Common.{◌≡◌, ℕ, true, false, cond, List, [], ◌∷◌, Some, refl, sym, ap, subst, ◌∙◌, arith}
use Rattle.std.specs.Prelude.{◌==◌, ◌&&◌, IfSome, if◌then◌else◌}
use Rattle.std.specs.BTreeMap.{BTreeMap, Updates, get}
use Rattle.std.specs.Ordering.{is_eq, nat_cmp, ordering_then}
use Rattle.std.specs.declared.cmp.Ordering.{Ordering}
use Rattle.std.specs.declared.cmp.Ordering.TheVariants.{Less, Equal, Greater}
use Rattle.std.specs.Cmp.Lexicographic.{slice_cmp}
use Rattle.std.specs.Str.{bytes_eq}
use Rattle.std.proofs.lemmas.Bool.{and_parts, eqb-true}
use Rattle.std.proofs.lemmas.Map.Text.{is_eq-slice_cmp}
use Rattle.xom_base.specs.Padded.{same_at_both}
use Rattle.xom_base.specs.declared.key.ImageId.{ImageId}
use Rattle.xom_owners.specs.declared.owner.Owner.{Owner}
use Rattle.xom_owners.specs.Owners.{owner_of}
use Rattle.mips_plain.specs.declared.verdict.Verdict.{Verdict}
use Rattle.trace_judge.specs.declared.verdicts.Verdicts.{Verdicts}
use Rattle.trace_judge.specs.Judgement.{verdict_by}
use Rattle.trace_judge.specs.Trails.{ToldOfInstall}
use Rattle.trace_judge.specs.Verdicts.{AreVerdicts, found_before, pair_cmp}
use Rattle.trace_judge.proofs.Bytes.{same_bytes}

-- equal numbers compare as equal
is_eq-nat : (n m : ℕ) → is_eq (nat_cmp n m) ≡ (n == m)
is_eq-nat n m = Prim.grind (arith)

is_eq-then : (a b : Ordering) → is_eq (ordering_then a b) ≡ (is_eq a && is_eq b)
is_eq-then Less b = refl
is_eq-then Equal b = refl
is_eq-then Greater b = refl

is_eq-pair : (n m : ℕ) (a b : List ℕ) → is_eq (pair_cmp (n, a) (m, b)) ≡ ((n == m) && bytes_eq a b)
is_eq-pair n m a b =
    is_eq-then (nat_cmp n m) (slice_cmp nat_cmp a b)
    ∙ same_at_both (λ x y. x && y) (is_eq-nat n m) (is_eq-slice_cmp a b)

-- a map, after one pair was put
pub put_pair : (old new : BTreeMap (ℕ × List ℕ) Verdict) (n : ℕ) (id : List ℕ) (v : Verdict)
    → Updates pair_cmp old new (n, id) (Some v)
    → (m : ℕ) (other : List ℕ)
    → get pair_cmp new (m, other) ≡ (if (n == m) && bytes_eq id other then Some v else get pair_cmp
    old (m, other))
put_pair old new n id v updates m other =
    updates.0 (m, other) ∙ ap (λ b. cond b (Some v) (get pair_cmp old (m, other)))
    (is_eq-pair n m id other)

same_owner : (owners : List Owner) (a b : ImageId) → a.0 ≡ b.0
    → owner_of owners a ≡ owner_of owners b
same_owner [] a b same = refl
same_owner (owner ∷ owners) a b same =
    ap (λ id. if bytes_eq owner.id.0 id then Some owner else owner_of owners a) same
    ∙ ap (λ rest. if bytes_eq owner.id.0 b.0 then Some owner else rest) (same_owner owners a b same)

-- one more verdict was found
pub verdicts_more : (owners : List Owner) (known : ℕ → ToldOfInstall) (old new : Verdicts) (n : ℕ)
    (id : ImageId) (v : Verdict)
    → v ≡ verdict_by (owner_of owners id) (known n).steps
    → ((m : ℕ) → (other : List ℕ) → found_before new m other ≡ (if (n == m) && bytes_eq id.0 other
    then Some v else found_before old m other))
    → AreVerdicts owners known old → AreVerdicts owners known new
verdicts_more owners known old new n id v is puts were m other =
    subst (λ o. IfSome o (λ w. w ≡ verdict_by (owner_of owners other) (known m).steps))
    (sym (puts m other.0))
    (elim ((n == m) && bytes_eq id.0 other.0) as (λ b. ((n == m) && bytes_eq id.0 other.0) ≡ b
    → IfSome (if b then Some v else found_before old m other.0)
    (λ w. w ≡ verdict_by (owner_of owners other) (known m).steps)) [
      | true ↦ λ both.
          let parts = and_parts (n == m) (bytes_eq id.0 other.0) both in
          is
          ∙ ap (λ owner. verdict_by owner (known n).steps)
          (same_owner owners id other (same_bytes id.0 other.0 parts.1))
          ∙ ap (λ k. verdict_by (owner_of owners other) (known k).steps) (eqb-true n m parts.0)
      | false ↦ λ apart. were m other
    ] refl)
