-- Each guest that did what its program does alone has a line that says so.
use Rattle.std.proofs.Common.{◌≡◌, ℕ, ◌+◌, List, [], ◌∷◌, Some, All, slice_get, length, refl, ◌∙◌, ap, add-one, arith}
use Rattle.std.specs.List.{filter_map, cons_option}
use Rattle.std.proofs.lemmas.List.Elements.{All-nil, All-cons, All-head, All-tail}
use Rattle.xom_base.specs.declared.entry.Entry.{Entry}
use Rattle.xom_base.specs.declared.entry.Entry.TheVariants as entry
use Rattle.xom_base.specs.declared.key.ImageId.{ImageId}
use Rattle.xom_base.specs.Entries.{steps_of}
use Rattle.xom_owners.specs.declared.owner.Owner.{Owner}
use Rattle.xom_owners.specs.Owners.{owner_of}
use Rattle.mips_plain.specs.declared.verdict.Verdict.TheVariants.{Follows}
use Rattle.mips_plain.specs.Machine.{State, start}
use Rattle.mips_plain.specs.Follows.{Reaches}
use Rattle.mips_plain.proofs.Runs.{verdict-of_reaches}
use Rattle.trace_judge.specs.declared.report.GuestLine.{GuestLine}
use Rattle.trace_judge.specs.Judgement.{guest_line_of_entry, verdict_by, verdict_of}
use Rattle.trace_judge.specs.Laws.{DoesFollow, IsOwnersRun, RunsAreFollowed}

-- the verdict on a run
verdict-of_run : (owners : List Owner) (entries : List Entry) (n : ℕ) (id : ImageId) (owner : Owner)
    (q : State)
    → owner_of owners id ≡ Some owner → Reaches (start owner.plain) (steps_of n entries) q
    → verdict_of owners entries n id ≡ Follows (length (steps_of n entries))
verdict-of_run owners entries n id owner q owned reaches =
    ap (λ found. verdict_by found (steps_of n entries)) owned
    ∙ verdict-of_reaches (start owner.plain) (steps_of n entries) q 0 reaches
    ∙ ap Follows (omega arith)

-- one more entry
lines-cons : (owners : List Owner) (entries : List Entry) (entry : Entry) (lines : List GuestLine)
    → IsOwnersRun owners entries entry → All (DoesFollow entries) lines
    → All (DoesFollow entries) (cons_option (guest_line_of_entry owners entries entry) lines)
lines-cons owners entries (entry.Install n slot id place at size) lines run follow =
    All-cons (DoesFollow entries) _ lines (verdict-of_run owners entries n id run.0 run.1 run.2
    run.3) follow
lines-cons owners entries other lines run follow = follow

-- the lines of some of the entries
lines-follow : (owners : List Owner) (entries some : List Entry) → All (IsOwnersRun owners entries) some
    → All (DoesFollow entries) (filter_map (guest_line_of_entry owners entries) some)
lines-follow owners entries [] runs = All-nil (DoesFollow entries)
lines-follow owners entries (entry ∷ some) runs =
    lines-cons owners entries entry (filter_map (guest_line_of_entry owners entries) some)
    (All-head (IsOwnersRun owners entries) entry some runs)
    (lines-follow owners entries some (All-tail (IsOwnersRun owners entries) entry some runs))

-- all the lines
pub Follows-lines : RunsAreFollowed
Follows-lines owners entries runs = lines-follow owners entries entries runs

-- a fact of each entry that the journal gives, as a fact of all
pub All-of_gets : {X : Type 0} (P : X → Type 0) (xs : List X)
    → ((i : ℕ) (x : X) → slice_get xs i ≡ Some x → P x) → All P xs
All-of_gets P [] each = All-nil P
All-of_gets P (x ∷ xs) each =
    All-cons P x xs (each 0 x refl) (All-of_gets P xs (λ i y got. each (i + 1) y (rw add-one got)))
