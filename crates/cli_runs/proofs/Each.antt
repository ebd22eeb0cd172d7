-- What is read of lines, one after the other, where each may depend on what was read of those
-- before it.
use Rattle.std.proofs.Common.{◌≡◌, inl, inr, ℕ, List, [], ◌∷◌, ◌++◌, Some, None, Result, Ok, Err, refl, sym, ap, subst, ◌∙◌, append_assoc, append-nil, arith}
use Rattle.std.specs.Prelude.{IsSomeAnd}
use Rattle.xom_io.specs.Answers.{FilesTold, Rises}
use Rattle.cli_base.specs.declared.refusal.Refusal.{Refusal}
use Rattle.cli_base.specs.declared.refusal.Refusal.TheVariants.{Unread, Bad}
use Rattle.cli_base.specs.declared.refusal.Stop.{Stop}
use Rattle.cli_base.specs.declared.refusal.Stop.TheVariants as stop
use Rattle.cli_base.specs.Inputs.{Held, held_without, ◌>>=◌}
use Rattle.cli_base.specs.Readings.{FilesGive}
use Rattle.cli_base.proofs.Without.{SameOrUnread}
use Rattle.cli_runs.proofs.Steps.{bind-without}

-- items in front of those that are read
abbrev pub onto : {Y : Type 0} → List Y → Result (List Y) Refusal → Result (List Y) Refusal
onto now read = read >>= (λ more. Ok (now ++ more))

onto-nil : {Y : Type 0} (read : Result (List Y) Refusal) → onto [] read ≡ read
onto-nil (Ok more) = refl
onto-nil (Err e) = refl

onto-next : {Y : Type 0} (now : List Y) (item : Y) (read : Result (List Y) Refusal)
    → onto now (read >>= (λ items. Ok (item ∷ items))) ≡ onto (now ++ item ∷ []) read
onto-next now item (Ok more) = ap Ok (sym (append_assoc now (item ∷ []) more))
onto-next now item (Err e) = refl

-- what is read of the first line, and then of the others
abbrev pub first_then : {S X Y : Type 0} → (Held → S → List X → Result (List Y) Refusal)
    → (S → Y → S) → Held → S → List X → Y → Result (List Y) Refusal
first_then all next held s xs y = all held (next s y) xs >>= (λ ys. Ok (y ∷ ys))

-- what is read of lines is what is read of each, one after the other
pub record IsEach {S X Y : Type 0} (all : Held → S → List X → Result (List Y) Refusal)
    (one : Held → S → X → Result Y Refusal) (next : S → Y → S) : Type 0 where
  pub none : (held : Held) (s : S) → all held s [] ≡ Ok []
  pub more : (held : Held) (s : S) (x : X) (xs : List X)
      → all held s (x ∷ xs) ≡ (one held s x >>= first_then all next held s xs)
  pub less : (held : Held) (name : List ℕ) (s : S) (x : X)
      → SameOrUnread name (one held s x) (one (held_without name held) s x)

-- The items so far, and those of the lines that are left, are those of all lines.
pub record Carries {S X Y : Type 0} (all : Held → S → List X → Result (List Y) Refusal)
    (told : FilesTold) (start : S) (lines : List X) (s : S) (rest : List X) (now : List Y) : Type 0 where
  pub here : (held : Held) → told ≡ Some held → all held start lines ≡ onto now (all held s rest)
  pub less : (held : Held) → told ≡ Some held → (name : List ℕ)
      → SameOrUnread name (onto now (all (held_without name held) s rest))
      (all (held_without name held) start lines)

pub carries_start : {S X Y : Type 0} (all : Held → S → List X → Result (List Y) Refusal)
    (told : FilesTold) (start : S) (lines : List X)
    → Carries all told start lines start lines []
carries_start all told start lines = record {
  here = λ held said. sym (onto-nil (all held start lines));
  less = λ held said name. inl (sym (onto-nil (all (held_without name held) start lines)));
}

module _ {S X Y : Type 0} (all : Held → S → List X → Result (List Y) Refusal) (one : Held → S → X
    → Result Y Refusal) (next : S → Y → S) (each : IsEach all one next) where
  -- one name isn't held any more
  pub each-without : (held : Held) (name : List ℕ) (s : S) (lines : List X)
      → SameOrUnread name (all held s lines) (all (held_without name held) s lines)
  each-without held name s [] = inl (each.none (held_without name held) s ∙ sym (each.none held s))
  each-without held name s (x ∷ xs) =
      subst (λ r. SameOrUnread name r (all (held_without name held) s (x ∷ xs)))
      (sym (each.more held s x xs))
      (subst (SameOrUnread name (one held s x >>= first_then all next held s xs))
      (sym (each.more (held_without name held) s x xs))
      (bind-without name (one held s x) (one (held_without name held) s x)
      (first_then all next held s xs) (first_then all next (held_without name held) s xs)
      (each.less held name s x)
      (λ y. bind-without name (all held (next s y) xs) (all (held_without name held) (next s y) xs)
      _ _ (each-without held name (next s y) xs) (λ ys. inl refl))))

  one-read : (held : Held) (s : S) (x : X) (xs : List X) (y : Y) → one held s x ≡ Ok y
      → all held s (x ∷ xs) ≡ first_then all next held s xs y
  one-read held s x xs y is =
      each.more held s x xs ∙ ap (λ r. r >>= first_then all next held s xs) is

  one-stop : (held : Held) (s : S) (x : X) (xs : List X) (e : Refusal) → one held s x ≡ Err e
      → all held s (x ∷ xs) ≡ Err e
  one-stop held s x xs e is =
      each.more held s x xs ∙ ap (λ r. r >>= first_then all next held s xs) is

  module _ (told : FilesTold) (start : S) (lines : List X) (s : S) (x : X) (rest : List X) (now : List Y)
      (carries : Carries all told start lines s (x ∷ rest) now) where
    -- a line was read
    further : (held : Held) (y : Y) → one held s x ≡ Ok y
        → onto now (all held s (x ∷ rest)) ≡ onto (now ++ y ∷ []) (all held (next s y) rest)
    further held y is =
        ap (onto now) (one-read held s x rest y is) ∙ onto-next now y (all held (next s y) rest)

    pub carries_next : (before after : ℕ) (y : Y)
        → FilesGive told (λ held. one held s x) before after (Ok y)
        → Carries all told start lines (next s y) rest (now ++ y ∷ [])
    carries_next before after y gave = record {
      here = λ held said. carries.here held said ∙ further held y (gave.1 held said);
      less = λ held said name. elim (each.less held name s x) [
        | inl same ↦ elim (carries.less held said name) [
          | inl is ↦ inl (is ∙ further (held_without name held) y (same ∙ gave.1 held said))
          | inr gone ↦ inr gone
        ]
        | inr gone ↦ elim (carries.less held said name) [
          | inl is ↦ inr (is ∙ ap (onto now) (one-stop (held_without name held) s x rest (Unread name)
              gone))
          | inr whole ↦ inr whole
        ]
      ];
    }

    -- a line was refused
    here_stops : (held : Held) (e : Refusal) → told ≡ Some held → one held s x ≡ Err e
        → all held start lines ≡ Err e
    here_stops held e said is = carries.here held said ∙ ap (onto now) (one-stop held s x rest e is)

    less_stops : (held : Held) (name : List ℕ) → told ≡ Some held
        → one (held_without name held) s x ≡ Err (Unread name)
        → all (held_without name held) start lines ≡ Err (Unread name)
    less_stops held name said is = elim (carries.less held said name) [
      | inl same ↦ same ∙ ap (onto now) (one-stop (held_without name held) s x rest (Unread name) is)
      | inr gone ↦ gone
    ]

    lacking : (name : List ℕ) (o : FilesTold) → told ≡ o
        → IsSomeAnd o (λ held. one held s x ≡ Err (Unread name))
        → IsSomeAnd o (λ held. all held start lines ≡ Err (Unread name))
    lacking name None said is = is
    lacking name (Some held) said is = here_stops held (Unread name) said is

    pub carries_stop : (before between after : ℕ) (why : Stop) → between ≡ before
        → FilesGive told (λ held. one held s x) between after (Err why)
        → FilesGive told (λ held. all held start lines) before after (Err why)
    carries_stop before between after (stop.Refused (Unread name)) stays is = (
      omega (arith, stays, is.0),
      elim is.1 [
        | inl rises ↦ inl (subst (λ n. Rises n after) stays rises)
        | inr lacks ↦ inr (lacking name told refl lacks)
      ],
      λ held said. less_stops held name said (is.2 held said),
    )
    carries_stop before between after (stop.Refused (Bad name fault)) stays is =
        (is.0 ∙ stays, λ held said. here_stops held (Bad name fault) said (is.1 held said))
    carries_stop before between after stop.NoMemory stays is = omega (arith, stays, is)

  pub carries_end : (told : FilesTold) (start : S) (lines : List X) (s : S) (now : List Y)
      (before after : ℕ)
      → after ≡ before → Carries all told start lines s [] now
      → FilesGive told (λ held. all held start lines) before after (Ok now)
  carries_end told start lines s now before after stays carries = (
    stays,
    λ held said. carries.here held said ∙ ap (onto now) (each.none held s)
        ∙ ap Ok (append-nil now),
  )
