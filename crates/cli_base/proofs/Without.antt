-- What reading gives where one name isn't held any more: the same, or that this name can't be read.
use Rattle.std.proofs.Common.{◌≡◌, ◌⊎◌, inl, inr, ℕ, List, Some, None, Result, Ok, Err, Bool, true, false, cond, refl, sym, ap, subst, ◌∙◌, arith}
use Rattle.std.specs.Prelude.{IsSomeAnd}
use Rattle.std.specs.Result.{IsErrAnd}
use Rattle.std.specs.Str.{bytes_eq}
use Rattle.std.proofs.lemmas.Slice.Eq.{bytes_eq-Decides}
use Rattle.xom_io.specs.Answers.{FilesTold, Rises}
use Rattle.cli_base.specs.declared.refusal.InputFault.{InputFault}
use Rattle.cli_base.specs.declared.refusal.Refusal.{Refusal}
use Rattle.cli_base.specs.declared.refusal.Refusal.TheVariants.{Unread, Bad}
use Rattle.cli_base.specs.declared.refusal.Stop.{Stop}
use Rattle.cli_base.specs.declared.refusal.Stop.TheVariants as stop
use Rattle.cli_base.specs.Inputs.{Held, fetched_bytes, file_or_refusal, held_without, image_of, in_file, input_of, ◌>>=◌}
use Rattle.cli_base.specs.Readings.{FilesGive}

-- two results are the same, or the second says that a file of this name can't be read
abbrev pub SameOrUnread : {A : Type 0} → List ℕ → Result A Refusal → Result A Refusal → Type 0
SameOrUnread name one other = (other ≡ one) ⊎ (other ≡ Err (Unread name))

-- the bytes of a file
fetched-without : (held : Held) (name n : List ℕ) (limit : ℕ)
    → SameOrUnread name (file_or_refusal held n limit) (file_or_refusal (held_without name held) n limit)
unfolding file_or_refusal
fetched-without held name n limit =
    elim (bytes_eq n name) as (λ (b : Bool). bytes_eq n name ≡ b → SameOrUnread name
    (fetched_bytes n limit (held n)) (fetched_bytes n limit (cond b None (held n)))) [
      | true ↦ λ is. inr (ap (λ m. Err (Unread m)) ((bytes_eq-Decides n name).0 is))
      | false ↦ λ is. inl refl
    ] refl

-- and so the value of a file
pub input-without : {A : Type 0} (limit : ℕ) (format : List ℕ → Result A InputFault) (held : Held)
    (name n : List ℕ)
    → SameOrUnread name (input_of limit format held n) (input_of limit format (held_without name held) n)
input-without limit format held name n = elim (fetched-without held name n limit) [
  | inl same ↦ inl (ap (λ r. r >>= (λ bytes. in_file n (format bytes))) same)
  | inr gone ↦ inr (ap (λ r. r >>= (λ bytes. in_file n (format bytes))) gone)
]

pub image-without : (held : Held) (name n : List ℕ)
    → SameOrUnread name (image_of held n) (image_of (held_without name held) n)
unfolding image_of
image-without held name n = input-without _ _ held name n

-- where it is told what files hold, one fact gives another
some-map : (told : FilesTold) (P Q : Held → Type 0)
    → ((held : Held) → told ≡ Some held → P held → Q held) → IsSomeAnd told P → IsSomeAnd told Q
some-map None P Q f is = is
some-map (Some held) P Q f is = f held refl is

-- reading stopped, so what goes on from there did
pub stops-through : {A B : Type 0} (told : FilesTold) (f : Held → Result A Refusal)
    (k : Held → A → Result B Refusal) (before after : ℕ) (why : Stop)
    → FilesGive told f before after (Err why)
    → FilesGive told (λ held. f held >>= k held) before after (Err why)
stops-through told f k before after (stop.Refused (Unread name)) is = (
  is.0,
  elim is.1 [
    | inl rises ↦ inl rises
    | inr lacks ↦ inr (some-map told (λ held. f held ≡ Err (Unread name))
        (λ held. (f held >>= k held) ≡ Err (Unread name)) (λ held said it. ap (λ r. r >>= k held)
        it) lacks)
  ],
  λ held said. ap (λ r. r >>= k (held_without name held)) (is.2 held said),
)
stops-through told f k before after (stop.Refused (Bad name fault)) is =
    (is.0, λ held said. ap (λ r. r >>= k held) (is.1 held said))
stops-through told f k before after stop.NoMemory is = is

-- A first step that gave a value gives it still, or its file can't be read; where the next step, of
-- that
-- value, says that a file of this name can't be read, so do both.
step-without : {A B : Type 0} (name : List ℕ) (one other : Result A Refusal) (x : A)
    (f : A → Result B Refusal)
    → SameOrUnread name one other → one ≡ Ok x → f x ≡ Err (Unread name)
    → (other >>= f) ≡ Err (Unread name)
step-without name one other x f (inl same) is next = ap (λ r. r >>= f) (same ∙ is) ∙ next
step-without name one other x f (inr gone) is next = ap (λ r. r >>= f) gone

-- a first step gave a value, and reading stopped in the next
pub stops-after : {A B : Type 0} (told : FilesTold) (f : Held → Result A Refusal)
    (next : A → Held → Result B Refusal) (before between after : ℕ) (x : A) (why : Stop)
    → ((held : Held) (name : List ℕ) → SameOrUnread name (f held) (f (held_without name held)))
    → FilesGive told f before between (Ok x) → FilesGive told (next x) between after (Err why)
    → FilesGive told (λ held. f held >>= (λ a. next a held)) before after (Err why)
stops-after told f next before between after x (stop.Refused (Unread name)) alike gave is = (
  omega (arith, gave.0, is.0),
  elim is.1 [
    | inl rises ↦ inl (subst (λ n. Rises n after) gave.0 rises)
    | inr lacks ↦ inr (some-map told (λ held. next x held ≡ Err (Unread name))
        (λ held. (f held >>= (λ a. next a held)) ≡ Err (Unread name))
        (λ held said it. ap (λ r. r >>= (λ a. next a held)) (gave.1 held said) ∙ it) lacks)
  ],
  λ held said. step-without name (f held) (f (held_without name held)) x
      (λ a. next a (held_without name held)) (alike held name) (gave.1 held said) (is.2 held said),
)
stops-after told f next before between after x (stop.Refused (Bad name fault)) alike gave is = (
  is.0 ∙ gave.0,
  λ held said. ap (λ r. r >>= (λ a. next a held)) (gave.1 held said)
      ∙ is.1 held said,
)
stops-after told f next before between after x stop.NoMemory alike gave is =
    omega (arith, gave.0, is)

-- what a `?` gave on
pub given_on : {A : Type 0} (told : FilesTold) (f : Held → Result A Refusal) (before after : ℕ)
    (why : Stop) (result : Result A Stop)
    → IsErrAnd result (λ e. e ≡ why) → FilesGive told f before after (Err why)
    → FilesGive told f before after result
given_on told f before after why (Ok x) is gives = absurd is
given_on told f before after why (Err e) is gives =
    subst (λ (e : Stop). FilesGive told f before after (Err e)) (sym is) gives
