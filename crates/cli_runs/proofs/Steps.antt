-- One step of reading after another.
use Rattle.std.proofs.Common.{◌≡◌, inl, inr, ℕ, List, Some, None, Result, Ok, Err, sym, ap, subst, ◌∙◌}
use Rattle.std.specs.Prelude.{IfOk, IsSomeAnd}
use Rattle.xom_io.specs.Answers.{FilesTold}
use Rattle.text_lines.specs.declared.lines.TextFault.{TextFault}
use Rattle.text_lines.specs.declared.lines.TextFault.TheVariants as text_fault
use Rattle.cli_base.specs.declared.refusal.InputStop.{InputStop}
use Rattle.cli_base.specs.declared.refusal.InputStop.TheVariants as input_stop
use Rattle.cli_base.specs.declared.refusal.Refusal.{Refusal}
use Rattle.cli_base.specs.declared.refusal.Refusal.TheVariants.{Unread, Bad}
use Rattle.cli_base.specs.declared.refusal.Stop.{Stop}
use Rattle.cli_base.specs.declared.refusal.Stop.TheVariants as stop
use Rattle.cli_base.specs.Inputs.{Held, held_without, ◌>>=◌}
use Rattle.cli_base.specs.Readings.{FilesGive, IsLined, IsNamed}
use Rattle.cli_base.proofs.Without.{SameOrUnread, stops-after}

-- ---- What holds of a value that was read

-- holds of what is answered with the name of the file
pub named-keeps : {A : Type 0} (P : A → Type 0) (name : List ℕ) (read : Result A InputStop)
    (result : Result A Stop)
    → IfOk read P → IsNamed name read result → IfOk result P
named-keeps P name (Ok value) result p named = subst (λ r. IfOk r P) (sym named) p
named-keeps P name (Err (input_stop.Fault fault)) result p named = elim named [
  | inl is ↦ subst (λ r. IfOk r P) (sym is) tt
  | inr is ↦ subst (λ r. IfOk r P) (sym is) tt
]
named-keeps P name (Err input_stop.NoMemory) result p named = subst (λ r. IfOk r P) (sym named) tt

-- and what holds of what is read in lines, of its answer
pub lined-keeps : {A : Type 0} (P : A → Type 0) (read : Result A TextFault)
    (result : Result A InputStop)
    → IfOk read P → IsLined read result → IfOk result P
lined-keeps P (Ok value) result p is = subst (λ r. IfOk r P) (sym is) p
lined-keeps P (Err (text_fault.Line n)) result p is = subst (λ r. IfOk r P) (sym is) tt
lined-keeps P (Err text_fault.NoMemory) result p is = subst (λ r. IfOk r P) (sym is) tt

-- ---- Two steps

-- what a step gave goes on into the next
pub gives-after : {A B : Type 0} (told : FilesTold) (f : Held → Result A Refusal)
    (next : A → Held → Result B Refusal) (before between after : ℕ) (x : A) (result : Result B Stop)
    → ((held : Held) (name : List ℕ) → SameOrUnread name (f held) (f (held_without name held)))
    → FilesGive told f before between (Ok x) → FilesGive told (next x) between after result
    → FilesGive told (λ held. f held >>= (λ a. next a held)) before after result
gives-after told f next before between after x (Ok y) alike gave is = (
  is.0 ∙ gave.0,
  λ held said. ap (λ r. r >>= (λ a. next a held)) (gave.1 held said)
      ∙ is.1 held said,
)
gives-after told f next before between after x (Err why) alike gave is =
    stops-after told f next before between after x why alike gave is

-- two functions of what files hold are given alike
some-same : {A : Type 0} (told : FilesTold) (f g : Held → Result A Refusal) (r : Result A Refusal)
    → ((held : Held) → f held ≡ g held) → IsSomeAnd told (λ held. f held ≡ r)
    → IsSomeAnd told (λ held. g held ≡ r)
some-same None f g r same is = is
some-same (Some held) f g r same is = sym (same held) ∙ is

pub gives-same : {A : Type 0} (told : FilesTold) (f g : Held → Result A Refusal) (before after : ℕ)
    (result : Result A Stop)
    → ((held : Held) → f held ≡ g held) → FilesGive told f before after result
    → FilesGive told g before after result
gives-same told f g before after (Ok x) same is =
    (is.0, λ held said. sym (same held) ∙ is.1 held said)
gives-same told f g before after (Err (stop.Refused (Unread name))) same is = (
  is.0,
  elim is.1 [
    | inl rises ↦ inl rises
    | inr lacks ↦ inr (some-same told f g (Err (Unread name)) same lacks)
  ],
  λ held said. sym (same (held_without name held)) ∙ is.2 held said,
)
gives-same told f g before after (Err (stop.Refused (Bad name fault))) same is =
    (is.0, λ held said. sym (same held) ∙ is.1 held said)
gives-same told f g before after (Err stop.NoMemory) same is = is

-- ---- One name isn't held any more

pub bind-without : {A B : Type 0} (name : List ℕ) (one other : Result A Refusal)
    (f g : A → Result B Refusal)
    → SameOrUnread name one other → ((x : A) → SameOrUnread name (f x) (g x))
    → SameOrUnread name (one >>= f) (other >>= g)
bind-without name (Ok x) other f g (inl same) alike =
    subst (λ o. SameOrUnread name (f x) (o >>= g)) (sym same) (alike x)
bind-without name (Err e) other f g (inl same) alike = inl (ap (λ o. o >>= g) same)
bind-without name one other f g (inr gone) alike = inr (ap (λ o. o >>= g) gone)

-- ---- What is made of a value

pub made-ok : {A B : Type 0} (told : FilesTold) (f : Held → Result A Refusal) (make : A → B)
    (before after : ℕ) (x : A)
    → FilesGive told f before after (Ok x)
    → FilesGive told (λ held. f held >>= (λ a. Ok (make a))) before after (Ok (make x))
made-ok told f make before after x gave =
    (gave.0, λ held said. ap (λ r. r >>= (λ a. Ok (make a))) (gave.1 held said))
