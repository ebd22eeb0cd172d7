-- The function of commands has just the values of their grammar, and these keep the rules.
use Rattle.std.proofs.Common.{◌≡◌, ◌⊎◌, ℕ, zero, suc, ◌+◌, ◌^◌, ◌<◌, ◌≤◌, Bool, true, false, cond, leb, inl, inr, List, [], ◌∷◌, ◌++◌, length, Option, Some, None, Result, Ok, Err, refl, sym, ap, subst, arith}
use Rattle.std.specs.Prelude.{◌↔◌, All, IfOk, codes}
use Rattle.std.specs.Option.{option_to_list}
use Rattle.std.specs.Str.{bytes_eq}
use Rattle.std.proofs.lemmas.Bool.{leb-true, le-leb}
use Rattle.std.proofs.lemmas.List.Elements.{All-append}
use Rattle.std.proofs.lemmas.Option.{none-some, option_and_then_some as steps, same_Some}
use Rattle.std.proofs.lemmas.Slice.Eq.{bytes_eq-Decides}
use Rattle.text_lines.specs.Lines.{AnswersRead, AnswersText, Reads, Rows, lines_of}
use Rattle.text_lines.specs.Numbers.{number_below_of, number_of_word}
use Rattle.text_lines.proofs.NumberLaws.{number_below_of-exact, number_of-exact}
use Rattle.text_lines.proofs.TextLaws.{AnswersText-rows}
use Rattle.text_lines.specs.declared.lines.TextFault.{TextFault}
use Rattle.xom_debug.specs.Commands.{AreCommands, CommandKeepsRules, IsBadCommandLine, IsCommand, command_of, command_of_one, command_of_three, command_of_two, commands_at, ram_command, reg_command, slot_command, step_command, until_command}
use Rattle.xom_debug.specs.declared.command.Command.{Command}
use Rattle.xom_debug.specs.declared.command.Command.TheVariants as command

-- ---- as they are read

-- a choice of two
chosen : {A : Type 0} (b : Bool) (x y z : A) → cond b x y ≡ z
    → ((b ≡ true) × (x ≡ z)) ⊎ ((b ≡ false) × (y ≡ z))
chosen true x y z h = inl (refl, h)
chosen false x y z h = inr (refl, h)

same_word : (word name : List ℕ) → bytes_eq word name ≡ true → word ≡ name
same_word word name h = (bytes_eq-Decides word name).0 h

given : (words : List (List ℕ)) (found value : Command) → IsCommand words found
    → Some found ≡ Some value → IsCommand words value
given words found value is same = subst (IsCommand words) (same_Some found value same) is

-- the row of a name that was asked for, or what the rows behind it give
named : (P : Type 0) (word name : List ℕ) (here there : Option Command) (value : Command)
    → cond (bytes_eq word name) here there ≡ Some value
    → (word ≡ name → here ≡ Some value → P) → (there ≡ Some value → P) → P
named P word name here there value h at_name behind =
    elim (chosen (bytes_eq word name) here there (Some value) h) [
      | inl t ↦ at_name (same_word word name t.0) t.1
      | inr t ↦ behind t.1
    ]

none_left : (P : Type 0) (value : Command) → None ≡ Some value → P
none_left P value h = absurd (none-some value h)

step_found : (a : List ℕ) (value : Command) → step_command a ≡ Some value
    → IsCommand (codes "step" ∷ a ∷ []) value
unfolding step_command
step_found a value h =
    steps _ (number_of_word a) value h (λ n read same.
    given (codes "step" ∷ a ∷ []) (command.Step n) value (a, refl, (number_of-exact a n).0 read)
    same)

until_found : (a : List ℕ) (value : Command) → until_command a ≡ Some value
    → IsCommand (codes "until" ∷ a ∷ []) value
unfolding until_command
until_found a value h =
    named (IsCommand (codes "until" ∷ a ∷ []) value) a (codes "trap") (Some command.UntilTrap) None
    value h
    (λ is same. given (codes "until" ∷ a ∷ []) command.UntilTrap value
    (ap (λ a. codes "until" ∷ a ∷ []) is) same)
    (none_left (IsCommand (codes "until" ∷ a ∷ []) value) value)

reg_found : (a : List ℕ) (value : Command) → reg_command a ≡ Some value
    → IsCommand (codes "reg" ∷ a ∷ []) value
unfolding reg_command
reg_found a value h =
    steps _ (number_below_of 34 a) value h (λ n read h.
    elim (chosen (leb 1 n) (Some (command.Reg n)) None (Some value) h) [
      | inl t ↦ given (codes "reg" ∷ a ∷ []) (command.Reg n) value
          (a, refl, (number_below_of-exact 34 a n).0 read, leb-true 1 n t.0) t.1
      | inr t ↦ none_left (IsCommand (codes "reg" ∷ a ∷ []) value) value t.1
    ])

slot_found : (a : List ℕ) (value : Command) → slot_command a ≡ Some value
    → IsCommand (codes "slot" ∷ a ∷ []) value
unfolding slot_command
slot_found a value h =
    steps _ (number_below_of 17 a) value h (λ n read h.
    elim (chosen (leb 1 n) (Some (command.Slot n)) None (Some value) h) [
      | inl t ↦ given (codes "slot" ∷ a ∷ []) (command.Slot n) value
          (a, refl, (number_below_of-exact 17 a n).0 read, leb-true 1 n t.0) t.1
      | inr t ↦ none_left (IsCommand (codes "slot" ∷ a ∷ []) value) value t.1
    ])

ram_found : (a b : List ℕ) (value : Command) → ram_command a b ≡ Some value
    → IsCommand (codes "ram" ∷ a ∷ b ∷ []) value
unfolding ram_command
ram_found a b value h =
    steps _ (number_below_of (2 ^ 32) a) value h (λ address read_a h.
    steps _ (number_below_of 65 b) value h (λ count read_b same.
    given (codes "ram" ∷ a ∷ b ∷ []) (command.Ram address count) value (
      a,
      b,
      refl,
      (number_below_of-exact (2 ^ 32) a address).0 read_a,
      (number_below_of-exact 65 b count).0 read_b,
    ) same))

one_found : (name : List ℕ) (value : Command) → command_of_one name ≡ Some value
    → IsCommand (name ∷ []) value
unfolding command_of_one
one_found name value h =
    named (IsCommand (name ∷ []) value) name (codes "last") (Some command.Last) None value h
    (λ is same. given (name ∷ []) command.Last value (ap (λ name. name ∷ []) is) same)
    (none_left (IsCommand (name ∷ []) value) value)

-- a name in front of a word
with_name : (name known a : List ℕ) (value : Command) → name ≡ known
    → IsCommand (known ∷ a ∷ []) value → IsCommand (name ∷ a ∷ []) value
with_name name known a value is found =
    subst (λ name. IsCommand (name ∷ a ∷ []) value) (sym is) found

two_found : (name a : List ℕ) (value : Command) → command_of_two name a ≡ Some value
    → IsCommand (name ∷ a ∷ []) value
unfolding command_of_two
two_found name a value h =
    let P = IsCommand (name ∷ a ∷ []) value in
    named P name (codes "step") _ _ value h
    (λ is found. with_name name (codes "step") a value is (step_found a value found))
    (λ h.
    named P name (codes "until") _ _ value h
    (λ is found. with_name name (codes "until") a value is (until_found a value found))
    (λ h.
    named P name (codes "reg") _ _ value h
    (λ is found. with_name name (codes "reg") a value is (reg_found a value found))
    (λ h.
    named P name (codes "slot") _ _ value h
    (λ is found. with_name name (codes "slot") a value is (slot_found a value found))
    (none_left P value))))

three_found : (name a b : List ℕ) (value : Command) → command_of_three name a b ≡ Some value
    → IsCommand (name ∷ a ∷ b ∷ []) value
unfolding command_of_three
three_found name a b value h =
    named (IsCommand (name ∷ a ∷ b ∷ []) value) name (codes "ram") (ram_command a b) None value h
    (λ is found. subst (λ name. IsCommand (name ∷ a ∷ b ∷ []) value) (sym is)
    (ram_found a b value found))
    (none_left (IsCommand (name ∷ a ∷ b ∷ []) value) value)

command_found : (words : List (List ℕ)) (value : Command) → command_of words ≡ Some value
    → IsCommand words value
unfolding command_of
command_found [] value h = absurd (none-some value h)
command_found (name ∷ []) value h = one_found name value h
command_found (name ∷ a ∷ []) value h = two_found name a value h
command_found (name ∷ a ∷ b ∷ []) value h = three_found name a b value h
command_found (name ∷ a ∷ b ∷ c ∷ words) value h = absurd (none-some value h)

-- ---- as they are written

command_only : (words : List (List ℕ)) (value : Command) → IsCommand words value
    → command_of words ≡ Some value
unfolding command_of command_of_one command_of_two command_of_three step_command until_command reg_command slot_command ram_command
command_only words (command.Step count) w = rw w.1 (rw ((number_of-exact w.0 count).1 w.2) refl)
command_only words command.UntilTrap w = rw w refl
command_only words (command.Reg reg) w =
    rw w.1 (rw ((number_below_of-exact 34 w.0 reg).1 w.2, le-leb 1 reg w.3) refl)
command_only words (command.Slot slot) w =
    rw w.1 (rw ((number_below_of-exact 17 w.0 slot).1 w.2, le-leb 1 slot w.3) refl)
command_only words command.Last w = rw w refl
command_only words (command.Ram address count) w =
    rw w.2 (rw (
      (number_below_of-exact (2 ^ 32) w.0 address).1 w.3,
      (number_below_of-exact 65 w.1 count).1 w.4,
    ) refl)

pub command_of-exact : (words : List (List ℕ)) (value : Command)
    → (command_of words ≡ Some value) ↔ IsCommand words value
command_of-exact words value = (command_found words value, command_only words value)

no_words : command_of [] ≡ None
unfolding command_of
no_words = refl

-- ---- the whole

pub commands_answer : (text : List ℕ) (r : Result (List Command) TextFault)
    → AnswersRead (commands_at text) r → AnswersText (AreCommands text) (IsBadCommandLine text) r
unfolding commands_at
commands_answer text = AnswersText-rows command_of IsCommand command_of-exact no_words text

-- ---- the rules

command-rules : (words : List (List ℕ)) (value : Command) → IsCommand words value → CommandKeepsRules value
command-rules words (command.Step count) w = tt
command-rules words command.UntilTrap w = tt
command-rules words (command.Reg reg) w = let below : reg < 34 = w.2.1 in (w.3, omega arith)
command-rules words (command.Slot slot) w = let below : slot < 17 = w.2.1 in (w.3, omega arith)
command-rules words command.Last w = tt
command-rules words (command.Ram address count) w = let below : count < 65 = w.4.1 in omega arith

no_rules : All CommandKeepsRules []
no_rules k d within = absurd (omega arith)

one-rules : (words : List (List ℕ)) (value : Command) → IsCommand words value
    → All CommandKeepsRules (value ∷ [])
one-rules words value is zero d within = command-rules words value is
one-rules words value is (suc k) d within = absurd (omega arith)

item-rules : (n : ℕ) (line : List ℕ) (value : Option Command) → Rows IsCommand tt n line value tt
    → All CommandKeepsRules (option_to_list value)
item-rules n line None is = no_rules
item-rules n line (Some value) is = one-rules _ value is

pub lines-rules : (n : ℕ) (lines : List (List ℕ)) (values : List Command)
    → Reads (Rows IsCommand) tt n lines values tt → All CommandKeepsRules values
lines-rules n [] values reads = subst (All CommandKeepsRules) (sym reads.0) no_rules
lines-rules n (line ∷ lines) values reads =
    subst (All CommandKeepsRules) (sym reads.4)
    (All-append CommandKeepsRules (option_to_list reads.0) reads.2 (item-rules n line reads.0 reads.3)
    (lines-rules (n + 1) lines reads.2 reads.5))

pub commands-rules : (text : List ℕ) (r : Result (List Command) TextFault)
    → AnswersText (AreCommands text) (IsBadCommandLine text) r → IfOk r (All CommandKeepsRules)
commands-rules text (Ok commands) answers = lines-rules 1 (lines_of text) commands answers.found
commands-rules text (Err fault) answers = tt
