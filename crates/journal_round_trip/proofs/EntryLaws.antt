-- The printed line of an entry has the words that the grammar asks for.
use Rattle.std.proofs.Common.{ℕ, ◌^◌, ◌<◌, List, [], ◌∷◌, ◌++◌, length, refl, ap, append_assoc, arith}
use Rattle.std.specs.Prelude.{codes}
use Rattle.std.specs.Fmt.{decimal}
use Rattle.hex.specs.Hex.{encode_lower}
use Rattle.xom_base.specs.declared.entry.Entry.{Entry}
use Rattle.xom_base.specs.declared.entry.Entry.TheVariants as entry
use Rattle.xom_base.specs.declared.event.Cause.{Cause}
use Rattle.xom_base.specs.declared.event.Cause.TheVariants as cause
use Rattle.xom_base.specs.declared.event.Rule.{Rule}
use Rattle.xom_base.specs.declared.event.Rule.TheVariants as rule
use Rattle.step_text.specs.StepTexts.{own_fault_text, step_fields}
use Rattle.journal_text.specs.JournalLines.{IsCause, IsInstalledBefore, IsPayload, IsRow, IsRule, last_behind}
use Rattle.journal_text.specs.JournalTexts.{cause_text, entry_text, journal_rule_text, spaced_word}
use Rattle.journal_round_trip.specs.KeepsRules.{CameBefore, Is32Bit, KeepsCause, KeepsEntry, KeepsPayload, KeepsRule}
use Rattle.journal_round_trip.proofs.WordLaws.{IsLine, IsWord, line-append, line-two}
use Rattle.journal_round_trip.proofs.PieceLaws.{decimal-printed, hex-printed, number-printed, word-decimal, word-hex}
use Rattle.journal_round_trip.proofs.FieldLaws.{line-step, step_words, step-printed, word-fault}

-- ---- pieces

line-named : (name : List ℕ) (n : ℕ) → IsWord name → n < 2 ^ 64
    → IsLine (name ++ (32 ∷ decimal n)) (name ∷ decimal n ∷ [])
line-named name n is small = line-two name (decimal n) is (word-decimal n small)

word-number : (n : ℕ) → Is32Bit n → IsWord (decimal n)
word-number n short = word-decimal n (omega arith)

payload-printed : (most : ℕ) (bytes : List ℕ) → KeepsPayload most bytes
    → IsPayload most (encode_lower bytes) bytes
payload-printed most bytes (all, least, few) =
    ((hex-printed (length bytes) bytes refl all, few), least)

word-payload : (most : ℕ) (bytes : List ℕ) → KeepsPayload most bytes → IsWord (encode_lower bytes)
word-payload most bytes (all, least, few) = word-hex (length bytes) bytes refl least all

-- ---- numbers of installs

number-small : (last n : ℕ) → last < 2 ^ 64 → CameBefore last n → n < 2 ^ 64
number-small last n small before = omega (arith, before.1)

installed-printed : (last n : ℕ) → last < 2 ^ 64 → CameBefore last n
    → IsInstalledBefore last (decimal n) n
installed-printed last n small before =
    (decimal-printed n (number-small last n small before), before.0, before.1)

line-installed : (name : List ℕ) (last n : ℕ) → IsWord name → last < 2 ^ 64 → CameBefore last n
    → IsLine (name ++ (32 ∷ decimal n)) (name ∷ decimal n ∷ [])
line-installed name last n is small before = line-named name n is (number-small last n small before)

-- ---- rules

abbrev rule_words : Rule → List (List ℕ)
rule_words (rule.LineTag n) = codes "LineTag" ∷ decimal n ∷ []
rule_words (rule.TreeNode n) = codes "TreeNode" ∷ decimal n ∷ []
rule_words (rule.RegisterTag n) = codes "RegisterTag" ∷ decimal n ∷ []
rule_words (rule.RegisterMissing n) = codes "RegisterMissing" ∷ decimal n ∷ []

line-rule : (why : Rule) → KeepsRule why → IsLine (journal_rule_text why) (rule_words why)
line-rule (rule.LineTag n) keeps =
    line-named (codes "LineTag") n (omega arith, refl) (omega arith)
line-rule (rule.TreeNode n) keeps =
    line-named (codes "TreeNode") n (omega arith, refl) (omega arith)
line-rule (rule.RegisterTag n) keeps =
    line-named (codes "RegisterTag") n (omega arith, refl) (omega arith)
line-rule (rule.RegisterMissing n) keeps =
    line-named (codes "RegisterMissing") n (omega arith, refl) (omega arith)

rule-printed : (why : Rule) → KeepsRule why → IsRule (rule_words why) why
rule-printed (rule.LineTag n) keeps =
    (decimal n, refl, number-printed (2 ^ 32) n keeps (omega arith))
rule-printed (rule.TreeNode n) keeps =
    (decimal n, refl, number-printed (2 ^ 8) n keeps (omega arith))
rule-printed (rule.RegisterTag n) keeps =
    (decimal n, refl, number-printed (2 ^ 8) n keeps (omega arith))
rule-printed (rule.RegisterMissing n) keeps =
    (decimal n, refl, number-printed (2 ^ 8) n keeps (omega arith))

-- ---- causes of traps

abbrev cause_words : Cause → List (List ℕ)
cause_words cause.Nothing = []
cause_words cause.Interrupt = codes "interrupt" ∷ []
cause_words (cause.Call code) = codes "call" ∷ decimal code ∷ []
cause_words (cause.Page page) = codes "page" ∷ decimal page ∷ []
cause_words (cause.Fault kind) = codes "fault" ∷ own_fault_text kind ∷ []
cause_words cause.Exit = []
cause_words (cause.Stopped why) = []

line-cause : (why : Cause) → KeepsCause why → IsLine (cause_text why) (cause_words why)
line-cause cause.Nothing keeps = absurd keeps
line-cause cause.Interrupt keeps =
    record { some = omega arith; joined = refl; each = ((omega arith, refl), tt) }
line-cause (cause.Call code) keeps =
    line-named (codes "call") code (omega arith, refl) (omega arith)
line-cause (cause.Page page) keeps =
    line-named (codes "page") page (omega arith, refl) (omega arith)
line-cause (cause.Fault kind) keeps =
    line-two (codes "fault") (own_fault_text kind) (omega arith, refl) (word-fault kind)
line-cause cause.Exit keeps = absurd keeps
line-cause (cause.Stopped why) keeps = absurd keeps

cause-printed : (why : Cause) → KeepsCause why → IsCause (cause_words why) why
cause-printed cause.Nothing keeps = absurd keeps
cause-printed cause.Interrupt keeps = refl
cause-printed (cause.Call code) keeps =
    (decimal code, refl, number-printed (2 ^ 32) code keeps (omega arith))
cause-printed (cause.Page page) keeps =
    (decimal page, refl, number-printed (2 ^ 32) page keeps (omega arith))
cause-printed (cause.Fault kind) keeps = (own_fault_text kind, refl, refl)
cause-printed cause.Exit keeps = absurd keeps
cause-printed (cause.Stopped why) keeps = absurd keeps

-- ---- entries

-- the words of an entry's line
abbrev pub entry_words : Entry → List (List ℕ)
entry_words (entry.Install n slot id place begin lines) =
    codes "install" ∷ decimal n ∷ decimal slot ∷ encode_lower id.0
    ∷ decimal place ∷ decimal begin ∷ decimal lines ∷ []
entry_words (entry.Step n step) = codes "step" ∷ decimal n ∷ step_words step
entry_words (entry.Trap n why) = codes "trap" ∷ decimal n ∷ cause_words why
entry_words (entry.Seal key message) =
    codes "seal" ∷ encode_lower key ∷ encode_lower message ∷ []
entry_words (entry.Accept key message place) =
    codes "accept" ∷ encode_lower key ∷ encode_lower message ∷ decimal place ∷ []
entry_words (entry.Hash preimage digest) =
    codes "hash" ∷ encode_lower preimage ∷ encode_lower digest ∷ []
entry_words (entry.Stop n why) = codes "stop" ∷ decimal n ∷ rule_words why
entry_words (entry.Kill n) = codes "kill" ∷ decimal n ∷ []
entry_words (entry.Out byte) = codes "out" ∷ decimal byte ∷ []

pub line-entry : (last : ℕ) (e : Entry) → last < 2 ^ 64 → KeepsEntry last e
    → IsLine (entry_text e) (entry_words e)
line-entry last (entry.Install n slot id place begin lines) small
    (one, fits, least, most, all, sized, p, b, l) = record {
      some = omega arith;
      joined = refl;
      each = (
        (omega arith, refl),
        (
          word-decimal n fits,
          (
            word-decimal slot (omega arith),
            (
              word-hex 16 id.0 sized (omega arith) all,
              (word-number place p, (word-number begin b, (word-number lines l, tt))),
            ),
          ),
        ),
      );
    }
line-entry last (entry.Step n step) small (before, keeps) =
    line-append (codes "step" ++ (32 ∷ decimal n)) (step_fields step)
    (codes "step" ∷ decimal n ∷ []) (step_words step)
    (line-installed (codes "step") last n (omega arith, refl) small before) (line-step step keeps)
line-entry last (entry.Trap n why) small (before, keeps) =
    line-append (codes "trap" ++ (32 ∷ decimal n)) (cause_text why)
    (codes "trap" ∷ decimal n ∷ []) (cause_words why)
    (line-installed (codes "trap") last n (omega arith, refl) small before) (line-cause why keeps)
line-entry last (entry.Seal key message) small (k, m) = record {
  some = omega arith;
  joined = refl;
  each = ((omega arith, refl), (word-payload 96 key k, (word-payload 96 message m, tt)));
}
line-entry last (entry.Accept key message place) small (k, m, p) = record {
  some = omega arith;
  joined =
      ap (λ (rest : List ℕ). codes "accept " ++ rest)
      (append_assoc (encode_lower key) (spaced_word (encode_lower message)) (spaced_word (decimal place)));
  each = (
    (omega arith, refl),
    (word-payload 96 key k, (word-payload 96 message m, (word-number place p, tt))),
  );
}
line-entry last (entry.Hash preimage digest) small (p, all, sized, is) = record {
  some = omega arith;
  joined = refl;
  each = (
    (omega arith, refl),
    (word-payload 260 preimage p, (word-hex 32 digest sized (omega arith) all, tt)),
  );
}
line-entry last (entry.Stop n why) small (before, keeps) =
    line-append (codes "stop" ++ (32 ∷ decimal n)) (journal_rule_text why)
    (codes "stop" ∷ decimal n ∷ []) (rule_words why)
    (line-installed (codes "stop") last n (omega arith, refl) small before) (line-rule why keeps)
line-entry last (entry.Kill n) small before =
    line-installed (codes "kill") last n (omega arith, refl) small before
line-entry last (entry.Out byte) small fits =
    line-named (codes "out") byte (omega arith, refl) (omega arith)

pub entry-printed : (last : ℕ) (e : Entry) → last < 2 ^ 64 → KeepsEntry last e
    → IsRow last (entry_words e) e (last_behind last e)
entry-printed last (entry.Install n slot id place begin lines) small
    (one, fits, least, most, all, sized, p, b, l) = (
      decimal n,
      decimal slot,
      encode_lower id.0,
      decimal place,
      decimal begin,
      decimal lines,
      refl,
      decimal-printed n fits,
      one,
      number-printed 17 slot most (omega arith),
      least,
      hex-printed 16 id.0 sized all,
      (decimal-printed place (omega arith), p),
      (decimal-printed begin (omega arith), b),
      (decimal-printed lines (omega arith), l),
      refl,
    )
entry-printed last (entry.Step n step) small (before, keeps) =
    let number = installed-printed last n small before in
    (decimal n, step_words step, refl, number, step-printed step keeps, refl)
entry-printed last (entry.Trap n why) small (before, keeps) =
    let number = installed-printed last n small before in
    (decimal n, cause_words why, refl, number, cause-printed why keeps, refl)
entry-printed last (entry.Seal key message) small (k, m) = (
  encode_lower key,
  encode_lower message,
  refl,
  payload-printed 96 key k,
  payload-printed 96 message m,
  refl,
)
entry-printed last (entry.Accept key message place) small (k, m, p) = (
  encode_lower key,
  encode_lower message,
  decimal place,
  refl,
  payload-printed 96 key k,
  payload-printed 96 message m,
  (decimal-printed place (omega arith), p),
  refl,
)
entry-printed last (entry.Hash preimage digest) small (p, all, sized, is) = (
  encode_lower preimage,
  encode_lower digest,
  refl,
  payload-printed 260 preimage p,
  hex-printed 32 digest sized all,
  is,
  refl,
)
entry-printed last (entry.Stop n why) small (before, keeps) =
    let number = installed-printed last n small before in
    (decimal n, rule_words why, refl, number, rule-printed why keeps, refl)
entry-printed last (entry.Kill n) small before =
    (decimal n, refl, installed-printed last n small before, refl)
entry-printed last (entry.Out byte) small fits =
    (decimal byte, refl, number-printed 256 byte fits (omega arith), refl)
