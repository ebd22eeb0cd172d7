-- The functions of a journal's lines have just the entries of its grammar.
use Rattle.std.proofs.Common.{◌≡◌, ℕ, suc, ◌+◌, ◌^◌, ◌<◌, ◌≤◌, Bool, true, false, cond, eqb, leb, ◌&&◌, ◌⊎◌, inl, inr, List, [], ◌∷◌, ◌++◌, length, Option, Some, None, refl, sym, ap, subst, ◌∙◌, arith}
use Rattle.std.specs.Prelude.{◌↔◌, codes, option_map}
use Rattle.std.specs.Str.{bytes_eq}
use Rattle.std.proofs.lemmas.Bool.{and_parts, cases_Bool, eq-eqb, eqb-true, le-leb, leb-true}
use Rattle.std.proofs.lemmas.Option.{cond_some, none-some, option_and_then_some as steps, same_Some, some_pair_parts}
use Rattle.sha2.specs.Sha256.{sha256}
use Rattle.text_lines.specs.Hex.{IsHex, WritesHex, hex_of, hex_within}
use Rattle.text_lines.specs.Lines.{Tells, with_words}
use Rattle.text_lines.specs.Words.{words_of}
use Rattle.text_lines.specs.Numbers.{IsDecimal, WritesBelow, WritesDecimal, decimal_below_of, number_below_of, numeral_of, count_below_of}
use Rattle.text_lines.proofs.CutLaws.{option_map_some}
use Rattle.text_lines.proofs.HexLaws.{hex_of-exact, hex_within-exact}
use Rattle.text_lines.proofs.LineLaws.{Tells-words}
use Rattle.text_lines.proofs.NumberLaws.{cond_then, decimal_below_of-exact, none_from_never, number_below_of-exact, numeral_of-exact, count_below_of-exact}
use Rattle.xom_base.specs.declared.entry.Entry.{Entry}
use Rattle.xom_base.specs.declared.entry.Entry.TheVariants as entry
use Rattle.xom_base.specs.declared.event.Cause.{Cause}
use Rattle.xom_base.specs.declared.event.Cause.TheVariants as cause
use Rattle.xom_base.specs.declared.event.Rule.{Rule}
use Rattle.xom_base.specs.declared.event.Rule.TheVariants as rule
use Rattle.text_lines.proofs.ChoiceLaws.{cond-cases}
use Rattle.text_lines.proofs.ByteLaws.{bytes_eq-same, same_bytes}
use Rattle.step_text.specs.StepFields.{fault_of, step_of_words}
use Rattle.step_text.proofs.StepWords.{fault_of-exact, step_of-exact}
use Rattle.journal_text.specs.JournalLines.{IsCause, IsInstalledBefore, IsPayload, IsRow, IsRule, JournalLine, accept_entry_of, cause_of, hash_entry_of, install_entry_of, installed_of, journal_step, kill_entry_of, last_behind, named_cause_of, named_entry_of, named_rule_of, next_install_of, out_entry_of, payload_of, row_of_entry, rule_of, seal_entry_of, step_entry_of, stop_entry_of, trap_entry_of, with_last}

-- ---- words

payload_found : (most : ℕ) (word bytes : List ℕ) → payload_of most word ≡ Some bytes
    → IsPayload most word bytes
unfolding payload_of
payload_found most word bytes h =
    steps _ (hex_within most word) bytes h (λ found read h.
    let t = cond_some (leb 1 (length found)) found bytes h in (
      subst (WritesHex most word) t.1 ((hex_within-exact most word found).0 read),
      subst (λ (bytes : List ℕ). 1 ≤ length bytes) t.1 (leb-true 1 (length found) t.0),
    ))

payload_only : (most : ℕ) (word bytes : List ℕ) → IsPayload most word bytes
    → payload_of most word ≡ Some bytes
unfolding payload_of
payload_only most word bytes is =
    rw ((hex_within-exact most word bytes).1 is.0, le-leb 1 (length bytes) is.1) refl

installed_found : (last : ℕ) (word : List ℕ) (n : ℕ) → installed_of last word ≡ Some n
    → IsInstalledBefore last word n
unfolding installed_of
installed_found last word n h =
    steps _ (numeral_of 10 word) n h (λ m read h.
    let t = cond_some (leb 1 m && leb m last) m n h in
    let both = and_parts (leb 1 m) (leb m last) t.0 in
    subst (IsInstalledBefore last word) t.1 (
      (numeral_of-exact 10 word m).0 read,
      leb-true 1 m both.0,
      leb-true m last both.1,
    ))

installed_only : (last : ℕ) (word : List ℕ) (n : ℕ) → IsInstalledBefore last word n
    → installed_of last word ≡ Some n
unfolding installed_of
installed_only last word n is =
    rw ((numeral_of-exact 10 word n).1 is.0) (rw (le-leb 1 n is.1, le-leb n last is.2) refl)

next_found : (last : ℕ) (word : List ℕ) (n : ℕ) → next_install_of last word ≡ Some n
    → IsDecimal word n × (n ≡ last + 1)
unfolding next_install_of
next_found last word n h =
    steps _ (numeral_of 10 word) n h (λ m read h.
    let t = cond_some (eqb m (last + 1)) m n h in (
      subst (IsDecimal word) t.1 ((numeral_of-exact 10 word m).0 read),
      sym t.1
          ∙ eqb-true m (last + 1) t.0,
    ))

next_only : (last : ℕ) (word : List ℕ) (n : ℕ) → IsDecimal word n → n ≡ last + 1
    → next_install_of last word ≡ Some n
unfolding next_install_of
next_only last word n is one =
    rw ((numeral_of-exact 10 word n).1 is) (rw (eq-eqb n (last + 1) one) refl)

-- ---- choices by a word

-- two words, of which the first was compared
named : (word detail name : List ℕ) → bytes_eq word name ≡ true
    → word ∷ detail ∷ [] ≡ name ∷ detail ∷ []
named word detail name is = ap (λ (word : List ℕ). word ∷ detail ∷ []) (same_bytes word name is)

-- ---- RULE and DETAIL, and causes of traps

rule_found : (words : List (List ℕ)) (why : Rule) → rule_of words ≡ Some why → IsRule words why
unfolding rule_of named_rule_of
rule_found [] why h = absurd (none-some why h)
rule_found (name ∷ []) why h = absurd (none-some why h)
rule_found (name ∷ d ∷ more ∷ rest) why h = absurd (none-some why h)
rule_found (name ∷ d ∷ []) why h =
    elim (cond-cases (bytes_eq name (codes "LineTag")) _ _ (Some why) h) [
      | inl t ↦
          let m = option_map_some rule.LineTag (number_below_of (2 ^ 32) d) why t.1 in
          subst (IsRule (name ∷ d ∷ [])) (same_Some (rule.LineTag m.0) why m.2)
          (d, named name d (codes "LineTag") t.0, (number_below_of-exact (2 ^ 32) d m.0).0 m.1)
      | inr t ↦ elim (cond-cases (bytes_eq name (codes "TreeNode")) _ _ (Some why) t.1) [
        | inl t ↦
            let m = option_map_some rule.TreeNode (number_below_of (2 ^ 8) d) why t.1 in
            subst (IsRule (name ∷ d ∷ [])) (same_Some (rule.TreeNode m.0) why m.2)
            (d, named name d (codes "TreeNode") t.0, (number_below_of-exact (2 ^ 8) d m.0).0 m.1)
        | inr t ↦ elim (cond-cases (bytes_eq name (codes "RegisterTag")) _ _ (Some why) t.1) [
          | inl t ↦
              let m = option_map_some rule.RegisterTag (number_below_of (2 ^ 8) d) why t.1 in
              subst (IsRule (name ∷ d ∷ [])) (same_Some (rule.RegisterTag m.0) why m.2) (
                d,
                named name d (codes "RegisterTag") t.0,
                (number_below_of-exact (2 ^ 8) d m.0).0
                    m.1,
              )
          | inr t ↦
              let u = cond_then (bytes_eq name (codes "RegisterMissing")) _ why t.1 in
              let m = option_map_some rule.RegisterMissing (number_below_of (2 ^ 8) d) why u.1 in
              subst (IsRule (name ∷ d ∷ [])) (same_Some (rule.RegisterMissing m.0) why m.2) (
                d,
                named name d (codes "RegisterMissing") u.0,
                (number_below_of-exact (2 ^ 8) d m.0).0 m.1,
              )
        ]
      ]
    ]

rule_only : (words : List (List ℕ)) (why : Rule) → IsRule words why → rule_of words ≡ Some why
unfolding rule_of named_rule_of
rule_only words (rule.LineTag n) is =
    rw is.1 (rw ((number_below_of-exact (2 ^ 32) is.0 n).1 is.2) refl)
rule_only words (rule.TreeNode n) is =
    rw is.1 (rw ((number_below_of-exact (2 ^ 8) is.0 n).1 is.2) refl)
rule_only words (rule.RegisterTag n) is =
    rw is.1 (rw ((number_below_of-exact (2 ^ 8) is.0 n).1 is.2) refl)
rule_only words (rule.RegisterMissing n) is =
    rw is.1 (rw ((number_below_of-exact (2 ^ 8) is.0 n).1 is.2) refl)

cause_found : (words : List (List ℕ)) (why : Cause) → cause_of words ≡ Some why → IsCause words why
unfolding cause_of named_cause_of
cause_found [] why h = absurd (none-some why h)
cause_found (name ∷ []) why h =
    let t = cond_some (bytes_eq name (codes "interrupt")) cause.Interrupt why h in
    subst (IsCause (name ∷ [])) t.1 (ap (λ (name : List ℕ). name ∷ [])
    (same_bytes name (codes "interrupt") t.0))
cause_found (name ∷ d ∷ more ∷ rest) why h = absurd (none-some why h)
cause_found (name ∷ d ∷ []) why h =
    elim (cond-cases (bytes_eq name (codes "call")) _ _ (Some why) h) [
      | inl t ↦
          let m = option_map_some cause.Call (number_below_of (2 ^ 32) d) why t.1 in
          subst (IsCause (name ∷ d ∷ [])) (same_Some (cause.Call m.0) why m.2)
          (d, named name d (codes "call") t.0, (number_below_of-exact (2 ^ 32) d m.0).0 m.1)
      | inr t ↦ elim (cond-cases (bytes_eq name (codes "page")) _ _ (Some why) t.1) [
        | inl t ↦
            let m = option_map_some cause.Page (number_below_of (2 ^ 32) d) why t.1 in
            subst (IsCause (name ∷ d ∷ [])) (same_Some (cause.Page m.0) why m.2)
            (d, named name d (codes "page") t.0, (number_below_of-exact (2 ^ 32) d m.0).0 m.1)
        | inr t ↦
            let u = cond_then (bytes_eq name (codes "fault")) _ why t.1 in
            let m = option_map_some cause.Fault (fault_of d) why u.1 in
            subst (IsCause (name ∷ d ∷ [])) (same_Some (cause.Fault m.0) why m.2)
            (d, named name d (codes "fault") u.0, (fault_of-exact d m.0).0 m.1)
      ]
    ]

cause_only : (words : List (List ℕ)) (why : Cause) → IsCause words why → cause_of words ≡ Some why
unfolding cause_of named_cause_of
cause_only words cause.Interrupt is = rw is refl
cause_only words (cause.Call code) is =
    rw is.1 (rw ((number_below_of-exact (2 ^ 32) is.0 code).1 is.2) refl)
cause_only words (cause.Page page) is =
    rw is.1 (rw ((number_below_of-exact (2 ^ 32) is.0 page).1 is.2) refl)
cause_only words (cause.Fault kind) is = rw is.1 (rw ((fault_of-exact is.0 kind).1 is.2) refl)
cause_only words cause.Nothing is = absurd is
cause_only words cause.Exit is = absurd is
cause_only words (cause.Stopped why) is = absurd is

-- ---- rows, as they are read: the entry of the words behind a name

-- the words have this entry
abbrev Found : ℕ → List (List ℕ) → Entry → Type 0
Found last words e = IsRow last words e (last_behind last e)

install_found : (last : ℕ) (rest : List (List ℕ)) (e : Entry) → install_entry_of last rest ≡ Some e
    → Found last (codes "install" ∷ rest) e
unfolding install_entry_of
install_found last [] e h = absurd (none-some e h)
install_found last (a ∷ []) e h = absurd (none-some e h)
install_found last (a ∷ s ∷ []) e h = absurd (none-some e h)
install_found last (a ∷ s ∷ i ∷ []) e h = absurd (none-some e h)
install_found last (a ∷ s ∷ i ∷ p ∷ []) e h = absurd (none-some e h)
install_found last (a ∷ s ∷ i ∷ p ∷ b ∷ []) e h = absurd (none-some e h)
install_found last (a ∷ s ∷ i ∷ p ∷ b ∷ l ∷ more ∷ rest) e h = absurd (none-some e h)
install_found last (a ∷ s ∷ i ∷ p ∷ b ∷ l ∷ []) e h =
    steps _ (next_install_of last a) e h (λ n n_is h.
    steps _ (count_below_of 17 s) e h (λ slot slot_is h.
    steps _ (hex_of 16 i) e h (λ id id_is h.
    steps _ (decimal_below_of (2 ^ 32) p) e h (λ place place_is h.
    steps _ (decimal_below_of (2 ^ 32) b) e h (λ begin begin_is h.
    steps _ (decimal_below_of (2 ^ 32) l) e h (λ lines lines_is h.
    let one = next_found last a n n_is in
    let two = (count_below_of-exact 17 s slot).0 slot_is in
    subst (Found last (codes "install" ∷ a ∷ s ∷ i ∷ p ∷ b ∷ l ∷ []))
    (same_Some (entry.Install n slot record { 0 = id } place begin lines) e h) (
      a,
      s,
      i,
      p,
      b,
      l,
      refl,
      one.0,
      one.1,
      two.0,
      two.1,
      (hex_of-exact 16 i id).0 id_is,
      (decimal_below_of-exact (2 ^ 32) p place).0 place_is,
      (decimal_below_of-exact (2 ^ 32) b begin).0 begin_is,
      (decimal_below_of-exact (2 ^ 32) l lines).0 lines_is,
      refl,
    )))))))

step_found : (last : ℕ) (rest : List (List ℕ)) (e : Entry) → step_entry_of last rest ≡ Some e
    → Found last (codes "step" ∷ rest) e
unfolding step_entry_of
step_found last [] e h = absurd (none-some e h)
step_found last (a ∷ fields) e h =
    steps _ (installed_of last a) e h (λ n n_is h.
    steps _ (step_of_words fields) e h (λ step step_is h.
    subst (Found last (codes "step" ∷ a ∷ fields)) (same_Some (entry.Step n step) e h)
    (a, fields, refl, installed_found last a n n_is, (step_of-exact fields step).0 step_is, refl)))

trap_found : (last : ℕ) (rest : List (List ℕ)) (e : Entry) → trap_entry_of last rest ≡ Some e
    → Found last (codes "trap" ∷ rest) e
unfolding trap_entry_of
trap_found last [] e h = absurd (none-some e h)
trap_found last (a ∷ causes) e h =
    steps _ (installed_of last a) e h (λ n n_is h.
    steps _ (cause_of causes) e h (λ why why_is h.
    subst (Found last (codes "trap" ∷ a ∷ causes)) (same_Some (entry.Trap n why) e h)
    (a, causes, refl, installed_found last a n n_is, cause_found causes why why_is, refl)))

seal_found : (last : ℕ) (rest : List (List ℕ)) (e : Entry) → seal_entry_of rest ≡ Some e
    → Found last (codes "seal" ∷ rest) e
unfolding seal_entry_of
seal_found last [] e h = absurd (none-some e h)
seal_found last (k ∷ []) e h = absurd (none-some e h)
seal_found last (k ∷ m ∷ more ∷ rest) e h = absurd (none-some e h)
seal_found last (k ∷ m ∷ []) e h =
    steps _ (payload_of 96 k) e h (λ key key_is h.
    steps _ (payload_of 96 m) e h (λ message message_is h.
    subst (Found last (codes "seal" ∷ k ∷ m ∷ [])) (same_Some (entry.Seal key message) e h)
    (k, m, refl, payload_found 96 k key key_is, payload_found 96 m message message_is, refl)))

accept_found : (last : ℕ) (rest : List (List ℕ)) (e : Entry) → accept_entry_of rest ≡ Some e
    → Found last (codes "accept" ∷ rest) e
unfolding accept_entry_of
accept_found last [] e h = absurd (none-some e h)
accept_found last (k ∷ []) e h = absurd (none-some e h)
accept_found last (k ∷ m ∷ []) e h = absurd (none-some e h)
accept_found last (k ∷ m ∷ p ∷ more ∷ rest) e h = absurd (none-some e h)
accept_found last (k ∷ m ∷ p ∷ []) e h =
    steps _ (payload_of 96 k) e h (λ key key_is h.
    steps _ (payload_of 96 m) e h (λ message message_is h.
    steps _ (decimal_below_of (2 ^ 32) p) e h (λ place place_is h.
    subst (Found last (codes "accept" ∷ k ∷ m ∷ p ∷ [])) (same_Some (entry.Accept key message place)
    e h) (
      k,
      m,
      p,
      refl,
      payload_found 96 k key key_is,
      payload_found 96 m message message_is,
      (decimal_below_of-exact (2 ^ 32) p place).0 place_is,
      refl,
    ))))

hash_found : (last : ℕ) (rest : List (List ℕ)) (e : Entry) → hash_entry_of rest ≡ Some e
    → Found last (codes "hash" ∷ rest) e
unfolding hash_entry_of
hash_found last [] e h = absurd (none-some e h)
hash_found last (p ∷ []) e h = absurd (none-some e h)
hash_found last (p ∷ d ∷ more ∷ rest) e h = absurd (none-some e h)
hash_found last (p ∷ d ∷ []) e h =
    steps _ (payload_of 260 p) e h (λ preimage preimage_is h.
    steps _ (hex_of 32 d) e h (λ digest digest_is h.
    let t = cond_some (bytes_eq digest (sha256 preimage)) (entry.Hash preimage digest) e h in
    subst (Found last (codes "hash" ∷ p ∷ d ∷ [])) t.1 (
      p,
      d,
      refl,
      payload_found 260 p preimage preimage_is,
      (hex_of-exact 32 d digest).0 digest_is,
      same_bytes digest (sha256 preimage) t.0,
      refl,
    )))

stop_found : (last : ℕ) (rest : List (List ℕ)) (e : Entry) → stop_entry_of last rest ≡ Some e
    → Found last (codes "stop" ∷ rest) e
unfolding stop_entry_of
stop_found last [] e h = absurd (none-some e h)
stop_found last (a ∷ rules) e h =
    steps _ (installed_of last a) e h (λ n n_is h.
    steps _ (rule_of rules) e h (λ why why_is h.
    subst (Found last (codes "stop" ∷ a ∷ rules)) (same_Some (entry.Stop n why) e h)
    (a, rules, refl, installed_found last a n n_is, rule_found rules why why_is, refl)))

kill_found : (last : ℕ) (rest : List (List ℕ)) (e : Entry) → kill_entry_of last rest ≡ Some e
    → Found last (codes "kill" ∷ rest) e
unfolding kill_entry_of
kill_found last [] e h = absurd (none-some e h)
kill_found last (a ∷ more ∷ rest) e h = absurd (none-some e h)
kill_found last (a ∷ []) e h =
    let m = option_map_some entry.Kill (installed_of last a) e h in
    subst (Found last (codes "kill" ∷ a ∷ [])) (same_Some (entry.Kill m.0) e m.2)
    (a, refl, installed_found last a m.0 m.1, refl)

out_found : (last : ℕ) (rest : List (List ℕ)) (e : Entry) → out_entry_of rest ≡ Some e
    → Found last (codes "out" ∷ rest) e
unfolding out_entry_of
out_found last [] e h = absurd (none-some e h)
out_found last (b ∷ more ∷ rest) e h = absurd (none-some e h)
out_found last (b ∷ []) e h =
    let m = option_map_some entry.Out (number_below_of 256 b) e h in
    subst (Found last (codes "out" ∷ b ∷ [])) (same_Some (entry.Out m.0) e m.2)
    (b, refl, (number_below_of-exact 256 b m.0).0 m.1, refl)

-- a row by the name of its line
under : (last : ℕ) (name word : List ℕ) (rest : List (List ℕ)) (e : Entry)
    → bytes_eq word name ≡ true → Found last (name ∷ rest) e → Found last (word ∷ rest) e
under last name word rest e is found =
    subst (λ (name : List ℕ). Found last (name ∷ rest) e) (sym (same_bytes word name is)) found

named_entry_found : (last : ℕ) (name : List ℕ) (rest : List (List ℕ)) (e : Entry)
    → named_entry_of last name rest ≡ Some e → Found last (name ∷ rest) e
unfolding named_entry_of
named_entry_found last name rest e h =
    elim (cond-cases (bytes_eq name (codes "install")) _ _ (Some e) h) [
      | inl t ↦ under last (codes "install") name rest e t.0 (install_found last rest e t.1)
      | inr t ↦ elim (cond-cases (bytes_eq name (codes "step")) _ _ (Some e) t.1) [
        | inl t ↦ under last (codes "step") name rest e t.0 (step_found last rest e t.1)
        | inr t ↦ elim (cond-cases (bytes_eq name (codes "trap")) _ _ (Some e) t.1) [
          | inl t ↦ under last (codes "trap") name rest e t.0 (trap_found last rest e t.1)
          | inr t ↦ elim (cond-cases (bytes_eq name (codes "seal")) _ _ (Some e) t.1) [
            | inl t ↦ under last (codes "seal") name rest e t.0 (seal_found last rest e t.1)
            | inr t ↦ elim (cond-cases (bytes_eq name (codes "accept")) _ _ (Some e) t.1) [
              | inl t ↦ under last (codes "accept") name rest e t.0 (accept_found last rest e t.1)
              | inr t ↦ elim (cond-cases (bytes_eq name (codes "hash")) _ _ (Some e) t.1) [
                | inl t ↦ under last (codes "hash") name rest e t.0 (hash_found last rest e t.1)
                | inr t ↦ elim (cond-cases (bytes_eq name (codes "stop")) _ _ (Some e) t.1) [
                  | inl t ↦ under last (codes "stop") name rest e t.0 (stop_found last rest e t.1)
                  | inr t ↦ elim (cond-cases (bytes_eq name (codes "kill")) _ _ (Some e) t.1) [
                    | inl t ↦ under last (codes "kill") name rest e t.0 (kill_found last rest e t.1)
                    | inr t ↦
                        let u = cond_then (bytes_eq name (codes "out")) _ e t.1 in
                        under last (codes "out") name rest e u.0 (out_found last rest e u.1)
                  ]
                ]
              ]
            ]
          ]
        ]
      ]
    ]

row_found : (last : ℕ) (words : List (List ℕ)) (e : Entry) (next : ℕ)
    → row_of_entry last words ≡ Some (e, next) → IsRow last words e next
unfolding row_of_entry
row_found last [] e next h = absurd (none-some (e, next) h)
row_found last (name ∷ rest) e next h =
    let m = option_map_some (with_last last) (named_entry_of last name rest) (e, next) h in
    let p = some_pair_parts m.0 e (last_behind last m.0) next m.2 in
    subst (λ (k : ℕ). IsRow last (name ∷ rest) e k) p.1
    (subst (λ (x : Entry). IsRow last (name ∷ rest) x (last_behind last m.0)) p.0
    (named_entry_found last name rest m.0 m.1))

-- ---- rows of the grammar are read

row_only : (last : ℕ) (words : List (List ℕ)) (e : Entry) (next : ℕ) → IsRow last words e next
    → row_of_entry last words ≡ Some (e, next)
unfolding row_of_entry named_entry_of install_entry_of step_entry_of trap_entry_of seal_entry_of accept_entry_of hash_entry_of stop_entry_of
    kill_entry_of out_entry_of
row_only last words (entry.Install n slot id place begin lines) next
    (a, s, i, p, b, l, is, n_is, one, slot_is, least, id_is, place_is, begin_is, lines_is, next_is) =
    rw (is, next_is) (
    rw (
      next_only last a n n_is one,
      (count_below_of-exact 17 s slot).1 (slot_is, least),
      (hex_of-exact 16 i id.0).1
          id_is,
    ) (
    rw (
      (decimal_below_of-exact (2 ^ 32) p place).1 place_is,
      (decimal_below_of-exact (2 ^ 32) b
          begin).1 begin_is,
      (decimal_below_of-exact (2 ^ 32) l lines).1 lines_is,
    ) refl))
row_only last words (entry.Step n step) next (a, fields, is, n_is, step_is, next_is) =
    rw (is, next_is) (rw (installed_only last a n n_is, (step_of-exact fields step).1 step_is) refl)
row_only last words (entry.Trap n why) next (a, causes, is, n_is, why_is, next_is) =
    rw (is, next_is) (rw (installed_only last a n n_is, cause_only causes why why_is) refl)
row_only last words (entry.Seal key message) next (k, m, is, key_is, message_is, next_is) =
    rw (is, next_is) (rw (payload_only 96 k key key_is, payload_only 96 m message message_is) refl)
row_only last words (entry.Accept key message place) next
    (k, m, p, is, key_is, message_is, place_is, next_is) =
    rw (is, next_is) (rw (
      payload_only 96 k key key_is,
      payload_only 96 m message message_is,
      (decimal_below_of-exact (2 ^ 32) p place).1 place_is,
    ) refl)
row_only last words (entry.Hash preimage digest) next (
  p,
  d,
  is,
  preimage_is,
  digest_is,
  hash_is,
  next_is,
) =
    rw (is, next_is) (rw (
      payload_only 260 p preimage preimage_is,
      (hex_of-exact 32 d digest).1
          digest_is,
      bytes_eq-same digest (sha256 preimage) hash_is,
    ) refl)
row_only last words (entry.Stop n why) next (a, rules, is, n_is, why_is, next_is) =
    rw (is, next_is) (rw (installed_only last a n n_is, rule_only rules why why_is) refl)
row_only last words (entry.Kill n) next (a, is, n_is, next_is) =
    rw (is, next_is) (rw (installed_only last a n n_is) refl)
row_only last words (entry.Out byte) next (b, is, byte_is, next_is) =
    rw (is, next_is) (rw ((number_below_of-exact 256 b byte).1 byte_is) refl)

-- ---- lines

row_nothing : (last : ℕ) → row_of_entry last [] ≡ None
unfolding row_of_entry
row_nothing last = refl

pub tells : Tells journal_step JournalLine
tells =
    Tells-words (λ last n words. row_of_entry last words) (λ last n words e next. IsRow last words e next)
    record {
      reads = λ last n words e next h. row_found last words e next h;
      only = λ last n words e next h. row_only last words e next h;
      some = λ last n. row_nothing last;
    }

-- ---- no line has more than nine words

rule_length : (words : List (List ℕ)) (why : Rule) → IsRule words why → length words ≤ 7
rule_length words (rule.LineTag n) is = rw is.1 (omega arith)
rule_length words (rule.TreeNode n) is = rw is.1 (omega arith)
rule_length words (rule.RegisterTag n) is = rw is.1 (omega arith)
rule_length words (rule.RegisterMissing n) is = rw is.1 (omega arith)

cause_length : (words : List (List ℕ)) (why : Cause) → IsCause words why → length words ≤ 7
cause_length words cause.Interrupt is = rw is (omega arith)
cause_length words (cause.Call code) is = rw is.1 (omega arith)
cause_length words (cause.Page page) is = rw is.1 (omega arith)
cause_length words (cause.Fault kind) is = rw is.1 (omega arith)
cause_length words cause.Nothing is = absurd is
cause_length words cause.Exit is = absurd is
cause_length words (cause.Stopped why) is = absurd is

two_more : (words : List (List ℕ)) (a b : List ℕ) (rest : List (List ℕ)) → words ≡ a ∷ b ∷ rest
    → length rest ≤ 7 → length words ≤ 9
two_more words a b rest is few = rw is (omega arith)

row_length : (last : ℕ) (words : List (List ℕ)) (e : Entry) (next : ℕ) → IsRow last words e next
    → length words ≤ 9
row_length last words (entry.Install n slot id place begin lines) next is = rw is.6 (omega arith)
row_length last words (entry.Step n step) next is =
    let seven : length is.1 ≡ 7 = ap length is.4.7 in
    two_more words (codes "step") is.0 is.1 is.2 (omega arith)
row_length last words (entry.Trap n why) next is =
    two_more words (codes "trap") is.0 is.1 is.2 (cause_length is.1 why is.4)
row_length last words (entry.Seal key message) next is = rw is.2 (omega arith)
row_length last words (entry.Accept key message place) next is = rw is.3 (omega arith)
row_length last words (entry.Hash preimage digest) next is = rw is.2 (omega arith)
row_length last words (entry.Stop n why) next is =
    two_more words (codes "stop") is.0 is.1 is.2 (rule_length is.1 why is.4)
row_length last words (entry.Kill n) next is = rw is.1 (omega arith)
row_length last words (entry.Out byte) next is = rw is.1 (omega arith)

long_row : (last : ℕ) (words : List (List ℕ)) → 9 < length words → row_of_entry last words ≡ None
long_row last words long =
    none_from_never (row_of_entry last words) (λ read is.
    let few : length words ≤ 9 = row_length last words read.0 read.1
    (row_found last words read.0 read.1 is) in omega arith)

long_words : (last : ℕ) (words : List (List ℕ)) → 9 < length words
    → with_words (λ last n words. row_of_entry last words) last 0 words ≡ None
long_words last [] long = absurd (omega arith)
long_words last (word ∷ words) long = rw (long_row last (word ∷ words) long) refl

pub long_line : (last : ℕ) (line : List ℕ) → 10 < length (words_of line)
    → journal_step last 0 line ≡ None
long_line last line long = long_words last (words_of line) (omega arith)
