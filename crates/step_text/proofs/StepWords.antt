-- The functions of a step's fields, and of the step, have just the values of their grammar.
use Rattle.std.proofs.Common.{◌≡◌, ℕ, ◌+◌, ◌^◌, ◌<◌, ◌≤◌, Bool, true, false, cond, eqb, ◌⊎◌, inl, inr, List, [], ◌∷◌, ◌++◌, length, Option, Some, None, refl, sym, ap, subst, ◌∙◌, arith}
use Rattle.std.specs.Prelude.{◌↔◌, codes, option_map}
use Rattle.std.specs.Str.{bytes_eq}
use Rattle.std.proofs.lemmas.Bool.{cases_Bool}
use Rattle.std.proofs.lemmas.List.{length-append}
use Rattle.std.proofs.lemmas.Option.{none-some, option_and_then_some as steps, same_Some}
use Rattle.text_lines.specs.Hex.{IsHex, hex_of}
use Rattle.text_lines.specs.Numbers.{WritesBelow as WritesNumber, count_below_of}
use Rattle.text_lines.specs.Words.{cut_of}
use Rattle.text_lines.proofs.CutLaws.{cut_of-at, cut_of-whole, option_map_some}
use Rattle.text_lines.proofs.HexLaws.{hex_of-exact}
use Rattle.xom_base.specs.declared.event.OwnFault.{OwnFault}
use Rattle.xom_base.specs.declared.event.OwnFault.TheVariants as fault
use Rattle.xom_base.specs.declared.step.Writes.{Writes}
use Rattle.xom_base.specs.declared.step.Writes.TheVariants as writes
use Rattle.xom_base.specs.declared.step.Stored.{Stored}
use Rattle.xom_base.specs.declared.step.Stored.TheVariants as stored
use Rattle.xom_base.specs.declared.step.Received.{Received}
use Rattle.xom_base.specs.declared.step.Received.TheVariants as received
use Rattle.xom_base.specs.declared.step.Released.{Released}
use Rattle.xom_base.specs.declared.step.Released.TheVariants as released
use Rattle.xom_base.specs.declared.step.StepEnd.{StepEnd}
use Rattle.xom_base.specs.declared.step.StepEnd.TheVariants as ended
use Rattle.xom_base.specs.declared.step.Step.{Step}
use Rattle.text_lines.proofs.NumberLaws.{count_below_of-exact}
use Rattle.text_lines.proofs.ByteLaws.{bytes_eq-longer, bytes_eq-same, same_bytes}
use Rattle.step_text.specs.declared.reading.CellOrPair.{CellOrPair}
use Rattle.step_text.specs.declared.reading.CellOrPair.TheVariants as form
use Rattle.step_text.specs.StepFields.{IsCell, IsEnd, IsFault, IsHex8, IsNamedPair, IsReceivedWord, IsReleased, IsStep, IsStored, IsWrites, bytes_at_of, cell_of, cell_or_pair_of, end_of_word, fault_of, hex8_of, named_hex8_of, named_number_of, named_pair_of, number_of_bytes, or_else, received_word, released_by, released_of, step_of_words, stored_bytes_of, stored_of, text_after_name, writes_by, writes_of}
use Rattle.step_text.proofs.FieldLaws.{behind_head, cell_found, cell_none, cell_only, hex8_of-exact, hex8_without, named_hex8_found, named_hex8_none, named_hex8_only, named_number_found, named_number_only, named_pair_found, named_pair_none, named_pair_only, number_without, or_else_some, other_head}

-- ---- a choice by a word

-- the word is a name and the value that of the name, or it is another word
either : {A : Type 0} (test : Bool) (x : A) (other : Option A) (y : A)
    → cond test (Some x) other ≡ Some y
    → ((test ≡ true) × (x ≡ y)) ⊎ ((test ≡ false) × (other ≡ Some y))
either true x other y h = inl (refl, same_Some x y h)
either false x other y h = inr (refl, h)

-- ---- `-`, a cell, or two values behind a name

abbrev IsCellOrPair : List ℕ → List ℕ → CellOrPair → Type 0
IsCellOrPair name word form.Nothing = word ≡ codes "-"
IsCellOrPair name word (form.Cell reg value) = IsCell word reg value
IsCellOrPair name word (form.Pair first second) = IsNamedPair name word first second

cell_or_pair_found : (name word : List ℕ) (c : CellOrPair) → cell_or_pair_of name word ≡ Some c
    → IsCellOrPair name word c
unfolding cell_or_pair_of
cell_or_pair_found name word c h =
    elim (either (bytes_eq word (codes "-")) form.Nothing _ c h) [
      | inl t ↦ subst (IsCellOrPair name word) t.1 (same_bytes word (codes "-") t.0)
      | inr t ↦ elim (or_else_some _ _ c t.1) [
        | inl first ↦
            let m = option_map_some (λ (cell : ℕ × ℕ). form.Cell cell.0 cell.1) (cell_of word) c
            first in
            subst (IsCellOrPair name word) (same_Some (form.Cell m.0.0 m.0.1) c m.2)
            (cell_found word m.0.0 m.0.1 m.1)
        | inr second ↦
            let m = option_map_some (λ (pair : ℕ × ℕ). form.Pair pair.0 pair.1)
            (named_pair_of name word) c second in
            subst (IsCellOrPair name word) (same_Some (form.Pair m.0.0 m.0.1) c m.2)
            (named_pair_found name word m.0.0 m.0.1 m.1)
      ]
    ]

-- the name begins neither as `-` nor as a cell does
cell_or_pair_only : (head : ℕ) (rest word : List ℕ) (c : CellOrPair) → eqb head 45 ≡ false
    → eqb head 114 ≡ false → IsCellOrPair (head ∷ rest) word c
    → cell_or_pair_of (head ∷ rest) word ≡ Some c
unfolding cell_or_pair_of
cell_or_pair_only head rest word form.Nothing dash cell is = rw (bytes_eq-same word (codes "-") is) refl
cell_or_pair_only head rest word (form.Cell reg value) dash cell is =
    let away : bytes_eq word (codes "-") ≡ false = other_head 114 45 word _ _ is.2 refl in
    rw (away, cell_only word reg value is) refl
cell_or_pair_only head rest word (form.Pair first second) dash cell is =
    let away : bytes_eq word (codes "-") ≡ false = other_head head 45 word _ _ is.2 dash in
    let no_cell : cell_of word ≡ None = cell_none word (behind_head 114 head _ word _ is.2 cell) in
    rw (away, no_cell, named_pair_only (head ∷ rest) word first second is) refl

-- what holds of each such word holds of the word of the value that is made of it
made_found : {A : Type 0} (make : CellOrPair → A) (IsOf : List ℕ → A → Type 0) (name word : List ℕ)
    (x : A)
    → ((c : CellOrPair) → IsCellOrPair name word c → IsOf word (make c))
    → option_map make (cell_or_pair_of name word) ≡ Some x → IsOf word x
made_found make IsOf name word x is h =
    let m = option_map_some make (cell_or_pair_of name word) x h in
    subst (IsOf word) (same_Some (make m.0) x m.2) (is m.0 (cell_or_pair_found name word m.0 m.1))

-- ---- WRITES

writes_by-is : (word : List ℕ) (c : CellOrPair) → IsCellOrPair (codes "hl=") word c
    → IsWrites word (writes_by c)
writes_by-is word form.Nothing is = is
writes_by-is word (form.Cell reg value) is = is
writes_by-is word (form.Pair first second) is = is

writes_found : (word : List ℕ) (w : Writes) → writes_of word ≡ Some w → IsWrites word w
unfolding writes_of
writes_found word w h = made_found writes_by IsWrites (codes "hl=") word w (writes_by-is word) h

writes_only : (word : List ℕ) (w : Writes) → IsWrites word w → writes_of word ≡ Some w
unfolding writes_of
writes_only word writes.Nothing is =
    ap (option_map writes_by) (cell_or_pair_only 104 (codes "l=") word form.Nothing refl refl is)
writes_only word (writes.One reg value) is =
    ap (option_map writes_by)
    (cell_or_pair_only 104 (codes "l=") word (form.Cell reg value) refl refl is)
writes_only word (writes.Pair hi lo) is =
    ap (option_map writes_by)
    (cell_or_pair_only 104 (codes "l=") word (form.Pair hi lo) refl refl is)

pub writes_of-exact : (word : List ℕ) (w : Writes) → (writes_of word ≡ Some w) ↔ IsWrites word w
writes_of-exact word w = (writes_found word w, writes_only word w)

-- ---- STORED

stored_bytes_found : (word : List ℕ) (s : Stored) → stored_bytes_of word ≡ Some s → IsStored word s
unfolding stored_bytes_of bytes_at_of
stored_bytes_found word s h =
    steps _ (cut_of 43 word) s h (λ parts cuts h.
    steps _ (hex8_of parts.0) s h (λ address high h.
    steps _ (cut_of 61 parts.1) s h (λ more cuts_more h.
    steps _ (count_below_of 5 more.0) s h (λ count read h.
    steps _ (hex_of count more.1) s h (λ bytes low h.
    let c = (count_below_of-exact 5 more.0 count).0 read in
    subst (IsStored word) (same_Some (stored.Bytes address count (number_of_bytes count bytes)) s h) (
      parts.0,
      more.0,
      more.1,
      bytes,
      cut_of-whole 43 word parts.0 parts.1 cuts ∙ ap (λ more. parts.0 ++ (43 ∷ more))
          (cut_of-whole 61 parts.1 more.0 more.1 cuts_more),
      (hex8_of-exact parts.0 address).0 high,
      c.0,
      c.1,
      (hex_of-exact count more.1 bytes).0 low,
      refl,
    ))))))

stored_found : (word : List ℕ) (s : Stored) → stored_of word ≡ Some s → IsStored word s
unfolding stored_of
stored_found word s h =
    elim (either (bytes_eq word (codes "-")) stored.Nothing _ s h) [
      | inl t ↦ subst (IsStored word) t.1 (same_bytes word (codes "-") t.0)
      | inr t ↦ stored_bytes_found word s t.1
    ]

-- a word that begins with eight digits is no dash
long_word : (a more word : List ℕ) (n : ℕ) → word ≡ a ++ more → IsHex8 a n
    → bytes_eq word (codes "-") ≡ false
long_word a more word n is hex =
    let sized : length a ≡ 8 = hex.1.sized in
    let long : length word ≡ length a + length more = ap length is ∙ length-append a more in
    bytes_eq-longer word (codes "-") (omega arith)

stored_only : (word : List ℕ) (s : Stored) → IsStored word s → stored_of word ≡ Some s
unfolding stored_of stored_bytes_of bytes_at_of
stored_only word stored.Nothing is = rw (bytes_eq-same word (codes "-") is) refl
stored_only word (stored.Bytes address count value) (
  a,
  c,
  h,
  bytes,
  whole,
  high,
  counts,
  least,
  low,
  valued,
) =
    rw (long_word a (43 ∷ (c ++ (61 ∷ h))) word address whole high) (
    rw whole (
    rw (cut_of-at 43 a (c ++ (61 ∷ h)) (hex8_without address 43 a (omega arith) high)) (
    rw ((hex8_of-exact a address).1 high) (
    rw (cut_of-at 61 c h (number_without 5 count 61 c (omega arith) refl refl counts)) (
    rw ((count_below_of-exact 5 c count).1 (counts, least), (hex_of-exact count h bytes).1 low) (
    ap (λ v. Some (stored.Bytes address count v)) (sym valued)))))))

pub stored_of-exact : (word : List ℕ) (s : Stored) → (stored_of word ≡ Some s) ↔ IsStored word s
stored_of-exact word s = (stored_found word s, stored_only word s)

-- ---- RECEIVED

received_found : (word : List ℕ) (g : Received) → received_word word ≡ Some g → IsReceivedWord word g
unfolding received_word
received_found word g h =
    elim (either (bytes_eq word (codes "-")) received.Nothing _ g h) [
      | inl t ↦ subst (IsReceivedWord word) t.1 (same_bytes word (codes "-") t.0)
      | inr t ↦ elim (or_else_some _ _ g t.1) [
        | inl first ↦
            let m = option_map_some received.Cell (named_hex8_of (codes "cell=") word) g first in
            subst (IsReceivedWord word) (same_Some (received.Cell m.0) g m.2)
            (named_hex8_found (codes "cell=") word m.0 m.1)
        | inr others ↦ elim (or_else_some _ _ g others) [
          | inl second ↦
              let m = option_map_some (λ (pair : ℕ × ℕ). received.Null pair.0 pair.1)
              (named_pair_of (codes "null=") word) g second in
              subst (IsReceivedWord word) (same_Some (received.Null m.0.0 m.0.1) g m.2)
              (named_pair_found (codes "null=") word m.0.0 m.0.1 m.1)
          | inr third ↦
              let m = option_map_some received.Signal (named_number_of (codes "signal=") word) g
              third in
              subst (IsReceivedWord word) (same_Some (received.Signal m.0) g m.2)
              (named_number_found (codes "signal=") word m.0 m.1)
        ]
      ]
    ]

received_only : (word : List ℕ) (g : Received) → IsReceivedWord word g → received_word word ≡ Some g
unfolding received_word
received_only word received.Nothing is = rw (bytes_eq-same word (codes "-") is) refl
received_only word (received.Cell value) is =
    let away : bytes_eq word (codes "-") ≡ false = other_head 99 45 word _ _ is.1 refl in
    rw (away, named_hex8_only (codes "cell=") word value is) refl
received_only word (received.Null address value) is =
    let away : bytes_eq word (codes "-") ≡ false = other_head 110 45 word _ _ is.2 refl in
    let no_cell : named_hex8_of (codes "cell=") word ≡ None = named_hex8_none (codes "cell=") word
    (behind_head 99 110 _ word _ is.2 refl) in
    rw (away, no_cell, named_pair_only (codes "null=") word address value is) refl
received_only word (received.Signal n) is =
    let away : bytes_eq word (codes "-") ≡ false = other_head 115 45 word _ _ is.1 refl in
    let no_cell : named_hex8_of (codes "cell=") word ≡ None = named_hex8_none (codes "cell=") word
    (behind_head 99 115 _ word _ is.1 refl) in
    let no_null : named_pair_of (codes "null=") word ≡ None = named_pair_none (codes "null=") word
    (behind_head 110 115 _ word _ is.1 refl) in
    rw (away, no_cell, no_null, named_number_only (codes "signal=") word n is) refl

pub received_of-exact : (word : List ℕ) (g : Received)
    → (received_word word ≡ Some g) ↔ IsReceivedWord word g
received_of-exact word g = (received_found word g, received_only word g)

-- ---- RELEASED

released_by-is : (word : List ℕ) (c : CellOrPair) → IsCellOrPair (codes "null=") word c
    → IsReleased word (released_by c)
released_by-is word form.Nothing is = is
released_by-is word (form.Cell reg value) is = is
released_by-is word (form.Pair first second) is = is

released_found : (word : List ℕ) (r : Released) → released_of word ≡ Some r → IsReleased word r
unfolding released_of
released_found word r h =
    made_found released_by IsReleased (codes "null=") word r (released_by-is word) h

released_only : (word : List ℕ) (r : Released) → IsReleased word r → released_of word ≡ Some r
unfolding released_of
released_only word released.Nothing is =
    ap (option_map released_by)
    (cell_or_pair_only 110 (codes "ull=") word form.Nothing refl refl is)
released_only word (released.Cell reg value) is =
    ap (option_map released_by)
    (cell_or_pair_only 110 (codes "ull=") word (form.Cell reg value) refl refl is)
released_only word (released.Null address value) is =
    ap (option_map released_by)
    (cell_or_pair_only 110 (codes "ull=") word (form.Pair address value) refl refl is)

pub released_of-exact : (word : List ℕ) (r : Released)
    → (released_of word ≡ Some r) ↔ IsReleased word r
released_of-exact word r = (released_found word r, released_only word r)

-- ---- END

end_found : (word : List ℕ) (e : StepEnd) → end_of_word word ≡ Some e → IsEnd word e
unfolding end_of_word
end_found word e h =
    elim (either (bytes_eq word (codes "goes")) ended.Goes _ e h) [
      | inl t ↦ subst (IsEnd word) t.1 (same_bytes word (codes "goes") t.0)
      | inr t ↦ elim (either (bytes_eq word (codes "exit")) ended.Exit _ e t.1) [
        | inl u ↦ subst (IsEnd word) u.1 (same_bytes word (codes "exit") u.0)
        | inr u ↦
            let m = option_map_some ended.Call (named_number_of (codes "call=") word) e u.1 in
            subst (IsEnd word) (same_Some (ended.Call m.0) e m.2)
            (named_number_found (codes "call=") word m.0 m.1)
      ]
    ]

end_only : (word : List ℕ) (e : StepEnd) → IsEnd word e → end_of_word word ≡ Some e
unfolding end_of_word
end_only word ended.Goes is = rw (bytes_eq-same word (codes "goes") is) refl
end_only word ended.Exit is = rw is refl
end_only word (ended.Call code) is =
    let no_goes : bytes_eq word (codes "goes") ≡ false = other_head 99 103 word _ _ is.1 refl in
    let no_exit : bytes_eq word (codes "exit") ≡ false = other_head 99 101 word _ _ is.1 refl in
    rw (no_goes, no_exit, named_number_only (codes "call=") word code is) refl

pub end_of-exact : (word : List ℕ) (e : StepEnd) → (end_of_word word ≡ Some e) ↔ IsEnd word e
end_of-exact word e = (end_found word e, end_only word e)

-- ---- steps

step_found : (words : List (List ℕ)) (step : Step) → step_of_words words ≡ Some step → IsStep words step
unfolding step_of_words
step_found [] step h = absurd (none-some step h)
step_found (pc ∷ []) step h = absurd (none-some step h)
step_found (pc ∷ npc ∷ []) step h = absurd (none-some step h)
step_found (pc ∷ npc ∷ w ∷ []) step h = absurd (none-some step h)
step_found (pc ∷ npc ∷ w ∷ s ∷ []) step h = absurd (none-some step h)
step_found (pc ∷ npc ∷ w ∷ s ∷ g ∷ []) step h = absurd (none-some step h)
step_found (pc ∷ npc ∷ w ∷ s ∷ g ∷ r ∷ []) step h = absurd (none-some step h)
step_found (pc ∷ npc ∷ w ∷ s ∷ g ∷ r ∷ e ∷ more ∷ rest) step h = absurd (none-some step h)
step_found (pc ∷ npc ∷ w ∷ s ∷ g ∷ r ∷ e ∷ []) step h =
    steps _ (hex8_of pc) step h (λ pc_n pc_is h.
    steps _ (hex8_of npc) step h (λ npc_n npc_is h.
    steps _ (writes_of w) step h (λ w_v w_is h.
    steps _ (stored_of s) step h (λ s_v s_is h.
    steps _ (received_word g) step h (λ g_v g_is h.
    steps _ (released_of r) step h (λ r_v r_is h.
    steps _ (end_of_word e) step h (λ e_v e_is h.
    subst (IsStep (pc ∷ npc ∷ w ∷ s ∷ g ∷ r ∷ e ∷ []))
    (same_Some record {
      pc = pc_n;
      npc = npc_n;
      writes = w_v;
      stored = s_v;
      received =
          g_v;
      released = r_v;
      end = e_v;
    } step h) (
      pc,
      npc,
      w,
      s,
      g,
      r,
      e,
      refl,
      (hex8_of-exact pc pc_n).0 pc_is,
      (hex8_of-exact npc npc_n).0 npc_is,
      writes_found w w_v w_is,
      stored_found s s_v s_is,
      received_found g g_v g_is,
      released_found r r_v r_is,
      end_found e e_v e_is,
    ))))))))

step_only : (words : List (List ℕ)) (step : Step) → IsStep words step → step_of_words words ≡ Some step
unfolding step_of_words
step_only words step (pc, npc, w, s, g, r, e, is, pc_is, npc_is, w_is, s_is, g_is, r_is, e_is) =
    ap step_of_words is ∙ (
    rw (
      (hex8_of-exact pc step.pc).1 pc_is,
      (hex8_of-exact npc step.npc).1 npc_is,
      writes_only w
          step.writes w_is,
      stored_only s step.stored s_is,
    ) (
    rw (
      received_only g step.received g_is,
      released_only r step.released r_is,
      end_only e step.end
          e_is,
    ) refl))

pub step_of-exact : (words : List (List ℕ)) (step : Step)
    → (step_of_words words ≡ Some step) ↔ IsStep words step
step_of-exact words step = (step_found words step, step_only words step)

-- ---- faults

fault_found : (word : List ℕ) (kind : OwnFault) → fault_of word ≡ Some kind → IsFault word kind
unfolding fault_of
fault_found word kind h =
    elim (either (bytes_eq word (codes "Reserved")) fault.Reserved _ kind h) [
      | inl t ↦ subst (IsFault word) t.1 (same_bytes word (codes "Reserved") t.0)
      | inr t ↦ elim (either (bytes_eq word (codes "Foreign")) fault.Foreign _ kind t.1) [
        | inl t ↦ subst (IsFault word) t.1 (same_bytes word (codes "Foreign") t.0)
        | inr t ↦ elim (either (bytes_eq word (codes "Overflow")) fault.Overflow _ kind t.1) [
          | inl t ↦ subst (IsFault word) t.1 (same_bytes word (codes "Overflow") t.0)
          | inr t ↦ elim (either (bytes_eq word (codes "Address")) fault.Address _ kind t.1) [
            | inl t ↦ subst (IsFault word) t.1 (same_bytes word (codes "Address") t.0)
            | inr t ↦ elim (either (bytes_eq word (codes "Break")) fault.Break None kind t.1) [
              | inl t ↦ subst (IsFault word) t.1 (same_bytes word (codes "Break") t.0)
              | inr t ↦ absurd (none-some kind t.1)
            ]
          ]
        ]
      ]
    ]

fault_only : (word : List ℕ) (kind : OwnFault) → IsFault word kind → fault_of word ≡ Some kind
unfolding fault_of
fault_only word fault.Reserved is = rw is refl
fault_only word fault.Foreign is = rw is refl
fault_only word fault.Overflow is = rw is refl
fault_only word fault.Address is = rw is refl
fault_only word fault.Break is = rw is refl

pub fault_of-exact : (word : List ℕ) (kind : OwnFault)
    → (fault_of word ≡ Some kind) ↔ IsFault word kind
fault_of-exact word kind = (fault_found word kind, fault_only word kind)
