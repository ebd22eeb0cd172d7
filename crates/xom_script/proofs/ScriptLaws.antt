-- The function of scripts has just the values of their grammar.
use Rattle.std.proofs.Common.{◌≡◌, ℕ, ◌^◌, ◌<◌, ◌≤◌, ◌&&◌, ltb, leb, inl, inr, List, [], ◌∷◌, Some, None, Result, Ok, Err, refl, sym, ap, subst, ◌∙◌, arith}
use Rattle.std.specs.Prelude.{◌↔◌, codes}
use Rattle.std.specs.Str.{bytes_eq}
use Rattle.std.proofs.lemmas.Bool.{and_parts, leb-true, le-leb, ltb-true, lt-ltb}
use Rattle.std.proofs.lemmas.Option.{none-some, option_and_then_some as steps, same_Some}
use Rattle.text_lines.specs.Lines.{AnswersRead, AnswersText, LineStep, Rows, Tells, lines_of, made_of, read_from, rows_step}
use Rattle.text_lines.specs.Numbers.{WritesBelow, number_below_of}
use Rattle.xom_base.specs.Results.{◌>>=◌}
use Rattle.text_lines.proofs.LineLaws.{Tells-rows, bad_from, only_bad, only_reads, reads_from, same_Err, same_Ok}
use Rattle.text_lines.proofs.NumberLaws.{number_below_of-exact, cond_then}
use Rattle.text_lines.proofs.TextLaws.{AnswersText-exact}
use Rattle.text_lines.specs.declared.lines.TextFault.{TextFault}
use Rattle.xom_base.specs.declared.event.Op.TheVariants as op
use Rattle.text_lines.proofs.ChoiceLaws.{cond-cases}
use Rattle.text_lines.proofs.ByteLaws.{same_bytes}
use Rattle.xom_script.specs.Fields.{Writes32, write_bytes_of}
use Rattle.xom_script.specs.ScriptLines.{IsScriptLine, kernel_write_line, no_word_line, one_word_line, rows_of_none, rows_of_one, rows_of_three, rows_of_two, script_line_of, three_word_line, two_word_line}
use Rattle.xom_script.specs.Scripts.{IsBadScript, IsScript, script_at, script_with}
use Rattle.xom_script.specs.declared.script.Script.{Script}
use Rattle.xom_script.specs.declared.script_line.ScriptLine.{ScriptLine}
use Rattle.xom_script.specs.declared.script_line.ScriptLine.TheVariants as line
use Rattle.xom_script.proofs.FieldLaws.{row_found, write_bytes_of-exact}

-- ---- lines, as they are read

-- what these words write is the line that was found
given : (words : List (List ℕ)) (found value : ScriptLine) → IsScriptLine words found
    → Some found ≡ Some value → IsScriptLine words value
given words found value is same = subst (IsScriptLine words) (same_Some found value same) is

number32 : (word : List ℕ) (n : ℕ) → number_below_of (2 ^ 32) word ≡ Some n → Writes32 word n
number32 word n h = (number_below_of-exact (2 ^ 32) word n).0 h

none_found : (name : List ℕ) (value : ScriptLine) → no_word_line name ≡ Some value
    → IsScriptLine (name ∷ []) value
unfolding no_word_line
none_found name value h =
    row_found (IsScriptLine (name ∷ []) value) name value rows_of_none h (
      λ is same. given (name ∷ []) (line.Do op.Halt) value (ap (λ name. name ∷ []) is) same,
      (λ is same. given (name ∷ []) line.Show value (ap (λ name. name ∷ []) is) same, tt),
    )

one_found : (name a : List ℕ) (value : ScriptLine) → one_word_line name a ≡ Some value
    → IsScriptLine (name ∷ a ∷ []) value
unfolding one_word_line
one_found name a value h =
    steps _ (number_below_of (2 ^ 32) a) value h (λ x read h.
    let w = number32 a x read in
    let words = name ∷ a ∷ [] in
    row_found (IsScriptLine words value) name value (rows_of_one x) h (
      λ is same. given words (line.Do (op.Enter x)) value (a, ap (λ name. name ∷ a ∷ []) is, w)
          same,
      (
        λ is same. given words (line.Do (op.Kill x)) value (a, ap (λ name. name ∷ a ∷ []) is, w)
            same,
        (
          λ is same.
              let t = cond_then (ltb x 256) (Some (line.Do (op.Out x))) value same in
              given words (line.Do (op.Out x)) value (
                a,
                ap (λ name. name ∷ a ∷ []) is,
                (w.0, ltb-true x 256 t.0),
              ) t.1,
          tt,
        ),
      ),
    ))

two_found : (name a b : List ℕ) (value : ScriptLine) → two_word_line name a b ≡ Some value
    → IsScriptLine (name ∷ a ∷ b ∷ []) value
unfolding two_word_line
two_found name a b value h =
    steps _ (number_below_of (2 ^ 32) a) value h (λ x read_x h.
    steps _ (number_below_of (2 ^ 32) b) value h (λ y read_y h.
    let w = number32 a x read_x in
    let v = number32 b y read_y in
    let words = name ∷ a ∷ b ∷ [] in
    row_found (IsScriptLine words value) name value (rows_of_two x y) h (
      λ is same. given words (line.Do (op.Resume x y)) value (
        a,
        b,
        ap (λ name. name ∷ a ∷ b ∷ [])
            is,
        w,
        v,
      ) same,
      (
        λ is same. given words (line.Do (op.Unmap x y)) value (
          a,
          b,
          ap (λ name. name ∷ a ∷ b ∷ [])
              is,
          w,
          v,
        ) same,
        (
          λ is same. given words (line.Do (op.SetReg x y)) value
              (a, b, ap (λ name. name ∷ a ∷ b ∷ []) is, w, v) same,
          (
            λ is same.
                let t = cond_then (ltb y 256) (Some (line.Flip x y)) value same in
                given words (line.Flip x y) value (
                  a,
                  b,
                  ap (λ name. name ∷ a ∷ b ∷ []) is,
                  w,
                  (v.0, ltb-true y 256 t.0),
                ) t.1,
            tt,
          ),
        ),
      ),
    )))

three_found : (name a b c : List ℕ) (value : ScriptLine) → three_word_line name a b c ≡ Some value
    → IsScriptLine (name ∷ a ∷ b ∷ c ∷ []) value
unfolding three_word_line
three_found name a b c value h =
    steps _ (number_below_of (2 ^ 32) a) value h (λ x read_x h.
    steps _ (number_below_of (2 ^ 32) b) value h (λ y read_y h.
    steps _ (number_below_of (2 ^ 32) c) value h (λ z read_z h.
    let w = number32 a x read_x in
    let v = number32 b y read_y in
    let u = number32 c z read_z in
    let words = name ∷ a ∷ b ∷ c ∷ [] in
    row_found (IsScriptLine words value) name value (rows_of_three x y z) h (
      λ is same. given words (line.Do (op.Install x y z)) value
          (a, b, c, ap (λ name. name ∷ a ∷ b ∷ c ∷ []) is, w, v, u) same,
      (
        λ is same. given words (line.Do (op.Save x y z)) value
            (a, b, c, ap (λ name. name ∷ a ∷ b ∷ c ∷ []) is, w, v, u) same,
        (
          λ is same. given words (line.Do (op.Restore x y z)) value
              (a, b, c, ap (λ name. name ∷ a ∷ b ∷ c ∷ []) is, w, v, u) same,
          (
            λ is same. given words (line.Do (op.Map x y z)) value
                (a, b, c, ap (λ name. name ∷ a ∷ b ∷ c ∷ []) is, w, v, u) same,
            (
              λ is same.
                  let t = cond_then (leb 1 z && leb z 8192) (Some (line.Copy x y z)) value same in
                  let range = and_parts (leb 1 z) (leb z 8192) t.0 in
                  let most : z ≤ 8192 = leb-true z 8192 range.1 in
                  given words (line.Copy x y z) value (
                    a,
                    b,
                    c,
                    ap (λ name. name ∷ a ∷ b ∷ c ∷ [])
                        is,
                    w,
                    v,
                    (u.0, omega arith),
                    leb-true 1 z range.0,
                  ) t.1,
              tt,
            ),
          ),
        ),
      ),
    ))))

write_found : (a h : List ℕ) (value : ScriptLine) → kernel_write_line a h ≡ Some value
    → IsScriptLine (codes "write" ∷ a ∷ h ∷ []) value
unfolding kernel_write_line
write_found a h value is =
    steps _ (number_below_of (2 ^ 32) a) value is (λ address read_a is.
    steps _ (write_bytes_of h) value is (λ bytes read_h same.
    given (codes "write" ∷ a ∷ h ∷ []) (line.Write address bytes) value
    (a, h, refl, number32 a address read_a, (write_bytes_of-exact h bytes).0 read_h) same))

line_found : (words : List (List ℕ)) (value : ScriptLine) → script_line_of words ≡ Some value
    → IsScriptLine words value
unfolding script_line_of
line_found [] value h = absurd (none-some value h)
line_found (name ∷ []) value h = none_found name value h
line_found (name ∷ a ∷ []) value h = one_found name a value h
line_found (name ∷ a ∷ b ∷ []) value h =
    elim (cond-cases (bytes_eq name (codes "write")) (kernel_write_line a b) (two_word_line name a b) (Some value) h) [
      | inl t ↦
          subst (λ name. IsScriptLine (name ∷ a ∷ b ∷ []) value)
          (sym (same_bytes name (codes "write") t.0)) (write_found a b value t.1)
      | inr t ↦ two_found name a b value t.1
    ]
line_found (name ∷ a ∷ b ∷ c ∷ []) value h = three_found name a b c value h
line_found (name ∷ a ∷ b ∷ c ∷ d ∷ words) value h = absurd (none-some value h)

-- ---- lines, as they are written

read32 : (word : List ℕ) (n : ℕ) → Writes32 word n → number_below_of (2 ^ 32) word ≡ Some n
read32 word n w = (number_below_of-exact (2 ^ 32) word n).1 w

-- a number below a smaller bound
read_small : (bound : ℕ) (word : List ℕ) (n : ℕ) → bound ≤ 2 ^ 32 → WritesBelow bound word n
    → number_below_of (2 ^ 32) word ≡ Some n
read_small bound word n small w = let below : n < bound = w.1 in read32 word n (w.0, omega arith)

line_only : (words : List (List ℕ)) (value : ScriptLine) → IsScriptLine words value
    → script_line_of words ≡ Some value
unfolding script_line_of no_word_line one_word_line two_word_line three_word_line kernel_write_line
line_only words (line.Do (op.Install slot envelope area)) w =
    rw w.3 (rw (read32 w.0 slot w.4, read32 w.1 envelope w.5, read32 w.2 area w.6) refl)
line_only words (line.Do (op.Enter slot)) w = rw w.1 (rw (read32 w.0 slot w.2) refl)
line_only words (line.Do (op.Resume slot signal)) w =
    rw w.2 (rw (read32 w.0 slot w.3, read32 w.1 signal w.4) refl)
line_only words (line.Do (op.Save slot reg address)) w =
    rw w.3 (rw (read32 w.0 slot w.4, read32 w.1 reg w.5, read32 w.2 address w.6) refl)
line_only words (line.Do (op.Restore slot reg address)) w =
    rw w.3 (rw (read32 w.0 slot w.4, read32 w.1 reg w.5, read32 w.2 address w.6) refl)
line_only words (line.Do (op.Map slot page frame)) w =
    rw w.3 (rw (read32 w.0 slot w.4, read32 w.1 page w.5, read32 w.2 frame w.6) refl)
line_only words (line.Do (op.Unmap slot page)) w =
    rw w.2 (rw (read32 w.0 slot w.3, read32 w.1 page w.4) refl)
line_only words (line.Do (op.SetReg reg value)) w =
    rw w.2 (rw (read32 w.0 reg w.3, read32 w.1 value w.4) refl)
line_only words (line.Do (op.Kill slot)) w = rw w.1 (rw (read32 w.0 slot w.2) refl)
line_only words (line.Do (op.Out byte)) w =
    rw w.1 (rw (read_small 256 w.0 byte (omega arith) w.2, lt-ltb byte 256 w.2.1) refl)
line_only words (line.Do op.Halt) w = rw w refl
line_only words (line.Write address bytes) w =
    rw w.2 (rw (read32 w.0 address w.3, (write_bytes_of-exact w.1 bytes).1 w.4) refl)
line_only words (line.Copy from to count) w =
    let small : count < 8193 = w.6.1 in
    rw w.3 (rw (
      read32 w.0 from w.4,
      read32 w.1 to w.5,
      read_small 8193 w.2 count (omega arith) w.6,
      le-leb 1 count w.7,
      le-leb count 8192 (omega arith),
    ) refl)
line_only words (line.Flip address mask) w =
    rw w.2 (rw (
      read32 w.0 address w.3,
      read_small 256 w.1 mask (omega arith) w.4,
      lt-ltb mask 256
          w.4.1,
    ) refl)
line_only words line.Show w = rw w refl

pub script_line_of-exact : (words : List (List ℕ)) (value : ScriptLine)
    → (script_line_of words ≡ Some value) ↔ IsScriptLine words value
script_line_of-exact words value = (line_found words value, line_only words value)

no_words : script_line_of [] ≡ None
unfolding script_line_of
no_words = refl

-- ---- the whole

-- the lines of a script, one by one
abbrev script_step : LineStep (Unit {0}) ScriptLine
script_step = rows_step script_line_of

tells : Tells script_step (Rows IsScriptLine)
tells = Tells-rows script_line_of IsScriptLine script_line_of-exact no_words

-- the script that is made of what lines gave
abbrev made : Result (List ScriptLine × Unit {0}) ℕ → Result Script ℕ
made read = made_of (λ lines last. lines) read >>= (λ lines. Ok (script_with lines))

-- the function has a script exactly where the text is this script
pub script_at-exact : (text : List ℕ) (script : Script)
    → (script_at text ≡ Ok script) ↔ IsScript text script
unfolding script_at
script_at-exact text script = (
  λ h. found (read_from script_step tt 1 (lines_of text)) refl h,
  λ h. rw (only_reads script_step (Rows IsScriptLine) tells tt 1 (lines_of text) script.lines tt h)
      refl,
)
  where
    found : (read : Result (List ScriptLine × Unit {0}) ℕ)
        → read_from script_step tt 1 (lines_of text) ≡ read → made read ≡ Ok script
        → IsScript text script
    found (Ok read) is h =
        rw (sym (same_Ok (script_with read.0) script h)) (reads_from script_step (Rows IsScriptLine)
        tells tt 1 (lines_of text) read.0 read.1 is)
    found (Err bad) is h = absurd cc

-- and a line exactly where it is the first bad one
pub script_at-bad : (text : List ℕ) (bad : ℕ) → (script_at text ≡ Err bad) ↔ IsBadScript text bad
unfolding script_at
script_at-bad text bad = (
  λ h. found (read_from script_step tt 1 (lines_of text)) refl h,
  λ h. rw (only_bad script_step (Rows IsScriptLine) tells tt 1 (lines_of text) bad h) refl,
)
  where
    found : (read : Result (List ScriptLine × Unit {0}) ℕ)
        → read_from script_step tt 1 (lines_of text) ≡ read → made read ≡ Err bad
        → IsBadScript text bad
    found (Ok read) is h = absurd cc
    found (Err other) is h =
        bad_from script_step (Rows IsScriptLine) tells tt 1 (lines_of text) bad
        (is ∙ ap Err (same_Err other bad h))

pub script_answers : (text : List ℕ) (r : Result Script TextFault) → AnswersRead (script_at text) r
    → AnswersText (IsScript text) (IsBadScript text) r
script_answers text =
    AnswersText-exact (script_at text) (IsScript text) (IsBadScript text) (script_at-exact text)
    (λ bad. (script_at-bad text bad).0)
