-- What lines give, one after another.
use Rattle.std.proofs.Common.{◌≡◌, ℕ, suc, ◌+◌, List, [], ◌∷◌, ◌++◌, length, Option, Some, None, Result, Ok, Err, refl, sym, ap, ◌∙◌, append_assoc, add-zero, arith}
use Rattle.std.proofs.lemmas.List.{append-nil}
use Rattle.std.proofs.lemmas.Option.{none-some, same_Some, some_pair_parts}
use Rattle.std.specs.Prelude.{◌↔◌, option_map}
use Rattle.std.specs.Option.{option_to_list}
use Rattle.text_lines.specs.Words.{words_of}
use Rattle.text_lines.proofs.CutLaws.{option_map_some}
use Rattle.text_lines.proofs.NumberLaws.{none_from_never}
use Rattle.text_lines.specs.Lines.{Format, IsFirstBad, LineStep, OfWords, Reads, Rows, Tells, go_on_behind_line, read_from, step_by_words, with_front, with_words}

module _ {S X : Type 0} (step : LineStep S X) where
  -- values in front of values
  pub with_front-append : (a b : List X) (read : Result (List X × S) ℕ)
      → with_front a (with_front b read) ≡ with_front (a ++ b) read
  with_front-append a b (Ok more) =
      ap (λ values. Ok (values, more.1)) (sym (append_assoc a b more.0))
  with_front-append a b (Err bad) = refl

  -- nothing is left
  pub read_from-none : (values : List X) (s : S) (n : ℕ)
      → with_front values (read_from step s n []) ≡ Ok (values, s)
  unfolding read_from
  read_from-none values s n = ap (λ values. Ok (values, s)) (append-nil values)

  -- the next line is bad
  pub read_from-bad : (values : List X) (s : S) (n : ℕ) (line : List ℕ) (lines : List (List ℕ))
      → step s n line ≡ None
      → with_front values (read_from step s n (line ∷ lines)) ≡ Err n
  unfolding read_from
  read_from-bad values s n line lines h = rw h refl

  -- the next line is read
  pub read_from-one : (values : List X) (s next : S) (n : ℕ) (value : Option X) (line : List ℕ)
      (lines : List (List ℕ))
      → step s n line ≡ Some (value, next)
      → with_front values (read_from step s n (line ∷ lines)) ≡ with_front
      (values ++ option_to_list value) (read_from step next (n + 1) lines)
  unfolding read_from
  read_from-one values s next n value line lines h =
      rw h (with_front-append values (option_to_list value) (read_from step next (n + 1) lines))

-- equal answers have equal parts
pub same_Ok : {A E : Type 0} (x y : A) → ◌≡◌ {A = Result A E} (Ok x) (Ok y) → x ≡ y
same_Ok x y h = cc

pub same_Err : {A E : Type 0} (x y : E) → ◌≡◌ {A = Result A E} (Err x) (Err y) → x ≡ y
same_Err x y h = cc

ok_parts : {A B E : Type 0} (a x : A) (b y : B) → ◌≡◌ {A = Result (A × B) E} (Ok (a, b)) (Ok (x, y))
    → (a ≡ x) × (b ≡ y)
ok_parts {A} {B} {E} a x b y h =
    let e : ◌≡◌ {A = A × B} (a, b) (x, y) = same_Ok (a, b) (x, y) h in
    (ap (λ (p : A × B). p.0) e, ap (λ (p : A × B). p.1) e)

pub ok_err : {A E : Type 0} (x : A) (e : E) → ◌≡◌ {A = Result A E} (Ok x) (Err e) → ⊥
ok_err x e h = cc

-- what stands in front of values that are read
with_front_ok : {S X : Type 0} (front : List X) (read : Result (List X × S) ℕ) (values : List X)
    (last : S)
    → with_front front read ≡ Ok (values, last)
    → (more : List X) × (read ≡ Ok (more, last)) × (values ≡ front ++ more)
with_front_ok front (Ok read) values last h =
    let e = ok_parts (front ++ read.0) values read.1 last h in
    (read.0, ap (λ s. Ok (read.0, s)) e.1, sym e.0)
with_front_ok front (Err bad) values last h = absurd (ok_err (values, last) bad (sym h))

with_front_err : {S X : Type 0} (front : List X) (read : Result (List X × S) ℕ) (bad : ℕ)
    → with_front front read ≡ Err bad → read ≡ Err bad
with_front_err front (Ok read) bad h = absurd (ok_err (front ++ read.0, read.1) bad h)
with_front_err front (Err e) bad h = h

pub with_front-nil : {S X : Type 0} (read : Result (List X × S) ℕ) → with_front [] read ≡ read
with_front-nil (Ok read) = refl
with_front-nil (Err bad) = refl

-- the number of a line behind another one
place : (n k : ℕ) → n + 1 + k ≡ n + suc k
place n k = omega arith

-- the number behind lines, of which one is read
pub one_behind : (n : ℕ) (all : List (List ℕ)) (line : List ℕ) (lines : List (List ℕ))
    → all ≡ line ∷ lines → n + 1 + length lines ≡ n + length all
one_behind n all line lines is = rw is (place n (length lines))

module _ {S X : Type 0} (step : LineStep S X) (format : Format S X)
    (tells : Tells step format) where
  -- one line, and what is known of those behind it
  reads_one : (s : S) (n : ℕ) (line : List ℕ) (lines : List (List ℕ)) (values : List X) (last : S)
      → ((next : S) (more : List X) → read_from step next (n + 1) lines ≡ Ok (more, last)
      → Reads format next (n + 1) lines more last)
      → (read : Option (Option X × S)) → step s n line ≡ read
      → go_on_behind_line n read (λ next. read_from step next (n + 1) lines) ≡ Ok (values, last)
      → Reads format s n (line ∷ lines) values last
  reads_one s n line lines values last behind None is h = absurd (ok_err (values, last) n (sym h))
  reads_one s n line lines values last behind (Some read) is h =
      let more = with_front_ok (option_to_list read.0) (read_from step read.1 (n + 1) lines) values
      last h in (
        read.0,
        read.1,
        more.0,
        tells.reads s n line read.0 read.1 is,
        more.2,
        behind read.1 more.0
            more.1,
      )

  -- what is read is in the format
  pub reads_from : (s : S) (n : ℕ) (lines : List (List ℕ)) (values : List X) (last : S)
      → read_from step s n lines ≡ Ok (values, last) → Reads format s n lines values last
  unfolding read_from
  reads_from s n [] values last h =
      let e = ok_parts [] values s last h in
      (sym e.0, sym e.1)
  reads_from s n (line ∷ lines) values last h =
      reads_one s n line lines values last (λ next more. reads_from next (n + 1) lines more last)
      (step s n line) refl h

  -- what is in the format in front of other lines is read before them
  pub read_on : (s : S) (n : ℕ) (before lines : List (List ℕ)) (values : List X) (state : S)
      → Reads format s n before values state
      → read_from step s n (before ++ lines) ≡ with_front values
      (read_from step state (n + length before) lines)
  unfolding read_from
  read_on s n [] lines values state h =
      rw (h.0, h.1, add-zero n) (sym (with_front-nil (read_from step s n lines)))
  read_on s n (line ∷ before) lines values state h =
      rw (tells.only s n line h.0 h.1 h.3, h.4) (
      ap (with_front (option_to_list h.0)) (read_on h.1 (n + 1) before lines h.2 state h.5)
      ∙ rw (place n (length before)) (with_front-append step (option_to_list h.0) h.2
      (read_from step state (n + suc (length before)) lines))
      )

  -- what is in the format is read
  pub only_reads : (s : S) (n : ℕ) (lines : List (List ℕ)) (values : List X) (last : S)
      → Reads format s n lines values last → read_from step s n lines ≡ Ok (values, last)
  only_reads s n lines values last h =
      ap (read_from step s n) (sym (append-nil lines))
      ∙ read_on s n lines [] values last h
      ∙ read_from-none step values last (n + length lines)

  -- one line, and where the first bad one is of those behind it
  bad_one : (s : S) (n : ℕ) (line : List ℕ) (lines : List (List ℕ)) (bad : ℕ)
      → ((next : S) → read_from step next (n + 1) lines ≡ Err bad → IsFirstBad format next (n + 1)
      lines bad)
      → (read : Option (Option X × S)) → step s n line ≡ read
      → go_on_behind_line n read (λ next. read_from step next (n + 1) lines) ≡ Err bad
      → IsFirstBad format s n (line ∷ lines) bad
  bad_one s n line lines bad behind None is h = record {
    before = [];
    line = line;
    after = lines;
    values = [];
    state = s;
    whole = refl;
    number = sym (same_Err n bad h) ∙ sym (add-zero n);
    reads = (refl, refl);
    has_none = λ value next fits. none-some (value, next) (sym is ∙ rw (sym (same_Err n bad h)) at
        (tells.only s bad line value next fits));
  }
  bad_one s n line lines bad behind (Some read) is h =
      let first = behind read.1 (with_front_err (option_to_list read.0)
      (read_from step read.1 (n + 1) lines) bad h) in
      record {
        before = line ∷ first.before;
        line = first.line;
        after = first.after;
        values = option_to_list read.0 ++ first.values;
        state = first.state;
        whole = ap (λ more. line ∷ more) first.whole;
        number = first.number ∙ place n (length first.before);
        reads = (
          read.0,
          read.1,
          first.values,
          tells.reads s n line read.0 read.1 is,
          refl,
          first.reads,
        );
        has_none = first.has_none;
      }

  -- the line that is answered is the first bad one
  pub bad_from : (s : S) (n : ℕ) (lines : List (List ℕ)) (bad : ℕ)
      → read_from step s n lines ≡ Err bad → IsFirstBad format s n lines bad
  unfolding read_from
  bad_from s n [] bad h = absurd (ok_err ([], s) bad h)
  bad_from s n (line ∷ lines) bad h =
      bad_one s n line lines bad (λ next. bad_from next (n + 1) lines bad) (step s n line) refl h

  -- the first bad line is the one that is answered
  pub only_bad : (s : S) (n : ℕ) (lines : List (List ℕ)) (bad : ℕ) → IsFirstBad format s n lines bad
      → read_from step s n lines ≡ Err bad
  only_bad s n lines bad first =
      let none = none_from_never (step first.state bad first.line)
      (λ read is. first.has_none read.0 read.1 (tells.reads first.state bad first.line read.0 read.1
      is)) in
      ap (read_from step s n) first.whole
      ∙ read_on s n first.before (first.line ∷ first.after) first.values first.state first.reads
      ∙ rw (sym first.number) (read_from-bad step first.values first.state bad first.line
      first.after none)

  -- there is one first bad line at most
  pub one_first_bad : (s : S) (n : ℕ) (lines : List (List ℕ)) (a b : ℕ)
      → IsFirstBad format s n lines a → IsFirstBad format s n lines b → a ≡ b
  one_first_bad s n lines a b x y =
      same_Err a b (sym (only_bad s n lines a x) ∙ only_bad s n lines b y)

-- ---- formats that are told by words

module _ {S X : Type 0} (make : S → ℕ → List (List ℕ) → Option (X × S)) (row : S → ℕ → List (List ℕ)
    → X → S → Type 0) where
  -- the words of a line that has some are read as the row says
  pub record TellsWords : Type 0 where
    pub reads : (s : S) (n : ℕ) (words : List (List ℕ)) (value : X) (next : S)
        → make s n words ≡ Some (value, next) → row s n words value next
    pub only : (s : S) (n : ℕ) (words : List (List ℕ)) (value : X) (next : S)
        → row s n words value next → make s n words ≡ Some (value, next)
    pub some : (s : S) (n : ℕ) → make s n [] ≡ None

module _ {S X : Type 0} (make : S → ℕ → List (List ℕ) → Option (X × S)) (row : S → ℕ → List (List ℕ)
    → X → S → Type 0) (tells : TellsWords make row) where
  with_none : (s next : S) (n : ℕ) (words : List (List ℕ))
      → with_words make s n words ≡ Some (None, next) → (words ≡ []) × (next ≡ s)
  with_none s next n [] h = (refl, sym (some_pair_parts None None s next h).1)
  with_none s next n (word ∷ words) h =
      let m = option_map_some (λ (read : X × S). (Some read.0, read.1)) (make s n (word ∷ words))
      (None, next) h in
      absurd (none-some m.0.0 (sym (some_pair_parts (Some m.0.0) None m.0.1 next m.2).0))

  with_some : (s next : S) (n : ℕ) (words : List (List ℕ)) (value : X)
      → with_words make s n words ≡ Some (Some value, next) → row s n words value next
  with_some s next n [] value h =
      absurd (none-some value (some_pair_parts None (Some value) s next h).0)
  with_some s next n (word ∷ words) value h =
      let m = option_map_some (λ (read : X × S). (Some read.0, read.1)) (make s n (word ∷ words))
      (Some value, next) h in
      let e = some_pair_parts (Some m.0.0) (Some value) m.0.1 next m.2 in
      let same : m.0.0 ≡ value = same_Some m.0.0 value e.0 in
      tells.reads s n (word ∷ words) value next (m.1 ∙ ap (λ (x : X). Some (x, m.0.1)) same
      ∙ ap (λ (t : S). Some (value, t)) e.1)

  from_some : (s next : S) (n : ℕ) (words : List (List ℕ)) (value : X)
      → make s n words ≡ Some (value, next) → with_words make s n words ≡ Some (Some value, next)
  from_some s next n [] value h = absurd (none-some (value, next) (sym (tells.some s n) ∙ h))
  from_some s next n (word ∷ words) value h = rw h refl

  pub Tells-words : Tells (step_by_words make) (OfWords row)
  Tells-words = record {
    reads = λ s n line value next h. reads_words s n line value next h;
    only = λ s n line value next h. only_words s n line value next h;
  }
    where
      reads_words : (s : S) (n : ℕ) (line : List ℕ) (value : Option X) (next : S)
          → step_by_words make s n line ≡ Some (value, next) → OfWords row s n line value next
      reads_words s n line None next h = with_none s next n (words_of line) h
      reads_words s n line (Some value) next h = with_some s next n (words_of line) value h

      only_words : (s : S) (n : ℕ) (line : List ℕ) (value : Option X) (next : S)
          → OfWords row s n line value next → step_by_words make s n line ≡ Some (value, next)
      only_words s n line None next h = rw (h.0, h.1) refl
      only_words s n line (Some value) next h =
          from_some s next n (words_of line) value (tells.only s n (words_of line) value next h)

-- the same for a format where what stands in a line says its value, wherever it stands
module _ {X : Type 0} (make : List (List ℕ) → Option X) (row : List (List ℕ) → X → Type 0)
    (exact : (words : List (List ℕ)) (value : X) → (make words ≡ Some value) ↔ row words value)
    (some : make [] ≡ None) where
  pub Tells-rows : Tells (step_by_words (λ (s : Unit {0}) n words. option_map (λ x. (x, s)) (make words)))
      (Rows row)
  Tells-rows = Tells-words (λ (s : Unit {0}) n words. option_map (λ x. (x, s)) (make words))
      (λ s n words value next. row words value) record {
        reads = λ s n words value next h.
            let m = option_map_some (λ (x : X). (x, s)) (make words) (value, next) h in
            (exact words value).0
            (m.1 ∙ ap (λ (x : X). Some x) (some_pair_parts m.0 value s next m.2).0);
        only = λ s n words value next h. rw ((exact words value).1 h) refl;
        some = λ s n. rw some refl;
      }
