-- The words of a line are its first word and those behind it.
use Rattle.std.proofs.Common.{◌≡◌, ◌≤◌, inl, inr, ℕ, ◌==◌, Bool, true, false, not, List, [], ◌∷◌, length, take, drop, filter, refl, sym, ◌∙◌, ap, arith, zero, suc, ltb}
use Rattle.std.specs.Prelude.{Some, None, if◌then◌else◌}
use Rattle.std.proofs.lemmas.Option.{cond_some}
use Rattle.std.proofs.lemmas.List.Sums.{prefix_len-le-length}
use Rattle.std.specs.List.{position, position_or_len, before_first, slice_split, onto_first}
use Rattle.std.proofs.lemmas.Bool.{cases_Bool, eqb-true, eq-eqb}
use Rattle.text_lines.specs.Words.{after_word, begins_comment, ends_word, has_bytes, is_blank, next_of, past_blanks, word_in_front, word_len, words_of}

-- the words that stand before a comment
abbrev parts : List ℕ → List (List ℕ)
parts line = slice_split is_blank (before_first begins_comment line)

-- the first place that passes, and how many stand before it
pub place_some : (p : ℕ → Bool) (xs : List ℕ) (i : ℕ) → position p xs ≡ Some i
    → i ≡ position_or_len p xs
place_some p xs i is =
    sym (cond_some (ltb (position_or_len p xs) (length xs)) (position_or_len p xs) i is).1

pub place_none : (p : ℕ → Bool) (xs : List ℕ) → position p xs ≡ None
    → length xs ≡ position_or_len p xs
place_none p xs none = Prim.grind (arith, prefix_len-le-length (λ x. not (p x)) xs)

pub word_fits : (line : List ℕ) → word_len line ≤ length line
word_fits line = prefix_len-le-length (λ x. not (ends_word x)) line

comment_blank : (b : ℕ) → is_blank b ≡ true → begins_comment b ≡ false
comment_blank b blank = Prim.grind (arith)

-- a blank in front changes no word
words_blank : (b : ℕ) (line : List ℕ) → is_blank b ≡ true → words_of (b ∷ line) ≡ words_of line
words_blank b line blank = Prim.grind (arith, comment_blank b blank)

past_more : (b : ℕ) (line : List ℕ) → is_blank b ≡ true → past_blanks (b ∷ line) ≡ past_blanks line
past_more b line blank = Prim.grind (arith)

past_none : (b : ℕ) (line : List ℕ) → is_blank b ≡ false → past_blanks (b ∷ line) ≡ b ∷ line
past_none b line other = Prim.grind (arith)

words_past : (line : List ℕ) → words_of line ≡ words_of (past_blanks line)
words_past [] = refl
words_past (b ∷ line) =
    elim (cases_Bool (is_blank b)) [
      | inl blank ↦ words_blank b line blank ∙ words_past line
          ∙ ap words_of (sym (past_more b line blank))
      | inr other ↦ ap words_of (sym (past_none b line other))
    ]

-- the parts before a comment: the word at the front, and others, whose words are those of what
-- stands behind it
record Fronts (line : List ℕ) : Type 0 where
  others : List (List ℕ)
  cut : parts line ≡ take (word_len line) line ∷ others
  behind : filter has_bytes others ≡ words_of (drop (word_len line) line)

ends_now : (b : ℕ) (line : List ℕ) → ends_word b ≡ true → word_len (b ∷ line) ≡ 0
ends_now b line ends = Prim.grind (arith)

goes_on : (b : ℕ) (line : List ℕ) → ends_word b ≡ false → word_len (b ∷ line) ≡ suc (word_len line)
goes_on b line on = Prim.grind (arith)

parts_comment : (b : ℕ) (line : List ℕ) → begins_comment b ≡ true → parts (b ∷ line) ≡ [] ∷ []
parts_comment b line begins = Prim.grind (arith)

parts_blank : (b : ℕ) (line : List ℕ) → is_blank b ≡ true → parts (b ∷ line) ≡ [] ∷ parts line
parts_blank b line blank = Prim.grind (arith, comment_blank b blank)

parts_other : (b : ℕ) (line : List ℕ) → ends_word b ≡ false
    → parts (b ∷ line) ≡ onto_first b (parts line)
parts_other b line on = Prim.grind (arith)

ends_comment : (b : ℕ) → begins_comment b ≡ true → ends_word b ≡ true
ends_comment b begins = Prim.grind (arith)

ends_blank : (b : ℕ) → is_blank b ≡ true → ends_word b ≡ true
ends_blank b blank = Prim.grind (arith)

neither : (b : ℕ) → begins_comment b ≡ false → is_blank b ≡ false → ends_word b ≡ false
neither b begins blank = Prim.grind (arith)

words_comment : (b : ℕ) (line : List ℕ) → begins_comment b ≡ true → words_of (b ∷ line) ≡ []
words_comment b line begins = ap (filter has_bytes) (parts_comment b line begins)

-- a record at another length
fronts_at : (line : List ℕ) (k : ℕ) (others : List (List ℕ)) → word_len line ≡ k
    → parts line ≡ take k line ∷ others → filter has_bytes others ≡ words_of (drop k line)
    → Fronts line
fronts_at line k others long cut behind = record {
  others = others;
  cut = cut ∙ ap (λ n. take n line ∷ others) (sym long);
  behind = behind ∙ ap (λ n. words_of (drop n line)) (sym long);
}

fronts : (line : List ℕ) → Fronts line
fronts [] = record { others = []; cut = refl; behind = refl }
fronts (b ∷ line) =
    elim (cases_Bool (begins_comment b)) [
      | inl begins ↦ fronts_at (b ∷ line) 0 [] (ends_now b line (ends_comment b begins))
          (parts_comment b line begins) (sym (words_comment b line begins))
      | inr no_comment ↦ elim (cases_Bool (is_blank b)) [
        | inl blank ↦ fronts_at (b ∷ line) 0 (parts line) (ends_now b line (ends_blank b blank))
            (parts_blank b line blank) (sym (words_blank b line blank))
        | inr no_blank ↦
            let on = neither b no_comment no_blank in
            let more = fronts line in
            fronts_at (b ∷ line) (suc (word_len line)) more.others (goes_on b line on)
            (parts_other b line on ∙ ap (onto_first b) more.cut) more.behind
      ]
    ]

-- where no word stands behind the blanks, there is none
words_none : (line : List ℕ) → word_len (past_blanks line) ≡ 0 → words_of (past_blanks line) ≡ []
words_none [] none = refl
words_none (b ∷ line) none =
    elim (cases_Bool (is_blank b)) [
      | inl blank ↦ ap words_of (past_more b line blank) ∙ words_none line
          (ap word_len (sym (past_more b line blank)) ∙ none)
      | inr other ↦ elim (cases_Bool (begins_comment b)) [
        | inl begins ↦ ap words_of (past_none b line other) ∙ words_comment b line begins
        | inr no_comment ↦ absurd (let long : suc (word_len line) ≡ 0 =
            sym (goes_on b line (neither b no_comment other))
            ∙ ap word_len (sym (past_none b line other)) ∙ none in omega arith)
      ]
    ]

kept_word : (k : ℕ) (line : List ℕ) (others : List (List ℕ)) → (k ≡ 0 → ⊥) → k ≤ length line
    → filter has_bytes (take k line ∷ others) ≡ take k line ∷ filter has_bytes others
kept_word zero line others some few = absurd (some refl)
kept_word (suc k) [] others some few = absurd (omega arith)
kept_word (suc k) (b ∷ line) others some few = Prim.grind (arith)

-- the words by the first of them
words_at : (line : List ℕ) → (word_len line ≡ 0 → words_of line ≡ [])
    → words_of line ≡ after_word (word_in_front line)
words_at line none =
    elim (cases_Bool (word_len line == 0)) [
      | inl zeroes ↦ none (eqb-true (word_len line) 0 zeroes)
          ∙ ap after_word (sym (ap (λ b. if b then None
          else Some (take (word_len line) line, drop (word_len line) line)) zeroes))
      | inr some ↦
          ap (filter has_bytes) (fronts line).cut
          ∙ kept_word (word_len line) line (fronts line).others
          (λ is. let t : (word_len line == 0) ≡ true = eq-eqb (word_len line) 0 is in
          let f : false ≡ true = sym some ∙ t in cc) (word_fits line)
          ∙ ap (λ ws. take (word_len line) line ∷ ws) (fronts line).behind
          ∙ ap after_word (sym (ap (λ b. if b then None
          else Some (take (word_len line) line, drop (word_len line) line)) some))
    ]

pub words_next : (line : List ℕ) → words_of line ≡ after_word (next_of line)
words_next line = words_past line ∙ words_at (past_blanks line) (words_none line)
