-- Words with one space between each two are the words of their line.
use Rattle.std.proofs.Common.{◌≡◌, ℕ, ◌<◌, ◌||◌, Bool, false, eqb, List, [], ◌∷◌, ◌++◌, length, refl, sym, ap, ◌∙◌, append_assoc, arith}
use Rattle.std.specs.Prelude.{filter}
use Rattle.std.specs.List.{AllByRecursion, before_first, join_with_byte, list_any, onto_first, slice_split}
use Rattle.std.proofs.lemmas.Bool.{or_from, or_parts}
use Rattle.std.proofs.lemmas.List.{length-append}
use Rattle.std.proofs.lemmas.List.Folds.{list_any-append}
use Rattle.text_lines.specs.Words.{begins_comment, ends_word, has_bytes, is_blank, words_of}

-- ---- words

-- the byte ends a word or a line
abbrev pub ends : ℕ → Bool
ends byte = ends_word byte || eqb byte 10

-- no byte ends a word or a line
abbrev pub IsPlain : List ℕ → Type 0
IsPlain text = list_any ends text ≡ false

-- at least one byte, and none that ends it
abbrev pub IsWord : List ℕ → Type 0
IsWord word = (0 < length word) × IsPlain word

pub plain-append : (a b : List ℕ) → IsPlain a → IsPlain b → IsPlain (a ++ b)
plain-append a b p q = list_any-append ends a b ∙ or_from (list_any ends a) (list_any ends b) p q

pub word-append : (a b : List ℕ) → IsWord a → IsWord b → IsWord (a ++ b)
word-append a b p q = (omega (arith, length-append a b, p.0), plain-append a b p.1 q.1)

-- ---- lines

-- what stands between blanks, before a comment
abbrev parts : List ℕ → List (List ℕ)
parts line = slice_split is_blank (before_first begins_comment line)

parts-space : (line : List ℕ) → parts (32 ∷ line) ≡ [] ∷ parts line
parts-space line = Prim.grind (arith)

parts-byte : (byte : ℕ) (line : List ℕ) → ends_word byte ≡ false
    → parts (byte ∷ line) ≡ onto_first byte (parts line)
parts-byte byte line on = Prim.grind (arith)

-- a word in front of a space
parts-front : (word line : List ℕ) → IsPlain word → parts (word ++ (32 ∷ line)) ≡ word ∷ parts line
parts-front [] line plain = parts-space line
parts-front (byte ∷ word) line plain =
    let both = or_parts (ends byte) (list_any ends word) plain in
    parts-byte byte (word ++ (32 ∷ line)) (or_parts (ends_word byte) (eqb byte 10) both.0).0
    ∙ ap (onto_first byte) (parts-front word line both.1)

-- the last word
parts-last : (word : List ℕ) → IsPlain word → parts word ≡ word ∷ []
parts-last [] plain = refl
parts-last (byte ∷ word) plain =
    let both = or_parts (ends byte) (list_any ends word) plain in
    parts-byte byte word (or_parts (ends_word byte) (eqb byte 10) both.0).0
    ∙ ap (onto_first byte) (parts-last word both.1)

parts-join : (word : List ℕ) (words : List (List ℕ)) → AllByRecursion IsWord (word ∷ words)
    → parts (join_with_byte 32 (word ∷ words)) ≡ word ∷ words
parts-join word [] each = parts-last word each.0.1
parts-join word (next ∷ words) each =
    parts-front word (join_with_byte 32 (next ∷ words)) each.0.1
    ∙ ap (λ (rest : List (List ℕ)). word ∷ rest) (parts-join next words each.1)

-- a part with a byte is a word
filter-cons : (byte : ℕ) (word : List ℕ) (words : List (List ℕ))
    → filter has_bytes ((byte ∷ word) ∷ words) ≡ (byte ∷ word) ∷ filter has_bytes words
filter-cons byte word words = Prim.grind (arith)

filter-words : (words : List (List ℕ)) → AllByRecursion IsWord words
    → filter has_bytes words ≡ words
filter-words [] each = refl
filter-words ([] ∷ words) each = absurd (omega (arith, each.0.0))
filter-words ((byte ∷ word) ∷ words) each =
    filter-cons byte word words
    ∙ ap (λ (rest : List (List ℕ)). (byte ∷ word) ∷ rest) (filter-words words each.1)

words_of-join : (words : List (List ℕ)) → AllByRecursion IsWord words
    → words_of (join_with_byte 32 words) ≡ words
words_of-join [] each = refl
words_of-join (word ∷ words) each =
    ap (filter has_bytes) (parts-join word words each) ∙ filter-words (word ∷ words) each

-- no byte ends the line
abbrev pub IsOneLine : List ℕ → Type 0
IsOneLine text = AllByRecursion (λ byte. eqb byte 10 ≡ false) text

one_line-append : (a b : List ℕ) → IsOneLine a → IsOneLine b → IsOneLine (a ++ b)
one_line-append [] b one more = more
one_line-append (byte ∷ a) b one more = (one.0, one_line-append a b one.1 more)

one_line-word : (word : List ℕ) → IsPlain word → IsOneLine word
one_line-word [] plain = tt
one_line-word (byte ∷ word) plain =
    let both = or_parts (ends byte) (list_any ends word) plain in
    ((or_parts (ends_word byte) (eqb byte 10) both.0).1, one_line-word word both.1)

one_line-join : (words : List (List ℕ)) → AllByRecursion IsWord words
    → IsOneLine (join_with_byte 32 words)
one_line-join [] each = tt
one_line-join (word ∷ []) each = one_line-word word each.0.1
one_line-join (word ∷ next ∷ words) each =
    one_line-append word (32 ∷ join_with_byte 32 (next ∷ words)) (one_line-word word each.0.1)
    (refl, one_line-join (next ∷ words) each.1)

-- ---- texts of words

-- the text is these words, of which there is one at least, with one space between each two
pub record IsLine (text : List ℕ) (words : List (List ℕ)) : Type 0 where
  pub some : 0 < length words
  pub joined : text ≡ join_with_byte 32 words
  pub each : AllByRecursion IsWord words

pub words_of-line : (text : List ℕ) (words : List (List ℕ)) → IsLine text words
    → words_of text ≡ words
words_of-line text words is = ap words_of is.joined ∙ words_of-join words is.each

pub one_line : (text : List ℕ) (words : List (List ℕ)) → IsLine text words → IsOneLine text
one_line text words is = rw is.joined (one_line-join words is.each)

join-append : (words more : List (List ℕ)) → 0 < length words → 0 < length more
    → join_with_byte 32 (words ++ more) ≡ join_with_byte 32 words ++ (32 ∷ join_with_byte 32 more)
join-append [] more some others = absurd (omega (arith, some))
join-append (word ∷ words) [] some others = absurd (omega (arith, others))
join-append (word ∷ []) (next ∷ more) some others = refl
join-append (word ∷ second ∷ words) (next ∷ more) some others =
    let behind = join_with_byte 32 (second ∷ words) in
    ap (λ (rest : List ℕ). word ++ (32 ∷ rest))
    (join-append (second ∷ words) (next ∷ more) (omega arith) others)
    ∙ sym (append_assoc word (32 ∷ behind) (32 ∷ join_with_byte 32 (next ∷ more)))

each-append : (words more : List (List ℕ)) → AllByRecursion IsWord words
    → AllByRecursion IsWord more
    → AllByRecursion IsWord (words ++ more)
each-append [] more each others = others
each-append (word ∷ words) more each others = (each.0, each-append words more each.1 others)

-- words behind a space
pub line-append : (a b : List ℕ) (words more : List (List ℕ)) → IsLine a words → IsLine b more
    → IsLine (a ++ (32 ∷ b)) (words ++ more)
line-append a b words more p q = record {
  some = omega (arith, length-append words more, p.some);
  joined = rw (p.joined, q.joined) (sym (join-append words more p.some q.some));
  each = each-append words more p.each q.each;
}

-- a name, and a word behind it
pub line-two : (name word : List ℕ) → IsWord name → IsWord word
    → IsLine (name ++ (32 ∷ word)) (name ∷ word ∷ [])
line-two name word p q = record { some = omega arith; joined = refl; each = (p, (q, tt)) }
