-- What one turn of each loop adds: a word of the key schedule, a round of the cipher.
use Rattle.std.proofs.Common.{◌≡◌, ℕ, zero, suc, ◌<◌, ◌≤◌, ◌-◌, ◌+◌, List, [], ◌∷◌, ◌++◌, length, take, set, get_or, refl, sym, ◌∙◌, add-one, ap, arith, lit<, map}
use Rattle.std.proofs.Math.Seq.{take-suc-set, take_all}
use Rattle.std.proofs.lemmas.List.{get_or-take, length-append, take-append-le}
use Rattle.std.proofs.lemmas.List.FromFn.{fill_by_all}
use Rattle.std.specs.List.{range_with_len}
use Rattle.aes_block.specs.Cipher.{round_of, rounds_of}
use Rattle.aes_block.specs.Keys.{key_expansion, key_of, key_word, next_word, schedule_words}

-- a word depends on those before it alone
next_word-take : (words : List (List ℕ)) (i : ℕ) → 4 ≤ i
    → next_word (take i words) i ≡ next_word words i
unfolding next_word
next_word-take words i later =
    let fourth : i - 4 < i = omega arith in
    let last : i - 1 < i = omega arith in
    rw (get_or-take i words (i - 4) [] fourth, get_or-take i words (i - 1) [] last) refl

word_added : (key : List ℕ) (words : List (List ℕ)) (n i : ℕ) → n + 4 ≡ i → i < length words
    → take i words ≡ schedule_words key n
    → take (suc i) (set words i (next_word words i)) ≡ schedule_words key (suc n)
unfolding schedule_words
word_added key words n i place within begun =
    take-suc-set words i (next_word words i) within
    ∙ ap (λ word. take i words ++ word ∷ []) (sym (next_word-take words i (omega arith)))
    ∙ ap (λ before. before ++ next_word before i ∷ []) begun
    ∙ ap (λ j. schedule_words key n ++ next_word (schedule_words key n) j ∷ []) (sym place)

-- the word at place i behind the first i words makes the first i + 1 words
pub expansion_grows : (key : List ℕ) (words : List (List ℕ)) (i : ℕ) → 4 ≤ i → i < length words
    → take i words ≡ schedule_words key (i - 4)
    → take (i + 1) (set words i (next_word words i)) ≡ schedule_words key (i + 1 - 4)
expansion_grows key words i later within begun =
    let next : suc (i - 4) ≡ i + 1 - 4 = omega arith in
    let more : suc i ≡ i + 1 = omega arith in
    rw (← next, ← more) (word_added key words (i - 4) i (omega arith) within begun)

-- one more round
pub rounds_grow : (words : List (List ℕ)) (start : List ℕ) (done : ℕ)
    → round_of words (done + 1) (rounds_of words done start) ≡ rounds_of words (done + 1) start
unfolding rounds_of
rounds_grow words start done = rw add-one refl

-- when the place is 44 all words are there
pub expansion_done : (key : List ℕ) (words : List (List ℕ)) (i : ℕ) → i ≡ 44 → length words ≡ 44
    → take i words ≡ schedule_words key (i - 4) → words ≡ key_expansion key
unfolding key_expansion
expansion_done key words i last all begun =
    let forty : i - 4 ≡ 40 = omega arith in
    sym (take_all i words (omega arith)) ∙ begun ∙ ap (schedule_words key) forty

pub length-words_of : (key : List ℕ) (n : ℕ) → length (schedule_words key n) ≡ n + 4
unfolding schedule_words
length-words_of key zero = refl
length-words_of key (suc n) =
    length-append (schedule_words key n) (next_word (schedule_words key n) (n + 4) ∷ [])
    ∙ omega (arith, length-words_of key n)

-- all words begin with those of the key
take-words_of : (key : List ℕ) (n : ℕ) → take 4 (schedule_words key n) ≡ schedule_words key 0
unfolding schedule_words
take-words_of key zero = refl
take-words_of key (suc n) =
    take-append-le 4 (schedule_words key n) (next_word (schedule_words key n) (n + 4) ∷ [])
    (omega (arith, length-words_of key n))
    ∙ take-words_of key n

-- a list of 16 is its elements
sixteen_bytes : (key : List ℕ) → length key ≡ 16
    → key ≡ map (λ i. get_or key i 0) (range_with_len 0 16)
sixteen_bytes key sixteen = fill_by_all (λ i. get_or key i 0) key 16 0 sixteen (λ i within. refl)

-- the words of a key are its bytes
key_of-words_of : (key : List ℕ) → length key ≡ 16 → key_of (schedule_words key 0) ≡ key
unfolding schedule_words key_word
key_of-words_of key sixteen = sym (sixteen_bytes key sixteen)

key_of-take : (words : List (List ℕ)) → key_of (take 4 words) ≡ key_of words
key_of-take words =
    rw (
      get_or-take 4 words 0 [] (lit< tt),
      get_or-take 4 words 1 [] (lit< tt),
      get_or-take 4 words
          2 [] (lit< tt),
      get_or-take 4 words 3 [] (lit< tt),
    ) refl

-- the key is what its schedule begins with
pub key_of-key_expansion : (key : List ℕ) → length key ≡ 16 → key_of (key_expansion key) ≡ key
unfolding key_expansion
key_of-key_expansion key sixteen =
    sym (key_of-take (schedule_words key 40)) ∙ ap key_of (take-words_of key 40) ∙ key_of-words_of key
    sixteen
