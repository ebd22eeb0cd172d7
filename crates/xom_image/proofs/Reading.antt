-- The fields of an image file are read where they stand, or the first bad place is found.
use Rattle.std.proofs.Common.{◌≡◌, ℕ, ◌+◌, ◌%◌, ◌^◌, ◌<◌, ◌≤◌, ◌⊎◌, ◌≢◌, inl, inr, true, false, List, [], ◌∷◌, Result, Ok, Err, get_or, length, min, take, refl, sym, ◌∙◌, ap, arith, ltb, eqb, zero, suc, IsOk, IfOk, ◌↔◌, subst}
use Rattle.std.proofs.lemmas.Bool.{cond_both, eqb-true, eqb-false, ltb-true, ltb-false, and_cases, cases_lt}
use Rattle.std.proofs.lemmas.Bool.Decides.{nat_tests}
use Rattle.std.proofs.lemmas.List.Sums.{take_while-cons}
use Rattle.xom_base.specs.Memory.{OrOut}
use Rattle.xom_base.specs.Results.{◌>>=◌}
use Rattle.xom_image.specs.declared.fault.ImageFault.{ImageFault}
use Rattle.xom_image.specs.declared.fault.ImageFault.TheVariants as fault
use Rattle.xom_image.specs.declared.fields.Format.{Format}
use Rattle.xom_image.specs.Fields.{AnswersBy, AnswersFile, DiffersAt, IsBadOffset, IsFormat, IsLeastBadOffsetOf, IsWholeFile, common_prefix_size, count_of, entry_of_file, fields_at, is_entry_address, size_of_file}

-- ---- Where two texts agree

-- the first bytes agree, and then the rest decides, or they differ
agreed-step : (x y : ℕ) (xs ys : List ℕ)
    → ((x ≡ y) × (common_prefix_size (x ∷ xs) (y ∷ ys) ≡ suc (common_prefix_size xs ys)))
    ⊎ ((x ≡ y → ⊥) × (common_prefix_size (x ∷ xs) (y ∷ ys) ≡ 0))
unfolding common_prefix_size
agreed-step x y xs ys = grind (arith, take_while-cons, nat_tests)

pub agreed_within : (xs ys : List ℕ) → (common_prefix_size xs ys ≤ length xs) × (common_prefix_size xs ys ≤ length ys)
unfolding common_prefix_size
agreed_within [] ys = (omega arith, omega arith)
agreed_within (x ∷ xs) [] = (omega arith, omega arith)
agreed_within (x ∷ xs) (y ∷ ys) =
    let within = agreed_within xs ys in
    elim (agreed-step x y xs ys) [
      | inl h ↦ (omega arith, omega arith)
      | inr h ↦
          (omega arith, omega arith)
    ]

-- before that place both have the same bytes
pub agreed-same : (xs ys : List ℕ) (k : ℕ) → k < common_prefix_size xs ys → get_or ys k 0 ≡ get_or xs k 0
unfolding common_prefix_size
agreed-same [] ys k below = absurd (omega arith)
agreed-same (x ∷ xs) [] k below = absurd (omega arith)
agreed-same (x ∷ xs) (y ∷ ys) zero below = elim (agreed-step x y xs ys) [
  | inl h ↦ sym h.0
  | inr h ↦
      absurd (omega arith)
]
agreed-same (x ∷ xs) (y ∷ ys) (suc k) below = elim (agreed-step x y xs ys) [
  | inl h ↦
      agreed-same xs ys k (omega arith)
  | inr h ↦ absurd (omega arith)
]

-- there they differ, where neither has ended
pub agreed-differs : (xs ys : List ℕ) → common_prefix_size xs ys < length xs → common_prefix_size xs ys < length ys
    → get_or ys (common_prefix_size xs ys) 0 ≡ get_or xs (common_prefix_size xs ys) 0 → ⊥
agreed-differs [] ys short within same = absurd (omega arith)
agreed-differs (x ∷ xs) [] short within same = absurd (omega arith)
agreed-differs (x ∷ xs) (y ∷ ys) short within same =
    elim (agreed-step x y xs ys) [
      | inl h ↦ agreed-differs xs ys (omega arith) (omega arith) (rw h.1 at same)
      | inr h ↦ h.0 (sym (rw h.1 at same))
    ]

-- a text that agrees in all bytes of another begins with it
pub agreed-all : (xs ys : List ℕ) → common_prefix_size xs ys ≡ length xs → take (length xs) ys ≡ xs
unfolding common_prefix_size
agreed-all [] ys all = refl
agreed-all (x ∷ xs) [] all = absurd (omega arith)
agreed-all (x ∷ xs) (y ∷ ys) all =
    elim (agreed-step x y xs ys) [
      | inl h ↦ let rest = agreed-all xs ys (omega arith) in cc
      | inr h ↦ absurd (omega arith)
    ]

-- ---- The reading is right

is_entry-parts : (entry : ℕ) → is_entry_address entry ≡ true → (entry % 4 ≡ 0) × (entry < 2 ^ 20)
is_entry-parts entry is = grind (arith, nat_tests)

is_entry-not : (entry : ℕ) → is_entry_address entry ≡ false → (entry % 4 ≢ 0) ⊎ (2 ^ 20 ≤ entry)
is_entry-not entry isnt =
    elim (and_cases (eqb (entry % 4) 0) (ltb entry (2 ^ 20)) isnt) [
      | inl turned ↦ inl (eqb-false _ _ turned)
      | inr high ↦ inr (ltb-false _ _ high)
    ]

-- a byte of the head differs at no place before the first where it does
differs-above : (format : Format) (file : List ℕ) (n : ℕ) → DiffersAt format file n
    → common_prefix_size format.head file ≤ n
differs-above format file n (within, there, differs) =
    elim (cases_lt n (common_prefix_size format.head file)) [
      | inl below ↦ absurd (differs (agreed-same format.head file n below))
      | inr above ↦ above
    ]

-- what is read is right: the file's own fields where it breaks no rule, else its first bad place
abbrev pub IsRight : Format → List ℕ → Result (ℕ × ℕ) ℕ → Type 0
IsRight format file (Ok fields) =
    IsWholeFile format file × (fields ≡ (entry_of_file format file, count_of format file))
IsRight format file (Err n) = IsLeastBadOffsetOf format file n

module _ (format : Format) (file : List ℕ) (is_format : IsFormat format) where
  bad_head : common_prefix_size format.head file < 8 → IsLeastBadOffsetOf format file (common_prefix_size format.head file)
  bad_head short =
      let within : common_prefix_size format.head file ≤ length file = (agreed_within format.head file).1 in
      record {
        bad = elim (cases_lt (common_prefix_size format.head file) (length file)) [
          | inl there ↦ inl (short, there, agreed-differs format.head file (omega arith) there)
          | inr ended ↦ inr (inr (inr (inl (omega arith, omega arith))))
        ];
        least = λ m bad. grind (arith, differs-above);
      }

  no_entry : common_prefix_size format.head file ≡ 8 → length file < format.entry + 4
      → IsLeastBadOffsetOf format file (length file)
  no_entry head short = record {
    bad = inr (inr (inr (inl (refl, omega arith))));
    least = λ m bad. grind (arith, differs-above);
  }

  bad_entry : common_prefix_size format.head file ≡ 8 → format.entry + 4 ≤ length file
      → (entry_of_file format file % 4 ≢ 0) ⊎ (2 ^ 20 ≤ entry_of_file format file)
      → IsLeastBadOffsetOf format file format.entry
  bad_entry head there bad = record {
    bad = inr (inl (refl, there, bad));
    least = λ m bad. grind (arith, differs-above);
  }

  no_count : common_prefix_size format.head file ≡ 8 → is_entry_address (entry_of_file format file) ≡ true
      → format.entry + 4 ≤ length file → length file < format.entry + 8
      → IsLeastBadOffsetOf format file (length file)
  no_count head entry there short = record {
    bad = inr (inr (inr (inl (refl, omega arith))));
    least = λ m bad. grind (arith, differs-above, is_entry-parts);
  }

  bad_count : common_prefix_size format.head file ≡ 8 → is_entry_address (entry_of_file format file) ≡ true
      → format.entry + 8 ≤ length file → format.most < count_of format file
      → IsLeastBadOffsetOf format file (format.entry + 4)
  bad_count head entry there bad = record {
    bad = inr (inr (inl (refl, there, bad)));
    least = λ m bad. grind (arith, differs-above, is_entry-parts);
  }

  other_size : common_prefix_size format.head file ≡ 8 → is_entry_address (entry_of_file format file) ≡ true
      → format.entry + 8 ≤ length file → count_of format file ≤ format.most
      → (length file ≡ size_of_file format file → ⊥)
      → IsLeastBadOffsetOf format file (min (length file) (size_of_file format file))
  other_size head entry there most differs = record {
    bad = elim (cases_lt (length file) (size_of_file format file)) [
      | inl early ↦ inr (inr (inr (inl (omega arith, early))))
      | inr late ↦ inr (inr (inr (inr (omega arith, omega arith))))
    ];
    least = λ m bad. grind (arith, differs-above, is_entry-parts);
  }

  pub fields-right : IsRight format file (fields_at format file)
  unfolding fields_at
  fields-right =
      cond_both (ltb (common_prefix_size format.head file) 8) _ _ (IsRight format file)
      (λ t. bad_head (ltb-true _ _ t))
      (λ t. let head : common_prefix_size format.head file ≡ 8 = let named : length format.head ≡ 8 =
      is_format.named in omega (arith, ltb-false _ _ t, (agreed_within format.head file).0) in
      cond_both (ltb (length file) (format.entry + 4)) _ _ (IsRight format file)
      (λ t. no_entry head (ltb-true _ _ t))
      (λ t. let first = ltb-false _ _ t in
      cond_both (is_entry_address (entry_of_file format file)) _ _ (IsRight format file)
      (λ entry.
      cond_both (ltb (length file) (format.entry + 8)) _ _ (IsRight format file)
      (λ t. no_count head entry first (ltb-true _ _ t))
      (λ t. let there = ltb-false _ _ t in
      cond_both (ltb format.most (count_of format file)) _ _ (IsRight format file)
      (λ t. bad_count head entry there (ltb-true _ _ t))
      (λ t. let most = ltb-false _ _ t in
      cond_both (eqb (length file) (size_of_file format file)) _ _ (IsRight format file)
      (λ t. let parts = is_entry-parts (entry_of_file format file) entry in (
        record {
          head = head;
          aligned = parts.0;
          private = parts.1;
          most = most;
          size =
              eqb-true _ _ t;
        },
        refl,
      ))
      (λ t. other_size head entry there most (eqb-false _ _ t)))))
      (λ entry. bad_entry head first (is_entry-not (entry_of_file format file) entry))))

right-read : (format : Format) (file : List ℕ) (read : Result (ℕ × ℕ) ℕ) → IsRight format file read
    → IfOk read (λ _. IsWholeFile format file)
right-read format file (Ok fields) right = right.0
right-read format file (Err n) right = tt

-- a file whose fields are read breaks no rule
pub fields_whole : (format : Format) (file : List ℕ) → IsFormat format
    → IfOk (fields_at format file) (λ _. IsWholeFile format file)
fields_whole format file is_format =
    right-read format file (fields_at format file) (fields-right format file is_format)

right-told : (format : Format) (file : List ℕ) (read : Result (ℕ × ℕ) ℕ) (fields : ℕ × ℕ)
    → IsRight format file read → read ≡ Ok fields
    → IsWholeFile format file × (fields ≡ (entry_of_file format file, count_of format file))
right-told format file (Ok found) fields right is =
    let same : fields ≡ found = cc in (right.0, same ∙ right.1)
right-told format file (Err n) fields right is = absurd (cc)

-- and they are its own
pub fields-told : (format : Format) (file : List ℕ) (fields : ℕ × ℕ) → IsFormat format
    → fields_at format file ≡ Ok fields
    → IsWholeFile format file × (fields ≡ (entry_of_file format file, count_of format file))
fields-told format file fields is_format is =
    right-told format file (fields_at format file) fields (fields-right format file is_format) is

-- a file that breaks no rule is bad nowhere
IsWhole-good : (format : Format) (file : List ℕ) (n : ℕ) → IsFormat format → IsWholeFile format file
    → IsBadOffset format file n → ⊥
IsWhole-good format file n is_format whole bad = grind (arith, differs-above)

right-whole : (format : Format) (file : List ℕ) (read : Result (ℕ × ℕ) ℕ) → IsFormat format
    → IsRight format file read → IsWholeFile format file
    → read ≡ Ok (entry_of_file format file, count_of format file)
right-whole format file (Ok fields) is_format right whole = ap Ok right.1
right-whole format file (Err n) is_format right whole =
    absurd (IsWhole-good format file n is_format whole right.bad)

-- the fields of a file that breaks no rule
pub whole-fields : (format : Format) (file : List ℕ) → IsFormat format → IsWholeFile format file
    → fields_at format file ≡ Ok (entry_of_file format file, count_of format file)
whole-fields format file is_format whole =
    right-whole format file (fields_at format file) is_format (fields-right format file is_format)
    whole

right-bad : (format : Format) (file : List ℕ) (read : Result (ℕ × ℕ) ℕ) (n : ℕ) → IsFormat format
    → IsRight format file read → IsLeastBadOffsetOf format file n → read ≡ Err n
right-bad format file (Ok fields) n is_format right first =
    absurd (IsWhole-good format file n is_format right.0 first.bad)
right-bad format file (Err m) n is_format right first =
    let below = right.least n first.bad in
    let above = first.least m right.bad in
    let same : m ≡ n = omega arith in
    ap Err same

-- the first bad place is found
pub bad-fields : (format : Format) (file : List ℕ) (n : ℕ) → IsFormat format
    → IsLeastBadOffsetOf format file n → fields_at format file ≡ Err n
bad-fields format file n is_format first =
    right-bad format file (fields_at format file) n is_format (fields-right format file is_format)
    first

-- and nothing else is taken for it
pub fields-bad : (format : Format) (file : List ℕ) (n : ℕ) → IsFormat format
    → fields_at format file ≡ Err n → IsLeastBadOffsetOf format file n
fields-bad format file n is_format is = rw is at (fields-right format file is_format)

-- ---- What a reader answers

pub ok_parts : {A B : Type 0} {a b : A} → ◌≡◌ {A = Result A B} (Ok a) (Ok b) → a ≡ b
ok_parts same = cc

pub err_parts : {A B : Type 0} {a b : B} → ◌≡◌ {A = Result A B} (Err a) (Err b) → a ≡ b
err_parts same = cc

pub ok_apart : {A B : Type 0} {a : A} {b : B} → ◌≡◌ {A = Result A B} (Ok a) (Err b) → ⊥
ok_apart same = cc

bad_no_image : {A B : Type 0} (read : Result A B) (n : B) → read ≡ Err n → IsOk read → ⊥
bad_no_image (Ok a) n is image = ok_apart is
bad_no_image (Err m) n is image = cc

-- a reader answers a bad place exactly where that is the first, if what it should read is so
AnswersBy-bad : {X Image : Type 0} (parts : Image → X) (read : Result X ℕ) (First : ℕ → Type 0)
    → ((n : ℕ) → read ≡ Err n → First n) → ((n : ℕ) → First n → read ≡ Err n)
    → (result : Result Image ImageFault) → AnswersBy parts read result → (n : ℕ)
    → (result ≡ Err (fault.Bad n)) ↔ First n
AnswersBy-bad parts read First is_first first (Ok image) answers n =
    (λ is. absurd (ok_apart is), λ there. absurd (ok_apart (sym answers ∙ first n there)))
AnswersBy-bad parts read First is_first first (Err (fault.Bad m)) answers n = (
  λ is. let same : m ≡ n = cc in subst First same (is_first m answers),
  λ there. let same : m ≡ n = err_parts (sym answers ∙ first n there) in
      ap (λ k. Err (fault.Bad k)) same,
)
AnswersBy-bad parts read First is_first first (Err fault.NoMemory) answers n =
    (λ is. absurd (cc), λ there. absurd (bad_no_image read n (first n there) answers))

-- a reader answers the image of a file, or that memory ran out, if that image is what it should
-- read
AnswersBy-only : {X Image : Type 0} (parts : Image → X) (read : Result X ℕ)
    → ((a b : Image) → parts a ≡ parts b → a ≡ b)
    → (image : Image) → read ≡ Ok (parts image) → (result : Result Image ImageFault)
    → AnswersBy parts read result → OrOut fault.NoMemory (Ok image) result
AnswersBy-only parts read equal image is (Ok found) answers =
    inl (ap Ok (equal found image (ok_parts (sym answers ∙ is))))
AnswersBy-only parts read equal image is (Err (fault.Bad n)) answers =
    absurd (ok_apart (sym is ∙ answers))
AnswersBy-only parts read equal image is (Err fault.NoMemory) answers = inr refl

-- what is made of the fields of a file is a bad place where the fields are
made-bad : {A B : Type 0} (make : A → B) (read : Result A ℕ) (n : ℕ)
    → (read >>= (λ x. Ok (make x))) ≡ Err n → read ≡ Err n
made-bad make (Ok x) n is = absurd (ok_apart is)
made-bad make (Err m) n is = cc

-- a reader of a format that makes the image of its fields answers as the format says, if what it
-- reads of the file of an image is that image
pub AnswersBy-file : {X Image : Type 0} (parts : Image → X)
    → ((a b : Image) → parts a ≡ parts b → a ≡ b) → (format : Format) → IsFormat format
    → (file : List ℕ) (make : ℕ × ℕ → X) (IsOf : Image → Type 0)
    → ((image : Image) → IsOf image → (fields_at format file >>= (λ fields. Ok (make fields)))
    ≡ Ok (parts image))
    → (result : Result Image ImageFault) → IfOk result IsOf
    → AnswersBy parts (fields_at format file >>= (λ fields. Ok (make fields))) result
    → AnswersFile IsOf (IsLeastBadOffsetOf format file) result
AnswersBy-file parts equal format is_format file make IsOf is_read result found answers = record {
  found = found;
  only = λ image is. AnswersBy-only parts (fields_at format file >>= (λ fields. Ok (make fields)))
      equal image (is_read image is) result answers;
  bad = AnswersBy-bad parts (fields_at format file >>= (λ fields. Ok (make fields)))
      (IsLeastBadOffsetOf format file)
      (λ n is. fields-bad format file n is_format (made-bad make (fields_at format file) n is))
      (λ n first. ap (λ read. read >>= (λ fields. Ok (make fields)))
      (bad-fields format file n is_format first))
      result answers;
}
