-- Look-ups in a table, after a text was put.
use Rattle.std.proofs.Common.{◌≡◌, ℕ, Bool, true, false, cond, not, nat_eq, inl, inr, List, Option, Some, None, Vec, refl, sym, subst, ◌∙◌, ap, arith}
use Rattle.std.specs.Prelude.{if◌then◌else◌}
use Rattle.std.specs.declared.alloc.Global.{Global}
use Rattle.std.specs.declared.hash.BuildHasherDefault.{BuildHasherDefault}
use Rattle.std.specs.declared.hash.FoldHasher.{FoldHasher}
use Rattle.std.specs.BTreeMap as tree
use Rattle.std.specs.BTreeMap.{BTreeMap, get_by, is_at}
use Rattle.std.specs.HashMap as hash
use Rattle.std.specs.HashMap.{HashMap}
use Rattle.std.specs.Cmp.{eq_by_cmp_equiv}
use Rattle.std.specs.Cmp.Lexicographic.{bytes_decides, nat_list_cmp_total, nat_list_eq_equiv, slice_cmp}
use Rattle.std.specs.Map.{AreApart, IsKeyTest, KeepsOthers, lookup}
use Rattle.std.specs.Option.{option_or}
use Rattle.std.specs.Ordering.{is_eq, nat_cmp}
use Rattle.std.specs.Str.{bytes_eq}
use Rattle.std.proofs.lemmas.Bool.{cases_Bool, cond-false, cond-true, false_from_ne_true}
use Rattle.std.proofs.lemmas.Map.Text.{is_eq-slice_cmp}
use Rattle.text_table.specs.Tables.{fingerprint_in, fingerprint_of, first_value, is_other, row_at, value_in}
use Rattle.text_table.specs.declared.table.TextRow.{TextRow}
use Rattle.text_table.specs.declared.table.TextTable.{TextTable}

-- equal bytes
same_bytes : (xs ys : List ℕ) → bytes_eq xs ys ≡ true → xs ≡ ys
same_bytes xs ys same = (bytes_decides xs ys).0 same

-- ---- The ordered map of the other texts

-- a query for another text finds what it found
other_entries : {K X : Type 0} (eq : K → K → Bool) (test : K → Bool) (old new : List (K × X))
    → KeepsOthers eq test old new → (other : K → Bool) → IsKeyTest eq other → AreApart test other
    → lookup other new ≡ lookup other old
unfolding KeepsOthers
other_entries eq test old new keeps = keeps

-- what equals one text differs from another
apart_in_order : (text other key : List ℕ) → bytes_eq text other ≡ false
    → is_eq (slice_cmp nat_cmp text key) ≡ true → is_eq (slice_cmp nat_cmp other key) ≡ false
apart_in_order text other key differ same =
    is_eq-slice_cmp other key ∙ nat_list_eq_equiv.symm other key
    ∙ sym (nat_list_eq_equiv.congr text key other (sym (is_eq-slice_cmp text key) ∙ same)) ∙ differ

abbrev Others : Type 0 → Type 0
Others V = BTreeMap (Vec ℕ Global) V

abbrev Firsts : Type 0 → Type 0
Firsts V = HashMap ℕ (TextRow V) (BuildHasherDefault FoldHasher)

not_false : (b : Bool) → not b ≡ false → b ≡ true
not_false true is = refl
not_false false is = sym is

module _ {V : Type 0} where
  -- the value of a text among the others
  abbrev value_among : Others V → List ℕ → Option V
  value_among others text = get_by (λ (k : Vec ℕ Global). slice_cmp nat_cmp text k.items) others

  other_put : (old new : Others V) (key : Vec ℕ Global) (value : V)
      → tree.Updates (λ x y. slice_cmp nat_cmp x.items y.items) old new key (Some value)
      → (other : List ℕ)
      → value_among new other ≡ (if bytes_eq key.items other then Some value
      else value_among old other)
  other_put old new key value updates other =
      elim (cases_Bool (bytes_eq key.items other)) [
        | inl same ↦ subst (λ text. value_among new text ≡ Some value)
            (same_bytes key.items other same) updates.1
            ∙ sym (cond-true (bytes_eq key.items other) (Some value) (value_among old other) same)
        | inr differ ↦ other_entries _ _ _ _ updates.3
            (is_at (λ (k : Vec ℕ Global). slice_cmp nat_cmp other k.items))
            (λ x y. (eq_by_cmp_equiv nat_list_cmp_total).congr other x.items y.items)
            (λ k. apart_in_order key.items other k.items differ)
            ∙ sym (cond-false (bytes_eq key.items other) (Some value) (value_among old other)
            differ)
      ]

  -- where another text is the one of a fingerprint, this one has no value there
  no_first : (was : Option (TextRow V)) (text : List ℕ) → is_other was text ≡ true
      → first_value was text ≡ None
  no_first None text taken = absurd (let no : false ≡ true = taken in cc)
  no_first (Some row) text taken = no_if (bytes_eq row.text.items text) (Some row.value) taken
    where
      no_if : (b : Bool) (x : Option V) → not b ≡ true → (if b then x else None) ≡ None
      no_if true x is = absurd (let n : false ≡ true = is in cc)
      no_if false x is = refl

  or_other : (b : Bool) (x : V) (y z : Option V) → (b ≡ true → y ≡ None)
      → option_or y (if b then Some x else z) ≡ (if b then Some x else option_or y z)
  or_other true x y z none = ap (λ o. option_or o (Some x)) (none refl)
  or_other false x y z none = refl

  -- a table, after a text was put among the others
  pub value_in-others : (old : TextTable V) (others : Others V) (key : Vec ℕ Global) (value : V)
      (text : List ℕ) → key.items ≡ text
      → tree.Updates (λ x y. slice_cmp nat_cmp x.items y.items) old.others others key (Some value)
      → is_other (row_at old (fingerprint_in old text)) text ≡ true
      → (other : List ℕ)
      → value_in (record old { others = others }) other ≡ (if bytes_eq text other then Some value
      else value_in old other)
  value_in-others old others key value text items updates taken other =
      let first : List ℕ → Option V = λ t. first_value (row_at old (fingerprint_in old t)) t in
      ap (λ among. option_or (first other) among) (other_put old.others others key value updates
      other ∙ ap (λ t. if bytes_eq t other then Some value else value_among old.others other) items)
      ∙ or_other (bytes_eq text other) value (first other) (value_among old.others other)
      (λ equal. ap first (sym (same_bytes text other equal)) ∙ no_first _ text taken)

  -- ---- The first texts

  if_twice : (b : Bool) (x y z : Option V)
      → (if b then x else z) ≡ (if b then x else (if b then y else z))
  if_twice true x y z = refl
  if_twice false x y z = refl

  or_if : (b : Bool) (x : V) (y z : Option V)
      → option_or (if b then Some x else y) z ≡ (if b then Some x else option_or y z)
  or_if true x y z = refl
  or_if false x y z = refl

  -- the value of a text that is the one of its fingerprint, after one was put there or elsewhere
  first_value-put : (was : Option (TextRow V)) (row : TextRow V) (here : Bool) (other : List ℕ)
      → (here ≡ false → bytes_eq row.text.items other ≡ false)
      → (here ≡ true → is_other was row.text.items ≡ false)
      → first_value (cond here (Some row) was) other ≡ (if bytes_eq row.text.items other
      then Some row.value else first_value was other)
  first_value-put was row false other far free =
      sym (ap (λ b. if b then Some row.value else first_value was other) (far refl))
  first_value-put None row true other far free = refl
  first_value-put (Some before) row true other far free =
      if_twice (bytes_eq row.text.items other) (Some row.value) (Some before.value) None
      ∙ ap (λ text. if bytes_eq row.text.items other then Some row.value
      else (if bytes_eq text other then Some before.value else None))
      (sym (same_bytes before.text.items row.text.items (not_false _ (free refl))))

  -- texts of two fingerprints differ
  texts_differ : (old : TextTable V) (text other : List ℕ)
      → nat_eq (fingerprint_in old text) (fingerprint_in old other) ≡ false
      → bytes_eq text other ≡ false
  texts_differ old text other differ =
      false_from_ne_true _
      (λ same. let e : fingerprint_in old text ≡ fingerprint_in old other =
      ap (fingerprint_in old) (same_bytes text other same) in Prim.grind (arith, e, differ))

  -- what stands at one fingerprint stands at an equal one
  row_at-equal : (old : TextTable V) (n m : ℕ) → nat_eq n m ≡ true → row_at old m ≡ row_at old n
  row_at-equal old n m same = let e : m ≡ n = Prim.grind (arith, same) in ap (row_at old) e

  -- a table, after a text was put at its fingerprint
  first_put : (old : TextTable V) (firsts : Firsts V) (row : TextRow V)
      → hash.Updates nat_eq old.firsts firsts (fingerprint_in old row.text.items) (Some row)
      → is_other (row_at old (fingerprint_in old row.text.items)) row.text.items ≡ false
      → (other : List ℕ)
      → value_in (record old { firsts = firsts }) other ≡ (if bytes_eq row.text.items other
      then Some row.value else value_in old other)
  first_put old firsts row updates free other =
      let text : List ℕ = row.text.items in
      let among : Option V = value_among old.others other in
      let there : Option (TextRow V) = row_at old (fingerprint_in old other) in
      let here : Bool = nat_eq (fingerprint_in old text) (fingerprint_in old other) in
      ap (λ first. option_or (first_value first other) among)
      (updates.0 (fingerprint_in old other))
      ∙ ap (λ first. option_or first among) (first_value-put there row here other
      (texts_differ old text other)
      (λ equal. ap (λ first. is_other first text) (row_at-equal old (fingerprint_in old text)
      (fingerprint_in old other) equal) ∙ free))
      ∙ or_if (bytes_eq text other) row.value (first_value there other) among

  -- the same, of a copy of a text
  pub value_in-firsts : (old : TextTable V) (firsts : Firsts V) (fingerprint : ℕ) (row : TextRow V)
      (text : List ℕ) → row.text.items ≡ text → fingerprint ≡ fingerprint_in old text
      → hash.Updates nat_eq old.firsts firsts fingerprint (Some row)
      → is_other (row_at old fingerprint) text ≡ false
      → (other : List ℕ)
      → value_in (record old { firsts = firsts }) other ≡ (if bytes_eq text other
      then Some row.value else value_in old other)
  value_in-firsts old firsts fingerprint row text items is updates free other =
      let print : fingerprint_in old row.text.items ≡ fingerprint =
      ap (fingerprint_in old) items ∙ sym is in
      first_put old firsts row
      (subst (λ n. hash.Updates nat_eq old.firsts firsts n (Some row)) (sym print) updates)
      (ap (λ n. is_other (row_at old n) row.text.items) print
      ∙ ap (λ t. is_other (row_at old fingerprint) t) items ∙ free) other
      ∙ ap (λ t. if bytes_eq t other then Some row.value else value_in old other) items
