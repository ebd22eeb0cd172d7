-- The proof that versions on chip keep the law.
use Rattle.std.proofs.Common.{◌≡◌, inl, inr, cond, Bool, ℕ, ◌-◌, ◌<◌, ◌≤◌, List, [], ◌++◌, Result, Ok, length, get_or, set, replicate, refl, sym, ◌∙◌, ap, arith, true, false, length-set}
use Rattle.std.specs.Prelude.{nat_lt}
use Rattle.std.proofs.lemmas.List.{get_or-append_right, get_or-replicate, get_or-set_other, get_or-set_same, get_or_append_left, length-append, length-replicate}
use Rattle.std.proofs.lemmas.Bool.Decides.{eqb_tells, nat_tests}
use Rattle.xom_base.specs.declared.entry.Entry.{Entry}
use Rattle.xom_versions.specs.declared.store.Torn.{Torn}
use Rattle.xom_versions.specs.Store.{Store, line_limit}
use Rattle.xom_versions.specs.Versions.{RaisesInTheOpen, VersionLaw, next_version, start_version, with_version}
use Rattle.xom_versions.specs.Chip.{ChipStands, chip, chip_raised, next_at, start_table}

abbrev ones : ℕ → List ℕ
ones n = replicate n 1

abbrev zeros : ℕ → List ℕ
zeros n = replicate n 0

len : (n x : ℕ) → length (replicate n x) ≡ n
len n x = length-replicate n x

-- a first table has a number for each line
pub length-start_table : (count lines : ℕ) → lines ≤ count
    → length (start_table count lines) ≡ count
unfolding start_table
length-start_table count lines few =
    length-append (ones lines) (zeros (count - lines)) ∙ (let a = len lines 1 in let b =
    len (count - lines) 0 in omega arith)

abbrev version_if : Bool → ℕ
version_if within = cond within 1 0

-- each place of a new table has the line's start version
start_table-each : (count lines line : ℕ) → lines ≤ count → line < count
    → get_or (start_table count lines) line 0 ≡ start_version lines line
unfolding start_table
start_table-each count lines line few low = elim (nat_lt line lines) as (λ b. nat_lt line lines ≡ b
    → get_or (ones lines ++ zeros (count - lines)) line 0 ≡ version_if b) [
      | true ↦ λ is.
          let below : line < lines = grind (arith, nat_tests) in
          get_or_append_left (ones lines) (zeros (count - lines)) 0 line (let a = len lines 1 in
          omega arith) ∙ get_or-replicate lines line 1 0 below
      | false ↦ λ is.
          let past : lines ≤ line = grind (arith, nat_tests) in
          get_or-append_right (ones lines) (zeros (count - lines)) lines line 0 (len lines 1) past
          ∙ get_or-replicate (count - lines) (line - lines) 0 0 (omega arith)
    ] refl

-- a table in which one place is set has the changed numbers
set-each : (table : List ℕ) (numbers : ℕ → ℕ) (line number at : ℕ) → line < length table
    → get_or table at 0 ≡ numbers at
    → get_or (set table line number) at 0 ≡ with_version numbers line number at
set-each table numbers line number at within same = elim (eqb_tells at line) [
  | inl is ↦ rw is.0 (ap (λ k. get_or (set table line number) k 0) is.1 ∙ get_or-set_same table line
      number 0 within)
  | inr differs ↦ rw differs.0 (get_or-set_other table line at number 0 differs.1 ∙ same)
]

abbrev answer : ℕ → Result ℕ Torn
answer n = Ok n

same_answer : (a b : ℕ) → answer a ≡ answer b → a ≡ b
same_answer a b is = cc

raise-stands : (entries : List Entry) (store : Store) (numbers : ℕ → ℕ) (line number : ℕ)
    → ChipStands store entries numbers → line < line_limit → next_at store line ≡ number
    → (number ≡ next_version (numbers line))
    × ChipStands (record store { numbers = set store.numbers line (next_at store line) })
    (entries ++ []) (with_version numbers line number)
raise-stands entries store numbers line number stands low is = (
  sym is ∙ ap next_version (stands.each line low),
  record {
    places = length-set store.numbers line _ ∙ stands.places;
    each = λ at few.
        ap (λ n. get_or (set store.numbers line n) at 0) is
        ∙ set-each store.numbers numbers line number at
        (let whole : length store.numbers ≡ line_limit = stands.places in omega arith)
        (stands.each at few);
  },
)

-- the law of versions, of a store on chip
pub chip_law : VersionLaw chip ChipStands
chip_law = record {
  builds = λ entries area lines ram few. record {
    places = length-start_table line_limit lines few;
    each = λ line low. start_table-each line_limit lines line few low;
  };
  versions = λ entries store numbers line number ram stands low none is. sym (same_answer _ _ is)
      ∙ stands.each line low;
  raises = λ entries store numbers line number ram stands low none is. raise-stands entries store
      numbers line number stands low (same_answer _ _ is);
  torn = λ entries store numbers line ram fault stands low is. absurd (cc);
  longer = λ entries more store numbers stands. record {
    places = stands.places;
    each =
        stands.each;
  };
  alike = λ entries store numbers others same stands. record {
    places = stands.places;
    each =
        λ line low. stands.each line low ∙ same line low;
  };
  size_after_build = λ area lines ram held. refl;
  size_after_raise = λ store line ram held low. refl;
  area_after_build = λ area lines kept ram is. absurd (cc);
  area_after_raise = λ store line ram. refl;
  ram_by_area = λ store other line ram same torn. refl;
}

-- and leave nothing in RAM
pub chip_in_the_open : RaisesInTheOpen chip chip_raised
chip_in_the_open = record {
  done = λ store line number ram is. refl;
  torn =
      λ store line ram fault is. refl;
  area = λ store line ram. refl;
}
