-- Versions on chip: never torn, nothing hashed, RAM not touched.
use Rattle.std.specs.Prelude.{◌≡◌, ℕ, ◌-◌, ◌<◌, List, [], ◌++◌, length, replicate, slice_index_or, slice_set, None, Ok}
use Rattle.xom_base.specs.declared.entry.Entry.{Entry}
use Rattle.xom_versions.specs.Store.{Store, line_limit}
use Rattle.xom_versions.specs.Versions.{Raised, Versions, next_version}

-- a table of so many lines, of which the first are an image's
unfoldable pub start_table : ℕ → ℕ → List ℕ
start_table count lines = replicate lines 1 ++ replicate (count - lines) 0

-- the table of a guest whose image has so many lines
abbrev pub start_numbers : ℕ → List ℕ
start_numbers lines = start_table line_limit lines

-- the store that holds this table
abbrev pub on_chip : List ℕ → Store
on_chip numbers = record { numbers = numbers; area = None; root = [] }

-- the number that the table has for a line
abbrev pub stored_number : Store → ℕ → ℕ
stored_number store line = slice_index_or store.numbers line 0

-- the number that a raise gives a line
abbrev pub next_at : Store → ℕ → ℕ
next_at store line = next_version (stored_number store line)

-- the calls of a store on chip
abbrev pub chip : Versions
chip = record {
  blank_store = on_chip (start_numbers 0);
  store_after_build = λ area lines ram. on_chip (start_numbers lines);
  ram_after_build = λ area lines ram. ram;
  texts_of_build = λ area lines ram. [];
  answer_of_version = λ store line ram. Ok (stored_number store line);
  texts_of_version = λ store line ram. [];
  answer_of_raise = λ store line ram. Ok (next_at store line);
  store_after_raise = λ store line ram. record store {
    numbers = slice_set store.numbers line
        (next_at store line);
  };
  ram_after_raise = λ store line ram. ram;
  texts_of_raise = λ store line ram. [];
}

-- RAM is left alone
abbrev pub chip_raised : Raised
chip_raised area line ram = ram

-- a store on chip stands for the numbers that it holds, in every journal
pub record ChipStands (store : Store) (entries : List Entry) (numbers : ℕ → ℕ) : Type 0 where
  pub places : length store.numbers ≡ line_limit
  pub each : (line : ℕ) → line < line_limit → stored_number store line ≡ numbers line
