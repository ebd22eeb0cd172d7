-- A table of texts as a function: at each text its value, or none. It looks by fingerprint for the
-- first text that has it, and then among the others.
use Rattle.std.specs.Prelude.{ℕ, not, Bool, false, List, Option, Some, None, if◌then◌else◌}
use Rattle.std.specs.BTreeMap.{get_by}
use Rattle.std.specs.HashMap.{get}
use Rattle.std.specs.Bool.{nat_eq}
use Rattle.std.specs.Cmp.Lexicographic.{slice_cmp}
use Rattle.std.specs.Hash.DefaultHasher.{finish, initial, write}
use Rattle.std.specs.declared.hash.DefaultHasher.{DefaultHasher}
use Rattle.std.specs.Option.{option_or}
use Rattle.std.specs.Ordering.{nat_cmp}
use Rattle.std.specs.Str.{bytes_eq}
use Rattle.text_table.specs.declared.table.TextRow.{TextRow}
use Rattle.text_table.specs.declared.table.TextTable.{TextTable}

-- the fingerprint of a text behind what the hasher was fed
unfoldable pub fingerprint_of : DefaultHasher → List ℕ → ℕ
fingerprint_of hasher text = finish (write hasher text)

-- the fingerprint of a text under a secret: SipHash-1-3, with keys 0, of the secret and the text
abbrev pub keyed_fingerprint : List ℕ → List ℕ → ℕ
keyed_fingerprint secret text = fingerprint_of (write initial secret) text

module _ {V : Type 0} where
  -- the value of a text, where it is the one of its fingerprint
  abbrev pub first_value : Option (TextRow V) → List ℕ → Option V
  first_value None text = None
  first_value (Some row) text = if bytes_eq row.text.items text then Some row.value else None

  -- another text is the one of this fingerprint
  abbrev pub is_other : Option (TextRow V) → List ℕ → Bool
  is_other None text = false
  is_other (Some row) text = not (bytes_eq row.text.items text)

  -- the fingerprint of a text in this table
  abbrev pub fingerprint_in : TextTable V → List ℕ → ℕ
  fingerprint_in table text = fingerprint_of table.hasher text

  -- what stands at a fingerprint
  abbrev pub row_at : TextTable V → ℕ → Option (TextRow V)
  row_at table fingerprint = get nat_eq table.firsts fingerprint

  -- the value of a text, or none
  abbrev pub value_in : TextTable V → List ℕ → Option V
  value_in table text =
      option_or (first_value (row_at table (fingerprint_in table text)) text)
      (get_by (λ k. slice_cmp nat_cmp text k.items) table.others)
