-- Each word of the four tables is the column of its byte, by computation over the S-box's table.
use Rattle.std.proofs.Common.{◌≡◌, ℕ, ◌<◌, List, [], length, get_or, refl, sym, ◌∙◌, ap, subst}
use Rattle.std.specs.Prelude.{map}
use Rattle.std.specs.Int.{w32, to_be_bytes}
use Rattle.std.proofs.lemmas.List.{get_or-map}
use Rattle.aes_block.specs.Columns.{column_from_row_0, column_from_row_1, column_from_row_2, column_from_row_3}
use Rattle.aes_block.specs.Field.{polynomial_product, remainder, times}
use Rattle.aes_block.specs.Substitution.{s_box}
use Rattle.aes_block.specs.declared.columns.TheConstants.{FROM_ROW_0, FROM_ROW_1, FROM_ROW_2, FROM_ROW_3}
use Rattle.aes_block.specs.declared.table.TheConstants.{S_BOX}
use Rattle.aes_block.proofs.Entries.{entry_of}

-- a table whose words are columns of the S-box's values has at each byte the column of its value
entry : (column : ℕ → List ℕ) (table : List ℕ) → length table ≡ 256
    → map (to_be_bytes w32) table ≡ map column S_BOX
    → (b : ℕ) → b < 256 → to_be_bytes w32 (get_or table b 0) ≡ column (s_box b)
entry column table sized columns b byte =
    sym (get_or-map (to_be_bytes w32) table b 0 [] (subst (λ n. b < n) (sym sized) byte))
    ∙ ap (λ words. get_or words b []) columns
    ∙ get_or-map column S_BOX b 0 [] byte
    ∙ ap column (entry_of b byte)

-- by computation, row by row
pub row_0_entry : (b : ℕ) → b < 256
    → to_be_bytes w32 (get_or FROM_ROW_0 b 0) ≡ column_from_row_0 (s_box b)
unfolding polynomial_product remainder times column_from_row_0
row_0_entry b byte = entry column_from_row_0 FROM_ROW_0 refl refl b byte

pub row_1_entry : (b : ℕ) → b < 256
    → to_be_bytes w32 (get_or FROM_ROW_1 b 0) ≡ column_from_row_1 (s_box b)
unfolding polynomial_product remainder times column_from_row_1
row_1_entry b byte = entry column_from_row_1 FROM_ROW_1 refl refl b byte

pub row_2_entry : (b : ℕ) → b < 256
    → to_be_bytes w32 (get_or FROM_ROW_2 b 0) ≡ column_from_row_2 (s_box b)
unfolding polynomial_product remainder times column_from_row_2
row_2_entry b byte = entry column_from_row_2 FROM_ROW_2 refl refl b byte

pub row_3_entry : (b : ℕ) → b < 256
    → to_be_bytes w32 (get_or FROM_ROW_3 b 0) ≡ column_from_row_3 (s_box b)
unfolding polynomial_product remainder times column_from_row_3
row_3_entry b byte = entry column_from_row_3 FROM_ROW_3 refl refl b byte
