-- Instructions and images as text. Numbers are printed in decimal, with a sign where they have one,
-- and
-- addresses and words in hexadecimal; the layout of a listing is this project's own.
use Rattle.std.specs.Prelude.{ℕ, zero, suc, ◌+◌, ◌*◌, ◌/◌, List, [], ◌∷◌, ◌++◌, length, map, codes, Option, Some, None, slice_index, ℤ, pos}
use Rattle.std.specs.Fmt.{decimal, signed_decimal}
use Rattle.std.specs.Int.{w32, from_be_bytes}
use Rattle.text_pieces.specs.Pieces.{hex8}
use Rattle.mips_instruction.specs.declared.instruction.Ins.{Ins}
use Rattle.mips_instruction.specs.Words.{instruction_of_word}
use Rattle.mips_instruction.specs.Numbers.{jump_target, next_address, signed_16, target}
use Rattle.mips_forms.specs.declared.operand.Operand.{Operand}
use Rattle.mips_forms.specs.declared.operand.Operand.TheVariants.{Register, Shift, Signed, Unsigned, Code, Branch, Jump, Offset}
use Rattle.mips_forms.specs.Forms.{form_of}

-- The number that stands for an operand in the text of the instruction at an address: a target is
-- an
-- address, reckoned as the instruction itself does from the address after its own.
abbrev pub operand_value : ℕ → Operand → ℤ
operand_value pc (Register reg) = pos reg
operand_value pc (Shift amount) = pos amount
operand_value pc (Signed imm) = signed_16 imm
operand_value pc (Unsigned imm) = pos imm
operand_value pc (Code code) = pos code
operand_value pc (Branch imm) = pos (target (next_address pc) imm)
operand_value pc (Jump index) = pos (jump_target (next_address pc) index)
operand_value pc (Offset imm base) = signed_16 imm

-- a register by its number
abbrev pub register_text : ℕ → List ℕ
register_text reg = codes "$" ++ decimal reg

-- an address, or a word, with eight digits
abbrev pub address_text : ℕ → List ℕ
address_text address = codes "0x" ++ hex8 address

-- an offset, and its base register in parentheses
abbrev pub offset_text : (imm base : ℕ) → List ℕ
offset_text imm base =
    signed_decimal (signed_16 imm) ++ (codes "(" ++ (register_text base ++ codes ")"))

-- an operand of the instruction at address `pc`
abbrev pub operand_text : ℕ → Operand → List ℕ
operand_text pc (Register reg) = register_text reg
operand_text pc (Shift amount) = decimal amount
operand_text pc (Signed imm) = signed_decimal (signed_16 imm)
operand_text pc (Unsigned imm) = decimal imm
operand_text pc (Code code) = decimal code
operand_text pc (Branch imm) = address_text (target (next_address pc) imm)
operand_text pc (Jump index) = address_text (jump_target (next_address pc) index)
operand_text pc (Offset imm base) = offset_text imm base

-- the texts, with a comma and a space between them
abbrev pub comma_joined : List (List ℕ) → List ℕ
comma_joined [] = []
comma_joined (text ∷ []) = text
comma_joined (text ∷ next ∷ texts) = text ++ (codes ", " ++ comma_joined (next ∷ texts))

-- the operands, if any, behind a space
abbrev pub operands_text : List (List ℕ) → List ℕ
operands_text [] = []
operands_text (text ∷ texts) = codes " " ++ comma_joined (text ∷ texts)

-- the text of the instruction at an address, with all its operands
unfoldable pub instruction_text : Ins → ℕ → List ℕ
instruction_text ins pc = (form_of ins).0 ++ operands_text (map (operand_text pc) (form_of ins).1)

-- ---- Listings

-- the word at an address of an image; what is behind its bytes counts as zero
abbrev pub image_word_at : List ℕ → ℕ → ℕ
image_word_at bytes address =
    from_be_bytes w32 (slice_index bytes address ∷ slice_index bytes (address + 1)
    ∷ slice_index bytes (address + 2) ∷ slice_index bytes (address + 3) ∷ [])

-- the instruction that was read of a word, or the word itself where it is reserved
abbrev pub read_text : Option Ins → (word pc : ℕ) → List ℕ
read_text (Some ins) word pc = instruction_text ins pc
read_text None word pc = codes ".word " ++ address_text word

-- the line's text for a word at address `pc`
abbrev pub word_text : (word pc : ℕ) → List ℕ
word_text word pc = read_text (instruction_of_word word) word pc

-- a line: the address, the word, and what it stands for
unfoldable pub listing_line : (address word : ℕ) → List ℕ
listing_line address word =
    hex8 address ++ (codes " " ++ (hex8 word ++ (codes " " ++ (word_text word address ++ 10 ∷ []))))

-- the lines of so many words of an image, from its start
abbrev pub listing_lines : List ℕ → ℕ → List ℕ
listing_lines bytes zero = []
listing_lines bytes (suc n) = listing_lines bytes n ++ listing_line (4 * n) (image_word_at bytes (4 * n))

-- the lines of all the words of an image, of which the last may lack bytes
unfoldable pub listing_of : List ℕ → List ℕ
listing_of bytes = listing_lines bytes ((length bytes + 3) / 4)
