-- The registers as source lines write them: `$` and the number, or `$` and the name that the
-- assemblers of MIPS give it (Kane and Heinrich, MIPS RISC Architecture, appendix D).
use Rattle.std.specs.Prelude.{◌≡◌, ℕ, ◌%◌, ◌⊎◌, List, [], ◌∷◌, ◌++◌, codes, Option, Some, option_map, position, slice_get}
use Rattle.std.specs.Str.{bytes_eq}

-- the numbers, register 0 first
unfoldable pub register_numbers : List (List ℕ)
register_numbers =
    codes "$0" ∷ codes "$1" ∷ codes "$2" ∷ codes "$3" ∷ codes "$4" ∷ codes "$5" ∷ codes "$6"
    ∷ codes "$7"
    ∷ codes "$8" ∷ codes "$9" ∷ codes "$10" ∷ codes "$11" ∷ codes "$12" ∷ codes "$13" ∷ codes "$14"
    ∷ codes "$15"
    ∷ codes "$16" ∷ codes "$17" ∷ codes "$18" ∷ codes "$19" ∷ codes "$20" ∷ codes "$21"
    ∷ codes "$22" ∷ codes "$23"
    ∷ codes "$24" ∷ codes "$25" ∷ codes "$26" ∷ codes "$27" ∷ codes "$28" ∷ codes "$29"
    ∷ codes "$30" ∷ codes "$31" ∷ []

-- the names, register 0 first
unfoldable pub register_names : List (List ℕ)
register_names =
    codes "$zero" ∷ codes "$at" ∷ codes "$v0" ∷ codes "$v1" ∷ codes "$a0" ∷ codes "$a1"
    ∷ codes "$a2" ∷ codes "$a3"
    ∷ codes "$t0" ∷ codes "$t1" ∷ codes "$t2" ∷ codes "$t3" ∷ codes "$t4" ∷ codes "$t5"
    ∷ codes "$t6" ∷ codes "$t7"
    ∷ codes "$s0" ∷ codes "$s1" ∷ codes "$s2" ∷ codes "$s3" ∷ codes "$s4" ∷ codes "$s5"
    ∷ codes "$s6" ∷ codes "$s7"
    ∷ codes "$t8" ∷ codes "$t9" ∷ codes "$k0" ∷ codes "$k1" ∷ codes "$gp" ∷ codes "$sp"
    ∷ codes "$fp" ∷ codes "$ra" ∷ []

-- the text is the number or the name of this register
abbrev pub IsRegister : List ℕ → ℕ → Type 0
IsRegister text r =
    (slice_get register_numbers r ≡ Some text) ⊎ (slice_get register_names r ≡ Some text)

-- the same as a function: the register of a text, or none
unfoldable pub register_of : List ℕ → Option ℕ
register_of text =
    option_map (λ place. place % 32)
    (position (λ known. bytes_eq known text) (register_numbers ++ register_names))
