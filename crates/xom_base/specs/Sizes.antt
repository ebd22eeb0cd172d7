-- The machine's sizes: how many slots, compartments, registers, pages and bytes there are.
use Rattle.std.specs.Prelude.{ℕ, ◌^◌}

-- how many guests the machine holds at once. The slots are numbered from 1 to this number
abbrev pub slot_limit : ℕ
slot_limit = 16

-- how many compartments there are: the null compartment with number 0, and the slots
abbrev pub compartment_count : ℕ
compartment_count = 17

-- the length of a list with a place for each register: $1 to $31, HI at 32 and LO at 33. Place 0
-- isn't used
abbrev pub register_places : ℕ
register_places = 34

-- how many bytes of private memory a guest has, from address 0 on
abbrev pub window_size : ℕ
window_size = 2 ^ 20

-- how many pages a guest's private memory has
abbrev pub page_count : ℕ
page_count = 256

-- how many bytes an owner's id has
abbrev pub id_size : ℕ
id_size = 16

-- how many bytes a key of the machine, of an owner or of a guest has
abbrev pub key_size : ℕ
key_size = 32

-- how many bytes a line of private memory has, sealed or not
abbrev pub line_size : ℕ
line_size = 32

-- how many bytes the tag of a message has
abbrev pub tag_size : ℕ
tag_size = 32

-- how many lines a page has
abbrev pub page_lines : ℕ
page_lines = 128
