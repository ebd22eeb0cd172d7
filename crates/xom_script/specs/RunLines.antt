-- The lines of a run file, a row each: what the words of a line write, wherever it stands.
use Rattle.std.specs.Prelude.{◌≡◌, ℕ, ◌^◌, ◌<◌, ◌≤◌, ◌==◌, nat_lt, nat_le, if◌then◌else◌, List, [], ◌∷◌, length, codes, Option, Some, None, option_map}
use Rattle.std.specs.List.{AllZip}
use Rattle.std.specs.Str.{IsUtf8}
use Rattle.xom_base.specs.Options.{◌>>=◌, where_holds}
use Rattle.text_lines.specs.Hex.{IsHex, hex_of}
use Rattle.text_lines.specs.Numbers.{IsNumber, WritesBelow, number_below_of, number_of_word}
use Rattle.xom_base.specs.Sizes.{id_size, key_size}
use Rattle.xom_base.specs.declared.schedule.Interrupts.{Interrupts}
use Rattle.xom_base.specs.declared.schedule.Interrupts.TheVariants as interrupts
use Rattle.xom_script.specs.Fields.{Writes32, WritesBytes, name_of_word, row_by_name, write_bytes_of}
use Rattle.xom_script.specs.declared.run_file.KernelLine.{KernelLine}
use Rattle.xom_script.specs.declared.run_file.KernelLine.TheVariants as kernel
use Rattle.xom_script.specs.declared.run_line.RunLine.{RunLine}
use Rattle.xom_script.specs.declared.run_line.RunLine.TheVariants as line

-- the words behind `kernel`: its script, its image, or how many frames for pages a guest of XOMOS
-- has
abbrev pub IsKernel : List (List ℕ) → KernelLine → Type 0
IsKernel words (kernel.Script file) = (words ≡ codes "script" ∷ file ∷ []) × IsUtf8 file
IsKernel words (kernel.Image file) = (words ≡ codes "image" ∷ file ∷ []) × IsUtf8 file
IsKernel words (kernel.Xomos pages) =
    (f : List ℕ) × (words ≡ codes "xomos" ∷ f ∷ []) × WritesBelow 257 f pages × (2 ≤ pages)

-- each number is above the one before it
abbrev pub Ascends : ℕ → List ℕ → Type 0
Ascends last [] = Unit {0}
Ascends last (n ∷ ns) = (last < n) × Ascends n ns

-- The words behind `interrupt`: a number at least 1 for its multiples, or one number or more, at
-- least 1,
-- that ascend strictly.
abbrev pub IsInterrupts : List (List ℕ) → Interrupts → Type 0
IsInterrupts words interrupts.Never = words ≡ codes "never" ∷ []
IsInterrupts words (interrupts.Every n) =
    (w : List ℕ) × (words ≡ codes "every" ∷ w ∷ []) × IsNumber w n × (1 ≤ n)
IsInterrupts words (interrupts.At times) =
    (numbers : List (List ℕ)) × (words ≡ codes "at" ∷ numbers)
    × AllZip IsNumber numbers times × (0 < length times) × Ascends 0 times

-- the words write the line; file names are words in UTF-8
abbrev pub IsRunLine : List (List ℕ) → RunLine → Type 0
IsRunLine words (line.Machine key) =
    (k : List ℕ) × (words ≡ codes "machine" ∷ k ∷ []) × IsHex key_size k key.0
IsRunLine words (line.Boot boot) =
    (n : List ℕ) × (words ≡ codes "boot" ∷ n ∷ []) × WritesBelow (2 ^ 63) n boot
IsRunLine words (line.Frames frames) =
    (n : List ℕ) × (words ≡ codes "frames" ∷ n ∷ []) × WritesBelow 8193 n frames × (4 ≤ frames)
IsRunLine words (line.Budget budget) =
    (n : List ℕ) × (words ≡ codes "budget" ∷ n ∷ []) × WritesBelow 1048577 n budget
IsRunLine words (line.Owner owner) =
    (k i : List ℕ) × (words ≡ codes "owner" ∷ owner.plain ∷ k ∷ i ∷ [])
    × IsUtf8 owner.plain × IsHex key_size k owner.key.0 × IsHex id_size i owner.id.0
IsRunLine words (line.Guest sealed None) = (words ≡ codes "guest" ∷ sealed ∷ []) × IsUtf8 sealed
IsRunLine words (line.Guest sealed (Some input)) =
    (words ≡ codes "guest" ∷ sealed ∷ input ∷ []) × IsUtf8 sealed × IsUtf8 input
IsRunLine words (line.Kernel kernel) =
    (more : List (List ℕ)) × (words ≡ codes "kernel" ∷ more) × IsKernel more kernel
IsRunLine words (line.Interrupt interrupts) =
    (more : List (List ℕ)) × (words ≡ codes "interrupt" ∷ more) × IsInterrupts more interrupts
IsRunLine words (line.Poke poke) =
    (e a h : List ℕ) × (words ≡ codes "poke" ∷ e ∷ a ∷ h ∷ [])
    × IsNumber e poke.event × Writes32 a poke.address × WritesBytes h poke.bytes

-- ---- the same as a function: of the words behind the first one the line, or none

-- the words behind `machine`: the machine's key
unfoldable pub machine_line : List (List ℕ) → Option RunLine
machine_line (key ∷ []) = do
  key ← hex_of key_size key
  Some (line.Machine (record { 0 = key }))
machine_line _ = None

-- the word behind `boot`: the boot number
unfoldable pub boot_line : List (List ℕ) → Option RunLine
boot_line (n ∷ []) = do
  boot ← number_below_of (2 ^ 63) n
  Some (line.Boot boot)
boot_line _ = None

-- the word behind `frames`: the frames of RAM, 4 to 8,192
unfoldable pub frames_line : List (List ℕ) → Option RunLine
frames_line (n ∷ []) = do
  frames ← number_below_of 8193 n
  where_holds (nat_le 4 frames) (line.Frames frames)
frames_line _ = None

-- the word behind `budget`: at most so many events, up to 1,048,576
unfoldable pub budget_line : List (List ℕ) → Option RunLine
budget_line (n ∷ []) = do
  budget ← number_below_of 1048577 n
  Some (line.Budget budget)
budget_line _ = None

-- the words behind `owner`: its plain image's file, its key and its id
unfoldable pub owner_line : List (List ℕ) → Option RunLine
owner_line (plain ∷ key ∷ id ∷ []) = do
  plain ← name_of_word plain
  key ← hex_of key_size key
  id ← hex_of id_size id
  Some (line.Owner (record { plain = plain; key = record { 0 = key }; id = record { 0 = id } }))
owner_line _ = None

-- a guest's sealed image and the file of its input
unfoldable pub guest_and_input_line : List ℕ → List ℕ → Option RunLine
guest_and_input_line sealed input = do
  sealed ← name_of_word sealed
  input ← name_of_word input
  Some (line.Guest sealed (Some input))

-- the words behind `guest`: its sealed image's file, and that of its input, if it has one
unfoldable pub guest_line : List (List ℕ) → Option RunLine
guest_line (sealed ∷ []) = do
  sealed ← name_of_word sealed
  Some (line.Guest sealed None)
guest_line (sealed ∷ input ∷ []) = guest_and_input_line sealed input
guest_line _ = None

-- the word behind `kernel xomos`: the pages of each guest, 2 to 256
unfoldable pub pages_line : List ℕ → Option RunLine
pages_line word = do
  pages ← number_below_of 257 word
  where_holds (nat_le 2 pages) (line.Kernel (kernel.Xomos pages))

-- the kernel's lines, by its kind
abbrev pub kernel_rows : List ℕ → List (List ℕ × Option RunLine)
kernel_rows word =
    (codes "script", option_map (λ file. line.Kernel (kernel.Script file)) (name_of_word word))
    ∷ (codes "image", option_map (λ file. line.Kernel (kernel.Image file)) (name_of_word word))
    ∷ (codes "xomos", pages_line word)
    ∷ []

-- the words behind `kernel`: its kind, and a word of that kind
unfoldable pub kernel_choice : List (List ℕ) → Option RunLine
kernel_choice (kind ∷ word ∷ []) = row_by_name (kernel_rows word) kind
kernel_choice _ = None

-- nothing stands behind `interrupt never`
unfoldable pub never_line : List (List ℕ) → Option RunLine
never_line [] = Some (line.Interrupt interrupts.Never)
never_line _ = None

-- the word behind `interrupt every`: a number from 1 on
unfoldable pub every_line : List (List ℕ) → Option RunLine
every_line (n ∷ []) = do
  n ← number_of_word n
  where_holds (nat_le 1 n) (line.Interrupt (interrupts.Every n))
every_line _ = None

-- the numbers of the words, each above the one before
unfoldable pub times_of : ℕ → List (List ℕ) → Option (List ℕ)
times_of last [] = Some []
times_of last (word ∷ words) = do
  n ← number_of_word word
  above ← where_holds (nat_lt last n) n
  more ← times_of n words
  Some (n ∷ more)

-- the words behind `interrupt at`: numbers that ascend, at least one
unfoldable pub at_line : List (List ℕ) → Option RunLine
at_line words =
    if length words == 0 then None else (do
      times ← times_of 0 words
      Some (line.Interrupt (interrupts.At times)))

-- the lines of the interrupt line, by their kind
abbrev pub interrupt_rows : List (List ℕ) → List (List ℕ × Option RunLine)
interrupt_rows words =
    (codes "never", never_line words) ∷ (codes "every", every_line words) ∷ (codes "at", at_line words)
    ∷ []

-- the words behind `interrupt`: its kind, and the words of that kind
unfoldable pub interrupt_line : List (List ℕ) → Option RunLine
interrupt_line (kind ∷ words) = row_by_name (interrupt_rows words) kind
interrupt_line [] = None

-- the words behind `poke`: the event, the address and the bytes of a write of the bus
unfoldable pub poke_line : List (List ℕ) → Option RunLine
poke_line (event ∷ address ∷ bytes ∷ []) = do
  event ← number_of_word event
  address ← number_below_of (2 ^ 32) address
  bytes ← write_bytes_of bytes
  Some (line.Poke (record { event = event; address = address; bytes = bytes }))
poke_line _ = None

-- the lines of a run file, by their kind
abbrev pub run_rows : List (List ℕ) → List (List ℕ × Option RunLine)
run_rows words =
    (codes "machine", machine_line words)
    ∷ (codes "boot", boot_line words)
    ∷ (codes "frames", frames_line words)
    ∷ (codes "budget", budget_line words)
    ∷ (codes "owner", owner_line words)
    ∷ (codes "guest", guest_line words)
    ∷ (codes "kernel", kernel_choice words)
    ∷ (codes "interrupt", interrupt_line words)
    ∷ (codes "poke", poke_line words)
    ∷ []

-- the line that words write, or none
unfoldable pub run_line_of : List (List ℕ) → Option RunLine
run_line_of [] = None
run_line_of (kind ∷ words) = row_by_name (run_rows words) kind
