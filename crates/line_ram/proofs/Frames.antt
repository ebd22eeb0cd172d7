-- A line that is written in the bytes of its frame is written in RAM.
use Rattle.std.proofs.Common.{◌≡◌, ℕ, ◌+◌, ◌*◌, ◌≤◌, List, ◌++◌, length, take, drop, sym, ◌∙◌, ap, arith}
use Rattle.std.proofs.lemmas.List.{append_assoc, length-append, length-drop, length-take-le, take_at}
use Rattle.std.proofs.lemmas.Slice.{drop-append-drop}
use Rattle.xom_base.specs.Frames.{frame_size}
use Rattle.line_ram.specs.Bytes.{HoldsRange, bytes_at, ram_with_bytes}
use Rattle.line_ram.specs.Lending.{stored_through}
use Rattle.line_ram.specs.Laws.{LinesAreLent}
use Rattle.line_ram.proofs.Ranges.{bytes-stored_same, length-stored, stored-inside}

-- what was stored first is of no account where as many bytes are stored over it
stored-stored : (ram bytes others : List ℕ) (address : ℕ) → HoldsRange ram address (length bytes)
    → length others ≡ length bytes
    → ram_with_bytes (ram_with_bytes ram address bytes) address others ≡ ram_with_bytes ram address others
stored-stored ram bytes others address held same =
    let front = take address ram in let rest = drop (address + length bytes) ram in
    let long : length front ≡ address = length-take-le address ram (omega arith) in
    ap (λ l. l ++ (others ++ drop (address + length others) (ram_with_bytes ram address bytes)))
    (take_at front (bytes ++ rest) address long)
    ∙ ap (λ l. front ++ (others ++ drop (address + length others) l))
    (sym (append_assoc front bytes rest))
    ∙ ap (λ l. front ++ (others ++ l)) (drop-append-drop (address + length bytes) ram
    (front ++ bytes) (address + length others) (omega arith)
    (length-append front bytes ∙ omega (arith, long)))

-- a loan that has its length stores what is there
stored_through-stored : (ram bytes : List ℕ) (address : ℕ) → HoldsRange ram address (length bytes)
    → stored_through ram address bytes ≡ ram_with_bytes ram address bytes
stored_through-stored ram bytes address held =
    take_at (ram_with_bytes ram address bytes) (drop (length (ram_with_bytes ram address bytes)) ram) (length ram)
    (length-stored ram bytes address held)

-- two writes in the bytes of a range, put back
stored-inside_twice : (ram one other : List ℕ) (address count first second : ℕ)
    → HoldsRange ram address count → first + length one ≤ count → second + length other ≤ count
    → ram_with_bytes ram address (ram_with_bytes (ram_with_bytes (bytes_at ram address count) first one) second other)
    ≡ ram_with_bytes (ram_with_bytes ram (address + first) one) (address + second) other
stored-inside_twice ram one other address count first second held fits fits_too =
    let range = bytes_at ram address count in let once = ram_with_bytes range first one in let now =
    ram_with_bytes ram address once in
    let long : length range ≡ count = length-take-le count (drop address ram)
    (omega (arith, length-drop address ram)) in
    let full : length once ≡ count = length-stored range one first (omega arith) ∙ long in
    let whole : length (ram_with_bytes once second other) ≡ length once = length-stored once other second
    (omega arith) in
    let seen : bytes_at now address count ≡ once = ap (bytes_at now address) (sym full)
    ∙ bytes-stored_same ram once address (omega arith) in
    let size : length now ≡ length ram = length-stored ram once address (omega arith) in
    sym (stored-stored ram once (ram_with_bytes once second other) address (omega arith) whole)
    ∙ ap (λ l. ram_with_bytes now address (ram_with_bytes l second other)) (sym seen)
    ∙ stored-inside now other address count second (omega arith) fits_too
    ∙ ap (λ l. ram_with_bytes l (address + second) other) (stored-inside ram one address count first held
    fits)

pub lines-lent : LinesAreLent
lines-lent ram ciphertext tag frame index held low ciphertext_long tag_long =
    let at = frame * frame_size in let range = bytes_at ram at frame_size in
    let long : length range ≡ frame_size = length-take-le frame_size (drop at ram)
    (omega (arith, length-drop at ram)) in
    let once : length (ram_with_bytes range (32 * index) ciphertext) ≡ length range =
    length-stored range ciphertext (32 * index) (omega arith) in
    let twice : length (ram_with_bytes (ram_with_bytes range (32 * index) ciphertext) (4096 + 32 * index) tag)
    ≡ length (ram_with_bytes range (32 * index) ciphertext) =
    length-stored (ram_with_bytes range (32 * index) ciphertext) tag (4096 + 32 * index) (omega arith) in
    stored_through-stored ram (ram_with_bytes (ram_with_bytes range (32 * index) ciphertext) (4096 + 32 * index)
    tag) at (omega arith)
    ∙ stored-inside_twice ram ciphertext tag at frame_size (32 * index) (4096 + 32 * index) held
    (omega arith) (omega arith)
    ∙ ap (λ n. ram_with_bytes (ram_with_bytes ram (at + 32 * index) ciphertext) n tag)
    {x = at + (4096 + 32 * index)} {y = at + 4096 + 32 * index} (omega arith)
