-- Whether a key with a message is of an owner's sealing: read from the message, which names its
-- line.
use Rattle.std.specs.Prelude.{ℕ, ◌≡◌, ◌==◌, ◌&&◌, ◌||◌, Bool, List, length, nat_lt}
use Rattle.std.specs.List.{list_any}
use Rattle.std.specs.Str.{bytes_eq}
use Rattle.xom_base.specs.declared.key.Key256.{Key256}
use Rattle.xom_seal.specs.Messages.{envelope_message}
use Rattle.xom_seal.specs.Readers.{line_of_message}
use Rattle.xom_owners.specs.declared.owner.Owner.{Owner}
use Rattle.image_sealer.specs.Laws.{IsOwner}
use Rattle.image_sealer.specs.Sealing.{envelope_of, line_count, line_sealing_of, sealing_of}

-- ---- In a list

-- the key and the message are those of the sealing
abbrev pub is_sealing : List ℕ → List ℕ → List ℕ × List ℕ → Bool
is_sealing key message sealing = bytes_eq key sealing.0 && bytes_eq message sealing.1

-- the key with the message stands in the list
abbrev pub is_sealed : List ℕ → List ℕ → List (List ℕ × List ℕ) → Bool
is_sealed key message sealings = list_any (is_sealing key message) sealings

-- ---- By what the message names

-- how many bytes the message of an image line has
abbrev pub line_message_size : ℕ
line_message_size = 53

-- the message is that of the line of the owner's image which it names
abbrev pub is_line_message : Owner → List ℕ → Bool
is_line_message owner message =
    (length message == line_message_size)
    && (nat_lt (line_of_message message) (line_count owner.plain.bytes) && bytes_eq message
    (line_sealing_of owner (line_of_message message)).1)

-- the machine key with the message of the envelope, or the image key with the message of a line
abbrev pub is_own_sealing : Key256 → Owner → List ℕ → List ℕ → Bool
is_own_sealing machine owner key message =
    (bytes_eq key machine.0 && bytes_eq message (envelope_message (envelope_of machine owner)))
    || (bytes_eq key owner.key.0 && is_line_message owner message)

-- this is what it is to stand in the owner's sealing
abbrev pub MembersAreToldByTheirNames : Type 0
MembersAreToldByTheirNames =
    (machine : Key256) (owner : Owner) (key message : List ℕ) → IsOwner owner
    → is_own_sealing machine owner key message ≡ is_sealed key message (sealing_of machine owner)
