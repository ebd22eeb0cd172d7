-- What an owner takes tags of: one envelope and the lines of one image, and nothing that a machine
-- seals by itself.
use Rattle.std.specs.Prelude.{ℕ, ◌≡◌, ◌≢◌, ◌<◌, ◌⊎◌, List, Some, slice_get}
use Rattle.xom_base.specs.declared.key.Key256.{Key256}
use Rattle.xom_seal.specs.Messages.{envelope_message}
use Rattle.xom_seal.specs.Readers.{kind_of_text, register_kind, run_line_kind}
use Rattle.xom_owners.specs.declared.owner.Owner.{Owner}
use Rattle.image_sealer.specs.Sealing.{envelope_of, line_count, line_sealing_of, sealing_of}

-- the machine key with the message of the envelope
abbrev pub IsOfEnvelope : Key256 → Owner → List ℕ × List ℕ → Type 0
IsOfEnvelope machine owner member =
    (member.0 ≡ machine.0) × (member.1 ≡ envelope_message (envelope_of machine owner))

-- the image key with the message of one line, which has that line's ciphertext
abbrev pub IsOfLine : Owner → List ℕ × List ℕ → Type 0
IsOfLine owner member =
    (line : ℕ) × (line < line_count owner.plain.bytes) × (member ≡ line_sealing_of owner line)

-- a key and a message that an owner takes a tag of are of one of these
abbrev pub MembersAreOfTheImage : Type 0
MembersAreOfTheImage =
    (machine : Key256) (owner : Owner) (i : ℕ) (member : List ℕ × List ℕ)
    → slice_get (sealing_of machine owner) i ≡ Some member
    → IsOfEnvelope machine owner member ⊎ IsOfLine owner member

-- so none is the message of a run line or of a register
abbrev pub MembersAreNoRunsOwn : Type 0
MembersAreNoRunsOwn =
    (machine : Key256) (owner : Owner) (i : ℕ) (member : List ℕ × List ℕ)
    → slice_get (sealing_of machine owner) i ≡ Some member
    → (kind_of_text member.1 ≢ run_line_kind) × (kind_of_text member.1 ≢ register_kind)
