-- What opens was sealed so; what an envelope says stands in its message.
use Rattle.std.specs.Prelude.{ℕ, ◌≡◌, List, length, Some}
use Rattle.aes_block.specs.Laws.{AreBytes}
use Rattle.xom_base.specs.declared.key.Key256.{Key256}
use Rattle.xom_seal.specs.declared.envelope.Unwrapped.{Unwrapped}
use Rattle.xom_seal.specs.declared.keys.RegisterKeys.{RegisterKeys}
use Rattle.xom_seal.specs.declared.names.RegName.{RegName}
use Rattle.xom_seal.specs.declared.register.SealedReg.{SealedReg}
use Rattle.xom_seal.specs.Envelopes.{contents_of, envelope_contents, wrapped_key_of}
use Rattle.xom_seal.specs.Messages.{envelope_message}
use Rattle.xom_seal.specs.Sealing.{sealed_register, unsealed_register}

-- a register that opens is the sealing of its value
abbrev pub RegistersAreSealings : Type 0
RegistersAreSealings =
    (name : RegName) (keys : RegisterKeys) (sealed : SealedReg) (value : ℕ)
    → AreBytes keys.aes.0 → length sealed.ct ≡ 4 → AreBytes sealed.ct
    → unsealed_register name keys sealed ≡ Some value → sealed ≡ sealed_register name keys value

-- an envelope that opens is the wrapping of what it says
abbrev pub EnvelopesAreWrappings : Type 0
EnvelopesAreWrappings =
    (machine : Key256) (envelope : List ℕ) (plain : Unwrapped) → length envelope ≡ 88
    → AreBytes envelope
    → envelope_contents machine envelope ≡ Some plain → envelope ≡ wrapped_key_of machine plain

-- equal messages of envelopes have equal contents, whatever their tags
abbrev pub EnvelopeMessagesTellContents : Type 0
EnvelopeMessagesTellContents =
    (machine : Key256) (a b : List ℕ) → envelope_message a ≡ envelope_message b
    → contents_of machine a ≡ contents_of machine b
