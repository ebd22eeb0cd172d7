-- No name of a Seal is used twice, so a key and a counter block mask one text.
use Rattle.std.specs.Prelude.{◌≡◌, ℕ, true, List}
use Rattle.xom_seal.specs.declared.names.LineName.TheVariants.{Run}
use Rattle.xom_seal.specs.declared.names.RegName.{RegName}
use Rattle.xom_seal.specs.Counters.{line_counter, register_counter}
use Rattle.xom_seal.specs.Messages.{IsLineName, IsRegName, line_message, register_message}
use Rattle.xom_owners.specs.declared.owner.Owner.{Owner}
use Rattle.image_sealer.specs.Membership.{is_sealed}
use Rattle.xom_model.specs.Honest.{seals_of}
use Rattle.xom_model.specs.Versions.{StandsFor}
use Rattle.xom_model.specs.State.{CoreState}
use Rattle.xom_model.specs.Saves.{IsOnce}
use Rattle.xom_model.specs.Holds.{Holds}

-- while the journal is honest no pad serves twice: two Seals of one journal whose messages are
-- equal before the ciphertext, so in kind, install, line or register, and version or epoch, are
-- equal
abbrev pub NoPadTwice : StandsFor → Type 0
NoPadTwice Stands =
    (owners : List Owner) (core : CoreState) → Holds Stands owners core
    → IsOnce (seals_of core.entries)

-- The keys of an install's lines depend on boot and install alone, those of its registers on the
-- epoch too. So no pad of an install covers two texts: sealed lines, or registers, that share a
-- counter block have one ciphertext, and it is the same block of it.
pub record PadsCoverOneText (core : CoreState) : Type 0 where
  pub lines : (boot install line version other later i j : ℕ) (key ct its_key its_ct : List ℕ)
      → IsLineName (Run boot install line version) → IsLineName (Run boot install other later)
      → is_sealed key (line_message (Run boot install line version) ct) (seals_of core.entries)
      ≡ true
      → is_sealed its_key (line_message (Run boot install other later) its_ct)
      (seals_of core.entries) ≡ true
      → line_counter (Run boot install line version) i ≡ line_counter (Run boot install other later)
      j
      → (ct ≡ its_ct) × (i ≡ j)
  pub registers : (a b : RegName) (key ct its_key its_ct : List ℕ) → IsRegName a → IsRegName b
      → a.boot ≡ b.boot → a.install ≡ b.install
      → is_sealed key (register_message a ct) (seals_of core.entries) ≡ true
      → is_sealed its_key (register_message b its_ct) (seals_of core.entries) ≡ true
      → register_counter a ≡ register_counter b → ct ≡ its_ct

-- so it is of all that the machine keeps
abbrev pub PadsHold : StandsFor → Type 0
PadsHold Stands =
    (owners : List Owner) (core : CoreState) → Holds Stands owners core → PadsCoverOneText core
