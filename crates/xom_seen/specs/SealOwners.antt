-- What an event emits tells whose lines and registers were sealed, and who was stopped.
use Rattle.std.specs.Prelude.{◌≡◌, ◌⊎◌, ℕ, Bool, true, List, [], ◌∷◌, ◌++◌}
use Rattle.xom_base.specs.declared.entry.Entry.{Entry}
use Rattle.xom_base.specs.declared.entry.Entry.TheVariants as entry
use Rattle.xom_base.specs.declared.event.Event.{Event}
use Rattle.xom_base.specs.declared.event.Rule.{Rule}
use Rattle.keyed_mac.specs.Hmac.{hmac_sha256}
use Rattle.xom_seal.specs.declared.names.LineName.{LineName}
use Rattle.xom_seal.specs.declared.names.LineName.TheVariants.{Image, Run}
use Rattle.xom_seal.specs.declared.names.RegName.{RegName}
use Rattle.xom_seal.specs.Messages.{line_message, register_message}
use Rattle.session_table.specs.declared.session.Session.{Session}
use Rattle.session_table.specs.Sessions.{IsLiveIn, session_at}
use Rattle.xom_versions.specs.Versions.{Raised, RaisesInTheOpen, Versions}
use Rattle.xom_model.specs.State.{CoreState, Record, session_of}
use Rattle.xom_model.specs.Event.{fits, on}
use Rattle.xom_model.specs.Touched.{slot_of_event}
use Rattle.xom_seen.specs.Emission.{Broke, LineSealed, Made, RegisterSealed, Signal, is_ready, names_of, signals_of_event}
use Rattle.xom_seen.specs.NoWayOut.{IsSettled}

-- the name is of this line of the session's guest: under its install number, or as a line of its
-- image
abbrev pub IsLineOf : Session → ℕ → LineName → Type 0
IsLineOf s line (Image id at) = (id ≡ s.id) × (at ≡ line)
IsLineOf s line (Run boot install at version) = (install ≡ s.install) × (at ≡ line)

-- A Seal of a line of a live slot: its message names the line and ends with the ciphertext, and its
-- tag is the HMAC of the message.
pub record SealsLine (sessions : List Session) (key message : List ℕ) (told : List Signal) : Type
    0 where
  pub slot : ℕ
  pub line : ℕ
  pub ct : List ℕ
  pub name : LineName
  pub live : IsLiveIn sessions slot
  pub named : IsLineOf (session_at sessions slot) line name
  pub text : message ≡ line_message name ct
  pub given : told ≡ LineSealed slot line ct (hmac_sha256 key message) ∷ []

-- The same of a register.
pub record SealsRegister (sessions : List Session) (key message : List ℕ)
    (told : List Signal) : Type 0 where
  pub slot : ℕ
  pub ct : List ℕ
  pub name : RegName
  pub live : IsLiveIn sessions slot
  pub named : name.install ≡ (session_at sessions slot).install
  pub text : message ≡ register_message name ct
  pub given : told ≡ RegisterSealed slot name.reg ct (hmac_sha256 key message) ∷ []

-- A Stop of a live slot.
pub record StopsSlot (sessions : List Session) (install : ℕ) (why : Rule)
    (told : List Signal) : Type 0 where
  pub slot : ℕ
  pub live : IsLiveIn sessions slot
  pub named : (session_at sessions slot).install ≡ install
  pub given : told ≡ Broke slot why ∷ []

module _ (sessions : List Session) (ready : Bool) where
  -- what an entry gives away: a step, a Seal and a Stop give one signal, the others none
  abbrev pub Gives : Entry → List Signal → Type 0
  Gives (entry.Step install step) told =
      told ≡ Made (names_of step.writes) step.released step.end ready ∷ []
  Gives (entry.Seal key message) told =
      SealsLine sessions key message told ⊎ SealsRegister sessions key message told
  Gives (entry.Stop install why) told = StopsSlot sessions install why told
  Gives other told = told ≡ []

  -- and a list of entries, in their order
  abbrev pub GiveAll : List Entry → List Signal → Type 0
  GiveAll [] told = told ≡ []
  GiveAll (e ∷ entries) told =
      (first : List Signal) × (rest : List Signal) × Gives e first × GiveAll entries rest
      × (told ≡ first ++ rest)

-- the signals tell of the entries that came behind those of the core, in their order
pub record AreToldOf (core : CoreState) (ready : Bool) (new : CoreState) (told : List Signal) : Type
    0 where
  pub added : List Entry
  pub entries : new.entries ≡ core.entries ++ added
  pub gives : GiveAll core.sessions ready added told

-- The law: each signal of an event is true of its entry.
abbrev pub EventsTellOwners : Type 0
EventsTellOwners = (v : Versions) (raised : Raised) → RaisesInTheOpen v raised → (r : Record)
    (e : Event) (chunk : List ℕ)
    → fits r e ≡ true → IsSettled r.core
    → AreToldOf r.core (is_ready (session_of (on v r e chunk).0.core (slot_of_event r e)))
    (on v r e chunk).0.core (signals_of_event v r e (on v r e chunk).0)
