-- What is asked of an entry alone: the byte of an Out, the rule of a Stop, the text of a Hash.
use Rattle.std.specs.Prelude.{ℕ, List, Option, Some, None}
use Rattle.xom_base.specs.declared.entry.Entry.{Entry}
use Rattle.xom_base.specs.declared.entry.Entry.TheVariants as entry
use Rattle.xom_base.specs.declared.event.Rule.{Rule}

-- the byte that an entry wrote to the console, if it is an Out
abbrev pub byte_in : Entry → Option ℕ
byte_in (entry.Install n slot id place at lines) = None
byte_in (entry.Step n step) = None
byte_in (entry.Trap n why) = None
byte_in (entry.Seal key message) = None
byte_in (entry.Accept key message place) = None
byte_in (entry.Hash preimage digest) = None
byte_in (entry.Stop n rule) = None
byte_in (entry.Kill n) = None
byte_in (entry.Out byte) = Some byte

-- the rule by which an entry stopped a guest, if it is a Stop
abbrev pub stop_rule_in : Entry → Option Rule
stop_rule_in (entry.Install n slot id place at lines) = None
stop_rule_in (entry.Step n step) = None
stop_rule_in (entry.Trap n why) = None
stop_rule_in (entry.Seal key message) = None
stop_rule_in (entry.Accept key message place) = None
stop_rule_in (entry.Hash preimage digest) = None
stop_rule_in (entry.Stop n rule) = Some rule
stop_rule_in (entry.Kill n) = None
stop_rule_in (entry.Out byte) = None

-- the text that an entry hashed, and its digest, if it is a Hash
abbrev pub hash_in : Entry → Option (List ℕ × List ℕ)
hash_in (entry.Install n slot id place at lines) = None
hash_in (entry.Step n step) = None
hash_in (entry.Trap n why) = None
hash_in (entry.Seal key message) = None
hash_in (entry.Accept key message place) = None
hash_in (entry.Hash preimage digest) = Some (preimage, digest)
hash_in (entry.Stop n rule) = None
hash_in (entry.Kill n) = None
hash_in (entry.Out byte) = None
