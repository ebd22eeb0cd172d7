-- Messages that are equal before their ciphertexts are of one name.
use Rattle.std.proofs.Common.{◌≡◌, ℕ, ◌+◌, List, [], ◌∷◌, ◌++◌, take, refl, ap, sym, ◌∙◌}
use Rattle.std.specs.Int.{w32, to_be_bytes}
use Rattle.std.proofs.Math.Seq.{take-append-add}
use Rattle.xom_base.specs.declared.key.Key256.{Key256}
use Rattle.xom_seal.specs.declared.names.LineName.{LineName}
use Rattle.xom_seal.specs.declared.names.LineName.TheVariants.{Image, Run}
use Rattle.xom_seal.specs.declared.names.RegName.{RegName}
use Rattle.xom_seal.specs.Counters.{line_counter, register_counter}
use Rattle.xom_seal.specs.Messages.{IsLineName, line_message, register_message}
use Rattle.xom_seal.specs.NameLaws.{AreOneLine, AreOneRegister, LineHeadsTell, RegisterHeadsTell, keys_of_register, line_keys}
use Rattle.xom_seal.specs.Readers.{head_of}
use Rattle.xom_seal.proofs.MessageLaws.{line_messages_tell, register_messages_tell}

-- the head of a line's message is the message without a ciphertext
head_of-line : (name : LineName) (ct : List ℕ) → IsLineName name
    → head_of (line_message name ct) ≡ line_message name []
unfolding head_of line_message
head_of-line (Image id line) ct named =
    ap (λ n. 1 ∷ take (n + 4) (id.0 ++ (to_be_bytes w32 line ++ ct))) (sym named.0)
    ∙ ap (λ rest. 1 ∷ rest) (take-append-add id.0 (to_be_bytes w32 line ++ ct) 4)
head_of-line (Run boot install line version) ct named = refl

head_of-register : (name : RegName) (ct : List ℕ)
    → head_of (register_message name ct) ≡ register_message name []
unfolding head_of register_message
head_of-register name ct = refl

one_line : (key : Key256) (a b : LineName) → a ≡ b → AreOneLine key a b
one_line key a b same = record {
  name = same;
  keys = ap (line_keys key) same;
  counters =
      λ i. ap (λ name. line_counter name i) same;
}

one_register : (key : Key256) (a b : RegName) → a ≡ b → AreOneRegister key a b
one_register key a b same = record {
  name = same;
  keys = ap (keys_of_register key) same;
  counters =
      ap register_counter same;
}

pub line_heads_tell : LineHeadsTell
line_heads_tell key a b ct other named named' same =
    one_line key a b
    (line_messages_tell a b [] [] named named' (sym (head_of-line a ct named) ∙ same
    ∙ head_of-line b other named')).0

pub register_heads_tell : RegisterHeadsTell
register_heads_tell key a b ct other named named' same =
    one_register key a b
    (register_messages_tell a b [] [] named named' (sym (head_of-register a ct) ∙ same
    ∙ head_of-register b other)).0
