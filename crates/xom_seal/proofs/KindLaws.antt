-- The first byte tells the kind.
use Rattle.std.proofs.Common.{ℕ, ◌<◌, refl, arith}
use Rattle.std.proofs.lemmas.Bool.Decides.{nat_tests}
use Rattle.std.proofs.lemmas.List.{get_or-take}
use Rattle.xom_seal.specs.Counters.{counter_block}
use Rattle.xom_seal.specs.Messages.{envelope_message, line_message, register_message}
use Rattle.xom_seal.specs.NameLaws.{CounterKindsAreTold, HeadsKeepTheirKind, MessageKindsAreTold}
use Rattle.xom_seal.specs.Readers.{head_of, head_size, kind_of_text}

pub message_kinds_are_told : MessageKindsAreTold
unfolding line_message register_message envelope_message
message_kinds_are_told = record {
  image_line = λ id line ct. refl;
  run_line = λ boot install line version ct. refl;
  register = λ name ct. refl;
  envelope = λ envelope. refl;
}

pub counter_kinds_are_told : CounterKindsAreTold
unfolding counter_block
counter_kinds_are_told = record {
  image_line = λ id line i. refl;
  run_line = λ boot install line version i. refl;
  register = λ name. refl;
  envelope = λ i. refl;
}

-- no head is empty
head_size-positive : (kind : ℕ) → 0 < head_size kind
head_size-positive kind = grind (arith, nat_tests)

pub heads_keep_their_kind : HeadsKeepTheirKind
unfolding head_of
heads_keep_their_kind message =
    get_or-take (head_size (kind_of_text message)) message 0 0 (head_size-positive (kind_of_text message))
