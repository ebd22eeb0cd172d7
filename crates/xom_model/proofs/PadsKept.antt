-- Names that share a counter block of one install are one name, so their Seals are one.
use Rattle.std.proofs.Common.{◌≡◌, [], sym, ◌∙◌, ap}
use Rattle.xom_seal.specs.declared.names.LineName.TheVariants.{Run}
use Rattle.xom_seal.specs.declared.names.RegName.{RegName}
use Rattle.xom_seal.specs.Messages.{line_message, register_message}
use Rattle.xom_seal.proofs.CounterLaws.{line_counters_tell, register_counters_tell}
use Rattle.xom_seal.proofs.MessageLaws.{line_messages_tell, register_messages_tell}
use Rattle.xom_model.specs.Versions.{StandsFor}
use Rattle.xom_model.specs.Pads.{PadsHold}
use Rattle.xom_model.proofs.SealLists.{register_before, run_before}

pub pads_hold : (Stands : StandsFor) → PadsHold Stands
pads_hold Stands owners core holds = record {
  lines = λ boot install line version other later i j key ct its_key its_ct named named' one two same.
      let told = line_counters_tell (Run boot install line version) (Run boot install other later) i
      j named named' same in
      let front : line_message (Run boot install line version) [] ≡ line_message
      (Run boot install other later) [] =
      ap (λ l. line_message (Run boot install l version) []) told.0.0
      ∙ ap (λ n. line_message (Run boot install other n) []) told.0.1 in
      let equal = holds.slots.seals.once key (line_message (Run boot install line version) ct)
      its_key (line_message (Run boot install other later) its_ct) one two
      (run_before boot install line version ct ∙ front
      ∙ sym (run_before boot install other later its_ct)) in (
        (line_messages_tell (Run boot install line version) (Run boot install other later) ct its_ct
            named named' equal.1).1,
        told.1,
      );
  registers = λ a b key ct its_key its_ct named named' boot install one two same.
      let told = register_counters_tell a b named named' same in
      let name : a ≡ b =
      ap (λ n. let r : RegName = record a { boot = n } in r) boot ∙ ap (λ n. let r : RegName =
      record a { boot = b.boot; install = n } in r) install
      ∙ ap (λ n. let r : RegName = record a { boot = b.boot; install = b.install; epoch = n } in r)
      told.1 ∙ ap (λ n. let r : RegName = record b { reg = n } in r) told.0 in
      let equal = holds.slots.seals.once key (register_message a ct) its_key
      (register_message b its_ct) one two
      (register_before a ct ∙ ap (λ n. register_message n []) name
      ∙ sym (register_before b its_ct)) in
      (register_messages_tell a b ct its_ct named named' equal.1).1;
}
