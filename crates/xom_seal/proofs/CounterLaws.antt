-- Equal counter blocks have the same fields, so none serves two names of one image or one install.
use Rattle.std.proofs.Common.{◌≢◌, ℕ, ◌^◌, ◌<◌, ap, arith, drop, get_or, ◌∙◌}
use Rattle.std.specs.Int.{w64, to_be_bytes}
use Rattle.xom_base.specs.declared.key.ImageId.{ImageId}
use Rattle.xom_seal.specs.declared.names.LineName.{LineName}
use Rattle.xom_seal.specs.declared.names.LineName.TheVariants.{Image, Run}
use Rattle.xom_seal.specs.declared.names.RegName.{RegName}
use Rattle.xom_seal.specs.Counters.{counter_block, envelope_counter, line_counter, register_counter}
use Rattle.xom_seal.specs.Laws.{CounterBlocksTell, CounterKindsDiffer, LineCountersTell, RegisterCountersTell}
use Rattle.xom_seal.specs.NameLaws.{EnvelopeCountersServeOne, LineCountersServeOne, RegisterCountersServeOne}
use Rattle.xom_seal.proofs.Fields.{front_4, same_numbers_8}

-- blocks of two domains differ whatever the other fields are
domains_differ : (domain domain' block block' place place' version version' : ℕ) → domain ≢ domain'
    → counter_block domain block place version ≢ counter_block domain' block' place' version'
unfolding counter_block
domains_differ domain domain' block block' place place' version version' apart same =
    apart (ap (λ text. get_or text 0 0) same)

pub counter_blocks_tell : CounterBlocksTell
unfolding counter_block
counter_blocks_tell domain domain' block block' place place' version version' p p' v v' same =
    let places = front_4 place place' (to_be_bytes w64 version) (to_be_bytes w64 version') p p'
    (ap (λ text. drop 4 text) same) in (
      ap (λ text. get_or text 0 0) same,
      ap (λ text. get_or text 1 0) same,
      places.0,
      same_numbers_8 version version' v v' places.1,
    )

pub line_counters_tell : LineCountersTell
line_counters_tell (Image id line) (Image id' line') i j named named' same =
    let told = counter_blocks_tell 1 1 i j line line' 1 1 named.1 named'.1 (omega arith)
    (omega arith) same in
    (told.2, told.1)
line_counters_tell (Image id line) (Run boot install line' version) i j named named' same =
    absurd (domains_differ 1 2 i j line line' 1 version (omega arith) same)
line_counters_tell (Run boot install line version) (Image id line') i j named named' same =
    absurd (domains_differ 2 1 i j line line' version 1 (omega arith) same)
line_counters_tell (Run boot install line version) (Run boot' install' line' version') i j named
    named' same =
    let told = counter_blocks_tell 2 2 i j line line' version version' named.2 named'.2 named.3
    named'.3 same in
    ((told.2, told.3), told.1)

pub register_counters_tell : RegisterCountersTell
register_counters_tell a b named named' same =
    let reg : a.reg < 2 ^ 8 = named.reg in
    let reg' : b.reg < 2 ^ 8 = named'.reg in
    let told = counter_blocks_tell 3 3 0 0 a.reg b.reg a.epoch b.epoch (omega arith) (omega arith)
    named.epoch named'.epoch same in
    (told.2, told.3)

image_run_differ : (id : ImageId) (place boot install line version i j : ℕ)
    → line_counter (Image id place) i ≢ line_counter (Run boot install line version) j
image_run_differ id place boot install line version i j same =
    domains_differ 1 2 i j place line 1 version (omega arith) same

line_register_differ : (line : LineName) (register : RegName) (i : ℕ)
    → line_counter line i ≢ register_counter register
line_register_differ (Image id place) register i same =
    domains_differ 1 3 i 0 place register.reg 1 register.epoch (omega arith) same
line_register_differ (Run boot install line version) register i same =
    domains_differ 2 3 i 0 line register.reg version register.epoch (omega arith) same

line_envelope_differ : (line : LineName) (i j : ℕ) → line_counter line i ≢ envelope_counter j
line_envelope_differ (Image id place) i j same =
    domains_differ 1 4 i j place 0 1 0 (omega arith) same
line_envelope_differ (Run boot install line version) i j same =
    domains_differ 2 4 i j line 0 version 0 (omega arith) same

register_envelope_differ : (register : RegName) (j : ℕ)
    → register_counter register ≢ envelope_counter j
register_envelope_differ register j same =
    domains_differ 3 4 0 j register.reg 0 register.epoch 0 (omega arith) same

pub counter_kinds_differ : CounterKindsDiffer
counter_kinds_differ = record {
  image_run = image_run_differ;
  line_register = line_register_differ;
  line_envelope = line_envelope_differ;
  register_envelope = register_envelope_differ;
}

pub line_counters_serve_one : LineCountersServeOne
line_counters_serve_one (Image id line) (Image id' line') i j named named' shared same =
    let told = line_counters_tell (Image id line) (Image id' line') i j named named' same in
    (ap (λ n. Image n line) shared ∙ ap (λ n. Image id' n) told.0, told.1)
line_counters_serve_one (Image id line) (Run boot install line' version) i j named named' shared
    same = absurd shared
line_counters_serve_one (Run boot install line version) (Image id line') i j named named' shared
    same = absurd shared
line_counters_serve_one (Run boot install line version) (Run boot' install' line' version') i j
    named named' shared same =
    let told = line_counters_tell (Run boot install line version)
    (Run boot' install' line' version') i j named named' same in (
      ap (λ n. Run n install line version) shared.0 ∙ ap (λ n. Run boot' n line version) shared.1
          ∙ ap (λ n. Run boot' install' n version) told.0.0 ∙ ap (λ n. Run boot' install' line' n)
          told.0.1,
      told.1,
    )

pub register_counters_serve_one : RegisterCountersServeOne
register_counters_serve_one a b named named' boots installs same =
    let told = register_counters_tell a b named named' same in
    ap (λ n. record a { boot = n }) boots ∙ ap (λ n. record a { boot = b.boot; install = n })
    installs
    ∙ ap (λ n. record a { boot = b.boot; install = b.install; epoch = n }) told.1
    ∙ ap (λ n. record b { reg = n }) told.0

pub envelope_counters_serve_one : EnvelopeCountersServeOne
envelope_counters_serve_one i j same =
    (counter_blocks_tell 4 4 i j 0 0 0 0 (omega arith) (omega arith) (omega arith) (omega arith)
    same).1
