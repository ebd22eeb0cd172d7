-- A file that can't be read, where no read failed, isn't held.
use Rattle.std.proofs.Common.{◌≡◌, ◌⊎◌, inl, inr, ℕ, List, [], ◌∷◌, Option, Some, None, Result, Ok, Err, true, false, cond, length, refl, subst}
use Rattle.std.specs.Prelude.{nat_le}
use Rattle.xom_base.specs.declared.key.ImageId.{ImageId}
use Rattle.xom_base.specs.declared.key.Key256.{Key256}
use Rattle.cli_base.specs.declared.refusal.InputFault.{InputFault}
use Rattle.cli_base.specs.declared.refusal.InputFault.TheVariants.{TooLong}
use Rattle.cli_base.specs.declared.refusal.Refusal.{Refusal}
use Rattle.cli_base.specs.declared.refusal.Refusal.TheVariants.{Unread, Bad}
use Rattle.cli_programs.specs.Assembly.{Assembles, AssemblesRead}
use Rattle.cli_programs.proofs.Assembled.{said-unread}
use Rattle.cli_base.specs.Inputs.{Held, fetched_bytes, file_or_refusal, image_of, in_file, input_of, ◌>>=◌}
use Rattle.cli_programs.specs.Programs.{received_values, source_limit}
use Rattle.xom_cli.specs.Outcome.{IsOutcome}
use Rattle.cli_programs.specs.Programs.{disasm_of, plain_of, seal_answer, values_of}
use Rattle.xom_cli.specs.Rows.{Row, Asm, Disasm, Plain, Seal, Run, Trace, Judge, Debug}
use Rattle.cli_debug.specs.Debug.{commands_of, debug_of}
use Rattle.cli_judge.specs.Judge.{journal_of, judge_of}
use Rattle.cli_runs.specs.OwnerImages.{owners_of}
use Rattle.cli_runs.specs.Parts.{parts_of}
use Rattle.cli_runs.specs.RunFiles.{run_file_of}
use Rattle.cli_runs.proofs.Unread.{bind-err, fetched-unread, image-unread, input-unread, owners-unread, parts-unread, run_file-unread}
use Rattle.cli_trace.specs.Run.{run_answer}
use Rattle.cli_trace.specs.Trace.{trace_of}

received-unread : (held : Held) (n name : List ℕ) → received_values held n ≡ Err (Unread name)
    → held name ≡ None
unfolding received_values
received-unread held n name is = input-unread _ _ held n name is

values-unread : (held : Held) (received : Option (List ℕ)) (name : List ℕ)
    → values_of held received ≡ Err (Unread name) → held name ≡ None
values-unread held None name is = absurd (cc)
values-unread held (Some n) name is = received-unread held n name is

asm_read-unread : (source target : List ℕ) (read : Result (List ℕ) Refusal) (name : List ℕ)
    → AssemblesRead source target read (Err (Unread name)) → read ≡ Err (Unread name)
asm_read-unread source target (Ok text) name is = absurd (said-unread source name is.0 is.2)
asm_read-unread source target (Err refusal) name is = cc

asm-unread : (held : Held) (source target name : List ℕ)
    → Assembles source target held (Err (Unread name)) → held name ≡ None
asm-unread held source target name is =
    fetched-unread held source name source_limit
    (asm_read-unread source target (file_or_refusal held source source_limit) name is)

disasm-unread : (held : Held) (image name : List ℕ) → disasm_of held image ≡ Err (Unread name)
    → held name ≡ None
unfolding disasm_of
disasm-unread held image name is = elim (bind-err (image_of held image) _ (Unread name) is) [
  | inl here ↦ image-unread held image name here
  | inr read ↦ absurd (let last = read.2 in cc)
]

plain-unread : (held : Held) (image : List ℕ) (steps : ℕ) (received : Option (List ℕ))
    (name : List ℕ)
    → plain_of held image steps received ≡ Err (Unread name) → held name ≡ None
unfolding plain_of
plain-unread held image steps received name is =
    elim (bind-err (image_of held image) _ (Unread name) is) [
      | inl here ↦ image-unread held image name here
      | inr read ↦ elim (bind-err (values_of held received) _ (Unread name) read.2) [
        | inl here ↦ values-unread held received name here
        | inr values ↦ absurd (let last = values.2 in cc)
      ]
    ]

seal-unread : (held : Held) (image : List ℕ) (key : Key256) (id : ImageId) (machine : Key256)
    (sealed name : List ℕ)
    → seal_answer held image key id machine sealed ≡ Err (Unread name) → held name ≡ None
unfolding seal_answer
seal-unread held image key id machine sealed name is =
    elim (bind-err (image_of held image) _ (Unread name) is) [
      | inl here ↦ image-unread held image name here
      | inr read ↦ absurd (let last = read.2 in cc)
    ]

-- ---- Commands on runs

trace-unread : (held : Held) (run : List ℕ) (journal : Option (List ℕ)) (name : List ℕ)
    → trace_of held run journal ≡ Err (Unread name) → held name ≡ None
unfolding trace_of
trace-unread held run journal name is = elim (bind-err (parts_of held run) _ (Unread name) is) [
  | inl here ↦ parts-unread held run name here
  | inr parts ↦ absurd (let last = parts.2 in cc)
]

run-unread : (held : Held) (run name : List ℕ) → run_answer held run ≡ Err (Unread name)
    → held name ≡ None
unfolding run_answer
run-unread held run name is = elim (bind-err (parts_of held run) _ (Unread name) is) [
  | inl here ↦ parts-unread held run name here
  | inr parts ↦ absurd (let last = parts.2 in cc)
]

journal-unread : (held : Held) (n name : List ℕ) → journal_of held n ≡ Err (Unread name)
    → held name ≡ None
unfolding journal_of
journal-unread held n name is = input-unread _ _ held n name is

judge-unread : (held : Held) (run journal name : List ℕ)
    → judge_of held run journal ≡ Err (Unread name) → held name ≡ None
unfolding judge_of
judge-unread held run journal name is = elim (bind-err (run_file_of held run) _ (Unread name) is) [
  | inl here ↦ run_file-unread held run name here
  | inr file ↦ elim (bind-err (owners_of held file.0.owners) _ (Unread name) file.2) [
    | inl here ↦ owners-unread held file.0.owners name here
    | inr owners ↦ elim (bind-err (journal_of held journal) _ (Unread name) owners.2) [
      | inl here ↦ journal-unread held journal name here
      | inr entries ↦ absurd (let last = entries.2 in cc)
    ]
  ]
]

commands-unread : (held : Held) (n name : List ℕ) → commands_of held n ≡ Err (Unread name)
    → held name ≡ None
unfolding commands_of
commands-unread held n name is = input-unread _ _ held n name is

debug-unread : (held : Held) (run commands name : List ℕ)
    → debug_of held run commands ≡ Err (Unread name) → held name ≡ None
unfolding debug_of
debug-unread held run commands name is = elim (bind-err (parts_of held run) _ (Unread name) is) [
  | inl here ↦ parts-unread held run name here
  | inr parts ↦ elim (bind-err (commands_of held commands) _ (Unread name) parts.2) [
    | inl here ↦ commands-unread held commands name here
    | inr list ↦ absurd (let last = list.2 in cc)
  ]
]

pub row-unread : (row : Row) (held : Held) (name : List ℕ) → IsOutcome row held (Err (Unread name))
    → held name ≡ None
row-unread (Asm source target) held name is = asm-unread held source target name is
row-unread (Disasm image) held name is = disasm-unread held image name is
row-unread (Plain image steps received) held name is =
    plain-unread held image steps received name is
row-unread (Seal image key id machine sealed) held name is =
    seal-unread held image key id machine sealed name is
row-unread (Run run) held name is = run-unread held run name is
row-unread (Trace run journal) held name is = trace-unread held run journal name is
row-unread (Judge run journal) held name is = judge-unread held run journal name is
row-unread (Debug run commands) held name is = debug-unread held run commands name is
