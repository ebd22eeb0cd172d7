-- How a guest's lines stand in RAM: their names, keys and places, and how often each was sealed.
use Rattle.std.specs.Prelude.{ℕ, ◌+◌, ◌%◌, ◌==◌, ◌&&◌, nat_lt, Bool, List, Option, Some, None, length, if◌then◌else◌}
use Rattle.std.specs.List.{filter}
use Rattle.xom_base.specs.declared.entry.Entry.{Entry}
use Rattle.xom_base.specs.declared.entry.Entry.TheVariants as entry
use Rattle.xom_base.specs.declared.key.ImageId.{ImageId}
use Rattle.xom_base.specs.declared.key.Key256.{Key256}
use Rattle.xom_seal.specs.declared.keys.LineKeys.{LineKeys}
use Rattle.xom_seal.specs.declared.line.SealedLine.{SealedLine}
use Rattle.xom_seal.specs.declared.names.LineName.{LineName}
use Rattle.xom_seal.specs.declared.names.LineName.TheVariants.{Image, Run}
use Rattle.xom_seal.specs.Keys.{image_keys, run_keys}
use Rattle.xom_seal.specs.Messages.{line_message, names_run_line, version_of_message}
use Rattle.xom_seal.specs.Sealing.{line_masked, sealed_line}
use Rattle.line_ram.specs.Bytes.{bytes_at, ciphertext_place, frame_lines, ram_with_line, tag_place}
use Rattle.xom_base.specs.Sizes.{line_size}
use Rattle.session_table.specs.declared.session.Session.{Session}
use Rattle.xom_versions.specs.Versions.{start_version}
use Rattle.xom_model.specs.Honest.{Sealing}
use Rattle.xom_model.specs.State.{CoreState, session_of}

-- all that names, keys and the first versions of a guest's lines depend on
pub record Who : Type 0 where
  pub boot : ℕ
  pub install : ℕ
  pub id : ImageId
  pub key : Key256
  pub lines : ℕ

-- what the lines of a session's guest depend on, in a run of this boot number
abbrev pub who_in : ℕ → Session → Who
who_in boot s = record { boot = boot; install = s.install; id = s.id; key = s.key; lines = s.lines }

-- what the lines of a slot's guest depend on
abbrev pub who_of : CoreState → ℕ → Who
who_of core slot = who_in core.boot (session_of core slot)

-- ---- Names and keys

-- an image line at version 1 has the image message, every other line the run message
abbrev pub is_image_at : Who → ℕ → ℕ → Bool
is_image_at who line version = nat_lt line who.lines && (version == 1)

-- the name of a line that the machine itself sealed
abbrev pub run_name : Who → ℕ → ℕ → LineName
run_name who line version = Run who.boot who.install line version

-- the name of a line under a version: that of the image, or that of the run
abbrev pub line_name_of : Who → ℕ → ℕ → LineName
line_name_of who line version =
    if is_image_at who line version then Image who.id line else run_name who line version

-- the keys of a line under a version: the image's, or those of the run
abbrev pub keys_of : Who → ℕ → ℕ → LineKeys
keys_of who line version =
    if is_image_at who line version then image_keys who.key who.id else run_keys who.key who.boot
    who.install

-- a line's bytes as they are sealed under a version
abbrev pub sealed_as : Who → ℕ → ℕ → List ℕ → SealedLine
sealed_as who line version bytes =
    sealed_line (line_name_of who line version) (keys_of who line version) bytes

-- the message of a line with this ciphertext
abbrev pub message_as : Who → ℕ → ℕ → List ℕ → List ℕ
message_as who line version ct = line_message (line_name_of who line version) ct

-- the journal's entry of a line that was sealed
abbrev pub seal_entry : Who → ℕ → ℕ → List ℕ → Entry
seal_entry who line version bytes =
    entry.Seal (keys_of who line version).tag.0
    (message_as who line version (sealed_as who line version bytes).ct)

-- the journal's entry of a line whose tag in RAM was right
abbrev pub accept_entry : Who → ℕ → ℕ → List ℕ → ℕ → Entry
accept_entry who line version ct place =
    entry.Accept (keys_of who line version).tag.0 (message_as who line version ct) place

-- the pair that a Seal of a run line has
abbrev pub run_pair : Who → ℕ → ℕ → List ℕ → Sealing
run_pair who line version bytes =
    let keys = run_keys who.key who.boot who.install in (
      keys.tag.0,
      line_message (run_name who line version) (line_masked (run_name who line version)
          keys bytes),
    )

-- ---- Places

-- the place of a line in its frame
abbrev pub index_in_frame : ℕ → ℕ
index_in_frame line = line % frame_lines

-- where the ciphertext of a line stands
abbrev pub ct_place : ℕ → ℕ → ℕ
ct_place frame line = ciphertext_place frame (index_in_frame line)

-- what stands in RAM for a line
abbrev pub sealed_at : List ℕ → ℕ → ℕ → SealedLine
sealed_at ram frame line = record {
  ct = bytes_at ram (ct_place frame line) line_size;
  tag = bytes_at ram (tag_place frame (index_in_frame line)) line_size;
}

-- RAM with a sealed line in a frame, where there is one
abbrev pub with_sealed : List ℕ → Option ℕ → ℕ → SealedLine → List ℕ
with_sealed ram None line sealed = ram
with_sealed ram (Some frame) line sealed = ram_with_line ram frame (index_in_frame line) sealed.ct sealed.tag

-- ---- Versions, counted in a journal's Seals

-- the Seal is one of this line of this install
abbrev pub names_line : ℕ → ℕ → Sealing → Bool
names_line install line sealing = names_run_line install line sealing.1

-- the Seals of a line of an install
abbrev pub line_seals : ℕ → ℕ → List Sealing → List Sealing
line_seals install line seals = filter (names_line install line) seals

-- the Seal is one of this version of this line of this install
abbrev pub names_version : ℕ → ℕ → ℕ → Sealing → Bool
names_version install line version sealing =
    names_run_line install line sealing.1 && (version_of_message sealing.1 == version)

-- the Seals of one of its versions
abbrev pub version_seals : ℕ → ℕ → ℕ → List Sealing → List Sealing
version_seals install line version seals = filter (names_version install line version) seals

-- the version of a line: its first one, raised by each Seal of it
abbrev pub version_of_line : Who → List Sealing → ℕ → ℕ
version_of_line who seals line =
    start_version who.lines line + length (line_seals who.install line seals)
