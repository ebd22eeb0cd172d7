-- The commands on programs alone: their listing, their run on the plain machine, and their sealing.
use Rattle.std.specs.Prelude.{ℕ, List, [], ◌++◌, Option, Some, None, Result, Ok, codes, length}
use Rattle.std.specs.Fmt.{decimal}
use Rattle.xom_base.specs.declared.image.PlainImage.{PlainImage}
use Rattle.xom_base.specs.declared.key.ImageId.{ImageId}
use Rattle.xom_base.specs.declared.key.Key256.{Key256}
use Rattle.xom_owners.specs.declared.owner.Owner.{Owner}
use Rattle.image_sealer.specs.Sealing.{envelope_of, sealed_lines_of}
use Rattle.mips_text.specs.Texts.{listing_of}
use Rattle.plain_run.specs.Received.{received_at}
use Rattle.plain_run.specs.Runs.{run_text}
use Rattle.xom_image.specs.SealedFiles.{sealed_file}
use Rattle.cli_base.specs.declared.answer.Answer.{Answer}
use Rattle.cli_base.specs.declared.refusal.Refusal.{Refusal}
use Rattle.cli_base.specs.Commands.{prints, writes}
use Rattle.cli_base.specs.Inputs.{◌>>=◌, Held, image_of, in_lines, input_of}

-- at most so many bytes are in an assembler source
abbrev pub source_limit : ℕ
source_limit = 1048576

-- at most so many bytes are in a received file
abbrev pub received_limit : ℕ
received_limit = 1048576

-- the values of a received file
unfoldable pub received_values : Held → List ℕ → Result (List ℕ) Refusal
received_values = input_of received_limit (λ text. in_lines (received_at text))

-- `disasm IMAGE`: the listing of the image's words
unfoldable pub disasm_of : Held → List ℕ → Result Answer Refusal
disasm_of held name = do
  image ← image_of held name
  Ok (prints (listing_of image.bytes))

-- the values of a received file, or none where no file is named
abbrev pub values_of : Held → Option (List ℕ) → Result (List ℕ) Refusal
values_of held None = Ok []
values_of held (Some name) = received_values held name

-- `plain IMAGE STEPS`, `plain IMAGE STEPS RECEIVED`: the steps of the image's program run alone
unfoldable pub plain_of : Held → List ℕ → ℕ → Option (List ℕ) → Result Answer Refusal
plain_of held name steps received = do
  image ← image_of held name
  values ← values_of held received
  Ok (prints (run_text image steps values))

-- ---- Sealing

-- the file of an owner's image, sealed for a machine
abbrev pub sealed_bytes : Key256 → Owner → List ℕ
sealed_bytes machine owner = sealed_file (envelope_of machine owner) (sealed_lines_of owner)

-- how many lines were sealed, and how many bytes the file has
abbrev pub sealed_text : (lines size : ℕ) → List ℕ
sealed_text lines size =
    codes "sealed " ++ (decimal lines ++ (codes " lines " ++ (decimal size ++ codes " bytes\n")))

-- the answer of `seal`: its line, and the sealed file under the name of the target
abbrev pub sealing_answer : Key256 → Owner → List ℕ → Answer
sealing_answer machine owner target =
    writes (sealed_text (length (sealed_lines_of owner)) (length (sealed_bytes machine owner)))
    target (sealed_bytes machine owner)

-- the owner of this image, with its key and its id
abbrev pub owner_with : PlainImage → Key256 → ImageId → Owner
owner_with image key id = record { plain = image; key = key; id = id }

-- `seal IMAGE KEY ID MACHINE SEALED`: the image's file, sealed by its owner for a machine
unfoldable pub seal_answer : Held → List ℕ → Key256 → ImageId → Key256 → List ℕ → Result Answer Refusal
seal_answer held name key id machine target = do
  image ← image_of held name
  Ok (sealing_answer machine (owner_with image key id) target)
