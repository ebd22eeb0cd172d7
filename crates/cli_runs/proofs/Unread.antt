-- Where what a run is made of is refused since a file can't be read, that name is held by none.
use Rattle.std.proofs.Common.{◌≡◌, ◌⊎◌, inl, inr, ℕ, ◌+◌, List, [], ◌∷◌, Option, Some, None, Result, Ok, Err, Bool, true, false, cond, length, refl, subst}
use Rattle.std.specs.Prelude.{nat_le}
use Rattle.xom_script.specs.declared.run_file.GuestFile.{GuestFile}
use Rattle.xom_script.specs.declared.run_file.KernelLine.{KernelLine}
use Rattle.xom_script.specs.declared.run_file.KernelLine.TheVariants as line
use Rattle.xom_script.specs.declared.run_file.OwnerFile.{OwnerFile}
use Rattle.xom_script.specs.declared.run_file.RunFile.{RunFile}
use Rattle.cli_base.specs.declared.refusal.InputFault.{InputFault}
use Rattle.cli_base.specs.declared.refusal.InputFault.TheVariants.{TooLong}
use Rattle.cli_base.specs.declared.refusal.Refusal.{Refusal}
use Rattle.cli_base.specs.declared.refusal.Refusal.TheVariants.{Unread, Bad}
use Rattle.cli_base.specs.Inputs.{Held, fetched_bytes, file_or_refusal, image_of, in_file, input_of, ◌>>=◌}
use Rattle.cli_runs.specs.GuestFiles.{guest_and_input, guest_image_of, guests_and_inputs, input_limit, placed_at, placed_guest_of, read_input}
use Rattle.cli_runs.specs.KernelFiles.{kernel_image_at, kernel_image_of, kernel_of_line, script_of}
use Rattle.cli_runs.specs.OwnerImages.{owners_of}
use Rattle.cli_runs.specs.Parts.{parts_named, parts_of}
use Rattle.cli_runs.specs.Places.{first_frame, frames_of_guest}
use Rattle.cli_runs.specs.RunFiles.{built_at, built_run_of, run_file_of}

-- ---- Steps

-- where a step and what follows it are refused, one of them is
pub bind-err : {A B : Type 0} (o : Result A Refusal) (f : A → Result B Refusal) (e : Refusal)
    → (o >>= f) ≡ Err e → (o ≡ Err e) ⊎ ((x : A) × (o ≡ Ok x) × (f x ≡ Err e))
bind-err (Ok x) f e is = inr (x, refl, is)
bind-err (Err other) f e is = inl (cc)

bytes-unread : (n name : List ℕ) (limit : ℕ) (o : Option (List ℕ))
    → fetched_bytes n limit o ≡ Err (Unread name) → (n ≡ name) × (o ≡ None)
bytes-unread n name limit None is = (cc, refl)
bytes-unread n name limit (Some bytes) is =
    absurd (elim (nat_le (length bytes) limit) as
    (λ b. cond b (Ok bytes) (Err (Bad n TooLong)) ≡ Err (Unread name) → ⊥) [
      | true ↦
          λ ok. cc
      | false ↦ λ long. cc
    ] is)

pub fetched-unread : (held : Held) (n name : List ℕ) (limit : ℕ)
    → file_or_refusal held n limit ≡ Err (Unread name) → held name ≡ None
unfolding file_or_refusal
fetched-unread held n name limit is =
    let both = bytes-unread n name limit (held n) is in subst (λ m. held m ≡ None) both.0 both.1

in_file-unread : {A : Type 0} (n name : List ℕ) (o : Result A InputFault)
    → in_file n o ≡ Err (Unread name) → ⊥
in_file-unread n name (Ok value) is = cc
in_file-unread n name (Err fault) is = cc

pub input-unread : {A : Type 0} (limit : ℕ) (format : List ℕ → Result A InputFault) (held : Held)
    (n name : List ℕ)
    → input_of limit format held n ≡ Err (Unread name) → held name ≡ None
input-unread limit format held n name is =
    elim (bind-err (file_or_refusal held n limit) (λ bytes. in_file n (format bytes)) (Unread name) is) [
      | inl here ↦ fetched-unread held n name limit here
      | inr later ↦ absurd (in_file-unread n name (format later.0) later.2)
    ]

-- ---- Each file

pub run_file-unread : (held : Held) (n name : List ℕ) → run_file_of held n ≡ Err (Unread name)
    → held name ≡ None
unfolding run_file_of
run_file-unread held n name is = input-unread _ _ held n name is

built_run-unread : (held : Held) (n name : List ℕ) → built_run_of held n ≡ Err (Unread name)
    → held name ≡ None
unfolding built_run_of
built_run-unread held n name is =
    elim (bind-err (run_file_of held n) (λ file. in_file n (built_at file)) (Unread name) is) [
      | inl here ↦ run_file-unread held n name here
      | inr file ↦ absurd (in_file-unread n name (built_at file.0) file.2)
    ]

pub image-unread : (held : Held) (n name : List ℕ) → image_of held n ≡ Err (Unread name)
    → held name ≡ None
unfolding image_of
image-unread held n name is = input-unread _ _ held n name is

pub owners-unread : (held : Held) (lines : List OwnerFile) (name : List ℕ)
    → owners_of held lines ≡ Err (Unread name) → held name ≡ None
owners-unread held [] name is = absurd (cc)
owners-unread held (line ∷ lines) name is =
    elim (bind-err (image_of held line.plain) _ (Unread name) is) [
      | inl here ↦ image-unread held line.plain name here
      | inr image ↦ elim (bind-err (owners_of held lines) _ (Unread name) image.2) [
        | inl here ↦ owners-unread held lines name here
        | inr owners ↦ absurd (let last = owners.2 in cc)
      ]
    ]

guest_image-unread : (held : Held) (n name : List ℕ) → guest_image_of held n ≡ Err (Unread name)
    → held name ≡ None
unfolding guest_image_of
guest_image-unread held n name is = input-unread _ _ held n name is

read_input-unread : (held : Held) (input : Option (List ℕ)) (name : List ℕ)
    → read_input held input ≡ Err (Unread name) → held name ≡ None
read_input-unread held None name is = absurd (cc)
read_input-unread held (Some n) name is =
    elim (bind-err (file_or_refusal held n input_limit) _ (Unread name) is) [
      | inl here ↦ fetched-unread held n name input_limit here
      | inr bytes ↦ absurd (let last = bytes.2 in cc)
    ]

placed_guest-unread : (held : Held) (run : List ℕ) (frames frame : ℕ) (line : GuestFile)
    (name : List ℕ)
    → placed_guest_of held run frames frame line ≡ Err (Unread name) → held name ≡ None
unfolding placed_guest_of
placed_guest-unread held run frames frame line name is =
    elim (bind-err (guest_image_of held line.sealed)
    (λ image. in_file run (placed_at frames frame line.line image)) (Unread name) is) [
      | inl here ↦ guest_image-unread held line.sealed name here
      | inr image ↦ absurd (in_file-unread run name (placed_at frames frame line.line image.0) image.2)
    ]

guest-unread : (held : Held) (run : List ℕ) (frames frame : ℕ) (line : GuestFile) (name : List ℕ)
    → guest_and_input held run frames frame line ≡ Err (Unread name) → held name ≡ None
unfolding guest_and_input
guest-unread held run frames frame line name is =
    elim (bind-err (placed_guest_of held run frames frame line) _ (Unread name) is) [
      | inl here ↦ placed_guest-unread held run frames frame line name here
      | inr image ↦ elim (bind-err (read_input held line.input) _ (Unread name) image.2) [
        | inl here ↦ read_input-unread held line.input name here
        | inr input ↦ absurd (let last = input.2 in cc)
      ]
    ]

guests-unread : (held : Held) (run : List ℕ) (frames frame : ℕ) (lines : List GuestFile)
    (name : List ℕ)
    → guests_and_inputs held run frames frame lines ≡ Err (Unread name) → held name ≡ None
guests-unread held run frames frame [] name is = absurd (cc)
guests-unread held run frames frame (line ∷ lines) name is =
    elim (bind-err (guest_and_input held run frames frame line) _ (Unread name) is) [
      | inl here ↦ guest-unread held run frames frame line name here
      | inr image ↦ elim (bind-err (guests_and_inputs held run frames (frame + frames_of_guest image.0) lines)
          _ (Unread name) image.2) [
            | inl here ↦ guests-unread held run frames (frame + frames_of_guest image.0) lines name here
            | inr images ↦ absurd (let last = images.2 in cc)
          ]
    ]

script-unread : (held : Held) (n name : List ℕ) → script_of held n ≡ Err (Unread name)
    → held name ≡ None
unfolding script_of
script-unread held n name is = input-unread _ _ held n name is

kernel_image-unread : (held : Held) (run : List ℕ) (frames number : ℕ) (n name : List ℕ)
    → kernel_image_of held run frames number n ≡ Err (Unread name) → held name ≡ None
unfolding kernel_image_of
kernel_image-unread held run frames number n name is =
    elim (bind-err (image_of held n) (λ image. in_file run (kernel_image_at frames number image))
    (Unread name) is) [
      | inl here ↦ image-unread held n name here
      | inr image ↦ absurd (in_file-unread run name (kernel_image_at frames number image.0) image.2)
    ]

kernel-unread : (held : Held) (run : List ℕ) (frames number : ℕ) (kernel : KernelLine)
    (name : List ℕ)
    → kernel_of_line held run frames number kernel ≡ Err (Unread name) → held name ≡ None
unfolding kernel_of_line
kernel-unread held run frames number (line.Script n) name is =
    elim (bind-err (script_of held n) _ (Unread name) is) [
      | inl here ↦ script-unread held n name here
      | inr script ↦ absurd (let last = script.2 in cc)
    ]
kernel-unread held run frames number (line.Image n) name is =
    elim (bind-err (kernel_image_of held run frames number n) _ (Unread name) is) [
      | inl here ↦ kernel_image-unread held run frames number n name here
      | inr image ↦ absurd (let last = image.2 in cc)
    ]
kernel-unread held run frames number (line.Xomos pages) name is = absurd (cc)

-- ---- All of them

named-unread : (held : Held) (run : List ℕ) (file : RunFile) (name : List ℕ)
    → parts_named held run file ≡ Err (Unread name) → held name ≡ None
unfolding parts_named
named-unread held run file name is = elim (bind-err (owners_of held file.owners) _ (Unread name)
    is) [
      | inl here ↦ owners-unread held file.owners name here
      | inr owners ↦ elim (bind-err (guests_and_inputs held run file.frames first_frame file.guests)
          _ (Unread name) owners.2) [
            | inl here ↦ guests-unread held run file.frames first_frame file.guests name here
            | inr guests ↦ elim (bind-err (kernel_of_line held run file.frames file.kernel_line file.kernel)
                _ (Unread name) guests.2) [
                  | inl here ↦ kernel-unread held run file.frames file.kernel_line file.kernel name here
                  | inr kernel ↦ absurd (let last = kernel.2 in cc)
                ]
          ]
    ]

pub parts-unread : (held : Held) (run name : List ℕ) → parts_of held run ≡ Err (Unread name)
    → held name ≡ None
unfolding parts_of
parts-unread held run name is = elim (bind-err (built_run_of held run) _ (Unread name) is) [
  | inl here ↦ built_run-unread held run name here
  | inr file ↦ named-unread held run file.0 name file.2
]
