-- Small rows, computed from the definitions.
use Rattle.std.proofs.Common.{◌≡◌, ℕ, List, true, [], ◌∷◌, refl}
use Rattle.xom_base.specs.declared.entry.Entry.TheVariants as entry
use Rattle.xom_base.specs.declared.event.Event.TheVariants as event
use Rattle.xom_base.specs.declared.event.Op.TheVariants.{SetReg}
use Rattle.xom_base.specs.declared.step.Received.TheVariants as received
use Rattle.xom_base.specs.declared.step.Released.TheVariants as released
use Rattle.xom_base.specs.declared.step.StepEnd.TheVariants as ended
use Rattle.xom_base.specs.declared.step.Stored.TheVariants as stored
use Rattle.xom_base.specs.declared.step.Writes.TheVariants as writes
use Rattle.keyed_mac.specs.Hmac.{hmac_sha256}
use Rattle.xom_seal.specs.Messages.{line_message, register_message}
use Rattle.xom_seal.specs.declared.names.LineName.TheVariants.{Run}
use Rattle.tag_regs.specs.TaggedCells.{all_empty, cell_at}
use Rattle.session_table.specs.Masks.{mask_with_cell}
use Rattle.session_table.specs.Sessions.{none_held}
use Rattle.page_map.specs.Pages.{nothing_mapped}
use Rattle.xom_versions.specs.Chip.{chip, chip_raised}
use Rattle.xom_model.specs.declared.outcome.Outcome.TheVariants as outcome
use Rattle.xom_model.specs.State.{power_on}
use Rattle.xom_model.specs.Seen.{Seen, seen_of, view_of}
use Rattle.xom_seen.specs.Emission.{LineSealed, Made, OneCell, RegisterSealed, line_named, signals_of_entries}
use Rattle.xom_seen.specs.SeenNext.{after_signal, seen_next, sight_in, sight_slot}

-- an instruction that writes 77 to $3 and stores it shows the name of $3 and no value
made : signals_of_entries none_held 1 true (line_named none_held 1)
    (entry.Step 5 (record {
      pc = 64;
      npc = 68;
      writes = writes.One 3 77;
      stored =
          stored.Bytes 8 4 77;
      received = received.Cell 77;
      released = released.Nothing;
      end =
          ended.Goes;
    }) ∷ [])
    ≡ Made (OneCell 3) released.Nothing ended.Goes true ∷ []
made = refl

-- the Seals of line 3 at version 2 and of register 8 show line, register, ciphertext and tag
line : (key ct : List ℕ) → signals_of_entries none_held 1 true (line_named none_held 1)
    (entry.Seal key (line_message (Run 1 5 3 2) ct) ∷ [])
    ≡ LineSealed 1 3 ct (hmac_sha256 key (line_message (Run 1 5 3 2) ct)) ∷ []
unfolding line_message
line key ct = refl

register : (key ct : List ℕ) → signals_of_entries none_held 1 true (line_named none_held 1)
    (entry.Seal key
    (register_message (record { boot = 1; install = 5; epoch = 0; reg = 8 }) ct) ∷ [])
    ≡ RegisterSealed 1 8 ct
    (hmac_sha256 key (register_message (record { boot = 1; install = 5; epoch = 0; reg = 8 }) ct))
    ∷ []
unfolding register_message
register key ct = refl

-- what is seen at power-on, with no RAM
abbrev dark : Seen
dark = seen_of (power_on chip (record { 0 = [] }) 1 [] 0)

-- the cell is seen as slot 1's, with the value 0, and the slot owns it: bit 3 of its mask
owned : cell_at (after_signal chip chip_raised 1 0 (sight_in dark)
    (Made (OneCell 3) released.Nothing ended.Goes true)).cells 3 ≡ record { value = 0; tag = 1 }
unfolding seen_of view_of all_empty none_held nothing_mapped
owned = refl

mask : (sight_slot (after_signal chip chip_raised 1 0 (sight_in dark)
    (Made (OneCell 3) released.Nothing ended.Goes true)) 1).mask ≡ 8
unfolding seen_of view_of all_empty none_held nothing_mapped mask_with_cell
mask = refl

-- a register that the kernel sets is seen
lent : cell_at (seen_next chip chip_raised dark (event.Do (SetReg 5 7)) []
    (record { status = 0; outcome = outcome.Went; signals = [] })).view.cells 5 ≡ record {
      value =
          7;
      tag = 0;
    }
unfolding seen_next seen_of view_of all_empty none_held nothing_mapped
lent = refl
