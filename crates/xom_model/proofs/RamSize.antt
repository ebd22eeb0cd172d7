-- No event changes the size of RAM, and each frame that holds a page lies in it.
use Rattle.std.proofs.Common.{IfSome, ◌≡◌, ◌+◌, ◌*◌, ◌%◌, cond, ℕ, ◌-◌, ◌≤◌, List, Option, Some, None, Result, Ok, Err, length, refl, sym, ◌∙◌, subst, arith, true, false}
use Rattle.std.specs.Prelude.{nat_le}
use Rattle.std.specs.Int.{w32, to_be_bytes}
use Rattle.std.proofs.lemmas.Bool.{cond_both}
use Rattle.std.proofs.lemmas.Bool.Decides.{nat_tests}
use Rattle.std.proofs.lemmas.List.{length-drop}
use Rattle.xom_model.specs.declared.outcome.NullFault.TheVariants as null
use Rattle.xom_base.specs.declared.event.OwnFault.{OwnFault}
use Rattle.xom_base.specs.declared.step.Released.{Released}
use Rattle.xom_base.specs.declared.step.Released.TheVariants as released
use Rattle.xom_seal.specs.declared.line.SealedLine.{SealedLine}
use Rattle.xom_seal.specs.declared.register.SealedReg.{SealedReg}
use Rattle.xom_seal.specs.declared.keys.RegisterKeys.{RegisterKeys}
use Rattle.xom_seal.specs.declared.names.RegName.{RegName}
use Rattle.xom_seal.specs.Messages.{register_message}
use Rattle.xom_seal.specs.Sealing.{register_tag}
use Rattle.keyed_mac.proofs.Lengths.{tags_have_their_length}
use Rattle.mips_effect.specs.declared.effects.Effect.{Effect}
use Rattle.mips_effect.specs.declared.wish.Wish.{Wish}
use Rattle.mips_effect.specs.declared.wish.Wish.TheVariants as wish
use Rattle.mips_effect.specs.Effects.{write_of_register as set_register}
use Rattle.mips_plain.specs.Memory.{low_bytes, written_at}
use Rattle.mips_plain.proofs.Stores.{length-written_at}
use Rattle.line_ram.specs.Bytes.{HoldsRange, tag_place}
use Rattle.xom_versions.specs.Store.{area_size}
use Rattle.xom_model.specs.State.{CoreState, ram_holds_range, store_of}
use Rattle.xom_model.specs.Lines.{ct_place, index_in_frame, with_sealed}
use Rattle.xom_model.specs.Saves.{with_saved}
use Rattle.xom_model.specs.Guest.{given_out}
use Rattle.xom_model.specs.Holds.{AreasFit, FramesFit, IsLive}
use Rattle.xom_model.specs.Null.{Answer, Open, Told, done_answer, fetched_open, loaded_open, null_step, open_after, ram_after_write, ran_open, seen_open, stopped_by, stored_open, tried_open, wish_answer}

-- frames fit RAM of the same size
pub frames_stay : (pages : List (List (Option ℕ))) (ram new : List ℕ) → length new ≡ length ram
    → FramesFit pages ram → FramesFit pages new
frames_stay pages ram new same fit slot page frame is =
    let within : frame * 8192 + 8192 ≤ length ram = fit slot page frame is in omega arith

-- and so do areas
pub area_stays : (area : Option ℕ) (ram new : List ℕ) → length new ≡ length ram
    → IfSome area (λ a. HoldsRange ram a area_size) → IfSome area (λ a. HoldsRange new a area_size)
area_stays None ram new same fit = fit
area_stays (Some at) ram new same fit = let within : at + 411904 ≤ length ram = fit in omega arith

pub areas_stay : (core new : CoreState) → length new.ram ≡ length core.ram
    → ((k : ℕ) → IsLive new k → IsLive core k × ((store_of new k).area ≡ (store_of core k).area))
    → AreasFit core → AreasFit new
areas_stay core new same back fit k alive =
    let was = back k alive in
    subst (λ area. IfSome area (λ a. HoldsRange new.ram a area_size)) (sym was.1)
    (area_stays (store_of core k).area core.ram new.ram same (fit k was.0))

-- a sealed line in its frame
pub length-with_sealed : (ram : List ℕ) (frame : Option ℕ) (line : ℕ) (sealed : SealedLine)
    → length sealed.ct ≡ 32 → length sealed.tag ≡ 32
    → ((f : ℕ) → frame ≡ Some f → f * 8192 + 8192 ≤ length ram)
    → length (with_sealed ram frame line sealed) ≡ length ram
length-with_sealed ram None line sealed ct tag fit = refl
length-with_sealed ram (Some frame) line sealed ct tag fit =
    let within : frame * 8192 + 8192 ≤ length ram = fit frame refl in
    let first : length (written_at ram (ct_place frame line) sealed.ct) ≡ length ram =
    length-written_at ram (ct_place frame line) sealed.ct (omega arith) in
    length-written_at (written_at ram (ct_place frame line) sealed.ct)
    (tag_place frame (index_in_frame line)) sealed.tag (omega arith) ∙ first

-- the tag of a sealed register
pub length-register_tag : (name : RegName) (keys : RegisterKeys) (ct : List ℕ)
    → length (register_tag name keys ct) ≡ 32
unfolding register_tag
length-register_tag name keys ct = tags_have_their_length keys.tag.0 (register_message name ct)

-- a saved register
pub length-with_saved : (ram : List ℕ) (address : ℕ) (sealed : SealedReg) → length sealed.ct ≡ 4
    → length sealed.tag ≡ 32 → address + 36 ≤ length ram
    → length (with_saved ram address sealed) ≡ length ram
length-with_saved ram address sealed ct tag within =
    let first : length (written_at ram address sealed.ct) ≡ length ram =
    length-written_at ram address sealed.ct (omega arith) in
    length-written_at (written_at ram address sealed.ct) (address + 4) sealed.tag (omega arith)
    ∙ first

-- bytes that are written only where they lie in RAM
module _ (ram : List ℕ) (address count : ℕ) (part : List ℕ) (few : length part ≤ count) where
  length-written_if : length (cond (nat_le (address + count) (length ram))
      (written_at ram address part) ram) ≡ length ram
  length-written_if = elim (nat_le (address + count) (length ram)) as
      (λ b. nat_le (address + count) (length ram) ≡ b
      → length (cond b (written_at ram address part) ram) ≡ length ram) [
        | true ↦ λ is. length-written_at ram address part (let within : address + count ≤ length ram =
            grind (arith, nat_tests) in omega arith)
        | false ↦ λ _. refl
      ] refl

-- what a guest gives out
pub length-given_out : (ram : List ℕ) (given : Released) → length (given_out ram given) ≡ length ram
length-given_out ram released.Nothing = refl
length-given_out ram (released.Cell reg value) = refl
length-given_out ram (released.Null address value) =
    length-written_if ram address 4 (to_be_bytes w32 value) (omega arith)

-- a kernel write, and a bus write
pub length-poked : (ram : List ℕ) (address : ℕ) (bytes : List ℕ)
    → length (ram_after_write ram address bytes) ≡ length ram
unfolding ram_after_write
length-poked ram address bytes = length-written_if ram address (length bytes) bytes (omega arith)

-- ---- Null code

length-granted : (told : Told) (s : Open) (effect : Effect) (wished : Wish)
    → length (wish_answer told s effect wished).0.ram ≡ length s.ram
length-granted told s effect wish.Nothing = refl
length-granted told s effect (wish.Load reg address how old) =
    cond_both (ram_holds_range s.ram (address - address % 4) 4)
    (done_answer (open_after s effect (set_register reg (loaded_open s.ram how old address))))
    (stopped_by s null.Address) (λ (a : Answer). length a.0.ram ≡ length s.ram)
    (λ _. refl) (λ _. refl)
length-granted told s effect (wish.Store address count value) =
    cond_both (ram_holds_range s.ram address count)
    (done_answer (stored_open (open_after s effect effect.writes) address
    (low_bytes count value))) (stopped_by s null.Address) (λ (a : Answer). length a.0.ram ≡ length
    s.ram)
    (λ is. length-written_at s.ram address (low_bytes count value)
    (let within : address + count ≤ length s.ram = grind (arith, nat_tests) in let size =
    length-drop (4 - count) (to_be_bytes w32 value) in omega arith))
    (λ _. refl)
length-granted told s effect _ = refl

length-ran : (told : Told) (s : Open) (found : Result Effect OwnFault)
    → length (ran_open told s found).0.ram ≡ length s.ram
length-ran told s (Err why) = refl
length-ran told s (Ok effect) = length-granted told s effect effect.wish

pub length-null : (told : Told) (s : Open) → length (null_step told s).0.ram ≡ length s.ram
unfolding null_step
length-null told s =
    length-ran told s (tried_open (seen_open s.cells) (fetched_open s.ram s.pc) s.pc s.npc)
