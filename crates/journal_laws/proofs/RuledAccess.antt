-- The rules stay over a write-back, an access and a flush.
use Rattle.std.proofs.Common.{◌≡◌, ℕ, zero, suc, ◌+◌, ◌*◌, ◌^◌, ◌<◌, ◌≤◌, ◌==◌, Bool, true, false, List, [], ◌∷◌, Option, Some, None, Result, Ok, Err, IfSome, length, take, drop, replicate, refl, sym, ◌∙◌, subst, arith}
use Rattle.std.proofs.lemmas.Bool.{cond_both}
use Rattle.hex.specs.Hex.{IsBytes}
use Rattle.xom_base.specs.declared.entry.Entry.TheVariants as entry
use Rattle.xom_base.specs.declared.event.Rule.{Rule}
use Rattle.xom_base.specs.declared.event.Rule.TheVariants as rule
use Rattle.xom_seal.specs.declared.keys.LineKeys.{LineKeys}
use Rattle.xom_seal.specs.declared.line.SealedLine.{SealedLine}
use Rattle.xom_seal.specs.declared.names.LineName.TheVariants.{Image}
use Rattle.xom_seal.specs.Keys.{image_keys, run_keys}
use Rattle.xom_seal.specs.Sealing.{line_masked, unsealed_line}
use Rattle.mips_plain.proofs.Stores.{length-written_at}
use Rattle.journal_round_trip.specs.KeepsRules.{Is32Bit, KeepsPayload, KeepsRule}
use Rattle.line_ram.specs.Bytes.{HoldsRange, bytes_at, ram_with_bytes, tag_place}
use Rattle.line_cache.specs.declared.way.Way.{Way}
use Rattle.line_cache.specs.Ways.{free_way, new_way, place_for, place_of_line, pointers_after, way_at}
use Rattle.page_map.specs.Pages.{frame_of}
use Rattle.session_table.specs.declared.session.SlotState.{SlotState}
use Rattle.session_table.specs.declared.session.SlotState.TheVariants as state
use Rattle.session_table.specs.Sessions.{session_after_leaving}
use Rattle.xom_versions.specs.declared.store.Torn.{Torn}
use Rattle.xom_versions.specs.Store.{HoldsArea, area_size, line_limit}
use Rattle.xom_versions.specs.Versions.{VersionLaw, Versions}
use Rattle.xom_model.specs.declared.reach.Reach.{Reach}
use Rattle.xom_model.specs.declared.reach.Reach.TheVariants as reach
use Rattle.xom_model.specs.Versions.{StandsFor}
use Rattle.xom_model.specs.State.{CoreState, core_with_hashes, core_with_way, page_of, session_of, store_of, with_entry}
use Rattle.xom_model.specs.Lines.{Who, accept_entry, ct_place, index_in_frame, is_image_at, keys_of, line_name_of, run_name, seal_entry, sealed_as, sealed_at, who_of, with_sealed}
use Rattle.xom_model.specs.Access.{access, after_eviction, after_flush, after_leaving, after_opening, after_raise, after_seal, after_stop, after_victim, and_then, brought, cleared_at, or_stopped, reach_after_placing, reach_after_victim, reach_by_cache, reach_by_frame, reach_in_frame, sealed_by_raise, taken_out, with_pointers, without_guest}
use Rattle.xom_model.specs.Holds.{IsLive}
use Rattle.xom_model.proofs.RamSize.{area_stays}
use Rattle.journal_laws.specs.RulesOfRecord.{StoresKeepRules, IsSoundWay, RulesHold}
use Rattle.journal_laws.proofs.PlainBytes.{IsPlainName, bytes-drop, bytes-take, bytes-written, bytes-zeros, image_aes-bytes, line_masked-bytes, line_masked-short, line_message-payload, line_tag-bytes, line_tag-size, run_aes-bytes, run_tag-payload}
use Rattle.journal_laws.proofs.RuledParts.{free_way-sound, hashed-holds, live-came, noted-holds, out-holds, session-on, session-sound, with_ram-holds, with_store-holds, with_way-holds, ways-hold}

-- ---- A stop

pub gone-holds : (core : CoreState) (slot : ℕ) (final : SlotState) → IsLive core slot
    → RulesHold core → RulesHold (after_leaving core slot final)
gone-holds core slot final live holds =
    out-holds core holds slot (session_after_leaving (session_of core slot) final)
    (session-on core holds slot live final (session_of core slot).epoch)

pub stopped-holds : (core : CoreState) (slot : ℕ) (why : Rule) → KeepsRule why → IsLive core slot
    → RulesHold core → RulesHold (after_stop core slot why)
unfolding without_guest
stopped-holds core slot why keeps live holds =
    noted-holds (after_leaving core slot (state.Stopped why))
    (gone-holds core slot (state.Stopped why) live holds)
    (entry.Stop (session_of core slot).install why) (live-came core holds slot live, keeps) refl

-- ---- Names and keys of lines

module _ (core : CoreState) (holds : RulesHold core) (slot line version : ℕ) where
  abbrev who : Who
  who = who_of core slot

  name-plain : IsPlainName (line_name_of who line version)
  name-plain =
      let sound = session-sound core holds slot in
      cond_both (is_image_at who line version) (Image who.id line) (run_name who line version)
      IsPlainName (λ _. (sound.id, sound.id_length)) (λ _. tt)

  tag-payload : KeepsPayload 96 (keys_of who line version).tag.0
  tag-payload =
      let sound = session-sound core holds slot in
      cond_both (is_image_at who line version) (image_keys who.key who.id)
      (run_keys who.key who.boot who.install) (λ (keys : LineKeys). KeepsPayload 96 keys.tag.0)
      (λ _. sound.key) (λ _. run_tag-payload who.key who.boot who.install)

  aes-bytes : IsBytes (keys_of who line version).aes.0
  aes-bytes =
      cond_both (is_image_at who line version) (image_keys who.key who.id)
      (run_keys who.key who.boot who.install) (λ (keys : LineKeys). IsBytes keys.aes.0)
      (λ _. image_aes-bytes who.key.0 who.id.0) (λ _. run_aes-bytes who.key who.boot who.install)

  masked-bytes : (bytes : List ℕ) → IsBytes bytes
      → IsBytes (line_masked (line_name_of who line version) (keys_of who line version) bytes)
  masked-bytes bytes each =
      line_masked-bytes (line_name_of who line version) (keys_of who line version) bytes aes-bytes each

  -- a Seal and an Accept of the line
  seal-holds : (bytes : List ℕ) → IsBytes bytes
      → RulesHold (with_entry core (seal_entry who line version bytes))
  seal-holds bytes each =
      let ct = (sealed_as who line version bytes).ct in
      noted-holds core holds (seal_entry who line version bytes) (
        tag-payload,
        line_message-payload (line_name_of who line version) ct name-plain
            (masked-bytes bytes each) (line_masked-short (line_name_of who line version)
            (keys_of who line version) bytes),
      ) refl

  accept-holds : (ct : List ℕ) (place : ℕ) → IsBytes ct → length ct ≤ 32 → Is32Bit place
      → RulesHold (with_entry core (accept_entry who line version ct place))
  accept-holds ct place each few short =
      noted-holds core holds (accept_entry who line version ct place)
      (tag-payload, line_message-payload (line_name_of who line version) ct name-plain each few, short)
      refl

-- ---- RAM

-- a sealed line is written to its frame
with_sealed-bytes : (ram : List ℕ) (frame : Option ℕ) (line : ℕ) (sealed : SealedLine) → IsBytes ram
    → IsBytes sealed.ct → IsBytes sealed.tag → IsBytes (with_sealed ram frame line sealed)
with_sealed-bytes ram None line sealed bytes ct tag = bytes
with_sealed-bytes ram (Some frame) line sealed bytes ct tag =
    bytes-written (ram_with_bytes ram (ct_place frame line) sealed.ct) (tag_place frame (index_in_frame line))
    sealed.tag (bytes-written ram (ct_place frame line) sealed.ct bytes ct) tag

with_sealed-size : (ram : List ℕ) (frame : Option ℕ) (line : ℕ) (sealed : SealedLine)
    → length sealed.ct ≤ 32 → length sealed.tag ≡ 32
    → ((f : ℕ) → frame ≡ Some f → f * 8192 + 8192 ≤ length ram)
    → length (with_sealed ram frame line sealed) ≡ length ram
with_sealed-size ram None line sealed ct tag fit = refl
with_sealed-size ram (Some frame) line sealed ct tag fit =
    let within : frame * 8192 + 8192 ≤ length ram = fit frame refl in
    let once = ram_with_bytes ram (ct_place frame line) sealed.ct in
    let first : length once ≡ length ram = length-written_at ram (ct_place frame line) sealed.ct
    (omega arith) in
    length-written_at once (tag_place frame (index_in_frame line)) sealed.tag (omega arith) ∙ first

-- a part of RAM
pub part-bytes : (ram : List ℕ) (address count : ℕ) → IsBytes ram
    → IsBytes (bytes_at ram address count)
part-bytes ram address count bytes =
    bytes-take count (drop address ram) (bytes-drop address ram bytes)

pub take-short : (n : ℕ) (xs : List ℕ) → length (take n xs) ≤ n
take-short zero xs = omega arith
take-short (suc n) [] = omega arith
take-short (suc n) (x ∷ xs) = let low = take-short n xs in omega arith

-- ---- What an access comes to

-- a page that isn't mapped has a number of 32 bits
abbrev pub IsShortReach : Reach → Type 0
IsShortReach (reach.PageFault page) = Is32Bit page
IsShortReach (reach.Ready place) = Unit {0}
IsShortReach (reach.Stopped why) = Unit {0}

abbrev pub Answers : CoreState × Reach → Type 0
Answers answer = RulesHold answer.0 × IsShortReach answer.1

-- ---- Write-back

module _ (v : Versions) (Stands : StandsFor) (law : VersionLaw v Stands)
    (rules : StoresKeepRules v) where
  raising-holds : (core : CoreState) (slot line : ℕ) → line < line_limit → RulesHold core
      → RulesHold (after_raise v core slot line)
  unfolding after_raise
  raising-holds core slot line low holds =
      let store = store_of core slot in
      let texts = v.texts_of_raise store line core.ram in
      let new = v.store_after_raise store line core.ram in
      let same = law.size_after_raise store line core.ram (holds.areas slot) low in
      let first = hashed-holds core texts (rules.texts_of_raise store line core.ram holds.ram)
      holds in
      let second = with_ram-holds (core_with_hashes core texts) first
      (v.ram_after_raise store line core.ram) (rules.ram_after_raise store line core.ram
      holds.ram) same in
      let kept : HoldsArea (v.ram_after_raise store line core.ram) new =
      subst (λ area. IfSome area (λ a. HoldsRange (v.ram_after_raise store line core.ram) a
      area_size)) (sym (law.area_after_raise store line core.ram))
      (area_stays store.area core.ram (v.ram_after_raise store line core.ram) same
      (holds.areas slot)) in
      with_store-holds (record (core_with_hashes core texts) {
        ram = v.ram_after_raise store line
            core.ram;
      }) second slot new kept

  sealing-holds : (core : CoreState) (slot line : ℕ) (bytes : List ℕ) (version : ℕ) → IsBytes bytes
      → RulesHold core → RulesHold (after_seal v core slot line bytes version)
  unfolding after_seal
  sealing-holds core slot line bytes version each holds =
      let who = who_of core slot in
      let name = line_name_of who line version in
      let keys = keys_of who line version in
      let sealed = sealed_as who line version bytes in
      let frame = frame_of core.pages slot (page_of line) in
      with_ram-holds (with_entry core (seal_entry who line version bytes))
      (seal-holds core holds slot line version bytes each)
      (with_sealed core.ram frame line sealed)
      (with_sealed-bytes core.ram frame line sealed holds.ram (masked-bytes core holds slot line
      version bytes each) (line_tag-bytes name keys sealed.ct))
      (with_sealed-size core.ram frame line sealed (line_masked-short name keys bytes)
      (line_tag-size name keys sealed.ct) (λ f is. holds.frames slot (page_of line) f is))

  write_back-holds : (core : CoreState) (slot line : ℕ) (bytes : List ℕ) → IsBytes bytes
      → IsLive core slot → RulesHold core
      → (answer : Result ℕ Torn) → ((torn : Torn) → answer ≡ Err torn → torn.level < 2 ^ 8)
      → RulesHold (or_stopped v slot (sealed_by_raise v core slot line bytes answer)).0
  write_back-holds core slot line bytes each live holds (Ok version) level =
      sealing-holds core slot line bytes version each holds
  write_back-holds core slot line bytes each live holds (Err torn) level =
      stopped-holds core slot (rule.TreeNode torn.level) (level torn refl) live holds

  cleared-holds : (core : CoreState) (way : Way) (dirty : Bool) → way.dirty ≡ dirty
      → IsSoundWay core.sessions way → RulesHold core → RulesHold (after_victim v core way dirty).0
  unfolding after_raise
  cleared-holds core way false is sound holds = holds
  cleared-holds core way true is sound holds =
      write_back-holds (after_raise v core way.slot way.line) way.slot way.line way.bytes
      sound.bytes (sound.live is) (raising-holds core way.slot way.line sound.line holds)
      (v.answer_of_raise (store_of core way.slot) way.line core.ram)
      (λ torn its. rules.level_of_raise (store_of core way.slot) way.line core.ram torn its)

  pub cleared_at-holds : (core : CoreState) (place : ℕ) → RulesHold core
      → RulesHold (cleared_at v core place).0
  unfolding cleared_at
  cleared_at-holds core place holds =
      cleared-holds core (way_at core.ways place) (way_at core.ways place).dirty refl
      (holds.ways place) holds

  -- ---- Access

  new_way-sound : (core : CoreState) (slot line : ℕ) (bytes : List ℕ) → IsBytes bytes
      → line < line_limit → IsSoundWay core.sessions (new_way slot line bytes)
  new_way-sound core slot line bytes each low = record {
    bytes = each;
    line = low;
    live =
        λ dirty. absurd (cc);
  }

  put-holds : (victim place slot line : ℕ) (bytes : List ℕ) (result : CoreState × Option Rule)
      → IsBytes bytes → line < line_limit → RulesHold result.0
      → Answers (reach_after_victim v victim place slot line bytes result)
  put-holds victim place slot line bytes (core, None) each low holds = (
    with_way-holds core holds place (new_way slot line bytes) (λ _. new_way-sound core slot line
        bytes each low),
    tt,
  )
  put-holds victim place slot line bytes (core, Some why) each low holds =
      cond_both (victim == slot) (core, reach.Stopped why)
      (core_with_way core place (new_way slot line bytes), reach.Ready place) Answers
      (λ _. (holds, tt)) (λ _. (
        with_way-holds core holds place (new_way slot line bytes)
            (λ _. new_way-sound core slot line bytes each low),
        tt,
      ))

  placed-holds : (core : CoreState) (slot line : ℕ) (bytes : List ℕ) → IsBytes bytes
      → line < line_limit → RulesHold core → Answers (reach_after_placing v core slot line bytes)
  unfolding reach_after_placing
  placed-holds core slot line bytes each low holds =
      let place = place_for core.ways core.pointers line in
      put-holds (way_at core.ways place).slot place slot line bytes
      (cleared_at v (with_pointers core line) place) each low
      (cleared_at-holds (with_pointers core line) place
      (ways-hold core holds core.ways (pointers_after core.ways core.pointers line) holds.ways))

  opened-holds : (core : CoreState) (slot line version place : ℕ) (ct : List ℕ)
      (bytes : Option (List ℕ))
      → IfSome bytes IsBytes → IsBytes ct → length ct ≤ 32 → Is32Bit place
      → line < line_limit → IsLive core slot → RulesHold core
      → Answers (after_opening v core slot line version place ct bytes)
  opened-holds core slot line version place ct None each cts few short low live holds = (
    stopped-holds core slot (rule.LineTag line) (let small : line < 32768 = low in omega arith)
        live holds,
    tt,
  )
  opened-holds core slot line version place ct (Some bytes) each cts few short low live holds =
      placed-holds (with_entry core (accept_entry (who_of core slot) line version ct place)) slot
      line bytes each low (accept-holds core holds slot line version ct place cts few short)

  read_from-holds : (core : CoreState) (slot line frame version : ℕ)
      → frame_of core.pages slot (page_of line) ≡ Some frame → line < line_limit → IsLive core slot
      → RulesHold core
      → Answers (reach_by_frame v core slot line frame version)
  read_from-holds core slot line frame version is low live holds =
      let who = who_of core slot in
      let sealed = sealed_at core.ram frame line in
      let cts = part-bytes core.ram (ct_place frame line) 32 holds.ram in
      let within : frame * 8192 + 8192 ≤ length core.ram = holds.frames slot (page_of line) frame
      is in
      let small : length core.ram ≤ 2 ^ 32 = holds.size in
      opened-holds core slot line version (ct_place frame line) sealed.ct
      (unsealed_line (line_name_of who line version) (keys_of who line version) sealed)
      (cond_both _ (Some (line_masked (line_name_of who line version) (keys_of who line version)
      sealed.ct)) None (λ o. IfSome o IsBytes) (λ _. masked-bytes core holds slot line version
      sealed.ct cts) (λ _. tt))
      cts (take-short 32 (drop (ct_place frame line) core.ram)) (omega arith) low live holds

  brought-holds : (core : CoreState) (slot line frame : ℕ) (answer : Result ℕ Torn)
      → ((torn : Torn) → answer ≡ Err torn → torn.level < 2 ^ 8)
      → frame_of core.pages slot (page_of line) ≡ Some frame → line < line_limit → IsLive core slot
      → RulesHold core → Answers (brought v core slot line frame answer)
  brought-holds core slot line frame (Err torn) level is low live holds =
      (stopped-holds core slot (rule.TreeNode torn.level) (level torn refl) live holds, tt)
  brought-holds core slot line frame (Ok version) level is low live holds =
      cond_both (version == 0) (reach_after_placing v core slot line (replicate 32 0))
      (reach_by_frame v core slot line frame version) Answers
      (λ _. placed-holds core slot line (replicate 32 0) (bytes-zeros 32) low holds)
      (λ _. read_from-holds core slot line frame version is low live holds)

  looked-holds : (core : CoreState) (slot line frame : ℕ) (at : Option ℕ)
      → frame_of core.pages slot (page_of line) ≡ Some frame → line < line_limit → IsLive core slot
      → RulesHold core
      → Answers (reach_by_cache v core slot line frame at)
  looked-holds core slot line frame (Some place) is low live holds = (holds, tt)
  looked-holds core slot line frame None is low live holds =
      let store = store_of core slot in
      let texts = v.texts_of_version store line core.ram in
      brought-holds (core_with_hashes core texts) slot line frame
      (v.answer_of_version store line core.ram) (λ torn its. rules.level_of_version store line
      core.ram torn its) is low live
      (hashed-holds core texts (rules.texts_of_version store line core.ram holds.ram) holds)

  mapped-holds : (core : CoreState) (slot line : ℕ) (frame : Option ℕ)
      → frame_of core.pages slot (page_of line) ≡ frame → line < line_limit → IsLive core slot
      → RulesHold core
      → Answers (reach_in_frame v core slot line frame)
  mapped-holds core slot line None is low live holds =
      (holds, let small : line < 32768 = low in omega arith)
  mapped-holds core slot line (Some frame) is low live holds =
      looked-holds core slot line frame (place_of_line core.ways slot line) is low live holds

  pub access-holds : (core : CoreState) (slot line : ℕ) → line < line_limit → IsLive core slot
      → RulesHold core → Answers (access v core slot line)
  unfolding access
  access-holds core slot line low live holds =
      mapped-holds core slot line (frame_of core.pages slot (page_of line)) refl low live holds

  -- ---- Flush

  taken-holds : (place : ℕ) (result : CoreState × Option Rule) → RulesHold result.0
      → RulesHold (after_eviction place result).0
  taken-holds place (core, None) holds =
      with_way-holds core holds place free_way (λ _. free_way-sound core.sessions)
  taken-holds place (core, Some why) holds = holds

  taken_out-holds : (core : CoreState) (at : Option ℕ) → RulesHold core
      → RulesHold (taken_out v core at).0
  taken_out-holds core None holds = holds
  taken_out-holds core (Some place) holds =
      taken-holds place (cleared_at v core place) (cleared_at-holds core place holds)

  and_then-holds : (first : CoreState × Option Rule) (rest : CoreState → CoreState × Option Rule)
      → RulesHold first.0 → ((mid : CoreState) → RulesHold mid → RulesHold (rest mid).0)
      → RulesHold (and_then first rest).0
  and_then-holds (core, None) rest holds more = more core holds
  and_then-holds (core, Some why) rest holds more = holds

  pub flushed-holds : (slot count line : ℕ) (core : CoreState) → RulesHold core
      → RulesHold (after_flush v slot count line core).0
  unfolding after_flush
  flushed-holds slot zero line core holds = holds
  flushed-holds slot (suc count) line core holds =
      and_then-holds (taken_out v core (place_of_line core.ways slot line))
      (after_flush v slot count (line + 1)) (taken_out-holds core (place_of_line core.ways slot line)
      holds) (λ mid its. flushed-holds slot count (line + 1) mid its)
