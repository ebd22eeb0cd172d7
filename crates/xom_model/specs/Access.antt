-- A guest's way to its private memory: the cache before RAM, and what leaves the cache sealed.
use Rattle.std.specs.Prelude.{ℕ, zero, suc, ◌+◌, ◌==◌, Bool, true, false, List, Option, Some, None, Result, Ok, Err, replicate, slice_set, if◌then◌else◌}
use Rattle.xom_base.specs.declared.entry.Entry.TheVariants as entry
use Rattle.xom_base.specs.declared.event.Rule.{Rule}
use Rattle.xom_base.specs.declared.event.Rule.TheVariants as rule
use Rattle.xom_seal.specs.Sealing.{unsealed_line}
use Rattle.tag_regs.specs.TaggedCells.{cells_after_scrub}
use Rattle.session_table.specs.declared.session.SlotState.{SlotState}
use Rattle.session_table.specs.declared.session.SlotState.TheVariants as state
use Rattle.session_table.specs.Sessions.{session_after_leaving}
use Rattle.xom_model.specs.declared.reach.Reach.{Reach}
use Rattle.xom_model.specs.declared.reach.Reach.TheVariants as reach
use Rattle.xom_versions.specs.declared.store.Torn.{Torn}
use Rattle.xom_versions.specs.Versions.{Versions}
use Rattle.xom_base.specs.Sizes.{line_size}
use Rattle.page_map.specs.Pages.{frame_of, without_pages}
use Rattle.line_cache.specs.declared.way.Way.{Way}
use Rattle.line_cache.specs.Ways.{free_way, new_way, place_for, place_of_line, pointers_after, way_at, without_slot}
use Rattle.xom_model.specs.State.{CoreState, core_with_hashes, core_with_session, core_with_way, page_of, session_of, store_of, with_entry}
use Rattle.xom_model.specs.Lines.{accept_entry, ct_place, keys_of, line_name_of, seal_entry, sealed_as, sealed_at, who_of, with_sealed}

-- ---- Leaving for good

-- what is left where a slot's guest leaves for good: no cell, no line in the cache and no page of
-- its own
unfoldable pub without_guest : CoreState → ℕ → CoreState
without_guest core slot =
    record core {
      cells = cells_after_scrub slot core.cells;
      ways = without_slot slot core.ways;
      pages =
          without_pages core.pages slot;
    }

-- the core after a slot's guest left for good, in this last state
abbrev pub after_leaving : CoreState → ℕ → SlotState → CoreState
after_leaving core slot final =
    core_with_session (without_guest core slot) slot (session_after_leaving (session_of core slot) final)

-- the guest is stopped for good by a rule
abbrev pub after_stop : CoreState → ℕ → Rule → CoreState
after_stop core slot why =
    with_entry (after_leaving core slot (state.Stopped why))
    (entry.Stop (session_of core slot).install why)

-- ---- Where a line is placed

-- the pointer of a line's set moves on where it is needed
abbrev pub with_pointers : CoreState → ℕ → CoreState
with_pointers core line = record core { pointers = pointers_after core.ways core.pointers line }

-- ---- Lines that are taken out

-- a line that was written back, where it was dirty, is taken out
abbrev pub after_eviction : ℕ → CoreState × Option Rule → CoreState × Option Rule
after_eviction place (core, None) = (core_with_way core place free_way, None)
after_eviction place (core, Some why) = (core, Some why)

-- one part, and then the rest, unless the slot was stopped
abbrev pub and_then : CoreState × Option Rule → (CoreState → CoreState × Option Rule)
    → CoreState × Option Rule
and_then (core, None) rest = rest core
and_then (core, Some why) rest = (core, Some why)

module _ (v : Versions) where
  -- ---- Write-back

  -- the core after a version was raised, or found torn
  unfoldable pub after_raise : CoreState → ℕ → ℕ → CoreState
  after_raise core slot line = record core {
    stores = slice_set core.stores slot (v.store_after_raise (store_of core slot) line core.ram);
    ram = v.ram_after_raise (store_of core slot) line core.ram;
    entries = (core_with_hashes core (v.texts_of_raise (store_of core slot) line core.ram)).entries;
  }

  -- the core after a line was sealed under a version and written to its frame
  unfoldable pub after_seal : CoreState → ℕ → ℕ → List ℕ → ℕ → CoreState
  after_seal core slot line bytes version =
      record (with_entry core (seal_entry (who_of core slot) line version bytes)) {
        ram = with_sealed core.ram (frame_of core.pages slot (page_of line)) line
            (sealed_as (who_of core slot) line version bytes);
      }

  -- a torn tree is answered with its rule
  abbrev pub sealed_by_raise : CoreState → ℕ → ℕ → List ℕ → Result ℕ Torn → CoreState × Option Rule
  sealed_by_raise core slot line bytes (Err torn) = (core, Some (rule.TreeNode torn.level))
  sealed_by_raise core slot line bytes (Ok version) =
      (after_seal core slot line bytes version, None)

  -- a line's bytes are sealed under its next version and written to its frame
  abbrev pub write_back : CoreState → ℕ → ℕ → List ℕ → CoreState × Option Rule
  write_back core slot line bytes =
      sealed_by_raise (after_raise core slot line) slot line bytes
      (v.answer_of_raise (store_of core slot) line core.ram)

  -- a torn tree stops the slot whose line was to be written back
  abbrev pub or_stopped : ℕ → CoreState × Option Rule → CoreState × Option Rule
  or_stopped slot (core, None) = (core, None)
  or_stopped slot (core, Some why) = (after_stop core slot why, Some why)

  -- what stands dirty in a way is written back
  abbrev pub after_victim : CoreState → Way → Bool → CoreState × Option Rule
  after_victim core way false = (core, None)
  after_victim core way true = or_stopped way.slot (write_back core way.slot way.line way.bytes)

  -- the line at a place is written back, if it is dirty
  unfoldable pub cleared_at : CoreState → ℕ → CoreState × Option Rule
  cleared_at core place = after_victim core (way_at core.ways place) (way_at core.ways place).dirty

  -- ---- Access

  -- the new line stands in its place, unless its own slot was stopped
  abbrev pub reach_after_victim : ℕ → ℕ → ℕ → ℕ → List ℕ → CoreState × Option Rule
      → CoreState × Reach
  reach_after_victim victim place slot line bytes (core, None) =
      (core_with_way core place (new_way slot line bytes), reach.Ready place)
  reach_after_victim victim place slot line bytes (core, Some why) =
      if victim == slot then (core, reach.Stopped why)
      else (core_with_way core place (new_way slot line bytes), reach.Ready place)

  -- A line is placed: its way is chosen first, and stays chosen; then a dirty victim is written
  -- back.
  unfoldable pub reach_after_placing : CoreState → ℕ → ℕ → List ℕ → CoreState × Reach
  reach_after_placing core slot line bytes =
      let place = place_for core.ways core.pointers line in
      reach_after_victim (way_at core.ways place).slot place slot line bytes
      (cleared_at (with_pointers core line) place)

  -- a line that was read is accepted where its tag is right, and else stops its slot
  abbrev pub after_opening : CoreState → ℕ → ℕ → ℕ → ℕ → List ℕ → Option (List ℕ)
      → CoreState × Reach
  after_opening core slot line version place ct None =
      (after_stop core slot (rule.LineTag line), reach.Stopped (rule.LineTag line))
  after_opening core slot line version place ct (Some bytes) =
      reach_after_placing (with_entry core (accept_entry (who_of core slot) line version ct place))
      slot line bytes

  -- a line is read from its frame and opened under this version
  abbrev pub reach_by_frame : CoreState → ℕ → ℕ → ℕ → ℕ → CoreState × Reach
  reach_by_frame core slot line frame version =
      let sealed = sealed_at core.ram frame line in
      after_opening core slot line version (ct_place frame line) sealed.ct
      (unsealed_line (line_name_of (who_of core slot) line version)
      (keys_of (who_of core slot) line version) sealed)

  -- version 0 means zeros, and RAM isn't read
  abbrev pub brought : CoreState → ℕ → ℕ → ℕ → Result ℕ Torn → CoreState × Reach
  brought core slot line frame (Err torn) =
      (after_stop core slot (rule.TreeNode torn.level), reach.Stopped (rule.TreeNode torn.level))
  brought core slot line frame (Ok version) =
      if version == 0 then reach_after_placing core slot line (replicate line_size 0)
      else reach_by_frame core slot line frame version

  -- a cached line is ready; for another one its version is asked for
  abbrev pub reach_by_cache : CoreState → ℕ → ℕ → ℕ → Option ℕ → CoreState × Reach
  reach_by_cache core slot line frame (Some place) = (core, reach.Ready place)
  reach_by_cache core slot line frame None =
      brought (core_with_hashes core (v.texts_of_version (store_of core slot) line core.ram)) slot
      line frame (v.answer_of_version (store_of core slot) line core.ram)

  -- a line in the frame of its page, or a page fault where the page isn't mapped
  abbrev pub reach_in_frame : CoreState → ℕ → ℕ → Option ℕ → CoreState × Reach
  reach_in_frame core slot line None = (core, reach.PageFault (page_of line))
  reach_in_frame core slot line (Some frame) =
      reach_by_cache core slot line frame (place_of_line core.ways slot line)

  -- the private access to a line of a slot
  unfoldable pub access : CoreState → ℕ → ℕ → CoreState × Reach
  access core slot line = reach_in_frame core slot line (frame_of core.pages slot (page_of line))

  -- ---- Flush

  -- a cached line is written back where it is dirty, and taken out
  abbrev pub taken_out : CoreState → Option ℕ → CoreState × Option Rule
  taken_out core None = (core, None)
  taken_out core (Some place) = after_eviction place (cleared_at core place)

  -- so many lines of a slot from this one on, in ascending order
  unfoldable pub after_flush : ℕ → ℕ → ℕ → CoreState → CoreState × Option Rule
  after_flush slot zero line core = (core, None)
  after_flush slot (suc count) line core =
      and_then (taken_out core (place_of_line core.ways slot line)) (after_flush slot count (line + 1))
