-- What is told of a slot.
use Rattle.std.specs.Prelude.{ℕ, List, slice_index_or}
use Rattle.session_table.specs.declared.session.SlotView.{SlotView}
use Rattle.session_table.specs.Sessions.{free}
use Rattle.xom_model.specs.Seen.{shown_slot}

-- what is told of the slot of this number; that of a free one where there is none
abbrev pub shown_slot_at : List SlotView → ℕ → SlotView
shown_slot_at slots slot = slice_index_or slots slot (shown_slot free)
