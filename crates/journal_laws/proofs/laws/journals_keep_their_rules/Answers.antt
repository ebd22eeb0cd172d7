use Rattle.xom_versions.specs.Chip.{ChipStands, chip}
use Rattle.journal_laws.proofs.RuledEvents.{chip_rules, events_keep_rules, start_keeps_rules}
use Rattle.journal_laws.proofs.RuledRuns.{journals_are_read_again, journals_keep_rules}
use Rattle.journal_laws.proofs.KernelRuns.{kernels_are_read_again}
use Rattle.journal_laws.proofs.laws.journals_keep_their_rules.Goals as goal

pub returns : goal.returns
returns c = record {
  chip = chip_rules;
  at_start = start_keeps_rules chip;
  kept = events_keep_rules chip ChipStands;
  always = journals_keep_rules chip ChipStands;
  read_again = journals_are_read_again chip ChipStands;
  kernels = kernels_are_read_again chip ChipStands;
}
