-- What speaks against the guests of a report, and a guest that was stopped.
use Rattle.std.specs.Prelude.{Bool, true, false, ◌||◌, is_some}
use Rattle.std.specs.List.{list_any}
use Rattle.xom_base.specs.declared.entry.Entry.{Entry}
use Rattle.xom_base.specs.declared.entry.Entry.TheVariants as entry
use Rattle.mips_plain.specs.declared.verdict.Verdict.{Verdict}
use Rattle.mips_plain.specs.declared.verdict.Verdict.TheVariants.{Follows, Departs, NoOwner}
use Rattle.trace_judge.specs.declared.report.GuestLine.{GuestLine}
use Rattle.trace_judge.specs.declared.report.Report.{Report}

-- the guest departs or has no owner
abbrev pub is_doubted : Verdict → Bool
is_doubted (Follows steps) = false
is_doubted (Departs step) = true
is_doubted NoOwner = true

-- the report names a forged entry, a collision, or a guest that departs or has no owner
abbrev pub is_suspect : Report → Bool
is_suspect report =
    is_some report.forged ||
    (is_some report.collision || list_any (λ (line : GuestLine). is_doubted line.verdict)
    report.guests)

-- the entry says that a guest was stopped
abbrev pub is_stop : Entry → Bool
is_stop (entry.Stop install rule) = true
is_stop other = false
