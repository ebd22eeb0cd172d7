-- The text of a report: a line for each guest, then one on forgery, then one on collision. Each
-- line ends with byte 10.
use Rattle.std.specs.Prelude.{ℕ, List, [], ◌∷◌, ◌++◌, Option, Some, None, codes}
use Rattle.std.specs.List.{flat_map}
use Rattle.std.specs.Fmt.{decimal}
use Rattle.hex.specs.Hex.{encode_lower}
use Rattle.xom_base.specs.declared.event.Rule.{Rule}
use Rattle.xom_base.specs.declared.event.Rule.TheVariants.{LineTag, TreeNode, RegisterTag, RegisterMissing}
use Rattle.mips_plain.specs.declared.verdict.Verdict.{Verdict}
use Rattle.mips_plain.specs.declared.verdict.Verdict.TheVariants.{Follows, Departs, NoOwner}
use Rattle.trace_judge.specs.declared.report.GuestEnd.{GuestEnd}
use Rattle.trace_judge.specs.declared.report.GuestEnd.TheVariants.{Ended, Stopped, Killed, Running}
use Rattle.trace_judge.specs.declared.report.GuestLine.{GuestLine}
use Rattle.trace_judge.specs.declared.report.Report.{Report}

-- a rule by its name, and its line, level or register
abbrev pub report_rule_text : Rule → List ℕ
report_rule_text (LineTag line) = codes "LineTag " ++ decimal line
report_rule_text (TreeNode level) = codes "TreeNode " ++ decimal level
report_rule_text (RegisterTag reg) = codes "RegisterTag " ++ decimal reg
report_rule_text (RegisterMissing reg) = codes "RegisterMissing " ++ decimal reg

-- what the steps of a guest are to its owner's program
abbrev pub verdict_text : Verdict → List ℕ
verdict_text (Follows steps) = codes "follows " ++ (decimal steps ++ codes " steps")
verdict_text (Departs step) = codes "departs at step " ++ decimal step
verdict_text NoOwner = codes "no owner"

-- how a guest ended, or that it is open
abbrev pub guest_end_text : GuestEnd → List ℕ
guest_end_text Ended = codes "ended"
guest_end_text (Stopped rule) = codes "stopped " ++ report_rule_text rule
guest_end_text Killed = codes "killed"
guest_end_text Running = codes "open"

-- an id is 32 hex digits
abbrev pub guest_line_text : GuestLine → List ℕ
guest_line_text line =
    codes "guest " ++ (decimal line.install
    ++ (codes " slot " ++ (decimal line.slot ++ (codes " id " ++ (encode_lower line.id.0
    ++ (codes " " ++ (verdict_text line.verdict
    ++ (codes " " ++ (guest_end_text line.end ++ 10 ∷ [])))))))))

-- the line on the first tag that was accepted for bytes never sealed
abbrev pub forged_text : Option ℕ → List ℕ
forged_text None = codes "forged none" ++ 10 ∷ []
forged_text (Some n) = codes "forged at entry " ++ (decimal n ++ 10 ∷ [])

-- the line on the first two hashed texts with one digest
abbrev pub collision_text : Option (ℕ × ℕ) → List ℕ
collision_text None = codes "collision none" ++ 10 ∷ []
collision_text (Some pair) =
    codes "collision of entries "
    ++ (decimal pair.0 ++ (codes " and " ++ (decimal pair.1 ++ 10 ∷ [])))

-- the whole text
abbrev pub report_text : Report → List ℕ
report_text report =
    flat_map guest_line_text report.guests
    ++ (forged_text report.forged ++ collision_text report.collision)
