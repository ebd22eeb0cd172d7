-- What is printed of a journal: one entry a line, with one space between words. This project's own
-- format.
use Rattle.std.specs.Prelude.{ℕ, List, [], ◌∷◌, ◌++◌, codes}
use Rattle.std.specs.Fmt.{decimal}
use Rattle.hex.specs.Hex.{encode_lower}
use Rattle.step_text.specs.StepTexts.{own_fault_text, step_fields}
use Rattle.xom_base.specs.declared.entry.Entry.{Entry}
use Rattle.xom_base.specs.declared.entry.Entry.TheVariants as entry
use Rattle.xom_base.specs.declared.event.Cause.{Cause}
use Rattle.xom_base.specs.declared.event.Cause.TheVariants as cause
use Rattle.xom_base.specs.declared.event.Rule.{Rule}
use Rattle.xom_base.specs.declared.event.Rule.TheVariants as rule

-- a word behind a space
abbrev pub spaced_word : List ℕ → List ℕ
spaced_word word = codes " " ++ word

-- RULE and DETAIL
abbrev pub journal_rule_text : Rule → List ℕ
journal_rule_text (rule.LineTag n) = codes "LineTag " ++ decimal n
journal_rule_text (rule.TreeNode n) = codes "TreeNode " ++ decimal n
journal_rule_text (rule.RegisterTag n) = codes "RegisterTag " ++ decimal n
journal_rule_text (rule.RegisterMissing n) = codes "RegisterMissing " ++ decimal n

-- Why a guest left. No trap of a machine has one of the three without a text of its own.
abbrev pub cause_text : Cause → List ℕ
cause_text cause.Nothing = codes "nothing"
cause_text cause.Interrupt = codes "interrupt"
cause_text (cause.Call code) = codes "call " ++ decimal code
cause_text (cause.Page page) = codes "page " ++ decimal page
cause_text (cause.Fault kind) = codes "fault " ++ own_fault_text kind
cause_text cause.Exit = codes "exit"
cause_text (cause.Stopped why) = codes "stopped " ++ journal_rule_text why

-- the words of an entry's line, as they are printed
abbrev pub entry_text : Entry → List ℕ
entry_text (entry.Install n slot id place begin lines) =
    codes "install " ++ (decimal n ++ (spaced_word (decimal slot) ++ (spaced_word (encode_lower id.0)
    ++ (spaced_word (decimal place) ++ (spaced_word (decimal begin) ++ spaced_word (decimal lines))))))
entry_text (entry.Step n step) = codes "step " ++ (decimal n ++ spaced_word (step_fields step))
entry_text (entry.Trap n why) = codes "trap " ++ (decimal n ++ spaced_word (cause_text why))
entry_text (entry.Seal key message) =
    codes "seal " ++ (encode_lower key ++ spaced_word (encode_lower message))
entry_text (entry.Accept key message place) =
    codes "accept " ++ (encode_lower key ++ spaced_word (encode_lower message) ++ spaced_word (decimal place))
entry_text (entry.Hash preimage digest) =
    codes "hash " ++ (encode_lower preimage ++ spaced_word (encode_lower digest))
entry_text (entry.Stop n why) = codes "stop " ++ (decimal n ++ spaced_word (journal_rule_text why))
entry_text (entry.Kill n) = codes "kill " ++ decimal n
entry_text (entry.Out byte) = codes "out " ++ decimal byte

-- the same with its line end
unfoldable pub journal_line_text : Entry → List ℕ
journal_line_text e = entry_text e ++ (10 ∷ [])

-- all lines, in the order of the entries
abbrev pub journal_text : List Entry → List ℕ
journal_text [] = []
journal_text (e ∷ entries) = journal_line_text e ++ journal_text entries
