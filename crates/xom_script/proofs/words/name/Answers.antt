-- The word is a name if it is UTF-8.
use Rattle.std.proofs.Common.{sym, ap, ◌∙◌, Some}
use Rattle.xom_script.proofs.FieldLaws.{name_of-none, name_of-utf8}
use Rattle.xom_script.proofs.words.name.Goals as goal

pub returns-in_default : goal.returns-in_default
returns-in_default c = sym (name_of-none c.args.word.now c.in_default.ensures.cases.0)

pub returns : goal.returns
returns c =
    ap Some (c.new.ensures ∙ (c.in_ok-from_str.ensures.ok ∙ c.in-Ok.ensures.cases.0))
    ∙ sym (name_of-utf8 c.args.word.now c.in-Ok.ensures.cases.1)
