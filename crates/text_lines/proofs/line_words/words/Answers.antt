-- The words are the parts between blanks that have bytes.
use Rattle.std.proofs.Common.{◌∙◌, rules}
use borrow.Author.Tests.{tests}
use Rattle.std.proofs.lemmas.Iterator.Consumers.{YieldsList-at, YieldsList-from_filter, map_from_collect}
use Rattle.std.proofs.lemmas.Iterator.Splits.{YieldsList-from_slice_split}
use Rattle.std.proofs.lemmas.Result.{IfOk-at_ok}
use Rattle.std.specs.List.{before_first}
use Rattle.text_lines.specs.Words.{begins_comment, has_bytes, is_blank}
use Rattle.text_lines.proofs.line_words.words.Goals as goal

pub returns : goal.returns
returns c =
    IfOk-at_ok _ c.in_ok-found.was
    (map_from_collect _ c.collect.ensures.ran
    (YieldsList-from_filter _ has_bytes
    (YieldsList-at c.filter.ensures.source
    (YieldsList-from_slice_split _ is_blank (before_first begins_comment c.args.line.now)
    (c.split.ensures.rest ∙ c.before_comment.ensures) c.split.ensures.done c.split.ensures.closure
    (λ x b q k. search (rules, tests))))
    c.filter.ensures.closure (λ x b q k. search (rules, tests))))
