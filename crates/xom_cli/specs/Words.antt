-- What the code's rows say, as rows of the definitions.
use Rattle.std.specs.Prelude.{option_map, string_bytes}
use Rattle.xom_cli.specs.declared.row.Row.{Row}
use Rattle.xom_cli.specs.declared.row.Row.TheVariants as row
use Rattle.xom_cli.specs.Rows.{Row as RowOfWords, Asm, Disasm, Plain, Seal, Run, Trace, Judge, Debug}

-- a row of the code as one of the definitions: strings as their bytes
abbrev pub row_of_words_of : Row → RowOfWords
row_of_words_of (row.Asm source image) = Asm (string_bytes source.now) (string_bytes image.now)
row_of_words_of (row.Disasm image) = Disasm (string_bytes image.now)
row_of_words_of (row.Plain image steps received) =
    Plain (string_bytes image.now) steps (option_map (λ name. string_bytes name.now) received)
row_of_words_of (row.Seal image key id machine sealed) =
    Seal (string_bytes image.now) key id machine (string_bytes sealed.now)
row_of_words_of (row.Run run) = Run (string_bytes run.now)
row_of_words_of (row.Trace run journal) =
    Trace (string_bytes run.now) (option_map (λ name. string_bytes name.now) journal)
row_of_words_of (row.Judge run journal) = Judge (string_bytes run.now) (string_bytes journal.now)
row_of_words_of (row.Debug run commands) = Debug (string_bytes run.now) (string_bytes commands.now)
