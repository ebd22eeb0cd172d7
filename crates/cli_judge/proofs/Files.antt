-- A run file, the images of its owners and a journal, read one after the other.
use Rattle.std.proofs.Common.{◌≡◌, ℕ, List, Result, Ok, Err, refl, sym}
use Rattle.xom_io.specs.Answers.{FilesTold}
use Rattle.xom_base.specs.declared.entry.Entry.{Entry}
use Rattle.xom_base.specs.declared.key.Key256.{Key256}
use Rattle.xom_owners.specs.declared.owner.Owner.{Owner}
use Rattle.xom_script.specs.declared.run_file.RunFile.{RunFile}
use Rattle.cli_base.specs.declared.answer.Answer.{Answer}
use Rattle.cli_base.specs.declared.refusal.InputFault.{InputFault}
use Rattle.cli_base.specs.declared.refusal.Refusal.{Refusal}
use Rattle.cli_base.specs.declared.refusal.Stop.{Stop}
use Rattle.cli_base.specs.Inputs.{Held, file_or_refusal, in_file, in_lines, input_of, ◌>>=◌}
use Rattle.cli_base.specs.Readings.{FilesGive}
use Rattle.cli_base.proofs.Without.{stops-after, stops-through}
use Rattle.cli_runs.specs.OwnerImages.{owners_of}
use Rattle.cli_runs.specs.RunFiles.{run_file_of}
use Rattle.cli_runs.proofs.Steps.{gives-after, gives-same}
use Rattle.cli_runs.proofs.Unheld.{owners-without, run_file-without}
use Rattle.cli_judge.specs.Hearings.{judged_at}
use Rattle.cli_judge.specs.Judge.{entries_at, journal_limit, journal_of, judge_answer, judge_of}

-- ---- The journal

-- to judge what was read of a file is to read its judgement
in_file-then : {A B : Type 0} (name : List ℕ) (read : Result A InputFault) (f : A → B)
    → (in_file name read >>= (λ x. Ok (f x))) ≡ in_file name (read >>= (λ x. Ok (f x)))
in_file-then name (Ok x) f = refl
in_file-then name (Err fault) f = refl

bytes-then : (name : List ℕ) (bytes : Result (List ℕ) Refusal) (f : List Entry → Answer)
    → (bytes >>= (λ text. in_file name (in_lines (entries_at text) >>= (λ es. Ok (f es)))))
    ≡ ((bytes >>= (λ text. in_file name (in_lines (entries_at text)))) >>= (λ es. Ok (f es)))
bytes-then name (Ok text) f = sym (in_file-then name (in_lines (entries_at text)) f)
bytes-then name (Err e) f = refl

journal-then : (held : Held) (name : List ℕ) (machine : Key256) (owners : List Owner)
    → input_of journal_limit (judged_at machine owners) held
    name ≡ (journal_of held name >>= (λ entries. Ok (judge_answer machine owners entries)))
unfolding journal_of
journal-then held name machine owners =
    bytes-then name (file_or_refusal held name journal_limit) (judge_answer machine owners)

-- ---- One step after another

-- a run file was read, and the reading of its owners stopped
pub judge_stops : (told : FilesTold) (run journal : List ℕ) (before between after : ℕ) (file : RunFile)
    (why : Stop)
    → FilesGive told (λ held. run_file_of held run) before between (Ok file)
    → FilesGive told (λ held. owners_of held file.owners) between after (Err why)
    → FilesGive told (λ held. judge_of held run journal) before after (Err why)
unfolding judge_of
judge_stops told run journal before between after file why gave is =
    stops-after told (λ held. run_file_of held run) _ before between after file why
    (λ held name. run_file-without held name run) gave
    (stops-through told (λ held. owners_of held file.owners) _ between after why is)

-- both were read, and the journal was judged, or refused
pub judge_ends : (told : FilesTold) (run journal : List ℕ) (before between later after : ℕ)
    (file : RunFile) (owners : List Owner) (result : Result Answer Stop)
    → FilesGive told (λ held. run_file_of held run) before between (Ok file)
    → FilesGive told (λ held. owners_of held file.owners) between later (Ok owners)
    → FilesGive told (λ held. input_of journal_limit (judged_at file.machine owners) held journal) later
    after result
    → FilesGive told (λ held. judge_of held run journal) before after result
unfolding judge_of
judge_ends told run journal before between later after file owners result gave read is =
    gives-after told (λ held. run_file_of held run) _ before between after file result
    (λ held name. run_file-without held name run) gave
    (gives-after told (λ held. owners_of held file.owners) _ between later after owners result
    (λ held name. owners-without held name file.owners) read
    (gives-same told _ _ later after result (λ held. journal-then held journal file.machine owners)
    is))
