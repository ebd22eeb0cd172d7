-- What is answered of the text of a journal is what its name comes to.
use Rattle.std.proofs.Common.{◌≡◌, ℕ, inl, inr, List, Some, Result, Ok, Err, sym, subst, refl, arith}
use Rattle.xom_io.specs.Answers.{FilesTold}
use Rattle.text_lines.specs.Lines.{lines_of}
use Rattle.journal_text.specs.Readings.{IsBadJournalLine}
use Rattle.cli_base.specs.declared.answer.Answer.{Answer}
use Rattle.cli_base.specs.declared.refusal.InputFault.TheVariants.{BadLine}
use Rattle.cli_base.specs.declared.refusal.Refusal.{Refusal}
use Rattle.cli_base.specs.declared.refusal.Refusal.TheVariants.{Unread, Bad}
use Rattle.cli_base.specs.declared.refusal.Stop.{Stop}
use Rattle.cli_base.specs.declared.refusal.Stop.TheVariants as stop
use Rattle.cli_base.specs.Inputs.{Held, file_or_refusal}
use Rattle.cli_base.specs.Readings.{IsWanted, MakesRefusal, Meets}
use Rattle.cli_picture.specs.Picture.{Draws, DrawsRead, IsDrawn, drawn_limit}

-- a journal with a bad line is refused for it, or for want of memory
pub drawn_stops : (journal text page : List ℕ) (n : ℕ) (made : Stop)
    → IsBadJournalLine (lines_of text) n → MakesRefusal made (Bad journal (BadLine n))
    → IsDrawn journal text page (Err made)
drawn_stops journal text page n made bad (inl is) =
    subst (λ (s : Stop). IsDrawn journal text page (Err s)) (sym is) (n, bad, refl)
drawn_stops journal text page n made bad (inr is) =
    subst (λ (s : Stop). IsDrawn journal text page (Err s)) (sym is) tt

module _ (told : FilesTold) (journal page text : List ℕ) (before after : ℕ) (stays : after ≡ before)
    (read : (held : Held) → told ≡ Some held → file_or_refusal held journal drawn_limit ≡ Ok text) where
  -- what the text comes to, the name does
  of_name : (outcome : Result Answer Refusal) → DrawsRead journal page (Ok text) outcome
      → IsWanted told (Draws journal page) outcome
  of_name outcome is held here =
      subst (λ (bytes : Result (List ℕ) Refusal). DrawsRead journal page bytes outcome)
      (sym (read held here)) is

  pub drawn_meets : (result : Result Answer Stop) → IsDrawn journal text page result
      → Meets told (Draws journal page) before after result
  drawn_meets (Ok answer) is = (stays, of_name (Ok answer) is)
  drawn_meets (Err (stop.Refused (Unread name))) is = absurd (let last = is.2 in cc)
  drawn_meets (Err (stop.Refused (Bad name fault))) is =
      (stays, of_name (Err (Bad name fault)) is)
  drawn_meets (Err stop.NoMemory) is = omega arith
