-- What a line adds, label by label.
use Rattle.std.proofs.Common.{◌≡◌, ℕ, List, [], ◌∷◌, ◌++◌, Option, Some, None, Result, Ok, Err, refl, sym, ap, ◌∙◌, option_map}
use Rattle.std.proofs.lemmas.Option.{none-some, same_Some}
use Rattle.text_lines.specs.declared.lines.LineFault.{LineFault}
use Rattle.text_lines.specs.declared.lines.LineFault.TheVariants.{Bad, NoMemory}
use Rattle.text_lines.proofs.CutLaws.{option_map_some}
use Rattle.asm_source.specs.declared.content.Content.TheVariants as content
use Rattle.asm_source.specs.declared.content.Part.{Part}
use Rattle.asm_syntax.specs.declared.lexeme.Lexeme.{Lexeme}
use Rattle.asm_syntax.specs.declared.lexeme.Lexeme.TheVariants as lexeme
use Rattle.asm_syntax.specs.Forms.{Adds}
use Rattle.asm_syntax.specs.Lines.{part_of_line, parts_of_line}
use Rattle.asm_syntax.proofs.FormLaws.{in_front_one}

-- a label in front is added first
pub parts_of_label : (n : ℕ) (before : List Part) (label : List ℕ) (rest : List Lexeme)
    → option_map (λ (more : List Part). before ++ more)
    (parts_of_line n (lexeme.Name label ∷ lexeme.Colon ∷ rest)) ≡ option_map
    (λ (more : List Part). (before ++ part_of_line n (content.Label label) ∷ []) ++ more)
    (parts_of_line n rest)
unfolding parts_of_line
parts_of_label n before label rest =
    in_front_one before (part_of_line n (content.Label label)) (parts_of_line n rest)

-- what has no value in front of others has none
nothing_mapped : {A B : Type 0} (f : A → B) (o : Option A) → option_map f o ≡ None → o ≡ None
nothing_mapped f None h = refl
nothing_mapped f (Some x) h = absurd (none-some (f x) (sym h))

-- what the rest adds to the parts so far is what all adds to those at the start
pub Adds-from : {B : Type 0} (form whole : Option (List Part)) (old mid : List Part)
    (r : Result B LineFault) (new : List Part)
    → option_map (λ (more : List Part). mid ++ more) form ≡ option_map (λ (more : List Part). old
    ++ more) whole
    → Adds form mid r new → Adds whole old r new
Adds-from form whole old mid (Ok done) new same adds =
    let read : option_map (λ (more : List Part). old ++ more) whole ≡ Some (mid ++ adds.0) =
    sym same ∙ ap (option_map (λ (more : List Part). mid ++ more)) adds.1 in
    let m = option_map_some (λ (more : List Part). old ++ more) whole (mid ++ adds.0) read in
    (m.0, m.1, adds.2 ∙ sym (same_Some (old ++ m.0) (mid ++ adds.0) m.2))
Adds-from form whole old mid (Err Bad) new same adds =
    nothing_mapped (λ (more : List Part). old ++ more) whole
    (sym same ∙ ap (option_map (λ (more : List Part). mid ++ more)) adds)
Adds-from form whole old mid (Err NoMemory) new same adds = tt
