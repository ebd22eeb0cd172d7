-- How a form of one line is written and answered.
use Rattle.std.specs.Prelude.{◌≡◌, List, [], ◌∷◌, ◌++◌, Option, Some, None, Result, Ok, Err, option_map}
use Rattle.xom_base.specs.Options.{◌>>=◌}
use Rattle.text_lines.specs.declared.lines.LineFault.{LineFault}
use Rattle.text_lines.specs.declared.lines.LineFault.TheVariants.{Bad, NoMemory}

-- what each element gives, where each gives something
abbrev pub map_some : {X Y : Type 0} → (X → Option Y) → List X → Option (List Y)
map_some f [] = Some []
map_some f (x ∷ xs) = do
  y ← f x
  ys ← map_some f xs
  Some (y ∷ ys)

-- the form has no value; want of memory comes freely
abbrev pub FormRefuses : {A : Type 0} → Option A → LineFault → Type 0
FormRefuses form Bad = form ≡ None
FormRefuses form NoMemory = Unit {0}

-- what was answered is the value of the form, or its absence, unless memory ran out
abbrev pub FormAnswers : {A : Type 0} → Option A → Result A LineFault → Type 0
FormAnswers form (Ok value) = form ≡ Some value
FormAnswers form (Err fault) = FormRefuses form fault

-- What the form has stands in a list, in place of what stood there. Where it was refused, nothing is
-- said of the list.
abbrev pub Fills : {A B : Type 0} → Option (List A) → Result B LineFault → List A → Type 0
Fills form (Ok done) new = form ≡ Some new
Fills form (Err fault) new = FormRefuses form fault

-- these in front of those that follow, if there is an end to them
abbrev pub in_front : {A : Type 0} → List A → Option (List A) → Option (List A)
in_front front more = option_map (λ more. front ++ more) more

-- What the form has was added at the end of a list. Where it was refused, nothing is said of the
-- list.
abbrev pub Adds : {A B : Type 0} → Option (List A) → List A → Result B LineFault → List A → Type 0
Adds {A} form old (Ok done) new = (more : List A) × (form ≡ Some more) × (new ≡ old ++ more)
Adds form old (Err fault) new = FormRefuses form fault
