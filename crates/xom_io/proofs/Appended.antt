-- Laws of appending to what a sink has written.
use Rattle.std.proofs.Common.{◌≡◌, ℕ, ◌+◌, ◌-◌, List, [], ◌++◌, take, drop, length, arith, refl, sym, ap, ◌∙◌, append_assoc, append-nil, subst}
use Rattle.std.specs.Prelude.{Option, Some, None}
use Rattle.std.proofs.Math.Seq.{take-add}
use Rattle.std.proofs.lemmas.List.{length-drop, length-take, take_all}
use Rattle.xom_io.specs.Answers.{AppendsToSink}

-- to append nothing leaves what was written
pub Appends-nothing : (written : Option (List ℕ)) → AppendsToSink written written []
Appends-nothing None = refl
Appends-nothing (Some text) = simp append-nil

-- to append one text and then another is to append both
pub Appends-then : (a b c : Option (List ℕ)) (x y : List ℕ) → AppendsToSink a b x → AppendsToSink b c y
    → AppendsToSink a c (x ++ y)
Appends-then None b c x y first second = rw first at second
Appends-then (Some text) b c x y first second =
    let both = rw first at second in both ∙ ap Some (append_assoc text x y)

-- nothing changes where nothing was appended
pub unchanged : (old new : Option (List ℕ)) → AppendsToSink old new [] → new ≡ old
unchanged old new appends = appends ∙ sym (Appends-nothing old)

-- the rest of a text, as a range of it
rest_of : (i : ℕ) (text : List ℕ) → take (length text - i) (drop i text) ≡ drop i text
rest_of i text = take_all _ _ (omega (arith, length-drop i text))

-- to append the first n bytes of the rest of a text is to append its first bytes, n more than
-- before
pub Appends-further : (a b c : Option (List ℕ)) (text : List ℕ) (i n : ℕ)
    → AppendsToSink a b (take i text) → AppendsToSink b c (take n (take (length text - i) (drop i text)))
    → AppendsToSink a c (take (i + n) text)
Appends-further a b c text i n first next =
    let P : List ℕ → Type 0 = AppendsToSink a c in
    let Q : List ℕ → Type 0 = λ rest. AppendsToSink b c (take n rest) in
    subst P (sym (take-add i n text)) (Appends-then a b c (take i text) (take n (drop i text)) first
    (subst Q (rest_of i text) next))

-- for `grind`: what a put of the rest of a text appends
pub ruleset further = (Appends-further, length-drop, length-take)
