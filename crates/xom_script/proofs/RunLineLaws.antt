-- What the words of a line of a run file write, as a function and as a relation.
use Rattle.std.proofs.Common.{◌≡◌, ℕ, suc, ◌^◌, ◌<◌, ◌≤◌, false, eqb, ltb, leb, List, [], ◌∷◌, ◌++◌, length, Option, Some, None, refl, sym, ap, subst, ◌∙◌, option_map, append_assoc, arith}
use Rattle.std.proofs.lemmas.List.{append-nil}
use Rattle.std.specs.Prelude.{◌↔◌, codes, option_and_then}
use Rattle.std.specs.List.{AllZip}
use Rattle.std.proofs.lemmas.Bool.Decides.{nat_tests}
use Rattle.std.proofs.lemmas.Bool.{leb-true, le-leb, ltb-true, lt-ltb, le-ltb}
use Rattle.std.proofs.lemmas.Option.{none-some, option_and_then_some as steps, same_Some}
use Rattle.text_lines.specs.Hex.{hex_of}
use Rattle.text_lines.specs.Numbers.{IsNumber, WritesBelow, number_below_of, number_of_word}
use Rattle.xom_base.specs.Options.{◌>>=◌, where_holds}
use Rattle.text_lines.proofs.CutLaws.{option_map_some}
use Rattle.text_lines.proofs.HexLaws.{hex_of-exact}
use Rattle.text_lines.proofs.NumberLaws.{number_below_of-exact, number_of-exact, cond_then}
use Rattle.xom_base.specs.declared.schedule.Interrupts.TheVariants as interrupts
use Rattle.xom_script.specs.Fields.{name_of_word, write_bytes_of}
use Rattle.xom_script.specs.RunLines.{Ascends, IsRunLine, at_line, boot_line, budget_line, every_line, frames_line, guest_and_input_line, guest_line, interrupt_line, interrupt_rows, kernel_choice, kernel_rows, machine_line, never_line, owner_line, pages_line, poke_line, run_line_of, run_rows, times_of}
use Rattle.xom_script.specs.declared.run_file.KernelLine.TheVariants as kernel
use Rattle.xom_script.specs.declared.run_file.OwnerFile.{OwnerFile}
use Rattle.xom_script.specs.declared.run_line.RunLine.{RunLine}
use Rattle.xom_script.specs.declared.run_line.RunLine.TheVariants as line
use Rattle.xom_script.proofs.FieldLaws.{name_of-found, name_of-utf8, row_found, write_bytes_of-exact}

-- what these words write is the line that was found
given : (words : List (List ℕ)) (found value : RunLine) → IsRunLine words found
    → Some found ≡ Some value → IsRunLine words value
given words found value is same = subst (IsRunLine words) (same_Some found value same) is

-- ---- the loop over numbers

-- numbers in front of those of other words
front_append : (a b : List ℕ) (o : Option (List ℕ))
    → option_map (λ more. a ++ more) (option_map (λ more. b ++ more) o) ≡ option_map
    (λ more. (a ++ b) ++ more) o
front_append a b None = refl
front_append a b (Some more) = ap Some (sym (append_assoc a b more))

pub times_none : (times : List ℕ) (last : ℕ) (word : List ℕ) (words : List (List ℕ))
    → number_of_word word ≡ None
    → option_map (λ more. times ++ more) (times_of last (word ∷ words)) ≡ None
unfolding times_of
times_none times last word words h = rw h refl

pub times_low : (times : List ℕ) (last n : ℕ) (word : List ℕ) (words : List (List ℕ))
    → number_of_word word ≡ Some n → n ≤ last
    → option_map (λ more. times ++ more) (times_of last (word ∷ words)) ≡ None
unfolding times_of
times_low times last n word words h low = rw (h, le-ltb last n low) refl

pub times_next : (times : List ℕ) (last n : ℕ) (word : List ℕ) (words : List (List ℕ))
    → number_of_word word ≡ Some n → last < n
    → option_map (λ more. times ++ more) (times_of last (word ∷ words)) ≡ option_map
    (λ more. (times ++ n ∷ []) ++ more) (times_of n words)
unfolding times_of
times_next times last n word words h above = rw (h, lt-ltb last n above)
    (ap (option_map (λ more. times ++ more)) (one n (times_of n words)) ∙ front_append times (n ∷ [])
    (times_of n words))
  where
    one : (n : ℕ) (o : Option (List ℕ))
        → option_and_then (λ more. Some (n ∷ more)) o ≡ option_map (λ more. (n ∷ []) ++ more) o
    one n None = refl
    one n (Some more) = refl

pub times_done : (times : List ℕ) (last : ℕ)
    → option_map (λ more. times ++ more) (times_of last []) ≡ Some times
unfolding times_of
times_done times last = ap Some (append-nil times)

times_found : (last : ℕ) (words : List (List ℕ)) (times : List ℕ) → times_of last words ≡ Some times
    → AllZip IsNumber words times × Ascends last times
unfolding times_of
times_found last [] times h =
    subst (λ times. AllZip IsNumber [] times × Ascends last times) (same_Some [] times h) (tt, tt)
times_found last (word ∷ words) times h =
    steps _ (number_of_word word) times h (λ n read h.
    steps _ (where_holds (ltb last n) n) times h (λ above guard h.
    steps _ (times_of n words) times h (λ more rest h.
    let behind = times_found n words more rest in
    let t = cond_then (ltb last n) (Some n) above guard in
    subst (λ times. AllZip IsNumber (word ∷ words) times × Ascends last times)
    (same_Some (n ∷ more) times h)
    (((number_of-exact word n).0 read, behind.0), (ltb-true last n t.0, behind.1)))))

times_only : (last : ℕ) (words : List (List ℕ)) (times : List ℕ) → AllZip IsNumber words times
    → Ascends last times → times_of last words ≡ Some times
unfolding times_of
times_only last [] [] z a = refl
times_only last [] (n ∷ times) z a = absurd z
times_only last (word ∷ words) [] z a = absurd z
times_only last (word ∷ words) (n ∷ times) z a =
    rw ((number_of-exact word n).1 z.0, lt-ltb last n a.0, times_only n words times z.1 a.1) refl

-- as many numbers as words
same_length : (words : List (List ℕ)) (times : List ℕ) → AllZip IsNumber words times
    → length times ≡ length words
same_length [] [] h = refl
same_length [] (n ∷ times) h = absurd h
same_length (word ∷ words) [] h = absurd h
same_length (word ∷ words) (n ∷ times) h = ap suc (same_length words times h.1)

-- ---- rows, as they are read

-- a row of one number below a bound
number_found : (name : List ℕ) (bound : ℕ) (make : ℕ → RunLine) (w : List ℕ) (value : RunLine)
    → (number_below_of bound w >>= (λ n. Some (make n))) ≡ Some value
    → ((n : ℕ) → WritesBelow bound w n → IsRunLine (name ∷ w ∷ []) (make n))
    → IsRunLine (name ∷ w ∷ []) value
number_found name bound make w value h is =
    steps _ (number_below_of bound w) value h (λ n read same.
    given (name ∷ w ∷ []) (make n) value (is n ((number_below_of-exact bound w n).0 read)) same)

machine_found : (words : List (List ℕ)) (value : RunLine) → machine_line words ≡ Some value
    → IsRunLine (codes "machine" ∷ words) value
unfolding machine_line
machine_found [] value h = absurd (none-some value h)
machine_found (k ∷ []) value h =
    steps _ (hex_of 32 k) value h (λ key read same.
    given (codes "machine" ∷ k ∷ []) (line.Machine record { 0 = key }) value
    (k, refl, (hex_of-exact 32 k key).0 read) same)
machine_found (k ∷ l ∷ words) value h = absurd (none-some value h)

boot_found : (words : List (List ℕ)) (value : RunLine) → boot_line words ≡ Some value
    → IsRunLine (codes "boot" ∷ words) value
unfolding boot_line
boot_found [] value h = absurd (none-some value h)
boot_found (w ∷ []) value h =
    number_found (codes "boot") (2 ^ 63) line.Boot w value h (λ n is. (w, refl, is))
boot_found (w ∷ l ∷ words) value h = absurd (none-some value h)

frames_found : (words : List (List ℕ)) (value : RunLine) → frames_line words ≡ Some value
    → IsRunLine (codes "frames" ∷ words) value
unfolding frames_line
frames_found [] value h = absurd (none-some value h)
frames_found (w ∷ []) value h =
    steps _ (number_below_of 8193 w) value h (λ n read same.
    let t = cond_then (leb 4 n) (Some (line.Frames n)) value same in
    given (codes "frames" ∷ w ∷ []) (line.Frames n) value
    (w, refl, (number_below_of-exact 8193 w n).0 read, leb-true 4 n t.0) t.1)
frames_found (w ∷ l ∷ words) value h = absurd (none-some value h)

budget_found : (words : List (List ℕ)) (value : RunLine) → budget_line words ≡ Some value
    → IsRunLine (codes "budget" ∷ words) value
unfolding budget_line
budget_found [] value h = absurd (none-some value h)
budget_found (w ∷ []) value h =
    number_found (codes "budget") 1048577 line.Budget w value h (λ n is. (w, refl, is))
budget_found (w ∷ l ∷ words) value h = absurd (none-some value h)

owner_found : (words : List (List ℕ)) (value : RunLine) → owner_line words ≡ Some value
    → IsRunLine (codes "owner" ∷ words) value
unfolding owner_line
owner_found [] value h = absurd (none-some value h)
owner_found (p ∷ []) value h = absurd (none-some value h)
owner_found (p ∷ k ∷ []) value h = absurd (none-some value h)
owner_found (p ∷ k ∷ i ∷ []) value h =
    steps _ (name_of_word p) value h (λ plain read_p h.
    steps _ (hex_of 32 k) value h (λ key read_k h.
    steps _ (hex_of 16 i) value h (λ id read_i same.
    let name = name_of-found p plain read_p in
    let owner : OwnerFile = record {
      plain = plain;
      key = record { 0 = key };
      id =
          record { 0 = id };
    } in
    given (codes "owner" ∷ p ∷ k ∷ i ∷ []) (line.Owner owner) value (
      k,
      i,
      ap (λ p. codes "owner" ∷ p ∷ k ∷ i ∷ []) name.0,
      name.1,
      (hex_of-exact 32 k key).0
          read_k,
      (hex_of-exact 16 i id).0 read_i,
    ) same)))
owner_found (p ∷ k ∷ i ∷ l ∷ words) value h = absurd (none-some value h)

guest_found : (words : List (List ℕ)) (value : RunLine) → guest_line words ≡ Some value
    → IsRunLine (codes "guest" ∷ words) value
unfolding guest_line guest_and_input_line
guest_found [] value h = absurd (none-some value h)
guest_found (s ∷ []) value h =
    steps _ (name_of_word s) value h (λ sealed read same.
    let name = name_of-found s sealed read in
    given (codes "guest" ∷ s ∷ []) (line.Guest sealed None) value
    (ap (λ s. codes "guest" ∷ s ∷ []) name.0, name.1) same)
guest_found (s ∷ i ∷ []) value h =
    steps _ (name_of_word s) value h (λ sealed read_s h.
    steps _ (name_of_word i) value h (λ input read_i same.
    let name = name_of-found s sealed read_s in
    let other = name_of-found i input read_i in
    given (codes "guest" ∷ s ∷ i ∷ []) (line.Guest sealed (Some input)) value (
      ap (λ s. codes "guest" ∷ s ∷ i ∷ []) name.0 ∙ ap (λ i. codes "guest" ∷ sealed ∷ i ∷ [])
          other.0,
      name.1,
      other.1,
    ) same))
guest_found (s ∷ i ∷ l ∷ words) value h = absurd (none-some value h)

kernel_found : (words : List (List ℕ)) (value : RunLine) → kernel_choice words ≡ Some value
    → IsRunLine (codes "kernel" ∷ words) value
unfolding kernel_choice pages_line
kernel_found [] value h = absurd (none-some value h)
kernel_found (kind ∷ []) value h = absurd (none-some value h)
kernel_found (kind ∷ w ∷ []) value h =
    let words = codes "kernel" ∷ kind ∷ w ∷ [] in
    row_found (IsRunLine words value) kind value (kernel_rows w) h (
      λ is read.
          let m = option_map_some (λ file. line.Kernel (kernel.Script file)) (name_of_word w) value
          read in
          let name = name_of-found w m.0 m.1 in
          given words (line.Kernel (kernel.Script m.0)) value (
            kind ∷ w ∷ [],
            refl,
            (
              ap (λ kind. kind ∷ w ∷ []) is ∙ ap (λ w. codes "script" ∷ w ∷ [])
                  name.0,
              name.1,
            ),
          ) m.2,
      (
        λ is read.
            let m = option_map_some (λ file. line.Kernel (kernel.Image file)) (name_of_word w) value
            read in
            let name = name_of-found w m.0 m.1 in
            given words (line.Kernel (kernel.Image m.0)) value (
              kind ∷ w ∷ [],
              refl,
              (
                ap (λ kind. kind ∷ w ∷ []) is
                    ∙ ap (λ w. codes "image" ∷ w ∷ []) name.0,
                name.1,
              ),
            ) m.2,
        (
          λ is read.
              steps _ (number_below_of 257 w) value read (λ n number same.
              let t = cond_then (leb 2 n) (Some (line.Kernel (kernel.Xomos n))) value same in
              given words (line.Kernel (kernel.Xomos n)) value (
                kind ∷ w ∷ [],
                refl,
                (
                  w,
                  ap (λ kind. kind ∷ w ∷ []) is,
                  (number_below_of-exact 257 w n).0 number,
                  leb-true 2 n t.0,
                ),
              ) t.1),
          tt,
        ),
      ),
    )
kernel_found (kind ∷ w ∷ l ∷ words) value h = absurd (none-some value h)

never_found : (kind : List ℕ) (words : List (List ℕ)) (value : RunLine) → kind ≡ codes "never"
    → never_line words ≡ Some value → IsRunLine (codes "interrupt" ∷ kind ∷ words) value
unfolding never_line
never_found kind [] value is same =
    given (codes "interrupt" ∷ kind ∷ []) (line.Interrupt interrupts.Never) value
    (kind ∷ [], refl, ap (λ kind. kind ∷ []) is) same
never_found kind (w ∷ words) value is h = absurd (none-some value h)

every_found : (kind : List ℕ) (words : List (List ℕ)) (value : RunLine) → kind ≡ codes "every"
    → every_line words ≡ Some value → IsRunLine (codes "interrupt" ∷ kind ∷ words) value
unfolding every_line
every_found kind [] value is h = absurd (none-some value h)
every_found kind (w ∷ []) value is h =
    steps _ (number_of_word w) value h (λ n read same.
    let t = cond_then (leb 1 n) (Some (line.Interrupt (interrupts.Every n))) value same in
    given (codes "interrupt" ∷ kind ∷ w ∷ []) (line.Interrupt (interrupts.Every n)) value (
      kind ∷ w ∷ [],
      refl,
      (
        w,
        ap (λ kind. kind ∷ w ∷ []) is,
        (number_of-exact w n).0 read,
        leb-true
            1 n t.0,
      ),
    ) t.1)
every_found kind (w ∷ l ∷ words) value is h = absurd (none-some value h)

some_words : (word : List ℕ) (words : List (List ℕ)) → eqb (length (word ∷ words)) 0 ≡ false
some_words word words = grind (arith, nat_tests)

at_found : (kind : List ℕ) (words : List (List ℕ)) (value : RunLine) → kind ≡ codes "at"
    → at_line words ≡ Some value → IsRunLine (codes "interrupt" ∷ kind ∷ words) value
unfolding at_line
at_found kind [] value is h = absurd (none-some value h)
at_found kind (w ∷ words) value is h =
    steps _ (times_of 0 (w ∷ words)) value (rw (some_words w words) at h) (λ times read same.
    let found = times_found 0 (w ∷ words) times read in
    let some : 0 < length times = rw (same_length (w ∷ words) times found.0) (omega arith) in
    given (codes "interrupt" ∷ kind ∷ w ∷ words) (line.Interrupt (interrupts.At times)) value
    (kind ∷ w ∷ words, refl, (w ∷ words, ap (λ kind. kind ∷ w ∷ words) is, found.0, some, found.1))
    same)

interrupt_found : (words : List (List ℕ)) (value : RunLine) → interrupt_line words ≡ Some value
    → IsRunLine (codes "interrupt" ∷ words) value
unfolding interrupt_line
interrupt_found [] value h = absurd (none-some value h)
interrupt_found (kind ∷ words) value h =
    row_found (IsRunLine (codes "interrupt" ∷ kind ∷ words) value) kind value (interrupt_rows words)
    h
    (never_found kind words value, (every_found kind words value, (at_found kind words value, tt)))

poke_found : (words : List (List ℕ)) (value : RunLine) → poke_line words ≡ Some value
    → IsRunLine (codes "poke" ∷ words) value
unfolding poke_line
poke_found [] value h = absurd (none-some value h)
poke_found (e ∷ []) value h = absurd (none-some value h)
poke_found (e ∷ a ∷ []) value h = absurd (none-some value h)
poke_found (e ∷ a ∷ b ∷ []) value h =
    steps _ (number_of_word e) value h (λ event read_e h.
    steps _ (number_below_of (2 ^ 32) a) value h (λ address read_a h.
    steps _ (write_bytes_of b) value h (λ bytes read_b same.
    given (codes "poke" ∷ e ∷ a ∷ b ∷ [])
    (line.Poke record { event = event; address = address; bytes = bytes }) value (
      e,
      a,
      b,
      refl,
      (number_of-exact e event).0 read_e,
      (number_below_of-exact (2 ^ 32) a address).0
          read_a,
      (write_bytes_of-exact b bytes).0 read_b,
    ) same)))
poke_found (e ∷ a ∷ b ∷ l ∷ words) value h = absurd (none-some value h)

-- what is found of one kind is found of the line
of_kind : (kind name : List ℕ) (words : List (List ℕ)) (value : RunLine) → kind ≡ name
    → IsRunLine (name ∷ words) value → IsRunLine (kind ∷ words) value
of_kind kind name words value is found =
    subst (λ kind. IsRunLine (kind ∷ words) value) (sym is) found

run_line_found : (words : List (List ℕ)) (value : RunLine) → run_line_of words ≡ Some value
    → IsRunLine words value
unfolding run_line_of
run_line_found [] value h = absurd (none-some value h)
run_line_found (kind ∷ words) value h =
    row_found (IsRunLine (kind ∷ words) value) kind value (run_rows words) h (
      λ is read. of_kind kind (codes "machine") words value is (machine_found words value read),
      (
        λ is read. of_kind kind (codes "boot") words value is (boot_found words value read),
        (
          λ is read. of_kind kind (codes "frames") words value is (frames_found words value read),
          (
            λ is read. of_kind kind (codes "budget") words value is (budget_found words value read),
            (
              λ is read. of_kind kind (codes "owner") words value is (owner_found words value read),
              (
                λ is read. of_kind kind (codes "guest") words value is
                    (guest_found words value read),
                (
                  λ is read. of_kind kind (codes "kernel") words value is
                      (kernel_found words value read),
                  (
                    λ is read. of_kind kind (codes "interrupt") words value is
                        (interrupt_found words value read),
                    (
                      λ is read. of_kind kind (codes "poke") words value is
                          (poke_found words value read),
                      tt,
                    ),
                  ),
                ),
              ),
            ),
          ),
        ),
      ),
    )

-- ---- rows, as they are written

at_only : (numbers : List (List ℕ)) (times : List ℕ) → AllZip IsNumber numbers times
    → 0 < length times → Ascends 0 times
    → at_line numbers ≡ Some (line.Interrupt (interrupts.At times))
unfolding at_line
at_only [] times z some a = let none = same_length [] times z in absurd (omega arith)
at_only (w ∷ words) times z some a =
    rw (some_words w words, times_only 0 (w ∷ words) times z a) refl

run_line_only : (words : List (List ℕ)) (value : RunLine) → IsRunLine words value
    → run_line_of words ≡ Some value
unfolding run_line_of machine_line boot_line frames_line budget_line owner_line guest_line guest_and_input_line
    kernel_choice pages_line interrupt_line never_line every_line poke_line
run_line_only words (line.Machine key) w = rw w.1 (rw ((hex_of-exact 32 w.0 key.0).1 w.2) refl)
run_line_only words (line.Boot n) w =
    rw w.1 (rw ((number_below_of-exact (2 ^ 63) w.0 n).1 w.2) refl)
run_line_only words (line.Frames n) w =
    rw w.1 (rw ((number_below_of-exact 8193 w.0 n).1 w.2, le-leb 4 n w.3) refl)
run_line_only words (line.Budget n) w =
    rw w.1 (rw ((number_below_of-exact 1048577 w.0 n).1 w.2) refl)
run_line_only words (line.Owner owner) w =
    rw w.2 (rw (
      name_of-utf8 owner.plain w.3,
      (hex_of-exact 32 w.0 owner.key.0).1 w.4,
      (hex_of-exact 16 w.1 owner.id.0).1 w.5,
    ) refl)
run_line_only words (line.Guest sealed None) w = rw w.0 (rw (name_of-utf8 sealed w.1) refl)
run_line_only words (line.Guest sealed (Some input)) w =
    rw w.0 (rw (name_of-utf8 sealed w.1, name_of-utf8 input w.2) refl)
run_line_only words (line.Kernel (kernel.Script file)) w =
    rw (w.1, w.2.0) (rw (name_of-utf8 file w.2.1) refl)
run_line_only words (line.Kernel (kernel.Image file)) w =
    rw (w.1, w.2.0) (rw (name_of-utf8 file w.2.1) refl)
run_line_only words (line.Kernel (kernel.Xomos pages)) w =
    rw (w.1, w.2.1) (rw ((number_below_of-exact 257 w.2.0 pages).1 w.2.2, le-leb 2 pages w.2.3)
    refl)
run_line_only words (line.Interrupt interrupts.Never) w = rw (w.1, w.2) refl
run_line_only words (line.Interrupt (interrupts.Every n)) w =
    rw (w.1, w.2.1) (rw ((number_of-exact w.2.0 n).1 w.2.2, le-leb 1 n w.2.3) refl)
run_line_only words (line.Interrupt (interrupts.At times)) w =
    rw (w.1, w.2.1) (at_only w.2.0 times w.2.2 w.2.3 w.2.4)
run_line_only words (line.Poke poke) w =
    rw w.3 (rw (
      (number_of-exact w.0 poke.event).1 w.4,
      (number_below_of-exact (2 ^ 32) w.1
          poke.address).1 w.5,
      (write_bytes_of-exact w.2 poke.bytes).1 w.6,
    ) refl)

pub run_line_of-exact : (words : List (List ℕ)) (value : RunLine)
    → (run_line_of words ≡ Some value) ↔ IsRunLine words value
run_line_of-exact words value = (run_line_found words value, run_line_only words value)
