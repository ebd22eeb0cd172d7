-- Quoted texts: the function is their grammar.
use Rattle.std.proofs.Common.{◌≡◌, ◌≢◌, ℕ, ◌<◌, Bool, true, false, eqb, inl, inr, List, [], ◌∷◌, ◌++◌, length, Option, Some, None, refl, sym, ap, subst, ◌∙◌, arith, append-nil, append_assoc}
use Rattle.std.specs.Prelude.{◌↔◌, option_map, option_and_then}
use Rattle.std.proofs.lemmas.Bool.{cases_Bool, eqb-true, eq-eqb, false_from_ne_true, both_ways}
use Rattle.std.proofs.lemmas.Option.{none-some, cond_some, option_and_then_some, some_pair_parts}
use Rattle.std.proofs.lemmas.Slice.Eq.{bytes_eq-Decides}
use Rattle.std.specs.Str.{bytes_eq}
use Rattle.text_lines.proofs.CutLaws.{option_map_none, option_map_some}
use Rattle.asm_tokens.proofs.Heads.{first_same, rest_same}
use Rattle.asm_tokens.specs.Lexemes.{IsEscape, Quotes, QuotesBytes, after_quote, escape_of, escaped_first, if_whole, in_front, quoted_of, read_quoted, written_first}

-- ---- escapes

-- the letter is not this one
other : (a b : ℕ) → a ≢ b → eqb a b ≡ false
other a b h = false_from_ne_true (eqb a b) (λ e. h (eqb-true a b e))

escape_found : (letter byte : ℕ) → escape_of letter ≡ Some byte → IsEscape letter byte
unfolding escape_of
escape_found letter byte h =
    elim (cases_Bool (eqb letter 110)) [
      | inl n ↦ inl (eqb-true letter 110 n, cc (rw n at h))
      | inr a ↦ elim (cases_Bool (eqb letter 48)) [
        | inl n ↦ inr (inl (eqb-true letter 48 n, cc (rw (a, n) at h)))
        | inr b ↦ elim (cases_Bool (eqb letter 92)) [
          | inl n ↦ inr (inr (inl (eqb-true letter 92 n, cc (rw (a, b, n) at h))))
          | inr c ↦
              let last = cond_some (eqb letter 34) 34 byte (rw (a, b, c) at h) in
              inr (inr (inr (eqb-true letter 34 last.0, sym last.1)))
        ]
      ]
    ]

escape_only : (letter byte : ℕ) → IsEscape letter byte → escape_of letter ≡ Some byte
unfolding escape_of
escape_only letter byte h =
    elim h [
      | inl n ↦ rw (n.0, n.1) refl
      | inr h ↦ elim h [
        | inl n ↦ rw (n.0, n.1) refl
        | inr h ↦ elim h [
          | inl n ↦ rw (n.0, n.1) refl
          | inr n ↦ rw (n.0, n.1) refl
        ]
      ]
    ]

-- ---- what is read

-- what a byte in front was put on
in_front_some : (byte : ℕ) (read : Option (List ℕ × List ℕ)) (bytes behind : List ℕ)
    → in_front byte read ≡ Some (bytes, behind)
    → (more : List ℕ) × (read ≡ Some (more, behind)) × (bytes ≡ byte ∷ more)
in_front_some byte None bytes behind h = absurd (none-some (bytes, behind) h)
in_front_some byte (Some read) bytes behind h =
    let e = some_pair_parts (byte ∷ read.0) bytes read.1 behind h in
    (read.0, ap (λ (left : List ℕ). Some (read.0, left)) e.1, sym e.0)

-- a `\` that stands right before, written out
abbrev pub shown : Bool → List ℕ → List ℕ
shown true body = 92 ∷ body
shown false body = body

-- a byte that is written as itself
wrote_itself : (byte : ℕ) (own bytes : List ℕ) → eqb byte 34 ≡ false → eqb byte 92 ≡ false
    → QuotesBytes own bytes → QuotesBytes (byte ∷ own) (byte ∷ bytes)
wrote_itself byte own bytes plain itself w = (
  byte ∷ [],
  own,
  refl,
  inl (
    refl,
    λ e. both_ways (eqb byte 34) plain (eq-eqb byte 34 e),
    λ e. both_ways (eqb byte 92) itself (eq-eqb byte 92 e),
  ),
  w,
)

-- what is read is written so
pub read_quoted-found : (escaped : Bool) (body bytes behind : List ℕ)
    → read_quoted escaped body ≡ Some (bytes, behind)
    → (own : List ℕ) × (shown escaped body ≡ own ++ behind) × QuotesBytes own bytes
unfolding read_quoted
read_quoted-found escaped [] bytes behind h = absurd (none-some (bytes, behind) h)
read_quoted-found true (letter ∷ more) bytes behind h =
    option_and_then_some (λ byte. in_front byte (read_quoted false more)) (escape_of letter)
    (bytes, behind) h (λ byte is front.
    let r = in_front_some byte (read_quoted false more) bytes behind front in
    let w = read_quoted-found false more r.0 behind r.1 in (
      92 ∷ letter ∷ w.0,
      ap (λ m. 92 ∷ letter ∷ m) w.1,
      subst (QuotesBytes (92 ∷ letter ∷ w.0))
          (sym r.2) (
            92 ∷ letter ∷ [],
            w.0,
            refl,
            inr (letter, refl, escape_found letter byte is),
            w.2,
          ),
    ))
read_quoted-found false (byte ∷ more) bytes behind h =
    elim (cases_Bool (eqb byte 34)) [
      | inl quote ↦
          let e = some_pair_parts [] bytes more behind (rw quote at h) in (
            34 ∷ [],
            ap (λ b. b ∷ more) (eqb-true byte 34 quote) ∙ ap (λ m. 34 ∷ m) e.1,
            rw (sym e.0)
                refl,
          )
      | inr plain ↦ elim (cases_Bool (eqb byte 92)) [
        | inl escape ↦
            let w = read_quoted-found true more bytes behind (rw (plain, escape) at h) in
            (w.0, ap (λ b. b ∷ more) (eqb-true byte 92 escape) ∙ w.1, w.2)
        | inr itself ↦
            let r = in_front_some byte (read_quoted false more) bytes behind
            (rw (plain, itself) at h) in
            let w = read_quoted-found false more r.0 behind r.1 in (
              byte ∷ w.0,
              ap (λ m. byte ∷ m) w.1,
              subst (QuotesBytes (byte ∷ w.0)) (sym r.2)
                  (wrote_itself byte w.0 r.0 plain itself w.2),
            )
      ]
    ]

-- what is written so is read
pub read_quoted-only : (bytes own behind : List ℕ) → QuotesBytes own bytes
    → read_quoted false (own ++ behind) ≡ Some (bytes, behind)
unfolding read_quoted
read_quoted-only [] own behind w = rw w refl
read_quoted-only (byte ∷ bytes) own behind w =
    let more = w.1 in
    let then : read_quoted false (more ++ behind) ≡ Some (bytes, behind) = read_quoted-only bytes
    more behind w.4 in
    elim w.3 [
      | inl itself ↦
          let whole : own ≡ byte ∷ more = w.2 ∙ ap (λ s. s ++ more) itself.0 in
          rw (whole, other byte 34 itself.1, other byte 92 itself.2, then) refl
      | inr escaped ↦
          let whole : own ≡ 92 ∷ escaped.0 ∷ more = w.2 ∙ ap (λ s. s ++ more) escaped.1 in
          rw (whole, escape_only escaped.0 byte escaped.2, then) refl
    ]

-- nothing stands behind what is whole
if_whole_some : (read : List ℕ × List ℕ) (bytes : List ℕ) → if_whole read ≡ Some bytes
    → read ≡ (bytes, [])
if_whole_some (own, []) bytes h = ap (λ (b : List ℕ). (b, [])) (cc h)
if_whole_some (own, byte ∷ more) bytes h = absurd (none-some bytes h)

pub quoted_of-exact : (text bytes : List ℕ) → (quoted_of text ≡ Some bytes) ↔ Quotes text bytes
unfolding quoted_of
quoted_of-exact [] bytes =
    (λ h. absurd (none-some bytes h), λ h. absurd (omega (arith, ap length h.1)))
quoted_of-exact (first ∷ body) bytes = (
  λ h.
      elim (cases_Bool (eqb first 34)) [
        | inl quote ↦
            option_and_then_some if_whole (read_quoted false body) bytes (rw quote at h)
            (λ read is whole.
            let found = read_quoted-found false body bytes []
            (is ∙ ap Some (if_whole_some read bytes whole)) in (
              body,
              ap (λ b. b ∷ body) (eqb-true first 34 quote),
              subst (λ (own : List ℕ). QuotesBytes own bytes) (sym (append-nil found.0)
                  ∙ sym found.1) found.2,
            ))
        | inr away ↦ absurd (none-some bytes (rw away at h))
      ],
  λ h.
      let here = first_same first 34 body h.0 h.1 in
      let same = rest_same first 34 body h.0 h.1 in
      let read = read_quoted-only bytes h.0 [] h.2 in
      rw (here, same, ← append-nil h.0, read) refl,
)

-- ---- byte for byte

-- behind a `\`
escaped_one : (rest : List ℕ) (byte : ℕ) (more : List ℕ) → escaped_first rest ≡ Some (byte, more)
    → (read_quoted true rest ≡ in_front byte (read_quoted false more))
    × (length more < length (92 ∷ rest))
unfolding read_quoted
escaped_one [] byte more h = absurd (none-some (byte, more) h)
escaped_one (letter ∷ left) byte more h =
    let m = option_map_some (λ b. (b, left)) (escape_of letter) (byte, more) h in
    let e = some_pair_parts m.0 byte left more m.2 in
    rw (m.1, e.0, e.1) (refl, omega arith)

escaped_none : (rest : List ℕ) → escaped_first rest ≡ None → read_quoted true rest ≡ None
unfolding read_quoted
escaped_none [] h = refl
escaped_none (letter ∷ left) h =
    let none = option_map_none (λ b. (b, left)) (escape_of letter) h in rw none refl

pub read_quoted-one : (body : List ℕ) (byte : ℕ) (more : List ℕ)
    → written_first body ≡ Some (byte, more)
    → (read_quoted false body ≡ in_front byte (read_quoted false more))
    × (length more < length body)
unfolding read_quoted written_first
read_quoted-one [] byte more h = absurd (none-some (byte, more) h)
read_quoted-one (first ∷ rest) byte more h =
    elim (cases_Bool (eqb first 34)) [
      | inl quote ↦ absurd (none-some (byte, more) (rw quote at h))
      | inr plain ↦ elim (cases_Bool (eqb first 92)) [
        | inl escape ↦ rw (plain, escape) (escaped_one rest byte more (rw (plain, escape) at h))
        | inr itself ↦
            let e = some_pair_parts first byte rest more (rw (plain, itself) at h) in
            rw (plain, itself, e.0, e.1) (refl, omega arith)
      ]
    ]

pub read_quoted-none : (body : List ℕ) → written_first body ≡ None
    → read_quoted false body ≡ option_map (λ behind. ([], behind)) (after_quote body)
unfolding read_quoted written_first
read_quoted-none [] h = refl
read_quoted-none (first ∷ rest) h =
    elim (cases_Bool (eqb first 34)) [
      | inl quote ↦ rw quote refl
      | inr plain ↦ elim (cases_Bool (eqb first 92)) [
        | inl escape ↦ rw (plain, escape) (escaped_none rest (rw (plain, escape) at h))
        | inr itself ↦ absurd (none-some (first, rest) (sym (rw (plain, itself) at h)))
      ]
    ]

-- these bytes in front of what is read
abbrev pub put_front : List ℕ → Option (List ℕ × List ℕ) → Option (List ℕ × List ℕ)
put_front front read = option_map (λ read. (front ++ read.0, read.1)) read

-- one byte more
pub put_front-one : (front : List ℕ) (byte : ℕ) (read : Option (List ℕ × List ℕ))
    → put_front (front ++ byte ∷ []) read ≡ put_front front (in_front byte read)
put_front-one front byte None = refl
put_front-one front byte (Some read) = rw append_assoc refl

-- nothing in front
pub put_front-nil : (read : Option (List ℕ × List ℕ)) → put_front [] read ≡ read
put_front-nil None = refl
put_front-nil (Some read) = refl

-- a byte in front changes nothing of what stands behind the closing quote
behind-in_front : (byte : ℕ) (read : Option (List ℕ × List ℕ))
    → option_map (λ read. read.1) (in_front byte read) ≡ option_map (λ read. read.1) read
behind-in_front byte None = refl
behind-in_front byte (Some read) = refl

pub behind-one : (rest : List ℕ) (byte : ℕ) (more : List ℕ) → Some (byte, more) ≡ written_first rest
    → option_map (λ read. read.1) (read_quoted false more) ≡ option_map (λ read. read.1)
    (read_quoted false rest)
behind-one rest byte more h =
    let one = read_quoted-one rest byte more (sym h) in
    sym (behind-in_front byte (read_quoted false more))
    ∙ ap (λ read. option_map (λ read. read.1) read) (sym one.0)

behind_pair : (behind : Option (List ℕ))
    → option_map (λ (read : List ℕ × List ℕ). read.1) (option_map (λ behind. ([], behind)) behind)
    ≡ behind
behind_pair None = refl
behind_pair (Some behind) = refl

pub behind-none : (rest : List ℕ) → written_first rest ≡ None
    → option_map (λ read. read.1) (read_quoted false rest) ≡ after_quote rest
behind-none rest h = rw (read_quoted-none rest h) (behind_pair (after_quote rest))

-- the same of the bytes so far
pub put_front-step : (front : List ℕ) (rest : List ℕ) (byte : ℕ) (more : List ℕ)
    → Some (byte, more) ≡ written_first rest
    → put_front (front ++ byte ∷ []) (read_quoted false more) ≡ put_front front
    (read_quoted false rest)
put_front-step front rest byte more h =
    let one = read_quoted-one rest byte more (sym h) in
    put_front-one front byte (read_quoted false more) ∙ ap (put_front front) (sym one.0)

-- where the rest is the closing quote alone
pub put_front-closed : (front rest : List ℕ) → bytes_eq rest (34 ∷ []) ≡ true
    → option_and_then if_whole (put_front front (read_quoted false rest)) ≡ Some front
unfolding read_quoted
put_front-closed front rest h =
    let is : rest
    ≡ 34 ∷ [] = (bytes_eq-Decides rest (34 ∷ [])).0 h in rw is (ap Some (append-nil front))

-- where no byte is left to be written, and the rest isn't that
left_open : (front : List ℕ) (behind : Option (List ℕ)) → (behind ≡ Some [] → ⊥)
    → option_and_then if_whole (put_front front (option_map (λ behind. ([], behind)) behind)) ≡ None
left_open front None never = refl
left_open front (Some []) never = absurd (never refl)
left_open front (Some (byte ∷ more)) never = refl

after_quote_whole : (rest : List ℕ) → after_quote rest ≡ Some [] → rest ≡ 34 ∷ []
after_quote_whole [] h = absurd (none-some [] h)
after_quote_whole (byte ∷ more) h =
    let e = cond_some (eqb byte 34) more [] h in
    ap (λ b. b ∷ more) (eqb-true byte 34 e.0) ∙ ap (λ m. 34 ∷ m) e.1

pub put_front-open : (front rest : List ℕ) → written_first rest ≡ None
    → bytes_eq rest (34 ∷ []) ≡ false
    → option_and_then if_whole (put_front front (read_quoted false rest)) ≡ None
put_front-open front rest none away =
    rw (read_quoted-none rest none)
    (left_open front (after_quote rest) (λ whole. both_ways (bytes_eq rest (34 ∷ [])) away
    ((bytes_eq-Decides rest (34 ∷ [])).1 (after_quote_whole rest whole))))
