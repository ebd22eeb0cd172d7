-- What an owner takes tags of is of the envelope or of a line of the image.
use Rattle.std.proofs.Common.{◌≡◌, inl, inr, ℕ, zero, suc, List, Some, ap, sym, ◌∙◌, arith}
use Rattle.xom_base.specs.declared.key.Key256.{Key256}
use Rattle.xom_seal.specs.Messages.{envelope_message}
use Rattle.xom_seal.specs.Readers.{kind_of_text}
use Rattle.xom_seal.proofs.KindLaws.{message_kinds_are_told}
use Rattle.xom_seal.proofs.WholeLines.{get-made}
use Rattle.xom_owners.specs.declared.owner.Owner.{Owner}
use Rattle.image_sealer.specs.MemberLaws.{IsOfEnvelope, IsOfLine, MembersAreNoRunsOwn, MembersAreOfTheImage}
use Rattle.image_sealer.specs.Sealing.{envelope_of, line_count, line_sealing_of, sealed_line_of, sealing_of}

pub members_are_of_the_image : MembersAreOfTheImage
unfolding sealing_of
members_are_of_the_image machine owner zero member is =
    inl (
      ap (λ (m : List ℕ × List ℕ). m.0) (sym (given is)),
      ap (λ (m : List ℕ × List ℕ). m.1)
          (sym (given is)),
    )
  where
    given : Some (machine.0, envelope_message (envelope_of machine owner)) ≡ Some member
        → (machine.0, envelope_message (envelope_of machine owner)) ≡ member
    given same = cc
members_are_of_the_image machine owner (suc i) member is =
    let (below, same) = get-made (line_sealing_of owner) (line_count owner.plain.bytes) i member
    is in
    inr (i, below, same)

-- the kind of the envelope's message, and of a line's
kind-of_envelope : (machine : Key256) (owner : Owner) (member : List ℕ × List ℕ)
    → IsOfEnvelope machine owner member → kind_of_text member.1 ≡ 4
kind-of_envelope machine owner member is =
    ap kind_of_text is.1 ∙ message_kinds_are_told.envelope (envelope_of machine owner)

kind-of_line : (owner : Owner) (member : List ℕ × List ℕ) → IsOfLine owner member
    → kind_of_text member.1 ≡ 1
kind-of_line owner member is =
    ap (λ (m : List ℕ × List ℕ). kind_of_text m.1) is.2 ∙ message_kinds_are_told.image_line owner.id is.0
    ((sealed_line_of owner is.0).ct)

pub members_are_no_runs_own : MembersAreNoRunsOwn
members_are_no_runs_own machine owner i member is =
    elim (members_are_of_the_image machine owner i member is) [
      | inl of_envelope ↦ let kind = kind-of_envelope machine owner member of_envelope in
          (λ run. absurd (omega (arith, kind, run)), λ register. absurd (omega (arith, kind, register)))
      | inr of_line ↦ let kind = kind-of_line owner member of_line in
          (λ run. absurd (omega (arith, kind, run)), λ register. absurd (omega (arith, kind, register)))
    ]
