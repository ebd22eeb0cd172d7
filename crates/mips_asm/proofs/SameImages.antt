-- What the statements of a source write, and the image of these bytes, is one alone.
use Rattle.std.proofs.Common.{◌≡◌, ℕ, ◌<◌, List, [], ◌∷◌, ◌++◌, length, Option, Some, sym, ap, subst, ◌∙◌}
use Rattle.std.specs.Int.{w32, to_be_bytes}
use Rattle.std.proofs.lemmas.List.{ext_get_or}
use Rattle.std.proofs.lemmas.Option.{same_Some}
use Rattle.xom_base.proofs.Images.{PlainImage-equal}
use Rattle.xom_base.specs.declared.image.PlainImage.{PlainImage}
use Rattle.mips_instruction.specs.Words.{word_of}
use Rattle.mips_instruction.specs.declared.instruction.Ins.{Ins}
use Rattle.asm_source.specs.declared.content.Content.{Content}
use Rattle.asm_source.specs.declared.content.Content.TheVariants.{Label, Words, Bytes, Ascii, Space, Align, Org, Entry, LoadNumber, LoadAddress, Instruction}
use Rattle.mips_asm.specs.Places.{Placed}
use Rattle.mips_asm.specs.Encoding.{AreWords, IsCode, StatementGives}
use Rattle.mips_asm.specs.Images.{IsWritten, PlacedBytes}
use Rattle.mips_asm.specs.Passes.{Labels}
use Rattle.mips_asm.specs.Sources.{IsPlacedImage, StatementsWrite, labels_of}

-- two values of one option are the same
pub one_value : {A : Type 0} (o : Option A) (a b : A) → o ≡ Some a → o ≡ Some b → a ≡ b
one_value o a b p q = same_Some a b (sym p ∙ q)

-- the words of instructions are their bytes and no others
AreWords-same : (is : List Ins) (a b : List ℕ) → AreWords is a → AreWords is b → a ≡ b
AreWords-same [] a b p q = p ∙ sym q
AreWords-same (i ∷ is) a b p q =
    p.2 ∙ ap (λ (more : List ℕ). to_be_bytes w32 (word_of i) ++ more)
    (AreWords-same is p.0 q.0 p.3 q.3) ∙ sym q.2

-- code gives its bytes and no others
IsCode-same : (place : ℕ) (made : Option (List Ins)) (a b : List ℕ) → IsCode place made a
    → IsCode place made b → a ≡ b
IsCode-same place made a b p q =
    AreWords-same q.0 a b (subst (λ (is : List Ins). AreWords is a) (one_value made p.0 q.0 p.2 q.2)
    p.3) q.3

-- a statement writes its bytes and no others
Gives-same : (labels : Labels) (place : ℕ) (content : Content) (a b : List ℕ)
    → StatementGives labels place content a → StatementGives labels place content b → a ≡ b
Gives-same labels place (Label name) a b p q = p ∙ sym q
Gives-same labels place (Words vs) a b p q = one_value _ a b p.1 q.1
Gives-same labels place (Bytes ns) a b p q = one_value _ a b p q
Gives-same labels place (Ascii text) a b p q = p ∙ sym q
Gives-same labels place (Space n) a b p q = p ∙ sym q
Gives-same labels place (Align n) a b p q = p.1 ∙ sym q.1
Gives-same labels place (Org n) a b p q = p ∙ sym q
Gives-same labels place (Entry v) a b p q = p ∙ sym q
Gives-same labels place (LoadNumber r n) a b p q = IsCode-same place _ a b p q
Gives-same labels place (LoadAddress r name) a b p q = IsCode-same place _ a b p q
Gives-same labels place (Instruction name arguments) a b p q = IsCode-same place _ a b p q

-- one more chunk before the same chunks
chunks-same : (place : ℕ) (a b : List ℕ) (front rest : List PlacedBytes) → a ≡ b → front ≡ rest
    → ◌≡◌ {A = List PlacedBytes} (record { place = place; bytes = a } ∷ front)
    (record { place = place; bytes = b } ∷ rest)
chunks-same place a b front rest one more = λ i. record { place = place; bytes = one i } ∷ more i

-- the statements write their chunks and no others
Writes-same : (labels : Labels) (placed : List Placed) (a b : List PlacedBytes)
    → StatementsWrite labels placed a → StatementsWrite labels placed b → a ≡ b
Writes-same labels [] a b p q = p ∙ sym q
Writes-same labels (x ∷ placed) a b p q =
    p.3
    ∙ chunks-same x.place p.0 q.0 p.1 q.1 (Gives-same labels x.place x.part.content p.0 q.0 p.2 q.2)
    (Writes-same labels placed p.1 q.1 p.4 q.4)
    ∙ sym q.3

-- the bytes of an image are those of its chunks and no others
IsWritten-same : (chunks : List PlacedBytes) (a b : List ℕ) → IsWritten chunks a
    → IsWritten chunks b → a ≡ b
IsWritten-same chunks a b p q =
    let size : length a ≡ length b = p.whole ∙ sym q.whole in
    ext_get_or 0 a b size (λ k within. p.each k within
    ∙ sym (q.each k (subst (λ (n : ℕ). k < n) size within)))

-- labels and statements at their places have one image
pub IsPlacedImage-same : (placed : List Placed) (a b : PlainImage) → IsPlacedImage placed a
    → IsPlacedImage placed b → a ≡ b
IsPlacedImage-same placed a b p q =
    let chunks : p.chunks ≡ q.chunks = Writes-same (labels_of placed) placed p.chunks q.chunks
    p.writes q.writes in
    PlainImage-equal a b (one_value _ a.entry b.entry p.entry q.entry)
    (IsWritten-same q.chunks a.bytes b.bytes (subst (λ (c : List PlacedBytes). IsWritten c a.bytes)
    chunks p.bytes) q.bytes)
