-- What a line of the grammar says keeps the rules.
use Rattle.std.proofs.Common.{◌≡◌, ℕ, zero, suc, ◌+◌, ◌*◌, ◌^◌, ◌<◌, ◌≤◌, List, [], ◌∷◌, length, Some, None, sym, ap, subst, ◌∙◌, arith}
use Rattle.std.specs.Prelude.{codes}
use Rattle.std.specs.Char.{digit_value}
use Rattle.std.specs.Int.{w32, from_be_bytes}
use Rattle.std.specs.List.{AllByRecursion}
use Rattle.hex.specs.Hex.{IsBytes}
use Rattle.text_lines.specs.Hex.{IsHex, pairs}
use Rattle.text_lines.specs.Lines.{Reads, lines_of}
use Rattle.xom_base.specs.declared.entry.Entry.{Entry}
use Rattle.xom_base.specs.declared.entry.Entry.TheVariants as entry
use Rattle.xom_base.specs.declared.event.Cause.{Cause}
use Rattle.xom_base.specs.declared.event.Cause.TheVariants as cause
use Rattle.xom_base.specs.declared.event.Rule.{Rule}
use Rattle.xom_base.specs.declared.event.Rule.TheVariants as rule
use Rattle.xom_base.specs.declared.step.Writes.{Writes}
use Rattle.xom_base.specs.declared.step.Writes.TheVariants as writes
use Rattle.xom_base.specs.declared.step.Stored.{Stored}
use Rattle.xom_base.specs.declared.step.Stored.TheVariants as stored
use Rattle.xom_base.specs.declared.step.Received.{Received}
use Rattle.xom_base.specs.declared.step.Received.TheVariants as received
use Rattle.xom_base.specs.declared.step.Released.{Released}
use Rattle.xom_base.specs.declared.step.Released.TheVariants as released
use Rattle.xom_base.specs.declared.step.StepEnd.{StepEnd}
use Rattle.xom_base.specs.declared.step.StepEnd.TheVariants as ended
use Rattle.xom_base.specs.declared.step.Step.{Step}
use Rattle.text_lines.proofs.HexLaws.{hex_of-exact, length-hex_of}
use Rattle.text_lines.proofs.LineLaws.{only_reads, same_Ok}
use Rattle.step_text.specs.StepFields.{IsCell, IsEnd, IsHex8, IsNamedPair, IsReceivedWord, IsReleased, IsStep, IsStored, IsWrites, number_of_bytes}
use Rattle.journal_text.specs.JournalLines.{IsCause, IsInstalledBefore, IsPayload, IsRow, IsRule, JournalLine, journal_step, last_behind}
use Rattle.journal_text.specs.Readings.{IsJournal}
use Rattle.journal_text.proofs.RowLaws.{tells}
use Rattle.journal_round_trip.specs.KeepsRules.{CameBefore, Is32Bit, KeepsCause, KeepsCell, KeepsEnd, KeepsEntry, KeepsJournalRules, KeepsPayload, KeepsReceived, KeepsReleased, KeepsRule, KeepsRulesBehind, KeepsStep, KeepsStored, KeepsWrites}
use Rattle.journal_round_trip.proofs.FieldLaws.{by_count}

-- ---- bytes

bytes-pairs : (word : List ℕ) → AllByRecursion (λ d. digit_value d < 16) word → IsBytes (pairs word)
bytes-pairs [] digits i = omega arith
bytes-pairs (high ∷ []) digits i = omega arith
bytes-pairs (high ∷ low ∷ word) digits zero = omega (arith, digits.0, digits.1.0)
bytes-pairs (high ∷ low ∷ word) digits (suc i) = bytes-pairs word digits.1.1 i

bytes-hex : (count : ℕ) (word bytes : List ℕ) → IsHex count word bytes → IsBytes bytes
bytes-hex count word bytes is = subst IsBytes (sym is.written) (bytes-pairs word is.digits)

length-hex : (count : ℕ) (word bytes : List ℕ) → IsHex count word bytes → length bytes ≡ count
length-hex count word bytes is =
    length-hex_of count word bytes ((hex_of-exact count word bytes).1 is)

short-bytes : (bytes : List ℕ) → IsBytes bytes → Is32Bit (from_be_bytes w32 bytes)
short-bytes bytes all = omega (arith, all 0, all 1, all 2, all 3)

short-hex8 : (word : List ℕ) (n : ℕ) → IsHex8 word n → Is32Bit n
short-hex8 word n (bytes, is, same) =
    subst Is32Bit (sym same) (short-bytes bytes (bytes-hex 4 word bytes is))

-- so many bytes are a number of so many
small-low_bytes : (bytes : List ℕ) → IsBytes bytes → (count : ℕ) → 1 ≤ count → count < 5
    → number_of_bytes count bytes < 2 ^ (8 * count)
small-low_bytes bytes all =
    by_count (λ count. number_of_bytes count bytes < 2 ^ (8 * count))
    (omega (arith, all 0)) (omega (arith, all 0, all 1)) (omega (arith, all 0, all 1, all 2))
    (omega (arith, all 0, all 1, all 2, all 3))

keeps-payload : (most : ℕ) (word bytes : List ℕ) → IsPayload most word bytes
    → KeepsPayload most bytes
keeps-payload most word bytes ((is, few), least) =
    (bytes-hex (length bytes) word bytes is, least, few)

-- ---- fields of a step

keeps-cell : (word : List ℕ) (reg value : ℕ) → IsCell word reg value → KeepsCell reg value
keeps-cell word reg value (n, v, is, number, least, digits) =
    (least, number.1, short-hex8 v value digits)

keeps-pair : (name word : List ℕ) (a b : ℕ) → IsNamedPair name word a b → Is32Bit a × Is32Bit b
keeps-pair name word a b (v, w, is, p, q) = (short-hex8 v a p, short-hex8 w b q)

keeps-writes : (word : List ℕ) (w : Writes) → IsWrites word w → KeepsWrites w
keeps-writes word writes.Nothing is = tt
keeps-writes word (writes.One reg value) is = keeps-cell word reg value is
keeps-writes word (writes.Pair hi lo) is = keeps-pair (codes "hl=") word hi lo is

keeps-stored : (word : List ℕ) (s : Stored) → IsStored word s → KeepsStored s
keeps-stored word stored.Nothing is = tt
keeps-stored word (stored.Bytes address count value)
    (a, c, h, bytes, is, place, number, least, digits, same) = (
      short-hex8 a address place,
      least,
      number.1,
      subst (λ n. n < 2 ^ (8 * count)) (sym same)
          (small-low_bytes bytes (bytes-hex count h bytes digits) count least number.1),
    )

keeps-received : (word : List ℕ) (g : Received) → IsReceivedWord word g → KeepsReceived g
keeps-received word received.Nothing is = tt
keeps-received word (received.Cell value) (v, is, digits) = short-hex8 v value digits
keeps-received word (received.Null address value) is =
    keeps-pair (codes "null=") word address value is
keeps-received word (received.Signal n) (v, is, number) = number.1

keeps-released : (word : List ℕ) (r : Released) → IsReleased word r → KeepsReleased r
keeps-released word released.Nothing is = tt
keeps-released word (released.Cell reg value) is = keeps-cell word reg value is
keeps-released word (released.Null address value) is =
    keeps-pair (codes "null=") word address value is

keeps-end : (word : List ℕ) (e : StepEnd) → IsEnd word e → KeepsEnd e
keeps-end word ended.Goes is = tt
keeps-end word (ended.Call code) (v, is, number) = number.1
keeps-end word ended.Exit is = tt

keeps-step : (words : List (List ℕ)) (s : Step) → IsStep words s → KeepsStep s
keeps-step words s (pc, npc, w, st, g, r, e, is, pc_is, npc_is, w_is, st_is, g_is, r_is, e_is) = (
  short-hex8 pc s.pc pc_is,
  short-hex8 npc s.npc npc_is,
  keeps-writes w s.writes w_is,
  keeps-stored st s.stored st_is,
  keeps-received g s.received g_is,
  keeps-released r s.released r_is,
  keeps-end e s.end e_is,
)

-- ---- entries

keeps-rule : (words : List (List ℕ)) (why : Rule) → IsRule words why → KeepsRule why
keeps-rule words (rule.LineTag n) (d, is, number) = number.1
keeps-rule words (rule.TreeNode n) (d, is, number) = number.1
keeps-rule words (rule.RegisterTag n) (d, is, number) = number.1
keeps-rule words (rule.RegisterMissing n) (d, is, number) = number.1

keeps-cause : (words : List (List ℕ)) (why : Cause) → IsCause words why → KeepsCause why
keeps-cause words cause.Nothing is = is
keeps-cause words cause.Interrupt is = tt
keeps-cause words (cause.Call code) (c, is, number) = number.1
keeps-cause words (cause.Page page) (p, is, number) = number.1
keeps-cause words (cause.Fault kind) is = tt
keeps-cause words cause.Exit is = is
keeps-cause words (cause.Stopped why) is = is

came_before : (last : ℕ) (word : List ℕ) (n : ℕ) → IsInstalledBefore last word n → CameBefore last n
came_before last word n is = (is.1, is.2)

keeps-row : (last : ℕ) (words : List (List ℕ)) (e : Entry) (next : ℕ) → IsRow last words e next
    → KeepsEntry last e × (next ≡ last_behind last e)
keeps-row last words (entry.Install n slot id place begin lines) next
    (a, s, i, p, b, l, is, n_is, one, slot_is, least, id_is, p_is, b_is, l_is, next_is) = (
      (
        one,
        n_is.2,
        least,
        slot_is.1,
        bytes-hex 16 i id.0 id_is,
        length-hex 16 i id.0 id_is,
        p_is.1,
        b_is.1,
        l_is.1,
      ),
      next_is,
    )
keeps-row last words (entry.Step n step) next (a, fields, is, made, step_is, next_is) =
    ((came_before last a n made, keeps-step fields step step_is), next_is)
keeps-row last words (entry.Trap n why) next (a, causes, is, made, why_is, next_is) =
    ((came_before last a n made, keeps-cause causes why why_is), next_is)
keeps-row last words (entry.Seal key message) next (k, m, is, key_is, message_is, next_is) =
    ((keeps-payload 96 k key key_is, keeps-payload 96 m message message_is), next_is)
keeps-row last words (entry.Accept key message place) next
    (k, m, p, is, key_is, message_is, place_is, next_is) =
    ((keeps-payload 96 k key key_is, keeps-payload 96 m message message_is, place_is.1), next_is)
keeps-row last words (entry.Hash preimage digest) next
    (p, d, is, preimage_is, digest_is, hash_is, next_is) = (
      (
        keeps-payload 260 p preimage preimage_is,
        bytes-hex 32 d digest digest_is,
        length-hex 32 d digest digest_is,
        hash_is,
      ),
      next_is,
    )
keeps-row last words (entry.Stop n why) next (a, rules, is, made, why_is, next_is) =
    ((came_before last a n made, keeps-rule rules why why_is), next_is)
keeps-row last words (entry.Kill n) next (a, is, made, next_is) =
    (came_before last a n made, next_is)
keeps-row last words (entry.Out byte) next (b, is, byte_is, next_is) = (byte_is.1, next_is)

-- ---- texts

keeps-reads : (last number : ℕ) (lines : List (List ℕ)) (entries : List Entry) (end : ℕ)
    → Reads JournalLine last number lines entries end → KeepsRulesBehind last entries
keeps-reads last number [] entries end (none, same) = subst (KeepsRulesBehind last) (sym none) tt
keeps-reads last number (line ∷ lines) entries end (None, next, more, (blank, stays), is, others) =
    subst (KeepsRulesBehind last) (sym is)
    (subst (λ n. KeepsRulesBehind n more) stays
    (keeps-reads next (number + 1) lines more end others))
keeps-reads last number (line ∷ lines) entries end (Some e, next, more, row, is, others) =
    let one = keeps-row last _ e next row in
    let behind = keeps-reads next (number + 1) lines more end others in
    subst (KeepsRulesBehind last) (sym is)
    (one.0, subst (λ n. KeepsRulesBehind n more) one.1 behind)

pub keeps-journal : (text : List ℕ) (entries : List Entry) → IsJournal text entries
    → KeepsJournalRules entries
keeps-journal text entries (values, last, reads, same) =
    subst KeepsJournalRules (sym same) (keeps-reads 0 1 (lines_of text) values last reads)

-- reading is a function
pub one_journal : (text : List ℕ) (a b : List Entry) → IsJournal text a → IsJournal text b → a ≡ b
one_journal text a b (values, last, reads, same) (others, end, again, alike) =
    let first = only_reads journal_step JournalLine tells 0 1 (lines_of text) values last reads in
    let second = only_reads journal_step JournalLine tells 0 1 (lines_of text) others end again in
    let pair = same_Ok (values, last) (others, end) (sym first ∙ second) in
    same ∙ ap (λ (p : List Entry × ℕ). p.0) pair ∙ sym alike
