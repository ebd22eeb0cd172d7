-- Records stay the same entries as bytes are added behind.
use Rattle.std.proofs.Common.{◌≡◌, ◌≤◌, ℕ, ◌+◌, ◌-◌, List, [], ◌∷◌, ◌++◌, All, length, subst, zero, suc, take, drop, map, refl, sym, ◌∙◌, ap, arith}
use Rattle.std.proofs.lemmas.List.{take-append-le, length-take-le, drop-append-le, length-drop, length-append, drop_at, take_at, take_all, append_assoc, map-append}
use Rattle.std.proofs.lemmas.List.Elements.{All-get_or, All-head, All-tail, All-push, All-weaker}
use Rattle.std.specs.Prelude.{slice_get, Some}
use Rattle.std.proofs.lemmas.Option.{get_or_from_slice_get, slice_get_within}
use Rattle.std.specs.Option.{option_map}
use Rattle.xom_base.specs.Padded.{same_at_both}
use Rattle.xom_base.specs.declared.entry.Entry.{Entry}
use Rattle.xom_base.specs.declared.entry.Entry.TheVariants as entry
use Rattle.xom_journal.specs.declared.record.Record.{Record}
use Rattle.xom_journal.specs.declared.record.Record.TheVariants as record_
use Rattle.xom_journal.specs.Log.{cost, log_with_entry}
use Rattle.xom_journal.specs.Records.{BlockExtends, HasTextAt, IsWithin, entry_at, part_of_block, payload, record_at}

-- a payload within the bytes stays
part-more : (at count : ℕ) (bytes more : List ℕ) → at + count ≤ length bytes
    → part_of_block at count (bytes ++ more) ≡ part_of_block at count bytes
part-more at count bytes more within =
    ap (take count) (drop-append-le at bytes more (omega arith))
    ∙ take-append-le count (drop at bytes) more (let l : length (drop at bytes) ≡ length
    bytes - at = length-drop at bytes in omega arith)

-- an entry within the bytes stays
pub entry_at-more : (bytes more : List ℕ) (r : Record) → IsWithin (length bytes) r
    → entry_at (bytes ++ more) r ≡ entry_at bytes r
entry_at-more bytes more (record_.Seal at key message) w =
    same_at_both entry.Seal
    (part-more at key bytes more (let h : at + key + message ≤ length bytes = w.0 in omega arith))
    (part-more (at + key) message bytes more w.0)
entry_at-more bytes more (record_.Accept at key message place) w =
    same_at_both (λ k m. entry.Accept k m place)
    (part-more at key bytes more (let h : at + key + message ≤ length bytes = w.0 in omega arith))
    (part-more (at + key) message bytes more w.0)
entry_at-more bytes more (record_.Hash at preimage digest) w =
    ap (λ p. entry.Hash p digest) (part-more at preimage bytes more w.0)
entry_at-more bytes more (record_.Install n slot id place begin lines) w = refl
entry_at-more bytes more (record_.Step n step) w = refl
entry_at-more bytes more (record_.Trap n cause) w = refl
entry_at-more bytes more (record_.Stop n rule) w = refl
entry_at-more bytes more (record_.Kill n) w = refl
entry_at-more bytes more (record_.Out byte) w = refl

-- within more bytes too
IsWithin-more : (m n : ℕ) → m ≤ n → (r : Record) → IsWithin m r → IsWithin n r
IsWithin-more m n le (record_.Seal at key message) w =
    ((let h : at + key + message ≤ m = w.0 in omega arith), w.1, w.2)
IsWithin-more m n le (record_.Accept at key message place) w =
    ((let h : at + key + message ≤ m = w.0 in omega arith), w.1, w.2)
IsWithin-more m n le (record_.Hash at preimage digest) w =
    ((let h : at + preimage ≤ m = w.0 in omega arith), w.1)
IsWithin-more m n le (record_.Install a slot id place begin lines) w = w
IsWithin-more m n le (record_.Step a step) w = w
IsWithin-more m n le (record_.Trap a cause) w = w
IsWithin-more m n le (record_.Stop a rule) w = w
IsWithin-more m n le (record_.Kill a) w = w
IsWithin-more m n le (record_.Out byte) w = w

-- a payload that was added
part_at : (bytes mid more : List ℕ)
    → part_of_block (length bytes) (length mid) (bytes ++ (mid ++ more)) ≡ mid
part_at bytes mid more =
    ap (take (length mid)) (drop_at bytes (mid ++ more) (length bytes) refl)
    ∙ take_at mid more (length mid) refl

part_last : (bytes mid more : List ℕ)
    → part_of_block (length bytes + length mid) (length more) (bytes ++ (mid ++ more)) ≡ more
part_last bytes mid more =
    ap (part_of_block (length bytes + length mid) (length more)) (sym (append_assoc bytes mid more))
    ∙ ap (take (length more)) (drop_at (bytes ++ mid) more (length bytes + length mid)
    (length-append bytes mid))
    ∙ take_all (length more) more (omega arith)

part_whole : (bytes more : List ℕ) → part_of_block (length bytes) (length more) (bytes ++ more) ≡ more
part_whole bytes more =
    ap (take (length more)) (drop_at bytes more (length bytes) refl)
    ∙ take_all (length more) more (omega arith)

-- the record of an entry is that entry, where its payload was added
pub entry_at-record_at : (bytes : List ℕ) (e : Entry)
    → entry_at (bytes ++ payload e) (record_at (length bytes) e) ≡ e
entry_at-record_at bytes (entry.Seal key message) =
    same_at_both entry.Seal (part_at bytes key message) (part_last bytes key message)
entry_at-record_at bytes (entry.Accept key message place) =
    same_at_both (λ k m. entry.Accept k m place) (part_at bytes key message)
    (part_last bytes key message)
entry_at-record_at bytes (entry.Hash preimage digest) =
    ap (λ p. entry.Hash p digest) (part_whole bytes preimage)
entry_at-record_at bytes (entry.Install n slot id place begin lines) = refl
entry_at-record_at bytes (entry.Step n step) = refl
entry_at-record_at bytes (entry.Trap n cause) = refl
entry_at-record_at bytes (entry.Stop n rule) = refl
entry_at-record_at bytes (entry.Kill n) = refl
entry_at-record_at bytes (entry.Out byte) = refl

-- all entries stay
entries-more : (bytes more : List ℕ) (rs : List Record) → All (IsWithin (length bytes)) rs
    → map (entry_at (bytes ++ more)) rs ≡ map (entry_at bytes) rs
entries-more bytes more [] all = refl
entries-more bytes more (r ∷ rs) all =
    same_at_both (λ (e : Entry) es. e ∷ es)
    (entry_at-more bytes more r (All-head (IsWithin (length bytes)) r rs all))
    (entries-more bytes more rs (All-tail (IsWithin (length bytes)) r rs all))

-- the entries with one more, whose payload stands in the block
pub entries_pushed : (old new : List ℕ) (rs : List Record) (r : Record) (e : Entry)
    → All (IsWithin (length old)) rs → BlockExtends old new → entry_at new r ≡ e
    → map (entry_at new) (rs ++ r ∷ []) ≡ map (entry_at old) rs ++ e ∷ []
entries_pushed old new rs r e all extends is =
    map-append (entry_at new) rs (r ∷ [])
    ∙ same_at_both (λ xs (y : Entry). xs ++ y ∷ [])
    (ap (λ b. map (entry_at b) rs) extends.items ∙ entries-more old extends.more rs all) is

-- all within, with one more
pub within_pushed : (old new : List ℕ) (rs : List Record) (r : Record)
    → All (IsWithin (length old)) rs → BlockExtends old new → IsWithin (length new) r
    → All (IsWithin (length new)) (rs ++ r ∷ [])
within_pushed old new rs r all extends one =
    let n : length new ≡ length old + length extends.more =
    ap (λ (b : List ℕ). length b) extends.items ∙ length-append old extends.more in
    All-push (IsWithin (length new)) rs r
    (All-weaker (IsWithin (length old)) (IsWithin (length new))
    (IsWithin-more (length old) (length new) (omega arith)) rs all) one

-- a place in the list of entries
pub get_entries : (bytes : List ℕ) (rs : List Record) (i : ℕ)
    → slice_get (map (entry_at bytes) rs) i ≡ option_map (entry_at bytes) (slice_get rs i)
get_entries bytes [] i = refl
get_entries bytes (r ∷ rs) zero = refl
get_entries bytes (r ∷ rs) (suc i) = get_entries bytes rs i

-- an entry costs 48 and its payload, or more
pub cost_covers : (e : Entry) → 48 + length (payload e) ≤ cost e
cost_covers (entry.Seal key message) =
    let n : length (key ++ message)
    ≡ length key + length message = length-append key message in omega arith
cost_covers (entry.Accept key message place) =
    let n : length (key ++ message)
    ≡ length key + length message = length-append key message in omega arith
cost_covers (entry.Hash preimage digest) = omega arith
cost_covers (entry.Install n slot id place begin lines) = omega arith
cost_covers (entry.Step n step) = omega arith
cost_covers (entry.Trap n cause) = omega arith
cost_covers (entry.Stop n rule) = omega arith
cost_covers (entry.Kill n) = omega arith
cost_covers (entry.Out byte) = omega arith

-- the record of an entry whose payload was added
pub value_added : (old new : List ℕ) (e : Entry) (at : ℕ) (r : Record) → new ≡ old ++ payload e
    → at ≡ length old → r ≡ record_at at e → entry_at new r ≡ e
value_added old new e at r news here made =
    ap (entry_at new) (made ∙ ap (λ n. record_at n e) here)
    ∙ ap (λ b. entry_at b (record_at (length old) e)) news ∙ entry_at-record_at old e

-- it is within the block
pub within_added : (old new : List ℕ) (e : Entry) (at : ℕ) (r : Record) → new ≡ old ++ payload e
    → at ≡ length old → IsWithin (at + length (payload e)) r → IsWithin (length new) r
within_added old new e at r news here within =
    let n : length new ≡ length old + length (payload e) =
    ap (λ (b : List ℕ). length b) news ∙ length-append old (payload e) in
    subst (λ k. IsWithin k r) (sym (n ∙ ap (λ k. k + length (payload e)) (sym here))) within

-- a text that was added stands at its place
pub text_added : (old new text : List ℕ) (at : ℕ) → new ≡ old ++ text → at ≡ length old
    → HasTextAt at text new
text_added old new text at news here =
    let n : length new ≡ length old + length text =
    ap (λ (b : List ℕ). length b) news ∙ length-append old text in
    record {
      within = omega (arith, here, n);
      same = ap (λ k. part_of_block k (length text) new) here
          ∙ ap (part_of_block (length old) (length text)) news ∙ part_whole old text;
    }

-- the record of a Hash whose text stands there
pub hash_of_text : (bytes text digest : List ℕ) (at : ℕ) → HasTextAt at text bytes
    → entry_at bytes (record_.Hash at (length text) digest) ≡ entry.Hash text digest
hash_of_text bytes text digest at stands = ap (λ t. entry.Hash t digest) stands.same

pub hash_within : (bytes text digest : List ℕ) (at : ℕ) → HasTextAt at text bytes
    → length text ≤ 260 → IsWithin (length bytes) (record_.Hash at (length text) digest)
hash_within bytes text digest at stands few = (stands.within, few)

-- what holds of all holds of the one at a place
at_place : {X : Type 0} (P : X → Type 0) (xs : List X) (i : ℕ) (x : X) → All P xs
    → slice_get xs i ≡ Some x → P x
at_place P xs i x all here =
    subst P (get_or_from_slice_get xs i x x here)
    (All-get_or P xs i x (slice_get_within xs i x here) all)

-- the text of a Hash stands where its record says
pub text_found : (bytes text : List ℕ) (rs : List Record) (i at count : ℕ) (digest : List ℕ)
    → All (IsWithin (length bytes)) rs → slice_get rs i ≡ Some (record_.Hash at count digest)
    → part_of_block at count bytes ≡ text → HasTextAt at text bytes
text_found bytes text rs i at count digest all here same =
    let within = at_place (IsWithin (length bytes)) rs i (record_.Hash at count digest) all here in
    let inside : at + count ≤ length bytes = within.0 in
    let behind : length (drop at bytes) ≡ length bytes - at = length-drop at bytes in
    let size : length text ≡ count = sym (ap (λ (t : List ℕ). length t) same)
    ∙ length-take-le count (drop at bytes) (omega arith) in
    record {
      within = omega arith;
      same = ap (λ n. part_of_block at n bytes) size ∙ same;
    }

-- the journal with one more entry, whose payload stands in the block
pub log_pushed : (old new : List ℕ) (rs ss : List Record) (r : Record) (e : Entry) (spare price : ℕ)
    → All (IsWithin (length old)) rs → BlockExtends old new → ss ≡ rs ++ r ∷ [] → entry_at new r ≡ e
    → price ≡ cost e
    → record { entries = map (entry_at new) ss; spare = spare - price } ≡ log_with_entry
    (record { entries = map (entry_at old) rs; spare = spare }) e
log_pushed old new rs ss r e spare price all extends pushed is paid =
    same_at_both (λ es n. record { entries = es; spare = n })
    (ap (map (entry_at new)) pushed ∙ entries_pushed old new rs r e all extends is)
    (ap (λ n. spare - n) paid)

pub within_pushed_as : (old new : List ℕ) (rs ss : List Record) (r : Record)
    → All (IsWithin (length old)) rs → BlockExtends old new → ss ≡ rs ++ r ∷ []
    → IsWithin (length new) r → All (IsWithin (length new)) ss
within_pushed_as old new rs ss r all extends pushed one =
    subst (All (IsWithin (length new))) (sym pushed) (within_pushed old new rs r all extends one)
