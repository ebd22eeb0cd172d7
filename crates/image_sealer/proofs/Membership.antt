-- Whether a message is of an owner's sealing is read from the line that it names.
use Rattle.std.proofs.Common.{◌≡◌, inl, inr, ℕ, ◌+◌, ◌^◌, ◌<◌, zero, suc, Bool, true, false, List, [], ◌∷◌, ◌++◌, drop, take, length, map, ap, sym, refl, subst, ◌∙◌, arith, ◌||◌}
use Rattle.std.specs.Prelude.{nat_lt, ◌&&◌, ◌==◌}
use Rattle.std.specs.List.{list_any, range_with_len}
use Rattle.std.specs.Int.{w32, from_be_bytes, to_be_bytes}
use Rattle.std.specs.Str.{bytes_eq}
use Rattle.std.proofs.lemmas.Bool.{cases_Bool}
use Rattle.std.proofs.lemmas.List.{drop_at}
use Rattle.std.proofs.lemmas.List.Folds.{list_any-append}
use Rattle.std.proofs.lemmas.List.FromFn.{map-range_with_len_more}
use Rattle.std.proofs.lemmas.Nat.{from_be_bytes-to_be_bytes_4}
use Rattle.std.proofs.lemmas.Slice.Eq.{bytes_eq-Decides}
use Rattle.xom_base.specs.declared.key.ImageId.{ImageId}
use Rattle.xom_base.specs.declared.key.Key256.{Key256}
use Rattle.xom_seal.specs.declared.names.LineName.TheVariants.{Image}
use Rattle.xom_seal.specs.Messages.{envelope_message, line_message}
use Rattle.xom_seal.specs.Readers.{line_of_message}
use Rattle.xom_seal.proofs.MessageLaws.{message_lengths}
use Rattle.xom_owners.specs.declared.owner.Owner.{Owner}
use Rattle.image_sealer.specs.Laws.{IsOwner}
use Rattle.image_sealer.specs.Membership.{MembersAreToldByTheirNames, is_line_message, is_own_sealing, is_sealed, is_sealing}
use Rattle.image_sealer.specs.Sealing.{envelope_of, line_count, line_sealing_of, sealed_line_of, sealing_of}
use Rattle.image_sealer.proofs.Opening.{length-sealed_line_of, line_count-fits}

-- ---- A value that tells its place

-- one more number, where it passes only if it is k
last-told : (told : Bool) (k n : ℕ) (at_k at_n : Bool) → told ≡ (nat_lt k n && at_k)
    → (at_n ≡ true → n ≡ k) → (n ≡ k → at_n ≡ at_k)
    → (told || (at_n || false)) ≡ (nat_lt k (n + 1) && at_k)
last-told told k n at_k at_n is only same = Prim.grind (arith)

-- of the values of the first n numbers only that of k can pass
any-told : {X : Type 0} (p : X → Bool) (f : ℕ → X) (k n : ℕ)
    → ((i : ℕ) → i < n → p (f i) ≡ true → i ≡ k)
    → list_any p (map f (range_with_len 0 n)) ≡ (nat_lt k n && p (f k))
any-told p f k zero only = Prim.grind (arith)
any-told p f k (suc n) only =
    let next : n + 1 ≡ suc n = omega arith in
    subst (λ m. list_any p (map f (range_with_len 0 m)) ≡ (nat_lt k m && p (f k))) next
    (ap (list_any p) (map-range_with_len_more f 0 n n (omega arith))
    ∙ list_any-append p (map f (range_with_len 0 n)) (f n ∷ [])
    ∙ last-told (list_any p (map f (range_with_len 0 n))) k n (p (f k)) (p (f n))
    (any-told p f k n (λ i below passes. only i (omega arith) passes))
    (only n (omega arith))
    (ap (λ i. p (f i))))

-- ---- Messages of image lines

-- the message of a line names it
line-in_message : (id : ImageId) (line : ℕ) (ct : List ℕ) → length id.0 ≡ 16 → line < 2 ^ 32
    → line_of_message (line_message (Image id line) ct) ≡ line
unfolding line_message
line-in_message id line ct size below =
    ap (λ rest. from_be_bytes w32 (take 4 rest)) (drop_at id.0 (to_be_bytes w32 line ++ ct) 16 size)
    ∙ from_be_bytes-to_be_bytes_4 line below

-- so does that of a line of the owner, and it has 53 bytes
line-in_sealing : (owner : Owner) (line : ℕ) → IsOwner owner → line < line_count owner.plain.bytes
    → line_of_message (line_sealing_of owner line).1 ≡ line
line-in_sealing owner line is below =
    line-in_message owner.id line ((sealed_line_of owner line).ct) is.id
    (omega (arith, line_count-fits owner))

length-line_sealing : (owner : Owner) (line : ℕ) → IsOwner owner
    → length (line_sealing_of owner line).1 ≡ 53
length-line_sealing owner line is =
    message_lengths.image_line owner.id line ((sealed_line_of owner line).ct) is.id
    (length-sealed_line_of owner line).0

-- ---- Membership

and-right : (a b : Bool) → (a && b) ≡ true → b ≡ true
and-right true b both = both
and-right false b both = absurd (cc)

-- a message that is that of a line names it
message-of_line : (owner : Owner) (key message : List ℕ) (i : ℕ) → IsOwner owner
    → i < line_count owner.plain.bytes → is_sealing key message (line_sealing_of owner i) ≡ true
    → i ≡ line_of_message message
message-of_line owner key message i is below same =
    let equal : message ≡ (line_sealing_of owner i).1 =
    (bytes_eq-Decides message (line_sealing_of owner i).1).0 (and-right (bytes_eq key owner.key.0)
    (bytes_eq message (line_sealing_of owner i).1) same) in
    sym (ap line_of_message equal ∙ line-in_sealing owner i is below)

-- the size is that of each message of a line
sized : (keyed below same long : Bool) → (same ≡ true → long ≡ true)
    → (keyed && (long && (below && same))) ≡ (below && (keyed && same))
sized keyed below same long is = Prim.grind (arith)

message-size : (owner : Owner) (message : List ℕ) (line : ℕ) → IsOwner owner
    → bytes_eq message (line_sealing_of owner line).1 ≡ true → (length message == 53) ≡ true
message-size owner message line is same =
    let size : length message ≡ 53 =
    ap length ((bytes_eq-Decides message (line_sealing_of owner line).1).0 same)
    ∙ length-line_sealing owner line is in
    rw size refl

lines-told : (owner : Owner) (key message : List ℕ) → IsOwner owner
    → (bytes_eq key owner.key.0 && is_line_message owner message) ≡ is_sealed key message
    (map (line_sealing_of owner) (range_with_len 0 (line_count owner.plain.bytes)))
lines-told owner key message is =
    let line = line_of_message message in
    sized (bytes_eq key owner.key.0) (nat_lt line (line_count owner.plain.bytes))
    (bytes_eq message (line_sealing_of owner line).1) (length message == 53)
    (message-size owner message line is)
    ∙ sym (any-told (is_sealing key message) (line_sealing_of owner) line
    (line_count owner.plain.bytes) (λ i below same. message-of_line owner key message i is below
    same))

pub members_are_told_by_their_names : MembersAreToldByTheirNames
unfolding sealing_of
members_are_told_by_their_names machine owner key message is =
    ap (λ line. (bytes_eq key machine.0 && bytes_eq message
    (envelope_message (envelope_of machine owner))) || line) (lines-told owner key message is)
