-- Two ranges of 32 bytes of a slice are lent at once, and the slice follows both loans. Assumes
-- `Logic`.
use mathlib.Core.Path.{◌≡◌, refl, sym, ap, ◌∙◌}
use Prim.Native.Nat.{ℕ, ◌+◌, ◌-◌, ◌≤◌}
use native.Mathlib.Omega.{arith}
use mathlib.Core.List.{List, [], ◌∷◌, ◌++◌}
use lib.ListN.{length, take, drop as drop_list, take-append-drop, length-append, length-drop}
use seplogic.Ra.Ura.{Ura}
use base.Logic.{SProp, ent, sep, ex, guard}
use base.Stored.{coded_list}
use base.Fml.{Lft, GName, Share, fsep, feq, flft, fobs, fbor}
use base.Fraction.{full_share}
use mir.Syntax.{Lifetime}
use mir.Val.{Val, vptr}
use types.Logic.{Logic, sem}
use types.Kit.{Item, ‵, ◌⊛◌, given, some, later, ◌$◌, ◌∵◌, !, qed, move, drop, use1, use2, fsplit, fsplit3, fjoin, fjoin3, feq_i, feq_l, rewrite, learn, check, by, updating, await, now, show, pick, split, split3, group, done}
use types.SemTy.{SemTy, cells, Arr, Body}
use types.Follow.{after₂, takes_two}
use types.Mut.{open_ref}
use denote.Array.{Array}
use denote.Builtin.{u8}
use denote.ArrayMemory.{Array-apart, Array-whole}
use denote.Index.{row, whole_in, whole_out}
use denote.Memory.{mem, part_at}
use denote.Ref.{MutRef}
use denote.Slice.{MutSlice}
use denote.FollowSlice.{heres_id}
use borrow.Table.Elements.{at, at_byte, cut_app, join_app, length-take-le}
use Rattle.std.proofs.lemmas.List.{append_assoc, drop-drop}
use Rattle.std.proofs.lemmas.Slice.{drop-append-drop}
use Rattle.line_ram.specs.Bytes.{ram_with_bytes}
use Rattle.line_ram.proofs.Ranges.{take-past}

-- ---- the lists
module _ (xs : List ℕ) (m k : ℕ) where
  abbrev pub front : List ℕ
  front = take m xs

  abbrev pub one : List ℕ
  one = take 32 (drop_list m xs)

  abbrev pub mid : List ℕ
  mid = take (k - (m + 32)) (drop_list (m + 32) xs)

  abbrev pub two : List ℕ
  two = take 32 (drop_list k xs)

  abbrev pub back : List ℕ
  back = drop_list (k + 32) xs

  -- the five parts, with other bytes at the two places
  abbrev pub joined : List ℕ → List ℕ → List ℕ
  joined y z = front ++ (y ++ (mid ++ (z ++ back)))

  abbrev pub written : List ℕ → List ℕ → List ℕ
  written y z = ram_with_bytes (ram_with_bytes xs m y) k z

  pub written-joined : m + 32 ≤ k → k + 32 ≤ length xs → (y z : List ℕ) → length y ≡ 32
      → length z ≡ 32 → written y z ≡ joined y z
  written-joined apart within y z ey ez =
      let lf : length front ≡ m = length-take-le m xs (omega arith) in
      let ly : length (front ++ y) ≡ m + 32 = length-append front y ∙ omega (arith, lf, ey) in
      let rest = drop_list (m + 32) xs in
      let once : ram_with_bytes xs m y ≡ (front ++ y) ++ rest =
      ap (λ n. front ++ (y ++ drop_list (m + n) xs)) ey ∙ sym (append_assoc front y rest) in
      let reach : k ≡ (k - (m + 32)) + length (front ++ y) = omega (arith, ly) in
      let head : take k ((front ++ y) ++ rest) ≡ (front ++ y) ++ mid = take-past (front ++ y) rest
      (k - (m + 32)) k reach in
      let tail : drop_list (k + 32) ((front ++ y) ++ rest) ≡ back = drop-append-drop (m + 32) xs
      (front ++ y) (k + 32) (omega arith) ly in
      ap (λ l. take k l ++ (z ++ drop_list (k + length z) l)) once
      ∙ ap (λ n. take k ((front ++ y) ++ rest) ++ (z ++ drop_list (k + n) ((front ++ y) ++ rest)))
      ez
      ∙ ap (λ l. l ++ (z ++ drop_list (k + 32) ((front ++ y) ++ rest))) head
      ∙ ap (λ l. ((front ++ y) ++ mid) ++ (z ++ l)) tail
      ∙ append_assoc (front ++ y) mid (z ++ back)
      ∙ append_assoc front y (mid ++ (z ++ back))

  pub cut : m + 32 ≤ k → k + 32 ≤ length xs → xs ≡ joined one two
  cut apart within =
      let first : xs ≡ front ++ (one ++ drop_list (m + 32) xs) =
      sym (take-append-drop m xs) ∙ ap (λ l. front ++ l) (sym (take-append-drop 32 (drop_list m xs))
      ∙ ap (λ l. one ++ l) (drop-drop 32 m xs)) in
      let far : m + 32 + (k - (m + 32)) ≡ k = omega arith in
      let second : drop_list (m + 32) xs ≡ mid ++ (two ++ back) =
      sym (take-append-drop (k - (m + 32)) (drop_list (m + 32) xs))
      ∙ ap (λ l. mid ++ l) (drop-drop (k - (m + 32)) (m + 32) xs ∙ ap (λ n. drop_list n xs) far
      ∙ sym (take-append-drop 32 (drop_list k xs)) ∙ ap (λ l. two ++ l) (drop-drop 32 k xs)) in
      first ∙ ap (λ l. front ++ (one ++ l)) second

-- ---- 32 bytes in memory as an array, and as bytes
module _ {M : Type 1} {𝓤 : Ura M} (𝓛 : Logic 𝓤) (ws : List ℕ) (b o : ℕ) where
  bytes-array : ent 𝓤 (sem 𝓛 ((mem (Array u8 32)).own_at ws b o))
      (guard 𝓤 (length ws ≡ 32) (sem 𝓛 (cells (mem u8) ws b o)))
  bytes-array = qed 𝓛 (‵ (part_at (Array u8 32) full_share ws b o) ∷ []) ∵
      use1 𝓛 (‵ (fsep (feq ℕ (length ws) 32) (row u8 full_share ws b o)))
      (Array-apart 𝓛 u8 full_share tt 32 ws b o) $
      fsplit ! $ feq_l ! (λ long. use1 𝓛 (‵ (cells (mem u8) ws b o)) (whole_in 𝓛 u8 ws b o) $ check
      ! long $ done !)

  array-bytes : length ws ≡ 32
      → ent 𝓤 (sem 𝓛 (cells (mem u8) ws b o)) (sem 𝓛 ((mem (Array u8 32)).own_at ws b o))
  array-bytes long = qed 𝓛 (‵ (cells (mem u8) ws b o) ∷ []) ∵
      use1 𝓛 (‵ (row u8 full_share ws b o)) (whole_out 𝓛 u8 ws b o) $ feq_i ! ℕ (length ws) 32 long
      $ fjoin ! $
      by ! (Array-whole 𝓛 u8 full_share 32 ws b o)

-- ---- the loans
module _ {M : Type 1} {𝓤 : Ura M} (𝓛 : Logic 𝓤) (ℓ : Lifetime) (κ : Lft) (q : Share) (b o : ℕ)
    (γ : GName) (xs : List ℕ) (m k : ℕ)
    (apart : m + 32 ≤ k) (within : k + 32 ≤ length xs) where
  open 𝓛 use {H, A}

  abbrev s : ℕ
  s = (mem u8).size

  abbrev L : ℕ → SemTy
  L n = Arr (mem u8) n

  -- where the two ranges lie, and what is behind them
  abbrev pub here : ℕ
  here = at o s (length (front xs m k))

  abbrev after_one : ℕ
  after_one = at here s 32

  abbrev pub there : ℕ
  there = at after_one s (length (mid xs m k))

  abbrev after_two : ℕ
  after_two = at there s 32

  pub here-at : m + o ≡ here
  here-at =
      sym (at_byte o (length (front xs m k)) ∙ ap (λ n. n + o) (length-take-le m xs (omega arith)))

  pub there-at : k + o ≡ there
  there-at =
      let long : length (mid xs m k) ≡ k - (m + 32) = length-take-le (k - (m + 32))
      (drop_list (m + 32) xs) (omega (arith, length-drop (m + 32) xs)) in
      omega (arith, here-at, long, at_byte here 32, at_byte after_one (length (mid xs m k)))

  long_one : length (one xs m k) ≡ 32
  long_one = length-take-le 32 (drop_list m xs) (omega (arith, length-drop m xs))

  long_two : length (two xs m k) ≡ 32
  long_two = length-take-le 32 (drop_list k xs) (omega (arith, length-drop k xs))

  abbrev Others : SProp 𝓤
  Others =
      sep 𝓤 (sem 𝓛 (cells (mem u8) (front xs m k) b o))
      (sep 𝓤 (sem 𝓛 (cells (mem u8) (mid xs m k) b after_one))
      (sem 𝓛 (cells (mem u8) (back xs m k) b after_two)))

  length-written : (y z : List ℕ) → length y ≡ 32 → length z ≡ 32
      → length (joined xs m k y z) ≡ length xs
  length-written y z ey ez =
      let whole = ap length (cut xs m k apart within) in
      let a = length-append (front xs m k) (y ++ (mid xs m k ++ (z ++ back xs m k))) in
      let c = length-append y (mid xs m k ++ (z ++ back xs m k)) in
      let d = length-append (mid xs m k) (z ++ back xs m k) in
      let e = length-append z (back xs m k) in
      let a' = length-append (front xs m k)
      (one xs m k ++ (mid xs m k ++ (two xs m k ++ back xs m k))) in
      let c' = length-append (one xs m k) (mid xs m k ++ (two xs m k ++ back xs m k)) in
      let d' = length-append (mid xs m k) (two xs m k ++ back xs m k) in
      let e' = length-append (two xs m k) (back xs m k) in
      omega (arith, long_one, long_two, ey, ez, whole, a, c, d, e, a', c', d', e')

  put_both : (y z : List ℕ)
      → ent 𝓤 (sep 𝓤 (sem 𝓛 ((mem (Array u8 32)).own_at y b here))
      (sep 𝓤 (sem 𝓛 ((mem (Array u8 32)).own_at z b there)) Others))
      (sem 𝓛 ((L (length xs)).own_at (written xs m k y z) b o))
  put_both y z =
      qed 𝓛 (‵ ((mem (Array u8 32)).own_at y b here) ∷ ‵ ((mem (Array u8 32)).own_at z b there)
      ∷ ‵ (cells (mem u8) (front xs m k) b o) ∷ ‵ (cells (mem u8) (mid xs m k) b after_one)
      ∷ ‵ (cells (mem u8) (back xs m k) b after_two) ∷ []) ∵
      use1 𝓛 (given (length y ≡ 32) (‵ (cells (mem u8) y b here))) (bytes-array 𝓛 y b here) $ learn
      ! (λ ey. move ! (1 ∷ []) $
      use1 𝓛 (given (length z ≡ 32) (‵ (cells (mem u8) z b there))) (bytes-array 𝓛 z b there) $
      learn ! (λ ez.
      -- [the second; the first; the front; the middle; the back]
      rewrite ! 4 (λ (n : ℕ). ‵ (cells (mem u8) (back xs m k) b (at there s n))) (sym ez) refl $
      move ! (0 ∷ 4 ∷ []) $
      use2 𝓛 (‵ (cells (mem u8) (z ++ back xs m k) b there)) (join_app 𝓛 (mem u8) z (back xs m k) b
      there) $ move ! (3 ∷ 0 ∷ []) $
      use2 𝓛 (‵ (cells (mem u8) (mid xs m k ++ (z ++ back xs m k)) b after_one))
      (join_app 𝓛 (mem u8) (mid xs m k) (z ++ back xs m k) b after_one) $
      rewrite ! 0 (λ (n : ℕ). ‵ (cells (mem u8) (mid xs m k ++ (z ++ back xs m k)) b (at here s n)))
      (sym ey) refl $ move ! (1 ∷ 0 ∷ []) $
      use2 𝓛 (‵ (cells (mem u8) (y ++ (mid xs m k ++ (z ++ back xs m k))) b here))
      (join_app 𝓛 (mem u8) y (mid xs m k ++ (z ++ back xs m k)) b here) $ move ! (1 ∷ 0 ∷ []) $
      use2 𝓛 (‵ (cells (mem u8) (joined xs m k y z) b o)) (join_app 𝓛 (mem u8) (front xs m k)
      (y ++ (mid xs m k ++ (z ++ back xs m k))) b o) $
      rewrite ! 0 (λ (l : List ℕ). ‵ (cells (mem u8) l b o))
      (sym (written-joined xs m k apart within y z ey ez)) refl $
      feq_i ! ℕ (length (written xs m k y z)) (length xs)
      (ap length (written-joined xs m k apart within y z ey ez) ∙ length-written y z ey ez) $
      fjoin ! $ done !))

  -- both arrays under new names, the token, and what the slice ends as
  abbrev pub pair_lent : GName × GName → Item 𝓤
  pair_lent δ = ‵ ((MutRef ℓ κ (Array u8 32)).own_val
      (record { ref_ptr = (b, here); ghost_name = δ.0; now = one xs m k }) (vptr b here ∷ []))
      ⊛ ‵ ((MutRef ℓ κ (Array u8 32)).own_val
      (record { ref_ptr = (b, there); ghost_name = δ.1; now = two xs m k }) (vptr b there ∷ []))
      ⊛ ‵ (flft κ q) ⊛ ‵ (after₂ (L 0) (L 0) (L 0) γ δ.0 δ.1 (written xs m k))

  abbrev pub PairLent : GName × GName → SProp 𝓤
  PairLent δ = sep 𝓤 (sem 𝓛 ((MutRef ℓ κ (Array u8 32)).own_val
      (record { ref_ptr = (b, here); ghost_name = δ.0; now = one xs m k }) (vptr b here ∷ [])))
      (sep 𝓤 (sem 𝓛 ((MutRef ℓ κ (Array u8 32)).own_val
      (record { ref_ptr = (b, there); ghost_name = δ.1; now = two xs m k }) (vptr b there ∷ [])))
      (sep 𝓤 (A.lft κ q) (sem 𝓛 (after₂ (L 0) (L 0) (L 0) γ δ.0 δ.1 (written xs m k)))))

  pub lends_pair : (vs : List Val)
      → ent 𝓤 (sep 𝓤 (sem 𝓛
      ((MutSlice ℓ κ u8).own_val (record { ref_ptr = (b, o); ghost_name = γ; now = xs }) vs))
      (A.lft κ q)) (H.⇛ (ex 𝓤 PairLent))
  lends_pair vs = qed 𝓛
      (‵ ((MutSlice ℓ κ u8).own_val (record { ref_ptr = (b, o); ghost_name = γ; now = xs }) vs)
      ∷ ‵ (flft κ q) ∷ []) ∵ updating ! $ fsplit3 ! $ drop ! $
      rewrite ! 0 (λ (l : List ℕ). ‵ (fobs γ ((coded_list u8.coded).code l))) (heres_id u8 xs) refl
      $ open_ref ! tt (L (length xs)) {b = b} {o = o} $ fsplit ! $ drop ! $
      rewrite ! 0 (λ (l : List ℕ). ‵ (cells (mem u8) l b o)) (cut xs m k apart within) refl $
      use1 𝓛 (‵ (cells (mem u8) (front xs m k) b o) ⊛ ‵
      (cells (mem u8) (one xs m k ++ (mid xs m k ++ (two xs m k ++ back xs m k))) b here))
      (cut_app 𝓛 (mem u8) (front xs m k)
      (one xs m k ++ (mid xs m k ++ (two xs m k ++ back xs m k))) b o) $ split ! $ move ! (1 ∷ [])
      $
      use1 𝓛 (‵ (cells (mem u8) (one xs m k) b here) ⊛ ‵
      (cells (mem u8) (mid xs m k ++ (two xs m k ++ back xs m k)) b
      (at here s (length (one xs m k)))))
      (cut_app 𝓛 (mem u8) (one xs m k) (mid xs m k ++ (two xs m k ++ back xs m k)) b here) $ split
      ! $
      use1 𝓛 (‵ ((mem (Array u8 32)).own_at (one xs m k) b here)) (array-bytes 𝓛 (one xs m k) b here
      long_one) $
      rewrite ! 1 (λ (n : ℕ). ‵ (cells (mem u8) (mid xs m k ++ (two xs m k ++ back xs m k)) b
      (at here s n))) long_one refl $ move ! (1 ∷ []) $
      use1 𝓛 (‵ (cells (mem u8) (mid xs m k) b after_one) ⊛ ‵
      (cells (mem u8) (two xs m k ++ back xs m k) b there))
      (cut_app 𝓛 (mem u8) (mid xs m k) (two xs m k ++ back xs m k) b after_one) $ split ! $ move !
      (1 ∷ []) $
      use1 𝓛 (‵ (cells (mem u8) (two xs m k) b there) ⊛ ‵
      (cells (mem u8) (back xs m k) b (at there s (length (two xs m k)))))
      (cut_app 𝓛 (mem u8) (two xs m k) (back xs m k) b there) $ split ! $
      use1 𝓛 (‵ ((mem (Array u8 32)).own_at (two xs m k) b there))
      (array-bytes 𝓛 (two xs m k) b there long_two) $
      rewrite ! 1 (λ (n : ℕ). ‵ (cells (mem u8) (back xs m k) b (at there s n))) long_two refl $
      -- [the second; the back; the middle; the first; the front; the open borrow, in three entries]
      move ! (4 ∷ 2 ∷ 1 ∷ []) $ group ! 3 $ move ! (3 ∷ 4 ∷ 5 ∷ 2 ∷ 1 ∷ 0 ∷ []) $ group ! 6 $
      use1 𝓛 (later (some (λ (δ : GName
      × GName). (‵ (fobs δ.0 ((coded_list u8.coded).code (one xs m k))) ⊛ ‵
      (fbor κ (Body (mem (Array u8 32)) b here δ.0))) ⊛
      (‵ (fobs δ.1 ((coded_list u8.coded).code (two xs m k))) ⊛ ‵
      (fbor κ (Body (mem (Array u8 32)) b there δ.1))) ⊛ ‵ (flft κ q) ⊛ ‵
      (after₂ (L 0) (L 0) (L 0) γ δ.0 δ.1 (written xs m k)))))
      (takes_two 𝓛 (L (length xs)) (mem (Array u8 32)) (mem (Array u8 32)) (written xs m k) κ q b o
      b here b there γ Others put_both ((coded_list u8.coded).code xs)
      ((coded_list u8.coded).code xs) (one xs m k) (two xs m k)) $ await ! tt $ pick !
      (λ δ. split3 ! $
      split ! $ feq_i ! (List Val) (vptr b here ∷ []) (vptr b here ∷ []) refl $ fjoin3 ! $ move !
      (1 ∷ []) $
      split ! $ feq_i ! (List Val) (vptr b there ∷ []) (vptr b there ∷ []) refl $ fjoin3 ! $ move !
      (1 ∷ 0 ∷ []) $ now ! $ show ! PairLent δ $ done !)
