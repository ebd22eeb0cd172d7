-- `two_of` lends its two ranges through a raw pointer: a walk of its MIR by hand. Assumes `Logic`.
use mathlib.Core.Path.{◌≡◌, refl}
use Prim.Native.Nat.{ℕ, ◌+◌, ◌<◌, ◌^◌}
use mathlib.Core.List.{List, [], ◌∷◌}
use lib.ListN.{length}
use seplogic.Ra.Ura.{Ura}
use base.Logic.{SProp, ent}
use base.Fml.{Lft, GName, Share, ftrue, flft}
use mir.Syntax.{Body, named, w64, seq, assign, place, rv_opd, copy, return}
use mir.Val.{Val, vptr, vint, vstruct, vcons, vnil}
use prog.Memory.{Memory}
use prog.Routine.{Routine}
use prog.Wp.{Env, Calls, Loops, WpFn, Tables}
use types.Logic.{Logic}
use contract.Monad.{Fun}
use contract.Running.{tables, tables_of}
use sound.WpLaws.{WpFn-mono}
use types.Kit.{‵, ◌⊛◌, some, later, at_ret, ◌$◌, ◌∵◌, !, qed, move, keep, split, split3, join, fsplit, fjoin, fpack, feq_i, use2, await, pick, suffices, frame, done}
use types.Part.{whole, sub, agg}
use types.Run.{stop, fld, hop, from, addr, bin, and_then, no_more, of_opd, first, blocks, exec, returns, enter}
use types.ByLocal.{alloc_all, pass_all, free_all, look_at, look_in_at, get, through, sets, sets_last, env}
use denote.Array.{Array}
use denote.Builtin.{u8, usize}
use denote.Exit.{yes, no}
use denote.Follow.{both_by}
use denote.Plain.{uint_vals, uint_Tells}
use denote.RattleType.{RattleType, Valss, owns}
use denote.Ref.{MutBor, MutRef}
use denote.Signature.{plain, mut_slice_of}
use denote.Slice.{MutSlice, Room, slice_val, mut_slice_vals, mut_slice_Tells}
use denote.Steps.{nothing}
use denote.Struct.Declared.{shape}
use denote.Struct.Struct.{within as laid_within}
use denote.Struct.Tuple.{tuple_type}
use denote.Triple.Clauses.{Clauses}
use denote.Triple.Entry.{on_entry}
use denote.Triple.Spec.{Meets, triple_of}
use denote.Triple.Table.{entered}
use denote.Triple.Walked.{says, needs, Stays, stay_dropped, walk_of, ends_at, walked, Goes-dropped, Goes-spent_slice, walk_Meets}
use Rattle.line_ram.specs.Pairs.{IsPair}
use Rattle.line_ram.proofs.TwoLoans.{one, two, here, there, pair_lent, lends_pair, here-at, there-at}
use Rattle.line_ram.specs.contracts.pair.two_of as F
use Rattle.line_ram.specs.contracts.pair.two_of.Key.{name as #self}
use Rattle.line_ram.proofs.pair.two_of.Statement as stated
use Rattle.line_ram.proofs.pair.two_of.Code as code

abbrev stayed : Stays (F.ended).signature.params (F.ended).kept
stayed = (
  stay_dropped (mut_slice_of (0 ∷ []) tt (plain (λ _. u8))) no,
  (stay_dropped (plain (λ _. usize)) yes, (stay_dropped (plain (λ _. usize)) yes, tt)),
)

-- the MIR behind the `unsafe` block: its value goes to the result
abbrev after_block : Body
after_block = seq (assign (place 0 []) (rv_opd (copy (place 5 [])))) return

module _ {M : Type 1} {𝓤 : Ura M} (𝓛 : Logic 𝓤) (at_mem : Memory → SProp 𝓤)
    (run : Routine → Fun 𝓤) where
  open 𝓛 use {H}

  abbrev clauses : Clauses 𝓤 F.ended
  clauses = F.clauses 𝓛 at_mem run

  -- the slice is lent for κ, lies at the offset o of the block b, is named γ and holds xs
  module _ (κ : Lft) (q : Share) (b o : ℕ) (γ : GName) (xs : List ℕ) (m k : ℕ) where
    abbrev self : MutBor (List ℕ)
    self = record { ref_ptr = (b, o); ghost_name = γ; now = xs }

    abbrev words : List Val × (List Val × (List Val × Unit {0}))
    words = (mut_slice_vals self, (vint w64 m ∷ [], (vint w64 k ∷ [], tt)))

    abbrev bound : (walk_of 𝓛 F.ended stayed clauses).Ghost
    bound = (((κ, tt), (q, tt), tt, (self, (m, (k, tt))), words), tt)

    abbrev Post : Val → SProp 𝓤
    Post = (walk_of 𝓛 F.ended stayed clauses).post bound

    module _ (C : Calls 𝓤 H) (Λ : Loops 𝓤 H) where
      walk : Room u8 (length xs) → m < 2 ^ 64 → k < 2 ^ 64 → IsPair xs m k
          → ent 𝓤 (on_entry 𝓛 F.signature (κ, tt) (q, tt) (self, (m, (k, tt))) words)
          (WpFn 𝓤 H C Λ code.function (slice_val (b, o) (length xs) ∷ vint w64 m ∷ vint w64 k
          ∷ []) Post)
      unfolding both_by
      walk room fm fk pair =
          let apart = pair.0 in let within = pair.1 in
          let Pair : List RattleType = MutRef (named 0) κ (Array u8 32) ∷ MutRef (named 0) κ
          (Array u8 32) ∷ [] in
          let p₁ : ℕ = here 𝓛 (named 0) κ q b o γ xs m k apart within in
          let p₂ : ℕ = there 𝓛 (named 0) κ q b o γ xs m k apart within in
          let first_at : m + o ≡ p₁ = here-at 𝓛 (named 0) κ q b o γ xs m k apart within in
          let second_at : k + o ≡ p₂ = there-at 𝓛 (named 0) κ q b o γ xs m k apart within in
          let r₁ : GName × GName → MutBor (List ℕ) = λ δ. record {
            ref_ptr = (b, p₁);
            ghost_name =
                δ.0;
            now = one xs m k;
          } in
          let r₂ : GName × GName → MutBor (List ℕ) = λ δ. record {
            ref_ptr = (b, p₂);
            ghost_name =
                δ.1;
            now = two xs m k;
          } in
          let v : Val = vstruct (vcons (vptr b (m + o)) (vcons (vptr b (k + o)) vnil)) in
          qed 𝓛 ((‵ (flft κ q) ⊛ ‵ ftrue) ∷ ‵ (owns (MutSlice (named 0) κ u8 ∷ usize ∷ usize ∷ [])
          (self, (m, (k, tt))) words) ∷ []) ∵
          enter ! C Λ code.function (slice_val (b, o) (length xs) ∷ vint w64 m ∷ vint w64 k ∷ [])
          _ $
          alloc_all ! (λ l. pass_all ! refl (
            (tt, (tt, (record { fits = room.0 }, tt))),
            ((tt, record { fits = fm }), ((tt, record { fits = fk }), tt)),
          ) $
          let En : Env 𝓤 H = env (code.function).locals l in
          -- let base = bytes.as_mut_ptr();
          sets ! (addr ! (from !
          (fld ! refl (hop ! (look_in_at ! 1 (sub ! 0 refl (whole !))) (stop !))))) refl (tt, tt)
          $
          first ! $ blocks ! $
          -- &mut *(base.add(first) as *mut [u8; 32])
          sets ! (bin ! (get ! refl) (get ! refl) tt) refl (tt, tt) $
          sets ! (of_opd ! (get ! refl)) refl (tt, tt) $
          sets ! (addr ! (through ! refl (stop !))) refl (tt, tt) $
          -- &mut *(base.add(second) as *mut [u8; 32])
          sets ! (bin ! (get ! refl) (get ! refl) tt) refl (tt, tt) $
          sets ! (of_opd ! (get ! refl)) refl (tt, tt) $
          sets ! (addr ! (through ! refl (stop !))) refl (tt, tt) $
          sets_last ! (agg ! (and_then ! (get ! refl) (and_then ! (get ! refl) (no_more !)))) refl
          (tt, (tt, (tt, tt))) $
          exec ! C Λ En after_block (at_ret En Post) $
          sets ! (of_opd ! (get ! refl)) refl (tt, (tt, (tt, tt))) $
          split ! $ move ! (2 ∷ []) $ fsplit ! $ move ! (0 ∷ 2 ∷ []) $
          use2 𝓛 (later (some (pair_lent 𝓛 (named 0) κ q b o γ xs m k apart within)))
          (lends_pair 𝓛 (named 0) κ q b o γ xs m k apart within (mut_slice_vals self)) $ await !
          tt $ pick ! (λ δ.
          split3 ! $ nothing ! $ move ! (2 ∷ 0 ∷ []) $ fjoin ! $ move ! (1 ∷ 0 ∷ []) $ fjoin ! $
          feq_i ! (List Val) (v ∷ []) (vstruct (vcons (vptr b p₁) (vcons (vptr b p₂) vnil)) ∷ [])
          (λ i. vstruct (vcons (vptr b (first_at i)) (vcons (vptr b (second_at i)) vnil)) ∷ []) $
          fjoin ! $
          fpack ! (Valss Pair) (laid_within (shape (tuple_type Pair)) (r₁ δ, (r₂ δ, tt)) (v ∷ []))
          (vptr b p₁ ∷ [], (vptr b p₂ ∷ [], tt)) $
          move ! (1 ∷ []) $ split ! $ move ! (2 ∷ 0 ∷ 1 ∷ []) $
          returns ! (look_at ! 0 refl) $ free_all ! refl $ keep ! (0 ∷ 1 ∷ 2 ∷ []) $
          suffices ! _ (ends_at 𝓛 F.ended stayed clauses bound v (r₁ δ, r₂ δ) (tt, (tt, (tt, tt)))
          (tt, (tt, (tt, tt)))) $
          nothing ! $ nothing ! $ fjoin ! $ nothing ! $ fjoin ! $ nothing ! $ fjoin ! $ join ! $
          nothing ! $ move ! (2 ∷ 0 ∷ []) $ join ! $ join ! $ frame ! $ says ! (refl, refl) $ done
          !))

  meets : (𝓣 : Tables 𝓤 H)
      → Meets 𝓛 F.signature (WpFn 𝓤 H 𝓣.C 𝓣.Λ code.function) (F.spec 𝓛 at_mem run)
  meets 𝓣 =
      walk_Meets 𝓛 F.ended stayed (
        Goes-spent_slice 𝓛 1 (0 ∷ []) tt (plain (λ _. u8)),
        (
          Goes-dropped 𝓛 1 (plain (λ _. usize))
              yes (λ κs x f. refl),
          (Goes-dropped 𝓛 1 (plain (λ _. usize)) yes (λ κs x f. refl), tt),
        ),
      )
      clauses (WpFn 𝓤 H 𝓣.C 𝓣.Λ code.function) (WpFn-mono 𝓤 H 𝓛.laws 𝓣 code.function)
      (walked 𝓛 F.ended stayed clauses (WpFn 𝓤 H 𝓣.C 𝓣.Λ code.function)
      (λ κs. (mut_slice_vals, (uint_vals w64, (uint_vals w64, tt))))
      (λ κs. (mut_slice_Tells (named 0) κs.0 u8, (uint_Tells w64, (uint_Tells w64, tt))))
      (λ κs qs bounds a g are. needs 𝓤 (IsPair a.0.now a.1.0 a.1.1.0) _
      (walk κs.0 qs.0 a.0.ref_ptr.0 a.0.ref_ptr.1 a.0.ghost_name a.0.now a.1.0 a.1.1.0 𝓣.C 𝓣.Λ
      are.0.0.1 are.1.0.1 are.1.1.0.1)))

pub two_of_spec : {M : Type 1} → stated.statement M
unfolding tables_of
two_of_spec 𝓤 𝓛 𝓜 𝓡 wired =
    entered 𝓤 𝓛.H (triple_of 𝓛 F.signature (F.spec 𝓛 𝓜.mem 𝓡.returns))
    (tables 𝓤 𝓛.H 𝓜 𝓡 𝓡.env).C (tables 𝓤 𝓛.H 𝓜 𝓡 𝓡.env).Λ #self code.function
    (code.unfolded 𝓤 𝓛.H 𝓜 𝓡 wired)
    (meets 𝓛 𝓜.mem 𝓡.returns (tables_of 𝓤 𝓛.H 𝓜 (tables 𝓤 𝓛.H 𝓜 𝓡 𝓡.env)))
