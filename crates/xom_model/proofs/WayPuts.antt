-- The places of a cache after a way was put into one of them.
use Rattle.std.proofs.Common.{inl, inr, ℕ, ◌<◌, List, length, set, sym, subst}
use Rattle.std.proofs.lemmas.List.{get_or-set_same, get_or-set_other, set_past}
use Rattle.std.proofs.lemmas.Bool.Decides.{eqb_tells}
use Rattle.line_cache.specs.declared.way.Way.{Way}
use Rattle.line_cache.specs.Ways.{free_way, way_at}
use Rattle.xom_model.proofs.Gone.{less}

-- a fact of each place: of the new way at its place, and of each other one as it was
pub each_put : (P : ℕ → Way → Type 0) (ways : List Way) (place : ℕ) (way : Way)
    → (place < length ways → P place way) → ((at : ℕ) → P at (way_at ways at)) → (at : ℕ)
    → P at (way_at (set ways place way) at)
each_put P ways place way here there at = elim (eqb_tells at place) [
  | inl is ↦ elim (less place (length ways)) [
    | inl within ↦ subst (λ k. P k (way_at (set ways place way) k)) (sym is.1)
        (subst (P place) (sym (get_or-set_same ways place way free_way within)) (here within))
    | inr past ↦ subst (λ list. P at (way_at list at)) (sym (set_past ways place way past))
        (there at)
  ]
  | inr differs ↦ subst (P at) (sym (get_or-set_other ways place at way free_way differs.1))
      (there at)
]
