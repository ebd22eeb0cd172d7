-- The rule of install numbers of a journal's text is that of the judge.
use Rattle.std.proofs.Common.{◌≡◌, ℕ, ◌+◌, ◌≤◌, true, refl, arith}
use Rattle.std.proofs.lemmas.Bool.{eq-eqb, le-leb}
use Rattle.xom_base.specs.declared.entry.Entry.TheVariants as entry
use Rattle.trace_judge.specs.Numbers.{is_installed}
use Rattle.cli_judge.specs.Laws.{RowsMayStand}

installed : (last n : ℕ) → 1 ≤ n → n ≤ last → is_installed last n ≡ true
installed last n low high = rw (le-leb 1 n low, le-leb n last high) refl

pub rows_may_stand : RowsMayStand
rows_may_stand last next words (entry.Install n slot id place begin lines)
    (a, s, i, p, b, l, are, decimal, number, at, low, hex, placed, begun, lined, is) =
    (eq-eqb n (last + 1) number, omega (arith, number, is))
rows_may_stand last next words (entry.Step n step) is =
    (installed last n is.3.1 is.3.2, omega (arith, is.5))
rows_may_stand last next words (entry.Trap n why) is =
    (installed last n is.3.1 is.3.2, omega (arith, is.5))
rows_may_stand last next words (entry.Seal key message) is = (refl, omega (arith, is.5))
rows_may_stand last next words (entry.Accept key message place) is = (refl, omega (arith, is.7))
rows_may_stand last next words (entry.Hash preimage digest) is = (refl, omega (arith, is.6))
rows_may_stand last next words (entry.Stop n why) is =
    (installed last n is.3.1 is.3.2, omega (arith, is.5))
rows_may_stand last next words (entry.Kill n) is =
    (installed last n is.2.1 is.2.2, omega (arith, is.3))
rows_may_stand last next words (entry.Out byte) is = (refl, omega (arith, is.3))
