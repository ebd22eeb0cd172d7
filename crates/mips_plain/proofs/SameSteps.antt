-- Steps that the test calls the same are equal.
use Rattle.std.proofs.Common.{◌≡◌, ℕ, Bool, true, false, ◌&&◌, ◌==◌, refl, arith}
use Rattle.std.proofs.lemmas.Bool.Decides.{nat_tests}
use Rattle.xom_base.specs.declared.step.Writes.{Writes}
use Rattle.xom_base.specs.declared.step.Writes.TheVariants as writes
use Rattle.xom_base.specs.declared.step.Stored.{Stored}
use Rattle.xom_base.specs.declared.step.Stored.TheVariants as stored
use Rattle.xom_base.specs.declared.step.Received.{Received}
use Rattle.xom_base.specs.declared.step.Received.TheVariants as received
use Rattle.xom_base.specs.declared.step.Released.{Released}
use Rattle.xom_base.specs.declared.step.Released.TheVariants as released
use Rattle.xom_base.specs.declared.step.StepEnd.{StepEnd}
use Rattle.xom_base.specs.declared.step.StepEnd.TheVariants as ended
use Rattle.xom_base.specs.declared.step.Step.{Step}
use Rattle.xom_base.specs.Steps.{same_step, same_writes, same_stored, same_received, same_released, same_end}

writes-equal : (a b : Writes) → same_writes a b ≡ true → a ≡ b
writes-equal writes.Nothing writes.Nothing same = refl
writes-equal (writes.One r v) (writes.One s w) same = grind (arith, nat_tests)
writes-equal (writes.Pair g k) (writes.Pair h l) same = grind (arith, nat_tests)
writes-equal a b same = cc

stored-equal : (a b : Stored) → same_stored a b ≡ true → a ≡ b
stored-equal stored.Nothing stored.Nothing same = refl
stored-equal (stored.Bytes x m v) (stored.Bytes y n w) same = grind (arith, nat_tests)
stored-equal a b same = cc

received-equal : (a b : Received) → same_received a b ≡ true → a ≡ b
received-equal received.Nothing received.Nothing same = refl
received-equal (received.Cell v) (received.Cell w) same = grind (arith, nat_tests)
received-equal (received.Null x v) (received.Null y w) same = grind (arith, nat_tests)
received-equal (received.Signal m) (received.Signal n) same = grind (arith, nat_tests)
received-equal a b same = cc

released-equal : (a b : Released) → same_released a b ≡ true → a ≡ b
released-equal released.Nothing released.Nothing same = refl
released-equal (released.Cell r v) (released.Cell s w) same = grind (arith, nat_tests)
released-equal (released.Null x v) (released.Null y w) same = grind (arith, nat_tests)
released-equal a b same = cc

end-equal : (a b : StepEnd) → same_end a b ≡ true → a ≡ b
end-equal ended.Goes ended.Goes same = refl
end-equal (ended.Call m) (ended.Call n) same = grind (arith, nat_tests)
end-equal ended.Exit ended.Exit same = refl
end-equal a b same = cc

-- both parts of a test that is met are met
both : (a b : Bool) → (a && b) ≡ true → (a ≡ true) × (b ≡ true)
both true b met = (refl, met)
both false b met = cc

-- all seven tests are met
all_met : (a b c d e f g : Bool) → (a && (b && (c && (d && (e && (f && g)))))) ≡ true
    → (a ≡ true) × (b ≡ true) × (c ≡ true) × (d ≡ true) × (e ≡ true) × (f ≡ true) × (g ≡ true)
all_met a b c d e f g met =
    let t = both a (b && (c && (d && (e && (f && g))))) met in
    let u = both b (c && (d && (e && (f && g)))) t.1 in
    let v = both c (d && (e && (f && g))) u.1 in
    let w = both d (e && (f && g)) v.1 in
    let x = both e (f && g) w.1 in
    let y = both f g x.1 in
    (t.0, u.0, v.0, w.0, x.0, y.0, y.1)

-- the step of these fields
abbrev step_of : ℕ → ℕ → Writes → Stored → Received → Released → StepEnd → Step
step_of pc npc written kept got given last = record {
  pc = pc;
  npc = npc;
  writes = written;
  stored =
      kept;
  received = got;
  released = given;
  end = last;
}

-- each field is equal, so the steps are
pub same_step-equal : (a b : Step) → same_step a b ≡ true → a ≡ b
unfolding same_step
same_step-equal a b same =
    let met = all_met (a.pc == b.pc) (a.npc == b.npc) (same_writes a.writes b.writes)
    (same_stored a.stored b.stored) (same_received a.received b.received)
    (same_released a.released b.released) (same_end a.end b.end) same in
    let pc : a.pc ≡ b.pc = grind (arith, nat_tests, met.0) in
    let npc : a.npc ≡ b.npc = grind (arith, nat_tests, met.1) in
    let written = writes-equal a.writes b.writes met.2 in
    let kept = stored-equal a.stored b.stored met.3 in
    let got = received-equal a.received b.received met.4 in
    let given = released-equal a.released b.released met.5 in
    let last = end-equal a.end b.end met.6 in
    let equal : step_of a.pc a.npc a.writes a.stored a.received a.released a.end ≡ step_of b.pc
    b.npc b.writes b.stored b.received b.released b.end = cc in
    equal
