-- When two steps are the same, as a test.
use Rattle.std.specs.Prelude.{Bool, true, false, ◌&&◌, ◌==◌}
use Rattle.xom_base.specs.declared.step.Writes.{Writes}
use Rattle.xom_base.specs.declared.step.Writes.TheVariants as writes
use Rattle.xom_base.specs.declared.step.Stored.{Stored}
use Rattle.xom_base.specs.declared.step.Stored.TheVariants as stored
use Rattle.xom_base.specs.declared.step.Received.{Received}
use Rattle.xom_base.specs.declared.step.Received.TheVariants as received
use Rattle.xom_base.specs.declared.step.Released.{Released}
use Rattle.xom_base.specs.declared.step.Released.TheVariants as released
use Rattle.xom_base.specs.declared.step.StepEnd.{StepEnd}
use Rattle.xom_base.specs.declared.step.StepEnd.TheVariants as ended
use Rattle.xom_base.specs.declared.step.Step.{Step}

-- both write the same cells and values
abbrev pub same_writes : Writes → Writes → Bool
same_writes writes.Nothing writes.Nothing = true
same_writes (writes.One r v) (writes.One s w) = (r == s) && (v == w)
same_writes (writes.Pair g k) (writes.Pair h l) = (g == h) && (k == l)
same_writes a b = false

-- both store the same bytes at the same address
abbrev pub same_stored : Stored → Stored → Bool
same_stored stored.Nothing stored.Nothing = true
same_stored (stored.Bytes x m v) (stored.Bytes y n w) = (x == y) && ((m == n) && (v == w))
same_stored a b = false

-- both receive the same value from the same place
abbrev pub same_received : Received → Received → Bool
same_received received.Nothing received.Nothing = true
same_received (received.Cell v) (received.Cell w) = v == w
same_received (received.Null x v) (received.Null y w) = (x == y) && (v == w)
same_received (received.Signal m) (received.Signal n) = m == n
same_received a b = false

-- both release the same value to the same place
abbrev pub same_released : Released → Released → Bool
same_released released.Nothing released.Nothing = true
same_released (released.Cell r v) (released.Cell s w) = (r == s) && (v == w)
same_released (released.Null x v) (released.Null y w) = (x == y) && (v == w)
same_released a b = false

-- both end alike
abbrev pub same_end : StepEnd → StepEnd → Bool
same_end ended.Goes ended.Goes = true
same_end (ended.Call m) (ended.Call n) = m == n
same_end ended.Exit ended.Exit = true
same_end a b = false

-- each field is the same
unfoldable pub same_step : Step → Step → Bool
same_step a b =
    (a.pc == b.pc) && ((a.npc == b.npc)
    && (same_writes a.writes b.writes && (same_stored a.stored b.stored
    && (same_received a.received b.received && (same_released a.released b.released
    && same_end a.end b.end)))))
