-- A state below the least is one of all. Assumes nothing.
use mathlib.Core.Path.{sym}
use Prim.Native.Nat.{◌<◌}
use native.Mathlib.Omega.{arith}
use borrow.Author.Tests.{lt-leb}
use Rattle.base.proofs.Numbers.{every_false}
use Rattle.area.specs.Layout.{state_of}
use Rattle.area.specs.Checks.{states_from}
use Rattle.area.proofs.states_from.Goals as goal

pub returns-then-state-least : goal.returns-then-state-least
unfolding states_from
returns-then-state-least c =
    let low : state_of _ _ _ < _ = rw c.state.ensures at c.if-state-least.true in
    sym (every_false _ _ c.loop-k.k (omega arith) (lt-leb _ _ low))
