-- A slot that is not good is one of all. Assumes nothing.
use mathlib.Core.Path.{sym, ◌∙◌}
use native.Mathlib.Omega.{arith}
use Rattle.base.proofs.Numbers.{every_false}
use Rattle.area.specs.Checks.{slots_good}
use Rattle.area.proofs.slots_good.Goals as goal

pub returns-then-not-slot_good : goal.returns-then-not-slot_good
unfolding slots_good
returns-then-not-slot_good c = sym (every_false _ _ c.loop-k.k (omega arith) (sym c.slot_good.ensures ∙ c.if-not-slot_good.true))
