-- The loop's invariant: the cells passed are reserved, and the list stays as it was. Assumes nothing.
use native.Mathlib.Omega.{arith}
use Rattle.std.proofs.lemmas.Grind.{common_steps}
use Rattle.area.proofs.Loops.{reserve_more}
use Rattle.area.proofs.reserve_cells.Goals as goal

pub loop-i-preserved : goal.loop-i-preserved
loop-i-preserved c =
    let same = c.loop-i.invariant.1 in
    let before = c.requires.0.before_at in
    (grind (arith, reserve_more, same, before), λ j. grind (arith, common_steps, same, before))
