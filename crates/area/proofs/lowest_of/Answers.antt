-- The loop's invariant: what has been found is the lowest of the cells passed so far. Assumes nothing.
use native.Mathlib.Omega.{arith}
use Rattle.std.proofs.lemmas.Grind.{common_steps}
use Rattle.area.proofs.LowestCells.{lowest_more}
use Rattle.area.proofs.lowest_of.Goals as goal

pub loop-cell-preserved : goal.loop-cell-preserved
loop-cell-preserved c = grind (arith, common_steps, lowest_more, c.requires.in_table)
