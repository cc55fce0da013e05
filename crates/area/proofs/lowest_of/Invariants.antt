-- The loop's invariant: what has been found is the lowest of the cells passed so far. Assumes nothing.
use mathlib.Core.Path.{◌≡◌}
use Rattle.base.specs.Words.{words}
use Rattle.area.specs.Marks.{lowest_of}
use Rattle.area.proofs.lowest_of.Given as goal

abbrev pub invariant-loop-cell : goal.invariant-loop-cell
invariant-loop-cell l = l.found ≡ lowest_of l.cells l.marks (words l.at l.cell-index l.area) l.number l.area
