-- The loop's invariant: the stores passed are done. Assumes nothing.
use mathlib.Core.Path.{◌≡◌}
use lib.ListN.{length}
use Rattle.area.specs.Marks.{stored_by}
use Rattle.area.proofs.store_all.Given as goal

abbrev pub invariant-loop-cell : goal.invariant-loop-cell
invariant-loop-cell l = l.table ≡ stored_by l.cells l.values (length l.yielded) l.area l.initial.table
