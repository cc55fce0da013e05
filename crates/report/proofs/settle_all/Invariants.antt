-- The first k programs are settled. Assumes nothing.
use Rattle.report.specs.Batch.{lent, settle_first}
use Rattle.report.specs.Runs.{Leaves}
use Rattle.report.proofs.settle_all.Given as goal

abbrev pub invariant-loop-k : goal.invariant-loop-k
invariant-loop-k l = Leaves (settle_first l.image l.guards (lent l.initial.table l.initial.area) l.k) l.table l.area
