-- The first k programs are gathered. Assumes nothing.
use mathlib.Core.Path.{◌≡◌}
use Rattle.report.specs.Batch.{gather_first}
use Rattle.report.proofs.gather_all.Given as goal

abbrev pub invariant-loop-k : goal.invariant-loop-k
invariant-loop-k l = l.area ≡ gather_first l.image l.table l.guards l.initial.area l.k
