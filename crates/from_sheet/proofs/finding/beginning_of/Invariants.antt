-- The loop's invariant: so many lines are behind, and besides the line that is looked for so many that begin a program are still to come.
-- The measure is how many lines are left. Assumes nothing.
use mathlib.Core.Path.{◌≡◌}
use Prim.Native.Nat.{◌+◌}
use lib.ListN.{length}
use Rattle.from_sheet.specs.Lines.{lines_left}
use Rattle.from_sheet.proofs.Searching.{Search}
use Rattle.from_sheet.proofs.finding.beginning_of.Given as goal

abbrev pub invariant-loop-line : goal.invariant-loop-line
invariant-loop-line l = (l.number + length (lines_left l.lines) ≡ length (lines_left l.initial.lines))
    × Search (lines_left l.initial.lines) l.p (lines_left l.lines) l.number (l.left + 1)

abbrev pub decreases-loop-line : goal.decreases-loop-line
decreases-loop-line l = length (lines_left l.lines)
