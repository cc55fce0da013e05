-- The loop's invariant: every line before the place is allowed, the part that begins there ends at `end`, and the sizes so far, with the lines from there on,
-- are the sheet's. The measure is what is left of it. Assumes nothing.
use mathlib.Core.Path.{◌≡◌}
use Prim.Native.Nat.{◌≤◌, ◌-◌}
use lib.ListN.{length, drop}
use Rattle.sheet.specs.Split.{split, Ends}
use Rattle.sheet.specs.Sheet.{newline, bad_from, bad_line}
use Rattle.from_sheet.specs.Passes.{lines_from, tally, nothing, Small}
use Rattle.from_sheet.proofs.counting.survey_of.Given as goal

abbrev pub invariant-loop-end : goal.invariant-loop-end
invariant-loop-end l = Ends newline l.sheet l.at l.end
    × (bad_from l.place (split newline (drop l.at l.sheet)) ≡ bad_line l.sheet)
    × (l.place ≤ l.at)
    × Small l.sizes l.at
    × (tally l.sizes (lines_from l.at l.sheet) ≡ tally nothing (lines_from 0 l.sheet))

abbrev pub decreases-loop-end : goal.decreases-loop-end
decreases-loop-end l = length l.sheet - l.at
