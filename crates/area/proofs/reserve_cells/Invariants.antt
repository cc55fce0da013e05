-- The loop's invariant: the cells passed are reserved, and the list stays as it was. Assumes nothing.
use mathlib.Core.Path.{◌≡◌}
use Prim.Native.Nat.{ℕ, ◌+◌}
use lib.ListN.{get_or}
use Rattle.base.specs.Words.{words}
use Rattle.area.specs.Marks.{reserve}
use Rattle.area.proofs.reserve_cells.Given as goal

abbrev pub invariant-loop-i : goal.invariant-loop-i
invariant-loop-i l =
    (l.area ≡ reserve l.marks (words l.at l.i l.initial.area) l.number l.initial.area)
    × ((j : ℕ) → get_or l.area (l.at + j) 0 ≡ get_or l.initial.area (l.at + j) 0)
