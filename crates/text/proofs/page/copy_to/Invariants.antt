-- The loop's invariant: the bytes passed stand there, and what lies behind them is as it was. Assumes nothing.
use mathlib.Core.Path.{◌≡◌}
use mathlib.Core.List.{◌++◌}
use Prim.Native.Nat.{ℕ, ◌+◌, ◌≤◌}
use lib.ListN.{get_or, take}
use Rattle.text.proofs.page.copy_to.Given as goal

abbrev pub invariant-loop-k : goal.invariant-loop-k
invariant-loop-k l =
    (take (l.at + l.k) l.out ≡ take l.at l.initial.out ++ take l.k l.bytes)
    × ((i : ℕ) → l.at + l.k ≤ i → get_or l.out i 0 ≡ get_or l.initial.out i 0)
