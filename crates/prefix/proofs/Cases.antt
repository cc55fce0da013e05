-- The prefix, tried by computation on the definitions. The numbers are literals. Assumes nothing.
use mathlib.Core.Path.{◌≡◌, refl}
use mathlib.Core.List.{[], ◌∷◌}
use lib.ListN.{take, replicate}
use Rattle.prefix.specs.Prefix.{fours, prefix, guard_bytes}
use Rattle.prefix.specs.Opened.{opened}

-- the bench sheet's case 2: x = 9, y = 4
case_2 : prefix (9 ∷ 4 ∷ []) ≡ 2 ∷ 0 ∷ 9 ∷ 0 ∷ 0 ∷ 0 ∷ 4 ∷ 0 ∷ 0 ∷ 0 ∷ []
unfolding opened
case_2 = refl

-- the four bytes of a cell, low first; the largest
low_first : prefix (67305985 ∷ 4294967295 ∷ 256 ∷ []) ≡ 3 ∷ 0 ∷ 1 ∷ 2 ∷ 3 ∷ 4 ∷ 255 ∷ 255 ∷ 255 ∷ 255 ∷ 0 ∷ 1 ∷ 0 ∷ 0 ∷ []
unfolding opened
low_first = refl

-- 256 cells: T's high byte
many : take 7 (prefix (replicate 256 1)) ≡ 0 ∷ 1 ∷ 1 ∷ 0 ∷ 0 ∷ 0 ∷ 1 ∷ []
unfolding opened
many = refl

-- guards have no T before them: a heater from -20 to 45, and a cell that is closed, with 1 above 0
two_guards : fours (4294967276 ∷ 45 ∷ 1 ∷ 0 ∷ [])
    ≡ 236 ∷ 255 ∷ 255 ∷ 255 ∷ 45 ∷ 0 ∷ 0 ∷ 0 ∷ 1 ∷ 0 ∷ 0 ∷ 0 ∷ 0 ∷ 0 ∷ 0 ∷ 0 ∷ []
unfolding opened
two_guards = refl

-- eight bytes for each cell
eight_each : guard_bytes 2 ∷ guard_bytes 256 ∷ [] ≡ 16 ∷ 2048 ∷ []
eight_each = refl
