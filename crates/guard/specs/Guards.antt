-- Document 02, ask 5, "Guarded cells": the guard list, which values it lets into a cell, and the list that lets in all. Assumes nothing.
use Rattle.std.specs.Prelude.{◌≡◌, ℕ, ◌+◌, ◌*◌, ◌%◌, ◌<◌, Bool, cond, not, ◌||◌, List, length, ◌==◌, int_lt, slice_index}
use Rattle.base.specs.Words.{tabulate}
use Rattle.guard.specs.Signed.{signed, lowest, highest}

-- "A guard list of T pairs, low then high, cell by cell"
abbrev pub guard_words : ℕ → ℕ
guard_words T = 2 * T

-- 14, "guard list not T pairs"
unfoldable pub pairs_for : ℕ → List ℕ → Bool
pairs_for T g = length g == guard_words T

abbrev pub low_of : List ℕ → ℕ → ℕ
low_of g c = slice_index g (2 * c)

abbrev pub high_of : List ℕ → ℕ → ℕ
high_of g c = slice_index g (2 * c + 1)

-- "A store whose value, read as a signed 32-bit number, lies below low or above high is now a fault": any other is admitted, so "low above high
-- closes the cell"
unfoldable pub admits : List ℕ → (c v : ℕ) → Bool
admits g c v = not (int_lt (signed v) (signed (low_of g c)) || int_lt (signed (high_of g c)) (signed v))

-- ---- "the full range"

-- of a cell: from the smallest number to the largest
pub record FullAt (g : List ℕ) (c : ℕ) : Type 0 where
  pub low_is : low_of g c ≡ lowest
  pub high_is : high_of g c ≡ highest

-- of every cell of a table of T
abbrev pub Full : ℕ → List ℕ → Type 0
Full T g = (c : ℕ) → c < T → FullAt g c

-- a list of so many words that has it: the words in even places are low ends, the others high ones
unfoldable pub full_end : ℕ → ℕ
full_end i = cond (i % 2 == 0) lowest highest

abbrev pub full_range : (words : ℕ) → List ℕ
full_range n = tabulate full_end n

-- and one for a table
abbrev pub full_for : (t : List ℕ) → List ℕ
full_for t = full_range (guard_words (length t))
