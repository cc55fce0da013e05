-- Document 02, ask 5, tried by computation, sentence by sentence: words as signed numbers, and what a guard lets in. Assumes nothing.
use Rattle.std.proofs.Common.{◌≡◌, ℕ, ◌-◌, true, false, List, [], ◌∷◌, map, pos, neg_ℤ, refl}
use Rattle.guard.specs.Signed.{signed, lowest, highest}
use Rattle.guard.specs.Guards.{pairs_for, admits, full_range}
use Rattle.guard.specs.Opened.{opened}

-- ---- "read as a signed 32-bit number"

-- a negative number as a word
abbrev minus : ℕ → ℕ
minus n = 4294967296 - n

words_are : map signed (0 ∷ 1 ∷ 2147483647 ∷ 2147483648 ∷ 2147483649 ∷ 4294967276 ∷ 4294967295 ∷ [])
    ≡ pos 0 ∷ pos 1 ∷ pos 2147483647 ∷ neg_ℤ (pos 2147483648) ∷ neg_ℤ (pos 2147483647) ∷ neg_ℤ (pos 20) ∷ neg_ℤ (pos 1) ∷ []
unfolding opened
words_are = refl

ends_are : map signed (lowest ∷ highest ∷ []) ≡ neg_ℤ (pos 2147483648) ∷ pos 2147483647 ∷ []
unfolding opened
ends_are = refl

-- ---- "low then high, cell by cell": three cells, a heater from -20 to 45, one that is closed, and one that takes -5 alone

abbrev guards : List ℕ
guards = minus 20 ∷ 45 ∷ 1 ∷ 0 ∷ minus 5 ∷ minus 5 ∷ []

-- "lies below low or above high": both ends are let in, one beyond each is not, and what lies between
heater : map (admits guards 0) (minus 21 ∷ minus 20 ∷ minus 1 ∷ 0 ∷ 45 ∷ 46 ∷ []) ≡ false ∷ true ∷ true ∷ true ∷ true ∷ false ∷ []
unfolding opened
heater = refl

-- a value with the top bit set is a negative one: the smallest number is below -20, and the largest is above 45
heater_far : map (admits guards 0) (lowest ∷ highest ∷ []) ≡ false ∷ false ∷ []
unfolding opened
heater_far = refl

-- "low above high closes the cell": also to its own two ends, and to what lies between and beyond them
closed : map (admits guards 1) (0 ∷ 1 ∷ 2 ∷ minus 1 ∷ lowest ∷ highest ∷ []) ≡ false ∷ false ∷ false ∷ false ∷ false ∷ false ∷ []
unfolding opened
closed = refl

-- two ends that are one number
one_number : map (admits guards 2) (minus 6 ∷ minus 5 ∷ minus 4 ∷ 5 ∷ []) ≡ false ∷ true ∷ false ∷ false ∷ []
unfolding opened
one_number = refl

-- closed across 0: from 1 down to -1, so that an order of words would let everything between in
closed_across : map (admits (1 ∷ minus 1 ∷ []) 0) (minus 1 ∷ 0 ∷ 1 ∷ 2147483647 ∷ 2147483648 ∷ []) ≡ false ∷ false ∷ false ∷ false ∷ false ∷ []
unfolding opened
closed_across = refl

-- ends that are the smallest number and the largest: each end alone, and both
only_smallest : map (admits (lowest ∷ lowest ∷ []) 0) (lowest ∷ 2147483649 ∷ 0 ∷ highest ∷ []) ≡ true ∷ false ∷ false ∷ false ∷ []
unfolding opened
only_smallest = refl

only_largest : map (admits (highest ∷ highest ∷ []) 0) (highest ∷ 2147483646 ∷ 0 ∷ lowest ∷ []) ≡ true ∷ false ∷ false ∷ false ∷ []
unfolding opened
only_largest = refl

-- ---- "the full range"

-- for two cells
two_cells : full_range 4 ≡ 2147483648 ∷ 2147483647 ∷ 2147483648 ∷ 2147483647 ∷ []
unfolding opened
two_cells = refl

all_in : map (admits (full_range 4) 1) (lowest ∷ minus 1 ∷ 0 ∷ 1 ∷ highest ∷ []) ≡ true ∷ true ∷ true ∷ true ∷ true ∷ []
unfolding opened
all_in = refl

-- ---- "14 guard list not T pairs"

-- for three cells: none, three words, five, six, seven
three_pairs : map (pairs_for 3) ([] ∷ full_range 3 ∷ full_range 5 ∷ guards ∷ full_range 7 ∷ []) ≡ false ∷ false ∷ false ∷ true ∷ false ∷ []
unfolding opened
three_pairs = refl
