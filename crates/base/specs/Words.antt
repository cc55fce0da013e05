-- The words that every definition of the house is written in. A test answers true or false; a set of numbers is a test on them.
-- Assumes nothing.
use Rattle.std.specs.Prelude.{ℕ, zero, suc, ◌+◌, Bool, true, false, not, cond, ◌&&◌, ◌||◌, List, [], ◌∷◌, ◌++◌, take, drop, eqb, ltb}

-- ---- the numbers below n

-- each of them passes
unfoldable pub every : ℕ → (ℕ → Bool) → Bool
every zero test = true
every (suc n) test = every n test && test n

-- one of them passes
unfoldable pub some : ℕ → (ℕ → Bool) → Bool
some zero test = false
some (suc n) test = some n test || test n

-- 1 + the smallest of them that passes, or 0
unfoldable pub or_else : ℕ → ℕ → ℕ
or_else zero b = b
or_else (suc a) b = suc a

unfoldable pub first : (ℕ → Bool) → ℕ → ℕ
first test zero = 0
first test (suc n) = or_else (first test n) (cond (test n) (suc n) 0)

-- the smallest of them that passes, or n
unfoldable pub least : (ℕ → Bool) → ℕ → ℕ
least test zero = 0
least test (suc n) = cond (ltb (least test n) n) (least test n) (cond (test n) n (suc n))

-- how many of them pass
unfoldable pub count : (ℕ → Bool) → ℕ → ℕ
count test zero = 0
count test (suc n) = cond (test n) 1 0 + count test n

-- what f gives for each of them, in order
unfoldable pub tabulate : (ℕ → ℕ) → ℕ → List ℕ
tabulate f zero = []
tabulate f (suc n) = tabulate f n ++ (f n ∷ [])

-- ---- lists

-- c is a member
unfoldable pub has : ℕ → List ℕ → Bool
has c [] = false
has c (x ∷ xs) = eqb c x || has c xs

-- no number stands twice
unfoldable pub distinct : List ℕ → Bool
distinct [] = true
distinct (x ∷ xs) = not (has x xs) && distinct xs

-- the two have a common member
unfoldable pub meets : List ℕ → List ℕ → Bool
meets [] ys = false
meets (x ∷ xs) ys = has x ys || meets xs ys

-- the n members from a place on
unfoldable pub words : ℕ → ℕ → List ℕ → List ℕ
words at n xs = take n (drop at xs)
