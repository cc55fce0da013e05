-- A text with numbers in it. Assumes nothing.
use Rattle.std.specs.Prelude.{ℕ, zero, suc, cond, List, [], ◌∷◌, ◌++◌, eqb}
use Rattle.text.specs.Decimal.{decimal}

-- the byte that stands for a number
abbrev pub hash : ℕ
hash = 35

-- what a byte of the text shows: a # the next of the numbers in decimal, while there is one, any other itself
unfoldable pub shown : ℕ → List ℕ → List ℕ
shown b [] = b ∷ []
shown b (n ∷ ns) = cond (eqb b hash) (decimal n) (b ∷ [])

-- the numbers that are left behind it
unfoldable pub left : ℕ → List ℕ → List ℕ
left b [] = []
left b (n ∷ ns) = cond (eqb b hash) ns (n ∷ ns)

-- the text in which each # is the next of the numbers
unfoldable pub filled : List ℕ → List ℕ → List ℕ
filled [] ns = []
filled (b ∷ bs) ns = shown b ns ++ filled bs (left b ns)

-- the texts of the numbers below n, one behind the other
unfoldable pub texts : (ℕ → List ℕ) → ℕ → List ℕ
texts f zero = []
texts f (suc n) = texts f n ++ f n
