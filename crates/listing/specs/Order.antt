-- Document 01, "Listed order": "repeatedly take the smallest-numbered committed program not yet taken, none of whose stored cells is read by another
-- committed program not yet taken." It is said over what each program reads and stores, so that it holds of slots and of the paper's batch alike.
-- Assumes nothing.
use Rattle.std.specs.Prelude.{◌≡◌, Bool, true, false, not, cond, ◌&&◌, List, [], ◌∷◌, ◌++◌, ℕ, zero, suc, ◌<◌, eqb}
use Rattle.base.specs.Words.{first, has, meets}

-- Here n is the number of programs, reads and stores are the cells of each, and left is the set of committed programs not yet taken.

-- j, another of those left, reads a cell that i stores
unfoldable pub blocks : (reads stores : ℕ → List ℕ) → (left : ℕ → Bool) → (i j : ℕ) → Bool
blocks reads stores left i j = left j && (not (eqb j i) && meets (reads j) (stores i))

-- i is left, and no other of those left reads what it stores
unfoldable pub ready : ℕ → (reads stores : ℕ → List ℕ) → (left : ℕ → Bool) → ℕ → Bool
ready n reads stores left i = left i && eqb (first (blocks reads stores left i) n) 0

-- i is taken
unfoldable pub without : ℕ → (ℕ → Bool) → ℕ → Bool
without i left j = left j && not (eqb j i)

-- the one that is taken, by `first`, and then those that are taken after it
unfoldable pub grow : ℕ → (ℕ → List ℕ) → List ℕ
grow zero rest = []
grow (suc i) rest = i ∷ rest i

-- at most k are taken, one after another
unfoldable pub listed : ℕ → ℕ → (reads stores : ℕ → List ℕ) → (left : ℕ → Bool) → List ℕ
listed zero n reads stores left = []
listed (suc k) n reads stores left = grow (first (ready n reads stores left) n) (λ i. listed k n reads stores (without i left))

-- "rising number order": the numbers below n that pass
unfoldable pub rising : (ℕ → Bool) → ℕ → List ℕ
rising test zero = []
rising test (suc n) = rising test n ++ cond (test n) (n ∷ []) []

-- ---- what an order is

-- none of the list reads a cell that one before it stores
abbrev pub Ordered : (reads stores : ℕ → List ℕ) → List ℕ → Type 0
Ordered reads stores [] = Unit {0}
Ordered reads stores (i ∷ l) = ((j : ℕ) → has j l ≡ true → meets (reads j) (stores i) ≡ false) × Ordered reads stores l

-- ---- an order of the programs left: each of them and no other, each before those that store what it reads

pub record Order (n : ℕ) (reads stores : ℕ → List ℕ) (left : ℕ → Bool) (o : List ℕ) : Type 0 where
  pub all_there : (j : ℕ) → j < n → left j ≡ true → has j o ≡ true
  pub only_left : (j : ℕ) → has j o ≡ true → (j < n) × (left j ≡ true)
  pub in_order : Ordered reads stores o
