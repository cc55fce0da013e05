-- Words of two lists that stand one after the other. Assumes nothing.
use mathlib.Core.Path.{◌≡◌}
use mathlib.Core.List.{List, ◌++◌}
use Prim.Native.Nat.{ℕ, ◌+◌, ◌≤◌}
use native.Mathlib.Omega.{arith}
use lib.ListN.{length, drop, length-drop}
use lib.Seq.{take_all, take-append-le, drop-append-le, drop-append-add}
use Rattle.base.specs.Words.{words}

-- all of a list
pub words_all : (n : ℕ) (xs : List ℕ) → length xs ≡ n → words 0 n xs ≡ xs
unfolding words
words_all n xs e = take_all n xs (omega arith)

module _ (xs ys : List ℕ) where
  -- in the first
  pub words_left : (at n : ℕ) → at + n ≤ length xs → words at n (xs ++ ys) ≡ words at n xs
  unfolding words
  words_left at n h = rw (drop-append-le at xs ys (omega arith)) (take-append-le n (drop at xs) ys (simp length-drop (omega arith)))

  -- in the second
  pub words_right : (at i n : ℕ) → length xs + i ≡ at → words at n (xs ++ ys) ≡ words i n ys
  unfolding words
  words_right at i n e = rw (← e, drop-append-add)
