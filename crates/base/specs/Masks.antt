-- Sets of numbers below 64 as the bits of one number, as the code keeps a set of programs. Assumes nothing.
use Rattle.std.specs.Prelude.{ℕ, zero, suc, ◌+◌, ◌/◌, ◌%◌, ◌^◌, ◌<◌, ◌≡◌, Bool, true, false, cond, eqb}

-- the bits of such a number
abbrev pub word_bits : ℕ
word_bits = 64

-- bit j of a number is set
unfoldable pub has_bit : ℕ → ℕ → Bool
has_bit x j = eqb (x / 2 ^ j % 2) 1

-- the numbers below n that pass, a bit each
unfoldable pub mask_of : (ℕ → Bool) → ℕ → ℕ
mask_of test zero = 0
mask_of test (suc n) = mask_of test n + cond (test n) (2 ^ n) 0

-- The smallest number of a set.
pub record Least (members r : ℕ) : Type 0 where
  pub member : has_bit members r ≡ true
  pub none_below : (j : ℕ) → j < r → has_bit members j ≡ false
