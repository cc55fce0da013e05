-- The laws of signed numbers and guards: the code's comparison is the signed one, and the list that is made for the full range has it.
-- Assumes nothing.
use Rattle.std.proofs.Common.{◌≡◌, ℕ, suc, ◌+◌, ◌-◌, ◌*◌, ◌%◌, ◌^◌, ◌<◌, ◌≤◌, false, ltb, pos, negsuc, int_lt, ◌∙◌, arith}
use Rattle.std.proofs.Common.{le-ltb, lt-ltb, eq-eqb, ne_eqb}
use Rattle.std.proofs.lemmas.Int.{ints}
use Rattle.std.proofs.lemmas.Bool.Decides.{nat_tests}
use Rattle.base.proofs.Tables.{tabulate_at}
use Rattle.guard.specs.Signed.{signed, lowest, highest}
use Rattle.guard.specs.Guards.{Full, full_end, full_range}

-- ---- a word read as a signed number

abbrev pub half : ℕ
half = 2 ^ 31

abbrev pub word : ℕ
word = 2 ^ 32

module _ (w : ℕ) where
  pub not_negative : w < half → signed w ≡ pos w
  unfolding signed
  not_negative h = rw (lt-ltb w half h)

  pub negative : half ≤ w → w < word → signed w ≡ negsuc (word - suc w)
  unfolding signed
  negative h l = rw (le-ltb w half h, lt-ltb w word l)

-- the word with 2^31 added, modulo 2^32
abbrev pub moved : ℕ → ℕ
moved w = (w + lowest) % word

-- "the code's comparison is the signed one": the order of signed numbers is that of the moved words, for every pair of words
pub signed_order : (x y : ℕ) → x < word → y < word → int_lt (signed x) (signed y) ≡ ltb (moved x) (moved y)
unfolding signed
signed_order x y k l = grind (arith, ints, nat_tests)

-- ---- the full range

-- no word is below the smallest number, and none above the largest
pub none_lower : (v : ℕ) → v < word → int_lt (signed v) (signed lowest) ≡ false
none_lower v h = signed_order v lowest h (omega arith) ∙ le-ltb (moved v) (moved lowest) (omega arith)

pub none_higher : (v : ℕ) → v < word → int_lt (signed highest) (signed v) ≡ false
none_higher v h = signed_order highest v (omega arith) h ∙ le-ltb (moved highest) (moved v) (omega arith)

-- the list that is made for the full range has it, for every cell whose pair lies in it
pub full_range_lem : (n T : ℕ) → 2 * T ≤ n → Full T (full_range n)
unfolding full_end
full_range_lem n T h c l =
    record {
      low_is = tabulate_at full_end n (2 * c) (omega arith) ∙ rw (eq-eqb (2 * c % 2) 0 (omega arith));
      high_is = tabulate_at full_end n (2 * c + 1) (omega arith) ∙ rw (ne_eqb ((2 * c + 1) % 2) 0 (λ z. omega arith));
    }
