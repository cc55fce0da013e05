-- Laws of a refusal's line: it is one text, and how long it is. Assumes nothing.
use Prim.Native.Nat.{ℕ, ◌+◌, ◌≤◌, ◌<◌}
use mathlib.Core.Path.{◌≡◌, ap}
use mathlib.Core.List.{List, [], ◌∷◌, ◌++◌, append_assoc}
use native.Mathlib.Omega.{arith}
use lib.ListN.{length, length-append}
use Rattle.text.specs.Ascii.{ascii}
use Rattle.text.specs.Decimal.{decimal}
use Rattle.text.specs.Filled.{shown, left, filled}
use Rattle.text.proofs.Decimals.{wide_short}
use Rattle.text.proofs.Fillings.{filled_short}
use Rattle.image.specs.declared.refusals.Refusal.{Refusal}
use Rattle.image.specs.declared.refusals.Refusal.TheVariants.{Image, Fresh}
use Rattle.image.specs.declared.refusals.RefusalNumbers.{RefusalNumbers}
use Rattle.image.specs.Refusals.{numbers_of}
use Rattle.image.proofs.Places.{image_is}
use Rattle.refused.specs.Refused.{refused_line, refused_at_line, most_refused}

-- the pieces are one text with two numbers in it
pub one_text : (r : RefusalNumbers) (line : ℕ) → refused_at_line r line ≡ filled (ascii "refused # line #\n") (r.number ∷ line ∷ [])
unfolding refused_at_line filled shown left
one_text r line = ap (λ (rest : List ℕ). ascii "refused " ++ rest) (append_assoc (decimal r.number) _ _)

-- a refusal's number has 32 bits
small : (r : Refusal) → (numbers_of r).number < 4294967296
small (Image r) = image_is (λ n. n < 4294967296) (omega arith) (omega arith) (omega arith) (omega arith) (omega arith) (omega arith) (omega arith) r
small (Fresh r) = image_is (λ n. 20 + n < 4294967296) (omega arith) (omega arith) (omega arith) (omega arith) (omega arith) (omega arith) (omega arith) r
small r = omega arith

pub refused_short : (r : Refusal) → length (refused_line r) ≤ most_refused
unfolding refused_line
refused_short r = omega (arith, filled_short (ascii "refused #\n") ((numbers_of r).number ∷ []) (small r, tt))

-- a number of 32 bits, and a line of 64
pub refused_at_short : (r : RefusalNumbers) (line : ℕ) → r.number < 4294967296 → line < 18446744073709551616 → length (refused_at_line r line) ≤ most_refused
unfolding refused_at_line
refused_at_short r line small wide =
    rw (length-append, length-append)
    (omega (arith, filled_short (ascii "refused # line ") (r.number ∷ []) (small, tt), wide_short line wide))
