-- The line of a refusal, as a program prints it: document 01, "Bench sheet", "prints "refused 5"; another refusal prints its number so", and of document 02's
-- 51 "with its number from 1". Each # is the next of the numbers behind the text. Assumes nothing.
use Rattle.std.specs.Prelude.{ℕ, ◌+◌, List, [], ◌∷◌, ◌++◌, length}
use Rattle.text.specs.Ascii.{ascii}
use Rattle.text.specs.Decimal.{decimal}
use Rattle.text.specs.Filled.{filled}
use Rattle.image.specs.declared.refusals.Refusal.{Refusal}
use Rattle.image.specs.declared.refusals.RefusalNumbers.{RefusalNumbers}
use Rattle.image.specs.Refusals.{numbers_of}

unfoldable pub refused_line : Refusal → List ℕ
refused_line refusal = filled (ascii "refused #\n") ((numbers_of refusal).number ∷ [])

-- with a line's number, which is as wide as a sheet may be long
unfoldable pub refused_at_line : RefusalNumbers → (line : ℕ) → List ℕ
refused_at_line refusal line = filled (ascii "refused # line ") (refusal.number ∷ []) ++ (decimal line ++ ascii "\n")

-- no such line has more bytes: its text, the digits of a number of 32 bits and those of one of 64
abbrev pub most_refused : ℕ
most_refused = length (ascii "refused # line \n") + 10 + 20
