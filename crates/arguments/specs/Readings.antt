-- An argument as a word of its kind. A cell is a number in decimal as a sheet has them: "no leading zeros", and no sign. An end is such a number, or a minus
-- and such a number: so -0 is 0, and +5, 007, -007, --5 and a minus alone are no numbers. Assumes nothing.
use Rattle.std.specs.Prelude.{ℕ, ◌-◌, ◌%◌, ◌^◌, Bool, false, cond, List, drop, ℤ, pos, neg_ℤ, ◌==◌, slice_index, Result, Ok, Err}
use Rattle.text.specs.declared.Misread.{Misread}
use Rattle.text.specs.declared.Misread.TheVariants as misread
use Rattle.text.specs.Decimal.{value, numeral}
use Rattle.guard.specs.Signed.{lowest}
use Rattle.arguments.specs.declared.Kind.{Kind}
use Rattle.arguments.specs.declared.Kind.TheVariants.{Cells, Ends}
use Rattle.arguments.specs.declared.NoWord.{NoWord}
use Rattle.arguments.specs.declared.NoWord.TheVariants.{Over, Under, NoNumber}
use Rattle.arguments.specs.Kinds.{largest}

-- the byte of a minus
abbrev pub minus : ℕ
minus = 45

-- whether a minus stands before the number
unfoldable pub negative : Kind → List ℕ → Bool
negative Cells word = false
negative Ends word = slice_index word 0 == minus

-- the word that is -n as a signed number, in two's complement
abbrev pub negated : ℕ → ℕ
negated n = (2 ^ 32 - n) % 2 ^ 32

-- a number as a word, and the number behind a minus
unfoldable pub upwards : Result ℕ Misread → Result ℕ NoWord
upwards (Ok n) = Ok n
upwards (Err misread.TooLarge) = Err Over
upwards (Err misread.NoNumber) = Err NoNumber

unfoldable pub downwards : Result ℕ Misread → Result ℕ NoWord
downwards (Ok n) = Ok (negated n)
downwards (Err misread.TooLarge) = Err Under
downwards (Err misread.NoNumber) = Err NoNumber

-- behind a minus a number goes down to the smallest, -2147483648, whose digits are those of the word that it is
unfoldable pub reading : Kind → List ℕ → Result ℕ NoWord
reading kind word = cond (negative kind word) (downwards (numeral lowest (drop 1 word))) (upwards (numeral (largest kind) word))

-- The number that an end's argument shows to a person; `end_is_typed` (proofs/Readings.antt) says that the word is that number, "read as a signed 32-bit
-- number".
unfoldable pub typed : List ℕ → ℤ
typed word = cond (negative Ends word) (neg_ℤ (pos (value (drop 1 word)))) (pos (value word))
