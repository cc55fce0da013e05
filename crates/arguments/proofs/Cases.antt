-- Arguments and what is said of them, tried by computation on the definitions. The numbers are literals. Assumes nothing.
use Rattle.std.proofs.Common.{◌≡◌, [], ◌∷◌, ◌++◌, map, replicate, pos, neg_ℤ, Ok, Err, refl}
use Rattle.text.specs.Ascii.{ascii}
use Rattle.guard.specs.Signed.{signed}
use Rattle.arguments.specs.declared.Kind.TheVariants.{Cells, Ends}
use Rattle.arguments.specs.declared.NoWord.TheVariants.{Over, Under, NoNumber}
use Rattle.arguments.specs.Readings.{reading, typed}
use Rattle.arguments.specs.Words.{count_words, shown_word, argument_words, with_word}
use Rattle.arguments.specs.Opened.{opened}

-- ---- an argument as a word

-- a cell: the smallest, the largest, and one more; "no leading zeros", no sign, nothing at all
cells_are : map (reading Cells) (ascii "0" ∷ ascii "4294967295" ∷ ascii "4294967296" ∷ ascii "07" ∷ ascii "-1" ∷ ascii "-0" ∷ ascii "+5" ∷ [] ∷ [])
    ≡ Ok 0 ∷ Ok 4294967295 ∷ Err Over ∷ Err NoNumber ∷ Err NoNumber ∷ Err NoNumber ∷ Err NoNumber ∷ Err NoNumber ∷ []
unfolding opened
cells_are = refl

-- an end: -20 and 45, -1 and 0, the two ends of the full range, and one beyond each
ends_are : map (reading Ends) (ascii "-20" ∷ ascii "45" ∷ ascii "-1" ∷ ascii "0" ∷ ascii "-2147483648" ∷ ascii "2147483647" ∷ ascii "-2147483649" ∷ ascii "2147483648" ∷ [])
    ≡ Ok 4294967276 ∷ Ok 45 ∷ Ok 4294967295 ∷ Ok 0 ∷ Ok 2147483648 ∷ Ok 2147483647 ∷ Err Under ∷ Err Over ∷ []
unfolding opened
ends_are = refl

-- "-0 is 0"
no_below_zero : reading Ends (ascii "-0") ≡ Ok 0
unfolding opened
no_below_zero = refl

-- a minus alone, two of them, one behind the number, nothing at all, leading zeros, a plus, blanks, another base
no_ends : map (reading Ends)
    (ascii "-" ∷ ascii "--5" ∷ ascii "5-" ∷ [] ∷ ascii "007" ∷ ascii "-07" ∷ ascii "-00" ∷ ascii "+5" ∷ ascii "- 5" ∷ ascii " -5" ∷ ascii "-5x" ∷ ascii "0x5" ∷ [])
    ≡ Err NoNumber ∷ Err NoNumber ∷ Err NoNumber ∷ Err NoNumber ∷ Err NoNumber ∷ Err NoNumber ∷ Err NoNumber ∷ Err NoNumber ∷ Err NoNumber ∷ Err NoNumber ∷ Err NoNumber ∷ Err NoNumber ∷ []
unfolding opened
no_ends = refl

-- numbers of many digits, with and without a minus
far_ends : map (reading Ends) (ascii "4294967295" ∷ ascii "99999999999999999999" ∷ ascii "-4294967296" ∷ ascii "-99999999999999999999" ∷ [])
    ≡ Err Over ∷ Err Over ∷ Err Under ∷ Err Under ∷ []
unfolding opened
far_ends = refl

-- what a person reads there
typed_are : map typed (ascii "-20" ∷ ascii "45" ∷ ascii "-0" ∷ ascii "-2147483648" ∷ ascii "2147483647" ∷ [])
    ≡ neg_ℤ (pos 20) ∷ pos 45 ∷ pos 0 ∷ neg_ℤ (pos 2147483648) ∷ pos 2147483647 ∷ []
unfolding opened
typed_are = refl

-- "read as a signed 32-bit number", the word is that number
signed_are : map signed (4294967276 ∷ 45 ∷ 0 ∷ 2147483648 ∷ 2147483647 ∷ [])
    ≡ map typed (ascii "-20" ∷ ascii "45" ∷ ascii "-0" ∷ ascii "-2147483648" ∷ ascii "2147483647" ∷ [])
unfolding opened
signed_are = refl

-- ---- how many there are

-- none, one, two, the most, one more and two more
cells_counted : map (count_words Cells) (0 ∷ 1 ∷ 2 ∷ 256 ∷ 257 ∷ [])
    ≡ ascii "give the table's cells, 1 to 256 numbers" ∷ [] ∷ [] ∷ [] ∷ ascii "257 cells, and a table has at most 256" ∷ []
unfolding opened
cells_counted = refl

ends_counted : map (count_words Ends) (0 ∷ 1 ∷ 2 ∷ 511 ∷ 512 ∷ 513 ∷ 514 ∷ [])
    ≡ ascii "give the low end and the high end of each cell, 1 to 256 pairs"
    ∷ ascii "the last cell, number 0, has no high end"
    ∷ []
    ∷ ascii "the last cell, number 255, has no high end"
    ∷ []
    ∷ ascii "513 ends, and a table has at most 512"
    ∷ ascii "514 ends, and a table has at most 512"
    ∷ []
unfolding opened
ends_counted = refl

-- ---- what is said of one

of_cells : map (λ x. argument_words Cells x 2 (ascii "1x")) (Ok 1 ∷ Err Over ∷ Err NoNumber ∷ [])
    ≡ [] ∷ ascii "argument 2 is over 4294967295: 1x" ∷ ascii "argument 2 is no number: 1x" ∷ []
unfolding opened
of_cells = refl

of_ends : map (λ x. argument_words Ends x 512 (ascii "1x")) (Ok 1 ∷ Err Over ∷ Err Under ∷ Err NoNumber ∷ [])
    ≡ []
    ∷ ascii "argument 512 is over 2147483647: 1x"
    ∷ ascii "argument 512 is under -2147483648: 1x"
    ∷ ascii "argument 512 is no number: 1x"
    ∷ []
unfolding opened
of_ends = refl

-- a line stays a line: a newline, a carriage return, an escape, a byte over 126; 40 bytes, and one more
lines : shown_word (ascii "1\n2\r" ++ (27 ∷ 127 ∷ 195 ∷ 40 ∷ [])) ∷ shown_word (replicate 40 57) ∷ shown_word (replicate 41 57) ∷ []
    ≡ ascii "1?2????(" ∷ ascii "9999999999999999999999999999999999999999" ∷ ascii "9999999999999999999999999999999999999999..." ∷ []
unfolding opened
lines = refl

-- a word goes into the list, and what is none leaves it
in_the_list : map (λ x. with_word x (5 ∷ 6 ∷ 7 ∷ []) 1) (Ok 4294967295 ∷ Err Over ∷ Err Under ∷ Err NoNumber ∷ [])
    ≡ (5 ∷ 4294967295 ∷ 7 ∷ []) ∷ (5 ∷ 6 ∷ 7 ∷ []) ∷ (5 ∷ 6 ∷ 7 ∷ []) ∷ (5 ∷ 6 ∷ 7 ∷ []) ∷ []
unfolding opened
in_the_list = refl
