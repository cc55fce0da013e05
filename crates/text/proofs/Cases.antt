-- Text tried by computation on the definitions. The numbers are literals. Assumes nothing.
use mathlib.Core.Path.{◌≡◌, refl}
use mathlib.Core.Bool.{true, false}
use mathlib.Core.List.{[], ◌∷◌, map}
use Rattle.std.proofs.Common.{Ok, Err}
use Rattle.text.specs.declared.Misread.TheVariants.{TooLarge, NoNumber}
use Rattle.text.specs.Ascii.{ascii}
use Rattle.text.specs.Decimal.{decimal, is_number, numeral}
use Rattle.text.specs.Filled.{filled, texts}
use Rattle.text.specs.Writing.{pasted}
use Rattle.text.specs.Opened.{opened}

-- a quoted text is its bytes
quoted : ascii "a b\n#" ≡ 97 ∷ 32 ∷ 98 ∷ 10 ∷ 35 ∷ []
quoted = refl

-- one digit, two, three; at each end of them; the largest of 32 and of 64 bits
written : map decimal (0 ∷ 7 ∷ 9 ∷ 10 ∷ 42 ∷ 99 ∷ 100 ∷ 255 ∷ 4294967295 ∷ 18446744073709551615 ∷ [])
    ≡ ascii "0" ∷ ascii "7" ∷ ascii "9" ∷ ascii "10" ∷ ascii "42" ∷ ascii "99" ∷ ascii "100" ∷ ascii "255"
    ∷ ascii "4294967295" ∷ ascii "18446744073709551615" ∷ []
unfolding opened
written = refl

-- "no leading zeros", no sign, no blank, no other base; 0 alone is a number
numbers : map is_number (ascii "0" ∷ ascii "10" ∷ ascii "255" ∷ ascii "9000" ∷ []) ≡ true ∷ true ∷ true ∷ true ∷ []
unfolding opened
numbers = refl

no_numbers : map is_number ([] ∷ ascii "00" ∷ ascii "07" ∷ ascii "+1" ∷ ascii "-1" ∷ ascii "1 " ∷ ascii " 1" ∷ ascii "1a" ∷ ascii "/" ∷ ascii ":" ∷ ascii "1\r" ∷ [])
    ≡ false ∷ false ∷ false ∷ false ∷ false ∷ false ∷ false ∷ false ∷ false ∷ false ∷ false ∷ []
unfolding opened
no_numbers = refl

-- up to the largest, and one more; a number of many digits is too large, and a word that is none stays none
up_to : map (numeral 255) (ascii "0" ∷ ascii "255" ∷ ascii "256" ∷ ascii "1000000000000000000000" ∷ ascii "x" ∷ ascii "0255" ∷ [])
    ≡ Ok 0 ∷ Ok 255 ∷ Err TooLarge ∷ Err TooLarge ∷ Err NoNumber ∷ Err NoNumber ∷ []
unfolding opened
up_to = refl

-- each # is the next of the numbers; one that has no number stays
fillings : filled (ascii "# carried waw cell # program #\n") (2 ∷ 10 ∷ 0 ∷ []) ∷ filled (ascii "program\n") (3 ∷ []) ∷ filled (ascii "##") (1 ∷ []) ∷ []
    ≡ ascii "2 carried waw cell 10 program 0\n" ∷ ascii "program\n" ∷ ascii "1#" ∷ []
unfolding opened
fillings = refl

one_behind_the_other : texts (λ k. filled (ascii "#;") (k ∷ [])) 3 ≡ ascii "0;1;2;"
unfolding opened
one_behind_the_other = refl

-- what is written stands at its place, the bytes before and after it as they were: at the front, inside, up to the end, and no byte at all
piece_at : pasted (1 ∷ 2 ∷ 3 ∷ 4 ∷ 5 ∷ []) 0 (8 ∷ 9 ∷ [])
    ∷ pasted (1 ∷ 2 ∷ 3 ∷ 4 ∷ 5 ∷ []) 1 (8 ∷ 9 ∷ [])
    ∷ pasted (1 ∷ 2 ∷ 3 ∷ 4 ∷ 5 ∷ []) 3 (8 ∷ 9 ∷ [])
    ∷ pasted (1 ∷ 2 ∷ 3 ∷ 4 ∷ 5 ∷ []) 2 []
    ∷ []
    ≡ (8 ∷ 9 ∷ 3 ∷ 4 ∷ 5 ∷ [])
    ∷ (1 ∷ 8 ∷ 9 ∷ 4 ∷ 5 ∷ [])
    ∷ (1 ∷ 2 ∷ 3 ∷ 8 ∷ 9 ∷ [])
    ∷ (1 ∷ 2 ∷ 3 ∷ 4 ∷ 5 ∷ [])
    ∷ []
unfolding opened
piece_at = refl
