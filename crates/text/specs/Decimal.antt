-- A number in decimal: how it is written, and which words are one. Document 02, ask 1: "in decimal .. no leading zeros". Assumes nothing.
use Rattle.std.specs.Prelude.{ℕ, zero, suc, ◌+◌, ◌-◌, ◌*◌, ◌/◌, ◌%◌, min, Bool, true, false, not, cond, ◌&&◌, List, [], ◌∷◌, ◌++◌, eqb, ltb, leb, Result, Ok, Err}
use Rattle.text.specs.declared.Misread.{Misread}
use Rattle.text.specs.declared.Misread.TheVariants.{TooLarge, NoNumber}

-- ---- writing

-- the byte of a digit
abbrev pub digit : ℕ → ℕ
digit d = 48 + d

-- the last digit of n behind those before it, which are those of n / 10
unfoldable pub behind : (small : Bool) (before : ℕ → List ℕ) (n : ℕ) → List ℕ
behind true before n = digit n ∷ []
behind false before n = before (n / 10) ++ (digit (n % 10) ∷ [])

-- the digits of n, at most so many
unfoldable pub digits_of : (most n : ℕ) → List ℕ
digits_of zero n = []
digits_of (suc most) n = behind (ltb n 10) (digits_of most) n

-- no number has more digits than one more than itself
unfoldable pub decimal : ℕ → List ℕ
decimal n = digits_of (suc n) n

-- ---- reading

unfoldable pub is_digit : ℕ → Bool
is_digit b = leb (digit 0) b && leb b (digit 9)

unfoldable pub all_digits : List ℕ → Bool
all_digits [] = true
all_digits (b ∷ bs) = is_digit b && all_digits bs

-- "no leading zeros": one digit, or several of which the first is not 0
unfoldable pub leads : List ℕ → Bool
leads [] = false
leads (b ∷ []) = true
leads (b ∷ c ∷ bs) = not (eqb b (digit 0))

-- a word is a number
unfoldable pub is_number : List ℕ → Bool
is_number word = all_digits word && leads word

-- which one: behind the number v a digit gives 10 v + digit
unfoldable pub value_from : ℕ → List ℕ → ℕ
value_from v [] = v
value_from v (b ∷ bs) = value_from (10 * v + (b - digit 0)) bs

abbrev pub value : List ℕ → ℕ
value = value_from 0

-- a word as a number up to the largest that is meant
unfoldable pub numeral : (largest : ℕ) → List ℕ → Result ℕ Misread
numeral largest word = cond (is_number word) (cond (leb (value word) largest) (Ok (value word)) (Err TooLarge)) (Err NoNumber)

-- 2^32, which is more than any number that is meant: reading goes no further, however many digits there are
abbrev pub over : ℕ
over = 4294967296

abbrev pub capped : ℕ → ℕ
capped v = min v over
