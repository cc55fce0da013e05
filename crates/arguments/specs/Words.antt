-- What the programs `cells` and `guards` say where they write nothing: the words of one line, behind the program's name. Assumes nothing.
use Rattle.std.specs.Prelude.{◌≡◌, ℕ, ◌+◌, ◌/◌, ◌%◌, min, Bool, cond, ◌&&◌, List, [], ◌∷◌, ◌++◌, length, map, take, ◌==◌, nat_le, slice_set, Result, Ok, Err}
use Rattle.text.specs.Ascii.{ascii}
use Rattle.text.specs.Decimal.{decimal}
use Rattle.text.specs.Filled.{filled}
use Rattle.text.specs.Writing.{PageSays}
use Rattle.image.specs.Limits.{min_cells, max_cells}
use Rattle.guard.specs.Signed.{lowest}
use Rattle.arguments.specs.declared.Kind.{Kind}
use Rattle.arguments.specs.declared.Kind.TheVariants.{Cells, Ends}
use Rattle.arguments.specs.declared.NoWord.{NoWord}
use Rattle.arguments.specs.declared.NoWord.TheVariants.{Over, Under, NoNumber}
use Rattle.arguments.specs.Kinds.{per_cell, most_arguments, largest}
use Rattle.arguments.specs.Readings.{reading}

-- ---- how many there are: none at all, over 256 cells, and a low end without its high one

abbrev pub none_text : Kind → List ℕ
none_text Cells = ascii "give the table's cells, # to # numbers"
none_text Ends = ascii "give the low end and the high end of each cell, # to # pairs"

unfoldable pub none_words : Kind → List ℕ
none_words kind = filled (none_text kind) (min_cells ∷ max_cells ∷ [])

-- so many of a kind
unfoldable pub noun : Kind → List ℕ
noun Cells = ascii " cells"
noun Ends = ascii " ends"

unfoldable pub many_words : Kind → (count : ℕ) → List ℕ
many_words kind count = decimal count ++ noun kind ++ filled (ascii ", and a table has at most #") (most_arguments kind ∷ [])

-- cells are numbered from 0
unfoldable pub odd_words : (count : ℕ) → List ℕ
odd_words count = filled (ascii "the last cell, number #, has no high end") (count / per_cell Ends ∷ [])

-- nothing is said of a number of arguments that is good
unfoldable pub whole_cells : Kind → (count : ℕ) → Bool
whole_cells kind count = count % per_cell kind == 0

unfoldable pub count_words : Kind → (count : ℕ) → List ℕ
count_words kind count =
    cond (count == 0) (none_words kind) (cond (nat_le count (most_arguments kind)) (cond (whole_cells kind count) [] (odd_words count)) (many_words kind count))

-- ---- one of them is no number, or one that is too large or too small

-- a byte that is no letter, digit or sign of ASCII is shown as a question mark, so that any argument is one line
unfoldable pub shown_byte : ℕ → ℕ
shown_byte b = cond (nat_le 32 b && nat_le b 126) b 63

-- an argument as it is shown: at most so many of its bytes
abbrev pub most_shown : ℕ
most_shown = 40

unfoldable pub shown_word : List ℕ → List ℕ
shown_word word = map shown_byte (take (min (length word) most_shown) word) ++ cond (nat_le (length word) most_shown) [] (ascii "...")

-- why it is no word, of the argument at a place, from 1
unfoldable pub no_word_text : Kind → NoWord → (place : ℕ) → List ℕ
no_word_text kind Over place = filled (ascii "argument # is over #: ") (place ∷ largest kind ∷ [])
no_word_text kind Under place = filled (ascii "argument # is under -#: ") (place ∷ lowest ∷ [])
no_word_text kind NoNumber place = filled (ascii "argument # is no number: ") (place ∷ [])

-- and behind it the argument
unfoldable pub no_word_words : Kind → NoWord → (place : ℕ) (word : List ℕ) → List ℕ
no_word_words kind none place word = no_word_text kind none place ++ shown_word word

-- by what word it is: nothing is said of one that is a word
unfoldable pub argument_words : Kind → Result ℕ NoWord → (place : ℕ) (word : List ℕ) → List ℕ
argument_words kind (Ok w) place word = []
argument_words kind (Err none) place word = no_word_words kind none place word

-- none of these has more bytes
abbrev pub most_words : ℕ
most_words = 100

-- ---- an argument as word k of a list

unfoldable pub with_word : Result ℕ NoWord → (list : List ℕ) (k : ℕ) → List ℕ
with_word (Ok w) l k = slice_set l k w
with_word (Err none) l k = l

-- The contract of the call that takes an argument as a word: what is said, if anything, and the list.
pub record ArgumentSays (kind : Kind) (word : List ℕ) (k : ℕ) (l out : List ℕ) (r : ℕ) (l' out' : List ℕ) : Type 0 where
  pub words : PageSays (argument_words kind (reading kind word) (k + 1) word) out r out'
  pub list : l' ≡ with_word (reading kind word) l k
