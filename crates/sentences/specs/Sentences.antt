-- What is said of a program that has ended (document 02, asks 3 and 5): a line that a script reads, and behind it why, in words. Each text stands here as it is
-- printed; each # in it is the next of the numbers behind it. An arrow A -> B says that A has to run after B. Assumes nothing.
use Rattle.std.specs.Prelude.{ℕ, ◌+◌, ◌*◌, cond, List, [], ◌∷◌, ◌++◌, eqb, ℤ, pos, negsuc}
use Rattle.text.specs.Ascii.{ascii}
use Rattle.text.specs.Decimal.{decimal}
use Rattle.text.specs.Filled.{filled}
use Rattle.guard.specs.Signed.{signed}
use Rattle.machine.specs.declared.Store.{Store}
use Rattle.causes.specs.declared.answers.Cause.{Cause}

-- ---- what a script reads: one line for each program, which begins with its number

unfoldable pub committed_line : (number : ℕ) → List ℕ
committed_line number = filled (ascii "# committed\n") (number ∷ [])

unfoldable pub waw_line : (number : ℕ) → Cause → List ℕ
waw_line number cause = filled (ascii "# carried waw cell # program #\n") (number ∷ cause.cell ∷ cause.program ∷ [])

unfoldable pub raw_line : (number : ℕ) → Cause → List ℕ
raw_line number cause = filled (ascii "# carried raw cell # program #\n") (number ∷ cause.cell ∷ cause.program ∷ [])

unfoldable pub raw_with_war_line : (number : ℕ) → (raw war : Cause) → List ℕ
raw_with_war_line number raw war =
    filled (ascii "# carried raw cell # program # war cell # program #\n") (number ∷ raw.cell ∷ raw.program ∷ war.cell ∷ war.program ∷ [])

unfoldable pub rejected_line : (number code : ℕ) → List ℕ
rejected_line number code = filled (ascii "# rejected code #\n") (number ∷ code ∷ [])

unfoldable pub load_fault_line : (number place : ℕ) → List ℕ
load_fault_line number place = filled (ascii "# faulted load at #\n") (number ∷ place ∷ [])

unfoldable pub store_fault_line : (number place : ℕ) → List ℕ
store_fault_line number place = filled (ascii "# faulted store at #\n") (number ∷ place ∷ [])

unfoldable pub guard_fault_line : (number place : ℕ) → List ℕ
guard_fault_line number place = filled (ascii "# faulted guard at #\n") (number ∷ place ∷ [])

-- ---- a program that has committed, with the words behind its line

-- without RAW
unfoldable pub free : (number : ℕ) → List ℕ
free number = committed_line number ++ filled (ascii "  No earlier program stores a cell that it reads or stores, so its stores are in the table.\n") []

-- with RAW: it counts as if it had run before the one that stores what it read
unfoldable pub turned : (number : ℕ) → Cause → List ℕ
turned number cause =
    committed_line number
    ++ filled (
    ascii "  It read cell # as it was when the batch was opened, while program # stores it,\n"
    ++ ascii "  so it comes before program # (# -> #), and its stores are in the table.\n"
    ) (cause.cell ∷ cause.program ∷ cause.program ∷ cause.program ∷ number ∷ [])

-- ---- a program that was carried

-- for reason 1
unfoldable pub waw : (number : ℕ) → Cause → List ℕ
waw number cause =
    waw_line number cause
    ++ filled (ascii "  It stores cell #, and so does program #, which comes first: the two cannot both count in one batch.\n")
    (cause.cell ∷ cause.program ∷ [])

-- for reason 2
unfoldable pub raw : (number : ℕ) → Cause → List ℕ
raw number cause =
    raw_line number cause
    ++ filled (ascii "  It read cell # as it was when the batch was opened, while program #, which comes first, stores it.\n")
    (cause.cell ∷ cause.program ∷ [])

-- for reason 3
unfoldable pub raw_with_war : (number : ℕ) → (raw war : Cause) → List ℕ
raw_with_war number raw war =
    raw_with_war_line number raw war
    ++ filled (
    ascii "  It would have to come before program #, which stores cell # that it read as it was (RAW, # -> #),\n"
    ++ ascii "  and after program #, which read cell # that it stores (WAR, # -> #): the two can close a circle.\n"
    ) (raw.program ∷ raw.cell ∷ raw.program ∷ number ∷ war.program ∷ war.cell ∷ number ∷ war.program ∷ [])

-- what comes of it: its number in the next batch, and within how many batches it ends
unfoldable pub more_batches : (batches : ℕ) → List ℕ
more_batches batches = filled (cond (eqb batches 1) (ascii "# more batch.\n") (ascii "# more batches.\n")) (batches ∷ [])

unfoldable pub again : (place batches : ℕ) → List ℕ
again place batches =
    filled (ascii "  Its reservations stay; it runs again in the next batch, as number #, and ends within ") (place ∷ []) ++ more_batches batches

-- ---- a program that was rejected or faulted; `last` is the table's last cell

unfoldable pub rejected : (number code : ℕ) → List ℕ
rejected number code =
    rejected_line number code
    ++ filled (ascii "  It rejected with code #, so it stores nothing, reserves nothing and is not carried.\n") (code ∷ [])

unfoldable pub load_fault : (number place last : ℕ) → List ℕ
load_fault number place last =
    load_fault_line number place
    ++ filled (
    ascii "  Its instruction #, counted from 0, loads a cell outside the table, whose last cell is #.\n"
    ++ ascii "  It stores nothing, reserves nothing and is not carried.\n"
    ) (place ∷ last ∷ [])

unfoldable pub store_fault : (number place last : ℕ) → List ℕ
store_fault number place last =
    store_fault_line number place
    ++ filled (
    ascii "  Its instruction #, counted from 0, stores to a cell outside the table, whose last cell is #.\n"
    ++ ascii "  It stores nothing, reserves nothing and is not carried.\n"
    ) (place ∷ last ∷ [])

-- ---- a program that stores a value which the cell's guard does not admit (document 02, ask 5)

-- an integer in decimal: a minus and then the digits where it is negative
unfoldable pub integer : ℤ → List ℕ
integer (pos n) = decimal n
integer (negsuc n) = ascii "-" ++ decimal (n + 1)

-- a word as such, "read as a signed 32-bit number"
unfoldable pub signed_text : (word : ℕ) → List ℕ
signed_text word = integer (signed word)

-- a text with numbers in it, and behind it such a word
unfoldable pub then_signed : (text numbers : List ℕ) (word : ℕ) → List ℕ
then_signed text numbers word = filled text numbers ++ signed_text word

-- which value it stores to which cell, and what "low" and "high" of that cell's guard are
unfoldable pub not_admitted : (place : ℕ) → Store → (low high : ℕ) → List ℕ
not_admitted place store low high =
    then_signed (ascii "  Its instruction #, counted from 0, stores ") (place ∷ []) store.value
    ++ then_signed (ascii " to cell #, whose guard asks for at least ") (store.cell ∷ []) low
    ++ then_signed (ascii " and at most ") [] high
    ++ ascii ".\n  It stores nothing, reserves nothing and is not carried.\n"

unfoldable pub guard_fault : (number place : ℕ) → Store → (low high : ℕ) → List ℕ
guard_fault number place store low high = guard_fault_line number place ++ not_admitted place store low high

-- ---- the most bytes of what is said of one program, where each number has at most 10 digits: of all that is said, the line and the words of reason 3
-- are the longest, and what comes of the program stands behind them

abbrev pub longest_reason : ℕ
longest_reason = 52 + 199 + 10 * 13

abbrev pub longest_again : ℕ
longest_again = 103 + 10 * 2

abbrev pub longest : ℕ
longest = longest_reason + longest_again
