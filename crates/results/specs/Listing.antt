-- Document 01, "Bench sheet": the listing that the program `batch` prints of a settled batch, and the line of a refusal. It is over image, table,
-- guards and area: a program's state and detail stand in the area. Assumes nothing.
use Rattle.std.specs.Prelude.{ℕ, ◌+◌, ◌*◌, cond, List, [], ◌∷◌, ◌++◌, eqb, length, get_or, replicate}
use Rattle.text.specs.Ascii.{ascii}
use Rattle.text.specs.Filled.{filled, texts}
use Rattle.image.specs.Limits.{max_programs, max_cells}
use Rattle.image.specs.Refusals.{unless}
use Rattle.image.specs.Image.{count_of, second_rule}
use Rattle.slot.specs.States.{waiting, gathered, rejected, faulted, committed}
use Rattle.area.specs.declared.Batch.{Batch}
use Rattle.area.specs.Layout.{state_of, detail_of}
use Rattle.area.specs.Checks.{Measured}
use Rattle.listing.specs.Listing.{order_of, order_refusal}
use Rattle.refused.specs.Refused.{refused_line}

-- "Line 1: cells, programs, rule in force."
abbrev pub rule_in_force : List ℕ → ℕ
rule_in_force image = cond (second_rule image) 2 1

unfoldable pub first_line : (image table : List ℕ) → List ℕ
first_line image t = filled (ascii "batch # # #\n") (length t ∷ count_of image ∷ rule_in_force image ∷ [])

-- "Then number, state (its word in the work area's list), detail". The list: "0 waiting, 1 gathered, 2 rejected, 3 faulted, 4 committed, 5 carried."
unfoldable pub word_of : ℕ → List ℕ
word_of state =
    cond (eqb state waiting) (ascii "waiting")
    (cond (eqb state gathered) (ascii "gathered")
    (cond (eqb state rejected) (ascii "rejected")
    (cond (eqb state faulted) (ascii "faulted")
    (cond (eqb state committed) (ascii "committed")
    (ascii "carried")))))

unfoldable pub program_line : (T : ℕ) (area : List ℕ) (number : ℕ) → List ℕ
program_line T a k = filled (ascii "# ") (k ∷ []) ++ word_of (state_of T k a) ++ filled (ascii " #\n") (detail_of T k a ∷ [])

abbrev pub program_lines : (T n : ℕ) (area : List ℕ) → List ℕ
program_lines T n a = texts (program_line T a) n

-- "the order"; "An empty order prints "order"."
unfoldable pub order_entry : (order : List ℕ) (place : ℕ) → List ℕ
order_entry order i = filled (ascii " #") (get_or order i 0 ∷ [])

unfoldable pub order_line : (order : List ℕ) → List ℕ
order_line order = ascii "order" ++ texts (order_entry order) (length order) ++ ascii "\n"

-- "each cell and its value"
unfoldable pub cell_line : (table : List ℕ) (cell : ℕ) → List ℕ
cell_line t c = filled (ascii "# #\n") (c ∷ get_or t c 0 ∷ [])

abbrev pub cell_lines : (table : List ℕ) → List ℕ
cell_lines t = texts (cell_line t) (length t)

-- these one behind the other, for the listed order of the area
unfoldable pub listing_with : (order image table area : List ℕ) → List ℕ
listing_with order image t a = first_line image t ++ program_lines (length t) (count_of image) a ++ order_line order ++ cell_lines t

-- where the call for the listed order is refused, that refusal's line; the list that it is lent has room for every program
abbrev pub order_room : List ℕ
order_room = replicate max_programs 0

unfoldable pub listing : (image table guards area : List ℕ) → List ℕ
listing image t g a =
    unless (order_refusal image t g a order_room) refused_line (listing_with (order_of (length t) (count_of image) a) image t a)

-- ---- the same of what is lent of a batch, whose area has the words for it

abbrev pub IsMeasured : Batch → Type 0
IsMeasured b = Measured (length b.table.now) (count_of b.image.now) b.area.now

abbrev pub listed_by : (order : List ℕ) → Batch → List ℕ
listed_by order b = listing_with order b.image.now b.table.now b.area.now

abbrev pub listing_of : Batch → List ℕ
listing_of b = listing b.image.now b.table.now b.guards.now b.area.now

-- ---- how long a listing is at most, where its numbers have 32 bits, which are ten digits: a text, and ten more for each number in it

abbrev pub most : (text : List ℕ) (numbers : ℕ) → ℕ
most text numbers = length text + 10 * numbers

abbrev pub most_program : ℕ
most_program = most (ascii "# ") 1 + length (ascii "committed") + most (ascii " #\n") 1

abbrev pub most_order : ℕ
most_order = length (ascii "order") + max_programs * most (ascii " #") 1 + length (ascii "\n")

abbrev pub most_listing : ℕ
most_listing = most (ascii "batch # # #\n") 3 + max_programs * most_program + most_order + max_cells * most (ascii "# #\n") 2
