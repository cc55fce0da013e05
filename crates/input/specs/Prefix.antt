-- Document 01, "Bench sheet": "The program reads T in two bytes (low first), T cells of four bytes (low first), then the image." And where the input has guards
-- (document 02, ask 5), the T pairs stand behind the cells and before the image. Assumes nothing.
use Rattle.std.specs.Prelude.{ℕ, ◌+◌, ◌*◌, Bool, cond, ◌&&◌, List, leb, length, drop, Option, Some, None}
use Rattle.base.specs.Words.{tabulate}
use Rattle.image.specs.Limits.{min_cells, max_cells}
use Rattle.image.specs.Image.{byte_at, number_at}
use Rattle.guard.specs.Guards.{guard_words}
use Rattle.prefix.specs.Prefix.{prefix_bytes, guard_bytes}

-- "T in two bytes (low first)"
abbrev pub cells_named : List ℕ → ℕ
cells_named input = number_at input 0

-- "T cells of four bytes (low first)"
unfoldable pub word_at : List ℕ → ℕ → ℕ
word_at input at = byte_at input at + 256 * byte_at input (at + 1) + 65536 * byte_at input (at + 2) + 16777216 * byte_at input (at + 3)

-- so many of them, from a place on
abbrev pub words_from : List ℕ → (at count : ℕ) → List ℕ
words_from input at n = tabulate (λ i. word_at input (at + 4 * i)) n

abbrev pub table_in : List ℕ → ℕ → List ℕ
table_in input T = words_from input (prefix_bytes 0) T

-- "A guard list of T pairs, low then high, cell by cell", and where it ends
abbrev pub guards_in : List ℕ → ℕ → List ℕ
guards_in input T = words_from input (prefix_bytes T) (guard_words T)

abbrev pub guards_end : (cells : ℕ) → ℕ
guards_end T = prefix_bytes T + guard_bytes T

-- "then the image": all that is behind the cells, or behind the guards
abbrev pub image_from : List ℕ → (start : ℕ) → List ℕ
image_from input start = drop start input

-- "Fewer bytes than that prefix needs, or T outside 1 to 256" is refused
unfoldable pub prefix_good : List ℕ → Bool
prefix_good input =
    leb (prefix_bytes (cells_named input)) (length input) && leb min_cells (cells_named input) && leb (cells_named input) max_cells

-- T where the prefix is good
unfoldable pub cells_of : List ℕ → Option ℕ
cells_of input = cond (prefix_good input) (Some (cells_named input)) None
