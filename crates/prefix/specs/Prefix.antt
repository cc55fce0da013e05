-- Document 01, "Bench sheet": "The program reads T in two bytes (low first), T cells of four bytes (low first), then the image." What stands before the image,
-- of a table's cells; and the guards of a table (document 02, ask 5), which have four bytes for each end. Assumes nothing.
use Rattle.std.specs.Prelude.{ℕ, ◌+◌, ◌*◌, ◌/◌, ◌%◌, List, [], ◌∷◌, ◌++◌, length, get_or}
use Rattle.text.specs.Filled.{texts}
use Rattle.guard.specs.Guards.{guard_words}

-- a number of 16 bits and one of 32, low byte first
abbrev pub two : ℕ → List ℕ
two n = n % 256 ∷ n / 256 % 256 ∷ []

abbrev pub four : ℕ → List ℕ
four n = two n ++ two (n / 65536)

-- cell number c of a table, or word number c of its guards
unfoldable pub cell_at : (cells : List ℕ) (c : ℕ) → List ℕ
cell_at cells c = four (get_or cells c 0)

-- each of them, one behind the other: the guards are "T pairs, low then high, cell by cell"
abbrev pub fours : (words : List ℕ) → List ℕ
fours words = texts (cell_at words) (length words)

-- "T in two bytes (low first), T cells of four bytes (low first)"
unfoldable pub prefix : (cells : List ℕ) → List ℕ
prefix cells = two (length cells) ++ fours cells

-- how many bytes that is, and how many the guards of so many cells are
abbrev pub prefix_bytes : (cells : ℕ) → ℕ
prefix_bytes cells = 2 + 4 * cells

abbrev pub guard_bytes : (cells : ℕ) → ℕ
guard_bytes cells = 4 * guard_words cells
