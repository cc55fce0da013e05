-- Document 01, "Bench sheet", and document 02, ask 5, tried by computation on the definition of the input, on both sides of each comparison. Assumes nothing.
use Prim.Native.Nat.{ℕ}
use mathlib.Core.Path.{◌≡◌, refl}
use mathlib.Core.List.{List, [], ◌∷◌, map}
use lib.ListN.{replicate}
use Rattle.std.specs.Prelude.{Some, None}
use Rattle.prefix.specs.Prefix.{prefix_bytes}
use Rattle.input.specs.Prefix.{table_in, guards_in, guards_end, image_from, cells_of}
use Rattle.input.specs.Opened.{opened}

-- T by its two bytes, and so many bytes behind them
abbrev prefix : (low high bytes : ℕ) → List ℕ
prefix low high bytes = low ∷ high ∷ replicate bytes 7

-- "Fewer bytes than that prefix needs": none, one, and one less than 2 + 4T; exactly as many
bytes_needed : map cells_of ([] ∷ (1 ∷ []) ∷ prefix 1 0 3 ∷ prefix 1 0 4 ∷ prefix 3 0 11 ∷ prefix 3 0 12 ∷ prefix 3 0 40 ∷ []) ≡ None ∷ None ∷ None ∷ Some 1 ∷ None ∷ Some 3 ∷ Some 3 ∷ []
unfolding opened
bytes_needed = refl

-- "or T outside 1 to 256": 0, 1, 256, 257, each with enough bytes; "low first"
outside : map cells_of (prefix 0 0 1028 ∷ prefix 1 0 1028 ∷ prefix 0 1 1028 ∷ prefix 1 1 1028 ∷ []) ≡ None ∷ Some 1 ∷ Some 256 ∷ None ∷ []
unfolding opened
outside = refl

-- "T cells of four bytes (low first), then the image"
abbrev two : List ℕ
two = 2 ∷ 0 ∷ 1 ∷ 2 ∷ 3 ∷ 4 ∷ 255 ∷ 255 ∷ 255 ∷ 255 ∷ 8 ∷ 9 ∷ []

cells : table_in two 2 ≡ 67305985 ∷ 4294967295 ∷ []
unfolding opened
cells = refl

rest : image_from two (prefix_bytes 2) ≡ 8 ∷ 9 ∷ []
unfolding opened
rest = refl

-- ---- "T pairs, low then high, cell by cell": two cells, a heater from -20 to 45 and a cell that is closed, with 1 above 0; then the image

abbrev guarded : List ℕ
guarded =
    2 ∷ 0 ∷ 9 ∷ 0 ∷ 0 ∷ 0 ∷ 4 ∷ 0 ∷ 0 ∷ 0 ∷ 236 ∷ 255 ∷ 255 ∷ 255 ∷ 45 ∷ 0 ∷ 0 ∷ 0 ∷ 1 ∷ 0 ∷ 0 ∷ 0 ∷ 0 ∷ 0 ∷ 0 ∷ 0 ∷ 8 ∷ 9 ∷ []

guards : guards_in guarded 2 ≡ 4294967276 ∷ 45 ∷ 1 ∷ 0 ∷ []
unfolding opened
guards = refl

-- the cells are read as before
its_cells : table_in guarded 2 ≡ 9 ∷ 4 ∷ []
unfolding opened
its_cells = refl

its_image : image_from guarded (guards_end 2) ≡ 8 ∷ 9 ∷ []
unfolding opened
its_image = refl

-- where the guards of 1, 2 and 256 cells end: 8 bytes for each cell, behind the cells
ends : map guards_end (1 ∷ 2 ∷ 256 ∷ []) ≡ 14 ∷ 26 ∷ 3074 ∷ []
unfolding opened
ends = refl
