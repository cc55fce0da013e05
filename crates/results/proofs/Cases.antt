-- Document 01, "Bench sheet", tried by computation on the definition of the listing. Assumes nothing.
use Prim.Native.Nat.{ℕ}
use mathlib.Core.Path.{◌≡◌, refl}
use mathlib.Core.List.{[], ◌∷◌, map}
use Rattle.text.specs.Ascii.{ascii}
use Rattle.image.specs.Assembler.{image}
use Rattle.image.specs.Bench.{example_1, empty}
use Rattle.guard.specs.Guards.{full_for}
use Rattle.area.specs.Sketch.{slot, area}
use Rattle.results.specs.Listing.{word_of, program_line, order_line, listing, most_listing}
use Rattle.results.specs.Opened.{opened}

-- "Case 2 with T=2 prints:"
case_2 : listing (example_1 2) (10 ∷ 5 ∷ []) (full_for (10 ∷ 5 ∷ []))
    (area (1 ∷ 2 ∷ []) (1 ∷ 2 ∷ []) (
    slot 4 0 (0 ∷ []) (0 ∷ []) (10 ∷ [])
    ∷ slot 4 0 (0 ∷ 1 ∷ []) (1 ∷ []) (5 ∷ [])
    ∷ slot 5 1 (0 ∷ 1 ∷ []) (0 ∷ []) (13 ∷ [])
    ∷ []
    ))
    ≡ ascii "batch 2 3 2\n0 committed 0\n1 committed 0\n2 carried 1\norder 1 0\n0 10\n1 5\n"
unfolding opened
case_2 = refl

-- "An empty order prints "order"." Where no program is (case 7, rule byte 0: the rule in force is 1), and where none is committed
case_7 : listing empty (1 ∷ 2 ∷ 3 ∷ []) (full_for (1 ∷ 2 ∷ 3 ∷ [])) (area (0 ∷ 0 ∷ 0 ∷ []) (0 ∷ 0 ∷ 0 ∷ []) []) ≡ ascii "batch 3 0 1\norder\n0 1\n1 2\n2 3\n"
unfolding opened
case_7 = refl

none_committed : listing (image 1 ([] ∷ [])) (4294967295 ∷ []) (full_for (4294967295 ∷ [])) (area (0 ∷ []) (0 ∷ []) (slot 3 513 [] [] [] ∷ [])) ≡ ascii "batch 1 1 1\n0 faulted 513\norder\n0 4294967295\n"
unfolding opened
none_committed = refl

-- "number, state (its word in the work area's list), detail": each state's word, and a line
words : map word_of (0 ∷ 1 ∷ 2 ∷ 3 ∷ 4 ∷ 5 ∷ [])
    ≡ ascii "waiting" ∷ ascii "gathered" ∷ ascii "rejected" ∷ ascii "faulted" ∷ ascii "committed" ∷ ascii "carried" ∷ []
unfolding opened
words = refl

line : program_line 1 (area (0 ∷ []) (0 ∷ []) (slot 4 0 [] [] [] ∷ slot 2 7 [] [] [] ∷ [])) 1 ≡ ascii "1 rejected 7\n"
unfolding opened
line = refl

-- document 02, ask 5: "a fault of kind 3 at its place", 4
guard_line : program_line 1 (area (0 ∷ []) (0 ∷ []) (slot 3 772 [] [] [] ∷ [])) 0 ≡ ascii "0 faulted 772\n"
unfolding opened
guard_line = refl

-- the order as it is listed, and no more of it
orders : map order_line ([] ∷ (0 ∷ []) ∷ (63 ∷ 1 ∷ 10 ∷ []) ∷ []) ≡ ascii "order\n" ∷ ascii "order 0\n" ∷ ascii "order 63 1 10\n" ∷ []
unfolding opened
orders = refl

-- "that line is then the whole output": of a program that waits, of an area of the wrong size, of guards that are no pair, and of a bad image
refused : listing (image 1 ([] ∷ [])) (1 ∷ []) (full_for (1 ∷ [])) (area (0 ∷ []) (0 ∷ []) (slot 0 0 [] [] [] ∷ []))
    ∷ listing (image 1 ([] ∷ [])) (1 ∷ []) (full_for (1 ∷ [])) (area (0 ∷ []) (0 ∷ []) [])
    ∷ listing (image 1 ([] ∷ [])) (1 ∷ []) (2147483648 ∷ []) (area (0 ∷ []) (0 ∷ []) [])
    ∷ listing [] (1 ∷ []) (full_for (1 ∷ [])) (area (0 ∷ []) (0 ∷ []) [])
    ∷ []
    ≡ ascii "refused 9\n" ∷ ascii "refused 6\n" ∷ ascii "refused 14\n" ∷ ascii "refused 1\n" ∷ []
unfolding opened
refused = refl

-- the room that every listing fits in
most : ◌≡◌ {A = ℕ} most_listing 9136
most = refl
