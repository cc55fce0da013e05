-- Document 01, "What each refusal says", tried by computation on the definitions of the listed order, sentence by sentence: what the call answers and
-- leaves. The numbers are literals, and each comparison has a case on both its sides. Assumes nothing.
use Prim.Native.Nat.{ℕ}
use mathlib.Core.Path.{◌≡◌, refl}
use mathlib.Core.List.{List, [], ◌∷◌, ◌++◌, map}
use lib.ListN.{take, drop, set, replicate}
use Rattle.std.specs.Prelude.{Ok, Err}
use Rattle.image.specs.declared.refusals.Refusal.TheVariants as refusal
use Rattle.image.specs.Refusals.{refusing_at, Counted}
use Rattle.image.specs.Assembler.{instruction, end, program, image}
use Rattle.image.specs.Bench.{x, y, z}
use Rattle.guard.specs.Guards.{full_for}
use Rattle.listing.specs.Listing.{OrderSays}
use Rattle.listing.specs.Opened.{opened}
use Rattle.listing.proofs.Cases.{slot, committed, idle, area, batch, table, called, done, refused_with, refused, nines, lists}

-- "When done, .. the order its count.": none committed, and no program at all, also with a list of no entries
none_listed : lists (slot 5 [] [] ∷ []) ∷ lists [] ∷ called (batch []) table (area []) [] ∷ [] ≡ done 0 nines ∷ done 0 nines ∷ done 0 [] ∷ []
unfolding opened
none_listed = refl

-- "The list beyond the committed count .. untouched.": lists of as many as the count, and of more
abbrev listed_into : List ℕ → Counted × List ℕ
listed_into = called (batch (idle ∷ idle ∷ [])) table (area (idle ∷ idle ∷ []))

beyond : map listed_into ((6 ∷ 7 ∷ []) ∷ (6 ∷ 7 ∷ 8 ∷ []) ∷ (6 ∷ 7 ∷ 8 ∷ 9 ∷ []) ∷ [])
    ≡ done 2 (0 ∷ 1 ∷ [])
    ∷ done 2 (0 ∷ 1 ∷ 8 ∷ [])
    ∷ done 2 (0 ∷ 1 ∷ 8 ∷ 9 ∷ [])
    ∷ []
unfolding opened
beyond = refl

-- 9, "some state 0 or 1": one program in each of the six states, then the first and the last of three
abbrev in_states : List ℕ → Counted × List ℕ
in_states states = lists (map (λ s. slot s [] []) states)

state_0_1 : map (λ s. in_states (s ∷ [])) (0 ∷ 1 ∷ 2 ∷ 3 ∷ 4 ∷ 5 ∷ [])
    ≡ refused 9 nines ∷ refused 9 nines ∷ done 0 nines ∷ done 0 nines ∷ done 1 (0 ∷ replicate 4 9) ∷ done 0 nines ∷ []
unfolding opened
state_0_1 = refl

some_state : map in_states ((0 ∷ 4 ∷ 4 ∷ []) ∷ (4 ∷ 4 ∷ 1 ∷ []) ∷ []) ≡ refused 9 nines ∷ refused 9 nines ∷ []
unfolding opened
some_state = refl

-- 10, "order list under n entries": three and two for three programs, though only one of them is committed
abbrev one_of_three : List (List ℕ)
one_of_three = slot 5 [] [] ∷ idle ∷ slot 2 [] [] ∷ []

entries_3_2 : map (called (batch one_of_three) table (area one_of_three)) ((9 ∷ 9 ∷ 9 ∷ []) ∷ (9 ∷ 9 ∷ []) ∷ [])
    ≡ done 1 (1 ∷ 9 ∷ 9 ∷ []) ∷ refused 10 (9 ∷ 9 ∷ []) ∷ []
unfolding opened
entries_3_2 = refl

-- 12, "no order exists": each of two reads what the other stores, and each of three what the one before it stores; a program that could be taken,
-- before or after them, does not help, and a circle that goes through a carried program is none
abbrev circle_of_two : List (List ℕ)
circle_of_two = committed (x ∷ []) (y ∷ []) ∷ committed (y ∷ []) (x ∷ []) ∷ []

abbrev circle_of_three : ℕ → List (List ℕ)
circle_of_three state = idle ∷ committed (z ∷ []) (x ∷ []) ∷ committed (x ∷ []) (y ∷ []) ∷ slot state (y ∷ []) (z ∷ []) ∷ idle ∷ []

circles : map lists (circle_of_two ∷ circle_of_three 4 ∷ circle_of_three 5 ∷ [])
    ≡ refused 12 nines ∷ refused 12 nines ∷ done 4 (0 ∷ 2 ∷ 1 ∷ 4 ∷ 9 ∷ []) ∷ []
unfolding opened
circles = refl

-- "Checks go in the row order": 1 to 7, 9, 10, 12, each on a call that breaks all rows after it too, as far as they can be broken together. "A
-- refusal returns its number, 0 for every other result, and changes no lent memory."
abbrev bad : ℕ → List ℕ
bad rule = image rule ([] ∷ program (end ∷ end ∷ instruction 9 0 0 0 ∷ []) ∷ [])

-- a circle of two, and the same with program 0 in state 1, and with a mark that names program 2 besides
abbrev stuck : List ℕ
stuck = area circle_of_two

abbrev unsettled : List ℕ
unsettled = set stuck 6 1

abbrev overmarked : List ℕ
overmarked = set unsettled 0 3

row_order : called (take 5 (bad 3)) [] overmarked (9 ∷ [])
    ∷ called (bad 3 ++ (0 ∷ [])) [] overmarked (9 ∷ [])
    ∷ called (bad 2 ++ (0 ∷ [])) [] overmarked (9 ∷ [])
    ∷ called (bad 2) [] overmarked (9 ∷ [])
    ∷ called (batch circle_of_two) [] overmarked (9 ∷ [])
    ∷ called (batch circle_of_two) table (overmarked ++ (0 ∷ [])) (9 ∷ [])
    ∷ called (batch circle_of_two) table overmarked (9 ∷ [])
    ∷ called (batch circle_of_two) table unsettled (9 ∷ [])
    ∷ called (batch circle_of_two) table stuck (9 ∷ [])
    ∷ called (batch circle_of_two) table stuck (9 ∷ 9 ∷ [])
    ∷ []
    ≡ map (λ r. refused r (9 ∷ [])) (1 ∷ 2 ∷ 3 ∷ [])
    ++ (refused_with (refusing_at 41 1 2) (9 ∷ []) ∷ map (λ r. refused r (9 ∷ [])) (5 ∷ 6 ∷ 7 ∷ 9 ∷ 10 ∷ []))
    ++ (refused 12 (9 ∷ 9 ∷ []) ∷ [])
unfolding opened
row_order = refl

-- 14 after 5, before 6: guards of a word too few, where the area has a word too many and all the rest is broken too
guards_too_short : OrderSays (batch circle_of_two) table (drop 1 (full_for table)) (overmarked ++ (0 ∷ [])) (9 ∷ []) (Err refusal.Guards) (9 ∷ [])
    × OrderSays (batch circle_of_two) [] (full_for table) (overmarked ++ (0 ∷ [])) (9 ∷ []) (Err refusal.TableSize) (9 ∷ [])
unfolding opened
guards_too_short = (record { answer = refl; entries = refl }, record { answer = refl; entries = refl })

-- what the call's contract says of all this
order_says : OrderSays (batch (idle ∷ idle ∷ [])) table (full_for table) (area (idle ∷ idle ∷ [])) (6 ∷ 7 ∷ 8 ∷ []) (Ok 2) (0 ∷ 1 ∷ 8 ∷ [])
    × OrderSays (batch circle_of_two) table (full_for table) stuck (9 ∷ []) (Err refusal.TooShort) (9 ∷ [])
    × OrderSays (batch circle_of_two) table (full_for table) stuck (9 ∷ 9 ∷ []) (Err refusal.NoOrder) (9 ∷ 9 ∷ [])
unfolding opened
order_says = (record { answer = refl; entries = refl }, record { answer = refl; entries = refl }, record { answer = refl; entries = refl })
