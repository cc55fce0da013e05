-- Document 01, "What each refusal says", tried by computation on checks 5, 14, 6, 7 and 9: each comparison on both its sides, and the row order. The area
-- is lent for T = 3 cells and n = 2 programs where nothing else is said. Assumes nothing.
use Prim.Native.Nat.{ℕ, ◌*◌}
use mathlib.Core.Bool.{true, false}
use mathlib.Core.Path.{◌≡◌, refl}
use mathlib.Core.List.{List, [], ◌∷◌, ◌++◌, map}
use lib.ListN.{set, take, replicate}
use Rattle.image.specs.Assembler.{instruction, program, image}
use Rattle.image.specs.Bench.{empty}
use Rattle.image.specs.Refusals.{told}
use Rattle.guard.specs.Guards.{full_for}
use Rattle.area.specs.Checks.{none_waits, all_ended, open_refusal, call_refusal, ended_refusal}
use Rattle.area.specs.Sketch.{slot, area}
use Rattle.area.specs.Opened.{opened}

-- two programs of no instructions; as many cells; as many words that are 0
abbrev two : List ℕ
two = image 0 ([] ∷ [] ∷ [])

abbrev zeros : ℕ → List ℕ
zeros n = replicate n 0

-- the refusals' numbers: at opening, at the calls that follow, at those that come last; the guards are a pair for each cell
abbrev at_opening : List ℕ → List ℕ → List ℕ → ℕ
at_opening i t a = (told (open_refusal i t (full_for t) a)).number

abbrev at_call : List ℕ → List ℕ → List ℕ → ℕ
at_call i t a = (told (call_refusal i t (full_for t) a)).number

abbrev at_end : List ℕ → List ℕ → List ℕ → ℕ
at_end i t a = (told (ended_refusal i t (full_for t) a)).number

-- ---- 5, "table of 0 or over 256 cells"

cells_0_1_256_257 : map (λ T. at_opening empty (zeros T) (zeros (2 * T))) (0 ∷ 1 ∷ 256 ∷ 257 ∷ []) ≡ 5 ∷ 0 ∷ 0 ∷ 5 ∷ []
unfolding opened
cells_0_1_256_257 = refl

-- ---- 14, "guard list not T pairs": at every call, with 0, 3, 5, 6, 7 and 12 words of guards for 3 cells, whatever stands in them

words_of_guards : map (λ w. (told (open_refusal two (zeros 3) (zeros w) (zeros 206))).number) (0 ∷ 3 ∷ 5 ∷ 6 ∷ 7 ∷ 12 ∷ []) ≡ 14 ∷ 14 ∷ 14 ∷ 0 ∷ 14 ∷ 14 ∷ []
unfolding opened
words_of_guards = refl

guards_at_every_call : map (λ w. (told (call_refusal two (zeros 3) (zeros w) (zeros 206))).number ∷ (told (ended_refusal two (zeros 3) (zeros w) (zeros 206))).number ∷ []) (5 ∷ 6 ∷ 7 ∷ [])
    ≡ (14 ∷ 14 ∷ []) ∷ (0 ∷ 9 ∷ []) ∷ (14 ∷ 14 ∷ []) ∷ []
unfolding opened
guards_at_every_call = refl

-- ---- 6, "area is not 2T + 100n words"

words_one_less_one_more : map (λ w. at_opening two (zeros 3) (zeros w)) (0 ∷ 106 ∷ 205 ∷ 206 ∷ 207 ∷ 306 ∷ []) ≡ 6 ∷ 6 ∷ 6 ∷ 0 ∷ 6 ∷ 6 ∷ []
unfolding opened
words_one_less_one_more = refl

-- ---- 7, "(not at opening) a mark over n, a state over 5, a count over 32, or a cell of T or more among the counted ones"

-- an area in which each word is the largest that is good: marks 2, states 5, counts 32, cells 2; a detail and a stored value may be any number
abbrev full : List ℕ
full =
    let s : List ℕ = slot 5 4294967295 (replicate 32 2) (replicate 32 2) (replicate 32 4294967295) in
    area (replicate 3 2) (replicate 3 2) (s ∷ s ∷ [])

-- the call on it with one word changed, at each of these places
abbrev changed : ℕ → List ℕ → List ℕ
changed value = map (λ at. at_call two (zeros 3) (set full at value))

largest_good : at_call two (zeros 3) full ≡ 0
unfolding opened
largest_good = refl

-- "a mark over n": each of the write marks and the read marks
mark_n+1 : changed 3 (0 ∷ 1 ∷ 2 ∷ 3 ∷ 4 ∷ 5 ∷ []) ≡ replicate 6 7
unfolding opened
mark_n+1 = refl

-- "a state over 5"
state_6 : changed 6 (6 ∷ 106 ∷ []) ≡ 7 ∷ 7 ∷ []
unfolding opened
state_6 = refl

-- "a count over 32": of the reads and of the stores
count_33 : changed 33 (8 ∷ 9 ∷ 108 ∷ 109 ∷ []) ≡ replicate 4 7
unfolding opened
count_33 = refl

-- "a cell of T or more among the counted ones": the first and the last read, the first and the last store
cell_t : changed 3 (10 ∷ 41 ∷ 42 ∷ 73 ∷ 110 ∷ 141 ∷ 142 ∷ 173 ∷ []) ≡ replicate 8 7
unfolding opened
cell_t = refl

-- "among the counted ones": a cell of T or more as the second of two, and behind one; of the reads, of the stores; "every slot": a waiting one
abbrev counting : ℕ → ℕ → ℕ
counting reads stores =
    at_call two (zeros 3) (area (zeros 3) (zeros 3) (
    zeros 100
    ∷ (0 ∷ 0 ∷ reads ∷ stores ∷ (0 ∷ 3 ∷ zeros 30) ++ (0 ∷ 3 ∷ zeros 30) ++ zeros 32)
    ∷ []
    ))

counted_ones : counting 1 1 ∷ counting 2 1 ∷ counting 1 2 ∷ counting 0 0 ∷ [] ≡ 0 ∷ 7 ∷ 7 ∷ 0 ∷ []
unfolding opened
counted_ones = refl

waiting_too : counting 33 0 ∷ counting 0 33 ∷ [] ≡ 7 ∷ 7 ∷ []
unfolding opened
waiting_too = refl

-- "(not at opening)"
not_at_opening : map (λ at. at_opening two (zeros 3) (set full at 4294967295)) (0 ∷ 3 ∷ 6 ∷ 8 ∷ 10 ∷ []) ≡ replicate 5 0
unfolding opened
not_at_opening = refl

-- with no program every mark has to be 0
no_program : at_call empty (zeros 1) (0 ∷ 0 ∷ []) ∷ at_call empty (zeros 1) (1 ∷ 0 ∷ []) ∷ at_call empty (zeros 1) (0 ∷ 1 ∷ []) ∷ [] ≡ 0 ∷ 7 ∷ 7 ∷ []
unfolding opened
no_program = refl

-- ---- 9, "Settling: some state 0 .. Order, next image: some state 0 or 1"

-- two programs in these states
abbrev states : ℕ → ℕ → List ℕ
states first second = area (zeros 3) (zeros 3) (slot first 0 [] [] [] ∷ slot second 0 [] [] [] ∷ [])

abbrev pairs : {A : Type 0} → (List ℕ → A) → List A
pairs f = map f (states 0 2 ∷ states 2 0 ∷ states 1 2 ∷ states 2 1 ∷ states 1 1 ∷ states 2 2 ∷ states 3 4 ∷ states 5 5 ∷ [])

some_state_0 : pairs (none_waits 3 2) ≡ false ∷ false ∷ true ∷ true ∷ true ∷ true ∷ true ∷ true ∷ []
unfolding opened
some_state_0 = refl

some_state_0_or_1 : (pairs (all_ended 3 2) ≡ false ∷ false ∷ false ∷ false ∷ false ∷ true ∷ true ∷ true ∷ [])
    × (pairs (at_end two (zeros 3)) ≡ 9 ∷ 9 ∷ 9 ∷ 9 ∷ 9 ∷ 0 ∷ 0 ∷ 0 ∷ [])
unfolding opened
some_state_0_or_1 = (refl, refl)

-- only the states of the image's programs: of none, all is well
none_of_none : none_waits 3 0 [] ∷ all_ended 3 0 [] ∷ [] ≡ true ∷ true ∷ []
unfolding opened
none_of_none = refl

-- ---- "Checks go in the row order": each call on something that breaks two neighbours

-- 1 to 3 and 41, each with a table of 0 cells, which breaks 5
abbrev bad_images : List (List ℕ)
bad_images = take 5 empty ∷ image 3 [] ∷ (two ++ (0 ∷ [])) ∷ image 0 (program (instruction 9 0 0 0 ∷ []) ∷ []) ∷ []

images_first : (map (λ i. at_opening i [] []) bad_images ≡ 1 ∷ 2 ∷ 3 ∷ 41 ∷ [])
    × (map (λ i. at_call i [] []) bad_images ≡ 1 ∷ 2 ∷ 3 ∷ 41 ∷ [])
    × (map (λ i. at_end i [] []) bad_images ≡ 1 ∷ 2 ∷ 3 ∷ 41 ∷ [])
unfolding opened
images_first = (refl, refl, refl)

-- 14 "after 5": no cells, and guards for one. And before 6: a word of guards too few and a word of the area too many.
around_14 : (told (open_refusal two [] (zeros 2) (zeros 200))).number ∷ (told (open_refusal two (zeros 3) (zeros 5) (zeros 207))).number ∷ [] ≡ 5 ∷ 14 ∷ []
unfolding opened
around_14 = refl

-- 5 before 6: no cells and a word too many. 6 before 7: a word too few and a mark over n. 7 before 9: a state 6 beside a state 0.
row_order : at_opening two [] (zeros 201) ∷ at_call two [] (zeros 201) ∷ at_call two (zeros 3) (replicate 205 3) ∷ at_end two (zeros 3) (states 6 0) ∷ []
    ≡ 5 ∷ 5 ∷ 6 ∷ 7 ∷ []
unfolding opened
row_order = refl
