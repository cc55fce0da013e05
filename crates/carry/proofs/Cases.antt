-- Document 01 tried by computation on the definitions of the next image, sentence by sentence: "Next image", and what the call answers and leaves.
-- The numbers are literals, and each comparison has a case on both its sides. Assumes nothing.
use Prim.Native.Nat.{ℕ}
use mathlib.Core.Path.{◌≡◌, refl}
use mathlib.Core.List.{List, [], ◌∷◌, ◌++◌, map}
use lib.ListN.{take, set, replicate}
use Rattle.std.specs.Prelude.{Ok, Err}
use Rattle.image.specs.declared.refusals.Refusal.TheVariants as refusal
use Rattle.image.specs.declared.refusals.RefusalNumbers.{RefusalNumbers}
use Rattle.image.specs.Refusals.{refusing_at, refusing, none, Counted, numbers_of_count}
use Rattle.image.specs.Assembler as assembler
use Rattle.image.specs.Assembler.{program, joined, image, store, reject, instruction}
use Rattle.guard.specs.Guards.{full_for}
use Rattle.slot.specs.Log.{empty, layout}
use Rattle.carry.specs.Next.{next_answer, next_out, NextSays}
use Rattle.carry.specs.Opened.{opened}

-- ---- how a case is written down

-- four programs of 4, 8, 4 and 4 bytes that can be told apart; the first three are the batch, under Rule 2
abbrev one : List ℕ
one = program (assembler.set 0 7 ∷ [])

abbrev two : List ℕ
two = program (assembler.set 1 7 ∷ store 0 1 ∷ [])

abbrev three : List ℕ
three = program (reject 3 ∷ [])

abbrev four : List ℕ
four = program (assembler.set 4 4 ∷ [])

abbrev batch : List ℕ
batch = image 2 (one ∷ two ∷ three ∷ [])

-- an area for one cell, without marks, whose slots are in these states; what they hold besides is not looked at
abbrev area : List ℕ → List ℕ
area states = 0 ∷ 0 ∷ joined (map (λ s. layout s 0 empty) states)

-- the numbers that the call returns, refusal and length, and the output that it leaves
abbrev called : (image table area fresh out : List ℕ) → Counted × List ℕ
called image t a fresh out = (numbers_of_count (next_answer image t (full_for t) a fresh out), next_out image t (full_for t) a fresh out)

abbrev done : ℕ → List ℕ → Counted × List ℕ
done bytes out = (record { refusal = none; count = bytes }, out)

abbrev refused_with : RefusalNumbers → List ℕ → Counted × List ℕ
refused_with refusal out = (record { refusal = refusal; count = 0 }, out)

abbrev refused : ℕ → List ℕ → Counted × List ℕ
refused number = refused_with (refusing number)

-- the call for the batch with its programs in these states, and this fresh image; the output has 40 bytes that are 9
abbrev nines : ℕ → List ℕ
nines k = replicate k 9

abbrev next : (states fresh : List ℕ) → Counted × List ℕ
next states fresh = called batch (5 ∷ []) (area states) fresh (nines 40)

-- ---- "Next image: the carried programs in number order, then the fresh image's programs, with the fresh image's rule byte."

-- some carried, and one fresh
some_carried : next (4 ∷ 5 ∷ 5 ∷ []) (image 1 (four ∷ []))
    ≡ done 28 (
    (3 ∷ 0 ∷ 1 ∷ 0 ∷ 12 ∷ 0 ∷ 20 ∷ 0 ∷ 24 ∷ 0 ∷ 28 ∷ 0 ∷ [])
    ++ (1 ∷ 1 ∷ 0 ∷ 7 ∷ 3 ∷ 0 ∷ 1 ∷ 0 ∷ [])
    ++ (8 ∷ 3 ∷ 0 ∷ 0 ∷ [])
    ++ (1 ∷ 4 ∷ 0 ∷ 4 ∷ [])
    ++ nines 12)
unfolding opened
some_carried = refl

-- all carried, with two fresh; the second alone; none
all_some_none : next (5 ∷ 5 ∷ 5 ∷ []) (image 2 (four ∷ [] ∷ []))
    ∷ next (4 ∷ 5 ∷ 2 ∷ []) (image 2 (four ∷ []))
    ∷ next (4 ∷ 2 ∷ 3 ∷ []) (image 2 (four ∷ []))
    ∷ []
    ≡ done 36 (image 2 (one ∷ two ∷ three ∷ four ∷ [] ∷ []) ++ nines 4)
    ∷ done 22 (image 2 (two ∷ four ∷ []) ++ nines 18)
    ∷ done 12 (image 2 (four ∷ []) ++ nines 28)
    ∷ []
unfolding opened
all_some_none = refl

-- nothing fresh: with some carried, and with none, the image of no programs
nothing_fresh_lem : next (5 ∷ 4 ∷ 5 ∷ []) (image 2 []) ∷ next (4 ∷ 4 ∷ 4 ∷ []) (image 2 []) ∷ []
    ≡ done 18 (image 2 (one ∷ three ∷ []) ++ nines 22)
    ∷ done 6 ((0 ∷ 0 ∷ 2 ∷ 0 ∷ 6 ∷ 0 ∷ []) ++ nines 34)
    ∷ []
unfolding opened
nothing_fresh_lem = refl

-- after a batch of no programs: the fresh image
nobody_there : called (image 2 []) (5 ∷ []) (area []) (image 1 (one ∷ four ∷ [])) (nines 20) ≡ done 18 (image 1 (one ∷ four ∷ []) ++ nines 2)
unfolding opened
nobody_there = refl

-- "the fresh image's rule byte": each as it stands, 0 too; byte 3 is 0
rules : map (λ rule. take 4 (next (5 ∷ 5 ∷ 4 ∷ []) (image rule (four ∷ []))).1) (0 ∷ 1 ∷ 2 ∷ [])
    ≡ (3 ∷ 0 ∷ 0 ∷ 0 ∷ []) ∷ (3 ∷ 0 ∷ 1 ∷ 0 ∷ []) ∷ (3 ∷ 0 ∷ 2 ∷ 0 ∷ []) ∷ []
unfolding opened
rules = refl

-- "carried": state 5 whatever its detail, and no other state whatever its detail
abbrev detailed : ℕ → List ℕ
detailed detail = 0 ∷ 0 ∷ joined (map (λ s. layout s detail empty) (5 ∷ 4 ∷ 5 ∷ []))

details : map (λ d. called batch (5 ∷ []) (detailed d) (image 0 []) (nines 20)) (0 ∷ 1 ∷ 3 ∷ 4294967295 ∷ [])
    ≡ replicate 4 (done 18 (image 0 (one ∷ three ∷ []) ++ nines 2))
unfolding opened
details = refl

-- ---- "What each refusal says"

-- "the output beyond the image .. untouched", and 10, "output shorter than the next image": outputs of one more than the image's 28 bytes, as many,
-- one fewer
sizes_29_28_27 : map (λ k. called batch (5 ∷ []) (area (4 ∷ 5 ∷ 5 ∷ [])) (image 1 (four ∷ [])) (nines k)) (29 ∷ 28 ∷ 27 ∷ [])
    ≡ done 28 (image 1 (two ∷ three ∷ four ∷ []) ++ (9 ∷ []))
    ∷ done 28 (image 1 (two ∷ three ∷ four ∷ []))
    ∷ refused 10 (nines 27)
    ∷ []
unfolding opened
sizes_29_28_27 = refl

-- what the call's contract says of all this
next_says :
    NextSays batch (5 ∷ []) (1 ∷ 0 ∷ []) (area (4 ∷ 5 ∷ 5 ∷ [])) (image 1 (four ∷ [])) (nines 29)
    (Ok 28) (image 1 (two ∷ three ∷ four ∷ []) ++ (9 ∷ []))
    × NextSays batch (5 ∷ []) (1 ∷ 0 ∷ []) (area (4 ∷ 5 ∷ 5 ∷ [])) (image 1 (four ∷ [])) (nines 27) (Err refusal.TooShort) (nines 27)
unfolding opened
next_says = (record { answer = refl; bytes = refl }, record { answer = refl; bytes = refl })

-- the image of no programs: outputs of 6 and 5 bytes
sizes_6_5 : map (λ k. called batch (5 ∷ []) (area (4 ∷ 4 ∷ 4 ∷ [])) (image 1 []) (nines k)) (6 ∷ 5 ∷ [])
    ≡ done 6 (0 ∷ 0 ∷ 1 ∷ 0 ∷ 6 ∷ 0 ∷ []) ∷ refused 10 (nines 5) ∷ []
unfolding opened
sizes_6_5 = refl

-- 11, "carried plus fresh over 64": two carried and 62, 63 fresh; none carried and 64 fresh
abbrev programs : ℕ → List (List ℕ)
programs k = replicate k []

abbrev many : (states : List ℕ) → ℕ → Counted × List ℕ
many states k = called batch (5 ∷ []) (area states) (image 1 (programs k)) (nines 150)

many_64_65 : many (5 ∷ 5 ∷ 4 ∷ []) 62 ∷ many (5 ∷ 5 ∷ 4 ∷ []) 63 ∷ many (4 ∷ 4 ∷ 4 ∷ []) 64 ∷ many (4 ∷ 4 ∷ 5 ∷ []) 64 ∷ []
    ≡ done 146 (image 1 (one ∷ two ∷ programs 62) ++ nines 4)
    ∷ refused 11 (nines 150)
    ∷ done 134 (image 1 (programs 64) ++ nines 16)
    ∷ refused 11 (nines 150)
    ∷ []
unfolding opened
many_64_65 = refl

-- 9, "some state 0 or 1": the batch in which the second program has each of the six states
states_0_1 : map (λ s. next (4 ∷ s ∷ 4 ∷ []) (image 0 [])) (0 ∷ 1 ∷ 2 ∷ 3 ∷ 4 ∷ 5 ∷ [])
    ≡ refused 9 (nines 40)
    ∷ refused 9 (nines 40)
    ∷ done 6 (image 0 [] ++ nines 34)
    ∷ done 6 (image 0 [] ++ nines 34)
    ∷ done 6 (image 0 [] ++ nines 34)
    ∷ done 16 (image 0 (two ∷ []) ++ nines 24)
    ∷ []
unfolding opened
states_0_1 = refl

-- "Checks go .. for the next image: 1 to 7, 9, 21 to 24, 11, 10.", where 4 is 41 and 24 is 61, each with its place; each on a call that breaks all
-- that come after it too, as far as they can be broken together. "A refusal returns its number, 0 for every other result, and changes no lent
-- memory."
abbrev spoilt : ℕ → ℕ → List ℕ
spoilt rule k = image rule (programs k ++ (program (store 0 0 ∷ instruction 9 0 0 0 ∷ []) ∷ []))

-- fresh images: of five bytes; of a rule over 2; of a byte too many; with a bad instruction; with nothing wrong, but 64 programs
abbrev fresh_1 : List ℕ
fresh_1 = take 5 (spoilt 3 63)

abbrev fresh_2 : List ℕ
fresh_2 = spoilt 3 63 ++ (0 ∷ [])

abbrev fresh_3 : List ℕ
fresh_3 = spoilt 2 63 ++ (0 ∷ [])

abbrev fresh_4 : List ℕ
fresh_4 = spoilt 2 63

abbrev fresh_64 : List ℕ
fresh_64 = image 2 (programs 64)

-- areas: settled, the first program carried; not settled; and with a mark that names program 3
abbrev settled : List ℕ
settled = area (5 ∷ 4 ∷ 4 ∷ [])

abbrev unsettled : List ℕ
unsettled = set settled 2 1

abbrev overmarked : List ℕ
overmarked = set unsettled 0 4

row_order : called (take 5 (spoilt 3 2)) [] overmarked fresh_1 (9 ∷ [])
    ∷ called (spoilt 3 2 ++ (0 ∷ [])) [] overmarked fresh_1 (9 ∷ [])
    ∷ called (spoilt 2 2 ++ (0 ∷ [])) [] overmarked fresh_1 (9 ∷ [])
    ∷ called (spoilt 2 2) [] overmarked fresh_1 (9 ∷ [])
    ∷ called batch [] overmarked fresh_1 (9 ∷ [])
    ∷ called batch (5 ∷ []) (overmarked ++ (0 ∷ [])) fresh_1 (9 ∷ [])
    ∷ called batch (5 ∷ []) overmarked fresh_1 (9 ∷ [])
    ∷ called batch (5 ∷ []) unsettled fresh_1 (9 ∷ [])
    ∷ called batch (5 ∷ []) settled fresh_1 (9 ∷ [])
    ∷ called batch (5 ∷ []) settled fresh_2 (9 ∷ [])
    ∷ called batch (5 ∷ []) settled fresh_3 (9 ∷ [])
    ∷ called batch (5 ∷ []) settled fresh_4 (9 ∷ [])
    ∷ called batch (5 ∷ []) settled fresh_64 (9 ∷ [])
    ∷ called batch (5 ∷ []) settled (image 2 []) (9 ∷ [])
    ∷ []
    ≡ map (λ r. refused_with r (9 ∷ [])) (
    map refusing (1 ∷ 2 ∷ 3 ∷ [])
    ++ (refusing_at 41 2 1 ∷ map refusing (5 ∷ 6 ∷ 7 ∷ 9 ∷ 21 ∷ 22 ∷ 23 ∷ []))
    ++ (refusing_at 61 63 1 ∷ refusing 11 ∷ refusing 10 ∷ []))
unfolding opened
row_order = refl

-- 14 after 5, before 6: guards of a word too many, where the area has a word too many and all the rest is broken too
guards_too_long : NextSays batch (5 ∷ []) (1 ∷ 0 ∷ 0 ∷ []) (overmarked ++ (0 ∷ [])) fresh_1 (9 ∷ []) (Err refusal.Guards) (9 ∷ [])
    × NextSays batch [] (1 ∷ 0 ∷ 0 ∷ []) (overmarked ++ (0 ∷ [])) fresh_1 (9 ∷ []) (Err refusal.TableSize) (9 ∷ [])
unfolding opened
guards_too_long = (record { answer = refl; bytes = refl }, record { answer = refl; bytes = refl })
