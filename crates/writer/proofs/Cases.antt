-- Document 01, "The image: counts and offsets", tried by computation on the definitions of an image that is written, sentence by sentence; and which
-- programs a mask takes. The numbers are literals. Assumes nothing.
use Prim.Native.Nat.{ℕ}
use mathlib.Core.Path.{◌≡◌, refl}
use mathlib.Core.List.{List, [], ◌∷◌, ◌++◌, map}
use lib.ListN.{length, take, drop, replicate}
use Rattle.base.specs.Masks.{has_bit}
use Rattle.image.specs.Refusals.{passed}
use Rattle.image.specs.Image.{refusal_of}
use Rattle.image.specs.Assembler.{program, fields, image, set, store}
use Rattle.writer.specs.Joined.{number, joined, ends, image_of}
use Rattle.writer.specs.Picked.{picked, all_of}
use Rattle.writer.specs.Writing.{header}
use Rattle.writer.specs.Opened.{opened}

-- "All numbers are 16 bits, low byte first."
low_byte_first : map number (0 ∷ 1 ∷ 255 ∷ 256 ∷ 513 ∷ 65535 ∷ [])
    ≡ (0 ∷ 0 ∷ []) ∷ (1 ∷ 0 ∷ []) ∷ (255 ∷ 0 ∷ []) ∷ (0 ∷ 1 ∷ []) ∷ (1 ∷ 2 ∷ []) ∷ (255 ∷ 255 ∷ []) ∷ []
unfolding opened
low_byte_first = refl

-- programs of 4, 0 and 8 bytes that can be told apart
abbrev one : List ℕ
one = program (set 0 7 ∷ [])

abbrev two : List ℕ
two = []

abbrev three : List ℕ
three = program (set 1 7 ∷ store 0 1 ∷ [])

-- "Bytes 0–1: program count n. Byte 2: rule .. Byte 3: 0. Then n+1 offsets.": of no program, of one that is empty, of the three
images : image_of 1 [] ∷ image_of 0 ([] ∷ []) ∷ image_of 2 (one ∷ two ∷ three ∷ []) ∷ []
    ≡ (0 ∷ 0 ∷ 1 ∷ 0 ∷ 6 ∷ 0 ∷ [])
    ∷ (1 ∷ 0 ∷ 0 ∷ 0 ∷ 8 ∷ 0 ∷ 8 ∷ 0 ∷ [])
    ∷ (3 ∷ 0 ∷ 2 ∷ 0 ∷ 12 ∷ 0 ∷ 16 ∷ 0 ∷ 16 ∷ 0 ∷ 24 ∷ 0 ∷ 1 ∷ 0 ∷ 0 ∷ 7 ∷ 1 ∷ 1 ∷ 0 ∷ 7 ∷ 3 ∷ 0 ∷ 1 ∷ 0 ∷ [])
    ∷ []
unfolding opened
images = refl

-- "The first offset is 2n+6 .. the last offset is the image's length.": of 64 programs of 128 bytes, offsets 134, 262, .. and 8326 = 32 × 256 + 134
abbrev full : List ℕ
full = image_of 2 (replicate 64 (program (replicate 32 (set 7 65535))))

largest : (length full ≡ 8326)
    × (take 8 full ≡ 64 ∷ 0 ∷ 2 ∷ 0 ∷ 134 ∷ 0 ∷ 6 ∷ 1 ∷ [])
    × (take 6 (drop 132 full) ≡ 134 ∷ 32 ∷ 1 ∷ 7 ∷ 255 ∷ 255 ∷ [])
    × (refusal_of full ≡ passed)
unfolding opened
largest = (refl, refl, refl, refl)

-- it is written in three pieces: the header with the first offset, where each program ends, and the programs one after another
pieces : (header 3 2 ≡ 3 ∷ 0 ∷ 2 ∷ 0 ∷ 12 ∷ 0 ∷ [])
    × (ends 12 (one ∷ two ∷ three ∷ []) ≡ 16 ∷ 0 ∷ 16 ∷ 0 ∷ 24 ∷ 0 ∷ [])
    × (joined (one ∷ two ∷ three ∷ []) ≡ one ++ three)
unfolding opened header
pieces = (refl, refl, refl)

-- ---- which programs are taken, "in number order"

abbrev source : List ℕ
source = image 1 (one ∷ two ∷ three ∷ [])

-- by the masks 0 (none), 1, 2, 4 (one each), 5, 7 (all), and 8, a program that is none of the three
by_mask : map (λ mask. picked (has_bit mask) source 3) (0 ∷ 1 ∷ 2 ∷ 4 ∷ 5 ∷ 7 ∷ 8 ∷ [])
    ≡ []
    ∷ (one ∷ [])
    ∷ (two ∷ [])
    ∷ (three ∷ [])
    ∷ (one ∷ three ∷ [])
    ∷ (one ∷ two ∷ three ∷ [])
    ∷ []
    ∷ []
unfolding opened has_bit
by_mask = refl

-- the last of 64, by the highest bit of a mask
last_of_64 : picked (has_bit 9223372036854775808) (image 0 (replicate 63 one ++ (three ∷ []))) 64 ≡ three ∷ []
unfolding opened has_bit
last_of_64 = refl

-- all of an image
all_taken : all_of source ∷ all_of (image 2 []) ∷ [] ≡ (one ∷ two ∷ three ∷ []) ∷ [] ∷ []
unfolding opened
all_taken = refl

-- also where another program's offset is bad: program 1 alone
one_of_a_damaged : picked (has_bit 2) (fields 2 1 0 (99 ∷ 14 ∷ 22 ∷ []) (one ++ three)) 2 ≡ three ∷ []
unfolding opened has_bit
one_of_a_damaged = refl

-- an image that is taken whole is written as it was
written_again : image_of 1 (all_of source) ≡ source
unfolding opened
written_again = refl
