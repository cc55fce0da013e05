-- An image that is accepted is written again as it is: from its rule byte and its programs the writer makes that very image, where its members are bytes.
-- Each piece that is written is the part of the image that stands there. Assumes nothing.
use mathlib.Core.Path.{◌≡◌, refl, sym, ap, ◌∙◌}
use mathlib.Core.Bool.{Bool, true, false, cond, ◌&&◌}
use mathlib.Core.List.{List, [], ◌∷◌, ◌++◌}
use Prim.Native.Nat.{ℕ, zero, suc, ◌+◌, ◌*◌, ◌/◌, ◌%◌, ◌≤◌, ◌<◌}
use native.Mathlib.Omega.{arith}
use native.Mathlib.Numerals.{add-one}
use lib.Dec.{leb, eqb}
use lib.ListN.{length, get_or, take, drop, length-append}
use lib.Seq.{take-add, drop-drop, drop-cons}
use borrow.Author.Tests.{leb-true, eqb-true}
use Rattle.base.specs.Words.{words}
use Rattle.base.proofs.Bools.{and_both, and_left, and_right}
use Rattle.base.proofs.Counts.{count_all}
use Rattle.base.proofs.Numbers.{every_at}
use Rattle.base.proofs.Parts.{words_length}
use Rattle.base.proofs.Joins.{words_all}
use Rattle.image.specs.Limits.{max_programs, min_bytes, head_bytes}
use Rattle.image.specs.Instruction.{program_good}
use Rattle.image.specs.Image.{byte_at, number_at, count_of, rule_byte, offset_of, bytes_of, part_of, header_good, offsets_good}
use Rattle.image.specs.Image.{holds_offsets, first_good, extents_good, last_good, code_good}
use Rattle.image.proofs.Laws.{Accepted, lies, part_short, part_whole}
use Rattle.writer.specs.Joined.{number, joined, ends, offsets, image_of}
use Rattle.writer.specs.Picked.{pick, picked, all_of}
use Rattle.writer.proofs.Good.{Fine, All, all_append}
use Rattle.writer.proofs.Programs.{joined_append, joined_one, ends_append, ends_one, picked_count, pick_in}

-- ---- what an image that is accepted has: a rule, and good programs

pub small_rule : (image : List ℕ) → Accepted image → rule_byte image ≤ 2
unfolding header_good
small_rule image good =
    leb-true (rule_byte image) 2
    (and_right (leb (count_of image) max_programs) (leb (rule_byte image) 2)
    (and_left (leb (count_of image) max_programs && leb (rule_byte image) 2) (eqb (byte_at image 3) 0) good.header))

pub part_fine : (image : List ℕ) → Accepted image → (i : ℕ) → i < count_of image → Fine (part_of image i)
unfolding code_good
part_fine image good i below = record {
  whole_instructions = part_whole image good.offsets i below;
  short = part_short image good.offsets i below;
  code = every_at (count_of image) (λ q. program_good (part_of image q)) good.code i below;
}

pub picked_fine : (test : ℕ → Bool) (image : List ℕ) → Accepted image → (k : ℕ) → k ≤ count_of image → All (picked test image k)
unfolding picked pick
picked_fine test image good zero h = tt
picked_fine test image good (suc k) h = all_append (picked test image k) (pick test image k) (picked_fine test image good k (omega arith)) (go (test k))
  where
    go : (b : Bool) → All (cond b (part_of image k ∷ []) [])
    go true = (part_fine image good k (omega arith), tt)
    go false = tt

-- as many as it counts
pub all_count : (image : List ℕ) → length (all_of image) ≡ count_of image
all_count image = picked_count (λ k. true) image (count_of image) ∙ count_all (λ k. true) (count_of image) (λ i l. refl)

-- ---- parts of a list

-- one part and the next are one part
words_both : (at n m : ℕ) (xs : List ℕ) → words at n xs ++ words (at + n) m xs ≡ words at (n + m) xs
unfolding words
words_both at n m xs = ap (λ (ys : List ℕ). take n (drop at xs) ++ take m ys) (sym (drop-drop n at xs)) ∙ sym (take-add n m (drop at xs))

words_then : (at n m next sum : ℕ) (xs : List ℕ) → at + n ≡ next → n + m ≡ sum → words at n xs ++ words next m xs ≡ words at sum xs
words_then at n m next sum xs p q = rw (← p, ← q) (words_both at n m xs)

words_two : (at : ℕ) (xs : List ℕ) → at + 2 ≤ length xs → words at 2 xs ≡ get_or xs at 0 ∷ get_or xs (at + 1) 0 ∷ []
unfolding words
words_two at xs h = rw (drop-cons xs at 0 (omega arith), add-one at, drop-cons xs (suc at) 0 (omega arith))

-- ---- a number that was read is written as it stands

number_back : (a b : ℕ) → a < 256 → b < 256 → number (a + 256 * b) ≡ a ∷ b ∷ []
unfolding number
number_back a b p q =
    let e : (a + 256 * b) % 256 ≡ a = omega arith in
    let f : (a + 256 * b) / 256 ≡ b = omega arith in
    let g : b % 256 ≡ b = omega arith in
    rw (e, f, g)

module _ (image : List ℕ) (bytes : (i : ℕ) → byte_at image i < 256) where
  number_again : (at : ℕ) → at + 2 ≤ length image → number (number_at image at) ≡ words at 2 image
  unfolding number_at
  number_again at h = number_back (byte_at image at) (byte_at image (at + 1)) (bytes at) (bytes (at + 1)) ∙ sym (words_two at image h)

  -- ---- the programs of an image that is accepted, one after another, and where each ends

  module _ (good : Accepted image) where
    facts : (head_bytes (count_of image) ≤ length image) × (offset_of image 0 ≡ head_bytes (count_of image)) × (offset_of image (count_of image) ≡ length image)
    unfolding offsets_good
    facts =
        let end = and_both (holds_offsets image && first_good image && extents_good image) (last_good image) good.offsets in
        let each = and_both (holds_offsets image && first_good image) (extents_good image) end.0 in
        let room = and_both (holds_offsets image) (first_good image) each.0 in
        (leb-true _ _ room.0, eqb-true _ _ room.1, eqb-true _ _ end.1)

    abbrev programs : ℕ → List (List ℕ)
    programs k = picked (λ j. true) image k

    programs_more : (k : ℕ) → programs (suc k) ≡ programs k ++ (part_of image k ∷ [])
    unfolding picked
    programs_more k = rw (pick_in (λ j. true) image k refl)

    -- program k is the bytes from its offset up to the next
    part_length : (k : ℕ) → k < count_of image → length (part_of image k) ≡ bytes_of image k
    unfolding part_of
    part_length k h =
        let l = lies image good.offsets k h in
        words_length (offset_of image k) (bytes_of image k) image (omega (arith, l.rise, l.within))

    part_end : (k : ℕ) → k < count_of image → offset_of image k + length (part_of image k) ≡ offset_of image (k + 1)
    part_end k h = omega (arith, part_length k h, (lies image good.offsets k h).rise)

    part_is : (k : ℕ) → k < count_of image → part_of image k ≡ words (offset_of image k) (length (part_of image k)) image
    unfolding part_of
    part_is k h = ap (λ (n : ℕ). words (offset_of image k) n image) (sym (part_length k h))

    -- the first k of them are the bytes from the first offset up to offset k, and their ends are the next k offsets
    record Stand (k : ℕ) : Type 0 where
      pub up_to : offset_of image 0 + length (joined (programs k)) ≡ offset_of image k
      pub bodies : joined (programs k) ≡ words (offset_of image 0) (length (joined (programs k))) image
      pub the_ends : ends (offset_of image 0) (programs k) ≡ words min_bytes (2 * k) image

    stand_none : Stand 0
    unfolding joined ends picked words
    stand_none = record { up_to = omega arith; bodies = refl; the_ends = refl }

    stand_next : (k : ℕ) → k < count_of image → Stand k → Stand (suc k)
    stand_next k h s =
        let part = part_of image k in
        let start = offset_of image 0 in
        let all : joined (programs (suc k)) ≡ joined (programs k) ++ part =
        ap joined (programs_more k) ∙ joined_append (programs k) (part ∷ []) ∙ ap (λ (z : List ℕ). joined (programs k) ++ z) (joined_one part) in
        let long : length (joined (programs (suc k))) ≡ length (joined (programs k)) + length part = ap length all ∙ length-append (joined (programs k)) part in
        let end : start + length (joined (programs k)) + length part ≡ offset_of image (k + 1) = omega (arith, s.up_to, part_end k h) in
        let place : 4 + 2 * (k + 1) + 2 ≤ length image = omega (arith, facts.0) in
        record {
          up_to = rw (long, ← add-one k) (omega (arith, end));
          bodies = all ∙ (λ i. s.bodies i ++ part_is k h i)
              ∙ words_then start (length (joined (programs k))) (length part) (offset_of image k) (length (joined (programs (suc k)))) image s.up_to (sym long);
          the_ends = ap (ends start) (programs_more k) ∙ ends_append start (programs k) (part ∷ [])
              ∙ (λ i. s.the_ends i ++ (ends_one (start + length (joined (programs k))) part ∙ ap number end ∙ number_again (4 + 2 * (k + 1)) place) i)
              ∙ words_then min_bytes (2 * k) 2 (4 + 2 * (k + 1)) (2 * suc k) image (omega arith) (omega arith);
        }

    stand : (k : ℕ) → k ≤ count_of image → Stand k
    stand zero h = stand_none
    stand (suc k) h = stand_next k h (stand k (omega arith))

    -- ---- the image

    byte_3 : byte_at image 3 ≡ 0
    unfolding header_good
    byte_3 = eqb-true _ _ (and_both (leb (count_of image) max_programs && leb (rule_byte image) 2) (eqb (byte_at image 3) 0) good.header).1

    head_is : number (length (all_of image)) ++ (rule_byte image ∷ 0 ∷ []) ≡ words 0 4 image
    head_is =
        let room : 4 ≤ length image = omega (arith, facts.0) in
        (λ i. (ap number (all_count image) ∙ number_again 0 (omega arith)) i ++ (ap (λ (b : ℕ). rule_byte image ∷ b ∷ []) (sym byte_3) ∙ sym (words_two 2 image room)) i)
        ∙ words_then 0 2 2 2 4 image refl refl

    offsets_are : offsets (all_of image) ≡ words 4 (2 + 2 * count_of image) image
    unfolding offsets
    offsets_are =
        let first : head_bytes (length (all_of image)) ≡ offset_of image 0 = ap head_bytes (all_count image) ∙ sym facts.1 in
        ap (λ (n : ℕ). number n ++ ends n (all_of image)) first
        ∙ (λ i. number_again 4 (omega (arith, facts.0)) i ++ (stand (count_of image) (omega arith)).the_ends i)
        ∙ words_then 4 2 (2 * count_of image) 6 (2 + 2 * count_of image) image refl refl

    pub again : image ≡ image_of (rule_byte image) (all_of image)
    unfolding image_of
    again =
        let n = count_of image in
        let s = stand n (omega arith) in
        let long = length (joined (all_of image)) in
        let whole : 4 + (2 + 2 * n) + long ≡ length image = omega (arith, s.up_to, facts.1, facts.2) in
        sym (
        (λ i. (head_is i ++ offsets_are i) ++ s.bodies i)
        ∙ ap (λ (z : List ℕ). z ++ words (offset_of image 0) long image) (words_then 0 4 (2 + 2 * n) 4 (4 + (2 + 2 * n)) image refl refl)
        ∙ words_then 0 (4 + (2 + 2 * n)) long (offset_of image 0) (length image) image (omega (arith, facts.1)) whole
        ∙ words_all (length image) image refl
        )
