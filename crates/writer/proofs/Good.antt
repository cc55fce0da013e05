-- The image of good programs is a good image, and has these programs. Assumes nothing.
use mathlib.Core.Path.{◌≡◌, refl, sym, ap, ◌∙◌}
use mathlib.Core.Bool.{true}
use mathlib.Core.List.{List, [], ◌∷◌, ◌++◌, append_assoc}
use Prim.Native.Nat.{ℕ, zero, suc, ◌+◌, ◌*◌, ◌/◌, ◌%◌, ◌≤◌, ◌<◌}
use native.Mathlib.Omega.{arith}
use native.Mathlib.Numerals.{add-one}
use lib.Dec.{leb, eqb}
use lib.ListN.{length, get_or, take, drop, length-append, take-append-drop}
use lib.Seq.{get_or_at, get_or-append-add, drop_at, drop-cons, take-suc, take-append_seam, take-length}
use borrow.Author.Tests.{le-leb, eq-eqb}
use Rattle.base.specs.Words.{every, words}
use Rattle.base.proofs.Bools.{both_and}
use Rattle.base.proofs.Numbers.{every_from}
use Rattle.image.specs.Limits.{max_programs, instruction_bytes, max_program_bytes, head_bytes, min_bytes, max_bytes}
use Rattle.image.specs.Refusals.{passed}
use Rattle.image.specs.Instruction.{program_good}
use Rattle.image.specs.Image.{byte_at, number_at, count_of, rule_byte, offset_of, bytes_of, part_of}
use Rattle.image.specs.Image.{size_good, header_good, header_of, rises, whole, short, extent_good, extents_good, holds_offsets, first_good, last_good, offsets_good, code_good, refusal_of}
use Rattle.image.proofs.Laws.{accepted_is}
use Rattle.writer.specs.Joined.{number, joined, ends, offsets, image_of}
use Rattle.writer.specs.Picked.{picked, all_of}
use Rattle.writer.proofs.Programs.{joined_append, length_joined, length_ends, length_number, joined_none, length_image, picked_none, picked_more, pick_in}

-- ---- a number that stands in a list

bytes_back : (v : ℕ) → v < 65536 → v % 256 + 256 * (v / 256 % 256) ≡ v
bytes_back v h = omega arith

number_at_lem : (a b l : List ℕ) (v k : ℕ) → l ≡ a ++ (number v ++ b) → length a ≡ k → v < 65536 → number_at l k ≡ v
unfolding number_at number
number_at_lem a b l v k f e h =
    let x : get_or (a ++ (number v ++ b)) k 0 ≡ v % 256 = get_or_at a (v % 256) (v / 256 % 256 ∷ b) 0 k e in
    let y : get_or (a ++ (number v ++ b)) (k + 1) 0 ≡ v / 256 % 256 = rw (← e) (get_or-append-add a (v % 256 ∷ v / 256 % 256 ∷ b) 1 0) in
    rw (f, x, y) (bytes_back v h)

-- ---- the offsets

record Stands (l : List ℕ) (k v : ℕ) : Type 0 where
  pub front : List ℕ
  pub back : List ℕ
  pub is : l ≡ front ++ (number v ++ back)
  pub at : length front ≡ k

end_at : (start : ℕ) (xs : List (List ℕ)) (i : ℕ) → i ≤ length xs → Stands (number start ++ ends start xs) (2 * i) (start + length (joined (take i xs)))
unfolding ends joined
end_at start xs zero h = record { front = []; back = ends start xs; is = let e : start + 0 ≡ start = omega arith in rw e; at = refl }
end_at start [] (suc i) h = absurd (omega arith)
end_at start (p ∷ xs) (suc i) h =
    let t = end_at (start + length p) xs i (omega arith) in
    let e : start + length (p ++ joined (take i xs)) ≡ start + length p + length (joined (take i xs)) = rw length-append (omega arith) in
    record {
      front = number start ++ t.front;
      back = t.back;
      is = rw (e, append_assoc (number start) t.front) (ap (λ (z : List ℕ). number start ++ z) t.is);
      at = rw (length-append, length_number) (omega (arith, t.at));
    }

-- a good program
pub record Fine (p : List ℕ) : Type 0 where
  pub whole_instructions : length p % instruction_bytes ≡ 0
  pub short : length p ≤ max_program_bytes
  pub code : program_good p ≡ true

abbrev pub All : List (List ℕ) → Type 0
All [] = Unit {0}
All (x ∷ xs) = Fine x × All xs

pub all_append : (xs ys : List (List ℕ)) → All xs → All ys → All (xs ++ ys)
all_append [] ys h k = k
all_append (x ∷ xs) ys h k = (h.0, all_append xs ys h.1 k)

all_at : (xs : List (List ℕ)) (i : ℕ) → All xs → i < length xs → Fine (get_or xs i [])
all_at [] i h l = absurd (omega arith)
all_at (x ∷ xs) zero h l = h.0
all_at (x ∷ xs) (suc i) h l = all_at xs i h.1 (omega arith)

all_short : (xs : List (List ℕ)) → All xs → length (joined xs) ≤ max_program_bytes * length xs
unfolding joined
all_short [] h = omega arith
all_short (x ∷ xs) h = rw length-append (omega (arith, h.0.short, all_short xs h.1))

joined_split : (xs : List (List ℕ)) (i : ℕ) → i < length xs → joined xs ≡ joined (take i xs) ++ (get_or xs i [] ++ joined (drop (suc i) xs))
unfolding joined
joined_split xs i h =
    ap joined (sym (take-append-drop i xs)) ∙ joined_append (take i xs) (drop i xs)
    ∙ ap (λ (z : List (List ℕ)). joined (take i xs) ++ joined z) (drop-cons xs i [] h)

joined_next : (xs : List (List ℕ)) (i : ℕ) → i < length xs → length (joined (take (i + 1) xs)) ≡ length (joined (take i xs)) + length (get_or xs i [])
unfolding joined
joined_next xs i h = rw (add-one, take-suc xs i [] h, length_joined (take i xs) (get_or xs i [] ∷ []), length-append) (omega arith)

joined_part : (xs : List (List ℕ)) (i : ℕ) → length (joined (take i xs)) ≤ length (joined xs)
joined_part xs i = omega (arith, ap (λ (z : List (List ℕ)). length (joined z)) (take-append-drop i xs), length_joined (take i xs) (drop i xs))

-- ---- the image of the programs xs

module _ (rule : ℕ) (xs : List (List ℕ)) (few : length xs ≤ max_programs) (fine : All xs) where
  size : length (image_of rule xs) ≤ max_bytes
  size = omega (arith, length_image rule xs, all_short xs fine)

  pub image_count : count_of (image_of rule xs) ≡ length xs
  unfolding image_of
  image_count =
      number_at_lem [] ((rule ∷ 0 ∷ []) ++ offsets xs ++ joined xs) (image_of rule xs) (length xs) 0 (simp append_assoc) refl (omega arith)

  pub image_rule : rule_byte (image_of rule xs) ≡ rule
  unfolding image_of number
  image_rule = refl

  image_zero : byte_at (image_of rule xs) 3 ≡ 0
  unfolding image_of number
  image_zero = refl

  offset_at_lem : (i : ℕ) → i ≤ length xs → offset_of (image_of rule xs) i ≡ head_bytes (length xs) + length (joined (take i xs))
  unfolding image_of offsets
  offset_at_lem i h =
      let t = end_at (head_bytes (length xs)) xs i h in
      let H : List ℕ = number (length xs) ++ (rule ∷ 0 ∷ []) in
      let e : image_of rule xs ≡ (H ++ t.front) ++ (number (head_bytes (length xs) + length (joined (take i xs))) ++ (t.back ++ joined xs)) =
      ap (λ (z : List ℕ). H ++ z ++ joined xs) t.is ∙ simp append_assoc in
      number_at_lem (H ++ t.front) (t.back ++ joined xs) (image_of rule xs) (head_bytes (length xs) + length (joined (take i xs))) (4 + 2 * i) e
      (simp (length-append, length_number) (omega (arith, t.at)))
      (omega (arith, size, length_image rule xs, joined_part xs i))

  bytes_at : (i : ℕ) → i < length xs → bytes_of (image_of rule xs) i ≡ length (get_or xs i [])
  bytes_at i h = omega (arith, offset_at_lem i (omega arith), offset_at_lem (i + 1) (omega arith), joined_next xs i h)

  pub image_part : (i : ℕ) → i < length xs → part_of (image_of rule xs) i ≡ get_or xs i []
  unfolding part_of words image_of offsets
  image_part i h =
      let H : List ℕ = number (length xs) ++ (rule ∷ 0 ∷ []) ++ offsets xs in
      let l : length H ≡ head_bytes (length xs) = simp (length-append, length_number, length_ends) (omega arith) in
      let x : List ℕ = get_or xs i [] in
      let e : image_of rule xs ≡ (H ++ joined (take i xs)) ++ (x ++ joined (drop (suc i) xs)) =
      ap (λ (z : List ℕ). H ++ z) (joined_split xs i h) ∙ sym (append_assoc H (joined (take i xs)) (x ++ joined (drop (suc i) xs))) in
      let o : length (H ++ joined (take i xs)) ≡ offset_of (image_of rule xs) i = rw (length-append, l) (sym (offset_at_lem i (omega arith))) in
      ap (λ (k : ℕ). take k (drop (offset_of (image_of rule xs) i) (image_of rule xs))) (bytes_at i h)
      ∙ ap (λ (z : List ℕ). take (length x) (drop (offset_of (image_of rule xs) i) z)) e
      ∙ ap (take (length x)) (drop_at (H ++ joined (take i xs)) (x ++ joined (drop (suc i) xs)) (offset_of (image_of rule xs) i) o)
      ∙ take-append_seam x (joined (drop (suc i) xs))

  size_good_lem : size_good (image_of rule xs) ≡ true
  unfolding size_good
  size_good_lem = both_and (le-leb min_bytes (length (image_of rule xs)) (omega (arith, length_image rule xs))) (le-leb (length (image_of rule xs)) max_bytes size)

  header_good_lem : rule ≤ 2 → header_good (header_of (image_of rule xs)) ≡ true
  unfolding header_good
  header_good_lem h =
      let im = image_of rule xs in
      let a : leb (count_of im) max_programs ≡ true = le-leb (count_of im) max_programs (omega (arith, image_count)) in
      let b : leb (rule_byte im) 2 ≡ true = le-leb (rule_byte im) 2 (omega (arith, image_rule)) in
      let d : eqb (byte_at im 3) 0 ≡ true = eq-eqb (byte_at im 3) 0 image_zero in
      both_and (both_and a b) d

  extent_good_lem : (i : ℕ) → i < length xs → extent_good (image_of rule xs) i ≡ true
  unfolding extent_good
  extent_good_lem i h =
      let im = image_of rule xs in
      let f = all_at xs i fine h in
      let a : rises im i ≡ true = le-leb (offset_of im i) (offset_of im (i + 1)) (omega (arith, offset_at_lem i (omega arith), offset_at_lem (i + 1) (omega arith), joined_next xs i h)) in
      let b : whole im i ≡ true = eq-eqb (bytes_of im i % instruction_bytes) 0 (ap (λ (k : ℕ). k % instruction_bytes) (bytes_at i h) ∙ f.whole_instructions) in
      let d : short im i ≡ true = le-leb (bytes_of im i) max_program_bytes (omega (arith, bytes_at i h, f.short)) in
      both_and (both_and a b) d

  offsets_good_lem : offsets_good (image_of rule xs) ≡ true
  unfolding offsets_good extents_good
  offsets_good_lem =
      let im = image_of rule xs in
      let n = count_of im in
      let a : holds_offsets im ≡ true = le-leb (head_bytes n) (length im) (omega (arith, image_count, length_image rule xs)) in
      let b : first_good im ≡ true = eq-eqb (offset_of im 0) (head_bytes n) (omega (arith, offset_at_lem 0 (omega arith), image_count, ap length joined_none)) in
      let d : every n (λ p. extent_good im p) ≡ true = every_from n (λ p. extent_good im p) (λ i l. extent_good_lem i (omega (arith, image_count))) in
      let g : last_good im ≡ true =
      eq-eqb (offset_of im n) (length im) (ap (offset_of im) image_count ∙ offset_at_lem (length xs) (omega arith)
      ∙ ap (λ (z : List (List ℕ)). head_bytes (length xs) + length (joined z)) (take-length xs) ∙ omega (arith, length_image rule xs)) in
      both_and (both_and (both_and a b) d) g

  code_good_lem : code_good (image_of rule xs) ≡ true
  unfolding code_good
  code_good_lem =
      every_from (count_of (image_of rule xs)) (λ p. program_good (part_of (image_of rule xs) p))
      (λ i l. let h : i < length xs = omega (arith, image_count) in ap program_good (image_part i h) ∙ (all_at xs i fine h).code)

  pub image_good : rule ≤ 2 → refusal_of (image_of rule xs) ≡ passed
  image_good h = sym (accepted_is (image_of rule xs) (record { size = size_good_lem; header = header_good_lem h; offsets = offsets_good_lem; code = code_good_lem }))

  -- its programs are xs, in their order
  pub image_programs : all_of (image_of rule xs) ≡ xs
  image_programs = ap (picked (λ k. true) (image_of rule xs)) image_count ∙ go (length xs) (omega arith) ∙ take-length xs
    where
      go : (k : ℕ) → k ≤ length xs → picked (λ k. true) (image_of rule xs) k ≡ take k xs
      go zero h = picked_none _ _
      go (suc k) h =
          ap (picked (λ k. true) (image_of rule xs)) (sym (add-one k))
          ∙ picked_more (λ k. true) (image_of rule xs) k
          ∙ rw (go k (omega arith), pick_in (λ k. true) (image_of rule xs) k refl, image_part k (omega arith), take-suc xs k [] (omega arith))
