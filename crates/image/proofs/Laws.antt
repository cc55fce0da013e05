-- Laws of the image's definitions: callers cite these and do not unfold. Assumes nothing.
use mathlib.Core.Path.{◌≡◌, refl, sym, ◌∙◌}
use mathlib.Core.Bool.{true, false, ◌&&◌}
use mathlib.Core.List.{List, [], ◌∷◌}
use Prim.Native.Nat.{ℕ, zero, suc, ◌+◌, ◌-◌, ◌%◌, ◌≤◌, ◌<◌}
use native.Mathlib.Nat.{add-zero, le_refl, le_trans, le_of_lt}
use native.Mathlib.Omega.{arith}
use borrow.Author.Tests.{leb-true, ltb-true, eqb-true}
use Rattle.std.specs.Prelude.{Err}
use lib.ListN.{length, get_or, take, drop}
use lib.Seq.{get_or-drop}
use lib.Dec.{leb, ltb, eqb}
use Rattle.base.specs.Words.{every, words}
use Rattle.base.proofs.Bools.{and_left, and_both}
use Rattle.base.proofs.Numbers.{every_at, every_none, every_more, every_false}
use Rattle.base.proofs.Parts.{words_length}
use Rattle.image.specs.Limits.{max_programs, instruction_bytes, max_program_bytes, head_bytes}
use Rattle.image.specs.declared.refusals.ImageRefusal.TheVariants as refused
use Rattle.image.specs.declared.refusals.Refusal.{Refusal}
use Rattle.image.specs.declared.refusals.Refusal.TheVariants as lent
use Rattle.image.specs.Refusals.{passed, passes, told, told_of_image, WellPlaced}
use Rattle.image.specs.Instruction.{instructions_of, program_fault, place_good, program_good}
use Rattle.image.specs.Image.{byte_at, count_of, rule_byte, header_of, offset_of, bytes_of, part_of, Lies, size_good, header_good}
use Rattle.image.specs.Image.{holds_offsets, first_good, rises, whole, short, extent_good, extents_good, last_good, offsets_good, code_good, code_refusal}
use Rattle.image.specs.Image.{refusal_of, image_checks, fresh_refusal_of, program_refusal_of, program_of, start_of, ProgramRefusalSays}
use Rattle.image.proofs.Refusing.{Checks, passed_is, goes_on, none_fails, none_after, is_passed, passed_given, given_passing, unless_refused, unless_done}
use Rattle.image.proofs.Places.{image_told_is, told_image_zero, told_well, told_image_well}
use Rattle.image.proofs.Faults.{code_passes, code_none, code_found}

-- ---- a program that lies in the image has as many bytes as its offsets say, and so at most 32 instructions of 4

lies_length : (image : List ℕ) (p : ℕ) → Lies image p → length (part_of image p) ≡ bytes_of image p
unfolding part_of
lies_length image p l = words_length (offset_of image p) (bytes_of image p) image (omega (arith, l.rise, l.within))

pub lies_short : (image : List ℕ) (p : ℕ) → Lies image p → length (part_of image p) ≤ max_program_bytes
lies_short image p l = omega (arith, lies_length image p l, l.short)

-- ---- check 3: the programs of an image lie inside it, one after another

module _ (image : List ℕ) (good : offsets_good image ≡ true) where
  -- there is room for the offsets, each program's extent is good, and the last offset is the image's length
  asked : (head_bytes (count_of image) ≤ length image) × ((p : ℕ) → p < count_of image → extent_good image p ≡ true)
      × (offset_of image (count_of image) ≡ length image)
  unfolding offsets_good extents_good
  asked =
      let end = and_both (holds_offsets image && first_good image && extents_good image) (last_good image) good in
      let each = and_both (holds_offsets image && first_good image) (extents_good image) end.0 in
      let room = and_both (holds_offsets image) (first_good image) each.0 in
      (leb-true _ _ room.0, every_at (count_of image) (λ p. extent_good image p) each.1, eqb-true _ _ end.1)

  extent : (p : ℕ) → p < count_of image
      → (offset_of image p ≤ offset_of image (p + 1)) × (bytes_of image p % instruction_bytes ≡ 0) × (bytes_of image p ≤ max_program_bytes)
  unfolding extent_good
  extent p l =
      let all = and_both (rises image p && whole image p) (short image p) (asked.1 p l) in
      let two = and_both (rises image p) (whole image p) all.0 in
      (leb-true _ _ two.0, eqb-true _ _ two.1, leb-true _ _ all.1)

  rise_by : (k p : ℕ) → p + k ≤ count_of image → offset_of image p ≤ offset_of image (p + k)
  rise_by zero p l = rw add-zero (le_refl _)
  rise_by (suc k) p l =
      let below : p + k < count_of image = omega arith in
      let step : offset_of image (p + k) ≤ offset_of image (p + k + 1) = (extent (p + k) below).0 in
      let e : p + suc k ≡ p + k + 1 = omega arith in
      rw e (le_trans (rise_by k p (le_of_lt below)) step)

  offsets_within : (p : ℕ) → p < count_of image → offset_of image (p + 1) ≤ length image
  offsets_within p l =
      let e : p + 1 + (count_of image - (p + 1)) ≡ count_of image = omega arith in
      rw (← asked.2) (rw e at (rise_by (count_of image - (p + 1)) (p + 1) (omega arith)))

  pub lies : (p : ℕ) → p < count_of image → Lies image p
  lies p l = record { stand = omega (arith, asked.0); rise = (extent p l).0; within = offsets_within p l; short = (extent p l).2 }

  pub part_short : (p : ℕ) → p < count_of image → length (part_of image p) ≤ max_program_bytes
  part_short p l = lies_short image p (lies p l)

  pub part_whole : (p : ℕ) → p < count_of image → length (part_of image p) % instruction_bytes ≡ 0
  part_whole p l = rw (lies_length image p (lies p l)) (extent p l).1

-- the members of a part are members of the whole, or 0
take_small : (most n : ℕ) (xs : List ℕ) → 0 < most → ((i : ℕ) → get_or xs i 0 < most) → (i : ℕ) → get_or (take n xs) i 0 < most
take_small most zero xs p h i = p
take_small most (suc n) [] p h i = p
take_small most (suc n) (x ∷ xs) p h zero = h 0
take_small most (suc n) (x ∷ xs) p h (suc i) = take_small most n xs p (λ j. h (suc j)) i

-- a program of an image that is bytes is bytes
pub part_bytes : (image : List ℕ) → ((i : ℕ) → get_or image i 0 < 256) → (k i : ℕ) → get_or (part_of image k) i 0 < 256
unfolding part_of words
part_bytes image bytes k =
    take_small 256 (bytes_of image k) (drop (offset_of image k) image) (omega arith) (λ i. rw get_or-drop (bytes (offset_of image k + i)))

-- ---- check 4: the first bad instruction, with its fault and its place

pub no_code_refusal : (image : List ℕ) (p : ℕ) → p ≡ count_of image → every p (λ q. program_good (part_of image q)) ≡ true → passed ≡ code_refusal image
unfolding code_refusal
no_code_refusal image p e h = code_none (part_of image) (count_of image) (rw e at h)

pub code_refused : (image : List ℕ) (p : ℕ) → p < count_of image → every p (λ q. program_good (part_of image q)) ≡ true → program_good (part_of image p) ≡ false
    → program_fault p (part_of image p) ≡ code_refusal image
unfolding code_refusal
code_refused image p l before bad = code_found (part_of image) (count_of image) p l before bad

pub program_bad : (part : List ℕ) (i : ℕ) → i < instructions_of part → place_good part i ≡ false → program_good part ≡ false
unfolding program_good
program_bad part i l bad = every_false (instructions_of part) (λ k. place_good part k) i l bad

pub program_good_lem : (part : List ℕ) (i : ℕ) → i ≡ instructions_of part → every i (λ k. place_good part k) ≡ true → program_good part ≡ true
unfolding program_good
program_good_lem part i e h = rw e at h

-- a loop over the programs and their instructions
pub ruleset program_by_program = (every_none, every_more, lies, part_short, program_good_lem, program_bad, no_code_refusal, code_refused)

-- it passes exactly where every instruction is good
pub code_good_is : (image : List ℕ) → passes (code_refusal image) ≡ code_good image
unfolding code_refusal code_good
code_good_is image = code_passes (part_of image) (count_of image)

pub code_at : (image : List ℕ) → code_good image ≡ true → (p : ℕ) → p < count_of image → (i : ℕ) → i < instructions_of (part_of image p)
    → place_good (part_of image p) i ≡ true
unfolding code_good program_good
code_at image good p l i h =
    every_at (instructions_of (part_of image p)) (λ k. place_good (part_of image p) k)
    (every_at (count_of image) (λ q. program_good (part_of image q)) good p l) i h

-- ---- what an image that is not refused has passed

pub record Accepted (image : List ℕ) : Type 0 where
  pub size : size_good image ≡ true
  pub header : header_good (header_of image) ≡ true
  pub offsets : offsets_good image ≡ true
  pub code : code_good image ≡ true

pub accepted : (image : List ℕ) → refusal_of image ≡ passed → Accepted image
unfolding refusal_of
accepted image e =
    let a = none_fails (size_good image) refused.Size _ e in
    let b = none_fails (header_good (header_of image)) refused.Header _ a.1 in
    let c = none_fails (offsets_good image) refused.Offsets _ b.1 in
    let code = passed_given refused.Instruction (code_refusal image) c.1 in
    record { size = a.0; header = b.0; offsets = c.0; code = sym (code_good_is image) ∙ is_passed code }

pub accepted_is : (image : List ℕ) → Accepted image → passed ≡ refusal_of image
unfolding refusal_of code_good
accepted_is image a =
    goes_on _ a.size
    (goes_on _ a.header
    (goes_on _ a.offsets
    (given_passing refused.Instruction (no_code_refusal image (count_of image) refl a.code) refl)))

-- by number
pub accepted_told : (image : List ℕ) → (told_of_image (refusal_of image)).number ≡ 0 → Accepted image
accepted_told image e = accepted image (told_image_zero (refusal_of image) e)

-- a fact of the numbers 1 to 3, 41 to 44 and 0 is one of its number
pub refusal_number : (P : ℕ → Type 0) → P 1 → P 2 → P 3 → P 41 → P 42 → P 43 → P 44 → P 0 → (image : List ℕ) → P (told_of_image (refusal_of image)).number
refusal_number P size header offsets operation register unused skip start image =
    image_told_is P size header offsets operation register unused skip start (refusal_of image)

-- which is at most 44
pub refusal_few : (image : List ℕ) → (told_of_image (refusal_of image)).number ≤ 44
refusal_few = refusal_number (λ n. n ≤ 44) (omega arith) (omega arith) (omega arith) (omega arith) (omega arith) (omega arith) (omega arith) (omega arith)

-- its place is meant
pub refusal_well : (image : List ℕ) → WellPlaced (told_of_image (refusal_of image))
refusal_well image = told_image_well (refusal_of image)

pub fresh_well : (image : List ℕ) → WellPlaced (told (fresh_refusal_of image))
fresh_well image = told_well (fresh_refusal_of image)

pub few_programs_lem : (image : List ℕ) → header_good (header_of image) ≡ true → count_of image ≤ max_programs
unfolding header_good
few_programs_lem image h =
    leb-true _ _
    (and_left (leb (count_of image) max_programs) (leb (rule_byte image) 2)
    (and_left (leb (count_of image) max_programs && leb (rule_byte image) 2) (eqb (byte_at image 3) 0) h))

-- ---- a program that is handed back

pub handed_back : (image : List ℕ) (p : ℕ) → program_refusal_of image p ≡ passed → (refusal_of image ≡ passed) × (p < count_of image)
unfolding program_refusal_of
handed_back image p e =
    let a = none_after (image_checks image) _ e in
    let b = none_fails (ltb p (count_of image)) lent.Number _ a.1 in
    (passed_given lent.Image (refusal_of image) a.0, ltb-true _ _ b.0)

pub handed_low : (image : List ℕ) (p : ℕ) → program_refusal_of image p ≡ passed → p < max_programs
handed_low image p e = let h = handed_back image p e in omega (arith, few_programs_lem image (accepted image h.0).header)

-- it is its part of the image, from its offset on; on a refusal it is empty
pub handed_part : (image : List ℕ) (p : ℕ) → program_refusal_of image p ≡ passed → (program_of image p ≡ part_of image p) × (start_of image p ≡ offset_of image p)
unfolding program_of start_of
handed_part image p e = (unless_done (program_refusal_of image p) _ _ e, unless_done (program_refusal_of image p) _ _ e)

pub handed_nothing : (image : List ℕ) (p : ℕ) {e : Refusal} → program_refusal_of image p ≡ Err e → (program_of image p ≡ []) × (start_of image p ≡ 0)
unfolding program_of start_of
handed_nothing image p h = (unless_refused (program_refusal_of image p) _ _ h, unless_refused (program_refusal_of image p) _ _ h)

-- all of this, where the code is told that nothing is refused
pub record Handed (image : List ℕ) (p : ℕ) : Type 0 where
  pub lies_there : Lies image p
  pub low : p < max_programs
  pub part : program_of image p ≡ part_of image p
  pub start : start_of image p ≡ offset_of image p

pub handed_when : (image : List ℕ) (p : ℕ) {r : Checks Refusal} → ProgramRefusalSays image p r → passes r ≡ true → Handed image p
handed_when image p {r} says ok =
    let found = sym says.answer ∙ passed_is r ok in
    let asked = handed_back image p found in
    let is = handed_part image p found in
    record {
      lies_there = lies image (accepted image asked.0).offsets p asked.1;
      low = handed_low image p found;
      part = is.0;
      start = is.1;
    }
