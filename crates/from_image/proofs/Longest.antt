-- No sheet of an image has more bytes than the longest: the line of a good instruction is at most that of a skip that lands inside. The image's members
-- are bytes. Assumes nothing.
use mathlib.Core.Path.{◌≡◌, refl, sym, ap, ◌∙◌}
use mathlib.Core.Logic.{◌⊎◌, inl, inr}
use mathlib.Core.Bool.{Bool, true, false, ◌&&◌}
use mathlib.Core.List.{List}
use Prim.Native.Nat.{ℕ, zero, suc, ◌+◌, ◌*◌, ◌≤◌, ◌<◌, min}
use native.Mathlib.Omega.{arith}
use lib.Dec.{ltb, leb}
use Rattle.std.specs.Prelude.{Err}
use lib.ListN.{length, get_or, length-append}
use borrow.Author.Tests.{ltb-true, ltb-false, leb-true, le-leb, eqb-true}
use Rattle.base.specs.Words.{every}
use Rattle.base.proofs.Bools.{and_both}
use Rattle.base.proofs.Bools as bools
use Rattle.base.proofs.Numbers.{every_at}
use Rattle.text.specs.Decimal.{decimal}
use Rattle.text.specs.Filled.{texts}
use Rattle.text.proofs.Decimals.{length_small, byte_short, pair_short}
use Rattle.text.proofs.Fillings.{texts_short}
use Rattle.image.specs.Limits.{max_instructions, registers}
use Rattle.image.specs.Instruction.{Kind, register, unused, skip, free, rows, known, kinds_of, register_good, unused_good, skip_good, instructions_of}
use Rattle.image.specs.Image.{count_of, rule_byte, part_of, refusal_of, image_checks}
use Rattle.image.specs.declared.refusals.Refusal.TheVariants.{Image, TooShort}
use Rattle.image.specs.Refusals.{passed}
use Rattle.image.proofs.Faults.{GoodBytes, good_at}
use Rattle.image.proofs.Laws.{accepted, part_bytes}
use Rattle.image.proofs.Refusing.{either, none_after, passed_given, given_passed, given_refused, goes_on, first_refuses, first_passes, unless_either}
use Rattle.sheet.specs.Answers.{numbers_of_written, as_written}
use Rattle.writer.proofs.Again.{small_rule}
use Rattle.sheet.specs.Sheet.{operations, names, name_of, sheet_text}
use Rattle.from_image.specs.FromImage.{instruction_at, program_lines, sheet_of_image, sheet_of_refusal, sheet_of_answer}
use Rattle.from_image.specs.Typing.{Good}
use Rattle.from_image.specs.Longest.{far_line, near_line, far_lines, longest_program, longest_sheet}
use Rattle.from_image.proofs.Lines.{instruction_length}
use Rattle.from_image.proofs.Sheets.{instruction_text, program_text, first_texts, programs_texts, length_program, length_sheet_of, good_programs}

-- ---- a good instruction's line

-- a line at place i that has n bytes: at most those of a far skip, and where a skip cannot be far those of a near one
record Short (i n : ℕ) : Type 0 where
  pub far : n ≤ far_line
  pub near : far_lines ≤ i → n ≤ near_line

all_three : (p q r : Bool) → p && q && r ≡ true → (p ≡ true) × (q ≡ true) × (r ≡ true)
all_three p q r e = let x = and_both (p && q) r e in let y = and_both p q x.0 in (y.0, y.1, x.1)

-- the digits that a byte can have by its kind, where a skip's length has so many
width : (digits : ℕ) → Kind → ℕ
width digits register = 1
width digits unused = 1
width digits skip = digits
width digits free = 3

-- by the table, the longest lines: each row's name, its bytes, three spaces and the newline
row_length : (digits op : ℕ) → ℕ
row_length digits op = length (name_of op) + width digits (kinds_of op).a + width digits (kinds_of op).b + width digits (kinds_of op).c + 4

rows_far : every operations (λ op. leb (row_length 2 op) far_line) ≡ true
unfolding every row_length width kinds_of rows name_of names
rows_far = refl

rows_near : every operations (λ op. leb (row_length 1 op) near_line) ≡ true
unfolding every row_length width kinds_of rows name_of names
rows_near = refl

module _ (i m digits : ℕ) (skip-digits : (x : ℕ) → i + 1 + x ≤ m → length (decimal x) ≤ digits) where
  byte_width : (k : Kind) (x : ℕ) → x < 256 → register_good k x ≡ true → unused_good k x ≡ true → skip_good i m k x ≡ true → length (decimal x) ≤ width digits k
  unfolding width register_good unused_good skip_good
  byte_width register x low r u s = omega (arith, length_small x (omega (arith, ltb-true x registers r)))
  byte_width unused x low r u s = omega (arith, length_small x (omega (arith, eqb-true x 0 u)))
  byte_width skip x low r u s = skip-digits x (leb-true (i + 1 + x) m s)
  byte_width free x low r u s = byte_short x low

  line_width : (op a b c : ℕ) → a < 256 → b < 256 → c < 256 → GoodBytes op a b c i m
      → length (name_of op) + length (decimal a) + length (decimal b) + length (decimal c) + 4 ≤ row_length digits op
  unfolding row_length
  line_width op a b c low-a low-b low-c g =
      let k = kinds_of op in
      let r = all_three (register_good k.a a) (register_good k.b b) (register_good k.c c) g.registers in
      let u = all_three (unused_good k.a a) (unused_good k.b b) (unused_good k.c c) g.unused in
      let s = all_three (skip_good i m k.a a) (skip_good i m k.b b) (skip_good i m k.c c) g.skips in
      omega (arith, byte_width k.a a low-a r.0 u.0 s.0, byte_width k.b b low-b r.1 u.1 s.1, byte_width k.c c low-c r.2 u.2 s.2)

instruction_short : (op a b c i m : ℕ) → a < 256 → b < 256 → c < 256 → m ≤ max_instructions → GoodBytes op a b c i m
    → Short i (length (name_of op) + length (decimal a) + length (decimal b) + length (decimal c) + 4)
unfolding known rows
instruction_short op a b c i m low-a low-b low-c few g =
    let h = ltb-true op operations g.operation in
    record {
      far =
          let most : row_length 2 op ≤ far_line = leb-true _ _ (every_at operations (λ op. leb (row_length 2 op) far_line) rows_far op h) in
          omega (arith, line_width i m 2 (λ x l. pair_short x (omega (arith, l))) op a b c low-a low-b low-c g, most);
      near = λ late.
          let most : row_length 1 op ≤ near_line = leb-true _ _ (every_at operations (λ op. leb (row_length 1 op) near_line) rows_near op h) in
          omega (arith, line_width i m 1 (λ x l. omega (arith, length_small x (omega (arith, l)))) op a b c low-a low-b low-c g, most);
    }

-- ---- the lines of a program

-- the first of them have a byte more
lines_short : (f : ℕ → List ℕ) (n : ℕ) → ((i : ℕ) → i < n → Short i (length (f i))) → length (texts f n) ≤ near_line * n + min n far_lines
unfolding texts
lines_short f zero h = omega arith
lines_short f (suc n) h = rw length-append (go (bools.known (ltb n far_lines)) (lines_short f n (λ i l. h i (omega arith))) (h n (omega arith)))
  where
    go : (ltb n far_lines ≡ true) ⊎ (ltb n far_lines ≡ false) → length (texts f n) ≤ near_line * n + min n far_lines → Short n (length (f n))
        → length (texts f n) + length (f n) ≤ near_line * suc n + min (suc n) far_lines
    go (inl e) ih s = omega (arith, ltb-true n far_lines e, ih, s.far)
    go (inr e) ih s = let l = ltb-false n far_lines e in omega (arith, l, ih, s.near l)

module _ (program : List ℕ) (bytes : (i : ℕ) → get_or program i 0 < 256) (good : Good program) where
  line_short : (i : ℕ) → i < instructions_of program → Short i (length (instruction_text program i))
  line_short i l =
      let few : instructions_of program ≤ max_instructions = omega (arith, good.short) in
      let e = instruction_length (instruction_at program i) in
      let s = instruction_short _ _ _ _ i (instructions_of program) (bytes _) (bytes _) (bytes _) few (good_at program good.code i l) in
      record { far = omega (arith, e, s.far); near = λ late. omega (arith, e, s.near late) }

  program_short : length (sheet_text (program_lines program)) ≤ longest_program
  program_short =
      omega (arith, length_program program, ap length (first_texts program (instructions_of program)), lines_short (instruction_text program) (instructions_of program) line_short, good.short)

-- ---- the programs of an image

module _ (image : List ℕ) (bytes : (i : ℕ) → get_or image i 0 < 256) where
  -- "for every accepted image": its sheet has at most so many bytes
  pub sheet_short : refusal_of image ≡ passed → length (sheet_of_image image) ≤ longest_sheet
  unfolding longest_sheet
  sheet_short none =
      let p = good_programs image refl none in
      let n = count_of image in
      let t = texts_short (program_text image) n longest_program (λ k l. program_short (part_of image k) (part_bytes image bytes k) (p.good k l)) in
      let rule = length_small (rule_byte image) (omega (arith, small_rule image (accepted image none))) in
      omega (arith, length_sheet_of image refl refl, ap length (programs_texts image n), t, rule, p.few)

  -- so that an output of this many bytes is never too short
  pub never_too_short : (out : List ℕ) → longest_sheet ≤ length out → sheet_of_refusal image out ≡ image_checks image
  unfolding sheet_of_refusal
  never_too_short out room =
      either (λ r. refusal_of image ≡ r → sheet_of_refusal image out ≡ image_checks image) (refusal_of image)
      (λ none same.
      let fits = le-leb (length (sheet_of_image image)) (length out) (omega (arith, sheet_short none)) in
      let checked = given_passed Image none in
      sym (first_passes refl checked (goes_on TooShort fits checked)))
      (λ r bad same. let e = given_refused Image bad in sym (first_refuses _ refl e) ∙ sym e)
      refl

  -- a length that is answered is a sheet's
  pub sheet_small : (out : List ℕ) → (numbers_of_written (as_written (sheet_of_answer image out))).length ≤ longest_sheet
  unfolding sheet_of_answer sheet_of_refusal
  sheet_small out =
      unless_either (λ x. (numbers_of_written (as_written x)).length ≤ longest_sheet) (sheet_of_refusal image out) Err _ (λ r e. omega arith)
      (λ e. sheet_short (passed_given Image (refusal_of image) (none_after (image_checks image) _ e).0))
