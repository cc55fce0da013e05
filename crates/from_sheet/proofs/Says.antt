-- The checks of the call that reads a sheet: what its sizes show, and what the call answers and leaves. Assumes nothing.
use mathlib.Core.Path.{◌≡◌, refl, sym, ap, ◌∙◌}
use mathlib.Core.Bool.{true}
use mathlib.Core.List.{List, []}
use Prim.Native.Nat.{ℕ, ◌+◌, ◌*◌, ◌≤◌, ◌<◌}
use native.Mathlib.Omega.{arith}
use lib.Dec.{eqb, leb}
use lib.ListN.{length}
use borrow.Author.Tests.{leb-true, le-leb, lt-leb, eqb-true}
use Rattle.std.specs.Prelude.{Ok, Err}
use Rattle.text.specs.Writing.{PageSays}
use Rattle.text.proofs.Pages.{page_bytes}
use Rattle.image.specs.Limits.{max_programs, max_instructions, instruction_bytes, head_bytes, max_bytes}
use Rattle.image.specs.declared.refusals.ImageRefusal.TheVariants.{Header, Offsets}
use Rattle.image.specs.declared.refusals.Refusal.TheVariants.{TooShort}
use Rattle.image.specs.Refusals.{passed}
use Rattle.image.proofs.Refusing.{fails, goes_on, none_fails, first_refuses, first_passes, none_after, passed_given}
use Rattle.image.proofs.Refusing.{refused_as_lem, done_as, unless_either}
use Rattle.writer.proofs.Programs.{length_image}
use Rattle.sheet.specs.declared.Unwritten.{Unwritten}
use Rattle.sheet.specs.declared.Unwritten.TheVariants.{Refused, BadLine}
use Rattle.sheet.specs.Answers.{as_image, numbers_of_written}
use Rattle.sheet.specs.Sheet.{lines_of, bad_line, rule_of, leading, programs}
use Rattle.from_sheet.specs.declared.counting.Sizes.{Sizes}
use Rattle.from_sheet.specs.FromSheet.{programs_of, image_of_sheet, few_programs, short_programs, programs_fault, programs_refusal, sheet_refusal, image_of_refusal}
use Rattle.from_sheet.specs.FromSheet.{image_of_answer, image_of_output, ImageOfSays}
use Rattle.from_sheet.specs.Passes.{lines_from, tally, nothing, bodies, still_short, Readable, still_fault, Sized, Writable}
use Rattle.from_sheet.proofs.Passing.{lines_all}
use Rattle.from_sheet.proofs.Pieces.{all_bodies}
use Rattle.from_sheet.proofs.Sizing.{tally_programs, tally_bytes, tally_longest, nothing_leads, joined_short}
use Rattle.from_sheet.proofs.ReadPrograms.{all_faults, all_readable}

-- ---- what checks 51 to 44 show

-- every line is allowed, and the programs are not refused
pub sheet_shown : (sheet : List ℕ) → sheet_refusal sheet ≡ passed → (bad_line sheet ≡ 0) × (programs_refusal (programs_of sheet) ≡ passed)
unfolding sheet_refusal
sheet_shown sheet e =
    let a = none_fails (eqb (bad_line sheet) 0) (BadLine (bad_line sheet)) _ e in
    (eqb-true _ _ a.0, passed_given as_image (programs_refusal (programs_of sheet)) a.1)

programs_shown : (ps : List (List ℕ)) → programs_refusal ps ≡ passed → (few_programs ps ≡ true) × (short_programs ps ≡ true)
unfolding programs_refusal
programs_shown ps e =
    let a = none_fails (few_programs ps) Header _ e in
    let b = none_fails (short_programs ps) Offsets _ a.1 in
    (a.0, b.0)

-- the image is not too long
pub image_short : (sheet : List ℕ) → programs_refusal (programs_of sheet) ≡ passed → length (image_of_sheet sheet) ≤ max_bytes
unfolding image_of_sheet few_programs
image_short sheet e =
    let p = programs_shown (programs_of sheet) e in
    let ps = programs_of sheet in
    omega (arith, leb-true (length ps) max_programs p.0, joined_short ps p.1, length_image (rule_of (lines_of sheet)) ps)

-- ---- what the sizes of a sheet show

-- those that a survey finds are the sheet's, where every line is allowed
pub sized : {sheet : List ℕ} {s : Sizes} → bad_line sheet ≡ 0 → s ≡ tally nothing (lines_from 0 sheet) → Sized sheet s
sized {sheet} good e = record { sizes_are = e; nothing_leads = ap leading (lines_all sheet) ∙ nothing_leads sheet good }

module _ {sheet : List ℕ} {s : Sizes} (z : Sized sheet s) where
  same_programs : programs (lines_from 0 sheet) ≡ programs_of sheet
  same_programs = ap programs (lines_all sheet)

  pub program_count : s.programs ≡ length (programs (lines_from 0 sheet))
  program_count = ap (λ (x : Sizes). x.programs) z.sizes_are ∙ tally_programs nothing (lines_from 0 sheet) ∙ omega arith

  pub few_are : leb s.programs max_programs ≡ few_programs (programs_of sheet)
  unfolding few_programs
  few_are = ap (λ (n : ℕ). leb n max_programs) (program_count ∙ ap length same_programs)

  pub short_are : leb s.longest max_instructions ≡ short_programs (programs_of sheet)
  unfolding still_short
  short_are =
      ap (λ (x : Sizes). leb x.longest max_instructions) z.sizes_are
      ∙ tally_longest nothing [] (lines_from 0 sheet) (record { long = refl; within = omega arith })
      ∙ rw z.nothing_leads (ap short_programs same_programs)

  pub fault_is : still_fault 0 [] (lines_from 0 sheet) ≡ programs_fault (programs_of sheet)
  fault_is = all_faults (lines_from 0 sheet) z.nothing_leads ∙ ap programs_fault same_programs

  pub readable : few_programs (programs_of sheet) ≡ true → short_programs (programs_of sheet) ≡ true → Readable 0 [] (lines_from 0 sheet)
  unfolding few_programs
  readable few short =
      all_readable (lines_from 0 sheet) z.nothing_leads
      (leb-true (length (programs (lines_from 0 sheet))) max_programs (ap few_programs same_programs ∙ few)) (ap short_programs same_programs ∙ short)

  -- the image's length
  pub image_long : head_bytes s.programs + instruction_bytes * s.instructions ≡ length (image_of_sheet sheet)
  unfolding image_of_sheet
  image_long =
      let bytes : instruction_bytes * s.instructions ≡ length (bodies (lines_from 0 sheet)) =
      ap (λ (x : Sizes). instruction_bytes * x.instructions) z.sizes_are ∙ tally_bytes nothing (lines_from 0 sheet) ∙ omega arith in
      let ls = lines_from 0 sheet in
      rw (← lines_all sheet)
      (omega (arith, bytes, program_count, ap length (all_bodies ls z.nothing_leads), length_image (rule_of ls) (programs ls)))

  -- where checks 51 to 44 have passed, there are not too many, and the image can be written where it has room
  module _ (good : sheet_refusal sheet ≡ passed) where
    pub few_programs_lem : s.programs ≤ max_programs
    few_programs_lem = leb-true s.programs max_programs (few_are ∙ (programs_shown (programs_of sheet) (sheet_shown sheet good).1).0)

    pub writable : {out : List ℕ} → length (image_of_sheet sheet) ≤ length out → Writable sheet out s.programs
    writable h =
        record {
          count = program_count;
          few = few_programs_lem;
          nothing_leads = z.nothing_leads;
          short = image_short sheet (sheet_shown sheet good).1;
          room = record { fits = omega arith };
        }

-- ---- what the call says

module _ (sheet out : List ℕ) where
  pub refused_says : {r : Unwritten} → image_of_refusal sheet out ≡ Err r → ImageOfSays sheet out (Err r) out
  unfolding image_of_answer image_of_output
  refused_says e = record { answer = refused_as_lem Err _ refl e; output = refused_as_lem (λ r. out) _ refl e }

  pub sheet_refuses : {r : Unwritten} → sheet_refusal sheet ≡ Err r → image_of_refusal sheet out ≡ Err r
  unfolding image_of_refusal
  sheet_refuses e = sym (first_refuses _ refl e)

  module _ (good : sheet_refusal sheet ≡ passed) where
    pub too_short : length out < length (image_of_sheet sheet) → image_of_refusal sheet out ≡ Err (Refused TooShort)
    unfolding image_of_refusal
    too_short h = sym (first_passes refl good (fails _ (lt-leb (length (image_of_sheet sheet)) (length out) h)))

    pub done_says : length (image_of_sheet sheet) ≤ length out → {n : ℕ} {out' : List ℕ} → PageSays (image_of_sheet sheet) out n out'
        → ImageOfSays sheet out (Ok n) out'
    unfolding image_of_refusal image_of_answer image_of_output
    done_says h w =
        let fits = le-leb (length (image_of_sheet sheet)) (length out) h in
        let e : passed ≡ image_of_refusal sheet out = first_passes refl good (goes_on (Refused TooShort) fits refl) in
        record { answer = done_as Err e refl (ap Ok w.answer); output = done_as (λ r. out) e refl (page_bytes w) }

  -- a length that is answered is an image's
  pub image_small : (numbers_of_written (image_of_answer sheet out)).length ≤ max_bytes
  unfolding image_of_answer image_of_refusal
  image_small =
      unless_either (λ x. (numbers_of_written x).length ≤ max_bytes) (image_of_refusal sheet out) Err _ (λ r e. no_length r)
      (λ e. image_short sheet (sheet_shown sheet (none_after (sheet_refusal sheet) _ e).0).1)
    where
      no_length : (r : Unwritten) → (numbers_of_written (Err r)).length ≤ max_bytes
      no_length (Refused r) = omega arith
      no_length (BadLine k) = omega arith
