-- "A refusal returns its number, 0 for every other result, and changes no lent memory": of the two calls, where 51 returns its line too, and 41 to 44 program
-- and instruction. Assumes nothing.
use mathlib.Core.Path.{◌≡◌, refl, sym, ap}
use mathlib.Core.Bool.{Bool, true, false}
use mathlib.Core.List.{List}
use Prim.Native.Nat.{ℕ}
use lib.Dec.{leb}
use lib.ListN.{length}
use borrow.Author.Tests.{eq-eqb, ne_eqb}
use Rattle.std.specs.Prelude.{Ok, Err}
use Rattle.image.specs.declared.refusals.ImageRefusal.{ImageRefusal}
use Rattle.image.specs.declared.refusals.Refusal.{Refusal}
use Rattle.image.specs.declared.refusals.Refusal.TheVariants.{TooShort}
use Rattle.image.specs.declared.refusals.RefusalNumbers.{RefusalNumbers}
use Rattle.image.specs.Refusals.{passed, line, numbers_of, check, after, given_as, unless}
use Rattle.image.proofs.Refusing.{Checks, fails, first_refuses, unless_refused}
use Rattle.sheet.specs.declared.Unwritten.{Unwritten}
use Rattle.sheet.specs.declared.Unwritten.TheVariants.{Refused}
use Rattle.sheet.specs.Answers.{TextNumbers, as_image, told_of_sheet, numbers_of_written, as_written}
use Rattle.sheet.specs.Sheet.{bad_line}
use Rattle.from_sheet.specs.FromSheet.{programs_of, programs_refusal, image_of_sheet, sheet_refusal}
use Rattle.from_sheet.specs.FromSheet.{image_of_refusal, image_of_answer, image_of_output}
use Rattle.from_image.specs.FromImage.{sheet_of_refusal, sheet_of_answer, sheet_of_output}

-- a refusal with its place, and 51 with a line
abbrev pub refused_with : RefusalNumbers → (line : ℕ) → TextNumbers
refused_with r line = record { refusal = r; length = 0; line = line }

-- "51 the first line that its place does not allow .. with its number from 1"
pub bad_line_refused : (sheet out : List ℕ) → (bad_line sheet ≡ 0 → ⊥)
    → (numbers_of_written (image_of_answer sheet out) ≡ refused_with line (bad_line sheet)) × (image_of_output sheet out ≡ out)
unfolding image_of_answer image_of_output image_of_refusal sheet_refusal
bad_line_refused sheet out h =
    let e = sym (first_refuses _ refl (sym (fails _ (ne_eqb (bad_line sheet) 0 h)))) in
    (ap numbers_of_written (unless_refused (image_of_refusal sheet out) Err _ e), unless_refused (image_of_refusal sheet out) _ _ e)

-- any other refusal, which has no line
abbrev checks : Checks ImageRefusal → (fits : Bool) → Checks Unwritten
checks q fits = after (given_as as_image q) (check fits (Refused TooShort) passed)

no_line : (q : Checks ImageRefusal) (fits : Bool) {r : Unwritten} (n : ℕ) (written out : List ℕ) → checks q fits ≡ Err r
    → (numbers_of_written (unless (checks q fits) Err (Ok n)) ≡ refused_with (told_of_sheet (checks q fits)) 0)
    × (unless (checks q fits) (λ x. out) written ≡ out)
unfolding check after given_as unless
no_line (Ok done) true n written out e = absurd (cc)
no_line (Ok done) false n written out e = (refl, refl)
no_line (Err x) fits n written out e = (refl, refl)

pub image_of_refused : (sheet out : List ℕ) → bad_line sheet ≡ 0 → {r : Unwritten} → image_of_refusal sheet out ≡ Err r
    → (numbers_of_written (image_of_answer sheet out) ≡ refused_with (told_of_sheet (image_of_refusal sheet out)) 0)
    × (image_of_output sheet out ≡ out)
unfolding image_of_answer image_of_output image_of_refusal sheet_refusal check
image_of_refused sheet out good e =
    let all = eq-eqb (bad_line sheet) 0 good in
    rw all (no_line (programs_refusal (programs_of sheet)) (leb (length (image_of_sheet sheet)) (length out)) _ _ out (rw all at e))

pub sheet_of_refused : (image out : List ℕ) {r : Refusal} → sheet_of_refusal image out ≡ Err r
    → (numbers_of_written (as_written (sheet_of_answer image out)) ≡ refused_with (numbers_of r) 0) × (sheet_of_output image out ≡ out)
unfolding sheet_of_answer sheet_of_output
sheet_of_refused image out e = (
  ap (λ w. numbers_of_written (as_written w)) (unless_refused (sheet_of_refusal image out) _ _ e),
  unless_refused (sheet_of_refusal image out) _ _ e,
)
