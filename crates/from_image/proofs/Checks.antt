-- The checks of the call: what no refusal shows, and what the call answers and leaves. Assumes nothing.
use mathlib.Core.Path.{◌≡◌, refl, ap}
use mathlib.Core.List.{List}
use Prim.Native.Nat.{ℕ}
use native.Mathlib.Omega.{arith}
use lib.Dec.{leb}
use lib.ListN.{length}
use borrow.Author.Tests.{leb-true}
use Rattle.std.specs.Prelude.{Ok, Err}
use Rattle.text.specs.Writing.{PageSays, Room}
use Rattle.text.proofs.Pages.{page_bytes}
use Rattle.image.specs.declared.refusals.Refusal.{Refusal}
use Rattle.image.specs.declared.refusals.Refusal.TheVariants.{Image, TooShort}
use Rattle.image.specs.Refusals.{passed}
use Rattle.image.specs.Image.{refusal_of, image_checks}
use Rattle.image.proofs.Refusing.{none_fails, none_after, passed_given, refused_as_lem, done_as}
use Rattle.from_image.specs.FromImage.{sheet_of_image, sheet_of_refusal, sheet_of_answer, sheet_of_output, SheetOfSays}

module _ (image out : List ℕ) where
  pub sheet_refused_lem : {r : Refusal} → sheet_of_refusal image out ≡ Err r → SheetOfSays image out (Err r) out
  unfolding sheet_of_answer sheet_of_output
  sheet_refused_lem e = record { answer = refused_as_lem Err _ refl e; output = refused_as_lem (λ r. out) _ refl e }

  module _ (none : sheet_of_refusal image out ≡ passed) where
    -- the image is good, and its sheet fits
    pub sheet_shows : (refusal_of image ≡ passed) × Room out 0 (sheet_of_image image)
    unfolding sheet_of_refusal
    sheet_shows =
        let w = none_after (image_checks image) _ none in
        let f = none_fails (leb (length (sheet_of_image image)) (length out)) TooShort passed w.1 in
        (passed_given Image (refusal_of image) w.0, record { fits = omega (arith, leb-true (length (sheet_of_image image)) (length out) f.0) })

    pub sheet_done : {n : ℕ} {out' : List ℕ} → PageSays (sheet_of_image image) out n out' → SheetOfSays image out (Ok n) out'
    unfolding sheet_of_answer sheet_of_output
    sheet_done w = record { answer = done_as Err refl none (ap Ok w.answer); output = done_as (λ r. out) refl none (page_bytes w) }
