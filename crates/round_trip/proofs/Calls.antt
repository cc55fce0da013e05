-- What a call leaves that answers a length, and when it answers one. Assumes nothing.
use mathlib.Core.Path.{◌≡◌, refl, sym, ◌∙◌}
use mathlib.Core.List.{List, ◌++◌}
use Prim.Native.Nat.{ℕ, ◌≤◌}
use lib.ListN.{length, take, drop}
use lib.Seq.{take-append_seam}
use borrow.Author.Tests.{le-leb}
use Rattle.std.specs.Prelude.{Ok, Err}
use Rattle.image.specs.declared.refusals.Refusal.TheVariants.{Image, TooShort}
use Rattle.image.specs.Refusals.{passed, unless}
use Rattle.image.specs.Image.{refusal_of, image_checks}
use Rattle.image.proofs.Refusing.{Checks, goes_on, none_after, first_passes, given_passed, passed_given, unless_done}
use Rattle.sheet.specs.declared.Unwritten.TheVariants.{Refused}
use Rattle.from_sheet.specs.FromSheet.{image_of_sheet, sheet_refusal}
use Rattle.from_sheet.specs.FromSheet.{image_of_refusal, image_of_answer, image_of_output, ImageOfSays}
use Rattle.from_image.specs.FromImage.{sheet_of_image, sheet_of_refusal, sheet_of_answer, sheet_of_output, SheetOfSays}

-- a call that answers a length is not refused
not_refused : {E : Type 0} (r : Checks E) (n m : ℕ) → Ok n ≡ unless r Err (Ok m) → (r ≡ passed) × (n ≡ m)
unfolding unless
not_refused (Ok done) n m e = (refl, cc)
not_refused (Err r) n m e = absurd (cc)

-- it then holds what it says: so many bytes, and behind them what stood there
pub record Holds (bytes out out' : List ℕ) (n : ℕ) : Type 0 where
  pub many : n ≡ length bytes
  pub begins : out' ≡ bytes ++ drop (length bytes) out

pub holds_first : (bytes out out' : List ℕ) (n : ℕ) → Holds bytes out out' n → take n out' ≡ bytes
holds_first bytes out out' n h = rw (h.many, h.begins) (take-append_seam bytes (drop (length bytes) out))

-- ---- the image of a sheet

module _ (sheet out : List ℕ) where
  pub image_written : (image : List ℕ) → image_of_sheet sheet ≡ image → sheet_refusal sheet ≡ passed → length image ≤ length out
      → (image_of_answer sheet out ≡ Ok (length image)) × (image_of_output sheet out ≡ image ++ drop (length image) out)
  unfolding image_of_answer image_of_output image_of_refusal
  image_written image is good fits =
      rw (← is)
      (let room = le-leb (length (image_of_sheet sheet)) (length out) (rw is fits) in
      let e = sym (first_passes refl good (goes_on (Refused TooShort) room refl)) in
      (unless_done _ _ _ e, unless_done _ _ _ e))

  pub image_answered : (n : ℕ) (out' : List ℕ) → ImageOfSays sheet out (Ok n) out'
      → (sheet_refusal sheet ≡ passed) × Holds (image_of_sheet sheet) out out' n
  unfolding image_of_answer image_of_output image_of_refusal
  image_answered n out' s =
      let e = not_refused (image_of_refusal sheet out) n (length (image_of_sheet sheet)) s.answer in
      ((none_after (sheet_refusal sheet) _ e.0).0, record { many = e.1; begins = s.output ∙ unless_done _ _ _ e.0 })

-- ---- the sheet of an image

module _ (image out : List ℕ) where
  pub sheet_written : (sheet : List ℕ) → sheet_of_image image ≡ sheet → refusal_of image ≡ passed → length sheet ≤ length out
      → (sheet_of_answer image out ≡ Ok (length sheet)) × (sheet_of_output image out ≡ sheet ++ drop (length sheet) out)
  unfolding sheet_of_answer sheet_of_output sheet_of_refusal
  sheet_written sheet is good fits =
      rw (← is)
      (let room = le-leb (length (sheet_of_image image)) (length out) (rw is fits) in
      let e = sym (first_passes refl (given_passed Image good) (goes_on TooShort room refl)) in
      (unless_done _ _ _ e, unless_done _ _ _ e))

  pub sheet_answered : (n : ℕ) (out' : List ℕ) → SheetOfSays image out (Ok n) out'
      → (refusal_of image ≡ passed) × Holds (sheet_of_image image) out out' n
  unfolding sheet_of_answer sheet_of_output sheet_of_refusal
  sheet_answered n out' s =
      let e = not_refused (sheet_of_refusal image out) n (length (sheet_of_image image)) s.answer in
      let good = passed_given Image (refusal_of image) (none_after (image_checks image) _ e.0).0 in
      (good, record { many = e.1; begins = s.output ∙ unless_done _ _ _ e.0 })
