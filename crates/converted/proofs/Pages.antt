-- Laws of what the two programs print: a page has room. Assumes nothing.
use mathlib.Core.Path.{◌≡◌, refl}
use mathlib.Core.List.{List}
use Prim.Native.Nat.{ℕ, ◌≤◌}
use native.Mathlib.Omega.{arith}
use lib.ListN.{length}
use borrow.Author.Tests.{le-leb}
use Rattle.std.specs.Prelude.{Ok, Err}
use Rattle.std.proofs.lemmas.Grind.{common_steps}
use Rattle.image.specs.Limits.{max_bytes}
use Rattle.image.specs.Refusals.{passed, check, after}
use Rattle.image.proofs.Refusing.{Checks}
use Rattle.sheet.specs.declared.Unwritten.{Unwritten}
use Rattle.from_sheet.specs.FromSheet.{image_of_sheet, sheet_refusal, image_of_refusal}
use Rattle.from_sheet.proofs.Says.{sheet_shown, image_short}
use Rattle.refused.proofs.Lines.{refused_short, refused_at_short}

pub ruleset rooms = (common_steps, refused_short, refused_at_short)

-- the image of a sheet that is not refused has room where every image has
pub image_fits : (sheet : List ℕ) → sheet_refusal sheet ≡ passed → length (image_of_sheet sheet) ≤ max_bytes
image_fits sheet e = image_short sheet (sheet_shown sheet e).1

-- so refusal 10 is none of a page
pub never_too_short : (sheet out : List ℕ) → max_bytes ≤ length out → image_of_refusal sheet out ≡ sheet_refusal sheet
unfolding image_of_refusal after check
never_too_short sheet out room = go (sheet_refusal sheet) refl
  where
    go : (r : Checks Unwritten) → sheet_refusal sheet ≡ r → image_of_refusal sheet out ≡ sheet_refusal sheet
    go (Ok done) e = let fits = le-leb (length (image_of_sheet sheet)) (length out) (omega (arith, image_fits sheet e)) in rw (e, fits) refl
    go (Err r) e = rw e refl

pub ruleset images = (common_steps, image_fits, never_too_short)
