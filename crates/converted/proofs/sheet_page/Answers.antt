-- The image's sheet has room, since its members are bytes. Assumes nothing.
use mathlib.Core.Path.{◌≡◌, sym, ◌∙◌}
use native.Mathlib.Omega.{arith}
use borrow.Author.Rules.{rules}
use Rattle.image.specs.Refusals.{passed}
use Rattle.image.specs.Image.{refusal_of}
use Rattle.from_image.proofs.Longest.{sheet_short}
use Rattle.converted.proofs.sheet_page.Goals as goal

pub write_sheet-requires : goal.write_sheet-requires
write_sheet-requires c =
    let good : refusal_of c.args.image.now ≡ passed = sym c.image_refusal.ensures ∙ c.in-Ok.is in
    (good, record { fits = omega (arith, sheet_short c.args.image.now (λ i. search rules) good) })
