-- A refusal is answered and the output is left; otherwise the checks have shown what `write_image` needs, and its length is the answer.
-- Assumes nothing.
use Prim.Native.Nat.{◌≤◌, ◌<◌}
use lib.ListN.{length}
use borrow.Author.Rules.{rules}
use Rattle.from_sheet.specs.FromSheet.{image_of_sheet}
use Rattle.from_sheet.proofs.Says.{refused_says, sheet_refuses, too_short, done_says, writable}
use Rattle.from_sheet.proofs.image_of.Goals as goal

pub returns-in_err-sizes : goal.returns-in_err-sizes
returns-in_err-sizes c =
    let says = refused_says c.args.sheet.now c.args.out.now (sheet_refuses c.args.sheet.now c.args.out.now c.in_err-sizes.ensures) in
    search (rules, says)

pub returns-then-out-image_length : goal.returns-then-out-image_length
returns-then-out-image_length c =
    let l : length c.args.out.now < length (image_of_sheet c.args.sheet.now) = rw (← c.image_length.ensures) c.if-out-image_length.true in
    refused_says _ _ (too_short _ _ c.in_ok-sizes.ensures.1 l)

pub write_image-requires : goal.write_image-requires
write_image-requires c =
    let l : length (image_of_sheet c.args.sheet.now) ≤ length c.args.out.now = rw (← c.image_length.ensures) c.if-out-image_length.false in
    writable c.in_ok-sizes.ensures.0 c.in_ok-sizes.ensures.1 l

pub returns : goal.returns
returns c =
    let l : length (image_of_sheet c.args.sheet.now) ≤ length c.args.out.now = rw (← c.image_length.ensures) c.if-out-image_length.false in
    done_says _ _ c.in_ok-sizes.ensures.1 l c.write_image.ensures
