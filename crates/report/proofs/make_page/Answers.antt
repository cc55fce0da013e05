-- A page is told of the batch that the run of the input has left in the rooms. Assumes nothing.
use Rattle.report.proofs.Pages.{settled_prefix, settled_told}
use Rattle.report.proofs.make_page.Goals as goal

pub put_settled-requires : goal.put_settled-requires
put_settled-requires c =
    let at = c.image_start.ensures in
    let image = c.image_behind-image.ensures in
    (settled_prefix _ _ c.in-Ok.ensures at image, settled_told _ _ c.in-Ok.ensures at image, c.requires)
