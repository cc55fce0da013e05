-- The instruction of each line is the next piece. Assumes nothing.
use mathlib.Core.Path.{ap, ◌∙◌}
use Rattle.text.proofs.Pages.{partly_room, partly_more, partly_end}
use Rattle.from_sheet.specs.Passes.{bodies}
use Rattle.from_sheet.proofs.Pieces.{bodies_none, bodies_next}
use Rattle.from_sheet.proofs.writing.put_bodies.Goals as goal

pub put_body-requires : goal.put_body-requires
put_body-requires c = partly_room c.loop-line.invariant _ _ (ap bodies c.in-Some.ensures.steps ∙ bodies_next _ _) c.requires

pub loop-line-preserved : goal.loop-line-preserved
loop-line-preserved c = partly_more c.loop-line.invariant _ _ (ap bodies c.in-Some.ensures.steps ∙ bodies_next _ _) c.put_body.ensures

pub returns : goal.returns
returns c = partly_end c.loop-line.invariant (ap bodies c.in-None.ensures.steps.0 ∙ bodies_none)
