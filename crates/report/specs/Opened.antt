-- One name that opens every definition of a page, for worked cases. Assumes nothing.
use Rattle.steps.specs.Opened as steps
use Rattle.input.specs.Opened as input
use Rattle.refused.specs.Opened as refused
use Rattle.results.specs.Opened as results
use Rattle.reasons.specs.Opened as reasons
use Rattle.report.specs.Batch.{gather_first, settle_first, batch_on, guards_there, input_refusal, batch_of, page_of, said}

unfoldable pub opened : Unit {0}
unfolding steps.opened input.opened refused.opened results.opened reasons.opened gather_first settle_first batch_on guards_there input_refusal batch_of page_of said
opened = tt
