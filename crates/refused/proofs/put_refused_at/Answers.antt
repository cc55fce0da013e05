-- The text up to the line's number, the number, and the newline. Assumes nothing.
use Rattle.text.proofs.Pages.{put_more}
use Rattle.refused.specs.Refused.{refused_at_line}
use Rattle.refused.proofs.put_refused_at.Goals as goal

pub returns : goal.returns
unfolding refused_at_line
returns c = put_more c.filled.ensures (put_more c.decimal.ensures c.byte.ensures)
