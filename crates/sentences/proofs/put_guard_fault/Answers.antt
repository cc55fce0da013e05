-- The line, and the words behind it. Assumes nothing.
use Rattle.text.proofs.Pages.{put_more}
use Rattle.sentences.specs.Sentences.{guard_fault_line, guard_fault}
use Rattle.sentences.proofs.put_guard_fault.Goals as goal

pub returns : goal.returns
unfolding guard_fault guard_fault_line
returns c = put_more c.filled.ensures c.put_not_admitted.ensures
