-- So many words are put. Assumes nothing.
use Rattle.text.specs.Filled.{texts}
use Rattle.text.specs.Paper.{Put}
use Rattle.prefix.specs.Prefix.{cell_at}
use Rattle.prefix.proofs.put_fours.Given as goal

abbrev pub invariant-loop-word : goal.invariant-loop-word
invariant-loop-word l = Put l.fn.page (texts (cell_at l.words) l.word-index) l.page
