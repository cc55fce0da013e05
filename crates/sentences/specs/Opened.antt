-- One name that opens every definition of the sentences, for worked cases. Assumes nothing.
use Rattle.text.specs.Opened as text
use Rattle.guard.specs.Opened as guard
use Rattle.sentences.specs.Sentences.{committed_line, waw_line, raw_line, raw_with_war_line, rejected_line, load_fault_line, store_fault_line, guard_fault_line}
use Rattle.sentences.specs.Sentences.{free, turned, waw, raw, raw_with_war, more_batches, again, rejected, load_fault, store_fault}
use Rattle.sentences.specs.Sentences.{integer, signed_text, then_signed, not_admitted, guard_fault}

unfoldable pub opened : Unit {0}
unfolding text.opened guard.opened committed_line waw_line raw_line raw_with_war_line rejected_line load_fault_line store_fault_line guard_fault_line free turned waw raw raw_with_war more_batches again rejected load_fault store_fault integer signed_text then_signed not_admitted guard_fault
opened = tt
