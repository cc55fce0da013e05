-- One name that opens every definition of the page, for worked cases. Assumes nothing.
use Rattle.base.specs.Words.{count}
use Rattle.causes.specs.Opened as causes
use Rattle.refused.specs.Opened as refused
use Rattle.sentences.specs.Opened as sentences
use Rattle.reasons.specs.Reasons.{committed_text, again_text, why_text, carried_text, faulted_text, guard_faulted, guard_text, place_of, ended_text, program_text, reasons_text}

unfoldable pub opened : Unit {0}
unfolding count causes.opened refused.opened sentences.opened committed_text again_text why_text carried_text faulted_text guard_faulted guard_text place_of ended_text program_text reasons_text
opened = tt
