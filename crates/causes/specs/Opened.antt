-- One name that opens every definition of the causes, for worked cases. Assumes nothing.
use Rattle.steps.specs.Opened as steps
use Rattle.causes.specs.Causes.{cause_of}
use Rattle.causes.specs.Why.{explained, is_reason, explained_by, told_by, ask_refusal}
use Rattle.causes.specs.Why.{carried_refusal, holds_reason, why_refusal, why_answer, answer_for}
use Rattle.causes.specs.Why.{before_of, before_answer}

unfoldable pub opened : Unit {0}
unfolding steps.opened cause_of explained is_reason explained_by told_by ask_refusal carried_refusal holds_reason why_refusal why_answer answer_for before_of before_answer
opened = tt
