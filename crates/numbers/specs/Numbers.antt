-- The numbers of an answer, as documents 01 and 02 have them, in the struct that carries them. Assumes nothing.
use Rattle.std.specs.Prelude.{◌≡◌, ◌+◌, ◌*◌}
use Rattle.image.specs.declared.refusals.RefusalNumbers.{RefusalNumbers}
use Rattle.image.specs.Refusals.{Counted}
use Rattle.slot.specs.States.{faulted}
use Rattle.steps.specs.Answers.{Numbers, done_with}
use Rattle.causes.specs.Why.{WhyNumbers}
use Rattle.numbers.specs.declared.Ended.{Ended}
use Rattle.numbers.specs.declared.FaultNumbers.{FaultNumbers}
use Rattle.numbers.specs.declared.StepNumbers.{StepNumbers}
use Rattle.numbers.specs.declared.CauseNumbers.{CauseNumbers}
use Rattle.numbers.specs.declared.CountNumbers.{CountNumbers}

pub record Tells (numbers : Numbers) (r : StepNumbers) : Type 0 where
  pub refusal : r.refusal ≡ numbers.refusal
  pub state : r.state ≡ numbers.state
  pub detail : r.detail ≡ numbers.detail

pub record CauseTells (numbers : WhyNumbers) (r : CauseNumbers) : Type 0 where
  pub refusal : r.refusal ≡ numbers.refusal
  pub reason : r.reason ≡ numbers.reason
  pub cell : r.cell ≡ numbers.cell
  pub program : r.program ≡ numbers.program
  pub war_cell : r.war_cell ≡ numbers.war_cell
  pub war_program : r.war_program ≡ numbers.war_program

pub record CountTells (numbers : Counted) (r : CountNumbers) : Type 0 where
  pub refusal : r.refusal ≡ numbers.refusal
  pub count : r.count ≡ numbers.count

-- ---- an answer that comes by its numbers, whichever they are

-- "A refusal returns its number, 0 for every other result"
abbrev pub refused_as : RefusalNumbers → Numbers
refused_as r = record { refusal = r; state = 0; detail = 0 }

-- "When done, gathering and settling return the slot's state and detail"
abbrev pub ended_as : Ended → Numbers
ended_as ended = done_with ended.state ended.detail

-- "256 × kind + instruction number"
abbrev pub fault_as : FaultNumbers → Numbers
fault_as fault = done_with faulted (256 * fault.kind + fault.at)

-- of `why`, a refusal leaves all others 0
abbrev pub no_reason_as : RefusalNumbers → WhyNumbers
no_reason_as r = record { refusal = r; reason = 0; cell = 0; program = 0; war_cell = 0; war_program = 0 }
