-- Document 01, "What each refusal says": the numbers for each case of an answer. "When done, gathering and settling return the slot's state and
-- detail .. A refusal returns its number, 0 for every other result." Assumes nothing.
use Rattle.std.specs.Prelude.{ℕ, List, Result, Ok, Err}
use Rattle.image.specs.declared.refusals.Refusal.{Refusal}
use Rattle.image.specs.declared.refusals.RefusalNumbers.{RefusalNumbers}
use Rattle.image.specs.Refusals.{none, numbers_of}
use Rattle.slot.specs.States.{committed, carried}
use Rattle.machine.specs.declared.Run.{Run}
use Rattle.machine.specs.Runs.{state_of_run, detail_of_run}
use Rattle.area.specs.Layout.{state_of, detail_of}
use Rattle.steps.specs.declared.Reason.{Reason}
use Rattle.steps.specs.declared.Reason.TheVariants.{Waw, Raw, RawWithWar}
use Rattle.steps.specs.declared.Settled.{Settled}
use Rattle.steps.specs.declared.Settled.TheVariants.{Committed, Carried}

pub record Numbers : Type 0 where
  pub refusal : RefusalNumbers
  pub state : ℕ
  pub detail : ℕ

abbrev pub refused_by : Refusal → Numbers
refused_by r = record { refusal = numbers_of r; state = 0; detail = 0 }

abbrev pub done_with : ℕ → ℕ → Numbers
done_with state detail = record { refusal = none; state = state; detail = detail }

-- the state and the detail of program k, as numbers of a call that is done
abbrev pub words_of : ℕ → ℕ → List ℕ → Numbers
words_of T k a = done_with (state_of T k a) (detail_of T k a)

-- "1 WAW, looked at first; 2 RAW (Rule 1); 3 RAW with WAR (Rule 2)"
abbrev pub reason_number : Reason → ℕ
reason_number Waw = 1
reason_number Raw = 2
reason_number RawWithWar = 3

abbrev pub numbers_of_gathered : Result Run Refusal → Numbers
numbers_of_gathered (Ok run) = done_with (state_of_run run) (detail_of_run run)
numbers_of_gathered (Err r) = refused_by r

-- the state and the detail that a decision leaves
abbrev pub state_of_settled : Settled → ℕ
state_of_settled Committed = committed
state_of_settled (Carried reason) = carried

abbrev pub detail_of_settled : Settled → ℕ
detail_of_settled Committed = 0
detail_of_settled (Carried reason) = reason_number reason

abbrev pub numbers_of_settled : Result Settled Refusal → Numbers
numbers_of_settled (Ok settled) = done_with (state_of_settled settled) (detail_of_settled settled)
numbers_of_settled (Err r) = refused_by r
