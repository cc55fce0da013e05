-- What is told of each kind of answer that the three calls take, by definition; and an answer is told as its own numbers are. Assumes nothing.
use mathlib.Core.Path.{refl}
use Prim.Native.Nat.{ℕ}
use Rattle.std.specs.Prelude.{◌≡◌, Result, Ok, Err}
use Rattle.image.specs.declared.refusals.Refusal.{Refusal}
use Rattle.image.specs.declared.refusals.RefusalNumbers.{RefusalNumbers}
use Rattle.image.specs.Refusals.{numbers_of}
use Rattle.machine.specs.declared.FaultKind.{FaultKind}
use Rattle.machine.specs.declared.Run.{Run}
use Rattle.machine.specs.declared.Run.TheVariants.{Faulted}
use Rattle.machine.specs.Runs.{kind_number, state_of_run, detail_of_run}
use Rattle.steps.specs.declared.Settled.{Settled}
use Rattle.steps.specs.Answers.{state_of_settled, detail_of_settled, numbers_of_gathered, numbers_of_settled}
use Rattle.causes.specs.declared.answers.Why.{Why}
use Rattle.causes.specs.Why.{numbers_of_why}
use Rattle.numbers.specs.declared.Ended.{Ended}
use Rattle.numbers.specs.declared.FaultNumbers.{FaultNumbers}
use Rattle.numbers.specs.Numbers.{refused_as, ended_as, fault_as, no_reason_as}
use Rattle.numbers.specs.contracts.ResultRunRefusalGatherAnswer.TheImpl as gathered
use Rattle.numbers.specs.contracts.RefusalNumbersGatherAnswer.TheImpl as gather_refused
use Rattle.numbers.specs.contracts.EndedGatherAnswer.TheImpl as gather_ended
use Rattle.numbers.specs.contracts.FaultNumbersGatherAnswer.TheImpl as gather_faulted
use Rattle.numbers.specs.contracts.ResultSettledRefusalSettleAnswer.TheImpl as settled
use Rattle.numbers.specs.contracts.RefusalNumbersSettleAnswer.TheImpl as settle_refused
use Rattle.numbers.specs.contracts.EndedSettleAnswer.TheImpl as settle_ended
use Rattle.numbers.specs.contracts.ResultWhyRefusalWhyAnswer.TheImpl as why
use Rattle.numbers.specs.contracts.RefusalNumbersWhyAnswer.TheImpl as why_refused

-- ---- what is told

pub gathered_told : (answer : Result Run Refusal) → gathered.ghosts.numbers answer ≡ numbers_of_gathered answer
gathered_told answer = refl

pub gather_refused_told : (r : RefusalNumbers) → gather_refused.ghosts.numbers r ≡ refused_as r
gather_refused_told r = refl

pub gather_ended_told : (ended : Ended) → gather_ended.ghosts.numbers ended ≡ ended_as ended
gather_ended_told ended = refl

pub gather_faulted_told : (fault : FaultNumbers) → gather_faulted.ghosts.numbers fault ≡ fault_as fault
gather_faulted_told fault = refl

pub settled_told : (answer : Result Settled Refusal) → settled.ghosts.numbers answer ≡ numbers_of_settled answer
settled_told answer = refl

pub settle_refused_told : (r : RefusalNumbers) → settle_refused.ghosts.numbers r ≡ refused_as r
settle_refused_told r = refl

pub settle_ended_told : (ended : Ended) → settle_ended.ghosts.numbers ended ≡ ended_as ended
settle_ended_told ended = refl

pub why_told : (answer : Result Why Refusal) → why.ghosts.numbers answer ≡ numbers_of_why answer
why_told answer = refl

pub why_refused_told : (r : RefusalNumbers) → why_refused.ghosts.numbers r ≡ no_reason_as r
why_refused_told r = refl

-- ---- an answer and its own numbers

pub gather_refused_alike : (r : Refusal) → numbers_of_gathered (Err r) ≡ refused_as (numbers_of r)
gather_refused_alike r = refl

pub gather_ended_alike : (run : Run) → numbers_of_gathered (Ok run) ≡ ended_as (record { state = state_of_run run; detail = detail_of_run run })
gather_ended_alike run = refl

pub gather_faulted_alike : (kind : FaultKind) (at : ℕ) → numbers_of_gathered (Ok (Faulted kind at)) ≡ fault_as (record { kind = kind_number kind; at = at })
gather_faulted_alike kind at = refl

pub settle_refused_alike : (r : Refusal) → numbers_of_settled (Err r) ≡ refused_as (numbers_of r)
settle_refused_alike r = refl

pub settle_ended_alike : (decision : Settled)
    → numbers_of_settled (Ok decision) ≡ ended_as (record { state = state_of_settled decision; detail = detail_of_settled decision })
settle_ended_alike decision = refl

pub why_refused_alike : (r : Refusal) → numbers_of_why (Err r) ≡ no_reason_as (numbers_of r)
why_refused_alike r = refl
