-- Checks 1 to 7 come first, and hand out their refusal. Assumes nothing.
use mathlib.Core.Path.{◌∙◌}
use Rattle.image.proofs.Refusing.{first_refuses, handed_out}
use Rattle.steps.specs.Gathering.{step_refusal}
use Rattle.steps.proofs.step_refusal.Goals as goal

pub returns-in_err-call_refusal : goal.returns-in_err-call_refusal
unfolding step_refusal
returns-in_err-call_refusal c = handed_out c.from_residual.ensures ∙ first_refuses _ c.call_refusal.ensures c.in_err-call_refusal.was
