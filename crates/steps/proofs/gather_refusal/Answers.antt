-- Checks 1 to 8 come first, and hand out their refusal. Assumes nothing.
use mathlib.Core.Path.{◌∙◌}
use Rattle.image.proofs.Refusing.{first_refuses, handed_out}
use Rattle.steps.specs.Gathering.{gather_refusal}
use Rattle.steps.proofs.gather_refusal.Goals as goal

pub returns-in_err-step_refusal : goal.returns-in_err-step_refusal
unfolding gather_refusal
returns-in_err-step_refusal c = handed_out c.from_residual.ensures ∙ first_refuses _ c.step_refusal.ensures c.in_err-step_refusal.was
