-- `program_refusal` meets its contract: the image's own refusal comes first. Assumes nothing.
use mathlib.Core.Path.{refl, ◌∙◌}
use Rattle.image.specs.declared.refusals.Refusal.TheVariants.{Image}
use Rattle.image.specs.Image.{program_refusal_of}
use Rattle.image.proofs.Refusing.{first_refuses, given_refuses, handed_out}
use Rattle.image.proofs.program_refusal.Goals as goal

pub returns-in_err-image_refusal : goal.returns-in_err-image_refusal
unfolding program_refusal_of
returns-in_err-image_refusal c =
    let refused = given_refuses Image c.image_refusal.ensures c.in_err-image_refusal.was in
    record { answer = handed_out c.from_residual.ensures ∙ first_refuses _ refused refl }
