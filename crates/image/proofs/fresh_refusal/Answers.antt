-- `fresh_refusal` meets its contract: what is found is the fresh image's. Assumes nothing.
use Rattle.image.specs.declared.refusals.Refusal.TheVariants.{Fresh}
use Rattle.image.specs.Image.{fresh_refusal_of}
use Rattle.image.proofs.Refusing.{given_by}
use Rattle.image.proofs.fresh_refusal.Goals as goal

pub returns : goal.returns
unfolding fresh_refusal_of
returns c = given_by Fresh c.image_refusal.ensures c.map_err.ensures.cases
