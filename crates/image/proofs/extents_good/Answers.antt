-- `extents_good` meets its contract: a program whose extent is not good is one of all. Assumes nothing.
use mathlib.Core.Path.{sym, ◌∙◌}
use native.Mathlib.Omega.{arith}
use Rattle.base.proofs.Numbers.{every_false}
use Rattle.image.specs.Image.{count_of, extent_good, extents_good}
use Rattle.image.proofs.extents_good.Goals as goal

pub returns-then-not-extent_good : goal.returns-then-not-extent_good
unfolding extents_good
returns-then-not-extent_good c =
    let bytes = c.args.bytes.now in
    sym
    (every_false (count_of bytes) (λ q. extent_good bytes q) c.loop-p.p (omega arith)
    (sym c.extent_good.ensures ∙ c.if-not-extent_good.true))
