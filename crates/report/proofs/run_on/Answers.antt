-- The first words are lent and put back where they were; it does not matter what stood there. Assumes nothing.
use native.Mathlib.Omega.{arith}
use lib.Seq.{length-take-le}
use Rattle.report.proofs.Batches.{on_is}
use Rattle.report.proofs.run_on.Goals as goal

pub returns : goal.returns
returns c =
    on_is c.args.image.now c.args.table.now c.args.guards.now c.args.areas.now c.args.words _ c.requires c.run_in.ensures
    (omega (arith, length-take-le c.args.words c.args.areas.now c.requires.lie))
