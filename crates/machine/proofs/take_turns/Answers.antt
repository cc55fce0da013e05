-- The loop's invariant, `Going`: what is left of the run ends as the whole run does. Assumes nothing.
use Rattle.std.proofs.Common.{refl, arith}
use Rattle.machine.proofs.Going.{going_start, going_ready, going_end, going_stop, going_next, going_forward}
use Rattle.machine.proofs.Named.{instruction_named}
use Rattle.machine.proofs.take_turns.Goals as goal

pub loop-machine-init : goal.loop-machine-init
loop-machine-init c = (refl, going_start c.requires.runnable c.new-machine.ensures c.requires.no_log)

pub step-turned-requires : goal.step-turned-requires
step-turned-requires c =
    let r = c.requires in
    let l = c.loop-machine in
    let u = c.loop-machine-test.true in
    (going_ready r.runnable l.invariant.1 u, instruction_named c.args.program.now r.runnable.good l.machine.place u c.at.result c.at.ensures, r.pairs)

pub returns-in-Some : goal.returns-in-Some
returns-in-Some c = going_stop c.requires.runnable c.loop-machine.invariant.1 c.loop-machine-test.true c.at.ensures c.step-turned.ensures c.in-Some.is

pub loop-machine-smaller : goal.loop-machine-smaller
loop-machine-smaller c =
    omega (arith, going_forward c.requires.runnable c.loop-machine.invariant.1 c.loop-machine-test.true c.at.ensures c.step-turned.ensures c.in_default.is)

pub loop-machine-preserved : goal.loop-machine-preserved
loop-machine-preserved c =
    (refl, going_next c.requires.runnable c.loop-machine.invariant.1 c.loop-machine-test.true c.at.ensures c.step-turned.ensures c.in_default.is)

pub returns : goal.returns
returns c = going_end c.requires.runnable c.loop-machine.invariant.1 c.loop-machine-test.false
