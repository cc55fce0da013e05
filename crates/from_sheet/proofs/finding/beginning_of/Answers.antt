-- A line more: it begins a program, or not; the last that does is the one that is looked for. Assumes nothing.
use mathlib.Core.Path.{◌≡◌, sym, ap, ◌∙◌}
use mathlib.Core.Bool.{true, false}
use Prim.Native.Nat.{◌+◌, ◌-◌}
use native.Mathlib.Omega.{arith}
use lib.ListN.{length}
use Rattle.from_sheet.specs.WrongLines.{begins}
use Rattle.from_sheet.proofs.Searching.{search_program, search_other, search_there, search_end}
use Rattle.from_sheet.proofs.finding.beginning_of.Goals as goal

pub returns-then-left-eq0 : goal.returns-then-left-eq0
returns-then-left-eq0 c =
    let i = c.loop-line.invariant in
    let steps = c.in-Some.ensures.steps in
    let e : begins c.in-Some.line ≡ true = sym c.begins.ensures ∙ c.if-begins.true in
    let s = search_end (search_program 0 e (rw (steps, c.if-left-eq0.true) at i.1)) in
    record { line_is = s.0; line_few = omega (arith, i.0, ap length steps); program_is = s.1 }

pub loop-line-preserved-then-begins : goal.loop-line-preserved-then-begins
loop-line-preserved-then-begins c =
    let i = c.loop-line.invariant in
    let steps = c.in-Some.ensures.steps in
    let e : begins c.in-Some.line ≡ true = sym c.begins.ensures ∙ c.if-begins.true in
    let one : c.loop-line.left - 1 + 1 ≡ c.loop-line.left = omega arith in
    (omega (arith, i.0, ap length steps), rw one (search_program c.loop-line.left e (rw steps at i.1)))

pub loop-line-preserved : goal.loop-line-preserved
loop-line-preserved c =
    let i = c.loop-line.invariant in
    let steps = c.in-Some.ensures.steps in
    let e : begins c.in-Some.line ≡ false = sym c.begins.ensures ∙ c.if-begins.false in
    (omega (arith, i.0, ap length steps), search_other c.loop-line.left e (rw steps at i.1))

pub returns : goal.returns
returns c = absurd (search_there c.loop-line.left (rw c.in_default.ensures.steps.0 at c.loop-line.invariant.1))
