-- The loop's invariant: every line before the place is allowed, the part that begins there ends at `end`, and the sizes so far, with the lines from there on,
-- are the sheet's. Assumes nothing.
use mathlib.Core.Path.{◌≡◌, refl, sym, ap, ◌∙◌}
use Prim.Native.Nat.{◌+◌, ◌-◌}
use native.Mathlib.Omega.{arith}
use lib.ListN.{length}
use borrow.Author.Rules.{rules}
use Rattle.std.proofs.lemmas.Result.{err_from_is_err_and}
use Rattle.sheet.specs.Sheet.{bad_line}
use Rattle.from_sheet.specs.Passes.{tally, last_bad}
use Rattle.from_sheet.proofs.Passing.{lines_next, bad_next, last_is, last_good_lem, none_checked, bad_checked, nothing_behind}
use Rattle.from_sheet.proofs.Passing.{tally_other, tally_next, small_next}
use Rattle.from_sheet.proofs.counting.survey_of.Goals as goal
use Rattle.from_sheet.proofs.counting.survey_of.Goals.{After-last_checked}

pub loop-end-init : goal.loop-end-init
unfolding bad_line
loop-end-init c =
    (c.part_end-end.ensures, refl, search rules, record { programs_few = omega arith; instructions_few = omega arith; current_few = omega arith }, refl)

-- the line at the place is not allowed
pub returns-then-not-allowed : goal.returns-then-not-allowed
returns-then-not-allowed c =
    let i = c.loop-end.invariant in
    let bad = sym c.allowed.ensures ∙ c.if-not-allowed.true in
    let next = bad_next c.args.sheet.now c.loop-end.at c.loop-end.end c.loop-end.place i.0 (omega arith) in
    let e : c.loop-end.place + 1 ≡ bad_line c.args.sheet.now = sym (sym i.1 ∙ next ∙ rw (← c.line_of-line.ensures, bad)) in
    (e, omega arith)

pub loop-end-preserved : goal.loop-end-preserved
loop-end-preserved c =
    let i = c.loop-end.invariant in
    let line = c.line_of-line.ensures in
    let good = sym c.allowed.ensures ∙ c.if-not-allowed.false in
    let next = lines_next c.args.sheet.now c.loop-end.at c.loop-end.end i.0 in (
      c.part_end-end-in-loop-end.ensures,
      sym (bad_next c.args.sheet.now c.loop-end.at c.loop-end.end c.loop-end.place i.0 (omega arith) ∙ rw (← line, good)) ∙ i.1,
      omega (arith, i.0.from),
      rw c.counted-sizes.ensures (small_next c.loop-end.sizes _ c.loop-end.at (c.loop-end.end + 1) i.3 (omega (arith, i.0.from))),
      rw (c.counted-sizes.ensures, line) (sym (ap (tally c.loop-end.sizes) next ∙ tally_next c.loop-end.sizes _ _) ∙ i.4),
    )

-- every ended line is allowed: the rest decides
last : (c : After-last_checked) → last_bad c.loop-end.place (c.loop-end.end - c.loop-end.at) ≡ bad_line c.args.sheet.now
last c =
    let i = c.loop-end.invariant in
    last_is c.args.sheet.now c.loop-end.at c.loop-end.end c.loop-end.place i.0 (omega (arith, i.0.within)) ∙ i.1

pub returns-in_err-last_checked : goal.returns-in_err-last_checked
returns-in_err-last_checked c =
    let p = err_from_is_err_and c.from_residual.result c.from_residual.ensures.1 in
    let e = bad_checked _ _ c.in_err-last_checked.ensures in
    rw (p.1, p.2) (rw (last (goal.at.returns-in_err-last_checked c).After-last_checked) at e)

pub returns : goal.returns
returns c =
    let i = c.loop-end.invariant in
    let whole : c.loop-end.end ≡ length c.args.sheet.now = omega (arith, i.0.within) in
    let z = none_checked _ c.in_ok-last_checked.ensures in
    let none : c.loop-end.end - c.loop-end.at ≡ 0 = last_good_lem c.loop-end.place (c.loop-end.end - c.loop-end.at) z in
    let rest = nothing_behind c.args.sheet.now c.loop-end.at c.loop-end.end c.loop-end.place i.0 whole (omega (arith, none)) in
    (sym (last (goal.at.returns c).After-last_checked) ∙ z, sym (ap (tally c.loop-end.sizes) rest ∙ tally_other c.loop-end.sizes) ∙ i.4)
