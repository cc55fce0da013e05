-- A line more is read, or what is found is the first fault; at the end the last program is looked at. Assumes nothing.
use mathlib.Core.Path.{sym, ◌∙◌}
use native.Mathlib.Omega.{arith}
use lib.Seq.{length-take-le}
use borrow.Author.Rules.{rules}
use Rattle.from_sheet.proofs.ReadPrograms.{fault_found, fault_left, fault_end, readable_next, readable_room}
use Rattle.from_sheet.proofs.checking.first_fault.Goals as goal

pub read_line-requires : goal.read_line-requires
read_line-requires c =
    let i = c.loop-line.invariant in
    let room = readable_room _ _ _ _ (rw c.in-Some.ensures.steps at i.1) in
    (i.0, omega (arith, room, length-take-le c.loop-line.reading.used c.loop-line.room i.0.used_few, i.0.long))

pub returns-in_err-reading : goal.returns-in_err-reading
returns-in_err-reading c =
    let found = fault_found _ _ _ _ c.in_err-reading.ensures ∙ rw c.in-Some.ensures.steps at c.loop-line.invariant.2 in
    search (rules, found)

pub loop-line-preserved : goal.loop-line-preserved
loop-line-preserved c =
    let i = c.loop-line.invariant in
    let r = c.in_ok-reading.ensures in
    let next = readable_next _ _ _ _ (rw c.in-Some.ensures.steps at i.1) in (
      record { long = r.same_room ∙ i.0.long; used_few = r.used_few; begun_few = omega (arith, r.begun_is, next.few) },
      rw (r.read, r.begun_is) next,
      rw (r.read, r.begun_is) (fault_left _ _ _ _ r.none_bad ∙ rw c.in-Some.ensures.steps at i.2),
    )

pub returns : goal.returns
returns c = c.read_fault.ensures ∙ sym (fault_end _ _) ∙ rw c.in-None.ensures.steps.0 at c.loop-line.invariant.2
