-- The instruction of each line is the next piece, up to a line that begins the next program. Assumes nothing.
use mathlib.Core.Path.{◌≡◌, sym, ap, ◌∙◌}
use mathlib.Core.List.{[]}
use borrow.Author.Rules.{rules}
use Rattle.text.proofs.Pages.{partly_room, partly_more, partly_end}
use Rattle.sheet.specs.Sheet.{leading}
use Rattle.from_sheet.specs.Lines.{lines_left}
use Rattle.from_sheet.proofs.Searching.{leading_none, leading_end, leading_next}
use Rattle.from_sheet.proofs.finding.read_program.Goals as goal
use Rattle.from_sheet.proofs.finding.read_program.Goals.{in-None, in-Some+then-begins}

pub put_body-requires : goal.put_body-requires
put_body-requires c =
    partly_room c.loop-line.invariant _ _ (ap leading c.in-Some.ensures.steps ∙ leading_next _ _ (sym c.begins.ensures ∙ c.if-begins.false))
    (rw (c.into_iter-line-iterator.ensures.into_iter_gives, c.new-page.ensures.same, c.new-page.ensures.front) c.requires)

pub loop-line-preserved : goal.loop-line-preserved
loop-line-preserved c =
    let piece = ap leading c.in-Some.ensures.steps ∙ leading_next _ _ (sym c.begins.ensures ∙ c.if-begins.false) in
    partly_more c.loop-line.invariant _ _ piece c.put_body.ensures

pub returns : goal.returns
returns c =
    let last : leading (lines_left c.loop-line.line-iterator) ≡ [] =
    elim c.match-next.branch [
      | in-None w ↦ ap leading w.in-None.ensures.steps.0 ∙ leading_none
      | in-Some+then-begins w ↦ ap leading w.in-Some.ensures.steps ∙ leading_end _ _ (sym w.begins.ensures ∙ w.if-begins.true)
    ] in
    let put = rw c.into_iter-line-iterator.ensures.into_iter_gives at (partly_end c.loop-line.invariant last) in
    search (rules, put)
