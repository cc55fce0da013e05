-- A refusal is answered and the output is left; otherwise the checks have shown what the writing needs, and its length is the answer.
-- Assumes nothing.
use mathlib.Core.Path.{sym}
use Rattle.std.proofs.lemmas.Result.{err_from_is_err_and}
use Rattle.carry.proofs.Checks.{lent_shows, size_shows, lent_refused}
use Rattle.carry.proofs.Choosing.{chosen_sources, chosen_refused, chosen_done}
use Rattle.carry.proofs.next_image.Goals as goal

pub returns-in_err-lent_refusal : goal.returns-in_err-lent_refusal
returns-in_err-lent_refusal c =
    let p = err_from_is_err_and c.from_residual.result c.from_residual.ensures.1 in
    rw (p.1, p.2) (lent_refused _ _ _ _ _ _ (sym c.in_err-lent_refusal.ensures))

pub of-chosen-requires : goal.of-chosen-requires
of-chosen-requires c = lent_shows _ _ _ _ _ (sym c.in_ok-lent_refusal.ensures)

pub size_refusal-requires : goal.size_refusal-requires
size_refusal-requires c = chosen_sources _ _ _ _ _ (sym c.in_ok-lent_refusal.ensures) c.of-chosen.ensures

pub returns-in_err-size_refusal : goal.returns-in_err-size_refusal
returns-in_err-size_refusal c =
    let r = c.from_residual-in_err-size_refusal in
    let p = err_from_is_err_and r.result r.ensures.1 in
    rw (p.1, p.2) (chosen_refused _ _ _ _ _ (sym c.in_ok-lent_refusal.ensures) c.of-chosen.ensures _ (sym c.in_err-size_refusal.ensures))

pub write-requires : goal.write-requires
write-requires c =
    (chosen_sources _ _ _ _ _ (sym c.in_ok-lent_refusal.ensures) c.of-chosen.ensures, (size_shows _ _ _ (sym c.in_ok-size_refusal.ensures)).1)

pub returns : goal.returns
returns c = chosen_done _ _ _ _ _ (sym c.in_ok-lent_refusal.ensures) c.of-chosen.ensures _ (sym c.in_ok-size_refusal.ensures) c.write.ensures
