-- At each return the tests that led there say which case holds. Assumes nothing.
use mathlib.Core.Path.{sym, ◌∙◌}
use native.Mathlib.Omega.{arith}
use Rattle.std.proofs.lemmas.Result.{err_from_is_err_and}
use Rattle.text.proofs.Reading.{no_digits, no_lead, too_large, a_number}
use Rattle.text.proofs.number_of.Goals as goal

pub returns-in_err-v : goal.returns-in_err-v
returns-in_err-v c =
    let p = err_from_is_err_and c.from_residual.result c.from_residual.ensures.1 in
    rw (p.1, p.2) (no_digits _ _ _ c.in_err-v.ensures)

pub returns-then-not-leads : goal.returns-then-not-leads
returns-then-not-leads c = no_lead _ _ (sym c.leads.ensures ∙ c.if-not-leads.true)

pub returns-then-largest-v : goal.returns-then-largest-v
returns-then-largest-v c = too_large _ _ _ c.in_ok-v.ensures (sym c.leads.ensures ∙ c.if-not-leads.false) (omega arith) (omega arith)

pub returns : goal.returns
returns c = a_number _ _ _ c.in_ok-v.ensures (sym c.leads.ensures ∙ c.if-not-leads.false) (omega arith) (omega arith)
