-- The table that is read is the one that the batch was opened on, and its page is short: bytes have 8 bits and words 32. Assumes nothing.
use mathlib.Core.Path.{◌≡◌, ap, ◌∙◌}
use Prim.Native.Nat.{ℕ}
use native.Mathlib.Omega.{arith}
use borrow.Author.Rules.{rules}
use lib.ListN.{length}
use lib.Seq.{length-take-le}
use Rattle.input.specs.Prefix.{table_in}
use Rattle.reasons.specs.Reasons.{CanTell}
use Rattle.report.proofs.Pages.{wanted_short}
use Rattle.report.proofs.put_settled.Goals as goal

pub put_page-requires : goal.put_page-requires
put_page-requires c =
    let a = c.args in
    let opening = c.read_cells.new.table in
    let read : opening ≡ table_in a.input.now (length a.table.now) =
    c.read_cells.ensures ∙ ap (λ (n : ℕ). table_in a.input.now n) (length-take-le _ _ (omega (arith, c.requires.1.measured.cells_few))) in
    let tell : CanTell a.image.now opening a.table.now a.guards.now a.area.now = rw read c.requires.1 in
    let short = wanted_short a.wanted tell (λ i. search rules) (λ i. search rules) (λ i. search rules) (λ i. search rules) (λ i. search rules) in
    (tell, record { fits = omega (arith, short, c.requires.2, ap length c.new-page.ensures.same) })
