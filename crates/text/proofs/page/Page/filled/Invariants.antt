-- The text has come to one of its bytes. Assumes nothing.
use lib.ListN.{drop}
use Rattle.text.specs.Filled.{filled}
use Rattle.text.proofs.Pages.{Partly}
use Rattle.text.proofs.page.Page.filled.Given as goal

abbrev pub invariant-loop-byte : goal.invariant-loop-byte
invariant-loop-byte l = Partly l.fn.self (filled l.text l.numbers) l.self (filled (drop l.byte-index l.text) l.left)
