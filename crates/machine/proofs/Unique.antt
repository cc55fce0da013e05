-- No second result: two outcomes of a function that meet its contract at the same arguments have one answer and leave one slot. Assumes nothing.
use Rattle.std.proofs.Common.{ℕ, List}
use Rattle.base.specs.Unique.{Unique}
use Rattle.machine.specs.declared.Run.{Run}
use Rattle.machine.specs.declared.Store.{Store}
use Rattle.machine.proofs.run_program.Kinds as run_program_kinds
use Rattle.machine.proofs.run_program.Reads as run_program
use Rattle.machine.proofs.last_store.Kinds as last_store_kinds
use Rattle.machine.proofs.last_store.Reads as last_store
use Rattle.machine.proofs.FaultKind.number.Kinds as number_kinds
use Rattle.machine.proofs.FaultKind.number.Reads as number

pub run_program_unique : Unique {A = Run × List ℕ} 4 run_program_kinds.ps run_program_kinds.r (λ κs x s. (x, s.1.1.1.0.now)) run_program.Post
run_program_unique κs a x y s t p q = cc

pub last_store_unique : Unique {A = Store × List ℕ} 4 last_store_kinds.ps last_store_kinds.r (λ κs x s. (x, s.1.1.1.0.now)) last_store.Post
last_store_unique κs a x y s t p q = cc

-- and the number of a fault's kind
pub number_unique : Unique 0 number_kinds.ps number_kinds.r (λ κs x s. x) number.Post
number_unique κs a x y s t p q = cc
