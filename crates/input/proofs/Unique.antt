-- No second result: for each call that takes an input apart, two results that meet its contract at the same arguments look the same. Assumes nothing.
use mathlib.Core.Path.{sym, ◌∙◌}
use mathlib.Core.List.{List}
use Prim.Native.Nat.{ℕ}
use Rattle.base.specs.Unique.{Unique}
use Rattle.input.proofs.cells_of.Kinds as cells_of_kinds
use Rattle.input.proofs.cells_of.Reads as Cells-of
use Rattle.input.proofs.read_cells.Kinds as read_cells_kinds
use Rattle.input.proofs.read_cells.Reads as read_cells
use Rattle.input.proofs.read_guards.Kinds as read_guards_kinds
use Rattle.input.proofs.read_guards.Reads as read_guards
use Rattle.input.proofs.cells_end.Kinds as cells_end_kinds
use Rattle.input.proofs.cells_end.Reads as cells_end
use Rattle.input.proofs.guards_end.Kinds as guards_end_kinds
use Rattle.input.proofs.guards_end.Reads as guards_end
use Rattle.input.proofs.image_behind.Kinds as image_behind_kinds
use Rattle.input.proofs.image_behind.Reads as image_behind

pub cells_of_unique : Unique 1 cells_of_kinds.ps cells_of_kinds.r (λ κs x s. x) Cells-of.Post
cells_of_unique κs a x y s t p q = p.0 ∙ sym q.0

-- the table at the exit
pub read_cells_unique : Unique {A = List ℕ} 2 read_cells_kinds.ps read_cells_kinds.r (λ κs x s. s.1.0.now) read_cells.Post
read_cells_unique κs a x y s t p q = p ∙ sym q

-- the guards at the exit
pub read_guards_unique : Unique {A = List ℕ} 2 read_guards_kinds.ps read_guards_kinds.r (λ κs x s. s.1.1.0.now) read_guards.Post
read_guards_unique κs a x y s t p q = p ∙ sym q

pub cells_end_unique : Unique 0 cells_end_kinds.ps cells_end_kinds.r (λ κs x s. x) cells_end.Post
cells_end_unique κs a x y s t p q = p ∙ sym q

pub guards_end_unique : Unique 0 guards_end_kinds.ps guards_end_kinds.r (λ κs x s. x) guards_end.Post
guards_end_unique κs a x y s t p q = p ∙ sym q

-- the bytes of the part
pub image_behind_unique : Unique {A = List ℕ} 1 image_behind_kinds.ps image_behind_kinds.r (λ κs x s. x.now) image_behind.Post
image_behind_unique κs a x y s t p q = p ∙ sym q
