-- The loop's invariant: the mask has the programs passed that are in the group. Assumes nothing.
use mathlib.Core.Path.{◌≡◌}
use Rattle.base.specs.Masks.{mask_of}
use Rattle.area.specs.Layout.{in_group}
use Rattle.area.proofs.members.Given as goal

abbrev pub invariant-loop-k : goal.invariant-loop-k
invariant-loop-k l = l.mask ≡ mask_of (in_group l.group l.cells l.area) l.k
