-- The loop's invariant: the programs below start are in the entries. Assumes nothing.
use mathlib.Core.Path.{◌≡◌}
use Prim.Native.Nat.{min}
use native.Mathlib.Omega.{arith}
use Rattle.listing.proofs.Readers.{slots_below, blockers_start}
use Rattle.listing.proofs.fill_blockers.Goals as goal

pub loop-start-init : goal.loop-start-init
loop-start-init c = let e : min 0 c.args.n ≡ 0 = omega arith in rw (e, c.requires.2) (blockers_start _ _ _ c.ranges.set.fits)

pub add_octet-requires : goal.add_octet-requires
add_octet-requires c =
    let s = c.loop-start in
    let e : min s.start c.args.n ≡ s.start = omega arith in (
      slots_below c.args.cells c.args.n c.args.area.now _ c.requires.0 (omega arith),
      record { not_empty = omega arith; small = omega arith },
      c.requires.1,
      rw e at s.invariant,
    )
