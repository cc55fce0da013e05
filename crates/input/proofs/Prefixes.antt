-- Laws of the prefix: what a good one shows. Assumes nothing.
use mathlib.Core.Path.{◌≡◌, refl}
use mathlib.Core.Bool.{true, false, ◌&&◌}
use mathlib.Core.List.{List}
use Prim.Native.Nat.{ℕ, ◌≤◌}
use lib.Dec.{leb}
use lib.ListN.{length}
use borrow.Author.Tests.{leb-true}
use Rattle.std.specs.Prelude.{Some, None}
use Rattle.base.proofs.Bools.{and_both, not_true, not_false}
use Rattle.image.specs.Limits.{min_cells, max_cells}
use Rattle.prefix.specs.Prefix.{prefix_bytes}
use Rattle.input.specs.Prefix.{cells_named, prefix_good, cells_of}

-- What a good prefix shows.
pub record Whole (input : List ℕ) (T : ℕ) : Type 0 where
  pub named : T ≡ cells_named input
  pub some : min_cells ≤ T
  pub few : T ≤ max_cells
  pub there : prefix_bytes T ≤ length input

module _ (input : List ℕ) where
  good_shows : prefix_good input ≡ true → Whole input (cells_named input)
  unfolding prefix_good
  good_shows e =
      let T = cells_named input in
      let p = and_both (leb (prefix_bytes T) (length input) && leb min_cells T) (leb T max_cells) e in
      let q = and_both (leb (prefix_bytes T) (length input)) (leb min_cells T) p.0 in
      record { named = refl; some = leb-true _ _ q.1; few = leb-true _ _ p.1; there = leb-true _ _ q.0 }

  -- no cells are those of a prefix that is not good
  pub cells_none : cells_of input ≡ None → prefix_good input ≡ false
  unfolding cells_of
  cells_none e = not_true (λ g. let f = rw g at e in cc)

  module _ {T : ℕ} (e : cells_of input ≡ Some T) where
    -- and cells that there are come from a good one
    pub cells_good : prefix_good input ≡ true
    unfolding cells_of
    cells_good = not_false (λ g. let f = rw g at e in cc)

    pub cells_whole : Whole input T
    unfolding cells_of
    cells_whole = let named : cells_named input ≡ T = let f = rw cells_good at e in cc in rw (← named) (good_shows cells_good)
