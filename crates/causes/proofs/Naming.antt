-- The cells that settling finds have marks that name somebody. Assumes nothing.
use Prim.Native.Nat.{ℕ, ◌<◌}
use mathlib.Core.Path.{◌≡◌, sym, refl, ◌∙◌}
use mathlib.Core.Bool.{Bool, true, false}
use mathlib.Core.List.{List}
use native.Mathlib.Omega.{arith}
use borrow.Author.Tests.{ltb-true}
use Rattle.image.specs.Image.{second_rule}
use Rattle.slot.specs.declared.ListKind.{ListKind}
use Rattle.slot.specs.declared.ListKind.TheVariants.{Reads, Stores}
use Rattle.area.specs.declared.MarkKind.{MarkKind}
use Rattle.area.specs.declared.MarkKind.TheVariants.{Write, Read}
use Rattle.area.specs.Marks.{waw, raw, war, depends, lowest}
use Rattle.area.specs.Checks.{Slotted}
use Rattle.area.proofs.Views.{marks_low}
use Rattle.area.proofs.LowestCells.{lowest_shows, depends_lowest}
use Rattle.steps.specs.Settling.{by_rule1, by_rule2, decided, verdict, with_cells}
use Rattle.causes.specs.Causes.{NamesOne}
use Rattle.causes.specs.Why.{NamesAll}

module _ (T k : ℕ) (a : List ℕ) (s : Slotted T k a) where
  pub lowest_names : (l : ListKind) (m : MarkKind) → lowest l m T k a < T → NamesOne m T (lowest l m T k a) a
  lowest_names l m h =
      record {
        cells_few = s.lies.cells_few;
        in_table = h;
        lies = omega (arith, marks_low T m, s.lies.lies);
        names = (lowest_shows l m T k a h).1;
      }

  -- a dependency that the program has
  pub found : (l : ListKind) (m : MarkKind) → depends l m T k a ≡ true → lowest l m T k a < T
  found l m d = ltb-true _ _ (sym (depends_lowest l m T k a s) ∙ d)

  pub verdict_names : (image : List ℕ) → NamesAll (with_cells (verdict image T k a) T k a) T a
  unfolding verdict decided by_rule1 by_rule2 with_cells
  verdict_names image = go (second_rule image) (waw T k a) (raw T k a) (war T k a) refl refl refl
    where
      names : (l : ListKind) (m : MarkKind) → true ≡ depends l m T k a → NamesOne m T (lowest l m T k a) a
      names l m e = lowest_names l m (found l m (sym e))

      go : (second w r x : Bool) → w ≡ waw T k a → r ≡ raw T k a → x ≡ war T k a → NamesAll (with_cells (decided second w r x) T k a) T a
      go true true r x p q h = names Stores Write p
      go true false true true p q h = (names Reads Write q, names Stores Read h)
      go true false true false p q h = tt
      go true false false x p q h = tt
      go false true r x p q h = names Stores Write p
      go false false true x p q h = names Reads Write q
      go false false false x p q h = tt

-- a cell that is found, and whether there is one
pub ruleset by_cells = (lowest_names, depends_lowest)
