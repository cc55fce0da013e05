-- What the calls say, from what their parts did. Assumes nothing.
use Prim.Native.Nat.{ℕ, ◌<◌}
use mathlib.Core.Path.{◌≡◌, refl, sym, ap, subst, ◌∙◌}
use mathlib.Core.Bool.{Bool, true, false}
use mathlib.Core.List.{List}
use lib.ListN.{length}
use Rattle.image.specs.Image.{count_of, second_rule}
use Rattle.machine.specs.declared.Run.{Run}
use Rattle.slot.specs.declared.ListKind.TheVariants.{Reads, Stores}
use Rattle.area.specs.declared.MarkKind.TheVariants.{Write, Read}
use Rattle.area.specs.Layout.{marks_at, reads_of, stores_of}
use Rattle.area.specs.Marks.{reserve, waw, raw, war, lowest}
use Rattle.area.specs.Checks.{Checked, Slotted}
use Rattle.area.proofs.Checks.{checked_passed, program_slotted}
use Rattle.area.proofs.LowestCells.{depends_lowest}
use Rattle.steps.specs.declared.Verdict.TheVariants as judged
use Rattle.steps.specs.Gathering.{run_at, reserved, gathered_by}
use Rattle.steps.specs.Gathering.{Gathers, RunsInto}
use Rattle.steps.specs.Settling.{by_rule1, by_rule2, decided, verdict, with_cells, settled_by}
use Rattle.steps.proofs.Views.{placed, marked, placed_stores, marked_reads}
use Rattle.steps.proofs.Keeps.{fits, placed_checked, marked_checked}

-- ---- gathering

-- the parts of gathering, one after another: b is the area with the run's slot, d that with the write marks, z that with the read marks
module _ (image t g a : List ℕ) (k : ℕ) (c : Checked image t a) (h : k < count_of image) (x : Run) (b : List ℕ) (i : RunsInto image t g a k x b) where
  pub after_run : Slotted (length t) k b
  after_run =
      subst (λ (y : List ℕ). Slotted (length t) k y) (sym i.area)
      (program_slotted image t (placed (length t) k (run_at image t g k) a) (placed_checked image t g a k c h) k h)

  writes_are : (d : List ℕ) → d ≡ reserve (marks_at Write (length t)) (stores_of (length t) k b) k b → d ≡ marked (length t) k (run_at image t g k) a
  writes_are d f =
      f
      ∙ (ap (λ (y : List ℕ). reserve (marks_at Write (length t)) (stores_of (length t) k y) k y) i.area
      ∙ ap (λ (y : List ℕ). reserve (marks_at Write (length t)) y k (placed (length t) k (run_at image t g k) a))
      (placed_stores (length t) (run_at image t g k) (fits image t g a k c h) (count_of image) k a c.sized h (checked_passed image t a c)))

  module _ (d : List ℕ) (f : d ≡ reserve (marks_at Write (length t)) (stores_of (length t) k b) k b) where
    pub after_stores : Slotted (length t) k d
    after_stores =
        subst (λ (y : List ℕ). Slotted (length t) k y) (sym (writes_are d f))
        (program_slotted image t (marked (length t) k (run_at image t g k) a) (marked_checked image t g a k c h) k h)

    pub after_reads : (z : List ℕ) → z ≡ reserve (marks_at Read (length t)) (reads_of (length t) k d) k d → Gathers image t g a k x z
    unfolding gathered_by reserved
    after_reads z q =
        record {
          answer = i.answer;
          area =
              q
              ∙ (ap (λ (y : List ℕ). reserve (marks_at Read (length t)) (reads_of (length t) k y) k y) (writes_are d f)
              ∙ ap (λ (y : List ℕ). reserve (marks_at Read (length t)) y k (marked (length t) k (run_at image t g k) a))
              (marked_reads (length t) (run_at image t g k) (fits image t g a k c h) (count_of image) k a c.sized h (checked_passed image t a c)));
        }

-- ---- settling

-- the decision with its cells, from what the program depends on: WAW decides alone, and so does no RAW; under Rule 2 WAR decides on RAW
module _ (image a : List ℕ) (T k : ℕ) where
  pub decides_waw : waw T k a ≡ true → with_cells (verdict image T k a) T k a ≡ judged.Waw (lowest Stores Write T k a)
  unfolding verdict decided by_rule1 by_rule2 with_cells
  decides_waw w = rw w (go (second_rule image))
    where
      go : (second : Bool) → with_cells (decided second true (raw T k a) (war T k a)) T k a ≡ judged.Waw (lowest Stores Write T k a)
      go true = refl
      go false = refl

  pub decides_none : waw T k a ≡ false → raw T k a ≡ false → with_cells (verdict image T k a) T k a ≡ judged.Commit
  unfolding verdict decided by_rule1 by_rule2 with_cells
  decides_none w r = rw (w, r) (go (second_rule image))
    where
      go : (second : Bool) → with_cells (decided second false false (war T k a)) T k a ≡ judged.Commit
      go true = refl
      go false = refl

  pub decides_raw : waw T k a ≡ false → raw T k a ≡ true → second_rule image ≡ false
      → with_cells (verdict image T k a) T k a ≡ judged.Raw (lowest Reads Write T k a)
  unfolding verdict decided by_rule1 with_cells
  decides_raw w r e = rw (e, w, r)

  pub decides_war : waw T k a ≡ false → raw T k a ≡ true → second_rule image ≡ true → war T k a ≡ true
      → with_cells (verdict image T k a) T k a ≡ judged.RawWithWar (lowest Reads Write T k a) (lowest Stores Read T k a)
  unfolding verdict decided by_rule2 with_cells
  decides_war w r e v = rw (e, w, r, v)

  pub decides_no_war : waw T k a ≡ false → raw T k a ≡ true → second_rule image ≡ true → war T k a ≡ false
      → with_cells (verdict image T k a) T k a ≡ judged.Commit
  unfolding verdict decided by_rule2 with_cells
  decides_no_war w r e v = rw (e, w, r, v)

pub ruleset deciding = (depends_lowest, decides_waw, decides_none, decides_raw, decides_war, decides_no_war)

-- without its cells it is the decision again
pub cells_dropped : (image a : List ℕ) (T k : ℕ) → settled_by (with_cells (verdict image T k a) T k a) ≡ verdict image T k a
unfolding with_cells verdict decided by_rule1 by_rule2
cells_dropped image a T k = go (second_rule image) (waw T k a) (raw T k a) (war T k a)
  where
    go : (second w r x : Bool) → settled_by (with_cells (decided second w r x) T k a) ≡ decided second w r x
    go true true r x = refl
    go true false true true = refl
    go true false true false = refl
    go true false false x = refl
    go false true r x = refl
    go false false true x = refl
    go false false false x = refl
