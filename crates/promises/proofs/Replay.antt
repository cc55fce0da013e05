-- The serial run, with no area in sight: in an order where none reads what one before it stores, every program still finds the opening values where
-- it reads, so it runs as it did; and the tables agree because two committed programs never store one cell. Assumes nothing.
use Prim.Native.Nat.{ℕ, ◌<◌}
use mathlib.Core.Path.{◌≡◌, refl, sym, ◌∙◌, ap}
use mathlib.Core.Bool.{Bool, true, false, not, ◌||◌}
use mathlib.Core.List.{List, [], ◌∷◌, map}
use native.Mathlib.Omega.{arith}
use lib.Dec.{ltb}
use lib.ListN.{length, get_or, set}
use lib.Seq.{get_or-set_other}
use borrow.Author.Tests.{eqb-true, ltb-true}
use Rattle.base.specs.Words.{has, distinct}
use Rattle.base.proofs.Bools.{clash, not_true, and_both}
use Rattle.base.proofs.Members.{has_head, has_tail, meets_in}
use Rattle.image.specs.Image.{count_of, part_of}
use Rattle.slot.specs.Log.{Log}
use Rattle.machine.specs.declared.Run.{Run}
use Rattle.guard.specs.Guards.{admits}
use Rattle.machine.specs.Runs.{Outcome, keeps, kept}
use Rattle.machine.proofs.Laws.{reads_decide}
use Rattle.area.specs.Marks.{store_all}
use Rattle.steps.specs.Gathering.{run_at}
use Rattle.listing.specs.Order.{Ordered}
use Rattle.promises.specs.Paper.{batch_of, read_set, write_set, new_values, commits, installed, table_after}
use Rattle.promises.specs.Serial.{serial_table, serial_runs}
use Rattle.promises.proofs.Sets.{nobody, also}
use Rattle.promises.proofs.Deciding.{commits_keeps, no_common}
use Rattle.promises.proofs.Installing.{store_length, installed_none, installed_ext, installed_more}
use Rattle.promises.proofs.PaperOrder.{paper_order, order_members, order_distinct, order_ordered}

-- a run that keeps its log keeps all of it
kept_all : (r : Run) (l : Log) → keeps r ≡ true → kept r l ≡ l
kept_all r l e = grind arith

-- a cell that is not among the stored ones keeps its value
store_other : (cs vs t : List ℕ) (c : ℕ) → has c cs ≡ false → get_or (store_all cs vs t) c 0 ≡ get_or t c 0
unfolding store_all has
store_other [] vs t c e = refl
store_other (x ∷ cs) [] t c e = refl
store_other (x ∷ cs) (v ∷ vs) t c e = grind (arith, store_other cs vs (set t x v) c, get_or-set_other t x c v 0)

module _ (image t g : List ℕ) where
  -- The programs of the list l commit, they are still to be run, in this order, and the table u has the opening values where they read.
  record ToRun (l u : List ℕ) : Type 0 where
    sized : length t ≡ length u
    opening : (k c : ℕ) → has k l ≡ true → has c (read_set (batch_of image t g) k) ≡ true → get_or t c 0 ≡ get_or u c 0
    committing : (k : ℕ) → has k l ≡ true → commits (batch_of image t g) k ≡ true
    ordered : Ordered (λ k. read_set (batch_of image t g) k) (λ k. write_set (batch_of image t g) k) l

  same_run : (k : ℕ) (l u : List ℕ) → ToRun (k ∷ l) u → run_at image u g k ≡ run_at image t g k
  same_run k l u w =
      let o = run_at image t g k in
      let e = kept_all o.answer o.log (commits_keeps (batch_of image t g) k (w.committing k (has_head k l))) in
      reads_decide (admits g) (part_of image k) t u w.sized (λ c h. w.opening k c (has_head k l) (ap (λ (m : Log). has c m.reads) e ∙ h))

  to_run_next : (k : ℕ) (l u : List ℕ) → ToRun (k ∷ l) u
      → ToRun l (store_all (write_set (batch_of image t g) k) (new_values (batch_of image t g) k) u)
  to_run_next k l u w =
      let b = batch_of image t g in
      record {
        sized = w.sized ∙ sym (store_length (write_set b k) (new_values b k) u);
        opening = λ j c h r.
            let kept = not_true (λ s. clash (meets_in c (read_set b j) (write_set b k) r s) (w.ordered.0 j h)) in
            w.opening j c (has_tail j k l h) r ∙ sym (store_other (write_set b k) (new_values b k) u c kept);
        committing = λ j h. w.committing j (has_tail j k l h);
        ordered = w.ordered.1;
      }

  runs_same : (l u : List ℕ) → ToRun l u → serial_runs image g l u ≡ map (run_at image t g) l
  unfolding serial_runs
  runs_same [] u w = refl
  runs_same (k ∷ l) u w =
      rw (same_run k l u w)
      (ap (λ (z : List Outcome). run_at image t g k ∷ z)
      (runs_same l (store_all (write_set (batch_of image t g) k) (new_values (batch_of image t g) k) u) (to_run_next k l u w)))

  -- a program that commits may be installed after others that commit
  installs_next : (done : ℕ → Bool) (k : ℕ) → k < count_of image → done k ≡ false → commits (batch_of image t g) k ≡ true
      → ((j : ℕ) → done j ≡ true → commits (batch_of image t g) j ≡ true)
      → store_all (write_set (batch_of image t g) k) (new_values (batch_of image t g) k) (installed (batch_of image t g) done (count_of image) t)
      ≡ installed (batch_of image t g) (also k done) (count_of image) t
  installs_next done k l new e all =
      sym (installed_more (batch_of image t g) t done k (count_of image) l new (λ j q d. no_common (batch_of image t g) j k q (all j d) e))

  -- those of `done` have been run, those of l come now
  table_same : (test done : ℕ → Bool) (l : List ℕ) → ToRun l (installed (batch_of image t g) done (count_of image) t)
      → distinct l ≡ true → ((k : ℕ) → has k l ≡ true → k < count_of image)
      → ((k : ℕ) → done k ≡ true → (commits (batch_of image t g) k ≡ true) × (has k l ≡ false))
      → ((k : ℕ) → k < count_of image → has k l || done k ≡ test k)
      → serial_table image g l (installed (batch_of image t g) done (count_of image) t) ≡ installed (batch_of image t g) test (count_of image) t
  unfolding serial_table has distinct also
  table_same test done [] w d below apart all = installed_ext (batch_of image t g) t done test (count_of image) all
  table_same test done (k ∷ l) w d below apart all =
      let b = batch_of image t g in
      let u = installed b done (count_of image) t in
      let once = and_both (not (has k l)) (distinct l) d in
      let new : done k ≡ false = not_true (λ e. clash (has_head k l) (apart k e).1) in
      let more = installs_next done k (below k (has_head k l)) new (w.committing k (has_head k l)) (λ j e. (apart j e).0) in
      rw (same_run k l u w, more)
      (table_same test (also k done) l (rw more at (to_run_next k l u w)) once.1 (λ j h. below j (has_tail j k l h))
      (λ j e. let c = w.committing k (has_head k l) in grind (arith, eqb-true, apart j))
      (λ j h. grind (arith, all j h)))

  -- ---- all that commit, from the opening table

  to_run_first : ToRun (paper_order (batch_of image t g)) t
  to_run_first =
      let b = batch_of image t g in
      record {
        sized = refl;
        opening = λ k c h r. refl;
        committing = λ k h. (and_both (ltb k (count_of image)) (commits b k) (sym (order_members b k) ∙ h)).1;
        ordered = order_ordered b;
      }

  pub serial_runs_lem : serial_runs image g (paper_order (batch_of image t g)) t ≡ map (run_at image t g) (paper_order (batch_of image t g))
  serial_runs_lem = runs_same (paper_order (batch_of image t g)) t to_run_first

  pub serial_table_lem : serial_table image g (paper_order (batch_of image t g)) t ≡ table_after (batch_of image t g) t
  unfolding table_after
  serial_table_lem =
      let b = batch_of image t g in
      let l = paper_order b in
      let start : installed b nobody (count_of image) t ≡ t = installed_none b t nobody (count_of image) (λ k h. refl) in
      rw start at (table_same (commits b) nobody l (rw start to_run_first) (order_distinct b)
      (λ k h. ltb-true _ _ (and_both (ltb k (count_of image)) (commits b k) (sym (order_members b k) ∙ h)).0)
      (λ k e. clash e refl)
      (λ k h. grind (arith, order_members b k)))
