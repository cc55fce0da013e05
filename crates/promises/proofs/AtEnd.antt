-- What the table and the area at a batch's end say, in the paper's words: who is committed, who is carried, and the listed order. Assumes nothing.
use Prim.Native.Nat.{ℕ, ◌≤◌, ◌<◌}
use mathlib.Core.Path.{◌≡◌, refl, sym, ◌∙◌, ap}
use mathlib.Core.Bool.{true, false, not, ◌&&◌}
use mathlib.Core.List.{List}
use native.Mathlib.Omega.{arith}
use lib.Dec.{ltb}
use lib.ListN.{length, get_or-eq_default}
use borrow.Author.Tests.{eq-eqb, ltb-true}
use Rattle.base.specs.Words.{count, some, has, distinct}
use Rattle.base.proofs.Bools.{and_same}
use Rattle.base.proofs.Counts.{count_ext}
use Rattle.image.specs.Image.{count_of}
use Rattle.slot.specs.declared.Group.TheVariants.{Committed, Carried}
use Rattle.slot.specs.declared.ListKind.{ListKind}
use Rattle.slot.specs.States.{waiting, is_committed, is_carried, is_done, is_in}
use Rattle.area.specs.declared.MarkKind.{MarkKind}
use Rattle.area.specs.Layout.{area_words, state_at, state_of, detail_of, in_group, reads_of, stores_of}
use Rattle.area.specs.Marks.{list_for, depends}
use Rattle.area.specs.Checks.{Checked, Slotted, Paired}
use Rattle.area.proofs.Checks.{program_slotted}
use Rattle.steps.specs.Settling.{verdict}
use Rattle.causes.specs.Causes.{cause_of}
use Rattle.causes.proofs.Naming.{found}
use Rattle.listing.specs.Listing.{committed_count, order_of, order_exists}
use Rattle.listing.proofs.Taken.{listed_ext}
use Rattle.promises.specs.Paper.{Batch, batch_of, keeps_stores, gets_settled, read_set, write_set, touches, commits}
use Rattle.promises.specs.Paper.{state_after, detail_after, table_after}
use Rattle.promises.specs.Laid.{World, all, paper_world}
use Rattle.promises.specs.History.{RunToEnd}
use Rattle.promises.specs.Causes.{TrueCause}
use Rattle.promises.proofs.Deciding.{commits_keeps, settled_keeps, decision_on}
use Rattle.promises.proofs.Installing.{installed_length, table_length}
use Rattle.promises.proofs.SettleStep.{depends_on}
use Rattle.promises.proofs.Stepping.{Opens, opens, runs_fit, checked_on, paired_on, verdict_on}
use Rattle.promises.proofs.Causing.{cause_true}
use Rattle.promises.proofs.Histories.{paper_end, paper_table, paper_state, paper_detail, paper_reads, paper_stores}
use Rattle.promises.proofs.PaperOrder.{paper_order, order_members, order_distinct, order_length}

-- ---- how a program ends, by the paper

module _ (b : Batch) (k : ℕ) where
  pub committed_is : is_committed (state_after b k) ≡ commits b k
  unfolding is_committed state_after
  committed_is = grind (arith, commits_keeps b k, settled_keeps b k)

  pub carried_is : is_carried (state_after b k) ≡ gets_settled b k && not (commits b k)
  unfolding is_carried state_after
  carried_is = grind (arith, settled_keeps b k)

  -- committed, rejected and faulted are all the ends but one
  pub done_is : is_done (state_after b k) ≡ not (is_carried (state_after b k))
  unfolding is_done is_committed is_carried state_after
  done_is = grind (arith, settled_keeps b k)

-- nothing is earlier than program 0, so it has nothing against it
pub zero_commits : (b : Batch) → commits b 0 ≡ keeps_stores b 0
unfolding commits touches some
zero_commits b = grind arith

pub zero_ends : (b : Batch) → is_carried (state_after b 0) ≡ false
zero_ends b = grind (arith, carried_is b 0, zero_commits b, settled_keeps b 0)

waiting_uncarried : is_carried waiting ≡ false
unfolding is_carried
waiting_uncarried = refl

-- ---- and by the area

-- where the area ends there is no state
state_past : (T n k : ℕ) (a : List ℕ) → length a ≡ area_words T n → n ≤ k → state_of T k a ≡ 0
unfolding state_of
state_past T n k a e l = get_or-eq_default a 0 {n = state_at T k} (omega arith)

-- all that is asked of the end here: the table is the paper's, the checks pass, each slot tells its program's state, detail, reads and stores, the
-- marks decide as the paper does, and the cells that they show are those of the runs
pub record PaperEnd (image t g : List ℕ) (w : World) : Type 0 where
  pub table_is : w.table ≡ table_after (batch_of image t g) t
  pub checks : Checked image w.table w.area
  pub pairs : Paired w.table g
  pub state_is : (k : ℕ) → k < count_of image → state_of (length t) k w.area ≡ state_after (batch_of image t g) k
  pub detail_is : (k : ℕ) → k < count_of image → detail_of (length t) k w.area ≡ detail_after (batch_of image t g) k
  pub reads_are : (k : ℕ) → k < count_of image → reads_of (length t) k w.area ≡ read_set (batch_of image t g) k
  pub stores_are : (k : ℕ) → k < count_of image → stores_of (length t) k w.area ≡ write_set (batch_of image t g) k
  pub decides : (k : ℕ) → k < count_of image → gets_settled (batch_of image t g) k ≡ true
      → verdict image (length t) k w.area ≡ decision_on (batch_of image t g) k
  pub depends_is : (k : ℕ) → k < count_of image → (l : ListKind) (m : MarkKind)
      → depends l m (length t) k w.area ≡ touches l (list_for m) (batch_of image t g) k
  pub causes : (k : ℕ) → k < count_of image → (l : ListKind) (m : MarkKind) → depends l m (length t) k w.area ≡ true
      → TrueCause l (list_for m) (batch_of image t g) k (cause_of l m (length t) k w.area)

paper_shows : (image t g : List ℕ) → Opens image t g → PaperEnd image t g (paper_world image t g)
paper_shows image t g opens =
    record {
      table_is = paper_table image t g;
      checks = checked_on image t g opens all all;
      pairs = paired_on image t g opens all all;
      state_is = paper_state image t g opens.accepted;
      detail_is = paper_detail image t g opens.accepted;
      reads_are = paper_reads image t g opens.accepted;
      stores_are = paper_stores image t g opens.accepted;
      decides = λ k l ran. verdict_on image t g opens all all k l (λ j _. refl) ran;
      depends_is = λ k l. depends_on (batch_of image t g) all all (length t) k (runs_fit image t g opens.accepted) l (λ j _. refl);
      causes = λ k l q m d.
          let slotted : Slotted (length t) k (paper_world image t g).area =
          rw (table_length (batch_of image t g) t all) at (program_slotted image _ _ (checked_on image t g opens all all) k l) in
          cause_true (batch_of image t g) (length t) k (runs_fit image t g opens.accepted) l q m (found (length t) k _ slotted q m d);
    }

pub paper_ends : {image t g : List ℕ} {w : World} → RunToEnd image t g w → PaperEnd image t g w
paper_ends {image} {t} {g} {w} run = rw (paper_end image t g w run) (paper_shows image t g (opens image t g run.found run.opens))

module _ {image t g : List ℕ} {w : World} (end : PaperEnd image t g w) where
  pub end_sized : length w.table ≡ length t
  unfolding table_after
  end_sized = ap length end.table_is ∙ installed_length (batch_of image t g) t (commits (batch_of image t g)) (count_of image)

  pub end_committed : (k : ℕ) → k < count_of image → in_group Committed (length t) w.area k ≡ commits (batch_of image t g) k
  unfolding in_group is_in
  end_committed k l = rw (end.state_is k l) (committed_is (batch_of image t g) k)

  pub end_carried : (k : ℕ) → k < count_of image → in_group Carried (length t) w.area k ≡ is_carried (state_after (batch_of image t g) k)
  unfolding in_group is_in
  end_carried k l = ap is_carried (end.state_is k l)

  pub end_count : committed_count (length t) (count_of image) w.area ≡ count (commits (batch_of image t g)) (count_of image)
  unfolding committed_count
  end_count = count_ext _ _ (count_of image) end_committed

  pub end_order : order_of (length t) (count_of image) w.area ≡ paper_order (batch_of image t g)
  unfolding order_of paper_order
  end_order =
      listed_ext (count_of image) _ _ _ _ (count_of image) _ _
      (record { left_same = end_committed; reads_same = λ k l e. end.reads_are k l; stores_same = λ k l e. end.stores_are k l })

  -- the taking gets through
  pub end_exists : order_exists (length t) (count_of image) w.area ≡ true
  unfolding order_exists
  end_exists = eq-eqb _ _ (ap length end_order ∙ order_length (batch_of image t g) ∙ sym end_count)

  pub end_distinct : distinct (order_of (length t) (count_of image) w.area) ≡ true
  end_distinct = ap distinct end_order ∙ order_distinct (batch_of image t g)

  pub end_members : (k : ℕ) → has k (order_of (length t) (count_of image) w.area) ≡ ltb k (count_of image) && in_group Committed (length t) w.area k
  end_members k =
      rw end_order (order_members (batch_of image t g) k)
      ∙ and_same (ltb k (count_of image)) (λ e. sym (end_committed k (ltb-true k (count_of image) e)))

  -- a program that is not carried is done with
  pub end_done : (k : ℕ) → k < count_of image → is_done (state_of (length t) k w.area) ≡ not (in_group Carried (length t) w.area k)
  unfolding in_group is_in
  end_done k l = rw (end.state_is k l) (done_is (batch_of image t g) k)

  -- program 0 is not carried; where there is none, the area ends before its slot
  pub end_zero : in_group Carried (length t) w.area 0 ≡ false
  unfolding in_group is_in
  end_zero =
      let past = state_past (length t) (count_of image) 0 w.area (rw end_sized at end.checks.sized) in
      grind (arith, end.state_is 0, zero_ends (batch_of image t g), past, waiting_uncarried)
