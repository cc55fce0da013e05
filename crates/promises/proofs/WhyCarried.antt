-- Document 02, ask 3: "For a batch made by these calls, prove it of the programs' own runs from the opening table." The conclusions speak of the
-- paper's batch alone. Assumes nothing.
use Prim.Native.Nat.{ℕ, ◌<◌}
use mathlib.Core.Path.{◌≡◌, refl, sym, ap, ◌∙◌}
use mathlib.Core.Bool.{true, false, cond}
use mathlib.Core.List.{List}
use native.Mathlib.Omega.{arith}
use lib.ListN.{length}
use borrow.Author.Tests.{eq-eqb}
use Rattle.std.specs.Prelude.{Ok, Err}
use Rattle.image.specs.declared.refusals.Refusal.TheVariants as refusal
use Rattle.image.specs.Refusals.{passed}
use Rattle.image.specs.Image.{count_of}
use Rattle.image.proofs.Refusing.{fails, goes_on, first_refuses, first_passes, unless_done}
use Rattle.slot.specs.declared.Group.TheVariants as group
use Rattle.slot.specs.declared.ListKind.{ListKind}
use Rattle.slot.specs.declared.ListKind.TheVariants.{Reads, Stores}
use Rattle.area.specs.declared.MarkKind.{MarkKind}
use Rattle.area.specs.declared.MarkKind.TheVariants.{Write, Read}
use Rattle.area.specs.Layout.{detail_of, in_group}
use Rattle.area.specs.Marks.{list_for}
use Rattle.area.proofs.Checks.{checked_is}
use Rattle.steps.specs.declared.Reason.{Reason}
use Rattle.steps.specs.declared.Reason.TheVariants.{Waw, Raw, RawWithWar}
use Rattle.steps.specs.declared.Settled.TheVariants.{Carried}
use Rattle.steps.specs.Answers.{reason_number, detail_of_settled}
use Rattle.steps.specs.Settling.{verdict}
use Rattle.causes.specs.declared.answers.Cause.{Cause}
use Rattle.causes.specs.Causes.{cause_of}
use Rattle.causes.specs.Why.{explained, is_reason, explained_by, ask_refusal, carried_refusal, holds_reason, why_refusal, why_answer}
use Rattle.causes.proofs.Refusals.{ask_passes}
use Rattle.promises.specs.Paper.{Batch, batch_of, gets_settled, touches, commits, reason}
use Rattle.promises.specs.Laid.{World}
use Rattle.promises.specs.History.{is_over, RunToEnd}
use Rattle.promises.specs.Causes.{is_carried_in, TrueCause, TrueOf}
use Rattle.promises.proofs.Deciding.{settled_keeps, Has, reason_has, decision_on, decision_detail}
use Rattle.promises.proofs.AtEnd.{PaperEnd, paper_ends, end_sized}
use Rattle.promises.proofs.NextBatch.{carried_are}

-- a true cause is the only one
pub one_cause : (mine theirs : ListKind) (b : Batch) (k : ℕ) (v u : Cause) → TrueCause mine theirs b k v → TrueCause mine theirs b k u → v ≡ u
one_cause mine theirs b k v u p q =
    let same_cell : v.cell ≡ u.cell =
    omega (arith, p.lowest u.cell u.program q.earlier q.own_cell q.its_cell, q.lowest v.cell v.program p.earlier p.own_cell p.its_cell) in
    let same_program : v.program ≡ u.program =
    omega (arith, p.smallest u.program q.earlier (rw (sym same_cell) at q.its_cell), q.smallest v.program p.earlier (rw same_cell at p.its_cell)) in
    λ i. record { cell = same_cell i; program = same_program i }

module _ (image t g : List ℕ) (w : World) (run : RunToEnd image t g w) (k : ℕ) (number : k < count_of image) where
  abbrev b : Batch
  b = batch_of image t g

  end : PaperEnd image t g w
  end = paper_ends run

  -- ---- the checks

  pub asks : passed ≡ ask_refusal image w.table g w.area k
  unfolding is_over
  asks = ask_passes image w.table g w.area k (checked_is image w.table g w.area end.checks end.pairs) number run.over

  group_is : in_group group.Carried (length w.table) w.area k ≡ is_carried_in b k
  unfolding is_carried_in
  group_is = rw (end_sized end) (carried_are image t g w run k number)

  -- a dependency of the paper's has its cause
  cause_of_lem : (l : ListKind) (m : MarkKind) → touches l (list_for m) b k ≡ true → TrueCause l (list_for m) b k (cause_of l m (length t) k w.area)
  cause_of_lem l m has = end.causes k number l m (end.depends_is k number l m ∙ has)

  module _ (carried : is_carried_in b k ≡ true) where
    ran : gets_settled b k ≡ true
    unfolding is_carried_in
    ran = grind arith

    uncommitted : commits b k ≡ false
    unfolding is_carried_in
    uncommitted = grind arith

    -- the decision is to carry it, and its slot says so
    carried_for : decision_on b k ≡ Carried (reason b k)
    unfolding decision_on
    carried_for = rw uncommitted

    decided_so : verdict image (length t) k w.area ≡ Carried (reason b k)
    decided_so = end.decides k number ran ∙ carried_for

    told_so : detail_of (length t) k w.area ≡ reason_number (reason b k)
    told_so = end.detail_is k number ∙ (sym (decision_detail b k ran) ∙ ap detail_of_settled carried_for)

    reason_holds : holds_reason image (length w.table) k w.area ≡ true
    unfolding holds_reason is_reason
    reason_holds = rw (end_sized end, decided_so) (eq-eqb _ _ told_so)

    not_refused : passed ≡ why_refusal image w.table g w.area k
    unfolding why_refusal carried_refusal
    not_refused = first_passes (first_passes asks refl (goes_on _ (group_is ∙ carried) refl)) refl (goes_on _ reason_holds refl)

    answered : why_answer image w.table g w.area k ≡ Ok (explained (reason b k) (length t) k w.area)
    unfolding why_answer explained_by
    answered =
        unless_done (why_refusal image w.table g w.area k) Err _ (sym not_refused)
        ∙ rw (end_sized end, decided_so)

    -- ---- the causes

    causes_true : (r : Reason) → reason b k ≡ r → Has r b k → TrueOf b k (Ok (explained r (length t) k w.area))
    unfolding explained
    causes_true Waw e has = (e, cause_of_lem Stores Write has)
    causes_true Raw e has = (e, cause_of_lem Reads Write has)
    causes_true RawWithWar e has = (e, cause_of_lem Reads Write has.0, cause_of_lem Stores Read has.1)

  -- Every carried program gets its cause, and 13 is for the others: 15 never happens.
  pub why_refuses : why_refusal image w.table g w.area k ≡ cond (is_carried_in b k) passed (Err refusal.NotCarried)
  unfolding why_refusal carried_refusal
  why_refuses = grind (arith, not_refused, others)
    where
      others : is_carried_in b k ≡ false → Err refusal.NotCarried ≡ why_refusal image w.table g w.area k
      others e = first_refuses _ (first_passes asks refl (fails _ (group_is ∙ e))) refl

  -- "say the reason with its cause .. prove it of the programs' own runs from the opening table": the answer's reason is the paper's, its cell is the
  -- lowest that this program's run and an earlier finished program's share so, and the program is the smallest of those for that cell.
  pub why_true : is_carried_in b k ≡ true → TrueOf b k (why_answer image w.table g w.area k)
  why_true carried =
      rw (answered carried)
      (causes_true carried (reason b k) refl (reason_has b k (sym (settled_keeps b k) ∙ ran carried) (uncommitted carried)))
