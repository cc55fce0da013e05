-- The cause that marks and slot show, at the end of a batch, is that of the programs' runs: each mark is 1 + the smallest program whose run has the
-- cell. Assumes nothing.
use Prim.Native.Nat.{ℕ, ◌+◌, ◌-◌, ◌≤◌, ◌<◌}
use mathlib.Core.Path.{◌≡◌, refl, sym, ap, ◌∙◌}
use mathlib.Core.Bool.{Bool, true}
use mathlib.Core.List.{List}
use native.Mathlib.Omega.{arith}
use lib.ListN.{get_or}
use Rattle.base.specs.Words.{first, has}
use Rattle.base.proofs.Members.{has_none}
use Rattle.base.proofs.Numbers.{first_some, first_is}
use Rattle.slot.specs.declared.ListKind.{ListKind}
use Rattle.slot.specs.Log.{Log, cells_of}
use Rattle.machine.specs.declared.Run.{Run}
use Rattle.machine.specs.Runs.{keeps, kept}
use Rattle.area.specs.declared.MarkKind.{MarkKind}
use Rattle.area.specs.Layout.{marks_at, list_of}
use Rattle.area.specs.Marks.{list_for, lowest}
use Rattle.area.proofs.Marks.{is_earlier}
use Rattle.area.proofs.LowestCells.{lowest_shows, lowest_low}
use Rattle.causes.specs.Causes.{cause_of}
use Rattle.promises.specs.Paper.{Batch, sets}
use Rattle.promises.specs.Laid.{mark_on, area_on, all}
use Rattle.promises.specs.Causes.{TrueCause}
use Rattle.promises.proofs.SettleStep.{own_list}
use Rattle.promises.proofs.Views.{Fitting, mark_on_lem}

-- a run that has a cell in a set has finished
set_finished : (q : ListKind) (c : ℕ) (r : Run) (l : Log) → has c (cells_of q (kept r l)) ≡ true → keeps r ≡ true
set_finished q c r l h = grind (arith, has_none c)

module _ (b : Batch) (T k : ℕ) (fits : Fitting b T) (l : k < b.programs) (q : ListKind) (m : MarkKind) where
  abbrev area : List ℕ
  area = area_on b all all T

  abbrev mark : ℕ → ℕ
  mark c = get_or area (marks_at m T + c) 0

  -- program j's run has the cell in the set that the marks name
  abbrev theirs : ℕ → ℕ → Bool
  theirs c j = has c (cells_of (list_for m) (sets b j))

  own : (c : ℕ) → has c (list_of q T k area) ≡ has c (cells_of q (sets b k))
  own c = ap (has c) (own_list b all all T k fits l (λ j _. refl) q)

  mark_is : (c : ℕ) → c < T → mark c ≡ first (theirs c) b.programs
  unfolding mark_on
  mark_is c h = mark_on_lem b all all T fits m c h

  -- an earlier run that has a cell of k's own is named by its mark
  shown : (c j : ℕ) → j < k → has c (cells_of q (sets b k)) ≡ true → theirs c j ≡ true → lowest q m T k area ≤ c
  unfolding Fitting
  shown c j h own_has it =
      let low : c < T = (fits k l).inside q c own_has in
      let s = first_some (theirs c) b.programs j (omega arith) it in
      let e = mark_is c low in
      lowest_low q m T k area c low (own c ∙ own_has) (is_earlier (mark c) k (omega (arith, s.0)) (omega (arith, s.1)))

  module _ (found : lowest q m T k area < T) where
    abbrev cell : ℕ
    cell = lowest q m T k area

    named_earlier : (0 < mark cell) × (mark cell ≤ k)
    named_earlier = let w = lowest_shows q m T k area found in (w.1, w.2)

    -- the program that the mark names has the cell
    its : theirs cell (mark cell - 1) ≡ true
    its = (first_is (theirs cell) b.programs (mark cell - 1) (sym (mark_is cell found) ∙ omega (arith, named_earlier))).1

    pub cause_true : TrueCause q (list_for m) b k (cause_of q m T k area)
    unfolding cause_of
    cause_true =
        record {
          own_cell = sym (own cell) ∙ (lowest_shows q m T k area found).0;
          earlier = omega (arith, named_earlier);
          finished = set_finished (list_for m) cell (b.runs (mark cell - 1)).answer (b.runs (mark cell - 1)).log its;
          its_cell = its;
          lowest = shown;
          smallest = λ j h it. omega (arith, (first_some (theirs cell) b.programs j (omega arith) it).1, mark_is cell found);
        }
