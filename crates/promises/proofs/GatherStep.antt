-- Gathering one program more: the area of the gathered ones becomes that of the gathered ones and this one. Assumes nothing.
use mathlib.Core.Path.{◌≡◌, refl, sym, ap, ◌∙◌}
use mathlib.Core.Bool.{Bool, false}
use mathlib.Core.List.{List}
use Prim.Native.Nat.{ℕ, ◌<◌}
use native.Mathlib.Decide.{ℕ_discrete}
use lib.ListN.{length}
use Rattle.base.specs.Words.{words, tabulate}
use Rattle.slot.specs.Log.{cells_of}
use Rattle.machine.specs.Runs.{slot_of}
use Rattle.area.specs.declared.MarkKind.{MarkKind}
use Rattle.area.specs.Layout.{area_words, marks_at, slot_at}
use Rattle.area.specs.Marks.{list_for, reserve}
use Rattle.area.proofs.Views.{area_ext}
use Rattle.steps.specs.Gathering.{gathered_by}
use Rattle.steps.proofs.Views.{gathered_length, gathered_marks, gathered_own, gathered_other}
use Rattle.promises.specs.Paper.{Batch, sets}
use Rattle.promises.specs.Laid.{mark_on, slot_on, area_on}
use Rattle.promises.proofs.Sets.{also, also_own, also_other}
use Rattle.promises.proofs.MarkLaws.{marks_more}
use Rattle.promises.proofs.SlotLaws.{slot_ext}
use Rattle.promises.proofs.Views.{Fitting, on_length, marks_on, slot_on_lem}

module _ (b : Batch) (G S : ℕ → Bool) (T k : ℕ) (fits : Fitting b T) (l : k < b.programs) (unsettled : S k ≡ false) where
  abbrev a : List ℕ
  a = area_on b G S T

  sized : length a ≡ area_words T b.programs
  sized = on_length b G S T fits

  made_marks : (m : MarkKind) → words (marks_at m T) T (gathered_by T k (b.runs k) a) ≡ tabulate (mark_on m b (also k G)) T
  unfolding mark_on Fitting
  made_marks m =
      gathered_marks T (b.runs k) (fits k l) b.programs k a sized l m
      ∙ (ap (reserve 0 (cells_of (list_for m) (sets b k)) k) (marks_on b G S T fits m)
      ∙ marks_more (λ j. cells_of (list_for m) (sets b j)) G b.programs k T l)

  own_slot : slot_of (b.runs k) ≡ slot_on b (also k G) S k
  unfolding slot_on
  own_slot = rw (also_own k G, unsettled)

  made_slot : (j : ℕ) → j < b.programs → slot_at T j (gathered_by T k (b.runs k) a) ≡ slot_on b (also k G) S j
  unfolding Fitting
  made_slot j m = go (ℕ_discrete j k)
    where
      go : Dec (j ≡ k) → slot_at T j (gathered_by T k (b.runs k) a) ≡ slot_on b (also k G) S j
      go (yes e) = rw e (gathered_own T (b.runs k) (fits k l) b.programs k a sized l ∙ own_slot)
      go (no e) =
          gathered_other T (b.runs k) (fits k l) b.programs k a sized l j m e
          ∙ (slot_on_lem b G S T fits j m ∙ slot_ext b G S j (also k G) S (sym (also_other k G j e)) (λ _. refl))

  pub gathered_more : gathered_by T k (b.runs k) (area_on b G S T) ≡ area_on b (also k G) S T
  unfolding Fitting
  gathered_more =
      area_ext T b.programs (gathered_by T k (b.runs k) a) (area_on b (also k G) S T)
      (gathered_length T (b.runs k) (fits k l) b.programs k a sized l ∙ sized) (on_length b (also k G) S T fits)
      (λ m. made_marks m ∙ sym (marks_on b (also k G) S T fits m))
      (λ j m. made_slot j m ∙ sym (slot_on_lem b (also k G) S T fits j m))
