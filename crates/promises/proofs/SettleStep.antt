-- Settling one program more, once everybody is gathered: the marks decide as the paper does, and the area of the settled ones becomes that of the
-- settled ones and this one. Assumes nothing.
use mathlib.Core.Path.{◌≡◌, refl, sym, ap, ◌∙◌}
use mathlib.Core.Bool.{Bool, true, false}
use mathlib.Core.List.{List}
use Prim.Native.Nat.{ℕ, ◌<◌}
use native.Mathlib.Decide.{ℕ_discrete}
use lib.ListN.{set}
use Rattle.slot.specs.declared.ListKind.{ListKind}
use Rattle.slot.specs.Layout.{state_word, detail_word}
use Rattle.slot.specs.Log.{Log, cells_of}
use Rattle.slot.proofs.Slots.{layout_again}
use Rattle.machine.specs.Runs.{slot_of, state_of_run, detail_of_run}
use Rattle.area.specs.declared.MarkKind.{MarkKind}
use Rattle.area.specs.Layout.{marks_at, slot_at, list_of, values_of}
use Rattle.area.specs.Marks.{list_for, depends}
use Rattle.area.proofs.Views.{area_ext}
use Rattle.steps.specs.declared.Settled.{Settled}
use Rattle.steps.specs.Answers.{state_of_settled, detail_of_settled}
use Rattle.steps.specs.Settling.{settled_area}
use Rattle.steps.proofs.Views.{settled_length, settled_marks, settled_own, settled_other}
use Rattle.promises.specs.Paper.{Batch, sets, new_values, touches, state_after, detail_after}
use Rattle.promises.specs.Laid.{mark_on, slot_on, area_on}
use Rattle.promises.proofs.Sets.{also, also_own, also_other}
use Rattle.promises.proofs.MarkLaws.{hit_says}
use Rattle.promises.proofs.SlotLaws.{slot_ext, log_by}
use Rattle.promises.proofs.Views.{Fitting, on_length, marks_on, slot_on_lem, mark_on_lem, list_on, values_on}

-- ---- the area, after an answer that has the end's numbers

module _ (b : Batch) (G S : ℕ → Bool) (T k : ℕ) (fits : Fitting b T) (l : k < b.programs) (is_gathered : G k ≡ true) (unsettled : S k ≡ false)
    (v : Settled) (state_is : state_of_settled v ≡ state_after b k) (detail_is : detail_of_settled v ≡ detail_after b k) where
  own_slot : set (set (slot_on b G S k) state_word (state_of_settled v)) detail_word (detail_of_settled v) ≡ slot_on b G (also k S) k
  unfolding slot_on slot_of
  own_slot =
      rw (state_is, detail_is, is_gathered, unsettled, also_own k S)
      (layout_again (state_of_run (b.runs k).answer) (detail_of_run (b.runs k).answer) (sets b k) (state_after b k) (detail_after b k))

  made_slot : (j : ℕ) → j < b.programs → slot_at T j (settled_area v T k (area_on b G S T)) ≡ slot_on b G (also k S) j
  made_slot j m = go (ℕ_discrete j k)
    where
      go : Dec (j ≡ k) → slot_at T j (settled_area v T k (area_on b G S T)) ≡ slot_on b G (also k S) j
      go (yes e) =
          rw e
          (settled_own v T k (area_on b G S T)
          ∙ (ap (λ (x : List ℕ). set (set x state_word (state_of_settled v)) detail_word (detail_of_settled v)) (slot_on_lem b G S T fits k l)
          ∙ own_slot))
      go (no e) =
          settled_other v T k (area_on b G S T) j e
          ∙ (slot_on_lem b G S T fits j m ∙ slot_ext b G S j G (also k S) refl (λ _. sym (also_other k S j e)))

  pub settled_more : settled_area v T k (area_on b G S T) ≡ area_on b G (also k S) T
  settled_more =
      area_ext T b.programs (settled_area v T k (area_on b G S T)) (area_on b G (also k S) T)
      (settled_length v T k (area_on b G S T) ∙ on_length b G S T fits) (on_length b G (also k S) T fits)
      (λ m. settled_marks v T k (area_on b G S T) m ∙ (marks_on b G S T fits m ∙ sym (marks_on b G (also k S) T fits m)))
      (λ j m. made_slot j m ∙ sym (slot_on_lem b G (also k S) T fits j m))

-- ---- the decision

module _ (b : Batch) (G S : ℕ → Bool) (T k : ℕ) (fits : Fitting b T) (l : k < b.programs) (all : (j : ℕ) → j < b.programs → G j ≡ true) where
  -- the slot holds the run
  own_log : log_by b k (G k) ≡ sets b k
  unfolding log_by
  own_log = rw (all k l)

  pub own_list : (q : ListKind) → list_of q T k (area_on b G S T) ≡ cells_of q (sets b k)
  own_list q = list_on b G S T fits k l q ∙ ap (cells_of q) own_log

  pub own_values : values_of T k (area_on b G S T) ≡ new_values b k
  own_values = values_on b G S T fits k l ∙ ap (λ (x : Log). x.values) own_log

  -- the marks show what earlier programs store and read
  pub depends_on : (q : ListKind) (m : MarkKind) → depends q m T k (area_on b G S T) ≡ touches q (list_for m) b k
  unfolding depends touches mark_on Fitting
  depends_on q m =
      rw (own_list q)
      (hit_says (marks_at m T) (cells_of q (sets b k)) k (area_on b G S T) (λ j. cells_of (list_for m) (sets b j)) G b.programs l all
      (λ c h. mark_on_lem b G S T fits m c ((fits k l).inside q c h)))
