-- The area after each step, seen as marks and slots. Assumes nothing.
use Prim.Native.Nat.{ℕ, ◌<◌}
use mathlib.Core.Path.{◌≡◌, refl, sym, ap, ◌∙◌}
use mathlib.Core.List.{List, [], ◌∷◌}
use lib.ListN.{length, set, length-set}
use Rattle.base.specs.Words.{words}
use Rattle.slot.specs.declared.ListKind.TheVariants.{Reads, Stores}
use Rattle.slot.specs.Layout.{state_word, detail_word, slot_words}
use Rattle.slot.specs.Log.{Log, cells_of, log_of, Fits}
use Rattle.slot.proofs.Slots.{layout_length, layout_log}
use Rattle.machine.specs.Runs.{Outcome, kept_by, slot_of}
use Rattle.area.specs.declared.MarkKind.{MarkKind}
use Rattle.area.specs.declared.MarkKind.TheVariants.{Write, Read}
use Rattle.area.specs.Layout.{area_words, marks_at, slot_at, reads_of, stores_of, values_of, with_slot}
use Rattle.area.specs.Marks.{list_for, reserve, store_all}
use Rattle.area.proofs.Views.{each_mark, log_in_slot}
use Rattle.area.proofs.Changes.{slot_length, slot_own, slot_other, slot_marks, state_length, state_own, state_other, state_marks}
use Rattle.area.proofs.Changes.{reserve_length, reserve_own, reserve_read_marks, reserve_write_marks, reserve_slot}
use Rattle.area.proofs.Checks.{Passed, count_few}
use Rattle.area.proofs.Keeps.{slot_keeps, reserve_keeps}
use Rattle.steps.specs.declared.Settled.{Settled}
use Rattle.steps.specs.declared.Settled.TheVariants.{Committed, Carried}
use Rattle.steps.specs.Answers.{state_of_settled, detail_of_settled}
use Rattle.steps.specs.Gathering.{reserved, gathered_by}
use Rattle.steps.specs.Settling.{settled_table, settled_area}
use Rattle.steps.proofs.Slots.{slot_passes}

-- ---- gathering, of any outcome that fits

-- the area with the run's slot, and then with its write marks
abbrev pub placed : ℕ → ℕ → Outcome → List ℕ → List ℕ
placed T k o a = with_slot T k (slot_of o) a

abbrev pub marked : ℕ → ℕ → Outcome → List ℕ → List ℕ
marked T k o a = reserve (marks_at Write T) (kept_by o).cells k (placed T k o a)

module _ (T : ℕ) (o : Outcome) (fits : Fits T (kept_by o)) (n k : ℕ) (a : List ℕ) (sized : length a ≡ area_words T n) (l : k < n) where
  full : length (slot_of o) ≡ slot_words
  unfolding slot_of
  full = layout_length _ _ (kept_by o) T fits

  pub placed_length : length (placed T k o a) ≡ length a
  placed_length = slot_length T n k (slot_of o) a full sized l

  pub marked_length : length (marked T k o a) ≡ length a
  marked_length = reserve_length (marks_at Write T) k (kept_by o).cells (placed T k o a) ∙ placed_length

  pub gathered_length : length (gathered_by T k o a) ≡ length a
  unfolding gathered_by reserved
  gathered_length = reserve_length (marks_at Read T) k (kept_by o).reads (marked T k o a) ∙ marked_length

  pub gathered_marks : (m : MarkKind) → words (marks_at m T) T (gathered_by T k o a) ≡ reserve 0 (cells_of (list_for m) (kept_by o)) k (words (marks_at m T) T a)
  unfolding gathered_by reserved
  gathered_marks =
      each_mark _
      (reserve_write_marks T k (kept_by o).reads (marked T k o a) (fits.inside Reads)
      ∙ (reserve_own T k (kept_by o).cells (placed T k o a) (fits.inside Stores) Write
      ∙ ap (reserve 0 (kept_by o).cells k) (slot_marks T n k (slot_of o) a full sized l Write)))
      (reserve_own T k (kept_by o).reads (marked T k o a) (fits.inside Reads) Read
      ∙ ap (reserve 0 (kept_by o).reads k)
      (reserve_read_marks T k (kept_by o).cells (placed T k o a) (fits.inside Stores) ∙ slot_marks T n k (slot_of o) a full sized l Read))

  slots_stay : (j : ℕ) → slot_at T j (gathered_by T k o a) ≡ slot_at T j (placed T k o a)
  unfolding gathered_by reserved
  slots_stay j =
      reserve_slot T k (kept_by o).reads (marked T k o a) (fits.inside Reads) Read j
      ∙ reserve_slot T k (kept_by o).cells (placed T k o a) (fits.inside Stores) Write j

  own_placed : slot_at T k (placed T k o a) ≡ slot_of o
  own_placed = slot_own T n k (slot_of o) a full sized l

  pub gathered_own : slot_at T k (gathered_by T k o a) ≡ slot_of o
  gathered_own = slots_stay k ∙ own_placed

  pub gathered_other : (j : ℕ) → j < n → (j ≡ k → ⊥) → slot_at T j (gathered_by T k o a) ≡ slot_at T j a
  gathered_other j h q = slots_stay j ∙ slot_other T n k (slot_of o) a full sized l j h q

  -- what check 7 asks holds after each of the three parts of gathering
  module _ (passed : Passed T n a) where
    pub placed_passed : Passed T n (placed T k o a)
    placed_passed = slot_keeps T n k (slot_of o) a full sized l (slot_passes T o fits) passed

    pub marked_passed : Passed T n (marked T k o a)
    marked_passed = reserve_keeps T n k Write (kept_by o).cells (placed T k o a) l (fits.inside Stores) placed_passed

    pub gathered_passed : Passed T n (gathered_by T k o a)
    unfolding gathered_by reserved
    gathered_passed = reserve_keeps T n k Read (kept_by o).reads (marked T k o a) l (fits.inside Reads) marked_passed

    -- the cells that the code reads back out of the slot are those that the run kept
    lists : (b : List ℕ) → Passed T n b → slot_at T k b ≡ slot_of o
        → record { reads = reads_of T k b; cells = stores_of T k b; values = values_of T k b } ≡ kept_by o
    unfolding slot_of
    lists b q e = sym (log_in_slot T k b (count_few T k b (q.slots k l))) ∙ (ap log_of e ∙ layout_log _ _ (kept_by o) T fits)

    pub placed_stores : stores_of T k (placed T k o a) ≡ (kept_by o).cells
    placed_stores = ap (λ (x : Log). x.cells) (lists (placed T k o a) placed_passed own_placed)

    pub marked_reads : reads_of T k (marked T k o a) ≡ (kept_by o).reads
    marked_reads =
        ap (λ (x : Log). x.reads)
        (lists (marked T k o a) marked_passed (reserve_slot T k (kept_by o).cells (placed T k o a) (fits.inside Stores) Write k ∙ own_placed))

-- ---- settling

module _ (v : Settled) (T k : ℕ) (a : List ℕ) where
  pub settled_length : length (settled_area v T k a) ≡ length a
  unfolding settled_area
  settled_length = state_length T k (state_of_settled v) (detail_of_settled v) a

  pub settled_marks : (m : MarkKind) → words (marks_at m T) T (settled_area v T k a) ≡ words (marks_at m T) T a
  unfolding settled_area
  settled_marks m = state_marks T k (state_of_settled v) (detail_of_settled v) a m

  pub settled_own : slot_at T k (settled_area v T k a)
      ≡ set (set (slot_at T k a) state_word (state_of_settled v)) detail_word (detail_of_settled v)
  unfolding settled_area
  settled_own = state_own T k (state_of_settled v) (detail_of_settled v) a

  pub settled_other : (j : ℕ) → (j ≡ k → ⊥) → slot_at T j (settled_area v T k a) ≡ slot_at T j a
  unfolding settled_area
  settled_other j q = state_other T k (state_of_settled v) (detail_of_settled v) a j q

store_length : (cs vs t : List ℕ) → length (store_all cs vs t) ≡ length t
unfolding store_all
store_length [] vs t = refl
store_length (c ∷ cs) [] t = refl
store_length (c ∷ cs) (v ∷ vs) t = store_length cs vs (set t c v) ∙ length-set t c v

pub table_length : (v : Settled) (k : ℕ) (a t : List ℕ) → length (settled_table v k a t) ≡ length t
unfolding settled_table
table_length Committed k a t = store_length (stores_of (length t) k a) (values_of (length t) k a) t
table_length (Carried reason) k a t = refl
