-- The slot at a run's end: `finish`. Assumes nothing.
use Rattle.std.proofs.Common.{◌≡◌, ℕ, List, length, ap, ◌∙◌}
use Rattle.slot.specs.States.{waiting}
use Rattle.slot.specs.Layout.{slot_words}
use Rattle.slot.specs.Log.{Log, layout, log_of}
use Rattle.slot.proofs.Slots.{layout_length, layout_log}
use Rattle.machine.specs.declared.Run.{Run}
use Rattle.machine.specs.Runs.{Outcome, Judge, run_by, state_of_run, detail_of_run, kept, slot_of, Runnable}
use Rattle.machine.proofs.Laws.{run_fits}

-- what `finish` leaves
abbrev pub end_of : Run → Log → List ℕ
end_of x l = layout (state_of_run x) (detail_of_run x) (kept x l)

-- the log of a run fits the slot that it is written into
module _ (may : Judge) (p t : List ℕ) (runs : Runnable p) {s : List ℕ} (e : s ≡ layout waiting 0 (run_by may p t).log) where
  pub outcome_log : log_of s ≡ (run_by may p t).log
  outcome_log = ap log_of e ∙ layout_log waiting 0 (run_by may p t).log (length t) (run_fits may p t runs.short)

  pub outcome_words : length s ≡ slot_words
  outcome_words = ap length e ∙ layout_length waiting 0 (run_by may p t).log (length t) (run_fits may p t runs.short)

-- the slot at the end is the one that the definition says
pub end_is : (o : Outcome) {x : Run} {l : Log} → x ≡ o.answer → l ≡ o.log → end_of x l ≡ slot_of o
unfolding slot_of
end_is o p q = rw (p, q)
