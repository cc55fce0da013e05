-- The numbers of an answer that is no refusal are the two words of the slot that the call leaves. Assumes nothing.
use Prim.Native.Nat.{ℕ, ◌+◌, ◌≤◌, ◌<◌}
use mathlib.Core.Path.{◌≡◌, sym, ap, ◌∙◌}
use mathlib.Core.List.{List}
use native.Mathlib.Omega.{arith}
use lib.ListN.{length, get_or}
use Rattle.std.specs.Prelude.{Ok, Err}
use Rattle.image.specs.Refusals.{passed}
use Rattle.image.proofs.Refusing.{unless_done}
use Rattle.image.specs.Image.{count_of, part_of}
use Rattle.guard.specs.Guards.{admits}
use Rattle.slot.specs.Layout.{state_word, detail_word, slot_words}
use Rattle.machine.specs.Runs.{state_of_run, detail_of_run}
use Rattle.machine.proofs.Laws.{part_runnable, slot_of_state, slot_of_detail}
use Rattle.area.specs.Layout.{slot_start, state_of, detail_of}
use Rattle.area.specs.Checks.{Checked}
use Rattle.area.proofs.Views.{state_in_slot, detail_in_slot}
use Rattle.area.proofs.Changes.{state_back, detail_back}
use Rattle.steps.specs.declared.Settled.{Settled}
use Rattle.steps.specs.Answers.{done_with, words_of, state_of_settled, detail_of_settled, numbers_of_gathered, numbers_of_settled}
use Rattle.steps.specs.Gathering.{gather_refusal, run_at, gathered_area, gather_answer, gather_area}
use Rattle.steps.specs.Settling.{settle_refusal, verdict, settled_area, settle_answer}
use Rattle.steps.specs.Settling.{settle_area}
use Rattle.steps.proofs.Refusals.{gather_shows, settle_shows}
use Rattle.steps.proofs.Views.{gathered_own}
use Rattle.steps.proofs.Keeps.{fits}

same_words : (T k : ℕ) (a : List ℕ) (state detail : ℕ) → state_of T k a ≡ state → detail_of T k a ≡ detail → done_with state detail ≡ words_of T k a
same_words T k a state detail e f = rw (e, f)

-- ---- gathering

module _ (image t g a : List ℕ) (k : ℕ) where
  left_words : Checked image t a → k < count_of image
      → done_with (state_of_run (run_at image t g k).answer) (detail_of_run (run_at image t g k).answer) ≡ words_of (length t) k (gathered_area image t g k a)
  left_words c h =
      let p : List ℕ = part_of image k in
      let short = (part_runnable image c.accepted k h).short in
      let own = gathered_own (length t) (run_at image t g k) (fits image t g a k c h) (count_of image) k a c.sized h in
      same_words (length t) k (gathered_area image t g k a) _ _
      (state_in_slot (length t) k (gathered_area image t g k a) ∙ (ap (λ (s : List ℕ). get_or s state_word 0) own ∙ slot_of_state (admits g) p t short))
      (detail_in_slot (length t) k (gathered_area image t g k a) ∙ (ap (λ (s : List ℕ). get_or s detail_word 0) own ∙ slot_of_detail (admits g) p t short))

  pub gather_numbers : gather_refusal image t g a k ≡ passed → numbers_of_gathered (gather_answer image t g a k) ≡ words_of (length t) k (gather_area image t g a k)
  unfolding gather_answer gather_area
  gather_numbers e =
      let w = gather_shows image t g a k e in
      ap numbers_of_gathered (unless_done (gather_refusal image t g a k) Err (Ok (run_at image t g k).answer) e)
      ∙ (left_words w.0 w.1 ∙ ap (words_of (length t) k) (sym (unless_done (gather_refusal image t g a k) (λ r. a) (gathered_area image t g k a) e)))

-- ---- settling

module _ (image t g a : List ℕ) (k : ℕ) where
  settled_words : Checked image t a → k < count_of image → (v : Settled) → numbers_of_settled (Ok v) ≡ words_of (length t) k (settled_area v (length t) k a)
  unfolding settled_area
  settled_words c h v =
      let lies : slot_start (length t) k + slot_words ≤ length a = omega (arith, c.sized) in
      same_words (length t) k (settled_area v (length t) k a) _ _
      (state_back (length t) k (state_of_settled v) (detail_of_settled v) a lies)
      (detail_back (length t) k (state_of_settled v) (detail_of_settled v) a lies)

  pub settle_numbers : settle_refusal image t g a k ≡ passed → numbers_of_settled (settle_answer image t g a k) ≡ words_of (length t) k (settle_area image t g a k)
  unfolding settle_answer settle_area
  settle_numbers e =
      let w = settle_shows image t g a k e in
      let v : Settled = verdict image (length t) k a in
      ap numbers_of_settled (unless_done (settle_refusal image t g a k) Err (Ok v) e)
      ∙ (settled_words w.0 w.1 v ∙ ap (words_of (length t) k) (sym (unless_done (settle_refusal image t g a k) (λ r. a) (settled_area v (length t) k a) e)))
