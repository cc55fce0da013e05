-- A program's slot on the way: its state, its detail and its log, and what the states tell. Assumes nothing.
use mathlib.Core.Path.{◌≡◌}
use mathlib.Core.Bool.{Bool, true, false, not, cond, ◌&&◌}
use Prim.Native.Nat.{ℕ, ◌≤◌}
use native.Mathlib.Omega.{arith}
use lib.ListN.{length, get_or}
use Rattle.slot.specs.States.{waiting, last_state, has_run, is_end, can_settle, is_settled, is_committed, is_carried}
use Rattle.slot.specs.Layout.{state_word, detail_word, slot_words}
use Rattle.slot.specs.Log.{Log, empty, layout, log_of, Fits}
use Rattle.slot.proofs.Slots.{empty_fits, layout_length, layout_state, layout_detail, layout_log, layout_waiting}
use Rattle.machine.specs.Runs.{slot_of, state_of_run, detail_of_run}
use Rattle.area.proofs.Checks.{SlotPassed, layout_passed}
use Rattle.promises.specs.Paper.{Batch, sets, gets_settled, state_after, detail_after}
use Rattle.promises.specs.Laid.{slot_on}

-- its state, detail and log, by whether the program is gathered and whether it is settled
unfoldable pub state_by : Batch → ℕ → (gathered settled : Bool) → ℕ
state_by b k g s = cond g (cond s (state_after b k) (state_of_run (b.runs k).answer)) waiting

unfoldable pub detail_by : Batch → ℕ → (gathered settled : Bool) → ℕ
detail_by b k g s = cond g (cond s (detail_after b k) (detail_of_run (b.runs k).answer)) 0

unfoldable pub log_by : Batch → ℕ → (gathered : Bool) → Log
log_by b k g = cond g (sets b k) empty

module _ (b : Batch) (G S : ℕ → Bool) (k : ℕ) where
  pub slot_is : slot_on b G S k ≡ layout (state_by b k (G k) (S k)) (detail_by b k (G k) (S k)) (log_by b k (G k))
  unfolding slot_on state_by detail_by log_by slot_of
  slot_is = grind (arith, layout_waiting)

  -- it depends on whether the program is settled only where the program is settled at all
  pub slot_ext : (G' S' : ℕ → Bool) → G k ≡ G' k → (gets_settled b k ≡ true → S k ≡ S' k) → slot_on b G S k ≡ slot_on b G' S' k
  unfolding slot_on state_after detail_after slot_of
  slot_ext G' S' g s = grind arith

  pub slot_state : get_or (slot_on b G S k) state_word 0 ≡ state_by b k (G k) (S k)
  slot_state = rw slot_is (layout_state (state_by b k (G k) (S k)) (detail_by b k (G k) (S k)) (log_by b k (G k)))

  pub slot_detail : get_or (slot_on b G S k) detail_word 0 ≡ detail_by b k (G k) (S k)
  slot_detail = rw slot_is (layout_detail (state_by b k (G k) (S k)) (detail_by b k (G k) (S k)) (log_by b k (G k)))

module _ (b : Batch) (k : ℕ) (g s : Bool) where
  pub by_few : state_by b k g s ≤ last_state
  unfolding state_by state_after
  by_few = grind arith

  -- the states tell who is gathered
  pub by_started : has_run (state_by b k g s) ≡ g
  unfolding state_by state_after has_run
  by_started = grind arith

  -- and, of those that are settled, who has been
  pub by_settled : gets_settled b k ≡ true → is_settled (state_by b k g s) ≡ g && s
  unfolding state_by state_after is_settled is_committed is_carried
  by_settled f = grind arith

  -- one is to be settled that is gathered but not settled yet, unless its run ended it
  pub by_gathered : can_settle (state_by b k g s) ≡ (g && not s) && gets_settled b k
  unfolding state_by state_after can_settle gets_settled
  by_gathered = grind arith

  -- an end is that of a program that is gathered and no longer to be settled
  pub by_ended : is_end (state_by b k g s) ≡ g && not ((g && not s) && gets_settled b k)
  unfolding state_by state_after is_end can_settle gets_settled
  by_ended = grind arith

module _ (b : Batch) (G S : ℕ → Bool) (T k : ℕ) (fits : Fits T (sets b k)) where
  log_fits : (g : Bool) → Fits T (log_by b k g)
  unfolding log_by
  log_fits true = fits
  log_fits false = empty_fits T

  pub slot_length : length (slot_on b G S k) ≡ slot_words
  slot_length = rw (slot_is b G S k) (layout_length _ _ (log_by b k (G k)) T (log_fits (G k)))

  pub slot_log : log_of (slot_on b G S k) ≡ log_by b k (G k)
  slot_log = rw (slot_is b G S k) (layout_log _ _ (log_by b k (G k)) T (log_fits (G k)))

  pub slot_passes : SlotPassed T (slot_on b G S k)
  slot_passes = rw (slot_is b G S k) (layout_passed T _ _ (log_by b k (G k)) (log_fits (G k)) (by_few b k (G k) (S k)))
