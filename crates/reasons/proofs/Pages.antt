-- Laws of the page: a carried program's place, what is said in each state, and what the detail of a fault says. Assumes nothing.
use Prim.Native.Nat.{ℕ, ◌+◌, ◌-◌, ◌*◌, ◌/◌, ◌%◌, ◌≤◌, ◌<◌}
use mathlib.Core.Path.{◌≡◌}
use mathlib.Core.Bool.{cond}
use mathlib.Core.List.{List}
use native.Mathlib.Omega.{arith}
use native.Mathlib.Numerals.{add-one}
use Rattle.std.proofs.lemmas.Grind.{common_steps}
use Rattle.base.specs.Words.{count}
use Rattle.base.proofs.Counts.{count_none, count_le}
use Rattle.slot.specs.declared.Group.TheVariants.{Carried}
use Rattle.slot.specs.States.{is_in}
use Rattle.area.specs.Layout.{state_of, in_group}
use Rattle.machine.specs.declared.FaultKind.TheVariants as fault
use Rattle.machine.specs.declared.Run.TheVariants.{Faulted}
use Rattle.machine.specs.Runs.{load_fault, store_fault, detail_of_run}
use Rattle.sentences.specs.Sentences as sentences
use Rattle.reasons.specs.Reasons.{faulted_text, place_of}

module _ (T : ℕ) (a : List ℕ) where
  pub place_none : place_of T 0 a ≡ 0
  unfolding place_of
  place_none = count_none (in_group Carried T a)

  pub place_more : (k : ℕ) → place_of T (k + 1) a ≡ cond (is_in Carried (state_of T k a)) 1 0 + place_of T k a
  unfolding place_of count in_group
  place_more k = rw (add-one k)

  pub place_low : (k : ℕ) → place_of T k a ≤ k
  unfolding place_of
  place_low k = count_le (in_group Carried T a) k

pub ruleset places = (common_steps, place_none, place_more, place_low)

-- ---- the detail that a fault leaves is read back: its kind, and where it was

module _ (k at T : ℕ) (few : at < 256) where
  parts_back : (kind : ℕ) → ((256 * kind + at) / 256 ≡ kind) × ((256 * kind + at) % 256 ≡ at)
  parts_back kind = (omega arith, omega arith)

  pub reads_load : faulted_text k (detail_of_run (Faulted fault.Load at)) T ≡ sentences.load_fault k at (T - 1)
  unfolding faulted_text
  reads_load = rw ((parts_back load_fault).0, (parts_back load_fault).1)

  pub reads_store : faulted_text k (detail_of_run (Faulted fault.Store at)) T ≡ sentences.store_fault k at (T - 1)
  unfolding faulted_text
  reads_store = rw ((parts_back store_fault).0, (parts_back store_fault).1)
