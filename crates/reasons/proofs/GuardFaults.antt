-- What the page says of a fault of kind 3 is so (document 02, ask 5): where a program's slot holds what its run on the opening table left, with these guards, and
-- that run faulted so, the page names its store, which is to a cell of the table and of a value that the cell's guard does not admit. Assumes nothing.
use Prim.Native.Nat.{ℕ, ◌+◌, ◌*◌, ◌/◌, ◌%◌, ◌<◌}
use mathlib.Core.Path.{◌≡◌, ap, ◌∙◌}
use mathlib.Core.Bool.{false}
use mathlib.Core.List.{List}
use native.Mathlib.Omega.{arith}
use lib.ListN.{length}
use Rattle.image.specs.Refusals.{passed}
use Rattle.image.specs.Image.{count_of, refusal_of, part_of}
use Rattle.guard.specs.Guards.{low_of, high_of, admits}
use Rattle.slot.specs.States as state
use Rattle.machine.specs.declared.FaultKind.TheVariants as fault
use Rattle.machine.specs.declared.Run.TheVariants.{Faulted}
use Rattle.machine.specs.Runs.{guard_fault, state_of_run, detail_of_run}
use Rattle.machine.proofs.Laws.{part_runnable}
use Rattle.machine.proofs.Guarded.{guard_met}
use Rattle.area.specs.Layout.{state_of, detail_of}
use Rattle.steps.specs.Gathering.{run_at}
use Rattle.sentences.specs.Sentences as sentences
use Rattle.reasons.specs.Reasons.{guard_faulted, last_store, guard_text, program_text}

-- What is said, and that it is so.
pub record TellsGuard (image opening t g a : List ℕ) (k at : ℕ) : Type 0 where
  pub said : (let store = last_store image opening g k in
      program_text image opening t g a k ≡ sentences.guard_fault k at store (low_of g store.cell) (high_of g store.cell))
  pub in_table : (last_store image opening g k).cell < length opening
  pub not_admitted_lem : admits g (last_store image opening g k).cell (last_store image opening g k).value ≡ false

pub tells_guard : (image opening t g a : List ℕ) (k at : ℕ) → refusal_of image ≡ passed → k < count_of image
    → (run_at image opening g k).answer ≡ Faulted fault.Guard at
    → state_of (length t) k a ≡ state_of_run (run_at image opening g k).answer → detail_of (length t) k a ≡ detail_of_run (run_at image opening g k).answer
    → TellsGuard image opening t g a k at
unfolding program_text guard_faulted guard_text
tells_guard image opening t g a k at accepted within faulted state_is detail_is =
    let met = guard_met (part_of image k) opening g at faulted in
    let few : at < 256 = omega (arith, met.in_program, (part_runnable image accepted k within).short) in
    let s : state_of (length t) k a ≡ state.faulted = state_is ∙ ap state_of_run faulted in
    let d : detail_of (length t) k a ≡ 256 * guard_fault + at = detail_is ∙ ap detail_of_run faulted in
    let kind : (256 * guard_fault + at) / 256 ≡ guard_fault = omega arith in
    let place : (256 * guard_fault + at) % 256 ≡ at = omega arith in
    record { said = rw (s, d, kind, place); in_table = met.in_table; not_admitted_lem = met.refused }
