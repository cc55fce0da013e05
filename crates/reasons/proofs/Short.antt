-- Every page is short: at most `longest` bytes for each of at most 64 programs, where bytes have 8 bits, and cells, guards and the words of the area 32.
-- Assumes nothing.
use Prim.Native.Nat.{ℕ, ◌+◌, ◌-◌, ◌/◌, ◌%◌, ◌≤◌, ◌<◌}
use mathlib.Core.Bool.{Bool, true, false, cond}
use mathlib.Core.List.{List}
use native.Mathlib.Omega.{arith}
use lib.Dec.{eqb}
use lib.ListN.{length, get_or, length-append}
use Rattle.std.specs.Prelude.{Some, None, Ok, Err}
use Rattle.base.proofs.Leasts.{least_smallest}
use Rattle.text.proofs.Fillings.{texts_short}
use Rattle.image.specs.Limits.{max_programs, max_cells}
use Rattle.image.specs.declared.refusals.Refusal.{Refusal}
use Rattle.image.specs.declared.refusals.Refusal.TheVariants as refusal
use Rattle.image.specs.Image.{count_of, part_of}
use Rattle.image.proofs.Refusing.{unless_either}
use Rattle.guard.specs.Guards.{low_of, high_of, admits}
use Rattle.slot.specs.declared.ListKind.{ListKind}
use Rattle.slot.specs.declared.Group.TheVariants.{Committed, Carried}
use Rattle.slot.specs.States as state
use Rattle.machine.specs.Runs as run
use Rattle.image.proofs.Laws.{part_bytes}
use Rattle.machine.proofs.Values.{last_fits}
use Rattle.area.specs.declared.MarkKind.{MarkKind}
use Rattle.area.specs.Layout.{marks_at, list_of, state_of, detail_of, in_group}
use Rattle.area.specs.Marks.{raw, shows, lowest, lowest_of}
use Rattle.steps.specs.declared.Reason.{Reason}
use Rattle.steps.specs.declared.Reason.TheVariants as reason
use Rattle.steps.specs.declared.Settled.{Settled}
use Rattle.steps.specs.declared.Settled.TheVariants as settled
use Rattle.steps.specs.Settling.{verdict}
use Rattle.causes.specs.Causes.{cause_of, raw_cause}
use Rattle.causes.specs.Why.{explained, explained_by, ask_refusal, why_refusal, why_answer, before_of, before_answer}
use Rattle.refused.specs.Refused.{refused_line}
use Rattle.sentences.specs.Sentences.{longest_reason, longest_again, longest}
use Rattle.refused.proofs.Lines.{refused_short}
use Rattle.sentences.proofs.Lengths.{Small, SmallCause, free_short, turned_short, waw_short, raw_short, raw_with_war_short, again_short}
use Rattle.sentences.proofs.Lengths.{rejected_short, load_fault_short, store_fault_short, guard_fault_short}
use Rattle.reasons.specs.Reasons.{committed_text, again_text, why_text, carried_text, faulted_text, guard_faulted, last_store, guard_text, ended_text, program_text, reasons_text, longest_page, CanTell}
use Rattle.reasons.proofs.Pages.{place_low}

-- ---- what the library answers

-- the words of the area have 32 bits
abbrev pub WordsOf : List ℕ → Type 0
WordsOf a = (i : ℕ) → Small (get_or a i 0)

refused_fits : (r : Refusal) → length (refused_line r) ≤ longest
refused_fits r = omega (arith, refused_short r)

came_again_short : (p : ℕ) → p < max_programs → length (again_text p) ≤ longest_again
unfolding again_text
came_again_short p l = again_short p _ (omega arith) (omega arith)

module _ (T : ℕ) (few : T ≤ max_cells) (a : List ℕ) (words : WordsOf a) (k : ℕ) (h : Small k) where
  cause_small : (l : ListKind) (m : MarkKind) → SmallCause (cause_of l m T k a)
  unfolding cause_of lowest lowest_of
  cause_small l m = (
    omega (arith, (least_smallest (shows (marks_at m T) (list_of l T k a) k a) T).within),
    omega (arith, words (marks_at m T + lowest l m T k a)),
  )

  reason_short : (r : Reason) → length (why_text (explained r T k a) k) ≤ longest_reason
  unfolding why_text explained
  reason_short reason.Waw = waw_short k h _ (cause_small _ _)
  reason_short reason.Raw = raw_short k h _ (cause_small _ _)
  reason_short reason.RawWithWar = raw_with_war_short k h _ (cause_small _ _) _ (cause_small _ _)

  settled_short : (v : Settled) (p : ℕ) → p < max_programs → length (carried_text (explained_by v T k a) k p) ≤ longest
  unfolding carried_text explained_by
  settled_short settled.Committed p l = refused_fits refusal.Reason
  settled_short (settled.Carried r) p l = rw length-append (omega (arith, reason_short r, came_again_short p l))

  before_short : (b : Bool) → length (committed_text (Ok (cond b (Some (raw_cause T k a)) None)) k) ≤ longest
  unfolding committed_text
  before_short true = omega (arith, turned_short k h (raw_cause T k a) (cause_small _ _))
  before_short false = omega (arith, free_short k h)

-- ---- what is said

-- one of two
either_short : (b : Bool) (x y : List ℕ) → length x ≤ longest → length y ≤ longest → length (cond b x y) ≤ longest
either_short true x y p q = p
either_short false x y p q = q

faulted_short : (k d T : ℕ) → Small k → T ≤ max_cells → length (faulted_text k d T) ≤ longest
unfolding faulted_text
faulted_short k d T h few =
    let place : Small (d % 256) = omega arith in
    let last : Small (T - 1) = omega arith in
    either_short (eqb (d / 256) run.load_fault) _ _ (omega (arith, load_fault_short k h (d % 256) (T - 1) place last))
    (either_short (eqb (d / 256) run.store_fault) _ _ (omega (arith, store_fault_short k h (d % 256) (T - 1) place last))
    (refused_fits refusal.Reason))

module _ (image t g a : List ℕ) (few : length t ≤ max_cells) (words : WordsOf a) where
  committed_short : (k : ℕ) → Small k → length (committed_text (before_answer image t g a k) k) ≤ longest
  unfolding before_answer before_of committed_text
  committed_short k h =
      unless_either (λ b. length (committed_text b k) ≤ longest) (ask_refusal image t g a k) Err _ (λ r e. refused_fits r)
      (λ e. before_short (length t) few a words k h (raw (length t) k a))

  carried_short : (k p : ℕ) → Small k → p < max_programs → length (carried_text (why_answer image t g a k) k p) ≤ longest
  unfolding why_answer carried_text
  carried_short k p h l =
      unless_either (λ w. length (carried_text w k p) ≤ longest) (why_refusal image t g a k) Err _ (λ r e. refused_fits r)
      (λ e. settled_short (length t) few a words k h (verdict image (length t) k a) p l)

  ended_short : (k : ℕ) → k < max_programs → length (ended_text image t g a k) ≤ longest
  unfolding ended_text detail_of
  ended_short k l =
      let h : Small k = omega arith in
      either_short (eqb (state_of (length t) k a) state.rejected) _ _ (omega (arith, rejected_short k h (detail_of (length t) k a) (words _)))
      (either_short (eqb (state_of (length t) k a) state.faulted) _ _ (faulted_short k _ (length t) h few)
      (either_short (in_group Committed (length t) a k) _ _ (committed_short k h)
      (either_short (in_group Carried (length t) a k) _ _ (carried_short k _ h (omega (arith, place_low (length t) a k)))
      (refused_fits refusal.State))))

-- a fault of kind 3: bytes, the table's cells and the guards' ends are what they are in a board's memory, and so the store's two numbers have 32 bits
module _ (image opening g : List ℕ) (bytes : (i : ℕ) → get_or image i 0 < 256) (cells : WordsOf opening) (ends : WordsOf g) where
  guard_short : (k d : ℕ) → k < max_programs → length (guard_text image opening g k (d % 256)) ≤ longest
  unfolding guard_text
  guard_short k d l =
      let store = last_store image opening g k in
      let registers = last_fits (admits g) (part_of image k) opening (part_bytes image bytes k) cells in
      let number : Small k = omega arith in
      let place : Small (d % 256) = omega arith in
      let short =
      guard_fault_short k (d % 256) store (low_of g store.cell) (high_of g store.cell) number place (registers _) (registers _) (ends _) (ends _) in
      omega (arith, short)

  module _ (t a : List ℕ) (few : length t ≤ max_cells) (words : WordsOf a) where
    program_short : (k : ℕ) → k < max_programs → length (program_text image opening t g a k) ≤ longest
    unfolding program_text
    program_short k l =
        either_short (guard_faulted (length t) k a) _ _ (guard_short k (detail_of (length t) k a) l) (ended_short image t g a few words k l)

-- ---- and so is every page

module _ (image opening t g a : List ℕ) (tell : CanTell image opening t g a) (bytes : (i : ℕ) → get_or image i 0 < 256) (cells : WordsOf opening) (ends : WordsOf g) (words : WordsOf a) where
  pub page_short : length (reasons_text image opening t g a) ≤ longest_page
  unfolding reasons_text
  page_short =
      let m = tell.measured in
      let each : (k : ℕ) → k < count_of image → length (program_text image opening t g a k) ≤ longest =
      λ k l. program_short image opening g bytes cells ends t a m.cells_few words k (omega (arith, m.programs_few)) in
      omega (arith, m.programs_few, texts_short (program_text image opening t g a) (count_of image) longest each)
