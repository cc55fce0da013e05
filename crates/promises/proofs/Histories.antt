-- Demand 2 and the first half of demand 3, both "with the same guards" (document 02, ask 5), and that only the rules act on the way: what any history
-- of the calls leaves. Assumes nothing.
use mathlib.Core.Path.{◌≡◌, refl, sym, ap, ◌∙◌}
use mathlib.Core.Bool.{true, false}
use mathlib.Core.List.{List, ◌++◌, map}
use Prim.Native.Nat.{ℕ, ◌<◌}
use lib.ListN.{length, replicate}
use Rattle.base.specs.Words.{words, tabulate, has}
use Rattle.image.specs.Refusals.{passed}
use Rattle.image.specs.Image.{count_of, refusal_of}
use Rattle.slot.specs.Layout.{slot_words}
use Rattle.slot.specs.declared.ListKind.TheVariants.{Reads, Stores}
use Rattle.slot.specs.Log.{layout, log_of}
use Rattle.machine.specs.Runs.{slot_of}
use Rattle.area.specs.declared.MarkKind.{MarkKind}
use Rattle.area.specs.declared.MarkKind.TheVariants.{Write, Read}
use Rattle.area.specs.Layout.{marks_at, state_of, detail_of, slot_at, reads_of, stores_of, values_of}
use Rattle.area.specs.Checks.{call_refusal, open_refusal}
use Rattle.steps.specs.Gathering.{run_at}
use Rattle.listing.specs.Listing.{order_of}
use Rattle.promises.specs.Paper.{batch_of, sets, read_set, write_set, new_values, gets_settled, state_after, detail_after, table_after}
use Rattle.promises.specs.Laid.{World, mark_on, slot_on, table_on, world_on, all, paper_world, gathered_in, settled_in}
use Rattle.promises.specs.History.{Step, gather, settle, world_after, is_over, Whole, RunToEnd}
use Rattle.promises.proofs.Installing.{table_opening}
use Rattle.promises.proofs.SlotLaws.{state_by, detail_by, log_by}
use Rattle.promises.proofs.Views.{Fitting, marks_on, slot_on_lem, gathered_on, log_on, state_on, detail_on, list_on, values_on}
use Rattle.promises.proofs.Stepping.{opens, Phased, runs_fit, call_on}
use Rattle.promises.proofs.Progress.{Progress, none_yet, moved_by, moved_append}
use Rattle.promises.proofs.Progress.{gathered_keeps, gathers_gathered, settles_settled, gathers_each, settles_each}
use Rattle.promises.proofs.Playing.{reached, reached_phased, world_reached}
use Rattle.promises.proofs.Endings.{says_itself, over_is, over_paper, settled_gathered}

-- ---- Demand 2: "For every batch, each program's run, its reads, stores and reservations, its outcome and the table afterwards are those of the Aria
-- paper .. under Rule 1 or Rule 2, with document 01's instructions."

-- Whatever the history, if at its end no state is 0 or 1, table and area are the paper's.
pub paper_end : (image t g : List ℕ) (w : World) → RunToEnd image t g w → w ≡ paper_world image t g
paper_end image t g w r =
    let at = world_reached image t g r.found r.opens r.history in
    let p = reached image r.history in
    r.plays ∙ (at ∙ over_paper image t g (opens image t g r.found r.opens).accepted p.gathered p.settled (rw (r.plays, at) at r.over))

-- Demand 3: "The end table, work area and listed order come out the same for all such orders." Any two histories that have ended end equal.
pub same_end : (image t g : List ℕ) (v w : World) → RunToEnd image t g v → RunToEnd image t g w → v ≡ w
same_end image t g v w r s = paper_end image t g v r ∙ sym (paper_end image t g w s)

pub same_order : (image t g : List ℕ) (v w : World) → RunToEnd image t g v → RunToEnd image t g w
    → order_of (length t) (count_of image) v.area ≡ order_of (length t) (count_of image) w.area
same_order image t g v w r s = ap (λ (x : World). order_of (length t) (count_of image) x.area) (same_end image t g v w r s)

-- The paper's world has the outcomes and the table that `Paper` gives, and in each slot its program's run.
pub paper_table : (image t g : List ℕ) → (paper_world image t g).table ≡ table_after (batch_of image t g) t
unfolding table_on table_after
paper_table image t g = refl

module _ (image t g : List ℕ) (accepted : refusal_of image ≡ passed) (k : ℕ) (number : k < count_of image) where
  pub paper_state : state_of (length t) k (paper_world image t g).area ≡ state_after (batch_of image t g) k
  unfolding state_by
  paper_state = state_on (batch_of image t g) all all (length t) (runs_fit image t g accepted) k number

  pub paper_detail : detail_of (length t) k (paper_world image t g).area ≡ detail_after (batch_of image t g) k
  unfolding detail_by
  paper_detail = detail_on (batch_of image t g) all all (length t) (runs_fit image t g accepted) k number

  pub paper_reads : reads_of (length t) k (paper_world image t g).area ≡ read_set (batch_of image t g) k
  unfolding log_by
  paper_reads = list_on (batch_of image t g) all all (length t) (runs_fit image t g accepted) k number Reads

  pub paper_stores : stores_of (length t) k (paper_world image t g).area ≡ write_set (batch_of image t g) k
  unfolding log_by
  paper_stores = list_on (batch_of image t g) all all (length t) (runs_fit image t g accepted) k number Stores

  pub paper_values : values_of (length t) k (paper_world image t g).area ≡ new_values (batch_of image t g) k
  unfolding log_by
  paper_values = values_on (batch_of image t g) all all (length t) (runs_fit image t g accepted) k number

-- ---- It is not empty

-- Every history in which each program's gathering stands somewhere, and later each gathered program's settling, has ended, whatever refused, repeated
-- or out-of-range steps stand in between.
pub whole_ends : (image t g found : List ℕ) → open_refusal image t g found ≡ passed → (first second : List Step) → Whole image t g first second
    → is_over image (world_after image t g found (first ++ second)) ≡ true
whole_ends image t g found e first second whole =
    let n : ℕ = count_of image in
    let p : Progress = moved_by n first none_yet in
    let gathered : (k : ℕ) → k < n → p.gathered k ≡ true = λ k l. gathers_gathered n k first none_yet (whole.all_gathered k l) in
    rw (world_reached image t g found e (first ++ second), moved_append n first second none_yet)
    (over_is image t g (opens image t g found e).accepted _ _
    (λ k l. (gathered_keeps n k second p (gathered k l), λ f. settles_settled n k second p gathered (whole.all_settled k l f))))

-- so it is a batch run to its end
pub whole_run : (image t g found : List ℕ) → open_refusal image t g found ≡ passed → (first second : List Step) → Whole image t g first second
    → RunToEnd image t g (world_after image t g found (first ++ second))
whole_run image t g found e first second whole =
    record { found = found; history = first ++ second; opens = e; plays = refl; over = whole_ends image t g found e first second whole }

-- The programs' numbers in any order, each gathered and then each that is to be settled settled, are such a history: "each once" is one of them.
pub orders_whole : (image t g gathering settling : List ℕ) → ((k : ℕ) → k < count_of image → has k gathering ≡ true)
    → ((k : ℕ) → k < count_of image → gets_settled (batch_of image t g) k ≡ true → has k settling ≡ true)
    → Whole image t g (map gather gathering) (map settle settling)
orders_whole image t g gathering settling each s =
    record { all_gathered = λ k l. gathers_each k gathering ∙ each k l; all_settled = λ k l f. settles_each k settling ∙ s k l f }

-- Demand 3: "Open a batch, gather every program once, then settle every gathered program once, in any two orders, refused steps between them
-- included, with nobody else changing image, table or work area. The end table, work area and listed order come out the same for all such orders."
-- They are the paper's, in whatever area each was opened.
pub any_two_orders : (image t g found found' : List ℕ) → open_refusal image t g found ≡ passed → open_refusal image t g found' ≡ passed
    → (first second first' second' : List Step) → Whole image t g first second → Whole image t g first' second'
    → (v w : World) → v ≡ world_after image t g found (first ++ second) → w ≡ world_after image t g found' (first' ++ second')
    → (v ≡ paper_world image t g) × (w ≡ v) × (order_of (length t) (count_of image) w.area ≡ order_of (length t) (count_of image) v.area)
any_two_orders image t g found found' e e' first second first' second' whole whole' v w plays plays' =
    let r = whole_run image t g found e first second whole in
    let r' = whole_run image t g found' e' first' second' whole' in
    let x = plays ∙ paper_end image t g _ r in
    let y = plays' ∙ paper_end image t g _ r' in
    (x, y ∙ sym x, ap (λ (u : World). order_of (length t) (count_of image) u.area) (y ∙ sym x))

-- ---- Only by the rules on the way

-- A batch opened on the table t in whatever area was found, any history of it, ended or not, and the world that it leaves.
module _ (image t g found : List ℕ) (opened : open_refusal image t g found ≡ passed) (history : List Step) (w : World)
    (plays : w ≡ world_after image t g found history) where
  abbrev p : Progress
  p = reached image history

  is : w ≡ world_on image t g p.gathered p.settled
  is = plays ∙ world_reached image t g found opened history

  fits : Fitting (batch_of image t g) (length t)
  fits = runs_fit image t g (opens image t g found opened).accepted

  -- Table and area are the paper's for those programs that the area's own states say are gathered and settled.
  pub on_the_way : w ≡ world_on image t g (gathered_in (length t) w.area) (settled_in (length t) w.area)
  on_the_way =
      is
      ∙ (says_itself image t g (opens image t g found opened).accepted p.gathered p.settled (reached_phased image history)
      ∙ ap (λ (x : World). world_on image t g (gathered_in (length t) x.area) (settled_in (length t) x.area)) (sym is))

  -- After any history, ended or not, the area passes check 7.
  pub checked_on_the_way : call_refusal image w.table g w.area ≡ passed
  checked_on_the_way =
      ap (λ (x : World). call_refusal image x.table g x.area) is ∙ call_on image t g (opens image t g found opened) p.gathered p.settled

  -- Each gathered slot holds its program's run from the opening table: its reads, stores and values are those of that run,
  pub log_on_the_way : (k : ℕ) → k < count_of image → gathered_in (length t) w.area k ≡ true
      → log_of (slot_at (length t) k w.area) ≡ sets (batch_of image t g) k
  unfolding log_by
  log_on_the_way k l ran =
      ap (λ (x : World). log_of (slot_at (length t) k x.area)) on_the_way ∙ (log_on (batch_of image t g) _ _ (length t) fits k l ∙ rw ran)

  -- and its state and detail are the run's, until it is settled, and then those that the paper gives it. A waiting slot is all 0.
  pub slot_on_the_way : (k : ℕ) → k < count_of image
      → slot_at (length t) k w.area ≡ slot_on (batch_of image t g) (gathered_in (length t) w.area) (settled_in (length t) w.area) k
  slot_on_the_way k l = ap (λ (x : World). slot_at (length t) k x.area) on_the_way ∙ slot_on_lem (batch_of image t g) _ _ (length t) fits k l

  pub gathered_slot : (k : ℕ) → k < count_of image → gathered_in (length t) w.area k ≡ true → settled_in (length t) w.area k ≡ false
      → slot_at (length t) k w.area ≡ slot_of (run_at image t g k)
  unfolding slot_on
  gathered_slot k l ran s = slot_on_the_way k l ∙ rw (ran, s)

  pub settled_slot : (k : ℕ) → k < count_of image → settled_in (length t) w.area k ≡ true
      → slot_at (length t) k w.area ≡ layout (state_after (batch_of image t g) k) (detail_after (batch_of image t g) k) (sets (batch_of image t g) k)
  unfolding slot_on
  settled_slot k l s = slot_on_the_way k l ∙ rw (settled_gathered (length t) w.area k s, s)

  pub waiting_slot : (k : ℕ) → k < count_of image → gathered_in (length t) w.area k ≡ false → slot_at (length t) k w.area ≡ replicate slot_words 0
  unfolding slot_on
  waiting_slot k l waits = slot_on_the_way k l ∙ rw waits

  -- While a program waits, the table is the opening table: every gathering runs on it.
  pub table_on_the_way : (k : ℕ) → k < count_of image → gathered_in (length t) w.area k ≡ false → w.table ≡ t
  unfolding Phased
  table_on_the_way k l waits =
      ap (λ (x : World). x.table) is
      ∙ table_opening (batch_of image t g) t p.settled
      (λ j m. reached_phased image history k j l m
      (sym (gathered_on (batch_of image t g) p.gathered p.settled (length t) fits k l)
      ∙ (ap (λ (x : World). gathered_in (length t) x.area k) (sym is) ∙ waits)))

  -- The marks are those of the gathered programs.
  marks_on_the_way : (m : MarkKind)
      → words (marks_at m (length t)) (length t) w.area ≡ tabulate (mark_on m (batch_of image t g) (gathered_in (length t) w.area)) (length t)
  marks_on_the_way m =
      ap (λ (x : World). words (marks_at m (length t)) (length t) x.area) on_the_way ∙ marks_on (batch_of image t g) _ _ (length t) fits m

  pub write_marks_on_the_way : words (marks_at Write (length t)) (length t) w.area
      ≡ tabulate (mark_on Write (batch_of image t g) (gathered_in (length t) w.area)) (length t)
  write_marks_on_the_way = marks_on_the_way Write

  pub read_marks_on_the_way : words (marks_at Read (length t)) (length t) w.area
      ≡ tabulate (mark_on Read (batch_of image t g) (gathered_in (length t) w.area)) (length t)
  read_marks_on_the_way = marks_on_the_way Read
