-- The laws of a run, for everyone above: what it reads and stores, that its reads decide it, the slot that it leaves, and which programs can
-- be run. `may` says which values may be stored to which cells: a guard list's judgement, or any other. Assumes nothing.
use Rattle.std.proofs.Common.{◌≡◌, ℕ, zero, suc, ◌+◌, ◌<◌, ◌≤◌, Bool, true, false, cond, ltb, List, [], ◌∷◌, length, get_or, sym, refl, ◌∙◌, add-zero}
use Rattle.std.proofs.Common.{arith, length-set, ltb-true}
use Rattle.base.specs.Words.{has}
use Rattle.base.proofs.Numbers.{every_at}
use Rattle.image.specs.Limits.{max_program_bytes}
use Rattle.image.specs.Instruction.{instructions_of, program_good}
use Rattle.image.specs.Refusals.{passed as not_refused}
use Rattle.image.specs.Image.{count_of, refusal_of, part_of, code_good}
use Rattle.image.proofs.Laws.{accepted, part_short, part_whole}
use Rattle.slot.specs.Layout.{state_word, detail_word, list_words}
use Rattle.slot.specs.Log.{Log, empty, loaded, with_read, with_store, log_of, Fits}
use Rattle.slot.proofs.Logs.{Room, read_fits, store_fits, read_room, store_room, empty_room, same_room, read_keeps, store_keeps, loads_agree}
use Rattle.slot.proofs.Slots.{empty_fits, layout_state, layout_detail, layout_log}
use Rattle.machine.specs.declared.Machine.{Machine}
use Rattle.machine.specs.declared.FaultKind.TheVariants as fault
use Rattle.machine.specs.declared.Run.{Run}
use Rattle.machine.specs.declared.Run.TheVariants.{Finished, Rejected, Faulted}
use Rattle.machine.specs.Asks.{Ask, halt, move, fetch, put, start, written, passed, ask_at}
use Rattle.machine.specs.Runs.{Effect, stop, next, Judge, outside, unfit, perform, seen, Outcome, ended, since, follow, run_from, run_by}
use Rattle.machine.specs.Runs.{state_of_run, detail_of_run, kept, kept_by, slot_of, Runnable, log_after}
use Rattle.machine.proofs.Asked.{Eight, ask_eight}

-- ---- a turn and a run, by cases

-- what a turn does: it stops, moves, loads a cell of the table, or stores one
module _ (may : Judge) (t : List ℕ) (m : Machine) (l : Log) (P : Effect → Type 0) where
  pub by_ask : (k : Ask) → ((r : Run) → P (stop r l)) → ((m' : Machine) → k ≡ move m' → P (next m' l))
      → ((a c : ℕ) → c < length t → P (next (written m a (loaded l c (get_or t c 0))) (with_read l c)))
      → ((c v : ℕ) → k ≡ put c v → c < length t → P (next (passed m) (with_store l c v)))
      → P (perform may t m l k)
  unfolding perform
  by_ask (halt r) stops moves loads stores = stops r
  by_ask (move m') stops moves loads stores = moves m' refl
  by_ask (fetch a c) stops moves loads stores = go (ltb c (length t)) refl
    where
      go : (b : Bool) → ltb c (length t) ≡ b
          → P (cond b (next (written m a (loaded l c (get_or t c 0))) (with_read l c)) (stop (Faulted fault.Load m.place) l))
      go true e = loads a c (ltb-true c (length t) e)
      go false e = stops (Faulted fault.Load m.place)
  by_ask (put c v) stops moves loads stores = go (ltb c (length t)) refl
    where
      judged : c < length t → (b : Bool) → P (cond b (next (passed m) (with_store l c v)) (unfit m l))
      judged h true = stores c v refl h
      judged h false = stops _

      go : (b : Bool) → ltb c (length t) ≡ b
          → P (cond b (cond (may c v) (next (passed m) (with_store l c v)) (unfit m l)) (outside m l))
      go true e = judged (ltb-true c (length t) e) (may c v)
      go false e = stops _

-- a run's turn, given what comes after it
abbrev pub turn_of : Judge → ℕ → List ℕ → List ℕ → Machine → Log → Outcome
turn_of may n p t m l = since m.place (seen t l (ask_at p m)) (follow m (run_from may n p t) (perform may t m l (ask_at p m)))

-- what every turn keeps of the log, counting the turns, holds of the log of a run
module _ (may : Judge) (p t : List ℕ) (P : ℕ → Log → Type 0) (wait : (u : ℕ) (l : Log) → P u l → P (u + 1) l)
    (turn : (u : ℕ) (m : Machine) (l : Log) → P u l → P (u + 1) (log_after (perform may t m l (ask_at p m)))) where
  waits : (n u : ℕ) (l : Log) → P u l → P (u + n) l
  waits zero u l h = rw add-zero h
  waits (suc n) u l h = let e : u + suc n ≡ u + 1 + n = omega arith in rw e (waits n (u + 1) l (wait u l h))

  run_log : (n u : ℕ) (m : Machine) (l : Log) → P u l → P (u + n) (run_from may n p t m l).log
  unfolding run_from follow
  run_log zero u m l h = rw add-zero h
  run_log (suc n) u m l h =
      let e : u + suc n ≡ u + 1 + n = omega arith in
      go (ltb m.place (instructions_of p)) (rw e (after (perform may t m l (ask_at p m)) (turn u m l h) (run_log n))) (waits (suc n) u l h)
    where
      go : (b : Bool) → P (u + suc n) (turn_of may n p t m l).log → P (u + suc n) l → P (u + suc n) (cond b (turn_of may n p t m l) (ended m l)).log
      go true on off = on
      go false on off = off

      after : (s : Effect) → P (u + 1) (log_after s) → ((u : ℕ) (m : Machine) (l : Log) → P u l → P (u + n) (run_from may n p t m l).log)
          → P (u + 1 + n) (follow m (run_from may n p t) s).log
      after (stop r l) k ih = waits n (u + 1) l k
      after (next m l) k ih = ih (u + 1) m l k

-- what every turn that goes on keeps of machine and log holds of the machine at the run's end, with some log
module _ (may : Judge) (p t : List ℕ) (P : Machine → Log → Type 0) where
  abbrev pub Onward : Effect → Type 0
  Onward (stop r l) = Unit {0}
  Onward (next m l) = P m l

  pub run_last : ((m : Machine) (l : Log) → P m l → Onward (perform may t m l (ask_at p m))) → (n : ℕ) (m : Machine) (l : Log) → P m l
      → (l' : Log) × P (run_from may n p t m l).last l'
  unfolding run_from follow
  run_last turn zero m l h = (l, h)
  run_last turn (suc n) m l h = go (ltb m.place (instructions_of p)) (after (perform may t m l (ask_at p m)) (turn m l h) (run_last turn n))
    where
      after : (s : Effect) → Onward s → ((m : Machine) (l : Log) → P m l → (l' : Log) × P (run_from may n p t m l).last l')
          → (l' : Log) × P (follow m (run_from may n p t) s).last l'
      after (stop r l') k ih = (l, h)
      after (next m' l') k ih = ih m' l' k

      go : (b : Bool) → (l' : Log) × P (turn_of may n p t m l).last l' → (l' : Log) × P (cond b (turn_of may n p t m l) (ended m l)).last l'
      go true on = on
      go false on = (l, h)

pub last_registers : (may : Judge) (p t : List ℕ) → Eight (run_by may p t).last
unfolding run_by
last_registers may p t =
    (run_last may p t (λ m l. Eight m)
    (λ m l h. by_ask may t m l (Onward may p t (λ m l. Eight m)) (ask_at p m) (λ r. tt) (λ m' e. moved m m' h e)
    (λ a c q. length-set m.registers a (loaded l c (get_or t c 0)) ∙ h) (λ c v e q. h))
    (instructions_of p) start empty refl).1
  where
    moved : (m m' : Machine) → Eight m → ask_at p m ≡ move m' → Eight m'
    moved m m' h e = rw e at (ask_eight p m h)

-- ---- what a run reads and stores

-- a turn of a run that has had fewer than 32 keeps the log in bounds, with at most one entry more
pub turn_fits : (may : Judge) (t : List ℕ) (n : ℕ) (m : Machine) (l : Log) (k : Ask) → n < list_words → Fits (length t) l → Room n l
    → Fits (length t) (log_after (perform may t m l k)) × Room (n + 1) (log_after (perform may t m l k))
turn_fits may t n m l k u f r =
    by_ask may t m l (λ s. Fits (length t) (log_after s) × Room (n + 1) (log_after s)) k (λ x. (f, same_room n l r)) (λ m' e. (f, same_room n l r))
    (λ a c h. (read_fits (length t) n l f r u c h, read_room n l r c)) (λ c v e h. (store_fits (length t) n l f r u c v h, store_room n l r c v))

-- "Reads and stored cells are below T, without repeats, at most 32 of each; one value per stored cell."
pub run_fits : (may : Judge) (p t : List ℕ) → length p ≤ max_program_bytes → Fits (length t) (run_by may p t).log
unfolding run_by
run_fits may p t short =
    (run_log may p t (λ u l. u ≤ list_words → Fits (length t) l × Room u l) (λ u l h b. let w = h (omega arith) in (w.0, same_room u l w.1))
    (λ u m l h b. let w = h (omega arith) in turn_fits may t u m l (ask_at p m) (omega arith) w.0 w.1) (instructions_of p) 0 start empty
    (λ b. (empty_fits (length t), empty_room 0)) (omega arith)).0

-- ---- a run depends only on the cells it reads

-- what was read stays read to the end of the run
run_keeps : (may : Judge) (n : ℕ) (p t : List ℕ) (m : Machine) (l : Log) (d : ℕ) → has d l.reads ≡ true
    → has d (run_from may n p t m l).log.reads ≡ true
run_keeps may n p t m l d =
    run_log may p t (λ u l'. has d l.reads ≡ true → has d l'.reads ≡ true) (λ u l' h. h)
    (λ u m' l' h e. by_ask may t m' l' (λ s. has d (log_after s).reads ≡ true) (ask_at p m') (λ r. h e) (λ m'' q. h e)
    (λ a c q. read_keeps l' c d (h e)) (λ c v q q'. store_keeps l' c v d (h e)))
    n 0 m l (λ e. e)

module _ (may : Judge) (p t t' : List ℕ) (same : length t ≡ length t') where
  -- the two tables agree at each cell of a list
  abbrev Agree : List ℕ → Type 0
  Agree reads = (c : ℕ) → has c reads ≡ true → get_or t c 0 ≡ get_or t' c 0

  turn_same : (m : Machine) (l : Log) (k : Ask) → Agree (log_after (perform may t m l k)).reads
      → (seen t' l k ≡ seen t l k) × (perform may t' m l k ≡ perform may t m l k)
  unfolding perform seen
  turn_same m l (halt r) h = (refl, refl)
  turn_same m l (move m') h = (refl, refl)
  turn_same m l (fetch a c) h = rw (← same) (go (ltb c (length t)) h)
    where
      go : (b : Bool)
          → Agree (log_after (cond b (next (written m a (loaded l c (get_or t c 0))) (with_read l c)) (stop (Faulted fault.Load m.place) l))).reads
          → (cond b (loaded l c (get_or t' c 0) ∷ []) [] ≡ cond b (loaded l c (get_or t c 0) ∷ []) [])
          × (cond b (next (written m a (loaded l c (get_or t' c 0))) (with_read l c)) (stop (Faulted fault.Load m.place) l)
          ≡ cond b (next (written m a (loaded l c (get_or t c 0))) (with_read l c)) (stop (Faulted fault.Load m.place) l))
      go true g = let e = loads_agree l c (get_or t' c 0) (get_or t c 0) (λ q. sym (g c q)) in (rw e, rw e)
      go false g = (refl, refl)
  turn_same m l (put c v) h = (refl, rw (← same))

  run_same : (n : ℕ) (m : Machine) (l : Log) → Agree (run_from may n p t m l).log.reads → run_from may n p t' m l ≡ run_from may n p t m l
  unfolding run_from follow
  run_same zero m l h = refl
  run_same (suc n) m l h = go (ltb m.place (instructions_of p)) h (run_same n)
    where
      after : (s : Effect) → ((m : Machine) (l : Log) → Agree (run_from may n p t m l).log.reads → run_from may n p t' m l ≡ run_from may n p t m l)
          → Agree (follow m (run_from may n p t) s).log.reads → follow m (run_from may n p t') s ≡ follow m (run_from may n p t) s
      after (stop r l) ih a = refl
      after (next m l) ih a = ih m l a

      stays : (s : Effect) (d : ℕ) → has d (log_after s).reads ≡ true → has d (follow m (run_from may n p t) s).log.reads ≡ true
      stays (stop r l) d e = e
      stays (next m l) d e = run_keeps may n p t m l d e

      go : (b : Bool) → Agree (cond b (turn_of may n p t m l) (ended m l)).log.reads
          → ((m : Machine) (l : Log) → Agree (run_from may n p t m l).log.reads → run_from may n p t' m l ≡ run_from may n p t m l)
          → cond b (turn_of may n p t' m l) (ended m l) ≡ cond b (turn_of may n p t m l) (ended m l)
      go true a ih =
          let s : Effect = perform may t m l (ask_at p m) in
          let w = turn_same m l (ask_at p m) (λ d e. a d (stays s d e)) in
          rw (w.0, w.1, after s ih a)
      go false a ih = refl

-- "If two tables of one length agree at every cell that the run on the first reads, the run on the second is the same: answer, reads, stores, path
-- and loads", for rejected and faulted runs too, "with the same guards".
pub reads_decide : (may : Judge) (p t t' : List ℕ) → length t ≡ length t'
    → ((c : ℕ) → has c (run_by may p t).log.reads ≡ true → get_or t c 0 ≡ get_or t' c 0) → run_by may p t' ≡ run_by may p t
unfolding run_by
reads_decide may p t t' same agree = run_same may p t t' same (instructions_of p) start empty agree

-- ---- the slot that a run leaves, and the log read back from it

kept_fits : (T : ℕ) (r : Run) (l : Log) → Fits T l → Fits T (kept r l)
kept_fits T Finished l f = f
kept_fits T (Rejected code) l f = empty_fits T
kept_fits T (Faulted kind at) l f = empty_fits T

module _ (may : Judge) (p t : List ℕ) (short : length p ≤ max_program_bytes) where
  pub run_kept : Fits (length t) (kept_by (run_by may p t))
  run_kept = kept_fits (length t) (run_by may p t).answer (run_by may p t).log (run_fits may p t short)

  pub slot_of_state : get_or (slot_of (run_by may p t)) state_word 0 ≡ state_of_run (run_by may p t).answer
  unfolding slot_of
  slot_of_state = layout_state _ _ _

  pub slot_of_detail : get_or (slot_of (run_by may p t)) detail_word 0 ≡ detail_of_run (run_by may p t).answer
  unfolding slot_of
  slot_of_detail = layout_detail _ _ _

  pub slot_of_log : log_of (slot_of (run_by may p t)) ≡ kept_by (run_by may p t)
  unfolding slot_of
  slot_of_log = layout_log _ _ _ (length t) run_kept

-- ---- which programs can be run

-- a program of an image that is not refused
pub part_runnable : (image : List ℕ) → refusal_of image ≡ not_refused → (k : ℕ) → k < count_of image → Runnable (part_of image k)
unfolding code_good
part_runnable image e k h =
    let g = accepted image e in
    record {
      short = part_short image g.offsets k h;
      whole = part_whole image g.offsets k h;
      good = every_at (count_of image) (λ q. program_good (part_of image q)) g.code k h;
    }
