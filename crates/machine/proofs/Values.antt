-- Every value that a run has in a register, loads or stores fits 32 bits where the table's do; so guards that agree on words give the same run, and
-- the full range is document 01's run. Assumes nothing.
use Rattle.std.proofs.Common.{◌≡◌, ℕ, zero, suc, ◌^◌, ◌<◌, Bool, true, false, cond, ltb, List, [], ◌∷◌, length, get_or, refl, arith, ltb-true}
use Rattle.image.specs.Limits.{registers}
use Rattle.image.specs.Instruction.{instructions_of}
use Rattle.slot.specs.Log.{Log, empty, place_in, value_by, loaded, with_read, values_by, with_store}
use Rattle.slot.proofs.Slots.{zeros_at}
use Rattle.machine.specs.declared.Machine.{Machine}
use Rattle.machine.specs.Asks.{Ask, halt, move, fetch, put, start, passed, ask_at}
use Rattle.machine.specs.Runs.{Effect, stop, next, Judge, outside, unfit, perform, seen, ended, follow, run_from, run_by}
use Rattle.machine.proofs.Asked.{Under, under_none, under_append, under_one, under_set, word, Small, ask_small}
use Rattle.machine.proofs.Laws.{by_ask, turn_of, Onward, run_last}

-- ---- every value fits 32 bits where the table's do

module _ (may : Judge) (p t : List ℕ) (bytes : Under 256 p) (cells : Under word t) where
  load_small : (l : Log) (c : ℕ) → Under word l.values → loaded l c (get_or t c 0) < word
  unfolding loaded
  load_small l c h = go (place_in c l.cells)
    where
      go : (k : ℕ) → value_by k (get_or t c 0) l.values < word
      go zero = cells c
      go (suc k) = h k

  store_small : (l : Log) (c v : ℕ) → v < word → Under word l.values → Under word (with_store l c v).values
  unfolding with_store
  store_small l c v s h = go (place_in c l.cells)
    where
      go : (k : ℕ) → Under word (values_by k v l.values)
      go zero = under_append word l.values (v ∷ []) h (under_one word v (omega arith) s)
      go (suc k) = under_set word l.values k v s h

  -- the registers and the stored values fit
  record Fine (m : Machine) (l : Log) : Type 0 where
    pub fine_registers : Under word m.registers
    pub fine_values : Under word l.values

  abbrev After : Effect → Type 0
  After (stop r l) = Under word l.values
  After (next m l) = Fine m l

  moved_small : (k : Ask) (m : Machine) → Small k → k ≡ move m → Under word m.registers
  moved_small k m s e = rw e at s

  put_small : (k : Ask) (c v : ℕ) → Small k → k ≡ put c v → v < word
  put_small k c v s e = rw e at s

  read_values : (l : Log) (c : ℕ) → Under word l.values → Under word (with_read l c).values
  unfolding with_read
  read_values l c h = h

  turn_small : (m : Machine) (l : Log) → Fine m l → After (perform may t m l (ask_at p m))
  turn_small m l h =
      let s = ask_small p m bytes h.fine_registers in
      by_ask may t m l After (ask_at p m) (λ r. h.fine_values)
      (λ m' e. record { fine_registers = moved_small (ask_at p m) m' s e; fine_values = h.fine_values })
      (λ a c q. record {
        fine_registers = under_set word m.registers a (loaded l c (get_or t c 0)) (load_small l c h.fine_values) h.fine_registers;
        fine_values = read_values l c h.fine_values;
      })
      (λ c v e q. record { fine_registers = h.fine_registers; fine_values = store_small l c v (put_small (ask_at p m) c v s e) h.fine_values })

  seen_small : (l : Log) (k : Ask) → Under word l.values → Under word (seen t l k)
  unfolding seen
  seen_small l (halt r) h = under_none word (omega arith)
  seen_small l (move m) h = under_none word (omega arith)
  seen_small l (fetch a c) h = go (ltb c (length t))
    where
      go : (b : Bool) → Under word (cond b (loaded l c (get_or t c 0) ∷ []) [])
      go true = under_one word (loaded l c (get_or t c 0)) (omega arith) (load_small l c h)
      go false = under_none word (omega arith)
  seen_small l (put c v) h = under_none word (omega arith)

  run_small : (n : ℕ) (m : Machine) (l : Log) → Fine m l → Under word (run_from may n p t m l).log.values × Under word (run_from may n p t m l).loads
  unfolding run_from follow
  run_small zero m l h = (h.fine_values, under_none word (omega arith))
  run_small (suc n) m l h = go (ltb m.place (instructions_of p)) (after (perform may t m l (ask_at p m)) (turn_small m l h) (run_small n))
    where
      after : (s : Effect) → After s
          → ((m : Machine) (l : Log) → Fine m l → Under word (run_from may n p t m l).log.values × Under word (run_from may n p t m l).loads)
          → Under word (follow m (run_from may n p t) s).log.values × Under word (follow m (run_from may n p t) s).loads
      after (stop r l) a ih = (a, under_none word (omega arith))
      after (next m l) a ih = ih m l a

      go : (b : Bool)
          → Under word (follow m (run_from may n p t) (perform may t m l (ask_at p m))).log.values
          × Under word (follow m (run_from may n p t) (perform may t m l (ask_at p m))).loads
          → Under word (cond b (turn_of may n p t m l) (ended m l)).log.values × Under word (cond b (turn_of may n p t m l) (ended m l)).loads
      go true w = (w.0, under_append word (seen t l (ask_at p m)) _ (seen_small l (ask_at p m) h.fine_values) w.1)
      go false w = (h.fine_values, under_none word (omega arith))

  fine_start : Fine start empty
  fine_start =
      record { fine_registers = λ i. rw (zeros_at registers i) (omega arith); fine_values = under_none word (omega arith) }

  outcome_small : Under word (run_by may p t).log.values × Under word (run_by may p t).loads
  unfolding run_by
  outcome_small = run_small (instructions_of p) start empty fine_start

  -- and so do the registers at its end
  goes_on : (s : Effect) → After s → Onward may p t Fine s
  goes_on (stop r l) a = tt
  goes_on (next m l) a = a

  ends_small : Under word (run_by may p t).last.registers
  unfolding run_by
  ends_small =
      let on = λ (m : Machine) (l : Log) (h : Fine m l). goes_on (perform may t m l (ask_at p m)) (turn_small m l h) in
      (run_last may p t Fine on (instructions_of p) start empty fine_start).1.fine_registers

module _ (may : Judge) (p t : List ℕ) (bytes : (i : ℕ) → get_or p i 0 < 256) (cells : (i : ℕ) → get_or t i 0 < 2 ^ 32) where
  pub values_fit : (i : ℕ) → get_or (run_by may p t).log.values i 0 < 2 ^ 32
  values_fit = (outcome_small may p t bytes cells).0

  pub loads_fit : (i : ℕ) → get_or (run_by may p t).loads i 0 < 2 ^ 32
  loads_fit = (outcome_small may p t bytes cells).1

  pub last_fits : (i : ℕ) → get_or (run_by may p t).last.registers i 0 < 2 ^ 32
  last_fits = ends_small may p t bytes cells

-- ---- guards that agree on words give the same run

module _ (one other : Judge) (p t : List ℕ) (bytes : Under 256 p) (cells : Under word t)
    (agree : (c v : ℕ) → c < length t → v < word → one c v ≡ other c v) where
  turn_agrees : (m : Machine) (l : Log) (k : Ask) → Small k → perform one t m l k ≡ perform other t m l k
  unfolding perform
  turn_agrees m l (halt r) s = refl
  turn_agrees m l (move m') s = refl
  turn_agrees m l (fetch a c) s = refl
  turn_agrees m l (put c v) s = go (ltb c (length t)) refl
    where
      go : (b : Bool) → ltb c (length t) ≡ b → cond b (cond (one c v) (next (passed m) (with_store l c v)) (unfit m l))
          (outside m l)
          ≡ cond b (cond (other c v) (next (passed m) (with_store l c v)) (unfit m l)) (outside m l)
      go true e = rw (agree c v (ltb-true c (length t) e) s)
      go false e = refl

  run_agrees : (n : ℕ) (m : Machine) (l : Log) → Fine one p t bytes cells m l → run_from one n p t m l ≡ run_from other n p t m l
  unfolding run_from follow
  run_agrees zero m l h = refl
  run_agrees (suc n) m l h =
      rw (
        ← turn_agrees m l (ask_at p m) (ask_small p m bytes h.fine_registers),
        after (perform one t m l (ask_at p m)) (turn_small one p t bytes cells m l h) (run_agrees n),
      )
    where
      after : (s : Effect) → After one p t bytes cells s
          → ((m : Machine) (l : Log) → Fine one p t bytes cells m l → run_from one n p t m l ≡ run_from other n p t m l)
          → follow m (run_from one n p t) s ≡ follow m (run_from other n p t) s
      after (stop r l) a ih = refl
      after (next m l) a ih = ih m l a

pub judges_agree : (one other : Judge) (p t : List ℕ) → ((i : ℕ) → get_or p i 0 < 256) → ((i : ℕ) → get_or t i 0 < 2 ^ 32)
    → ((c v : ℕ) → c < length t → v < 2 ^ 32 → one c v ≡ other c v) → run_by one p t ≡ run_by other p t
unfolding run_by
judges_agree one other p t bytes cells agree =
    run_agrees one other p t bytes cells agree (instructions_of p) start empty (fine_start one p t bytes cells)
