-- What guards do to a run (document 02, ask 5): the full range is document 01's run, and a fault of kind 3 is what its name says. Assumes nothing.
use Rattle.std.proofs.Common.{◌≡◌, ℕ, zero, suc, ◌^◌, ◌<◌, Bool, true, false, cond, ltb, List, length, get_or, refl, ltb-true}
use Rattle.image.specs.Instruction.{instructions_of}
use Rattle.guard.specs.Guards.{admits, Full}
use Rattle.guard.proofs.Admitted.{full_admits}
use Rattle.slot.specs.Log.{Log, empty, loaded, with_read, with_store}
use Rattle.machine.specs.declared.Machine.{Machine}
use Rattle.machine.specs.declared.FaultKind.TheVariants as fault
use Rattle.machine.specs.declared.Run.TheVariants.{Finished, Rejected, Faulted}
use Rattle.machine.specs.Asks.{Ask, halt, move, fetch, put, start, reg, written, passed, byte_here, ask_at}
use Rattle.machine.specs.Runs.{Effect, stop, next, Judge, outside, unfit, perform, ended, follow, run_from, run_by, run_of, free_run, unguarded}
use Rattle.machine.specs.Runs.{store_at}
use Rattle.machine.proofs.Asked.{by_operation}
use Rattle.machine.proofs.Laws.{turn_of}
use Rattle.machine.proofs.Values.{judges_agree}

-- ---- "A batch with the full range for every cell is the batch of before": of one run

pub full_is_free : (p t g : List ℕ) → ((i : ℕ) → get_or p i 0 < 256) → ((i : ℕ) → get_or t i 0 < 2 ^ 32) → Full (length t) g
    → run_of p t g ≡ free_run p t
full_is_free p t g bytes cells full =
    judges_agree (admits g) unguarded p t bytes cells (λ c v within small. full_admits g c v (full c within) small)

-- ---- a fault of kind 3: the run stopped at a store to a cell of the table, of a value that the cell's guard does not admit

pub record Met (may : Judge) (p t : List ℕ) (m : Machine) (at : ℕ) : Type 0 where
  pub place_is : m.place ≡ at
  pub in_program : at < instructions_of p
  pub stores : ask_at p m ≡ put (store_at p m).cell (store_at p m).value
  pub in_table : (store_at p m).cell < length t
  pub refused : may (store_at p m).cell (store_at p m).value ≡ false

-- no instruction asks for a fault, and one that asks for a store names its two registers by a and b
abbrev Asks : Machine → (a b : ℕ) → Ask → Type 0
Asks m a b (halt Finished) = Unit {0}
Asks m a b (halt (Rejected code)) = Unit {0}
Asks m a b (halt (Faulted kind at)) = ⊥
Asks m a b (move m') = Unit {0}
Asks m a b (fetch r c) = Unit {0}
Asks m a b (put c v) = (c ≡ reg m a) × (v ≡ reg m b)

ask_plain : (p : List ℕ) (m : Machine) → Asks m (byte_here p m 1) (byte_here p m 2) (ask_at p m)
unfolding ask_at
ask_plain p m =
    let a : ℕ = byte_here p m 1 in
    let b : ℕ = byte_here p m 2 in
    by_operation (Asks m a b) m a b (byte_here p m 3) tt tt tt (refl, refl) tt tt tt tt tt (byte_here p m 0)

module _ (may : Judge) (p t : List ℕ) (at : ℕ) where
  turn_met : (m : Machine) (l : Log) → m.place < instructions_of p → (k : Ask) → ask_at p m ≡ k → Asks m (byte_here p m 1) (byte_here p m 2) k
      → (l' : Log) → perform may t m l k ≡ stop (Faulted fault.Guard at) l' → Met may p t m at
  unfolding perform
  turn_met m l u (halt Finished) e n l' s = cc
  turn_met m l u (halt (Rejected code)) e n l' s = cc
  turn_met m l u (halt (Faulted kind place)) e n l' s = absurd n
  turn_met m l u (move m') e n l' s = cc
  turn_met m l u (fetch a c) e n l' s = go (ltb c (length t)) s
    where
      go : (b : Bool)
          → cond b (next (written m a (loaded l c (get_or t c 0))) (with_read l c)) (stop (Faulted fault.Load m.place) l)
          ≡ stop (Faulted fault.Guard at) l'
          → Met may p t m at
      go true q = cc
      go false q = cc
  turn_met m l u (put c v) e n l' s = go (ltb c (length t)) (may c v) refl refl s
    where
      go : (b j : Bool) → ltb c (length t) ≡ b → may c v ≡ j
          → cond b (cond j (next (passed m) (with_store l c v)) (unfit m l)) (outside m l)
          ≡ stop (Faulted fault.Guard at) l'
          → Met may p t m at
      go true true f g q = cc
      go true false f g q =
          let place : m.place ≡ at = cc in
          record {
            place_is = place;
            in_program = rw (← place) u;
            stores = rw (← n.0, ← n.1) e;
            in_table = rw (← n.0) (ltb-true c (length t) f);
            refused = rw (← n.0, ← n.1) g;
          }
      go false j f g q = cc

  run_met : (n : ℕ) (m : Machine) (l : Log) → (run_from may n p t m l).answer ≡ Faulted fault.Guard at → Met may p t (run_from may n p t m l).last at
  unfolding run_from follow
  run_met zero m l e = cc
  run_met (suc n) m l e = go (ltb m.place (instructions_of p)) refl e (run_met n)
    where
      after : m.place < instructions_of p → (s : Effect) → perform may t m l (ask_at p m) ≡ s
          → (follow m (run_from may n p t) s).answer ≡ Faulted fault.Guard at
          → ((m : Machine) (l : Log) → (run_from may n p t m l).answer ≡ Faulted fault.Guard at → Met may p t (run_from may n p t m l).last at)
          → Met may p t (follow m (run_from may n p t) s).last at
      after u (stop r l') q f ih = turn_met m l u (ask_at p m) refl (ask_plain p m) l' (rw f at q)
      after u (next m' l') q f ih = ih m' l' f

      go : (b : Bool) → ltb m.place (instructions_of p) ≡ b → (cond b (turn_of may n p t m l) (ended m l)).answer ≡ Faulted fault.Guard at
          → ((m : Machine) (l : Log) → (run_from may n p t m l).answer ≡ Faulted fault.Guard at → Met may p t (run_from may n p t m l).last at)
          → Met may p t (cond b (turn_of may n p t m l) (ended m l)).last at
      go true b f ih = after (ltb-true m.place (instructions_of p) b) (perform may t m l (ask_at p m)) refl f ih
      go false b f ih = cc

-- the store that the program `why` names, of a run that faulted with kind 3, is the one that its cell's guard did not admit
pub guard_met : (p t g : List ℕ) (at : ℕ) → (run_of p t g).answer ≡ Faulted fault.Guard at → Met (admits g) p t (run_of p t g).last at
unfolding run_by
guard_met p t g at e = run_met (admits g) p t at (instructions_of p) start empty e
