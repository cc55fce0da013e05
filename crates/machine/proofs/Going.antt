-- A run on its way, the invariant of `take_turns`: what is left of the run, from this machine and this slot, ends as the whole run does.
-- Assumes nothing.
use Rattle.std.proofs.Common.{◌≡◌, ℕ, zero, suc, ◌+◌, ◌<◌, ◌≤◌, Some, None, List, length, replicate, sym, refl, ap, ◌∙◌, arith, le-ltb}
use Rattle.std.proofs.Common.{lt-ltb}
use Rattle.image.specs.declared.instruction.Instruction.{Instruction}
use Rattle.image.specs.Instruction.{instructions_of, instruction_of}
use Rattle.slot.specs.States.{waiting}
use Rattle.slot.specs.Layout.{list_words, slot_words}
use Rattle.slot.specs.Log.{Log, empty, layout, log_of, Fits, Holds}
use Rattle.slot.proofs.Logs.{Room, empty_room}
use Rattle.slot.specs.declared.ListKind.TheVariants.{Reads, Stores}
use Rattle.slot.proofs.Slots.{empty_fits, layout_length, layout_log, layout_count, layout_waiting}
use Rattle.machine.specs.declared.Machine.{Machine}
use Rattle.machine.specs.declared.Turned.{Turned}
use Rattle.machine.specs.declared.Run.{Run}
use Rattle.machine.specs.declared.Run.TheVariants.{Finished}
use Rattle.machine.specs.Asks.{move, start, ask_of, ask_at}
use Rattle.machine.specs.Runs.{Effect, stop, next, Judge, perform, ended, since, seen, follow, run_from, run_by, log_after, turned}
use Rattle.machine.specs.Runs.{Runnable, Ready, Did, Ends}
use Rattle.machine.proofs.Asked.{ask_forward}
use Rattle.machine.proofs.Laws.{by_ask, turn_fits}

-- ---- a turn's answer tells the step

answer_stop : (m : Machine) (s : Effect) (x : Run) → (turned m s).stopped ≡ Some x → s ≡ stop x (log_after s)
answer_stop m (stop r l) x e = cc
answer_stop m (next m' l) x e = cc

answer_next : (m : Machine) (s : Effect) → (turned m s).stopped ≡ None → s ≡ next (turned m s).machine (log_after s)
answer_next m (stop r l) e = cc
answer_next m (next m' l) e = refl

-- a turn that goes on goes forward
turn_forward : (may : Judge) (p t : List ℕ) (m : Machine) (l : Log) (m' : Machine) (l' : Log) → perform may t m l (ask_at p m) ≡ next m' l'
    → m.place < m'.place
turn_forward may p t m l m' l' =
    by_ask may t m l (λ s. s ≡ next m' l' → m.place < m'.place) (ask_at p m) (λ r e. cc)
    (λ n q e. let r : n ≡ m' = cc in rw (← r) (moved n q)) (λ a c h e. onward _ _ e) (λ c v q h e. onward _ _ e)
  where
    moved : (n : Machine) → ask_at p m ≡ move n → m.place < n.place
    moved n q = rw q at (ask_forward p m)

    onward : (rs : List ℕ) (l : Log) → next (record { registers = rs; place = m.place + 1 }) l ≡ next m' l' → m.place < m'.place
    onward rs l e = let r : record { registers = rs; place = m.place + 1 } ≡ m' = cc in rw (← r) (omega arith)

-- what the instruction at the machine's place asks
asked : (p : List ℕ) (m : Machine) (i : Instruction) → i ≡ instruction_of p m.place → ask_at p m ≡ ask_of i.op i.a i.b i.c m
unfolding ask_at
asked p m i e = rw e

-- ---- the invariant

pub record Going (may : Judge) (p t : List ℕ) (m : Machine) (slot : List ℕ) : Type 0 where
  -- so many turns can be left, and so many are behind
  pub fuel : ℕ
  pub used : ℕ
  pub log : Log
  pub is : slot ≡ layout waiting 0 log
  pub enough : instructions_of p ≤ fuel + m.place
  pub budget : used + fuel ≤ list_words
  pub room : Room used log
  pub fitting : Fits (length t) log
  pub same_answer : (run_by may p t).answer ≡ (run_from may fuel p t m log).answer
  pub same_log : (run_by may p t).log ≡ (run_from may fuel p t m log).log
  pub same_last : (run_by may p t).last ≡ (run_from may fuel p t m log).last

pub going_start : {may : Judge} {p t : List ℕ} → Runnable p → {m : Machine} {slot : List ℕ} → m ≡ start → slot ≡ replicate slot_words 0
    → Going may p t m slot
unfolding run_by
going_start {p} {t} runs at e =
    record {
      fuel = instructions_of p;
      used = 0;
      log = empty;
      is = e ∙ sym layout_waiting;
      enough = omega arith;
      budget = omega (arith, runs.short);
      room = empty_room 0;
      fitting = empty_fits (length t);
      same_answer = rw at;
      same_log = rw at;
      same_last = rw at;
    }

module _ {may : Judge} {p t : List ℕ} {m : Machine} {slot : List ℕ} (runs : Runnable p) (g : Going may p t m slot) where
  log_is : log_of slot ≡ g.log
  log_is = ap log_of g.is ∙ layout_log waiting 0 g.log (length t) g.fitting

  pub going_words : length slot ≡ slot_words
  going_words = ap length g.is ∙ layout_length waiting 0 g.log (length t) g.fitting

  going_holds : m.place < instructions_of p → Holds slot
  going_holds h =
      record {
        sized = going_words;
        read_room =
            rw (g.is, layout_count waiting 0 g.log Reads) (omega (arith, g.room.room Reads, g.budget, g.enough));
        store_room =
            rw (g.is, layout_count waiting 0 g.log Stores) (omega (arith, g.room.room Stores, g.budget, g.enough));
        once_each = λ k. rw log_is (g.fitting.once_each k);
        paired = rw log_is g.fitting.paired;
        is = g.is ∙ ap (layout waiting 0) (sym log_is);
      }

  pub going_ready : m.place < instructions_of p → Ready m slot
  going_ready u = record { within = omega (arith, runs.short); holds = going_holds u }

  -- past the last instruction the run has finished
  end_from : (n : ℕ) (l : Log) → instructions_of p ≤ m.place → run_from may n p t m l ≡ ended m l
  unfolding run_from
  end_from zero l h = refl
  end_from (suc n) l h = rw (le-ltb m.place (instructions_of p) h)

  pub going_end : instructions_of p ≤ m.place → Ends (run_by may p t) (record { run = Finished; machine = m }) slot
  going_end h =
      let e = end_from g.fuel g.log h in
      record {
        answered = cc;
        at_the_end = cc;
        logged = cc;
      }

  -- one turn of the definition
  turn_from : (n : ℕ) (l : Log) → m.place < instructions_of p
      → run_from may (suc n) p t m l ≡ since m.place (seen t l (ask_at p m)) (follow m (run_from may n p t) (perform may t m l (ask_at p m)))
  unfolding run_from
  turn_from n l h = rw (lt-ltb m.place (instructions_of p) h)

  -- what is left after the turn: n turns, from the step that was taken
  record Left (n : ℕ) (s : Effect) : Type 0 where
    pub one_less : g.fuel ≡ suc n
    pub left_answer : (run_by may p t).answer ≡ (follow m (run_from may n p t) s).answer
    pub left_log : (run_by may p t).log ≡ (follow m (run_from may n p t) s).log
    pub left_last : (run_by may p t).last ≡ (follow m (run_from may n p t) s).last

  turn_left : m.place < instructions_of p → (n : ℕ) × Left n (perform may t m g.log (ask_at p m))
  turn_left h = go g.fuel refl
    where
      go : (k : ℕ) → g.fuel ≡ k → (n : ℕ) × Left n (perform may t m g.log (ask_at p m))
      go zero e = absurd (omega (arith, g.enough))
      go (suc n) e =
          let q = ap (λ (k : ℕ). run_from may k p t m g.log) e ∙ turn_from n g.log h in (
            n,
            record {
              one_less = e;
              left_answer = cc;
              left_log = cc;
              left_last = cc;
            },
          )

  module _ {r : Turned} {slot' : List ℕ} (u : m.place < instructions_of p) {i : Instruction} (read : i ≡ instruction_of p m.place)
      (d : Did m (perform may t m (log_of slot) (ask_of i.op i.a i.b i.c m)) r slot') where
    did_is : Did m (perform may t m g.log (ask_at p m)) r slot'
    did_is = rw (log_is, ← asked p m i read) at d

    abbrev taken : Effect
    taken = perform may t m g.log (ask_at p m)

    pub going_stop : {x : Run} → r.stopped ≡ Some x → Ends (run_by may p t) (record { run = x; machine = r.machine }) slot'
    unfolding follow
    going_stop {x} e =
        let q : taken ≡ stop x (log_after taken) = answer_stop m taken x (cc did_is.answered) in
        let told : r ≡ turned m (stop x (log_after taken)) = did_is.answered ∙ ap (turned m) q in
        let w = (turn_left u).1 in
        record {
          answered = cc;
          at_the_end = cc told;
          logged = cc did_is.logged;
        }

    step_next : r.stopped ≡ None → taken ≡ next r.machine (log_after taken)
    step_next e = cc (did_is.answered, answer_next m taken (cc did_is.answered))

    pub going_forward : r.stopped ≡ None → m.place < r.machine.place
    going_forward e = turn_forward may p t m g.log r.machine (log_after taken) (step_next e)

    pub going_next : r.stopped ≡ None → Going may p t r.machine slot'
    unfolding follow
    going_next e =
        let n : ℕ = (turn_left u).0 in
        let w = (turn_left u).1 in
        let f = turn_fits may t g.used m g.log (ask_at p m) (omega (arith, g.budget, w.one_less)) g.fitting g.room in
        record {
          fuel = n;
          used = g.used + 1;
          log = log_after taken;
          is = did_is.logged;
          enough = omega (arith, g.enough, w.one_less, going_forward e);
          budget = omega (arith, g.budget, w.one_less);
          room = f.1;
          fitting = f.0;
          same_answer = cc (step_next e);
          same_log = cc (step_next e);
          same_last = cc (step_next e);
        }
