-- Document 01, "Instructions": the run of one program on a table, with guards (document 02, ask 5), how it ends, what it reads and stores, and the
-- slot that it leaves. Assumes nothing.
use Rattle.std.specs.Prelude.{◌≡◌, ℕ, zero, suc, ◌+◌, ◌*◌, ◌%◌, ◌<◌, ◌≤◌, Bool, true, false, cond, Some, None, List, [], ◌∷◌, ◌++◌, length, replicate}
use Rattle.std.specs.Prelude.{nat_lt, slice_index}
use Rattle.image.specs.Limits.{registers, instruction_bytes, max_instructions, max_program_bytes}
use Rattle.image.specs.Instruction.{instructions_of, program_good}
use Rattle.guard.specs.Guards.{guard_words, admits}
use Rattle.slot.specs.States.{waiting, gathered, rejected, faulted}
use Rattle.slot.specs.Layout.{slot_words}
use Rattle.slot.specs.Log.{Log, empty, loaded, with_read, with_store, layout, Holds}
use Rattle.machine.specs.declared.Machine.{Machine}
use Rattle.machine.specs.declared.Run.{Run}
use Rattle.machine.specs.declared.Run.TheVariants.{Finished, Rejected, Faulted}
use Rattle.machine.specs.declared.FaultKind.{FaultKind}
use Rattle.machine.specs.declared.FaultKind.TheVariants as fault
use Rattle.machine.specs.declared.Turned.{Turned}
use Rattle.machine.specs.declared.Ended.{Ended}
use Rattle.machine.specs.declared.Store.{Store}
use Rattle.machine.specs.Asks.{Ask, halt, move, fetch, put, start, reg, written, passed, byte_here, ask_at}

-- ---- one turn

-- the run stops, or goes on
pub data Effect : Type 0 where
  stop : Run → Log → Effect
  next : Machine → Log → Effect

-- "A cell number of T or more is a fault with a kind and a place: kind 1 at a load, 2 at a store."
abbrev pub load_fault : ℕ
load_fault = 1

abbrev pub store_fault : ℕ
store_fault = 2

-- document 02, ask 5: a store whose value its cell's guard does not admit "is now a fault of kind 3 at its place"
abbrev pub guard_fault : ℕ
guard_fault = 3

-- each kind's number
abbrev pub kind_number : FaultKind → ℕ
kind_number fault.Load = load_fault
kind_number fault.Store = store_fault
kind_number fault.Guard = guard_fault

-- which values may be stored to which cells
abbrev pub Judge : Type 0
Judge = (c v : ℕ) → Bool

-- register a is to get cell number c, on the table t, from the log l
abbrev pub loading : List ℕ → Machine → Log → (a c : ℕ) → Effect
loading t m l a c =
    cond (nat_lt c (length t)) (next (written m a (loaded l c (slice_index t c))) (with_read l c)) (stop (Faulted fault.Load m.place) l)

-- a store outside the table, and one of a value that its cell's guard does not admit
abbrev pub outside : Machine → Log → Effect
outside m l = stop (Faulted fault.Store m.place) l

abbrev pub unfit : Machine → Log → Effect
unfit m l = stop (Faulted fault.Guard m.place) l

-- cell number c is to get v; "Kind 2 comes before kind 3."
abbrev pub storing : Judge → List ℕ → Machine → Log → (c v : ℕ) → Effect
storing may t m l c v = cond (nat_lt c (length t)) (cond (may c v) (next (passed m) (with_store l c v)) (unfit m l)) (outside m l)

-- what an ask does
unfoldable pub perform : Judge → List ℕ → Machine → Log → Ask → Effect
perform may t m l (halt r) = stop r l
perform may t m l (move m') = next m' l
perform may t m l (fetch a c) = loading t m l a c
perform may t m l (put c v) = storing may t m l c v

-- the value that it loads, if it loads one
unfoldable pub seen : List ℕ → Log → Ask → List ℕ
seen t l (halt r) = []
seen t l (move m) = []
seen t l (fetch a c) = cond (nat_lt c (length t)) (loaded l c (slice_index t c) ∷ []) []
seen t l (put c v) = []

-- ---- the run

-- How a run ended, all it read and stored on the way, and, for demand 3, the places visited and the values loaded, in order; and the machine at its
-- end, which has not moved on from an instruction that stopped the run.
pub record Outcome : Type 0 where
  pub answer : Run
  pub log : Log
  pub path : List ℕ
  pub loads : List ℕ
  pub last : Machine

-- a run that has arrived at m, or was stopped
abbrev pub stopped : Machine → Run → Log → Outcome
stopped m r l = record { answer = r; log = l; path = []; loads = []; last = m }

abbrev pub ended : Machine → Log → Outcome
ended m l = stopped m Finished l

-- the outcome from a place on, whose instruction loads these values, given what comes after it
abbrev pub since : ℕ → List ℕ → Outcome → Outcome
since place values o =
    record { answer = o.answer; log = o.log; path = place ∷ o.path; loads = values ++ o.loads; last = o.last }

unfoldable pub follow : Machine → (Machine → Log → Outcome) → Effect → Outcome
follow m on (stop r l) = stopped m r l
follow m on (next m' l) = on m' l

-- at most n turns from a machine and a log; "arriving at m is an end"
unfoldable pub run_from : Judge → ℕ → List ℕ → List ℕ → Machine → Log → Outcome
run_from may zero p t m l = ended m l
run_from may (suc n) p t m l =
    cond (nat_lt m.place (instructions_of p))
    (since m.place (seen t l (ask_at p m)) (follow m (run_from may n p t) (perform may t m l (ask_at p m))))
    (ended m l)

-- every turn goes forward, so there are no more turns than instructions
unfoldable pub run_by : Judge → List ℕ → List ℕ → Outcome
run_by may p t = run_from may (instructions_of p) p t start empty

-- the run of program p on the table t, with the guards g
abbrev pub run_of : (p t g : List ℕ) → Outcome
run_of p t g = run_by (admits g) p t

-- document 01's run, which knows no guards: every store to a cell of the table is admitted
abbrev pub unguarded : Judge
unguarded c v = true

abbrev pub free_run : (p t : List ℕ) → Outcome
free_run p t = run_by unguarded p t

-- ---- the slot that it leaves

-- "1 gathered, 2 rejected, 3 faulted"
abbrev pub state_of_run : Run → ℕ
state_of_run Finished = gathered
state_of_run (Rejected code) = rejected
state_of_run (Faulted kind at) = faulted

-- "Detail: the reject code; 256 × kind + instruction number; .. else 0."
abbrev pub detail_of_run : Run → ℕ
detail_of_run Finished = 0
detail_of_run (Rejected code) = code
detail_of_run (Faulted kind at) = 256 * kind_number kind + at

-- "A program that rejects or faults stores nothing, reserves nothing"; "A rejected or faulted slot has only state and detail."
abbrev pub keeps : Run → Bool
keeps Finished = true
keeps (Rejected code) = false
keeps (Faulted kind at) = false

abbrev pub kept : Run → Log → Log
kept r l = cond (keeps r) l empty

abbrev pub kept_by : Outcome → Log
kept_by o = kept o.answer o.log

unfoldable pub slot_of : Outcome → List ℕ
slot_of o = layout (state_of_run o.answer) (detail_of_run o.answer) (kept_by o)

-- ---- what the functions need and leave

-- A program that can be run: at most 32 good instructions.
pub record Runnable (p : List ℕ) : Type 0 where
  pub short : length p ≤ max_program_bytes
  pub whole : length p % instruction_bytes ≡ 0
  pub good : program_good p ≡ true

-- What the turns of a run begin with: a program that can be run, a pair of guards for each cell, and nothing read or stored.
pub record Begins (p t g slot : List ℕ) : Type 0 where
  pub runnable : Runnable p
  pub pairs : length g ≡ guard_words (length t)
  pub no_log : slot ≡ replicate slot_words 0

-- The bytes that name registers do.
pub record Named (op a b c : ℕ) : Type 0 where
  pub first : 1 ≤ op → op ≤ 7 → a < registers
  pub second : 2 ≤ op → op ≤ 7 → b < registers
  pub third : 4 ≤ op → op ≤ 5 → c < registers

-- What a turn needs.
pub record Ready (m : Machine) (slot : List ℕ) : Type 0 where
  pub within : m.place < max_instructions
  pub holds : Holds slot

abbrev pub log_after : Effect → Log
log_after (stop r l) = l
log_after (next m l) = l

-- a turn's answer; a machine that stops stays as it was
abbrev pub turned : Machine → Effect → Turned
turned m (stop r l) = record { stopped = Some r; machine = m }
turned m (next m' l) = record { stopped = None; machine = m' }

-- What a turn leaves that had an effect: its answer, and the slot.
pub record Did (m : Machine) (s : Effect) (r : Turned) (slot : List ℕ) : Type 0 where
  pub answered : r ≡ turned m s
  pub logged : slot ≡ layout waiting 0 (log_after s)

-- What the turns of a run leave: how it ended, the machine at its end, and its log in the slot.
pub record Ends (o : Outcome) (r : Ended) (slot : List ℕ) : Type 0 where
  pub answered : r.run ≡ o.answer
  pub at_the_end : r.machine ≡ o.last
  pub logged : slot ≡ layout waiting 0 o.log

-- the store that the instruction at a machine's place names, if it is one: which cell, and which value
abbrev pub store_at : List ℕ → Machine → Store
store_at p m = record { cell = reg m (byte_here p m 1); value = reg m (byte_here p m 2) }

-- What the run of a program needs: a program that can be run, a pair of guards for each cell, and a slot.
pub record CanRun (p t g slot : List ℕ) : Type 0 where
  pub runnable : Runnable p
  pub pairs : length g ≡ guard_words (length t)
  pub sized : length slot ≡ slot_words

-- What it says: its answer, and its whole slot.
pub record RunSays (p t g : List ℕ) (r : Run) (slot : List ℕ) : Type 0 where
  pub answer : r ≡ (run_of p t g).answer
  pub left : slot ≡ slot_of (run_of p t g)

-- What the search for the store at which a run stopped says: the store that its last instruction names; what the run read and stored is in the slot.
pub record LastStore (p t g : List ℕ) (r : Store) (slot : List ℕ) : Type 0 where
  pub names : r ≡ store_at p (run_of p t g).last
  pub left : slot ≡ layout waiting 0 (run_of p t g).log
