-- The paper's batch: source 004, sections 4 and 5, Figures 4 and 7, with document 01's programs. There is no work area in sight. Every program runs
-- once from the opening table; what a program has against it is asked of every earlier program; those that commit are installed. Assumes nothing.
use Rattle.std.specs.Prelude.{ℕ, zero, suc, Bool, not, cond, ◌&&◌, List}
use Rattle.base.specs.Words.{some, meets}
use Rattle.image.specs.Image.{count_of, second_rule}
use Rattle.slot.specs.declared.ListKind.{ListKind}
use Rattle.slot.specs.declared.ListKind.TheVariants.{Reads, Stores}
use Rattle.slot.specs.States.{committed, carried, can_settle}
use Rattle.slot.specs.Log.{Log, cells_of}
use Rattle.machine.specs.Runs.{Outcome, keeps, kept_by, state_of_run, detail_of_run}
use Rattle.area.specs.Marks.{store_all}
use Rattle.steps.specs.declared.Reason.{Reason}
use Rattle.steps.specs.declared.Reason.TheVariants.{Waw, Raw, RawWithWar}
use Rattle.steps.specs.Answers.{reason_number}
use Rattle.steps.specs.Gathering.{run_at}

-- A batch: how many programs, whether Rule 2 is in force, and the run of each program from the opening table. A program's number is its TID.
pub record Batch : Type 0 where
  pub programs : ℕ
  pub second : Bool
  pub runs : ℕ → Outcome

-- the batch of an image on its opening table, with its guards
abbrev pub batch_of : (image t g : List ℕ) → Batch
batch_of image t g = record { programs = count_of image; second = second_rule image; runs = run_at image t g }

-- ---- Figure 4, Execute: "Read from the latest snapshot of db. Execute to compute T's read/write set (RS & WS)."

-- a program that rejects or faults has neither: it "stores nothing, reserves nothing and is not carried"
abbrev pub sets : Batch → ℕ → Log
sets b k = kept_by (b.runs k)

abbrev pub read_set : Batch → ℕ → List ℕ
read_set b k = (sets b k).reads

abbrev pub write_set : Batch → ℕ → List ℕ
write_set b k = (sets b k).cells

-- what it stores there
abbrev pub new_values : Batch → ℕ → List ℕ
new_values b k = (sets b k).values

-- whether it keeps its stores, and whether it is settled: today the same programs, those that finish
abbrev pub keeps_stores : Batch → ℕ → Bool
keeps_stores b k = keeps (b.runs k).answer

unfoldable pub gets_settled : Batch → ℕ → Bool
gets_settled b k = can_settle (state_of_run (b.runs k).answer)

-- ---- Figure 7, lines 12 to 14: a dependency on an earlier program, one with a smaller TID

-- a cell of k's set of one kind is in the set of another kind of an earlier program
unfoldable pub touches : (mine theirs : ListKind) → Batch → ℕ → Bool
touches mine theirs b k = some k (λ j. meets (cells_of mine (sets b k)) (cells_of theirs (sets b j)))

abbrev pub waw : Batch → ℕ → Bool
waw = touches Stores Stores

abbrev pub war : Batch → ℕ → Bool
war = touches Stores Reads

abbrev pub raw : Batch → ℕ → Bool
raw = touches Reads Stores

-- ---- who commits

-- "Rule 1. A transaction commits if it has no WAW-dependencies or RAW-dependencies on any earlier transaction."
abbrev pub rule1 : (waw raw : Bool) → Bool
rule1 waw raw = not waw && not raw

-- "Rule 2. A transaction commits if two conditions are met: (1) it has no WAW-dependencies on any earlier transaction, and (2) it does not have both
-- WAR-dependencies and RAW-dependencies on earlier transactions with smaller TIDs."
abbrev pub rule2 : (waw raw war : Bool) → Bool
rule2 waw raw war = not waw && not (war && raw)

unfoldable pub commits : Batch → ℕ → Bool
commits b k = keeps_stores b k && cond b.second (rule2 (waw b k) (raw b k) (war b k)) (rule1 (waw b k) (raw b k))

-- document 01: "carried for one reason out of three: 1 WAW, looked at first; 2 RAW (Rule 1); 3 RAW with WAR (Rule 2)"
unfoldable pub reason : Batch → ℕ → Reason
reason b k = cond (waw b k) Waw (cond b.second RawWithWar Raw)

-- how program k ends, in document 01's numbers: committed, carried, rejected or faulted, and the detail
unfoldable pub state_after : Batch → ℕ → ℕ
state_after b k = cond (gets_settled b k) (cond (commits b k) committed carried) (state_of_run (b.runs k).answer)

unfoldable pub detail_after : Batch → ℕ → ℕ
detail_after b k = cond (gets_settled b k) (cond (commits b k) 0 (reason_number (reason b k))) (detail_of_run (b.runs k).answer)

-- ---- Figure 4, Install: "for each key in T.WS: write(key, db)"

-- the table after those of the first k programs that pass have been installed
unfoldable pub installed : Batch → (ℕ → Bool) → ℕ → List ℕ → List ℕ
installed b test zero t = t
installed b test (suc k) t = cond (test k) (store_all (write_set b k) (new_values b k) (installed b test k t)) (installed b test k t)

-- the table afterwards
unfoldable pub table_after : Batch → List ℕ → List ℕ
table_after b t = installed b (commits b) b.programs t
