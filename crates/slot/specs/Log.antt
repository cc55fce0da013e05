-- What a run has read and stored so far, by document 01, "Instructions", and the slot that holds it. Assumes nothing.
use Rattle.std.specs.Prelude.{ℕ, zero, suc, ◌-◌, ◌≤◌, ◌<◌, ◌≡◌, Bool, true, cond, Option, Some, None, List, [], ◌∷◌, ◌++◌, length, get_or, set}
use Rattle.std.specs.Prelude.{replicate, eqb}
use Rattle.base.specs.Words.{has, distinct, words}
use Rattle.slot.specs.declared.ListKind.{ListKind}
use Rattle.slot.specs.declared.ListKind.TheVariants.{Reads, Stores}
use Rattle.slot.specs.States.{waiting}
use Rattle.slot.specs.Layout.{read_count, store_count, list_words, first_read, first_store, first_value, slot_words}

-- The cells read, the cells stored and the values stored there, "each in order of first use".
pub record Log : Type 0 where
  pub reads : List ℕ
  pub cells : List ℕ
  pub values : List ℕ

-- its cells of one kind
abbrev pub cells_of : ListKind → Log → List ℕ
cells_of Reads l = l.reads
cells_of Stores l = l.cells

abbrev pub empty : Log
empty = record { reads = []; cells = []; values = [] }

-- 0 where c is not in the list, else 1 + its first place there
abbrev pub later : ℕ → ℕ
later zero = zero
later (suc k) = suc (suc k)

unfoldable pub place_in : ℕ → List ℕ → ℕ
place_in c [] = 0
place_in c (x ∷ xs) = cond (eqb c x) 1 (later (place_in c xs))

-- the place itself, if c is in the list
abbrev pub found_place : ℕ → Option ℕ
found_place zero = None
found_place (suc k) = Some k

-- c once: at the end, unless it is there
abbrev pub once_by : ℕ → ℕ → List ℕ → List ℕ
once_by zero c xs = xs ++ (c ∷ [])
once_by (suc k) c xs = xs

unfoldable pub once : ℕ → List ℕ → List ℕ
once c xs = once_by (place_in c xs) c xs

-- "A load of a cell that the same program has stored gives the stored value and adds nothing to the reads. Any other load gives the opening table's
-- value and adds the cell to the reads, once." Here v is the opening table's value, and the first argument the cell's place among the stored cells.
abbrev pub value_by : ℕ → ℕ → List ℕ → ℕ
value_by zero v values = v
value_by (suc k) v values = get_or values k 0

unfoldable pub loaded : Log → ℕ → ℕ → ℕ
loaded l c v = value_by (place_in c l.cells) v l.values

abbrev pub reads_by : ℕ → ℕ → List ℕ → List ℕ
reads_by zero c reads = once c reads
reads_by (suc k) c reads = reads

unfoldable pub with_read : Log → ℕ → Log
with_read l c = record { reads = reads_by (place_in c l.cells) c l.reads; cells = l.cells; values = l.values }

-- "The last store to a cell counts; the cell keeps its first place among the stores."
abbrev pub values_by : ℕ → ℕ → List ℕ → List ℕ
values_by zero v values = values ++ (v ∷ [])
values_by (suc k) v values = set values k v

unfoldable pub with_store : Log → ℕ → ℕ → Log
with_store l c v = record { reads = l.reads; cells = once c l.cells; values = values_by (place_in c l.cells) v l.values }

-- A slot: state, detail, the two counts, the three lists, "the rest 0".
abbrev pub pad : List ℕ → List ℕ
pad xs = xs ++ replicate (list_words - length xs) 0

unfoldable pub layout : ℕ → ℕ → Log → List ℕ
layout state detail l =
    state ∷ detail ∷ length l.reads ∷ length l.cells ∷ (pad l.reads ++ (pad l.cells ++ pad l.values))

-- the log that a slot holds
unfoldable pub log_of : List ℕ → Log
log_of s =
    record {
      reads = words first_read (get_or s read_count 0) s;
      cells = words first_store (get_or s store_count 0) s;
      values = words first_value (get_or s store_count 0) s;
    }

-- What a slot has room for: the log of a run on a table of T cells. Each list is no longer than its place in the slot, no cell stands twice, and
-- each stored cell has a value.
pub record Fits (T : ℕ) (l : Log) : Type 0 where
  pub inside : (k : ListKind) (c : ℕ) → has c (cells_of k l) ≡ true → c < T
  pub few : (k : ListKind) → length (cells_of k l) ≤ list_words
  pub once_each : (k : ListKind) → distinct (cells_of k l) ≡ true
  pub paired : length l.values ≡ length l.cells

-- A waiting slot that holds the log of a run on its way, no cell twice in a list, with room for one more.
pub record Holds (s : List ℕ) : Type 0 where
  pub sized : length s ≡ slot_words
  pub read_room : get_or s read_count 0 < list_words
  pub store_room : get_or s store_count 0 < list_words
  pub once_each : (k : ListKind) → distinct (cells_of k (log_of s)) ≡ true
  pub paired : length (log_of s).values ≡ length (log_of s).cells
  pub is : s ≡ layout waiting 0 (log_of s)

-- How a run knows what it has stored. Document 02, ask 4: "Look through the program's own stores instead, newest first." 0 where c is not in the
-- list, else 1 + its last place there: the newest entry stands last, and an older one counts only where no newer one is c.
abbrev pub newest_by : ℕ → Bool → ℕ
newest_by zero here = cond here 1 0
newest_by (suc k) here = suc (suc k)

unfoldable pub newest_in : ℕ → List ℕ → ℕ
newest_in c [] = 0
newest_in c (x ∷ xs) = newest_by (newest_in c xs) (eqb c x)
