-- Document 01 tried by computation on the slot's definitions, sentence by sentence: what "Instructions" says of reads and stores, and the slot and
-- the states of "The work area". The numbers are literals. Assumes nothing.
use Rattle.std.proofs.Common.{Some, None, ℕ, zero, suc, true, false, List, [], ◌∷◌, ◌++◌, map, ◌≡◌, refl, replicate}
use Rattle.slot.specs.States.{waiting, gathered, rejected, faulted, committed, carried, last_state, is_end}
use Rattle.slot.specs.Layout.{state_word, detail_word, read_count, store_count, list_words, first_read, first_store, first_value, slot_words}
use Rattle.slot.specs.Log.{Log, empty, place_in, found_place, newest_in, loaded, with_read, with_store, layout, log_of}
use Rattle.slot.specs.Opened.{opened}

-- these reads, stored cells and values
abbrev log : List ℕ → List ℕ → List ℕ → Log
log reads cells values = record { reads = reads; cells = cells; values = values }

-- n numbers from one on
abbrev from : ℕ → ℕ → List ℕ
from first zero = []
from first (suc n) = first ∷ from (suc first) n

-- what was done before each of the next cases: cells 1 and 2 read, then 40 stored to cell 4 and 50 to cell 5
abbrev before : Log
before = log (1 ∷ 2 ∷ []) (4 ∷ 5 ∷ []) (40 ∷ 50 ∷ [])

-- ---- "Instructions": reads and stores, the opening table having 9 everywhere

-- "A load of a cell that the same program has stored gives the stored value and adds nothing to the reads."
load_own : (loaded before 4 9 ∷ loaded before 5 9 ∷ [] ≡ 40 ∷ 50 ∷ []) × (map (with_read before) (4 ∷ 5 ∷ []) ≡ before ∷ before ∷ [])
unfolding opened
load_own = (refl, refl)

-- also where the stored value is 0
load_own_0 : loaded (log [] (4 ∷ []) (0 ∷ [])) 4 9 ≡ 0
unfolding opened
load_own_0 = refl

-- "Any other load gives the opening table's value and adds the cell to the reads, once."
load_other : (loaded before 1 9 ∷ loaded before 6 9 ∷ [] ≡ 9 ∷ 9 ∷ [])
    × (map (with_read before) (1 ∷ 2 ∷ 6 ∷ []) ≡ before ∷ before ∷ log (1 ∷ 2 ∷ 6 ∷ []) (4 ∷ 5 ∷ []) (40 ∷ 50 ∷ []) ∷ [])
unfolding opened
load_other = (refl, refl)

-- "The last store to a cell counts; the cell keeps its first place among the stores." A read cell that is stored stays among the reads.
stores : with_store before 4 41 ∷ with_store before 5 51 ∷ with_store before 1 10 ∷ []
    ≡ log (1 ∷ 2 ∷ []) (4 ∷ 5 ∷ []) (41 ∷ 50 ∷ [])
    ∷ log (1 ∷ 2 ∷ []) (4 ∷ 5 ∷ []) (40 ∷ 51 ∷ [])
    ∷ log (1 ∷ 2 ∷ []) (4 ∷ 5 ∷ 1 ∷ []) (40 ∷ 50 ∷ 10 ∷ [])
    ∷ []
unfolding opened
stores = refl

load_the_last_store : loaded (with_store before 4 41) 4 9 ≡ 41
unfolding opened
load_the_last_store = refl

-- ---- document 02, ask 4: "Look through the program's own stores instead, newest first."

-- where cells stand twice, the newest place of each counts, and 0 says that there is none; the first place of cell 4 is another
newest : map (λ c. newest_in c (4 ∷ 5 ∷ 4 ∷ 6 ∷ 6 ∷ [])) (4 ∷ 5 ∷ 6 ∷ 7 ∷ []) ≡ 3 ∷ 2 ∷ 5 ∷ 0 ∷ []
unfolding opened
newest = refl

first_place : place_in 4 (4 ∷ 5 ∷ 4 ∷ []) ≡ 1
unfolding opened
first_place = refl

-- the code says a place, or that there is none
places : map found_place (0 ∷ 1 ∷ 32 ∷ []) ≡ None ∷ Some 0 ∷ Some 31 ∷ []
places = refl

-- among as many as a slot has, none twice: the newest, the oldest and one that is not there, each at its first place
newest_of_32 : map (λ c. newest_in c (from 0 32)) (31 ∷ 0 ∷ 32 ∷ []) ≡ 32 ∷ 1 ∷ 0 ∷ []
unfolding opened
newest_of_32 = refl

-- ---- "The work area": a slot

-- "a slot of 100 words per program: state, detail, read count, store count, 32 read cells, 32 stored cells, 32 stored values"
words_of_a_slot : state_word ∷ detail_word ∷ read_count ∷ store_count ∷ first_read ∷ first_store ∷ first_value ∷ slot_words ∷ list_words ∷ []
    ≡ 0 ∷ 1 ∷ 2 ∷ 3 ∷ 4 ∷ 36 ∷ 68 ∷ 100 ∷ 32 ∷ []
words_of_a_slot = refl

-- "each in order of first use, the rest 0"
laid_out : layout 5 3 (log (6 ∷ 2 ∷ 7 ∷ []) (9 ∷ 4 ∷ []) (90 ∷ 40 ∷ []))
    ≡ 5 ∷ 3 ∷ 3 ∷ 2 ∷ (6 ∷ 2 ∷ 7 ∷ replicate 29 0) ++ (9 ∷ 4 ∷ replicate 30 0) ++ (90 ∷ 40 ∷ replicate 30 0)
unfolding opened
laid_out = refl

-- lists of 32 fill their words
laid_out_full : layout 1 0 (log (from 0 32) (from 32 32) (from 64 32)) ≡ 1 ∷ 0 ∷ 32 ∷ 32 ∷ from 0 96
unfolding opened
laid_out_full = refl

-- the log that a slot holds is the counted words alone, whatever stands behind them
read_back : log_of (5 ∷ 3 ∷ 3 ∷ 2 ∷ from 0 96) ≡ log (0 ∷ 1 ∷ 2 ∷ []) (32 ∷ 33 ∷ []) (64 ∷ 65 ∷ [])
unfolding opened
read_back = refl

-- "A rejected or faulted slot has only state and detail.": 2 ∷ 7 and 98 words that are 0
without_a_log : layout 2 7 empty ≡ 2 ∷ 7 ∷ replicate 98 0
unfolding opened
without_a_log = refl

-- "States: 0 waiting, 1 gathered, 2 rejected, 3 faulted, 4 committed, 5 carried."
states : waiting ∷ gathered ∷ rejected ∷ faulted ∷ committed ∷ carried ∷ [] ≡ 0 ∷ 1 ∷ 2 ∷ 3 ∷ 4 ∷ 5 ∷ []
states = refl

-- 7, "a state over 5"
last_state_lem : last_state ≡ 5
last_state_lem = refl

-- 9, "Order, next image: some state 0 or 1": the others are ends
ends : map is_end (0 ∷ 1 ∷ 2 ∷ 3 ∷ 4 ∷ 5 ∷ []) ≡ false ∷ false ∷ true ∷ true ∷ true ∷ true ∷ []
unfolding is_end
ends = refl
