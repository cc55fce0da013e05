-- Document 01, "The work area": "States: 0 waiting, 1 gathered, 2 rejected, 3 faulted, 4 committed, 5 carried." Assumes nothing.
use Rattle.std.specs.Prelude.{ℕ, Bool, ◌||◌, eqb, leb}
use Rattle.slot.specs.declared.Group.{Group}
use Rattle.slot.specs.declared.Group.TheVariants.{Committed, Carried}

abbrev pub waiting : ℕ
waiting = 0

abbrev pub gathered : ℕ
gathered = 1

abbrev pub rejected : ℕ
rejected = 2

abbrev pub faulted : ℕ
faulted = 3

abbrev pub committed : ℕ
committed = 4

abbrev pub carried : ℕ
carried = 5

-- check 7 refuses a state over this one
abbrev pub last_state : ℕ
last_state = carried

-- ---- what a state says; everybody above asks these and compares no state

-- the program is gathered, or further on
unfoldable pub has_run : ℕ → Bool
has_run state = leb gathered state

-- it is done with in this batch: all states but 0 and 1
abbrev pub first_end : ℕ
first_end = rejected

unfoldable pub is_end : ℕ → Bool
is_end state = leb first_end state

-- it is to be settled
unfoldable pub can_settle : ℕ → Bool
can_settle state = eqb state gathered

unfoldable pub is_committed : ℕ → Bool
is_committed state = eqb state committed

unfoldable pub is_carried : ℕ → Bool
is_carried state = eqb state carried

-- it was settled
unfoldable pub is_settled : ℕ → Bool
is_settled state = is_committed state || is_carried state

-- "committed, rejected or faulted": no batch sees it again
unfoldable pub is_done : ℕ → Bool
is_done state = is_committed state || eqb state rejected || eqb state faulted

-- the programs that the listed order names, and those that the next image has
unfoldable pub is_in : Group → ℕ → Bool
is_in Committed state = is_committed state
is_in Carried state = is_carried state
