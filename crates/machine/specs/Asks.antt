-- Document 01, "Instructions": what each of the nine operations asks, row by row of its table. It goes by the machine alone, eight registers and the
-- place; what becomes of it on a table is said in `Runs`. Assumes nothing.
use Rattle.std.specs.Prelude.{ℕ, ◌+◌, ◌-◌, ◌*◌, ◌%◌, ◌^◌, Bool, true, false, List, [], ◌∷◌, replicate, ◌==◌, nat_lt, slice_index, slice_index_or}
use Rattle.std.specs.Prelude.{slice_set}
use Rattle.image.specs.Limits.{registers}
use Rattle.image.specs.Instruction.{byte_of}
use Rattle.machine.specs.declared.Machine.{Machine}
use Rattle.machine.specs.declared.Run.{Run}
use Rattle.machine.specs.declared.Run.TheVariants.{Finished, Rejected}

-- The run stops; or only the machine changes; or register a is to get cell number c; or cell number c is to get v.
pub data Ask : Type 0 where
  halt : Run → Ask
  move : Machine → Ask
  fetch : (a c : ℕ) → Ask
  put : (c v : ℕ) → Ask

-- "Every run starts with eight registers, all 0."
abbrev pub start : Machine
start = record { registers = replicate registers 0; place = 0 }

-- r[a]
abbrev pub reg : Machine → ℕ → ℕ
reg m a = slice_index m.registers a

-- on to the next instruction, with r[a] = v
abbrev pub written : Machine → ℕ → ℕ → Machine
written m a v = record { registers = slice_set m.registers a v; place = m.place + 1 }

-- on to the next instruction
abbrev pub passed : Machine → Machine
passed m = record { registers = m.registers; place = m.place + 1 }

-- if the test holds, leaves out the next c instructions
abbrev pub skipped : Bool → Machine → ℕ → Machine
skipped true m c = record { registers = m.registers; place = m.place + 1 + c }
skipped false m c = passed m

-- "modulo 2^32"
abbrev pub added : ℕ → ℕ → ℕ
added x y = (x + y) % 2 ^ 32

abbrev pub subtracted : ℕ → ℕ → ℕ
subtracted x y = (x + (2 ^ 32 - y)) % 2 ^ 32

-- The rows of the table.
abbrev pub op_end : Ask
op_end = halt Finished

abbrev pub op_set : Machine → ℕ → ℕ → ℕ → Ask
op_set m a b c = move (written m a (256 * b + c))

abbrev pub op_load : Machine → ℕ → ℕ → Ask
op_load m a b = fetch a (reg m b)

abbrev pub op_store : Machine → ℕ → ℕ → Ask
op_store m a b = put (reg m a) (reg m b)

abbrev pub op_add : Machine → ℕ → ℕ → ℕ → Ask
op_add m a b c = move (written m a (added (reg m b) (reg m c)))

abbrev pub op_sub : Machine → ℕ → ℕ → ℕ → Ask
op_sub m a b c = move (written m a (subtracted (reg m b) (reg m c)))

abbrev pub op_skip_less : Machine → ℕ → ℕ → ℕ → Ask
op_skip_less m a b c = move (skipped (nat_lt (reg m a) (reg m b)) m c)

abbrev pub op_skip_equal : Machine → ℕ → ℕ → ℕ → Ask
op_skip_equal m a b c = move (skipped (reg m a == reg m b) m c)

abbrev pub op_reject : ℕ → Ask
op_reject a = halt (Rejected a)

-- operations 0 to 8, in this order
abbrev pub operations : Machine → ℕ → ℕ → ℕ → List Ask
operations m a b c =
    op_end
    ∷ op_set m a b c
    ∷ op_load m a b
    ∷ op_store m a b
    ∷ op_add m a b c
    ∷ op_sub m a b c
    ∷ op_skip_less m a b c
    ∷ op_skip_equal m a b c
    ∷ op_reject a
    ∷ []

-- 9 to 255 are bad and never run
unfoldable pub ask_of : ℕ → ℕ → ℕ → ℕ → Machine → Ask
ask_of op a b c m = slice_index_or (operations m a b c) op op_end

-- a byte of the instruction at the machine's place
abbrev pub byte_here : List ℕ → Machine → ℕ → ℕ
byte_here p m k = byte_of p m.place k

-- what the instruction at the machine's place asks
unfoldable pub ask_at : List ℕ → Machine → Ask
ask_at p m = ask_of (byte_here p m 0) (byte_here p m 1) (byte_here p m 2) (byte_here p m 3) m
