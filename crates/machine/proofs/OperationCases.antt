-- Document 01, "Instructions", tried by computation row by row of its table: what each operation makes of the eight registers and the place.
-- Assumes nothing.
use Rattle.std.proofs.Common.{◌≡◌, ℕ, List, [], ◌∷◌, ◌++◌, map, refl}
use Rattle.std.proofs.Math.ListN as lists
use Rattle.image.specs.Assembler.{Instruction, instruction, end, load, store, add, sub, skipless, skipequal, reject, program}
use Rattle.machine.specs.declared.Machine.{Machine}
use Rattle.machine.specs.declared.Run.TheVariants.{Finished, Rejected}
use Rattle.machine.specs.Asks.{Ask, halt, move, fetch, put, start, ask_at}
use Rattle.machine.specs.Opened.{opened}

-- "Every run starts with eight registers, all 0."
starts : start ≡ record { registers = 0 ∷ 0 ∷ 0 ∷ 0 ∷ 0 ∷ 0 ∷ 0 ∷ 0 ∷ []; place = 0 }
starts = refl

-- Each case below has its instruction at place 5, with these in registers 0 to 7.
abbrev held : List ℕ
held = 10 ∷ 20 ∷ 20 ∷ 4294967295 ∷ 0 ∷ 1 ∷ 6 ∷ 7 ∷ []

abbrev machine : List ℕ → ℕ → Machine
machine registers place = record { registers = registers; place = place }

-- what these instructions ask there
abbrev asks : List Instruction → List Ask
asks = map (λ i. ask_at (program (lists.replicate 5 end ++ (i ∷ reject 1 ∷ []))) (machine held 5))

-- r[a] = v, and on to the next instruction
abbrev gives : ℕ → ℕ → Ask
gives a v = move (machine (lists.set held a v) 6)

-- no register changes, and on to a place
abbrev goes : ℕ → Ask
goes place = move (machine held place)

-- 0, "end: stops"
ends : asks (end ∷ []) ≡ halt Finished ∷ []
unfolding opened
ends = refl

-- 1, "set: r[a] = 256×b + c"; the other registers stay
sets : asks (instruction 1 2 3 4 ∷ instruction 1 0 255 255 ∷ instruction 1 7 0 0 ∷ []) ≡ gives 2 772 ∷ gives 0 65535 ∷ gives 7 0 ∷ []
unfolding opened
sets = refl

set_whole : asks (instruction 1 2 3 4 ∷ []) ≡ move (machine (10 ∷ 20 ∷ 772 ∷ 4294967295 ∷ 0 ∷ 1 ∷ 6 ∷ 7 ∷ []) 6) ∷ []
unfolding opened
set_whole = refl

-- 2, "load: r[a] = cell number r[b]"
loads : asks (load 3 1 ∷ load 1 0 ∷ []) ≡ fetch 3 20 ∷ fetch 1 10 ∷ []
unfolding opened
loads = refl

-- 3, "store: cell number r[a] = r[b]"
stores : asks (store 0 1 ∷ store 1 0 ∷ []) ≡ put 10 20 ∷ put 20 10 ∷ []
unfolding opened
stores = refl

-- 4, "add: r[a] = r[b] + r[c], modulo 2^32": 10 + 20, then sums of 4294967295, of 4294967296 and of twice 4294967295
adds : asks (add 7 0 1 ∷ add 0 3 4 ∷ add 0 3 5 ∷ add 3 3 3 ∷ []) ≡ gives 7 30 ∷ gives 0 4294967295 ∷ gives 0 0 ∷ gives 3 4294967294 ∷ []
unfolding opened
adds = refl

-- 5, "sub: r[a] = r[b] − r[c], modulo 2^32": 20 − 10, 20 − 20, 10 − 20, 0 − 1 (case 12 of the bench sheet), 0 − 4294967295
subs : asks (sub 7 1 0 ∷ sub 7 1 2 ∷ sub 7 0 1 ∷ sub 7 4 5 ∷ sub 7 4 3 ∷ [])
    ≡ gives 7 10 ∷ gives 7 0 ∷ gives 7 4294967286 ∷ gives 7 4294967295 ∷ gives 7 1 ∷ []
unfolding opened
subs = refl

-- 6, "skipless: if r[a] < r[b], leaves out the next c instructions": 10 and 20, 20 and 20, 20 and 10, 10 and 4294967295, 4294967295 and 10
skips_less : asks (skipless 0 1 3 ∷ skipless 1 2 3 ∷ skipless 1 0 3 ∷ skipless 0 3 3 ∷ skipless 3 0 3 ∷ [])
    ≡ goes 9 ∷ goes 6 ∷ goes 6 ∷ goes 9 ∷ goes 6 ∷ []
unfolding opened
skips_less = refl

-- 7, "skipequal: the same if r[a] = r[b]": 10 and 20, 20 and 20, 20 and 10
skips_equal : asks (skipequal 0 1 3 ∷ skipequal 1 2 3 ∷ skipequal 1 0 3 ∷ []) ≡ goes 6 ∷ goes 9 ∷ goes 6 ∷ []
unfolding opened
skips_equal = refl

-- a skip of none, taken and not
skips_none : asks (skipless 0 1 0 ∷ skipless 1 0 0 ∷ skipequal 1 2 0 ∷ skipequal 0 1 0 ∷ []) ≡ goes 6 ∷ goes 6 ∷ goes 6 ∷ goes 6 ∷ []
unfolding opened
skips_none = refl

-- 8, "reject: stops, code a"
rejects : asks (reject 0 ∷ reject 7 ∷ reject 255 ∷ []) ≡ halt (Rejected 0) ∷ halt (Rejected 7) ∷ halt (Rejected 255) ∷ []
unfolding opened
rejects = refl
