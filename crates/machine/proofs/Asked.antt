-- What holds of every instruction's ask: it goes forward, and what it writes fits 32 bits. Assumes nothing.
use Rattle.std.proofs.Common.{◌≡◌, ℕ, zero, suc, ◌+◌, ◌*◌, ◌^◌, ◌<◌, Bool, true, false, eqb, ltb, List, [], ◌∷◌, ◌++◌, length, get_or, set, ◌∙◌}
use Rattle.std.proofs.Common.{arith, length-set}
use Rattle.image.specs.Limits.{registers, instruction_bytes}
use Rattle.machine.specs.declared.Machine.{Machine}
use Rattle.machine.specs.Asks.{Ask, halt, move, fetch, put, reg, skipped, added, subtracted, op_end, op_set, op_load, op_store, op_add, op_sub}
use Rattle.machine.specs.Asks.{op_skip_less, op_skip_equal, op_reject, operations, byte_here, ask_of, ask_at}

-- what holds of each of a list holds of the one at every place, where it holds of the one past the end
abbrev Each : (Ask → Type 0) → List Ask → Type 0
Each P [] = Unit {0}
Each P (x ∷ xs) = P x × Each P xs

each_at : (P : Ask → Type 0) (d : Ask) → P d → (xs : List Ask) → Each P xs → (i : ℕ) → P (get_or xs i d)
each_at P d h [] e i = h
each_at P d h (x ∷ xs) e zero = e.0
each_at P d h (x ∷ xs) e (suc i) = each_at P d h xs e.1 i

-- what holds of the nine rows holds of the ask of every operation byte
module _ (P : Ask → Type 0) (m : Machine) (a b c : ℕ) where
  pub by_operation : P op_end → P (op_set m a b c) → P (op_load m a b) → P (op_store m a b) → P (op_add m a b c) → P (op_sub m a b c)
      → P (op_skip_less m a b c) → P (op_skip_equal m a b c) → P (op_reject a) → (op : ℕ) → P (ask_of op a b c m)
  unfolding ask_of
  by_operation h₀ h₁ h₂ h₃ h₄ h₅ h₆ h₇ h₈ op =
      each_at P op_end h₀ (operations m a b c) (h₀, (h₁, (h₂, (h₃, (h₄, (h₅, (h₆, (h₇, (h₈, tt))))))))) op

-- ---- every instruction goes forward

abbrev pub Forward : Machine → Ask → Type 0
Forward m (halt r) = Unit {0}
Forward m (move m') = m.place < m'.place
Forward m (fetch a c) = Unit {0}
Forward m (put c v) = Unit {0}

skip_forward : (b : Bool) (m : Machine) (c : ℕ) → m.place < (skipped b m c).place
skip_forward true m c = omega arith
skip_forward false m c = omega arith

pub ask_forward : (p : List ℕ) (m : Machine) → Forward m (ask_at p m)
unfolding ask_at
ask_forward p m =
    let a : ℕ = byte_here p m 1 in
    let b : ℕ = byte_here p m 2 in
    let c : ℕ = byte_here p m 3 in
    by_operation (Forward m) m a b c tt (omega arith) tt tt (omega arith) (omega arith) (skip_forward (ltb (reg m a) (reg m b)) m c)
    (skip_forward (eqb (reg m a) (reg m b)) m c) tt (byte_here p m 0)

-- ---- there are always eight registers

abbrev pub Eight : Machine → Type 0
Eight m = length m.registers ≡ registers

abbrev pub KeepsEight : Ask → Type 0
KeepsEight (halt r) = Unit {0}
KeepsEight (move m) = Eight m
KeepsEight (fetch a c) = Unit {0}
KeepsEight (put c v) = Unit {0}

skip_eight : (b : Bool) (m : Machine) (c : ℕ) → Eight m → Eight (skipped b m c)
skip_eight true m c h = h
skip_eight false m c h = h

pub ask_eight : (p : List ℕ) (m : Machine) → Eight m → KeepsEight (ask_at p m)
unfolding ask_at
ask_eight p m h =
    let a : ℕ = byte_here p m 1 in
    let b : ℕ = byte_here p m 2 in
    let c : ℕ = byte_here p m 3 in
    by_operation KeepsEight m a b c tt (set_eight a _) tt tt (set_eight a _) (set_eight a _) (skip_eight (ltb (reg m a) (reg m b)) m c h)
    (skip_eight (eqb (reg m a) (reg m b)) m c h) tt (byte_here p m 0)
  where
    set_eight : (a v : ℕ) → length (set m.registers a v) ≡ registers
    set_eight a v = length-set m.registers a v ∙ h

-- ---- what it writes fits 32 bits

-- each number of a list is below n
abbrev pub Under : ℕ → List ℕ → Type 0
Under n xs = (i : ℕ) → get_or xs i 0 < n

pub under_none : (n : ℕ) → 0 < n → Under n []
under_none n h i = h

pub under_append : (n : ℕ) (xs ys : List ℕ) → Under n xs → Under n ys → Under n (xs ++ ys)
under_append n [] ys h k i = k i
under_append n (x ∷ xs) ys h k zero = h 0
under_append n (x ∷ xs) ys h k (suc i) = under_append n xs ys (λ j. h (suc j)) k i

pub under_one : (n x : ℕ) → 0 < n → x < n → Under n (x ∷ [])
under_one n x z h zero = h
under_one n x z h (suc i) = z

pub under_set : (n : ℕ) (xs : List ℕ) (k x : ℕ) → x < n → Under n xs → Under n (set xs k x)
under_set n [] k x h u i = u i
under_set n (y ∷ xs) zero x h u zero = h
under_set n (y ∷ xs) zero x h u (suc i) = u (suc i)
under_set n (y ∷ xs) (suc k) x h u zero = u 0
under_set n (y ∷ xs) (suc k) x h u (suc i) = under_set n xs k x h (λ j. u (suc j)) i

-- a register or a cell holds 32 bits
abbrev pub word : ℕ
word = 2 ^ 32

abbrev pub Small : Ask → Type 0
Small (halt r) = Unit {0}
Small (move m) = Under word m.registers
Small (fetch a c) = Unit {0}
Small (put c v) = v < word

skip_small : (b : Bool) (m : Machine) (c : ℕ) → Under word m.registers → Under word (skipped b m c).registers
skip_small true m c h = h
skip_small false m c h = h

pub ask_small : (p : List ℕ) (m : Machine) → Under 256 p → Under word m.registers → Small (ask_at p m)
unfolding ask_at
ask_small p m bytes h =
    let a : ℕ = byte_here p m 1 in
    let b : ℕ = byte_here p m 2 in
    let c : ℕ = byte_here p m 3 in
    let wide : 256 * b + c < word = omega (arith, bytes (instruction_bytes * m.place + 2), bytes (instruction_bytes * m.place + 3)) in
    by_operation Small m a b c tt (under_set word m.registers a (256 * b + c) wide h) tt (h b)
    (under_set word m.registers a (added (reg m b) (reg m c)) (omega arith) h)
    (under_set word m.registers a (subtracted (reg m b) (reg m c)) (omega arith) h)
    (skip_small (ltb (reg m a) (reg m b)) m c h) (skip_small (eqb (reg m a) (reg m b)) m c h) tt (byte_here p m 0)
