-- Laws of a number in decimal: it is read back, it has no leading zero, and there is one way only to write it. Assumes nothing.
use mathlib.Core.Path.{◌≡◌, refl, sym, ap, ◌∙◌}
use mathlib.Core.Bool.{Bool, true, false, not}
use mathlib.Core.List.{List, [], ◌∷◌, ◌++◌, append_assoc, append-nil}
use Prim.Native.Nat.{ℕ, zero, suc, ◌+◌, ◌-◌, ◌*◌, ◌/◌, ◌%◌, ◌^◌, ◌≤◌, ◌<◌}
use native.Mathlib.Omega.{arith}
use Rattle.std.proofs.Math.Nat.{pow-suc, one-le-pow}
use Rattle.std.proofs.lemmas.Grind.{common_steps}
use lib.Dec.{eqb, ltb, leb}
use lib.ListN.{length, length-append}
use borrow.Author.Tests.{leb-true, ltb-true, ltb-false, le-leb, lt-ltb, le-ltb, eqb-false, ne_eqb}
use Rattle.base.proofs.Bools.{clash, and_both, both_and, nots, no_not}
use Rattle.text.specs.Decimal.{digit, behind, digits_of, decimal, is_digit, all_digits, leads, is_number, value_from, value}

-- ---- one digit, or those of n / 10 and one more

-- how many there may be does not matter once there are enough
enough : (k m n : ℕ) → n < k → n < m → digits_of k n ≡ digits_of m n
unfolding digits_of behind
enough zero m n h g = absurd (omega arith)
enough (suc k) zero n h g = absurd (omega arith)
enough (suc k) (suc m) n h g = go (ltb n 10) refl (λ large. enough k m (n / 10) (omega (arith, large)) (omega (arith, large)))
  where
    go : (small : Bool) → ltb n 10 ≡ small → (10 ≤ n → digits_of k (n / 10) ≡ digits_of m (n / 10)) → behind small (digits_of k) n ≡ behind small (digits_of m) n
    go true e rest = refl
    go false e rest = ap (λ (ds : List ℕ). ds ++ (digit (n % 10) ∷ [])) (rest (ltb-false n 10 e))

pub decimal_small : (n : ℕ) → n < 10 → decimal n ≡ digit n ∷ []
unfolding decimal digits_of behind
decimal_small n h = rw (lt-ltb n 10 h)

pub decimal_large : (n : ℕ) → 10 ≤ n → decimal n ≡ decimal (n / 10) ++ (digit (n % 10) ∷ [])
unfolding decimal digits_of behind
decimal_large n h = rw (le-ltb n 10 h) (ap (λ (ds : List ℕ). ds ++ (digit (n % 10) ∷ [])) (enough n (suc (n / 10)) (n / 10) (omega arith) (omega arith)))

pub ruleset digits = (common_steps, decimal_small, decimal_large)

-- what holds of one digit, and of n where it holds of n / 10, holds of every number
by_digits : (P : ℕ → Type 0) → ((n : ℕ) → n < 10 → P n) → ((n : ℕ) → 10 ≤ n → P (n / 10) → P n) → (n : ℕ) → P n
by_digits P small large n = go (suc n) n (omega arith)
  where
    by : (k n : ℕ) → n < suc k → ((m : ℕ) → m < k → P m) → (b : Bool) → ltb n 10 ≡ b → P n
    by k n h rest true e = small n (ltb-true n 10 e)
    by k n h rest false e = let l = ltb-false n 10 e in large n (omega (arith, l)) (rest (n / 10) (omega (arith, l)))

    go : (k n : ℕ) → n < k → P n
    go zero n h = absurd (omega arith)
    go (suc k) n h = by k n h (go k) (ltb n 10) refl

-- ---- digits

pub digit_is : (b : ℕ) → is_digit b ≡ true → (digit 0 ≤ b) × (b ≤ digit 9)
unfolding is_digit
digit_is b h = let p = and_both (leb (digit 0) b) (leb b (digit 9)) h in (leb-true _ _ p.0, leb-true _ _ p.1)

is_digit_lem : (d : ℕ) → d < 10 → is_digit (digit d) ≡ true
unfolding is_digit
is_digit_lem d h = both_and (le-leb (digit 0) (digit d) (omega arith)) (le-leb (digit d) (digit 9) (omega arith))

digits_append : (xs ys : List ℕ) → all_digits xs ≡ true → all_digits ys ≡ true → all_digits (xs ++ ys) ≡ true
unfolding all_digits
digits_append [] ys h k = k
digits_append (x ∷ xs) ys h k = let p = and_both (is_digit x) (all_digits xs) h in both_and p.0 (digits_append xs ys p.1 k)

one_digit : (d : ℕ) → d < 10 → all_digits (digit d ∷ []) ≡ true
unfolding all_digits
one_digit d h = both_and (is_digit_lem d h) refl

pub decimal_digits : (n : ℕ) → all_digits (decimal n) ≡ true
decimal_digits =
    by_digits (λ n. all_digits (decimal n) ≡ true)
    (λ n h. rw (decimal_small n h) (one_digit n h))
    (λ n h r. rw (decimal_large n h) (digits_append (decimal (n / 10)) (digit (n % 10) ∷ []) r (one_digit (n % 10) (omega arith))))

-- ---- "no leading zeros"

-- it begins with a byte that is not 0
record Leads (w : List ℕ) : Type 0 where
  pub head : ℕ
  pub tail : List ℕ
  pub is : w ≡ head ∷ tail
  pub not_zero : head ≡ digit 0 → ⊥

leads_append : (w x : List ℕ) → Leads w → Leads (w ++ x)
leads_append w x l = record { head = l.head; tail = l.tail ++ x; is = ap (λ (z : List ℕ). z ++ x) l.is; not_zero = l.not_zero }

decimal_leads : (n : ℕ) → 0 < n → Leads (decimal n)
decimal_leads =
    by_digits (λ n. 0 < n → Leads (decimal n))
    (λ n h p. record { head = digit n; tail = []; is = decimal_small n h; not_zero = λ e. omega arith })
    (λ n h r p. rw (decimal_large n h) (leads_append (decimal (n / 10)) (digit (n % 10) ∷ []) (r (omega arith))))

leads_well : (w : List ℕ) → Leads w → leads w ≡ true
unfolding leads
leads_well [] l = absurd (none l.is)
  where
    none : {x : ℕ} {xs : List ℕ} → ◌≡◌ {A = List ℕ} [] (x ∷ xs) → ⊥
    none e = zero_not_suc (ap length e)
      where
        zero_not_suc : {k : ℕ} → 0 ≡ suc k → ⊥
        zero_not_suc e = omega arith
leads_well (b ∷ []) l = refl
leads_well (b ∷ c ∷ bs) l = no_not (ne_eqb b (digit 0) (λ e. l.not_zero (sym (heads l.is) ∙ e)))
  where
    heads : {x y : ℕ} {xs ys : List ℕ} → ◌≡◌ {A = List ℕ} (x ∷ xs) (y ∷ ys) → x ≡ y
    heads e = ap first_of e
      where
        first_of : List ℕ → ℕ
        first_of [] = 0
        first_of (x ∷ xs) = x

pub decimal_number : (n : ℕ) → is_number (decimal n) ≡ true
unfolding is_number leads all_digits is_digit
decimal_number n = go n (ltb 0 n) refl
  where
    go : (n : ℕ) (b : Bool) → ltb 0 n ≡ b → is_number (decimal n) ≡ true
    go n true e = both_and (decimal_digits n) (leads_well (decimal n) (decimal_leads n (ltb-true 0 n e)))
    go n false e = let z : n ≡ 0 = omega (arith, ltb-false 0 n e) in rw (z, decimal_small 0 (omega arith)) refl

-- ---- it is read back

value_append : (v : ℕ) (xs ys : List ℕ) → value_from v (xs ++ ys) ≡ value_from (value_from v xs) ys
unfolding value_from
value_append v [] ys = refl
value_append v (x ∷ xs) ys = value_append (10 * v + (x - digit 0)) xs ys

value_one : (v d : ℕ) → value_from v (digit d ∷ []) ≡ 10 * v + d
unfolding value_from
value_one v d = omega arith

pub decimal_value : (n : ℕ) → value (decimal n) ≡ n
decimal_value =
    by_digits (λ n. value (decimal n) ≡ n)
    (λ n h. rw (decimal_small n h, value_one 0 n) (omega arith))
    (λ n h r. rw (decimal_large n h, value_append 0 (decimal (n / 10)) (digit (n % 10) ∷ []), r, value_one (n / 10) (n % 10)) (omega arith))

-- ---- there is one way only

decimal_next : (v d : ℕ) → 0 < v → d < 10 → decimal (10 * v + d) ≡ decimal v ++ (digit d ∷ [])
decimal_next v d p h =
    let q : (10 * v + d) / 10 ≡ v = omega arith in
    let m : (10 * v + d) % 10 ≡ d = omega arith in
    rw (decimal_large (10 * v + d) (omega arith), q, m)

decimal_from : (v : ℕ) (w : List ℕ) → 0 < v → all_digits w ≡ true → decimal (value_from v w) ≡ decimal v ++ w
unfolding value_from all_digits
decimal_from v [] p h = sym (append-nil (decimal v))
decimal_from v (b ∷ bs) p h =
    let q = and_both (is_digit b) (all_digits bs) h in
    let r = digit_is b q.0 in
    let e : digit (b - digit 0) ≡ b = omega (arith, r.0, r.1) in
    decimal_from (10 * v + (b - digit 0)) bs (omega arith) q.1
    ∙ rw (decimal_next v (b - digit 0) p (omega (arith, r.0, r.1)), e) (append_assoc (decimal v) (b ∷ []) bs)

from_first : (b : ℕ) (bs : List ℕ) → (b ≡ digit 0 → ⊥) → all_digits (b ∷ bs) ≡ true → decimal (value (b ∷ bs)) ≡ b ∷ bs
unfolding value_from all_digits
from_first b bs z h =
    let q = and_both (is_digit b) (all_digits bs) h in
    let r = digit_is b q.0 in
    let e : digit (10 * 0 + (b - digit 0)) ≡ b = omega (arith, r.0, r.1) in
    decimal_from (10 * 0 + (b - digit 0)) bs (omega (arith, r.0, r.1, z)) q.1
    ∙ rw (decimal_small (10 * 0 + (b - digit 0)) (omega (arith, r.0, r.1)), e)

from_digit : (b : ℕ) → is_digit b ≡ true → decimal (value (b ∷ [])) ≡ b ∷ []
unfolding value_from
from_digit b h =
    let r = digit_is b h in
    let e : digit (10 * 0 + (b - digit 0)) ≡ b = omega (arith, r.0, r.1) in
    rw (decimal_small (10 * 0 + (b - digit 0)) (omega (arith, r.0, r.1)), e)

pub one_way : (w : List ℕ) → is_number w ≡ true → decimal (value w) ≡ w
unfolding is_number leads all_digits
one_way [] h = clash h refl
one_way (b ∷ []) h = from_digit b (and_both (is_digit b) true (and_both (all_digits (b ∷ [])) true h).0).0
one_way (b ∷ c ∷ bs) h =
    let p = and_both (all_digits (b ∷ c ∷ bs)) (not (eqb b (digit 0))) h in
    from_first b (c ∷ bs) (eqb-false b (digit 0) (nots (eqb b (digit 0)) p.1)) p.0

-- ---- how long it is

pub length_small : (n : ℕ) → n < 10 → length (decimal n) ≡ 1
length_small n h = rw (decimal_small n h)

pub length_large : (n : ℕ) → 10 ≤ n → length (decimal n) ≡ length (decimal (n / 10)) + 1
length_large n h = rw (decimal_large n h, length-append)

pub length_at : (n k : ℕ) → 10 ^ k ≤ n → n < 10 * 10 ^ k → length (decimal n) ≡ k + 1
length_at n zero l h = length_small n (omega arith)
length_at n (suc k) l h =
    let e : 10 ^ suc k ≡ 10 ^ k * 10 = pow-suc 10 k in
    rw (length_large n (omega (arith, e, one-le-pow 10 k))) (omega (arith, length_at (n / 10) k (omega (arith, e)) (omega (arith, e))))

-- 1, 10, 100, ..
abbrev tens : ℕ → ℕ
tens zero = 1
tens (suc k) = 10 * tens k

decimal_fits : (k n : ℕ) → n < tens (suc k) → length (decimal n) ≤ suc k
decimal_fits zero n h = rw (decimal_small n (omega arith)) (omega arith)
decimal_fits (suc k) n h = go (ltb n 10) refl (decimal_fits k (n / 10) (omega arith))
  where
    go : (b : Bool) → ltb n 10 ≡ b → length (decimal (n / 10)) ≤ suc k → length (decimal n) ≤ suc (suc k)
    go true e rest = rw (decimal_small n (ltb-true n 10 e)) (omega arith)
    go false e rest = rw (decimal_large n (ltb-false n 10 e), length-append) (omega (arith, rest))

-- a number of 64 bits has at most 20 digits, one of 32 bits at most 10, a byte at most 3, a number below 100 at most 2
pub wide_short : (n : ℕ) → n < 18446744073709551616 → length (decimal n) ≤ 20
wide_short n h = decimal_fits 19 n (omega arith)

pub decimal_short : (n : ℕ) → n < 4294967296 → length (decimal n) ≤ 10
decimal_short n h = decimal_fits 9 n (omega arith)

pub byte_short : (n : ℕ) → n < 256 → length (decimal n) ≤ 3
byte_short n h = decimal_fits 2 n (omega arith)

pub pair_short : (n : ℕ) → n < 100 → length (decimal n) ≤ 2
pair_short n h = decimal_fits 1 n (omega arith)
