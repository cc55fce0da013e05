-- Sets of numbers below 64 as the bits of one number: and, or, one bit, none, all, a part after another. Assumes nothing.
use mathlib.Core.Path.{◌≡◌, refl, sym, ◌∙◌, ap}
use mathlib.Core.Logic.{◌⊎◌, inl, inr}
use mathlib.Core.Bool.{Bool, true, false, not, cond, ◌&&◌, ◌||◌}
use Prim.Native.Nat.{ℕ, zero, suc, ◌+◌, ◌-◌, ◌*◌, ◌/◌, ◌%◌, ◌^◌, ◌≤◌, ◌<◌}
use native.Mathlib.Nat.{pow-suc, one-mul, add-mul, div-one}
use native.Mathlib.Omega.{arith}
use native.Mathlib.Numerals.{add-one}
use lib.Dec.{eqb}
use lib.Bits.{bit_and, bit_or, bit_xor, and_block, or_block, xor_block, or_shifted_r, or_zero_r, and_mask}
use lib.Count.{under, count_trailing_zeros}
use lib.Pow.{pow_pos, pow-add, shl_exact, shr-shr, high, low}
use borrow.Author.Tests.{eq-eqb, ne_eqb}
use Rattle.base.specs.Words.{first}
use Rattle.base.specs.Masks.{word_bits, has_bit, mask_of}
use Rattle.base.proofs.Numbers.{below, zero_or, first_is, first_none}

unfoldable pub bit_of : Bool → ℕ
bit_of b = cond b 1 0

pub mask_lt : (p : ℕ → Bool) (n : ℕ) → mask_of p n < 2 ^ n
unfolding mask_of
mask_lt p zero = omega arith
mask_lt p (suc k) = go (p k) (mask_lt p k)
  where
    go : (b : Bool) → mask_of p k < 2 ^ k → mask_of p k + cond b (2 ^ k) 0 < 2 ^ suc k
    go true h = omega (arith, pow-suc 2 k)
    go false h = omega (arith, pow-suc 2 k)

-- the highest bit and the rest
top : (p : ℕ → Bool) (k : ℕ) → mask_of p (suc k) ≡ bit_of (p k) * 2 ^ k + mask_of p k
unfolding mask_of bit_of
top p k = go (p k)
  where
    go : (b : Bool) → mask_of p k + cond b (2 ^ k) 0 ≡ cond b 1 0 * 2 ^ k + mask_of p k
    go true = omega arith
    go false = omega arith

pub mask_start : (p : ℕ → Bool) → mask_of p 0 ≡ 0
unfolding mask_of
mask_start p = refl

pub mask_next : (p : ℕ → Bool) (k m : ℕ) (b : Bool) → m ≡ mask_of p k → b ≡ p k → m + cond b (2 ^ k) 0 ≡ mask_of p (k + 1)
unfolding mask_of
mask_next p k m b e f = rw (add-one, e, f)

pub mask_ext : (p q : ℕ → Bool) (n : ℕ) → ((j : ℕ) → j < n → p j ≡ q j) → mask_of p n ≡ mask_of q n
unfolding mask_of
mask_ext p q zero h = refl
mask_ext p q (suc k) h = rw (h k (omega arith), mask_ext p q k (λ j l. h j (omega arith)))

and_bits : (a b : Bool) → bit_and (bit_of a) (bit_of b) ≡ bit_of (a && b)
unfolding bit_of
and_bits true true = refl
and_bits true false = refl
and_bits false b = refl

pub and_masks : (p q : ℕ → Bool) (n : ℕ) → bit_and (mask_of p n) (mask_of q n) ≡ mask_of (λ j. p j && q j) n
unfolding mask_of
and_masks p q zero = refl
and_masks p q (suc k) =
    rw (top p k, top q k, top (λ j. p j && q j) k)
    (and_block k (bit_of (p k)) (bit_of (q k)) (mask_of p k) (mask_of q k) (mask_lt p k) (mask_lt q k)
    ∙ rw (and_masks p q k) (ap (λ (b : ℕ). b * 2 ^ k + mask_of (λ j. p j && q j) k) (and_bits (p k) (q k))))

or_bits : (a b : Bool) → bit_or (bit_of a) (bit_of b) ≡ bit_of (a || b)
unfolding bit_of
or_bits true true = refl
or_bits true false = refl
or_bits false true = refl
or_bits false false = refl

pub or_masks : (p q : ℕ → Bool) (n : ℕ) → bit_or (mask_of p n) (mask_of q n) ≡ mask_of (λ j. p j || q j) n
unfolding mask_of
or_masks p q zero = refl
or_masks p q (suc k) =
    rw (top p k, top q k, top (λ j. p j || q j) k)
    (or_block k (bit_of (p k)) (bit_of (q k)) (mask_of p k) (mask_of q k) (mask_lt p k) (mask_lt q k)
    ∙ rw (or_masks p q k) (ap (λ (b : ℕ). b * 2 ^ k + mask_of (λ j. p j || q j) k) (or_bits (p k) (q k))))

unfoldable pub differs : Bool → Bool → Bool
differs a b = cond a (not b) b

xor_bits : (a b : Bool) → bit_xor (bit_of a) (bit_of b) ≡ bit_of (differs a b)
unfolding bit_of differs
xor_bits true true = refl
xor_bits true false = refl
xor_bits false true = refl
xor_bits false false = refl

pub xor_masks : (p q : ℕ → Bool) (n : ℕ) → bit_xor (mask_of p n) (mask_of q n) ≡ mask_of (λ j. differs (p j) (q j)) n
unfolding mask_of
xor_masks p q zero = refl
xor_masks p q (suc k) =
    rw (top p k, top q k, top (λ j. differs (p j) (q j)) k)
    (xor_block k (bit_of (p k)) (bit_of (q k)) (mask_of p k) (mask_of q k) (mask_lt p k) (mask_lt q k)
    ∙ rw (xor_masks p q k) (ap (λ (b : ℕ). b * 2 ^ k + mask_of (λ j. differs (p j) (q j)) k) (xor_bits (p k) (q k))))

pub mask_none : (p : ℕ → Bool) (n : ℕ) → ((j : ℕ) → j < n → p j ≡ false) → mask_of p n ≡ 0
unfolding mask_of
mask_none p zero h = refl
mask_none p (suc k) h = rw (h k (omega arith), mask_none p k (λ j l. h j (omega arith)))

pub mask_some : (p : ℕ → Bool) (n i : ℕ) → i < n → p i ≡ true → 2 ^ i ≤ mask_of p n
unfolding mask_of
mask_some p zero i l e = absurd (omega arith)
mask_some p (suc k) i l e = go (below i k l) (mask_some p k i)
  where
    go : (i ≡ k) ⊎ (i < k) → (i < k → p i ≡ true → 2 ^ i ≤ mask_of p k) → 2 ^ i ≤ mask_of p k + cond (p k) (2 ^ k) 0
    go (inl q) ih = rw (← q, e) (omega arith)
    go (inr q) ih = omega (arith, ih q e)

pub one_bit_lem : (n i : ℕ) → i < n → mask_of (λ j. eqb j i) n ≡ 2 ^ i
unfolding mask_of
one_bit_lem zero i l = absurd (omega arith)
one_bit_lem (suc k) i l = go (below i k l) (one_bit_lem k i)
  where
    go : (i ≡ k) ⊎ (i < k) → (i < k → mask_of (λ j. eqb j i) k ≡ 2 ^ i) → mask_of (λ j. eqb j i) k + cond (eqb k i) (2 ^ k) 0 ≡ 2 ^ i
    go (inl q) ih = rw (mask_none (λ j. eqb j i) k (λ j h. ne_eqb j i (λ z. omega arith)), eq-eqb k i (sym q), q) (omega arith)
    go (inr q) ih = rw (ih q, ne_eqb k i (λ z. omega arith)) (omega arith)

-- no bit is set where none passes
pub mask_zero : (p : ℕ → Bool) (n : ℕ) → eqb (mask_of p n) 0 ≡ eqb (first p n) 0
mask_zero p n = go (zero_or (first p n))
  where
    go : (first p n ≡ 0) ⊎ ((k : ℕ) × (first p n ≡ suc k)) → eqb (mask_of p n) 0 ≡ eqb (first p n) 0
    go (inl e) = rw (e, mask_none p n (first_none p n e))
    go (inr w) =
        let t = first_is p n w.0 w.1 in
        ne_eqb (mask_of p n) 0 (λ z. omega (arith, mask_some p n w.0 t.0 t.1, pow_pos w.0)) ∙ sym (ne_eqb (first p n) 0 (λ z. omega (arith, w.1)))

-- those below m, and then those from m on
pub mask_append : (p : ℕ → Bool) (m k : ℕ) → mask_of p (m + k) ≡ mask_of (λ j. p (m + j)) k * 2 ^ m + mask_of p m
unfolding mask_of
mask_append p m zero = let e : m + 0 ≡ m = omega arith in rw e (omega arith)
mask_append p m (suc k) =
    let e : m + suc k ≡ suc (m + k) = omega arith in
    let f : m + k ≡ k + m = omega arith in
    rw e (go (p (m + k)) (ap (λ (x : ℕ). 2 ^ x) f ∙ pow-add 2 k m) (mask_append p m k))
  where
    high : ℕ
    high = mask_of (λ j. p (m + j)) k

    go : (b : Bool) → 2 ^ (m + k) ≡ 2 ^ k * 2 ^ m → mask_of p (m + k) ≡ high * 2 ^ m + mask_of p m
        → mask_of p (m + k) + cond b (2 ^ (m + k)) 0 ≡ (high + cond b (2 ^ k) 0) * 2 ^ m + mask_of p m
    go true f ih = omega (arith, add-mul high (2 ^ k) (2 ^ m))
    go false f ih = omega (arith, add-mul high 0 (2 ^ m))

pub mask_all : (n : ℕ) → mask_of (λ k. true) n ≡ 2 ^ n - 1
unfolding mask_of
mask_all zero = refl
mask_all (suc k) = rw (mask_all k) (omega (arith, pow-suc 2 k, pow_pos k))

-- bit j, set or not, is set
pub bit_set : (m j : ℕ) (b : Bool) → m < 2 ^ j → bit_or (m + cond b (2 ^ j) 0) (2 ^ j) ≡ m + 2 ^ j
unfolding bit_of
bit_set m j b l =
    let e : 2 ^ j ≡ 1 * 2 ^ j + 0 = omega arith in
    ap (λ (x : ℕ). bit_or x (2 ^ j)) (go b) ∙ ap (bit_or (bit_of b * 2 ^ j + m)) e
    ∙ or_block j (bit_of b) 1 m 0 l (pow_pos j)
    ∙ rw (or_bits b true, or_zero_r) (last b)
  where
    go : (b : Bool) → m + cond b (2 ^ j) 0 ≡ bit_of b * 2 ^ j + m
    go true = omega arith
    go false = omega arith

    last : (b : Bool) → bit_of (b || true) * 2 ^ j + m ≡ m + 2 ^ j
    last true = omega arith
    last false = omega arith

-- ---- the bits of a number

-- all but the lowest are those of its half
bit_half : (x j : ℕ) → has_bit x (suc j) ≡ has_bit (x / 2) j
unfolding has_bit
bit_half x j = let e : 1 + j ≡ suc j = omega arith in rw (shr-shr x 1 j, e)

low_bit : (x : ℕ) → has_bit x 0 ≡ eqb (x % 2) 1
unfolding has_bit
low_bit x = rw (div-one x)

bit_lt : (b : Bool) → bit_of b < 2 ^ 1
unfolding bit_of
bit_lt true = omega arith
bit_lt false = omega arith

-- the lowest, and the others
mask_one : (p : ℕ → Bool) → mask_of p 1 ≡ bit_of (p 0)
unfolding mask_of bit_of
mask_one p = go (p 0)
  where
    go : (b : Bool) → 0 + cond b (2 ^ 0) 0 ≡ cond b 1 0
    go true = omega arith
    go false = omega arith

mask_low : (p : ℕ → Bool) (k : ℕ) → mask_of p (suc k) ≡ mask_of (λ j. p (suc j)) k * 2 ^ 1 + bit_of (p 0)
mask_low p k =
    let e : suc k ≡ 1 + k = omega arith in
    ap (mask_of p) e ∙ mask_append p 1 k
    ∙ rw (mask_one p) (ap (λ (x : ℕ). x * 2 ^ 1 + bit_of (p 0))
    (mask_ext (λ j. p (1 + j)) (λ j. p (suc j)) k (λ j h. let g : 1 + j ≡ suc j = omega arith in ap p g)))

-- a mask has the bits that it is made of
pub mask_has : (p : ℕ → Bool) (n j : ℕ) → j < n → has_bit (mask_of p n) j ≡ p j
unfolding bit_of
mask_has p zero j l = absurd (omega arith)
mask_has p (suc k) zero l = low_bit (mask_of p (suc k)) ∙ rw (mask_low p k, low (mask_of (λ j. p (suc j)) k) 1 (bit_lt (p 0))) (go (p 0))
  where
    go : (b : Bool) → eqb (bit_of b) 1 ≡ b
    go true = refl
    go false = refl
mask_has p (suc k) (suc j) l =
    bit_half (mask_of p (suc k)) j
    ∙ rw (mask_low p k, high (mask_of (λ j. p (suc j)) k) 1 (bit_lt (p 0))) (mask_has (λ j. p (suc j)) k j (omega arith))

-- and every number is such a mask
pub has_mask : (n x : ℕ) → x < 2 ^ n → mask_of (has_bit x) n ≡ x
unfolding bit_of
has_mask zero x l = rw (mask_start (has_bit x)) (omega arith)
has_mask (suc k) x l =
    mask_low (has_bit x) k
    ∙ rw (mask_ext (λ j. has_bit x (suc j)) (has_bit (x / 2)) k (λ j h. bit_half x j), has_mask k (x / 2) (omega (arith, pow-suc 2 k)), low_bit x)
    (go (x % 2) refl)
  where
    go : (d : ℕ) → x % 2 ≡ d → x / 2 * 2 ^ 1 + bit_of (eqb d 1) ≡ x
    go zero e = omega arith
    go (suc zero) e = omega arith
    go (suc (suc d)) e = absurd (omega arith)

-- a number's trailing zeros end at its lowest bit
pub trailing_bit : (k x : ℕ) → 0 < x → x < 2 ^ k → (has_bit x (count_trailing_zeros k x) ≡ true) × ((j : ℕ) → j < count_trailing_zeros k x → has_bit x j ≡ false)
unfolding count_trailing_zeros
trailing_bit zero x h l = absurd (omega arith)
trailing_bit (suc k) x h l = go (x % 2) refl (trailing_bit k (x / 2))
  where
    go : (d : ℕ) → x % 2 ≡ d
        → (0 < x / 2 → x / 2 < 2 ^ k → (has_bit (x / 2) (count_trailing_zeros k (x / 2)) ≡ true) × ((j : ℕ) → j < count_trailing_zeros k (x / 2) → has_bit (x / 2) j ≡ false))
        → (has_bit x (under d (count_trailing_zeros k (x / 2))) ≡ true) × ((j : ℕ) → j < under d (count_trailing_zeros k (x / 2)) → has_bit x j ≡ false)
    go zero e ih =
        let t = ih (omega arith) (omega (arith, pow-suc 2 k)) in
        (bit_half x (count_trailing_zeros k (x / 2)) ∙ t.0, below_is t.1)
      where
        below_is : ((j : ℕ) → j < count_trailing_zeros k (x / 2) → has_bit (x / 2) j ≡ false) → (j : ℕ) → j < suc (count_trailing_zeros k (x / 2)) → has_bit x j ≡ false
        below_is u zero m = low_bit x ∙ rw e
        below_is u (suc j) m = bit_half x j ∙ u j (omega arith)
    go (suc d) e ih = let f : x % 2 ≡ 1 = omega arith in (low_bit x ∙ rw f, λ j m. absurd (omega arith))

-- ---- as the code has it: `1 << j` in 64 bits

abbrev pub one_bit : ℕ → ℕ
one_bit j = (1 * 2 ^ j) % 2 ^ word_bits

pub shifted : (j : ℕ) → j < word_bits → one_bit j ≡ 2 ^ j
shifted j h = shl_exact {a = 1} 1 j word_bits (omega arith) (omega arith) ∙ one-mul (2 ^ j)

pub shifted_byte : (j : ℕ) → j < 8 → (1 * 2 ^ j) % 2 ^ 8 ≡ 2 ^ j
shifted_byte j h = shl_exact {a = 1} 1 j 8 (omega arith) (omega arith) ∙ one-mul (2 ^ j)

-- and `mask | bits << m`: k more numbers
pub bits_in : (p : ℕ → Bool) (m k : ℕ) → k + m ≤ word_bits
    → bit_or (mask_of p m) ((mask_of (λ j. p (m + j)) k * 2 ^ m) % 2 ^ word_bits) ≡ mask_of p (m + k)
bits_in p m k h =
    rw (shl_exact {a = mask_of (λ j. p (m + j)) k} k m word_bits (mask_lt (λ j. p (m + j)) k) h)
    (or_shifted_r (mask_of (λ j. p (m + j)) k) m (mask_of p m) (mask_lt p m) ∙ sym (mask_append p m k))

pub bit_in : (m j : ℕ) → j < word_bits → m < 2 ^ j → bit_or m (one_bit j) ≡ m + 2 ^ j
bit_in m j h l = rw (shifted j h) (ap (bit_or m) (sym (one-mul (2 ^ j))) ∙ or_shifted_r 1 j m l ∙ omega arith)

pub bit_is : (x j : ℕ) → eqb (bit_and (x / 2 ^ j) 1) 1 ≡ has_bit x j
unfolding has_bit
bit_is x j = rw (and_mask (x / 2 ^ j) 1)
