-- Laws of reading a number, one byte a turn. Assumes nothing.
use mathlib.Core.Path.{◌≡◌, refl, ap}
use mathlib.Core.Bool.{Bool, true, false, not, cond, ◌&&◌}
use mathlib.Core.List.{List, [], ◌∷◌}
use mathlib.Core.Logic.{◌⊎◌, inl, inr}
use Prim.Native.Nat.{ℕ, suc, ◌+◌, ◌-◌, ◌*◌, ◌≤◌, ◌<◌}
use native.Mathlib.Omega.{arith}
use native.Mathlib.Numerals.{add-one}
use lib.Dec.{eqb, leb}
use lib.ListN.{length, get_or, drop, drop_of_length-le}
use lib.Seq.{drop-cons}
use borrow.Author.Tests.{le-leb, leb-true, leb-false, lt-leb}
use Rattle.base.proofs.Bools.{known}
use Rattle.std.proofs.Common.{Result, Ok, Err}
use Rattle.text.specs.declared.Misread.{Misread}
use Rattle.text.specs.declared.Misread.TheVariants.{TooLarge, NoNumber}
use Rattle.text.specs.Decimal.{digit, is_digit, all_digits, leads, is_number, value_from, value, numeral, over, capped}

-- ---- the first digit

pub leads_none : (w : List ℕ) → length w ≡ 0 → leads w ≡ false
unfolding leads
leads_none [] h = refl
leads_none (b ∷ bs) h = absurd (omega arith)

pub leads_one : (w : List ℕ) → length w ≡ 1 → leads w ≡ true
unfolding leads
leads_one [] h = absurd (omega arith)
leads_one (b ∷ []) h = refl
leads_one (b ∷ c ∷ bs) h = absurd (omega arith)

pub leads_long : (w : List ℕ) → 2 ≤ length w → leads w ≡ not (eqb (get_or w 0 0) (digit 0))
unfolding leads
leads_long [] h = absurd (omega arith)
leads_long (b ∷ []) h = absurd (omega arith)
leads_long (b ∷ c ∷ bs) h = refl

-- ---- the number, as far as 2^32

grows : (v : ℕ) (w : List ℕ) → v ≤ value_from v w
unfolding value_from
grows v [] = omega arith
grows v (b ∷ bs) = omega (arith, grows (10 * v + (b - digit 0)) bs)

capped_from : (v : ℕ) (w : List ℕ) → capped (value_from (capped v) w) ≡ capped (value_from v w)
capped_from v w = go (known (leb v over))
  where
    go : (leb v over ≡ true) ⊎ (leb v over ≡ false) → capped (value_from (capped v) w) ≡ capped (value_from v w)
    go (inl e) = let l = leb-true v over e in let f : capped v ≡ v = omega (arith, l) in rw f
    go (inr e) =
        let l = leb-false v over e in
        let f : capped v ≡ over = omega (arith, l) in
        rw f (omega (arith, l, grows over w, grows v w))

-- what stands behind the number v, read
abbrev pub read : ℕ → List ℕ → Result ℕ Misread
read v w = cond (all_digits w) (Ok (capped (value_from v w))) (Err NoNumber)

pub read_end : (w : List ℕ) (k v : ℕ) → length w ≤ k → v ≤ over → Ok v ≡ read v (drop k w)
unfolding value_from all_digits
read_end w k v h l = let e : v ≡ capped v = omega arith in rw (drop_of_length-le w h) (ap Ok e)

module _ (w : List ℕ) (k v : ℕ) (h : k < length w) where
  abbrev pub byte : ℕ
  byte = get_or w k 0

  -- the number with byte k behind it, and what one byte gives
  abbrev pub more : ℕ
  more = 10 * v + (byte - digit 0)

  abbrev pub next : Result ℕ Misread
  next = cond (is_digit byte) (Ok (capped more)) (Err NoNumber)

  -- what the bytes from k on give
  abbrev whole : (d : Bool) → Result ℕ Misread
  whole d = cond (d && all_digits (drop (suc k) w)) (Ok (capped (value_from more (drop (suc k) w)))) (Err NoNumber)

  pub read_next : (u : ℕ) → Ok u ≡ next → (u ≤ over) × (read u (drop (k + 1) w) ≡ read v (drop k w))
  unfolding value_from all_digits
  read_next u e = rw (drop-cons w k 0 h, add-one k) (go (is_digit byte) e)
    where
      go : (d : Bool) → Ok u ≡ cond d (Ok (capped more)) (Err NoNumber) → (u ≤ over) × (read u (drop (suc k) w) ≡ whole d)
      go true e = let f : u ≡ capped more = cc in (omega (arith, f), rw (f, capped_from more (drop (suc k) w)))
      go false e = absurd cc

  pub read_none : (e : Misread) → Err e ≡ next → Err e ≡ read v (drop k w)
  unfolding value_from all_digits
  read_none e f = rw (drop-cons w k 0 h) (go (is_digit byte) f)
    where
      go : (d : Bool) → Err e ≡ cond d (Ok (capped more)) (Err NoNumber) → Err e ≡ whole d
      go true f = absurd cc
      go false f = f

-- ---- what the tests and the number tell

module _ (w : List ℕ) (largest : ℕ) where
  pub no_lead : leads w ≡ false → Err NoNumber ≡ numeral largest w
  unfolding numeral is_number
  no_lead e = rw e (go (all_digits w))
    where
      go : (d : Bool) → Err NoNumber ≡ cond (d && false) (cond (leb (value w) largest) (Ok (value w)) (Err TooLarge)) (Err NoNumber)
      go true = refl
      go false = refl

  pub no_digits : (e : Misread) → Err e ≡ read 0 w → Err e ≡ numeral largest w
  unfolding numeral is_number
  no_digits e h = go (all_digits w) h
    where
      go : (d : Bool) → Err e ≡ cond d (Ok (capped (value w))) (Err NoNumber)
          → Err e ≡ cond (d && leads w) (cond (leb (value w) largest) (Ok (value w)) (Err TooLarge)) (Err NoNumber)
      go true h = absurd cc
      go false h = h

  module _ (v : ℕ) (h : Ok v ≡ read 0 w) where
    are_digits : (all_digits w ≡ true) × (v ≡ capped (value w))
    are_digits = go (all_digits w) h
      where
        go : (d : Bool) → Ok v ≡ cond d (Ok (capped (value w))) (Err NoNumber) → (d ≡ true) × (v ≡ capped (value w))
        go true h = (refl, cc)
        go false h = absurd cc

    module _ (l : leads w ≡ true) (small : largest < over) where
      pub too_large : largest < v → Err TooLarge ≡ numeral largest w
      unfolding numeral is_number
      too_large h = let f : leb (value w) largest ≡ false = lt-leb (value w) largest (omega (arith, are_digits.1)) in rw (are_digits.0, l, f)

      pub a_number : v ≤ largest → Ok v ≡ numeral largest w
      unfolding numeral is_number
      a_number h =
          let g : v ≡ value w = omega (arith, are_digits.1) in
          let f : leb (value w) largest ≡ true = le-leb (value w) largest (omega (arith, g)) in
          rw (are_digits.0, l, f) (ap Ok g)
